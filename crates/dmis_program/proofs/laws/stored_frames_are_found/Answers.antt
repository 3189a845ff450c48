use Rattle.dmis_program.proofs.OffsetLemmas.{frame_found, frame_others}
use Rattle.dmis_program.proofs.laws.stored_frames_are_found.Goals as goal

pub returns-clause-found : goal.returns-clause-found
returns-clause-found c = frame_found

pub returns-clause-others : goal.returns-clause-others
returns-clause-others c = frame_others
