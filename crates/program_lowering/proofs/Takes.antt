-- A short list is all of its front.
use Rattle.std.proofs.lemmas.List.{take_all}

pub ruleset whole = (take_all)
