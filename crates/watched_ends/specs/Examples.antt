-- Outsides that break one promise each (this profile).
use Rattle.std.specs.Prelude.{ℕ, List, [], ◌∷◌, None, codes}
use Rattle.effects.specs.declared.vocabulary.Slot.TheVariants.{Up, Down, Order}
use Rattle.effects.specs.Effects.{Ask, Print, Named, Nowhere}
use Rattle.watched_ends.specs.declared.jobs.Job.TheVariants.{Ledger}
use Rattle.watched_ends.specs.Sessions.{Called}
use Rattle.watched_ends.specs.Outside.{Outside, untouched}
use Rattle.watched_ends.specs.Claims.{files, all_files}

abbrev pub called : Called
called = record { job = Ledger 1; up = codes "a"; down = codes "b"; order = None }

abbrev pub text : List ℕ
text = codes "DME-TOLD 1\n"

-- it prints before the second recording was read
abbrev pub early : Outside
early = record { opened = files called; up = []; down = []; order = []; ended = Up ∷ []; printed = text ∷ []; said = [] ∷ []; failed = [] }

-- it prints twice
abbrev pub twice : Outside
twice = record { opened = files called; up = []; down = []; order = []; ended = all_files; printed = text ∷ text ∷ []; said = [] ∷ []; failed = [] }

-- it prints, and has said nothing of what is to be noted
abbrev pub silent : Outside
silent = record { opened = files called; up = []; down = []; order = []; ended = all_files; printed = text ∷ []; said = []; failed = [] }

-- it reads one recording for the other
abbrev pub swapped : Outside
swapped = record untouched { opened = (Up, Named (codes "b")) ∷ [] }

-- all was done, but for the print
abbrev pub unprinted : Outside
unprinted = record { opened = files called; up = []; down = []; order = []; ended = all_files; printed = text ∷ []; said = [] ∷ []; failed = Print text ∷ [] }
