-- When a client has been silent for too long (this profile). Times are in milliseconds.
use Rattle.std.specs.Prelude.{ℕ, ◌/◌, Bool, true, false, if◌then◌else◌, List, Option, Some, None, nat_lt}
use Rattle.session_telling.specs.Arriving.{seen_after_all, ends_asked}
use Rattle.session_telling.specs.declared.waits.Lapse.{Lapse}
use Rattle.session_telling.specs.declared.waits.Lapse.TheVariants.{Sent, SentOther}
use Rattle.session_telling.specs.declared.waits.Wait.{Wait}

-- since when it is waited
abbrev pub since : Option ℕ → ℕ → ℕ
since None now = now
since (Some time) now = time

abbrev pub lapse : Bool → Lapse
lapse has_come = if has_come then SentOther else Sent

-- nothing that was due has come for as many seconds as allowed
abbrev pub lapsed : Option ℕ → (passed : ℕ) → Bool → Option Lapse
lapsed None passed has_come = None
lapsed (Some seconds) passed has_come = if nat_lt (passed / 1000) seconds then None else Some (lapse has_come)

-- a wait after bytes have come: a line that was waited for begins it anew
abbrev pub came : Wait → List ℕ → Wait
came w bytes = record w {
  since = if ends_asked w.seen bytes then None else w.since;
  has_come = if ends_asked w.seen bytes then false else true;
  seen = seen_after_all w.seen bytes;
}
