-- What two recordings of a connection report, with the order between its ends, or without (this profile).
use Rattle.std.specs.Prelude.{◌≡◌, ◌≢◌, ℕ, true, false, List, [], map}
use Rattle.witness.specs.Texts.{told_text, numbered}
use Rattle.witness.specs.declared.lines.Reported.{Reported}
use Rattle.watched_ends.specs.Ledgers.{AreReportedBy}
use Rattle.watched_ends.specs.Pieces.{IsReportedIn, IsUnfit}
use Rattle.watched_ends.specs.declared.recorded.Order.{Order}
use Rattle.watched_ends.specs.declared.recorded.Order.TheVariants as order

-- the text of what they report
abbrev pub IsRecorded : (connection : ℕ) (up down bytes text : List ℕ) → Order → Type 0
IsRecorded connection up down bytes text order.Whole = IsReportedIn connection up down bytes text true
IsRecorded connection up down bytes text order.Part = IsReportedIn connection up down bytes text false
IsRecorded connection up down bytes text order.Unknown =
    (bytes ≡ []) × ((reported : List Reported) × AreReportedBy up down reported × (text ≡ told_text (map (numbered connection) reported)))
IsRecorded connection up down bytes text order.NotTheirs = (text ≡ []) × (bytes ≢ []) × IsUnfit up down bytes
