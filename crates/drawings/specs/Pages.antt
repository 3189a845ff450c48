-- The page of a part (this profile): its head, its verdicts, its features, its drawing, and how to check it.
use Rattle.std.specs.Prelude.{◌≡◌, ℕ, ◌-◌, Bool, not, ◌&&◌, ◌==◌, List, [], ◌∷◌, ◌++◌, length, drop, codes, decimal, Option, Some, None}
use Rattle.std.specs.Prelude.{if◌then◌else◌}
use Rattle.std.specs.List.{flat_map}
use Rattle.contact_ledger.specs.declared.features.Feature.{Feature}
use Rattle.deviations.specs.Compared.{compared_count, out_count}
use Rattle.deviations.specs.Rows.{Row}
use Rattle.dmis_program.specs.Meaning.{Meaning}
use Rattle.dmis_program.specs.declared.features.Wanted.{Wanted}
use Rattle.drawings.specs.Drawing.{IsDrawing}
use Rattle.record_text.specs.declared.seals.SealVerdict.{SealVerdict}
use Rattle.record_text.specs.declared.seals.SealVerdict.TheVariants as seal
use Rattle.deviations.specs.declared.entries.Limit.{Limit}
use Rattle.drawings.specs.BarCells.{greatest}
use Rattle.drawings.specs.Markup.{between}
use Rattle.drawings.specs.Texts.{markup}
use Rattle.drawings.specs.Title.{TitleTexts}
use Rattle.drawings.specs.Sections.{sections_text}

-- what a page has besides its points: the part, the program, when it was complete, what the seals say, whether each feature has its run of contacts, the line
-- of that verdict, the lines of the server's errors, and those of what else the record notes
pub record PageFacts : Type 0 where
  pub part : List ℕ
  pub program : List ℕ
  pub time : List ℕ
  pub seals : SealVerdict
  pub sound : Bool
  pub verdict : List ℕ
  pub errors : List ℕ
  pub notes : List ℕ
  pub digest : List ℕ

-- how a browser shows a page, from its title to its body: light or dark as its reader has it, and also on A4
unfoldable pub style : List ℕ
style = codes "</title>\n<style>\n"
    ++ (codes ":root{color-scheme:light dark;--yes:#17733f;--no:#b3261e;--open:#8a5a00;--bar:#3b6ea5}\n"
    ++ (codes "@media screen and (prefers-color-scheme:dark){:root{--yes:#5bd08f;--no:#ff8a80;--open:#e3b341;--bar:#8ab4e8}}\n"
    ++ (codes "body{font:14px/1.4 sans-serif;max-width:64em;margin:1.5em auto;padding:0 1em}.yes,.no,.open{padding-left:.6em;"
    ++ (codes "border-left:.5em solid;margin:.4em 0}.yes{color:var(--yes)}.no{color:var(--no)}.open{color:var(--open)}\n"
    ++ (codes "table{border-collapse:collapse;width:100%;font-variant-numeric:tabular-nums}td,th{padding:0 .5em;text-align:right}\n"
    ++ (codes "td,th[colspan]{border-bottom:1px solid #8886}.out td:last-child{color:var(--no);font-weight:bold}pre{white-space:pre-wrap}\n"
    ++ (codes ".bar{width:7em;vertical-align:middle}.bar path{stroke:currentColor}.bar rect{fill:var(--bar)}\n"
    ++ (codes ".out rect{fill:var(--no)}body>svg{max-width:100%;height:auto;break-inside:avoid;margin-top:1em}\n"
    ++ (codes "h2{break-after:avoid}tr{break-inside:avoid}@page{size:A4;margin:12mm}@media print{body{font-size:8pt;padding:0}}\n"
    ++ codes "</style></head><body>\n")))))))))

-- the start of the page, with the part as its title
abbrev pub page_head : List ℕ → List ℕ
page_head part = between (codes "<!DOCTYPE html>\n<html lang=\"en\"><head><meta charset=\"utf-8\"><title>Part ") part style

-- a part is complete if as many features were measured as its program asks for
abbrev pub complete_start : ℕ → ℕ → List ℕ
complete_start measured asked =
    if measured == asked then codes "<p class=\"yes\"><b>Complete:</b> " else codes "<p class=\"no\"><b>Not complete:</b> "

-- the features after those that were measured are missing
abbrev pub missing_label : Wanted → List ℕ
missing_label w = between (codes " <b>") w.label (codes "</b> is missing.")

unfoldable pub complete_text : ℕ → List Wanted → List ℕ
complete_text measured wanted = markup (complete_start measured (length wanted)) ++ (decimal measured ++ (markup (codes " of ")
    ++ (decimal (length wanted) ++ (markup (codes " features were measured.")
    ++ (flat_map missing_label (drop measured wanted) ++ markup (codes "</p>\n"))))))

-- a part is within its limits if it is complete, each of its points is compared, and none is out
abbrev pub within_start : ℕ → ℕ → Bool → ℕ → List ℕ
within_start out compared complete others =
    if not (out == 0) then codes "<p class=\"no\"><b>Out of limits:</b> " else
    if compared == 0 then codes "<p class=\"open\"><b>Not compared with limits:</b> " else
    if complete && (others == 0) then codes "<p class=\"yes\"><b>Within limits:</b> " else
    codes "<p class=\"open\"><b>Within limits as far as compared:</b> "

-- how many points are out of limits, of how many that are compared, and how many others there are
unfoldable pub within_line : ℕ → ℕ → Bool → ℕ → List ℕ
within_line out compared complete others = markup (within_start out compared complete others) ++ (decimal out ++ (markup (codes " of ")
    ++ (decimal compared ++ (markup (codes " compared points are out, ") ++ (decimal others
    ++ markup (codes " not compared. No fit and no other tolerance was evaluated.</p>\n"))))))

abbrev pub within_text : List Limit → Bool → List Row → List ℕ
within_text limits complete rows = within_line (out_count limits rows) (compared_count limits rows) complete
    (length rows - compared_count limits rows)

abbrev pub limits_text : Option (List Limit) → Bool → List Row → List ℕ
limits_text (Some limits) complete rows = within_text limits complete rows
limits_text None complete rows = markup (codes "<p class=\"open\"><b>Not compared with limits:</b> none were named.</p>\n")

-- what the seals of the record say: only under a key, and if one stands for each line, is a record called sealed
unfoldable pub broken_start : List ℕ
broken_start = codes "<p class=\"no\"><b>Seals do not hold:</b> no true seal stands for line "

unfoldable pub broken_end : List ℕ
broken_end = codes " of the record.</p>\n"

abbrev pub broken_text : ℕ → List ℕ
broken_text line = markup broken_start ++ (decimal line ++ markup broken_end)

abbrev pub seals_text : SealVerdict → List ℕ
seals_text seal.Unsealed = markup (codes "<p class=\"open\"><b>Not sealed:</b> the record has no seal.</p>\n")
seals_text seal.Unjudged = markup (codes "<p class=\"open\"><b>Seals not checked:</b> no key was named.</p>\n")
seals_text seal.Sealed = markup (codes "<p class=\"yes\"><b>Sealed:</b> a true seal stands for each line of the record.</p>\n")
seals_text (seal.Open line) = broken_text line

-- an audit of nothing is neither good news nor bad
abbrev pub audit_start : ℕ → Bool → List ℕ
audit_start measured sound =
    if measured == 0 then codes "<p class=\"open\"><b>Nothing to audit:</b> no feature was measured. <code>" else
    if sound then codes "<p class=\"yes\"><b>Audit passed:</b> each measured feature has its run of reported contacts. <code>" else
    codes "<p class=\"no\"><b>Audit failed:</b> a measured feature has no run of reported contacts. <code>"

-- the errors that the server reported during the runs of features, if there are any
abbrev pub errors_text : List ℕ → List ℕ
errors_text [] = []
errors_text (b ∷ errors) = between (codes "<p class=\"open\"><b>The server reported errors:</b></p>\n<pre>") (b ∷ errors) (codes "</pre>\n")

-- the verdict of the audit, and those errors
abbrev pub verdict_text : PageFacts → ℕ → List ℕ
verdict_text facts measured = between (audit_start measured facts.sound) facts.verdict (codes "</code></p>\n")

unfoldable pub audit_text : PageFacts → ℕ → List ℕ
audit_text facts measured = verdict_text facts measured ++ errors_text facts.errors

-- who measured, with what, and when, if the record notes it
abbrev pub notes_text : List ℕ → List ℕ
notes_text [] = []
notes_text (b ∷ notes) = between (codes "<pre>") (b ∷ notes) (codes "</pre>\n")

abbrev pub program_line : PageFacts → List ℕ
program_line facts = between (codes "<p>Program: ") facts.program (codes "</p>\n")

unfoldable pub program_text : PageFacts → List ℕ
program_text facts = program_line facts ++ notes_text facts.notes

-- what the page says first
abbrev pub names_text : PageFacts → List ℕ
names_text facts = between (codes "<h1>Part ") facts.part (codes "</h1>\n") ++ program_text facts

unfoldable pub summary_text : PageFacts → ℕ → List Wanted → Option (List Limit) → List Row → List ℕ
summary_text facts measured wanted limits rows = names_text facts ++ (complete_text measured wanted
    ++ (limits_text limits (measured == length wanted) rows ++ (seals_text facts.seals ++ (audit_text facts measured
    ++ markup (codes "<p>Lengths are in millimetres. A bar is the deviation along the normal, to the right if there is too much material.</p>\n")))))

-- how to check the page
unfoldable pub check_calls : List ℕ
check_calls = markup (codes "<h2>How to check this page</h2>\n<p><code>dme audit --record FILE [--setup FILE] [--seal-key FILE] PROGRAM</code> audits the record again, ")
    ++ markup (codes "<code>dme export --as csv --record FILE [--setup FILE] [--limits FILE] PROGRAM</code> prints the same numbers.</p>\n")

abbrev pub digest_line : List ℕ → List ℕ
digest_line digest = between (codes "<p>SHA-256 of the record: <code>") digest (codes "</code></p>\n</body></html>\n")

abbrev pub page_end : PageFacts → List ℕ
page_end facts = check_calls ++ digest_line facts.digest

-- the title of its drawing
abbrev pub title_of : PageFacts → TitleTexts
title_of facts = record { part = facts.part; program = facts.program; time = facts.time }

-- the page of a part, with a drawing of its program and features
pub record IsPage (facts : PageFacts) (program : Meaning) (features : List Feature) (limits : Option (List Limit)) (rows : List Row)
    (text : List ℕ) : Type 0 where
  pub drawing : List ℕ
  pub drawn : IsDrawing (title_of facts) program features drawing
  pub is : text ≡ page_head facts.part ++ (summary_text facts (length features) program.features limits rows
      ++ (sections_text (greatest rows) limits (length features) program.features rows ++ (drawing ++ page_end facts)))
