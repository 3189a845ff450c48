-- A summary in a form: what is printed, and what is said besides (this profile).
use Rattle.std.specs.Prelude.{ℕ, List, [], codes}
use Rattle.part_summary.specs.Batches.{Summed}
use Rattle.part_summary.specs.Pages.{page_text}
use Rattle.part_summary.specs.Tables.{table_text}
use Rattle.part_summary.specs.Texts.{head_text, summary_text}
use Rattle.part_summary.specs.declared.printed.Form.{Form}
use Rattle.part_summary.specs.declared.printed.Form.TheVariants.{Text, Csv, Html}

abbrev pub form_text : Form → List ℕ → ℕ → Summed → List ℕ
form_text Text name named s = summary_text named s
form_text Csv name named s = table_text s
form_text Html name named s = page_text name named s

-- a text has a head of its own
abbrev pub form_notes : Form → ℕ → Summed → List ℕ
form_notes Text named s = []
form_notes Csv named s = head_text (codes "dme: ") named s
form_notes Html named s = head_text (codes "dme: ") named s
