-- The parts of a page, one after another, and a page that was written into nothing.
use Rattle.std.proofs.Common.{[], ◌++◌, ◌<◌, ◌≡◌, append_assoc, arith, length, List, Option, refl, subst, sym, ℕ}
use Rattle.contact_ledger.specs.declared.features.Feature.{Feature}
use Rattle.deviations.specs.Rows.{Row}
use Rattle.dmis_program.specs.Meaning.{Meaning}
use Rattle.drawings.specs.Drawing.{IsDrawing}
use Rattle.drawings.specs.Texts.{Adds}
use Rattle.deviations.specs.declared.entries.Limit.{Limit}
use Rattle.drawings.specs.Markup.{between}
use Rattle.drawings.specs.Texts.{markup}
use Rattle.drawings.specs.BarCells.{greatest}
use Rattle.drawings.specs.Pages.{PageFacts, IsPage, page_end, page_head, summary_text, title_of}
use Rattle.drawings.specs.Sections.{sections_text}

five : (old head summary sections drawing end : List ℕ) → ((((old ++ head) ++ summary) ++ sections) ++ drawing) ++ end
    ≡ old ++ (head ++ (summary ++ (sections ++ (drawing ++ end))))
five old head summary sections drawing end = simp append_assoc

joined : (old head summary sections drawing end headed summed listed drawn new : List ℕ) → headed ≡ old ++ head → summed ≡ headed ++ summary
    → listed ≡ summed ++ sections → drawn ≡ listed ++ drawing → new ≡ drawn ++ end
    → new ≡ old ++ (head ++ (summary ++ (sections ++ (drawing ++ end))))
joined old head summary sections drawing end headed summed listed drawn new h s l d e =
    rw e (rw d (rw l (rw s (rw h (five old head summary sections drawing end)))))

module _ (facts : PageFacts) (program : Meaning) (features : List Feature) (limits : Option (List Limit)) (rows : List Row) where
  pub page_added : (text : List ℕ) → Adds (IsPage facts program features limits rows) [] text
      → IsPage facts program features limits rows text
  page_added text a = subst (IsPage facts program features limits rows) (sym a.added) a.is

  head_has_text : (part rest : List ℕ) → 0 < length (page_head part ++ rest)
  unfolding between markup
  head_has_text part rest = omega arith

  pub page_has_text : (text : List ℕ) → IsPage facts program features limits rows text → 0 < length text
  page_has_text text p = subst (λ (t : List ℕ). 0 < length t) (sym p.is) (head_has_text facts.part _)

  pub paged : (old headed summed listed drawn new : List ℕ) → headed ≡ old ++ page_head facts.part
      → summed ≡ headed ++ summary_text facts (length features) program.features limits rows
      → listed ≡ summed ++ sections_text (greatest rows) limits (length features) program.features rows → Adds (IsDrawing (title_of facts) program features) listed drawn
      → new ≡ drawn ++ page_end facts → Adds (IsPage facts program features limits rows) old new
  paged old headed summed listed drawn new h s l d e = record {
    text = page_head facts.part ++ (summary_text facts (length features) program.features limits rows
        ++ (sections_text (greatest rows) limits (length features) program.features rows ++ (d.text ++ page_end facts)));
    is = record { drawing = d.text; drawn = d.is; is = refl };
    added = joined old (page_head facts.part) (summary_text facts (length features) program.features limits rows) (sections_text (greatest rows) limits (length features) program.features rows)
        d.text (page_end facts) headed summed listed drawn new h s l d.added e;
  }
