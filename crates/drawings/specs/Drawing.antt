-- The whole drawing.
use Rattle.std.specs.Prelude.{◌≡◌, ℕ, List, ◌++◌, codes}
use Rattle.contact_ledger.specs.declared.features.Feature.{Feature}
use Rattle.dmis_program.specs.Meaning.{Meaning}
use Rattle.dmis_program.specs.declared.features.Wanted.{Wanted}
use Rattle.drawings.specs.Extents.{AreFilled}
use Rattle.drawings.specs.Footer.{IsFooter}
use Rattle.drawings.specs.Labels.{AreLabels}
use Rattle.drawings.specs.Named.{AreMarks}
use Rattle.drawings.specs.Pictures.{spot, picture_text}
use Rattle.drawings.specs.Seen.{AreSeen}
use Rattle.drawings.specs.Stops.{shown_stops, stops_of}
use Rattle.drawings.specs.Texts.{markup, text_start, text_end}
use Rattle.drawings.specs.Title.{TitleTexts, title_words}
use Rattle.drawings.specs.Placing.{AreViews}
use Rattle.drawings.specs.Whiskers.{AreWhiskers}
use Rattle.drawings.specs.declared.extents.Extents.{Extents}
use Rattle.drawings.specs.declared.marks.Mark.{Mark}
use Rattle.drawings.specs.declared.placing.Views.{Views}
use Rattle.drawings.specs.declared.seen.Seen.{Seen}
use Rattle.drawings.specs.declared.walk.Stop.{Stop}
use Rattle.drawings.specs.declared.whiskers.Whiskers.{Whiskers}

-- the sheet, A4 in millimetres, and its title
unfoldable pub head_text : TitleTexts → List ℕ
head_text title = markup (codes "<svg xmlns=\"http://www.w3.org/2000/svg\" width=\"297mm\" height=\"210mm\"")
    ++ (markup (codes " viewBox=\"0 0 297 210\" font-family=\"sans-serif\" font-size=\"3.5\">\n")
    ++ (markup (codes "<rect width=\"297\" height=\"210\" fill=\"#fff\"/>\n<g font-size=\"5\">\n")
    ++ (text_start (spot 10000 12000) ++ (title_words title ++ (text_end ++ markup (codes "</g>\n"))))))

-- A drawing of stops, with labels of marks, which have the names of features: the head, the labels, a plan and a front view, and the
-- footer. The views are those of what the touches fill, at one scale and with the same whiskers, and the bars are of these scales
pub record IsDrawingOf (title : TitleTexts) (stops : List Stop) (seen : List Seen) (marks : List Mark) (wanted : List Wanted) (text : List ℕ) : Type 0 where
  pub extents : Extents
  pub filled : AreFilled (shown_stops stops) extents
  pub views : Views
  pub views_are : AreViews extents views
  pub whiskers : Whiskers
  pub whiskers_are : AreWhiskers stops whiskers
  pub labels : List ℕ
  pub labels_are : AreLabels views.plan marks wanted labels
  pub footer : List ℕ
  pub footer_is : IsFooter views.plan.scale whiskers stops footer
  pub is : text ≡ head_text title ++ (labels ++ (picture_text views.plan whiskers stops seen
      ++ (picture_text views.front whiskers stops seen ++ (footer ++ markup (codes "</svg>\n")))))

-- the drawing of a program under a title, with the features that were measured first
pub record IsDrawing (title : TitleTexts) (program : Meaning) (features : List Feature) (text : List ℕ) : Type 0 where
  pub seen : List Seen
  pub seen_are : AreSeen (stops_of program.steps features) seen
  pub marks : List Mark
  pub marks_are : AreMarks program.features features marks
  pub is : IsDrawingOf title (stops_of program.steps features) seen marks program.features text
