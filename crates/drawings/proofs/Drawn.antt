-- The parts of a drawing, one after another.
use Rattle.drawings.proofs.Names.{◌++◌, ◌≡◌, Adds, append_assoc, AreFilled, AreLabels, AreWhiskers, codes, IsFooter, List, Mark, markup, refl}
use Rattle.drawings.proofs.Names.{Stop, ℕ}
use Rattle.dmis_program.specs.declared.features.Wanted.{Wanted}
use Rattle.drawings.specs.Drawing.{head_text, IsDrawingOf}
use Rattle.drawings.specs.Pictures.{picture_text}
use Rattle.drawings.specs.Placing.{AreViews}
use Rattle.drawings.specs.Stops.{shown_stops}
use Rattle.drawings.specs.Title.{TitleTexts}
use Rattle.drawings.specs.declared.extents.Extents.{Extents}
use Rattle.drawings.specs.declared.placing.Views.{Views}
use Rattle.drawings.specs.declared.seen.Seen.{Seen}
use Rattle.drawings.specs.declared.whiskers.Whiskers.{Whiskers}

six : (old head labels plan front footer end : List ℕ) → (((((old ++ head) ++ labels) ++ plan) ++ front) ++ footer) ++ end
    ≡ old ++ (head ++ (labels ++ (plan ++ (front ++ (footer ++ end)))))
six old head labels plan front footer end = simp append_assoc

joined : (old head labels plan front footer end headed labelled planned pictured footed new : List ℕ) → headed ≡ old ++ head
    → labelled ≡ headed ++ labels → planned ≡ labelled ++ plan → pictured ≡ planned ++ front → footed ≡ pictured ++ footer
    → new ≡ footed ++ end → new ≡ old ++ (head ++ (labels ++ (plan ++ (front ++ (footer ++ end)))))
joined old head labels plan front footer end headed labelled planned pictured footed new h l p f t e =
    rw e (rw t (rw f (rw p (rw l (rw h (six old head labels plan front footer end))))))

pub drawn : (title : TitleTexts) (stops : List Stop) (seen : List Seen) (marks : List Mark) (wanted : List Wanted) (extents : Extents) (views : Views) (w : Whiskers)
    (old headed labelled planned pictured footed new : List ℕ) → AreFilled (shown_stops stops) extents → AreViews extents views → AreWhiskers stops w
    → headed ≡ old ++ head_text title → Adds (AreLabels views.plan marks wanted) headed labelled
    → planned ≡ labelled ++ picture_text views.plan w stops seen → pictured ≡ planned ++ picture_text views.front w stops seen
    → Adds (IsFooter views.plan.scale w stops) pictured footed → new ≡ footed ++ markup (codes "</svg>\n")
    → Adds (IsDrawingOf title stops seen marks wanted) old new
drawn title stops seen marks wanted extents views w old headed labelled planned pictured footed new filled viewed whiskered h l p f t e = record {
  text = head_text title ++ (l.text ++ (picture_text views.plan w stops seen ++ (picture_text views.front w stops seen ++ (t.text ++ markup (codes "</svg>\n")))));
  is = record {
    extents = extents;
    filled = filled;
    views = views;
    views_are = viewed;
    whiskers = w;
    whiskers_are = whiskered;
    labels = l.text;
    labels_are = l.is;
    footer = t.text;
    footer_is = t.is;
    is = refl;
  };
  added = joined old (head_text title) l.text (picture_text views.plan w stops seen) (picture_text views.front w stops seen) t.text (markup (codes "</svg>\n"))
      headed labelled planned pictured footed new h l.added p f t.added e;
}
