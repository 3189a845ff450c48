-- What the contacts file has stays all that the server has done.
use Rattle.std.proofs.Common.{◌≡◌, refl, sym, ap, subst, ◌∙◌, true≢false, ℕ, true, List, [], ◌∷◌, ◌++◌, drop, map, append-nil, codes}
use Rattle.std.proofs.lemmas.List.{map-append}
use Rattle.std.proofs.Math.Seq.{drop-append_seam}
use Rattle.contact_ledger.specs.Lines.{text_of}
use Rattle.contact_ledger.specs.ContactTexts.{act_line, contacts_text, contact_lines}
use Rattle.contact_ledger.specs.declared.acts.Act.{Act}
use Rattle.contact_ledger.proofs.WrittenTexts.{text_more}
use Rattle.effects.specs.Effects.{Reply}
use Rattle.services.specs.declared.stages.Stage.{Stage}
use Rattle.services.specs.Sessions.{Core, Outside, State, GoesOn, due, due_at, outcome, is_serving, Ready, IsKept, HasAllBut, IsMore, followed}

pub serving_ready : (s : Stage) (c : Core) (o : Outside) → is_serving s ≡ true → IsKept c o → Ready s c o
serving_ready Stage.Logged c o e k = absurd (true≢false (sym e))
serving_ready Stage.Looking c o e k = absurd (true≢false (sym e))
serving_ready Stage.Making c o e k = absurd (true≢false (sym e))
serving_ready Stage.Listening c o e k = absurd (true≢false (sym e))
serving_ready Stage.Discarding c o e k = absurd (true≢false (sym e))
serving_ready Stage.SettingAside c o e k = absurd (true≢false (sym e))
serving_ready Stage.Beginning c o e k = absurd (true≢false (sym e))
serving_ready Stage.Peeking c o e k = k
serving_ready Stage.Accepting c o e k = k
serving_ready Stage.Pausing c o e k = k
serving_ready Stage.Checking c o e k = k
serving_ready Stage.Timing c o e k = k
serving_ready Stage.Receiving c o e k = k
serving_ready Stage.Tracing c o e k = absurd (true≢false (sym e))
serving_ready Stage.Stamping c o e k = absurd (true≢false (sym e))
serving_ready Stage.Logging c o e k = absurd (true≢false (sym e))
serving_ready Stage.Keeping c o e k = absurd (true≢false (sym e))
serving_ready Stage.Sending c o e k = k
serving_ready Stage.Leaving c o e k = k
serving_ready Stage.Replacing c o e k = absurd (true≢false (sym e))
serving_ready Stage.Printing c o e k = absurd (true≢false (sym e))
serving_ready Stage.Saying c o e k = absurd (true≢false (sym e))
serving_ready Stage.Telling c o e k = absurd (true≢false (sym e))
serving_ready Stage.Exiting c o e k = absurd (true≢false (sym e))

-- the text of more acts
pub more_text : (front more : List (ℕ × Act)) → contacts_text (front ++ more) ≡ contacts_text front ++ text_of (map act_line more)
more_text front more = ap (λ (lines : List (List ℕ)). text_of (codes "DME-CONTACTS 1" ∷ lines)) (map-append act_line front more)
    ∙ text_more (contact_lines front) (map act_line more)

-- the server has done more, and that is to be added
pub worked_all : (c d e : Core) (o : Outside) → IsMore c.ledger d.ledger → d ≡ record c { ledger = d.ledger; broken = d.broken } → e ≡ followed d → IsKept c o
    → HasAllBut e.text e o
worked_all c d e o m h f k = subst (λ (x : Core). HasAllBut x.text x o) (sym (f ∙ ap followed (h ∙ ap (λ (l : List (ℕ × Act)). record c { ledger = l; broken = d.broken }) m.1)))
    (λ g l. (
      ap (λ (r : List (ℕ × Act)). o.safe ++ (c.text ++ text_of (map act_line r)))
          (ap (λ (n : ℕ). drop n (c.ledger ++ m.0)) ((k.all g l).1) ∙ drop-append_seam c.ledger m.0)
          ∙ (ap (λ (t : List ℕ). o.safe ++ (t ++ text_of (map act_line m.0))) (k.text g l)
          ∙ (ap (λ (t : List ℕ). t ++ text_of (map act_line m.0)) (sym (append-nil o.safe) ∙ (k.all g l).0)
          ∙ sym (more_text c.ledger m.0))),
      refl,
    ))

-- likewise, if it has done nothing that is kept
pub worked_nothing : (c d e : Core) (o : Outside) → IsMore c.ledger d.ledger → d ≡ record c { ledger = d.ledger; broken = d.broken } → e ≡ followed d → IsKept c o
    → e.text ≡ [] → IsKept e o
worked_nothing c d e o m h f k n = record {
  all = λ g l. (subst (λ (t : List ℕ). o.safe ++ t ≡ contacts_text e.ledger) n (worked_all c d e o m h f k g l).0, (worked_all c d e o m h f k g l).1);
  text = λ g l. n;
  listened = k.listened;
}

pub nothing_ready : (c d e : Core) (t : State) (o : Outside) → IsMore c.ledger d.ledger → d ≡ record c { ledger = d.ledger; broken = d.broken } → e ≡ followed d
    → IsKept c o → e.text ≡ [] → t.core ≡ e → is_serving (due t) ≡ true → Ready (due t) t.core o
nothing_ready c d e t o m h f k n g s = serving_ready (due t) t.core o s (subst (λ (x : Core). IsKept x o) (sym g) (worked_nothing c d e o m h f k n))

-- what was to be said was said
due_same : (s : Stage) → due_at s s ≡ s
due_same Stage.Logged = refl
due_same Stage.Looking = refl
due_same Stage.Making = refl
due_same Stage.Listening = refl
due_same Stage.Discarding = refl
due_same Stage.SettingAside = refl
due_same Stage.Beginning = refl
due_same Stage.Peeking = refl
due_same Stage.Accepting = refl
due_same Stage.Pausing = refl
due_same Stage.Checking = refl
due_same Stage.Timing = refl
due_same Stage.Receiving = refl
due_same Stage.Tracing = refl
due_same Stage.Stamping = refl
due_same Stage.Logging = refl
due_same Stage.Keeping = refl
due_same Stage.Sending = refl
due_same Stage.Leaving = refl
due_same Stage.Replacing = refl
due_same Stage.Printing = refl
due_same Stage.Saying = refl
due_same Stage.Telling = refl
due_same Stage.Exiting = refl

pub said_ready : (s t : State) (reply : Reply) → s.stage ≡ Stage.Saying → t ≡ record s { stage = s.next } → GoesOn s reply t
said_ready s t reply e f = λ o k. subst (λ (x : State). Ready (due x) x.core (outcome s.stage s.core reply o)) (sym f)
    (subst (λ (st : Stage). Ready (due_at s.next s.next) s.core (outcome st s.core reply o)) (sym e)
    (subst (λ (d : Stage). Ready d s.core o) (sym (due_same s.next))
    (subst (λ (st : Stage). Ready (due_at st s.next) s.core o) e k)))

pub said_due : (s t : State) → s.stage ≡ Stage.Saying → t ≡ record s { stage = s.next } → due t ≡ due s
said_due s t e f = ap due f ∙ (due_same s.next ∙ ap (λ (st : Stage). due_at st s.next) (sym e))
