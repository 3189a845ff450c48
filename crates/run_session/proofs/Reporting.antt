-- What is to be in the file of contacts is what was reported.
use Rattle.run_session.proofs.Names.{◌++◌, ◌∙◌, ◌∷◌, ◌≡◌, ◌≤◌, Act, ap, append_assoc, arith, begins, calls, confirms, Err, HasReported, IsRun, IsRunOf}
use Rattle.run_session.proofs.Names.{Growth, length, length-append, May, true, List, map, numbered, Ok, OnErr, OnOk, Pair, Ran, refl, Reports, Result, State}
use Rattle.run_session.proofs.Names.{subst, sym, take, take-append-drop, tells, ℕ, [], append-nil, drop, codes}
use Rattle.std.proofs.lemmas.List.{map-append, take-append-le, take_all}
use Rattle.contact_ledger.proofs.WrittenTexts.{text_more}
use Rattle.contact_ledger.specs.ContactTexts.{act_line, contact_lines, contacts_text}
use Rattle.contact_ledger.specs.Lines.{text_of}
use Rattle.run_session.specs.Errors.{Talk}
use Rattle.run_session.specs.Records.{AddsNotes, forgets, Marks, Origin, says}
use Rattle.run_session.proofs.Kept.{call_keeps, numbered_more}

-- a run counts more
more_counted : {b : May} (first : Pair) (v : Talk) (ps : List ℕ) (p : Pair) (t : Talk) → Ran b first v ps p t
    → (more : List Act) × (p.end.client.table.tally.counted ≡ first.end.client.table.tally.counted ++ more)
more_counted first v _ _ _ (begins ps) = ([], sym (append-nil first.end.client.table.tally.counted))
more_counted first v _ _ _ (calls ps p t u call r is free talks) =
    let before = more_counted first v ps p t r in
    let now = (call_keeps call p.end is).grows in (
      before.0 ++ now.more,
      now.acts ∙ (ap (λ (l : List Act). l ++ now.more) before.1 ∙ append_assoc first.end.client.table.tally.counted before.0 now.more),
    )
more_counted first v _ _ _ (tells ps p t u lacks errors r records lines) = more_counted first v ps p t r
more_counted first v _ _ _ (says ps p t said r can other on) = more_counted first v ps p t r
more_counted first v _ _ _ (forgets ps p t u r lost) = more_counted first v ps p t r
more_counted first v _ _ _ (confirms n ps p t r counted) = more_counted first v (n ∷ ps) p t r

within : (k : ℕ) (xs ys zs : List Act) → zs ≡ xs ++ ys → k ≤ length xs → k ≤ length zs
within k xs ys zs is few = let long = ap (λ (l : List Act). length l) is ∙ length-append xs ys in omega (arith, long, few)

pub stays_reported : {b : May} (before : List (ℕ × Act)) (qs : List ℕ) (p q : Pair) (v u : Talk) (r : Reports) → Ran b p v qs q u
    → HasReported before p r → HasReported before q r
stays_reported before qs p q v u r ran has =
    let now = more_counted p v qs q u ran in (
      within r.told p.end.client.table.tally.counted now.0 q.end.client.table.tally.counted now.1 has.0,
      has.1 ∙ ap (λ (l : List Act). contacts_text (before ++ numbered r.number l))
          (sym (take-append-le r.told p.end.client.table.tally.counted now.0 has.0) ∙ ap (λ (l : List Act). take r.told l) (sym now.1)),
    )

-- a client and its record that are later ones than those that a session was opened with, while nothing is reported
keeps_at : (w : Origin) (v s : State) (qs : List ℕ) (q : Pair) (u : Talk) → v ≡ s
    → ((first : Pair) (begun : Talk) → Ran w.may first begun v.book.pauses v.pair v.talk → Ran w.may first begun qs q u)
    → IsRunOf w s → IsRun w qs q u v.reports
keeps_at w v s qs q u is moves run =
    let at : IsRunOf w v = subst (λ (x : State). IsRunOf w x) (sym is) run in
    record {
      ran = moves w.first w.begun at.ran;
      reported = stays_reported w.before qs v.pair q v.talk u v.reports (moves v.pair v.talk (begins v.book.pauses)) at.reported;
      same = at.same;
    }

pub keeps_by : (v s : State) (qs : List ℕ) (q : Pair) (u : Talk) → v ≡ s
    → ((b : May) (first : Pair) (begun : Talk) → Ran b first begun v.book.pauses v.pair v.talk → Ran b first begun qs q u)
    → (w : Origin) → IsRunOf w s → IsRun w qs q u v.reports
keeps_by v s qs q u is moves w run = keeps_at w v s qs q u is (moves w.may) run

-- likewise, while its record gets notes
pub notes_keep : (v s : State) (h : Growth) → v ≡ s → AddsNotes v.pair.recording h → (w : Origin) → w.may.notes ≡ true → IsRunOf w s
    → IsRun w v.book.pauses (record { end = v.pair.end; recording = h }) v.talk v.reports
notes_keep v s h is adds w on run = keeps_at w v s v.book.pauses (record { end = v.pair.end; recording = h }) v.talk is
    (λ first begun ran. adds.keeps w.may first begun v.book.pauses v.pair.end v.talk on ran) run

more_text : (front more : List (ℕ × Act)) → contacts_text (front ++ more) ≡ contacts_text front ++ text_of (map act_line more)
more_text front more = ap (λ (lines : List (List ℕ)). text_of (codes "DME-CONTACTS 1" ∷ lines)) (map-append act_line front more)
    ∙ text_more (contact_lines front) (map act_line more)

least : (n : ℕ) → n ≤ n
least n = omega arith

-- those that it has counted since are added
abbrev new_reports : Reports → List Act → List ℕ
new_reports r counted = text_of (map act_line (numbered r.number (drop r.told counted)))

abbrev reported_now : List Act → Reports → Reports
reported_now counted r = record r { text = r.text ++ new_reports r counted; told = length counted }

reports_more : (before : List (ℕ × Act)) (p : Pair) (r : Reports) → HasReported before p r
    → HasReported before p (reported_now p.end.client.table.tally.counted r)
reports_more before p r has =
    let counted : List Act = p.end.client.table.tally.counted in
    let old : List (ℕ × Act) = numbered r.number (take r.told counted) in
    let new : List (ℕ × Act) = numbered r.number (drop r.told counted) in (
      least (length counted),
      ap (λ (t : List ℕ). t ++ text_of (map act_line new)) has.1
          ∙ (sym (more_text (before ++ old) new)
          ∙ ap contacts_text (append_assoc before old new
          ∙ ap (λ (l : List (ℕ × Act)). before ++ l) (sym (numbered_more r.number (take r.told counted) (drop r.told counted))
          ∙ ap (numbered r.number) (take-append-drop r.told counted ∙ sym (take_all (length counted) counted (least (length counted))))))),
    )

same_reports : (before : List (ℕ × Act)) (p : Pair) (r q : Reports) → q.number ≡ r.number → q.told ≡ r.told → q.text ≡ r.text
    → HasReported before p r → HasReported before p q
same_reports before p r q number told text has = (
  subst (λ (k : ℕ). k ≤ length p.end.client.table.tally.counted) (sym told) has.0,
  text ∙ (has.1 ∙ (ap (λ (n : ℕ). contacts_text (before ++ numbered n (take r.told p.end.client.table.tally.counted))) (sym number)
      ∙ ap (λ (k : ℕ). contacts_text (before ++ numbered q.number (take k p.end.client.table.tally.counted))) (sym told))),
)

-- or memory runs out for it
pub tells_reports : {A E : Type 0} (r : Result A E) (v s : State) (text : List ℕ) (told : ℕ) (k : Marks) → v ≡ s
    → OnOk r (text ≡ v.reports.text ++ new_reports v.reports v.pair.end.client.table.tally.counted)
    → OnOk r (told ≡ length v.pair.end.client.table.tally.counted) → OnErr r (text ≡ v.reports.text) → OnErr r (told ≡ v.reports.told)
    → k ≡ v.reports.marks → (w : Origin) → IsRunOf w s
    → IsRun w v.book.pauses v.pair v.talk (record (v.reports) { text = text; told = told; marks = k })
tells_reports r v s text told k is more all same none marks w run =
    let at : IsRunOf w v = subst (λ (x : State). IsRunOf w x) (sym is) run in
    record { ran = at.ran; reported = either r more all same none at.reported; same = marks ∙ at.same }
  where
    either : {A E : Type 0} (r : Result A E) → OnOk r (text ≡ v.reports.text ++ new_reports v.reports v.pair.end.client.table.tally.counted)
        → OnOk r (told ≡ length v.pair.end.client.table.tally.counted) → OnErr r (text ≡ v.reports.text) → OnErr r (told ≡ v.reports.told)
        → HasReported w.before v.pair v.reports → HasReported w.before v.pair (record (v.reports) { text = text; told = told; marks = k })
    either (Ok a) more all same none has = same_reports w.before v.pair (reported_now v.pair.end.client.table.tally.counted v.reports)
        (record (v.reports) { text = text; told = told; marks = k }) refl all more (reports_more w.before v.pair v.reports has)
    either (Err e) more all same none has = same_reports w.before v.pair v.reports
        (record (v.reports) { text = text; told = told; marks = k }) refl none same has

-- all that was counted is in it once as many are known
pub all_reported : (before : List (ℕ × Act)) (s : State) → HasReported before s.pair s.reports
    → s.reports.told ≡ length s.pair.end.client.table.tally.counted
    → s.reports.text ≡ contacts_text (before ++ numbered s.reports.number s.pair.end.client.table.tally.counted)
all_reported before s has all = has.1 ∙ ap (λ (l : List Act). contacts_text (before ++ numbered s.reports.number l))
    (ap (λ (k : ℕ). take k s.pair.end.client.table.tally.counted) all
    ∙ take_all (length s.pair.end.client.table.tally.counted) s.pair.end.client.table.tally.counted
    (least (length s.pair.end.client.table.tally.counted)))
