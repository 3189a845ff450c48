-- What a features file has while a run continues.
use Rattle.run_session.proofs.Names.{◌++◌, ◌∙◌, ◌∷◌, ◌≡◌, ◌≤◌, Abort, Act, anything, ap, append_assoc, arith, begins, Bool, calls, confirms, Done, false, GoesOn}
use Rattle.run_session.proofs.Names.{false≢true, HasReported, inl, inr, IsKept, length, length-append, List, May, Option, None, Outside, Pair, Ran, refl, Reply}
use Rattle.run_session.proofs.Names.{Some, Stage, State, subst, sym, take, tells, true, writes, ℕ}
use Rattle.std.proofs.lemmas.List.{take-append-le, take_all}
use Rattle.contact_ledger.specs.declared.features.Feature.{Feature}
use Rattle.order_parts.specs.Kept.{IsFeaturesText}
use Rattle.run_session.specs.Errors.{Talk, noted_by}
use Rattle.run_session.specs.Records.{AddsFeatures, did, forgets, Grown, IsDue, IsDueBy, is_list, IsLaterNoting, IsListed, is_noting, IsOneVersion, is_stop, IsNext, left, Listed, Made}
use Rattle.run_session.specs.Records.{marked, marked_at, Marks, Named, noted_if, Record, Report, says, stopped, Stood, Stops, wants, Whole, Write}
use Rattle.run_session.proofs.Growing.{text_grows}
use Rattle.run_session.proofs.Kept.{call_keeps, none_added}
use Rattle.run_session.proofs.Reporting.{stays_reported}

-- ---- a client's features are those that it had, and then others

further : (xs ys zs : List Feature) → AddsFeatures xs ys → AddsFeatures ys zs → AddsFeatures xs zs
further xs ys zs a b = record {
  more = a.more ++ b.more;
  is = b.is ∙ (ap (λ (l : List Feature). l ++ b.more) a.is ∙ append_assoc xs a.more b.more);
}

abbrev features_of : Pair → List Feature
features_of p = p.end.client.table.tally.features

ran_adds : {b : May} (first : Pair) (v : Talk) (ps : List ℕ) (p : Pair) (t : Talk) → Ran b first v ps p t
    → AddsFeatures (features_of first) (features_of p)
ran_adds first v _ _ _ (begins ps) = none_added (features_of first) (features_of first) refl
ran_adds first v _ _ _ (calls ps p t u call r is free talks) =
    further (features_of first) (features_of p) _ (ran_adds first v ps p t r) (call_keeps call p.end is).adds
ran_adds first v _ _ _ (tells ps p t u lacks errors r records lines) = ran_adds first v ps p t r
ran_adds first v _ _ _ (says ps p t said r can other on) = ran_adds first v ps p t r
ran_adds first v _ _ _ (forgets ps p t u r lost) = ran_adds first v ps p t r
ran_adds first v _ _ _ (confirms n ps p t r counted) = ran_adds first v (n ∷ ps) p t r

later_adds : (before : List (ℕ × Act)) (s t : State) → HasReported before s.pair s.reports → IsLaterNoting s t
    → AddsFeatures (features_of s.pair) (features_of t.pair)
later_adds before s t has is = ran_adds s.pair s.talk t.book.pauses t.pair t.talk
    (is (record { may = anything; first = s.pair; begun = s.talk; before = before; marks = s.reports.marks }) refl
    (record { ran = begins s.book.pauses; reported = has; same = refl })).ran

-- ---- an answer that stops the run, or is the time of notes

aborts : (s : State) → Ran anything s.pair s.talk s.book.pauses (stopped true s).pair (noted_by Abort s.pair.end s.talk)
aborts s = calls s.book.pauses s.pair s.talk (noted_by Abort s.pair.end s.talk) Abort (begins s.book.pauses) tt refl refl

stopped_reports : (b : Bool) (before : List (ℕ × Act)) (s : State) → HasReported before s.pair s.reports
    → HasReported before (stopped b s).pair (stopped b s).reports
stopped_reports true before s has =
    stays_reported before s.book.pauses s.pair (stopped true s).pair s.talk (noted_by Abort s.pair.end s.talk) s.reports (aborts s) has
stopped_reports false before s has = has

stopped_adds : (b : Bool) (s : State) → AddsFeatures (features_of s.pair) (features_of (stopped b s).pair)
stopped_adds true s = (call_keeps Abort s.pair.end tt).adds
stopped_adds false s = none_added (features_of s.pair) (features_of s.pair) refl

turned_adds : (b n : Bool) (before : List (ℕ × Act)) (s t : State) (reply : Reply) → HasReported before s.pair s.reports
    → IsLaterNoting (noted_if n reply (stopped b s)) t → AddsFeatures (features_of s.pair) (features_of t.pair)
turned_adds b true before s t reply has is = further (features_of s.pair) (features_of (stopped b s).pair) (features_of t.pair) (stopped_adds b s)
    (later_adds before (noted_if true reply (stopped b s)) t (stopped_reports b before s has) is)
turned_adds b false before s t reply has is = further (features_of s.pair) (features_of (stopped b s).pair) (features_of t.pair) (stopped_adds b s)
    (later_adds before (stopped b s) t (stopped_reports b before s has) is)

pub adds : (before : List (ℕ × Act)) (s t : State) (reply : Reply) → HasReported before s.pair s.reports → Stops s reply t
    → AddsFeatures (features_of s.pair) (features_of t.pair)
adds before s t reply has (inl turns) =
    turned_adds (is_stop s.stage reply) (is_noting s.stage) before s t reply has (λ w on run. turns.0 w run)
adds before s t reply has (inr (inl later, spent)) = turned_adds (is_stop s.stage reply) false before s t reply has later
adds before s t reply has (inr (inr later, spent)) = later_adds before (left s) t has later

pub next : (first : Pair) (before : List (ℕ × Act)) (s t : State) (o : Outside) (reply : Reply) → IsKept first before s o → GoesOn s reply t
    → Stops s reply t → IsNext s reply t
next first before s t o reply k goes stops = record {
  features = adds before s t reply k.ran.reported stops;
  marks = (goes first before o 0 k).ran.same ∙ ap (marked_at s reply) (sym k.ran.same);
}

-- ---- the file

within : (k : ℕ) (xs ys zs : List Feature) → zs ≡ xs ++ ys → k ≤ length xs → k ≤ length zs
within k xs ys zs is few = let long = ap (λ (l : List Feature). length l) is ∙ length-append xs ys in omega (arith, long, few)

least : (n : ℕ) → n ≤ n
least n = omega arith

-- what it has stays the text of as many features
lists : (s t : State) (n : ℕ) (text : List ℕ) → t.reports.marks.listed ≡ n → n ≤ length (features_of s.pair)
    → IsFeaturesText (take n (features_of s.pair)) text → AddsFeatures (features_of s.pair) (features_of t.pair) → IsListed t text
lists s t n text at few is more = (
  subst (λ (k : ℕ). k ≤ length (features_of t.pair)) (sym at) (within n (features_of s.pair) more.more (features_of t.pair) more.is few),
  subst (λ (l : List Feature). IsFeaturesText l text) (sym (ap (λ (k : ℕ). take k (features_of t.pair)) at
      ∙ (ap (λ (l : List Feature). take n l) more.is ∙ take-append-le n (features_of s.pair) more.more few))) is,
)

-- it has those of all
lists_all : (s t : State) (text : List ℕ) → t.reports.marks.listed ≡ s.held → s.held ≡ length (features_of s.pair)
    → IsFeaturesText (features_of s.pair) text → AddsFeatures (features_of s.pair) (features_of t.pair) → IsListed t text
lists_all s t text at all is more = lists s t (length (features_of s.pair)) text (at ∙ all) (least (length (features_of s.pair)))
    (subst (λ (l : List Feature). IsFeaturesText l text)
    (sym (take_all (length (features_of s.pair)) (features_of s.pair) (least (length (features_of s.pair))))) is) more

pub made : (s t : State) (reply : Reply) → s.stage ≡ Stage.MakingFeatures → IsDue s → did (Some Made) reply ≡ true → IsNext s reply t
    → IsListed t s.list
made s t reply at due done is =
    let now : IsDueBy (wants Stage.MakingFeatures) s = subst (λ (st : Stage). IsDueBy (wants st) s) at due in
    lists_all s t s.list (ap (λ (m : Marks). m.listed) (is.marks
    ∙ (ap (λ (st : Stage). marked (writes st) (did (writes st) reply) s s.reports.marks) at
    ∙ ap (λ (b : Bool). marked (Some Made) b s s.reports.marks) done))) now.1 now.0 is.features

pub grown : (s t : State) (text : List ℕ) → IsOneVersion → s.stage ≡ Stage.Listing → IsDue s → IsListed s text → IsNext s Done t
    → IsListed t (text ++ s.list)
grown s t text one at due has is =
    let now : IsDueBy (wants Stage.Listing) s = subst (λ (st : Stage). IsDueBy (wants st) s) at due in
    lists_all s t (text ++ s.list) (ap (λ (m : Marks). m.listed) (is.marks
    ∙ ap (λ (st : Stage). marked (writes st) (did (writes st) Done) s s.reports.marks) at)) now.1
    (text_grows s.reports.marks.listed (features_of s.pair) text s.list one has.1 now.0) is.features

kept_listed : (w : Option Write) (b : Bool) (s : State) (m : Marks) → is_list w ≡ false → (marked w b s m).listed ≡ m.listed
kept_listed None b s m other = refl
kept_listed (Some (Record forced)) b s m other = refl
kept_listed (Some Grown) true s m other = refl
kept_listed (Some Grown) false s m other = refl
kept_listed (Some Made) b s m other = absurd (false≢true (sym other))
kept_listed (Some Named) true s m other = refl
kept_listed (Some Named) false s m other = refl
kept_listed (Some Listed) b s m other = absurd (false≢true (sym other))
kept_listed (Some Report) true s m other = refl
kept_listed (Some Report) false s m other = refl
kept_listed (Some Stood) true s m other = refl
kept_listed (Some Stood) false s m other = refl
kept_listed (Some (Whole kept)) b s m other = refl

pub stays : (s t : State) (reply : Reply) (text : List ℕ) → is_list (writes s.stage) ≡ false → IsListed s text → IsNext s reply t → IsListed t text
stays s t reply text other has is = lists s t s.reports.marks.listed text (ap (λ (m : Marks). m.listed) is.marks
    ∙ kept_listed (writes s.stage) (did (writes s.stage) reply) s s.reports.marks other) has.0 has.1 is.features
