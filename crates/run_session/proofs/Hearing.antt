-- What comes of bytes of a server, with errors among them or without.
use Rattle.run_session.proofs.Names.{[], ◌++◌, ◌-◌, ◌==◌, ◌∙◌, ◌∷◌, ◌≡◌, ap, append-nil, ap₂, AllByRecursion, arith, Bool, cond, drop, false, false≢true}
use Rattle.run_session.proofs.Names.{get_or, inl, inr, length, List, map, not, refl, Some, subst, suc, sym, take, true, zero, ℕ}
use Rattle.std.specs.Prelude.{◌||◌, slice_get}
use Rattle.std.specs.List.{flat_map, list_any}
use Rattle.std.proofs.lemmas.Bool.{eqb-true}
use Rattle.dme_line.specs.Responses.{IsMarkText}
use Rattle.dme_line.specs.Tags.{IsTag, written_tag}
use Rattle.dme_line.specs.declared.responses.Mark.TheVariants as mark
use Rattle.dmis_program.specs.declared.features.Wanted.{Wanted}
use Rattle.run_session.specs.Errors.{AddsAll, error_kept, error_line, Hears, Talk, with_about}
use Rattle.session_telling.specs.Dialogues.{AllReport, AreCut, content, Dialogue, ended, Hears as HearsLines, IsUnended, Reported}
use Rattle.session_telling.specs.Dialogues.AllReport.{ends, passes, reports}
use Rattle.session_telling.specs.Sessions.{ReportsNothing}
use Rattle.session_telling.specs.declared.sessions.Sent.{Sent}

or_parts : (x y : Bool) → (x || y) ≡ false → (x ≡ false) × (y ≡ false)
or_parts false y h = (refl, h)
or_parts true y h = absurd (false≢true (sym h))

or_none : (x y : Bool) → x ≡ false → y ≡ false → (x || y) ≡ false
or_none false y h g = g
or_none true y h g = absurd (false≢true (sym h))

-- ---- bytes that end with LF

abbrev pub EndsLine : List ℕ → Type 0
EndsLine [] = ⊥
EndsLine (b ∷ []) = b ≡ 10
EndsLine (b ∷ c ∷ bs) = EndsLine (c ∷ bs)

pub ends_line : (bytes : List ℕ) → slice_get bytes (length bytes - 1) ≡ Some 10 → EndsLine bytes
ends_line [] is = absurd cc
ends_line (b ∷ []) is = cc
ends_line (b ∷ c ∷ bs) is =
    let at : length (b ∷ c ∷ bs) - 1 ≡ suc (length (c ∷ bs) - 1) = omega arith in
    ends_line (c ∷ bs) (sym (ap (slice_get (b ∷ c ∷ bs)) at) ∙ is)

ends_cons : (x : ℕ) (ys : List ℕ) → EndsLine ys → EndsLine (x ∷ ys)
ends_cons x [] h = absurd h
ends_cons x (y ∷ ys) h = h

ends_after : (xs ys : List ℕ) → EndsLine ys → EndsLine (xs ++ ys)
ends_after [] ys h = h
ends_after (x ∷ xs) ys h = ends_cons x (xs ++ ys) (ends_after xs ys h)

ends_back : (xs : List ℕ) (r : ℕ) (rs : List ℕ) → EndsLine (xs ++ r ∷ rs) → EndsLine (r ∷ rs)
ends_back [] r rs h = h
ends_back (x ∷ []) r rs h = h
ends_back (x ∷ y ∷ xs) r rs h = ends_back (y ∷ xs) r rs h

not_open : (r : ℕ) (rs : List ℕ) → EndsLine (r ∷ rs) → IsUnended (r ∷ rs) → ⊥
not_open r [] h is = false≢true (sym (or_parts (r == 10) false is).0 ∙ ap (λ (x : ℕ). x == 10) h)
not_open r (s ∷ rs) h is = not_open s rs h (or_parts (r == 10) _ is).1

-- nothing is left then of a line that has not ended
nothing_left : (front rest : List ℕ) → EndsLine (front ++ rest) → IsUnended rest → rest ≡ []
nothing_left front [] h is = refl
nothing_left front (r ∷ rs) h is = absurd (not_open r rs (ends_back front r rs h) is)

pub is_ended : (before bytes : List ℕ) (lines : List (List ℕ)) (rest : List ℕ) → AreCut (before ++ bytes) lines rest
    → slice_get bytes (length bytes - 1) ≡ Some 10 → rest ≡ []
is_ended before bytes lines rest cut last = nothing_left (ended lines) rest
    (subst EndsLine cut.whole (ends_after before bytes (ends_line bytes last))) cut.rest_is_open

-- ---- bytes without a !

abbrev pub IsPlain : List ℕ → Type 0
IsPlain bytes = list_any (λ b. b == 33) bytes ≡ false

record IsCut (bytes : List ℕ) : Type 0 where
  first : List ℕ
  others : List (List ℕ)
  whole : bytes ≡ ended (first ∷ others)
  ends : AllByRecursion IsUnended (first ∷ others)
  plain : AllByRecursion IsPlain (first ∷ others)

cut_more : (b c : ℕ) (bs : List ℕ) → (b == 33) ≡ false → IsCut (c ∷ bs) → (x : Bool) → (b == 10) ≡ x → IsCut (b ∷ c ∷ bs)
cut_more b c bs plain more true is = record {
  first = [];
  others = more.first ∷ more.others;
  whole = ap₂ (λ (x : ℕ) (xs : List ℕ). x ∷ xs) (eqb-true b 10 is) more.whole;
  ends = (refl, more.ends);
  plain = (refl, more.plain);
}
cut_more b c bs plain more false is = record {
  first = b ∷ more.first;
  others = more.others;
  whole = ap (λ (t : List ℕ). b ∷ t) more.whole;
  ends = (or_none (b == 10) _ is more.ends.0, more.ends.1);
  plain = (or_none (b == 33) _ plain more.plain.0, more.plain.1);
}

cut_all : (b : ℕ) (bs : List ℕ) → EndsLine (b ∷ bs) → IsPlain (b ∷ bs) → IsCut (b ∷ bs)
cut_all b [] last plain = record {
  first = [];
  others = [];
  whole = ap (λ (x : ℕ). x ∷ []) last;
  ends = (refl, tt);
  plain = (refl, tt);
}
cut_all b (c ∷ bs) last plain = let parts = or_parts (b == 33) _ plain in
    cut_more b c bs parts.0 (cut_all c bs last parts.1) (b == 10) refl

plain_take : (n : ℕ) (line : List ℕ) → IsPlain line → IsPlain (take n line)
plain_take zero line h = refl
plain_take (suc n) [] h = refl
plain_take (suc n) (b ∷ bs) h = let parts = or_parts (b == 33) _ h in or_none (b == 33) _ parts.0 (plain_take n bs parts.1)

plain_content : (line : List ℕ) → IsPlain line → IsPlain (content line)
plain_content line h = go (get_or line (length line - 1) 0 == 13)
  where
    go : (b : Bool) → IsPlain (cond b (take (length line - 1) line) line)
    go true = plain_take (length line - 1) line h
    go false = h

or_true : (x : Bool) {y : Bool} → y ≡ true → (x || y) ≡ true
or_true true h = refl
or_true false h = h

marked : (xs more : List ℕ) → list_any (λ b. b == 33) (xs ++ 32 ∷ 33 ∷ more) ≡ true
marked [] more = refl
marked (x ∷ xs) more = or_true (x == 33) (marked xs more)

no_error : (line : List ℕ) → IsPlain line → ReportsNothing line
no_error line plain tag text read = go read.text read.parts read.marked
  where
    go : (t : List ℕ) → line ≡ written_tag tag ++ (32 ∷ t) → IsMarkText t (mark.Error text) → ⊥
    go t parts (inl is) = false≢true (sym plain ∙ (ap (list_any (λ b. b == 33)) (parts ∙ ap (λ (x : List ℕ). written_tag tag ++ (32 ∷ x)) is)
        ∙ marked (written_tag tag) (32 ∷ text)))
    go t parts (inr is) = false≢true (sym plain ∙ (ap (list_any (λ b. b == 33)) (parts ∙ ap (λ (x : List ℕ). written_tag tag ++ (32 ∷ x)) is.0)
        ∙ marked (written_tag tag) []))

none_report : (sent : List Sent) (lines : List (List ℕ)) → AllByRecursion IsPlain lines → AllReport sent lines []
none_report sent [] h = ends
none_report sent (line ∷ lines) h = passes line lines [] (no_error (content line) (plain_content line h.0)) (none_report sent lines h.1)

none_heard : (program : List Wanted) (bytes : List ℕ) (t : Talk) (shown : List ℕ) → t.hearing ≡ [] → EndsLine bytes → IsPlain bytes
    → Hears program bytes t t shown shown
none_heard program [] t shown none last plain = absurd last
none_heard program (b ∷ bs) t shown none last plain =
    let c : IsCut (b ∷ bs) = cut_all b bs last plain in record {
      lines = c.first ∷ c.others;
      reports = [];
      cut = subst (λ (h : List ℕ). AreCut (h ++ b ∷ bs) (c.first ∷ c.others) h) (sym none)
          (record { whole = c.whole ∙ sym (append-nil (ended (c.first ∷ c.others))); lines_end = c.ends; rest_is_open = refl });
      reported = none_report t.sent (c.first ∷ c.others) c.plain;
      shown = sym (append-nil shown);
      kept = sym (append-nil t.errors);
      same = refl;
    }

pub quiet_heard : (program : List Wanted) (bytes : List ℕ) (t : Talk) (shown : List ℕ) → t.hearing ≡ []
    → slice_get bytes (length bytes - 1) ≡ Some 10 → IsPlain bytes → Hears program bytes t t shown shown
quiet_heard program bytes t shown none last plain = none_heard program bytes t shown none (ends_line bytes last) plain

-- ---- errors

-- each is about the last of other commands under its tag
about_all : (given sent : List Sent) (lines : List (List ℕ)) (rs : List Reported) → AllReport given lines rs
    → AllReport sent lines (map (with_about sent) rs)
about_all given sent _ _ ends = ends
about_all given sent _ _ (passes line lines rs nothing more) = passes line lines (map (with_about sent) rs) nothing (about_all given sent lines rs more)
about_all given sent _ _ (reports line lines r rs told more) = reports line lines (with_about sent r) (map (with_about sent) rs)
    (record { read = told.read; under = refl }) (about_all given sent lines rs more)

pub are_tagged : (given : List Sent) (lines : List (List ℕ)) (rs : List Reported) → AllReport given lines rs
    → AllByRecursion (λ r. IsTag r.tag) rs
are_tagged given _ _ ends = tt
are_tagged given _ _ (passes line lines rs nothing more) = are_tagged given lines rs more
are_tagged given _ _ (reports line lines r rs told more) = (told.read.tagged, are_tagged given lines rs more)

pub tagged_at : (rs : List Reported) (i : ℕ) (r : Reported) → AllByRecursion (λ r. IsTag r.tag) rs → slice_get rs i ≡ Some r → IsTag r.tag
tagged_at [] i r all is = absurd cc
tagged_at (x ∷ rs) zero r all is = let same : x ≡ r = cc in subst (λ (r : Reported). IsTag r.tag) same all.0
tagged_at (x ∷ rs) (suc i) r all is = tagged_at rs i r all.1 is

same_kept : (sent : List Sent) (rs : List Reported) → map error_kept rs ≡ map error_kept (map (with_about sent) rs)
same_kept sent [] = refl
same_kept sent (r ∷ rs) = ap (λ (l : List (List ℕ)). error_kept r ∷ l) (same_kept sent rs)

-- bytes that may have errors: what the dialogue hears, and then is shown and kept
pub all_heard : (program : List Wanted) (bytes : List ℕ) (c d : Dialogue) (rs : List Reported) (t u v w : Talk) (before after : List ℕ)
    → t.hearing ≡ c.hearing → HearsLines bytes c d rs → u ≡ record t { hearing = d.hearing; lost = true }
    → AddsAll program rs u v before after → w ≡ record v { lost = t.lost } → Hears program bytes t w before after
all_heard program bytes c d rs t u v w before after at h is adds final = record {
  lines = h.lines;
  reports = map (with_about t.sent) rs;
  cut = subst (λ (x : List ℕ). AreCut (x ++ bytes) h.lines w.hearing) (sym at)
      (subst (AreCut (c.hearing ++ bytes) h.lines) (sym (ap (λ (x : Talk). x.hearing) all)) h.cut);
  reported = about_all c.sent t.sent h.lines rs h.reported;
  shown = adds.0 ∙ ap (λ (x : Talk). before ++ flat_map (error_line (drop x.kept program) x.lines) (map (with_about x.sent) rs)) is;
  kept = ap (λ (x : Talk). x.errors) all ∙ ap (λ (l : List (List ℕ)). t.errors ++ l) (same_kept t.sent rs);
  same = all ∙ sym (ap (λ (x : Talk). record t { hearing = x.hearing; errors = x.errors }) all);
}
  where
    all : w ≡ record t { hearing = d.hearing; errors = t.errors ++ map error_kept rs }
    all = final ∙ ap (λ (x : Talk). record x { lost = t.lost })
        (adds.1 ∙ ap (λ (x : Talk). record x { errors = x.errors ++ map error_kept rs }) is)

pub is_true : (b : Bool) → not b ≡ false → b ≡ true
is_true true h = refl
is_true false h = sym h
