-- What the examples say of errors.
use Rattle.run_session.proofs.Names.{[], ◌++◌, ◌==◌, ◌∙◌, ◌∷◌, ◌≡◌, ◌⊎◌, ap, append-nil, append_assoc, arith, Bool, codes, drop, false, false≢true, inl, inr, length, length-append, List}
use Rattle.run_session.proofs.Names.{map, None, refl, subst, sym, true, ℕ}
use Rattle.std.specs.Prelude.{◌||◌}
use Rattle.std.specs.List.{flat_map, list_any}
use Rattle.dme_line.specs.declared.tags.Tag.TheVariants.{Std}
use Rattle.dmis_program.specs.declared.features.Wanted.{Wanted}
use Rattle.run_session.specs.Errors.{error_kept, error_line, Hears, new_talk, Records, Talk}
use Rattle.run_session.specs.Errors.Records.{takes_all, takes_none}
use Rattle.session_telling.specs.Dialogues.{AllReport, ended, Reported}
use Rattle.session_telling.specs.Dialogues.AllReport.{ends, reports}
use Rattle.session_telling.specs.declared.sessions.Sent.{Sent}

no_more : {X : Type 0} (xs ys : List X) → xs ≡ xs ++ ys → ys ≡ []
no_more xs [] is = refl
no_more xs (y ∷ ys) is = let more = ap length is ∙ length-append xs (y ∷ ys) in absurd (omega (arith, more))

pub shown : (fs : List Wanted) (bytes : List ℕ) (t u : Talk) (before after : List ℕ) → Hears fs bytes t u before after → u.errors ≡ t.errors
    → after ≡ before
shown fs bytes t u before after h same = go h.reports (no_more t.errors (map error_kept h.reports) (sym same ∙ h.kept)) h.shown
  where
    go : (rs : List Reported) → map error_kept rs ≡ [] → after ≡ before ++ flat_map (error_line (drop t.kept fs) t.lines) rs → after ≡ before
    go [] none is = is ∙ append-nil before
    go (r ∷ rs) none is = absurd cc

pub unshown : (fs : List Wanted) (bytes : List ℕ) (t u : Talk) (before after : List ℕ) → Hears fs bytes t u before after → after ≡ before
    → u.errors ≡ t.errors
unshown fs bytes t u before after h same =
    go h.reports (no_more before (flat_map (error_line (drop t.kept fs) t.lines) h.reports) (sym same ∙ h.shown)) h.kept
  where
    go : (rs : List Reported) → flat_map (error_line (drop t.kept fs) t.lines) rs ≡ [] → u.errors ≡ t.errors ++ map error_kept rs → u.errors ≡ t.errors
    go [] none is = is ∙ append-nil t.errors
    go (r ∷ rs) none is = absurd cc

has_end : (xs ys : List ℕ) → list_any (λ b. b == 10) (xs ++ 10 ∷ ys) ≡ true
has_end [] ys = refl
has_end (x ∷ xs) ys = either (x == 10) (has_end xs ys)
  where
    either : (b : Bool) {c : Bool} → c ≡ true → (b || c) ≡ true
    either true h = refl
    either false h = h

-- what has no LF ends no line
no_lines : (bytes : List ℕ) (lines : List (List ℕ)) (rest : List ℕ) → list_any (λ b. b == 10) bytes ≡ false → bytes ≡ ended lines ++ rest → lines ≡ []
no_lines bytes [] rest none is = refl
no_lines bytes (line ∷ lines) rest none is = absurd (false≢true (sym none ∙ (ap (list_any (λ b. b == 10)) (is ∙ append_assoc line (10 ∷ ended lines) rest)
    ∙ has_end line (ended lines ++ rest))))

nothing : (sent : List Sent) (rs : List Reported) → AllReport sent [] rs → rs ≡ []
nothing sent _ ends = refl

pub unended : (fs : List Wanted) (t u : Talk) (before after : List ℕ) → t.hearing ≡ [] → Hears fs (codes "00005 ! 1 x") t u before after → after ≡ before
unended fs t u before after none h =
    let lines : h.lines ≡ [] = no_lines (codes "00005 ! 1 x") h.lines u.hearing refl (ap (λ (x : List ℕ). x ++ codes "00005 ! 1 x") (sym none) ∙ h.cut.whole) in
    let rs : h.reports ≡ [] = nothing t.sent h.reports (subst (λ (ls : List (List ℕ)). AllReport t.sent ls h.reports) lines h.reported) in
    h.shown ∙ (ap (λ (rs : List Reported). before ++ flat_map (error_line (drop t.kept fs) t.lines) rs) rs ∙ append-nil before)

told : (errors : List (List ℕ)) (t u : Talk) → Records errors t u → (errors ≡ []) ⊎ (errors ≡ t.errors)
told _ _ _ (takes_none t) = inl refl
told _ _ _ (takes_all t) = inr refl

pub recorded : (t u : Talk) (error : List ℕ) → t.errors ≡ [] → Records (error ∷ []) t u → ⊥
recorded t u error empty h = go (told (error ∷ []) t u h)
  where
    go : ((error ∷ []) ≡ []) ⊎ ((error ∷ []) ≡ t.errors) → ⊥
    go (inl is) = absurd cc
    go (inr is) = absurd cc

pub one_heard : Hears [] (codes "00005 ! 1 x\n") (new_talk 0 []) (record (new_talk 0 []) { errors = codes "00005 1 x" ∷ [] })
    [] (codes "dme: the server reports: 1 x\n")
one_heard = record {
  lines = codes "00005 ! 1 x" ∷ [];
  reports = record { tag = Std 5; about = None; text = codes "1 x" } ∷ [];
  cut = record { whole = refl; lines_end = (refl, tt); rest_is_open = refl };
  reported = reports (codes "00005 ! 1 x") [] (record { tag = Std 5; about = None; text = codes "1 x" }) []
      (record { read = record { text = codes "! 1 x"; tagged = omega arith; parts = refl; marked = inl refl }; under = refl }) ends;
  shown = refl;
  kept = refl;
  same = refl;
}
