-- Choices of starts: a prefix of one, and one more feature.
use Rattle.ledger_audit.proofs.Names.{[], ◌++◌, ◌+◌, ◌<◌, ◌∷◌, ◌≡◌, ◌≤◌, Act, ap, AreAtMost, AreRuns, arith, contacts, Feature, get_or, IsRun, length}
use Rattle.ledger_audit.proofs.Names.{List, MadeContact, refl, Sound, subst, suc, take, Wanted, zero, ℕ}

-- the end of the last of the runs with these starts, or the least start allowed for the first without one
abbrev pub last_end : ℕ → List Feature → List ℕ → ℕ
last_end least [] starts = least
last_end least (f ∷ fs) [] = least
last_end least (f ∷ fs) (start ∷ starts) = last_end (start + length f.points) fs starts

-- the first features have the first starts
pub runs_take : (k : ℕ) (ws : List Wanted) (fs : List Feature) (starts : List ℕ) (least : ℕ) (made : List MadeContact)
    → AreRuns ws fs starts least made → AreRuns ws (take k fs) (take k starts) least made
runs_take zero ws fs starts least made h = tt
runs_take (suc k) ws [] [] least made h = tt
runs_take (suc k) ws [] (s ∷ starts) least made h = absurd h
runs_take (suc k) [] (f ∷ fs) starts least made h = absurd h
runs_take (suc k) (w ∷ ws) (f ∷ fs) [] least made h = absurd h
runs_take (suc k) (w ∷ ws) (f ∷ fs) (s ∷ starts) least made h = (h.0, h.1, runs_take k ws fs starts (s + length f.points) made h.2)

-- the first of the features that are true of a ledger are true of it
pub sound_take : (k : ℕ) (ws : List Wanted) (fs : List Feature) (l : List (ℕ × Act)) → Sound ws fs l → Sound ws (take k fs) l
sound_take k ws fs l h = record { starts = take k h.starts; runs = runs_take k ws fs h.starts 0 (contacts l) h.runs }

-- one more feature, with a run after the last
pub runs_push : (ws : List Wanted) (fs : List Feature) (starts : List ℕ) (least : ℕ) (made : List MadeContact) (w : Wanted) (f : Feature)
    (s : ℕ)
    → AreRuns ws fs starts least made → length fs < length ws → w ≡ get_or ws (length fs) w → last_end least fs starts ≤ s
    → IsRun w f s made → AreRuns ws (fs ++ f ∷ []) (starts ++ s ∷ []) least made
runs_push [] fs starts least made w f s h lt e from run = absurd (omega arith)
runs_push (v ∷ ws) [] [] least made w f s h lt e from run = (from, subst (λ (x : Wanted). IsRun x f s made) e run, tt)
runs_push (v ∷ ws) [] (t ∷ starts) least made w f s h lt e from run = absurd h
runs_push (v ∷ ws) (g ∷ fs) [] least made w f s h lt e from run = absurd h
runs_push (v ∷ ws) (g ∷ fs) (t ∷ starts) least made w f s h lt e from run =
    (h.0, h.1, runs_push ws fs starts (t + length g.points) made w f s h.2 (omega arith) e from run)

-- the end of the last run is that of the one that was added
pub end_push : (ws : List Wanted) (fs : List Feature) (starts : List ℕ) (least : ℕ) (made : List MadeContact) (f : Feature) (s : ℕ)
    → AreRuns ws fs starts least made → last_end least (fs ++ f ∷ []) (starts ++ s ∷ []) ≡ s + length f.points
end_push ws [] [] least made f s h = refl
end_push ws [] (t ∷ starts) least made f s h = absurd h
end_push [] (g ∷ fs) starts least made f s h = absurd h
end_push (v ∷ ws) (g ∷ fs) [] least made f s h = absurd h
end_push (v ∷ ws) (g ∷ fs) (t ∷ starts) least made f s h = end_push ws fs starts (t + length g.points) made f s h.2

-- starts of features, cut before the last
pub record AreWithLast (ws : List Wanted) (fs : List Feature) (f : Feature) (starts : List ℕ) (least : ℕ)
    (made : List MadeContact) : Type 0 where
  pub front : List ℕ
  pub last : ℕ
  pub wanted : Wanted
  pub whole : starts ≡ front ++ last ∷ []
  pub runs : AreRuns ws fs front least made
  pub held : length fs < length ws
  pub wanted_is : wanted ≡ get_or ws (length fs) wanted
  pub from : last_end least fs front ≤ last
  pub run : IsRun wanted f last made

-- starts of one more feature are those of the features before it, and one after their runs
pub runs_split : (ws : List Wanted) (fs : List Feature) (f : Feature) (starts : List ℕ) (least : ℕ) (made : List MadeContact)
    → AreRuns ws (fs ++ f ∷ []) starts least made → AreWithLast ws fs f starts least made
runs_split [] [] f starts least made h = absurd h
runs_split (v ∷ ws) [] f [] least made h = absurd h
runs_split (v ∷ ws) [] f (t ∷ []) least made h = record {
  front = [];
  last = t;
  wanted = v;
  whole = refl;
  runs = tt;
  held = omega arith;
  wanted_is = refl;
  from = h.0;
  run = h.1;
}
runs_split (v ∷ ws) [] f (t ∷ u ∷ starts) least made h = absurd h.2
runs_split [] (g ∷ fs) f starts least made h = absurd h
runs_split (v ∷ ws) (g ∷ fs) f [] least made h = absurd h
runs_split (v ∷ ws) (g ∷ fs) f (t ∷ starts) least made h =
    let rest = runs_split ws fs f starts (t + length g.points) made h.2 in
    record {
      front = t ∷ rest.front;
      last = rest.last;
      wanted = rest.wanted;
      whole = ap (λ (l : List ℕ). t ∷ l) rest.whole;
      runs = (h.0, h.1, rest.runs);
      held = omega (arith, rest.held);
      wanted_is = rest.wanted_is;
      from = rest.from;
      run = rest.run;
    }

-- numbers that are at most others, and one more that is at most another
pub at_most_push : (starts others : List ℕ) (s t : ℕ) → AreAtMost starts others → s ≤ t → AreAtMost (starts ++ s ∷ []) (others ++ t ∷ [])
at_most_push [] [] s t h le = (le, tt)
at_most_push [] (o ∷ others) s t h le = absurd h
at_most_push (a ∷ starts) [] s t h le = absurd h
at_most_push (a ∷ starts) (o ∷ others) s t h le = (h.0, at_most_push starts others s t h.1 le)
