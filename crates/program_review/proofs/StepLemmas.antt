-- What a statement of an accepted program says, and what it finds above it.
use Rattle.program_review.proofs.Names.{◌&&◌, ◌==◌, ◌>>=◌, ◌≡◌, Bool, cond, Context, Err, false, is_none, Keyword, keyword_of, List, Meaning, meant}
use Rattle.program_review.proofs.Names.{misplaced, nat_le, None, NotDmis, offset_of, Ok, Option, Point, recalls_other, refl, Refusal, refused_by}
use Rattle.program_review.proofs.Names.{Result, said_of, saying, settled, Some, Statement, StatementMeaning, Step, subst, TooLarge, true, Unsupported}
use Rattle.program_review.proofs.Names.{word_refusal, ℕ}
use Rattle.dmis_program.specs.Judging.{judged}
use Rattle.dmis_program.specs.Parameters.{is_other_recall}
use Rattle.dmis_program.specs.Meaning.{meaning_with as program_with}
use Rattle.program_review.specs.UnderSetup.{meaning_with}
use Rattle.program_review.proofs.FirstLemmas.{accepted_is, unless_badly}

-- what an accepted statement finds above it: a touch finds a tool, and a `RECALL` its frame
abbrev pub IsFound : List (List ℕ × Point) → Option (List ℕ) → StatementMeaning → Type 0
IsFound frames tool (StatementMeaning.Touches target direction) = is_none tool ≡ false
IsFound frames tool (StatementMeaning.Recalls name) = is_none (offset_of frames name) ≡ false
IsFound frames tool _ = Unit {0}

unless_so : (b : Bool) (e : Refusal) (m t : StatementMeaning) → cond b (Err e) (Ok m) ≡ Ok t → b ≡ false
unless_so true e m t h = absurd cc
unless_so false e m t h = refl

settled_finds : (frames : List (List ℕ × Point)) (tool : Option (List ℕ)) (wanted : Option ℕ) (count : ℕ) (m t : StatementMeaning)
    → settled frames tool wanted count m ≡ Ok t → IsFound frames tool m
settled_finds frames tool wanted count (StatementMeaning.Touches target direction) t h = unless_so (is_none tool) _ (StatementMeaning.Touches target direction) t h
settled_finds frames tool wanted count (StatementMeaning.Recalls name) t h = unless_so (is_none (offset_of frames name)) _ (StatementMeaning.Recalls name) t h
settled_finds frames tool wanted count m t h = tt

settling_finds : (frames : List (List ℕ × Point)) (tool : Option (List ℕ)) (wanted : Option ℕ) (count : ℕ)
    (r : Result StatementMeaning Refusal) (t : StatementMeaning)
    → (r >>= settled frames tool wanted count) ≡ Ok t → r ≡ Ok t → IsFound frames tool t
settling_finds frames tool wanted count (Ok m) t h e =
    let same : m ≡ t = cc in
    subst (λ (x : StatementMeaning). IsFound frames tool x) same (settled_finds frames tool wanted count m t h)
settling_finds frames tool wanted count (Err e) t h same = absurd cc

refused_none : (o : Option Refusal) (r : Result StatementMeaning Refusal) (t : StatementMeaning) → refused_by o r ≡ Ok t
    → (o ≡ None) × (r ≡ Ok t)
refused_none (Some x) r t h = absurd cc
refused_none None r t h = (refl, h)

unknown_refused : (b : Bool) → cond (b && true) (Some NotDmis) (Some Unsupported) ≡ None → ⊥
unknown_refused true h = absurd cc
unknown_refused false h = absurd cc

is_known : (number : ℕ) (wanted : Option ℕ) (keyword : Keyword) (params : List (List ℕ)) → word_refusal number wanted keyword params ≡ None
    → keyword ≡ Keyword.Unknown → ⊥
is_known number wanted keyword params h e =
    unknown_refused (number == 0) (subst (λ (k : Keyword). word_refusal number wanted k params ≡ None) e h)

-- nor does it recall what is not read
unless_other : (b other : Bool) (r : Option Refusal) → cond (b && true) (Some NotDmis) (cond other (Some Unsupported) r) ≡ None → other ≡ false
unless_other true other r h = absurd cc
unless_other false true r h = absurd cc
unless_other false false r h = refl

is_read : (number : ℕ) (wanted : Option ℕ) (keyword : Keyword) (params : List (List ℕ)) → word_refusal number wanted keyword params ≡ None
    → recalls_other keyword params ≡ false
is_read number wanted Keyword.Recall params h = unless_other (number == 0) (is_other_recall params) (misplaced Keyword.Recall wanted) h
is_read number wanted keyword params h = refl

pub record IsTaken (frames : List (List ℕ × Point)) (c : Context) (s : Statement) (m : StatementMeaning) : Type 0 where
  pub said : saying s ≡ Ok m
  pub known : keyword_of s.word ≡ Keyword.Unknown → ⊥
  pub read : recalls_other (keyword_of s.word) s.params ≡ false
  pub found : IsFound frames c.tool m

pub taken_is : (frames : List (List ℕ × Point)) (c : Context) (s : Statement) (m : StatementMeaning) → judged frames c s ≡ Ok m
    → IsTaken frames c s m
unfolding judged
taken_is frames c s m h =
    let said = (accepted_is frames c s m h).said in
    let both = refused_none (word_refusal c.number c.wanted (keyword_of s.word) s.params)
    (saying s >>= settled frames c.tool c.wanted c.touched) m (unless_badly (nat_le 10000 c.number) TooLarge _ m h) in
    record {
      said = said;
      known = is_known c.number c.wanted (keyword_of s.word) s.params both.0;
      read = is_read c.number c.wanted (keyword_of s.word) s.params both.0;
      found = settling_finds frames c.tool c.wanted c.touched (saying s) m both.1 said;
    }

-- what it says by itself
pub meant_is : (keyword : Keyword) (s : Statement) (m : StatementMeaning) → said_of keyword s ≡ Ok m → (keyword ≡ Keyword.Unknown → ⊥)
    → recalls_other keyword s.params ≡ false → meaning_with keyword s ≡ Some m
meant_is Keyword.Recall s m h known read = rw (read, h) refl
meant_is Keyword.Unknown s m h known read = absurd (known refl)
meant_is keyword s m h known read = rw h refl

pub meant_steps : (r : Result (List Step) (Refusal × ℕ)) (m : Meaning) → meant r ≡ Ok m → r ≡ Ok m.steps
meant_steps (Ok steps) m h =
    let same : program_with steps ≡ m = cc in
    subst (λ (x : Meaning). ◌≡◌ {A = Result (List Step) (Refusal × ℕ)} (Ok steps) (Ok x.steps)) same refl
meant_steps (Err e) m h = absurd cc
