-- What reading a text line by line comes to.
use Rattle.witness.proofs.ToldNames.{[], ◌++◌, ◌+◌, ◌-◌, ◌<◌, ◌∙◌, ◌∷◌, ◌≡◌, ◌≤◌, ap, AreToldEntries, AreToldLines, arith, codes, Damaged, drop}
use Rattle.witness.proofs.ToldNames.{IsDamagedTold, IsToldEntry, IsToldText, last_number, length, List, map, Memory, NeverFall, ReadsFault, refl}
use Rattle.witness.proofs.ToldNames.{Reported, slice_get, subst, suc, sym, take, TextFault, told_file_lines, told_line, whole_lines, zero, ℕ}
use Rattle.std.specs.Option.{option_map_or}
use Rattle.witness.specs.ToldTexts.{none, some}
use Rattle.contact_ledger.proofs.FeatureReads.{take_one_more}
use Rattle.contact_ledger.proofs.FeatureShapes.{all_more}
use Rattle.witness.proofs.OneTold.{one_told}

take_whole : (n : ℕ) (ls : List (List ℕ)) → drop n ls ≡ [] → take n ls ≡ ls
take_whole zero [] e = refl
take_whole zero (x ∷ xs) e = absurd cc
take_whole (suc n) [] e = refl
take_whole (suc n) (x ∷ xs) e = ap (λ (y : List (List ℕ)). x ∷ y) (take_whole n xs e)

map_more : (xs ys : List (ℕ × Reported)) → map told_line (xs ++ ys) ≡ map told_line xs ++ map told_line ys
map_more [] ys = refl
map_more (x ∷ xs) ys = ap (λ (r : List (List ℕ)). told_line x ∷ r) (map_more xs ys)

-- ---- numbers that never fall, and one more

one_less : (n : ℕ) → suc (suc n) - 1 ≡ suc (suc n - 1)
one_less n = omega arith

last_more : (x y : ℕ × Reported) (xs : List (ℕ × Reported)) → last_number (x ∷ y ∷ xs) ≡ last_number (y ∷ xs)
last_more x y xs = ap (λ (k : ℕ). option_map_or (λ (e : ℕ × Reported). e.0) (slice_get (x ∷ y ∷ xs) k) 0) (one_less (length xs))

low_last : (xs : List (ℕ × Reported)) (e : ℕ × Reported) → NeverFall (xs ++ e ∷ []) → last_number xs ≤ e.0
low_last [] e h = omega arith
low_last (x ∷ []) e h = h.0
low_last (x ∷ y ∷ xs) e h = subst (λ (n : ℕ). n ≤ e.0) (sym (last_more x y xs)) (low_last (y ∷ xs) e h.1)

up_more : (xs : List (ℕ × Reported)) (e : ℕ × Reported) → NeverFall xs → last_number xs ≤ e.0 → NeverFall (xs ++ e ∷ [])
up_more [] e h low = tt
up_more (x ∷ []) e h low = (low, tt)
up_more (x ∷ y ∷ xs) e h low = (h.0, up_more (y ∷ xs) e h.1 (subst (λ (n : ℕ). n ≤ e.0) (last_more x y xs) low))

-- a line of a lower number is no line that may follow
pub fallen : (l : List ℕ) (read e : ℕ × Reported) (last : ℕ) → IsToldEntry read → l ≡ told_line read → read.0 < last → IsToldEntry e
    → l ≡ told_line e → last ≤ e.0 → ⊥
fallen l read e last g says below h same low =
    let number : read.0 ≡ e.0 = ap (λ (x : ℕ × Reported). x.0) (one_told read e g h (sym says ∙ same)) in
    omega (arith, below, low, number)

-- one more line
pub record More (ls more : List (List ℕ)) (n : ℕ) (es : List (ℕ × Reported)) : Type 0 where
  pub left : drop (n + 1) ls ≡ more
  pub read : take (n + 1) ls ≡ told_file_lines es
  pub entries : AreToldEntries es
  pub up : NeverFall es

pub line_read : (ls more : List (List ℕ)) (l : List ℕ) (n : ℕ) (es new : List (ℕ × Reported)) (e : ℕ × Reported) → drop n ls ≡ l ∷ more
    → take n ls ≡ told_file_lines es → AreToldEntries es → NeverFall es → IsToldEntry e → l ≡ told_line e → last_number es ≤ e.0
    → new ≡ es ++ e ∷ [] → More ls more n new
line_read ls more l n es new e d r all up h w low same =
    let t = take_one_more n ls more l d in
    rw same (record {
      left = t.1;
      read = t.0 ∙ rw (r, w) (ap (λ (ys : List (List ℕ)). codes "DME-TOLD 1" ∷ ys) (sym (map_more es (e ∷ []))));
      entries = all_more IsToldEntry es e all h;
      up = up_more es e up low;
    })

-- after the last line, the lines are those of the acts
pub lines_read : (bytes : List ℕ) (n : ℕ) (es : List (ℕ × Reported)) → drop n (whole_lines bytes) ≡ []
    → take n (whole_lines bytes) ≡ told_file_lines es → AreToldEntries es → NeverFall es → IsToldText bytes es
lines_read bytes n es d r all up = some all up (sym (take_whole n (whole_lines bytes) d) ∙ r)

-- what the lines of entries and one more line are read as: these entries, and one whose line it is
record IsLonger (xs es : List (ℕ × Reported)) (l : List ℕ) : Type 0 where
  entry : ℕ × Reported
  known : IsToldEntry entry
  line : l ≡ told_line entry
  all : es ≡ xs ++ entry ∷ []

longer : (xs es : List (ℕ × Reported)) (l : List ℕ) → AreToldEntries xs → AreToldEntries es → map told_line xs ++ l ∷ [] ≡ map told_line es
    → IsLonger xs es l
longer [] [] l g all h = absurd cc
longer [] (e ∷ []) l g all h = let same : l ≡ told_line e = cc in record { entry = e; known = all.0; line = same; all = refl }
longer [] (e ∷ f ∷ es) l g all h = absurd cc
longer (x ∷ xs) [] l g all h = absurd cc
longer (x ∷ xs) (e ∷ es) l g all h =
    let first : told_line e ≡ told_line x = cc in
    let rest : map told_line xs ++ l ∷ [] ≡ map told_line es = cc in
    let last = longer xs es l g.1 all.1 rest in
    record {
      entry = last.entry;
      known = last.known;
      line = last.line;
      all = λ n. one_told e x all.0 g.0 first n ∷ last.all n;
    }

no_line : (xs es : List (ℕ × Reported)) (l : List ℕ) → AreToldEntries xs
    → ((e : ℕ × Reported) → IsToldEntry e → l ≡ told_line e → last_number xs ≤ e.0 → ⊥) → AreToldLines (told_file_lines xs ++ l ∷ []) es → ⊥
no_line xs es l all other (none a b) = absurd cc
no_line xs es l all other (some a up b) =
    let rest : map told_line xs ++ l ∷ [] ≡ map told_line es = cc in
    let last = longer xs es l all a rest in
    other last.entry last.known last.line (low_last xs last.entry (subst NeverFall last.all up))

pub line_damaged : (bytes : List ℕ) (more : List (List ℕ)) (l : List ℕ) (n : ℕ) (es : List (ℕ × Reported))
    → drop n (whole_lines bytes) ≡ l ∷ more → take n (whole_lines bytes) ≡ told_file_lines es → AreToldEntries es → NeverFall es
    → ((e : ℕ × Reported) → IsToldEntry e → l ≡ told_line e → last_number es ≤ e.0 → ⊥) → IsDamagedTold bytes (n + 1)
line_damaged bytes more l n es d r all up other =
    let t = take_one_more n (whole_lines bytes) more l d in
    let back : n + 1 - 1 ≡ n = omega arith in
    let lines : take (n + 1) (whole_lines bytes) ≡ told_file_lines es ++ l ∷ [] = t.0 ∙ rw r refl in
    record {
      first = omega arith;
      last = t.2;
      above = (es, rw back (some all up r));
      torn = λ b. no_line es b.0 l all other (subst (λ (ls : List (List ℕ)). AreToldLines ls b.0) lines b.1);
    }

-- what a refused line answers
pub read_failed : (bytes : List ℕ) (more : List (List ℕ)) (l : List ℕ) (n : ℕ) (es : List (ℕ × Reported)) (fault : TextFault)
    → drop n (whole_lines bytes) ≡ l ∷ more → take n (whole_lines bytes) ≡ told_file_lines es → AreToldEntries es → NeverFall es
    → ((m : ℕ) → fault ≡ Damaged m → (m ≡ n + 1) × ((e : ℕ × Reported) → IsToldEntry e → l ≡ told_line e → last_number es ≤ e.0 → ⊥))
    → ReadsFault (IsDamagedTold bytes) fault
read_failed bytes more l n es Memory d r all up w = tt
read_failed bytes more l n es (Damaged m) d r all up w =
    let due = w m refl in
    rw due.0 (line_damaged bytes more l n es d r all up due.1)
