-- Numbers that are counted up.
use Rattle.order_parts.proofs.Names.{[], ◌%◌, ◌++◌, ◌+◌, ◌<◌, ◌==◌, ◌∙◌, ◌∷◌, ◌≡◌, All, ap, append_assoc, arith, Bool, cond, eqb-true, false}
use Rattle.order_parts.proofs.Names.{IsSendable, length, length-append, line_under, lines_from, List, Meaning, number_behind, number_behind_all, refl}
use Rattle.order_parts.proofs.Names.{shown_from, suc, sym, take, true, zero, ℕ}
use Rattle.std.proofs.lemmas.Bool.{eqb-false}
use Rattle.std.proofs.lemmas.List.Elements.{All-take}
use Rattle.dme_line.specs.declared.tags.Tag.TheVariants.{Std}
use Rattle.dme_line.specs.Written.{written_command}
use Rattle.protocol_model.specs.declared.plans.Planned.{Planned}
use Rattle.protocol_model.specs.Plan.{plan}
use Rattle.protocol_model.specs.declared.plans.Start.TheVariants.{NewConnection}
use Rattle.order_parts.specs.Plan.{lines_behind, plan_text, shown_behind, shown_line}

-- the next number is that of one command more
number_step : (count : ℕ) (b : Bool) → (count % 9999 + 1 == 9999) ≡ b → cond b 1 (count % 9999 + 1 + 1) ≡ (count + 1) % 9999 + 1
number_step count true e = let h = eqb-true (count % 9999 + 1) 9999 e in omega arith
number_step count false e = let h = eqb-false (count % 9999 + 1) 9999 e in omega arith

-- counting up gives the tags of the plan
pub lines_counted : (count : ℕ) (ps : List Planned) → lines_from (count % 9999 + 1) ps ≡ lines_behind count ps
lines_counted count [] = refl
lines_counted count (p ∷ ps) =
    append_assoc (written_command (Std (count % 9999 + 1)) p.command) (10 ∷ []) (lines_from (number_behind (count % 9999 + 1)) ps)
    ∙ ap (λ (text : List ℕ). written_command (Std (count % 9999 + 1)) p.command ++ (10 ∷ text))
    (ap (λ (n : ℕ). lines_from n ps) (number_step count (count % 9999 + 1 == 9999) refl) ∙ lines_counted (count + 1) ps)

-- likewise as they are shown
pub shown_counted : (count : ℕ) (ps : List Planned) → shown_from (count % 9999 + 1) ps ≡ shown_behind count ps
shown_counted count [] = refl
shown_counted count (p ∷ ps) =
    ap (λ (text : List ℕ). shown_line (Std (count % 9999 + 1)) p.command ++ text)
    (ap (λ (n : ℕ). shown_from n ps) (number_step count (count % 9999 + 1 == 9999) refl) ∙ shown_counted (count + 1) ps)

-- text after other text, with a byte of its own
pub some_after : (front back : List ℕ) → 0 < length (front ++ 10 ∷ back)
some_after front back = let all : length (front ++ 10 ∷ back) ≡ length front + length (10 ∷ back) = length-append front (10 ∷ back)
    in omega arith

-- each plan has a line: it begins a session
pub plan_has_text : (text : List ℕ) (program : Meaning) → text ≡ plan_text program → 0 < length text
plan_has_text text program is = rw is (some_after _ _)

-- the first of commands can be sent where all can
pub first_are_sendable : (n : ℕ) (ps : List Planned) → All IsSendable ps → All IsSendable (take n ps)
first_are_sendable n ps all = All-take IsSendable n ps all

-- the lines of commands and then of others
pub lines_of_both : (n : ℕ) (ps qs : List Planned)
    → lines_from n (ps ++ qs) ≡ lines_from n ps ++ lines_from (number_behind_all n ps) qs
lines_of_both n [] qs = refl
lines_of_both n (p ∷ ps) qs =
    ap (λ (text : List ℕ). line_under n p.command ++ text) (lines_of_both (number_behind n) ps qs)
    ∙ sym (append_assoc (line_under n p.command) (lines_from (number_behind n) ps) (lines_from (number_behind_all (number_behind n) ps) qs))

-- a text and a number, with the lines of the commands that are left, are those after all commands
pub record IsFollowed (text : List ℕ) (number : ℕ) (left : List Planned) (before : List ℕ) (first : ℕ) (all : List Planned) : Type 0 where
  pub lines : text ++ lines_from number left ≡ before ++ lines_from first all
  pub numbers : number_behind_all number left ≡ number_behind_all first all

-- a text, with the lines of the commands that are left, is that of the plan
pub record IsMaking (program : Meaning) (text : List ℕ) (number : ℕ) (left : List Planned) : Type 0 where
  pub sendable : All IsSendable left
  pub lines : text ++ lines_from number left ≡ lines_from 1 (plan program 0 NewConnection)

-- the first commands can be sent, and then those that are left are left
pub front_is_sendable : (front back : List Planned) → All IsSendable (front ++ back) → All IsSendable front
front_is_sendable [] back all k d below = absurd (omega arith)
front_is_sendable (p ∷ front) back all zero d below = all zero d (omega arith)
front_is_sendable (p ∷ front) back all (suc k) d below =
    front_is_sendable front back (λ j e under. all (suc j) e (omega arith)) k d (omega arith)

pub back_is_sendable : (front back : List Planned) → All IsSendable (front ++ back) → All IsSendable back
back_is_sendable [] back all = all
back_is_sendable (p ∷ front) back all = back_is_sendable front back (λ k d below. all (suc k) d (omega arith))

pub are_taken : (program : Meaning) (text : List ℕ) (number : ℕ) (front back : List Planned) (next : List ℕ) (behind : ℕ)
    → IsMaking program text number (front ++ back) → next ≡ text ++ lines_from number front → behind ≡ number_behind_all number front
    → IsMaking program next behind back
are_taken program text number front back next behind making is at = record {
  sendable = back_is_sendable front back making.sendable;
  lines = rw is (rw at (append_assoc text (lines_from number front) (lines_from (number_behind_all number front) back)
      ∙ ap (λ (more : List ℕ). text ++ more) (sym (lines_of_both number front back)) ∙ making.lines));
}

pub all_are_taken : (program : Meaning) (text : List ℕ) (number : ℕ) (all : List Planned) (next : List ℕ)
    → IsMaking program text number all → next ≡ text ++ lines_from number all → next ≡ plan_text program
all_are_taken program text number all next making is = is ∙ making.lines ∙ lines_counted 0 (plan program 0 NewConnection)
