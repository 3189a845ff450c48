-- How far all commands are, with a line more, and which rule the end of a command breaks.
use Rattle.witness.proofs.JudgementNames.{◌&&◌, ◌+◌, ◌<◌, ◌==◌, ◌||◌, ◌∙◌, ◌∷◌, ◌≡◌, ◌≤◌, ap, arith, asks_under, Bool, command_rule}
use Rattle.witness.proofs.JudgementNames.{complete_rule, end_rule, eq-eqb, eqb-true, false, false≢true, first_barred, front, get_or}
use Rattle.witness.proofs.JudgementNames.{get_or_from_slice_get, halts, has_refused, Heard, if◌then◌else◌, is_abort, is_barred, is_clear, is_doubtful}
use Rattle.witness.proofs.JudgementNames.{is_halted, is_in_turn, is_open, is_queued, IsStanding, leaves_some, leb-false, leb-true}
use Rattle.witness.proofs.JudgementNames.{length, List, lt-ltb, ltb-false, ltb-true, mark_rule, nat_le, nat_lt, not, Option, reach_after, refl}
use Rattle.witness.proofs.JudgementNames.{Reply, Sent, slice_get, Some, Sought, Stage, stage_of, subst, sym, Tag, true, ℕ}
use Rattle.witness.proofs.JudgementNames.{found, is_some, Mark, Moment, use_after}
use Rattle.witness.proofs.Fronts.{front_grows, front_least}
use Rattle.witness.specs.ServerRules.{AreKnown}
use Rattle.witness.specs.JudgedUses.{has_end}
use Rattle.witness.specs.declared.course.Course.{Course}
use Rattle.witness.specs.declared.rules.Asks.{Asks}
use Rattle.witness.specs.declared.rules.Standing.{Standing}

at_false : (b : Bool) → (b ≡ true → ⊥) → b ≡ false
at_false true never = absurd (never refl)
at_false false never = refl

not_below : (n : ℕ) → nat_lt n n ≡ false
not_below n = at_false (nat_lt n n) (λ e. omega (arith, ltb-true n n e))

either : (at c r : ℕ) (b d : Bool) → nat_le at c ≡ b → nat_le r c ≡ d → (b || nat_lt at r) ≡ nat_lt at (if d then c + 1 else r)
either at c r true true is was = sym (lt-ltb at (c + 1) (omega (arith, leb-true at c is)))
either at c r true false is was = sym (lt-ltb at r (omega (arith, leb-true at c is, leb-false r c was)))
either at c r false true is was =
    at_false (nat_lt at r) (λ e. omega (arith, ltb-true at r e, leb-false at c is, leb-true r c was))
    ∙ sym (at_false (nat_lt at (c + 1)) (λ e. omega (arith, ltb-true at (c + 1) e, leb-false at c is)))
either at c r false false is was = refl

waits : (b : Bool) (w at c r : ℕ) → w < at → ((b && (nat_lt w at && nat_le at c)) || nat_lt at r) ≡ nat_lt at (reach_after b c r)
waits false w at c r short = refl
waits true w at c r short = ap (λ (b : Bool). (b && nat_le at c) || nat_lt at r) (lt-ltb w at short)
    ∙ either at c r (nat_le at c) (nat_le r c) refl refl

runs : (b o : Bool) (w c : ℕ) → ((b && (nat_lt w w && nat_le w c)) || o) ≡ o
runs false o w c = refl
runs true o w c = ap (λ (b : Bool). (b && nat_le w c) || o) (not_below w)

bars_by : (up : List Sent) (h : Heard) (above : List Heard) (s : Standing) (at : ℕ) → IsStanding up above s
    → is_barred up (h ∷ above) at ≡ ((halts h && (nat_lt s.waiting at && nat_le at s.clearing)) || is_barred up above at)
bars_by up h above s at are =
    ap (λ (n : ℕ). (halts h && (nat_lt n at && nat_le at (front Sought.Clearing up above))) || is_barred up above at) (sym are.waits)
    ∙ ap (λ (n : ℕ). (halts h && (nat_lt s.waiting at && nat_le at n)) || is_barred up above at) (sym are.clearing)

barred_later : (up : List Sent) (h : Heard) (above : List Heard) (s : Standing) (at : ℕ) → IsStanding up above s → s.waiting < at
    → is_barred up (h ∷ above) at ≡ nat_lt at (reach_after (halts h) s.clearing s.reach)
barred_later up h above s at are short = bars_by up h above s at are
    ∙ ap (λ (b : Bool). (halts h && (nat_lt s.waiting at && nat_le at s.clearing)) || b) (are.after at short)
    ∙ waits (halts h) s.waiting at s.clearing s.reach short

barred_now : (up : List Sent) (h : Heard) (above : List Heard) (s : Standing) → IsStanding up above s → is_barred up (h ∷ above) s.waiting ≡ s.barred
barred_now up h above s are = bars_by up h above s s.waiting are ∙ runs (halts h) (is_barred up above s.waiting) s.waiting s.clearing ∙ sym are.barred

apart : (n m : ℕ) → m ≤ n → (n ≡ m → ⊥) → m < n
apart n m low never = omega (arith, low, never)

first_is : (up : List Sent) (h : Heard) (above : List Heard) (s : Standing) (n reach : ℕ) → IsStanding up above s → s.waiting ≤ n
    → reach ≡ reach_after (halts h) s.clearing s.reach → (b : Bool) → (n == s.waiting) ≡ b
    → (if b then s.barred else nat_lt n reach) ≡ is_barred up (h ∷ above) n
first_is up h above s n reach are low is true same =
    sym (barred_now up h above s are) ∙ ap (is_barred up (h ∷ above)) (sym (eqb-true n s.waiting same))
first_is up h above s n reach are low is false same =
    ap (nat_lt n) is ∙ sym (barred_later up h above s n are (apart n s.waiting low (λ e. false≢true (sym same ∙ eq-eqb n s.waiting e))))

pub other_first : (now before reach : ℕ) (barred : Bool) → (now ≡ before → ⊥) → nat_lt now reach ≡ first_barred now before reach barred
other_first now before reach barred other =
    ap (λ (b : Bool). if b then barred else nat_lt now reach) (sym (at_false (now == before) (λ e. other (eqb-true now before e))))

later_than : (a b c : ℕ) → a ≤ b → b < c → a < c
later_than a b c low short = omega (arith, low, short)

pub stands : (up : List Sent) (h : Heard) (above : List Heard) (s new : Standing) → IsStanding up above s
    → new.waiting ≡ front Sought.Open up (h ∷ above) → new.unended ≡ front Sought.Unended up (h ∷ above)
    → new.clearing ≡ front Sought.Clearing up (h ∷ above) → new.reach ≡ reach_after (halts h) s.clearing s.reach
    → new.barred ≡ first_barred new.waiting s.waiting new.reach s.barred → IsStanding up (h ∷ above) new
stands up h above s new are waits unended clearing reach barred =
    let low : s.waiting ≤ new.waiting = omega (arith, front_grows Sought.Open up h above, are.waits, waits) in
    record {
      waits = waits;
      unended = unended;
      clearing = clearing;
      barred = barred ∙ first_is up h above s new.waiting new.reach are low reach (new.waiting == s.waiting) refl;
      after = λ at short. barred_later up h above s at are (later_than s.waiting new.waiting at low short) ∙ ap (nat_lt at) (sym reach);
    }

-- ---- what is kept of the lines above

pub known_place : (up : List Sent) (above : List Heard) (c : Course) (s : Standing) (t : Tag) → AreKnown up above c s
    → found c.ends.items t ≡ use_after Mark.Complete up above t
known_place up above c s t are = are.course.links.ends t

pub known_doubt : (up : List Sent) (above : List Heard) (c : Course) (s : Standing) (t : Tag) → AreKnown up above c s
    → (is_some (found c.closed.items t) && nat_lt 0 c.moment.refusals) ≡ is_doubtful above t
known_doubt up above c s t are = ap (λ (o : Option ℕ). is_some o && nat_lt 0 c.moment.refusals) (are.course.links.closed t)
    ∙ ap (λ (m : Moment). has_end t above && nat_lt 0 m.refusals) are.course.so_far

-- ---- the end of a command

end_alike : (turn b c left : Bool) → (turn ≡ true → b ≡ c) → end_rule turn b left ≡ end_rule turn c left
end_alike true b c left same = ap (λ (d : Bool). end_rule true d left) (same refl)
end_alike false b c left same = refl

complete_alike : (s : Stage) (a : Asks) (turn b c left : Bool) → (is_open s ≡ true → turn ≡ true → b ≡ c)
    → complete_rule s a (end_rule turn b left) ≡ complete_rule s a (end_rule turn c left)
complete_alike Stage.Sent a turn b c left same = refl
complete_alike Stage.Received a turn b c left same = ap (complete_rule Stage.Received a) (end_alike turn b c left (same refl))
complete_alike Stage.Given a turn b c left same = end_alike turn b c left (same refl)
complete_alike Stage.Failed a turn b c left same = refl
complete_alike Stage.Ended a turn b c left same = refl

alike : (s : Stage) (a : Asks) (turn b c left : Bool) (r : Reply) → (is_open s ≡ true → turn ≡ true → b ≡ c)
    → mark_rule s a turn (end_rule turn b left) r ≡ mark_rule s a turn (end_rule turn c left) r
alike s a turn b c left Reply.Received same = refl
alike s a turn b c left (Reply.Given d) same = refl
alike s a turn b c left Reply.Complete same = complete_alike s a turn b c left same
alike s a turn b c left (Reply.Error w) same = refl

not_over : (f at : ℕ) → not (nat_lt f at) ≡ true → at ≤ f
not_over f at is = go (nat_lt f at) refl is
  where
    go : (b : Bool) → nat_lt f at ≡ b → not b ≡ true → at ≤ f
    go true e is = absurd (false≢true is)
    go false e is = ltb-false f at e

one_place : (f at : ℕ) → f ≤ at → at ≤ f → f ≡ at
one_place f at low high = omega (arith, low, high)

barred_alike : (q ab clear k : Bool) (f at : ℕ) (barred : ℕ → Bool) → (q ≡ true → f ≤ at)
    → (not (q || ab) || (k || not (nat_lt f at))) ≡ true → ((q && not clear) && (not k && barred f)) ≡ ((q && not clear) && (not k && barred at))
barred_alike false ab clear k f at barred low turn = refl
barred_alike true ab clear true f at barred low turn = refl
barred_alike true ab clear false f at barred low turn =
    ap (λ (n : ℕ). not clear && barred n) (one_place f at (low refl) (not_over f at turn))

both : (a b : Bool) → a ≡ true → b ≡ true → (a && b) ≡ true
both true b one two = two
both false b one two = absurd (false≢true one)

-- an error that bars the first command that is open bars the one that ends
first_ends_at : (up : List Sent) (above : List Heard) (t : Tag) (r : Reply) (at : ℕ) (d : Sent) → at < length up
    → mark_rule (stage_of up above at) (asks_under (is_doubtful above t) (get_or up at d)) (is_in_turn up above at (get_or up at d))
    (end_rule (is_in_turn up above at (get_or up at d)) (is_halted up above (front Sought.Open up above) (get_or up at d)) (leaves_some up above at (get_or up at d))) r
    ≡ command_rule up above t r at (get_or up at d)
first_ends_at up above t r at d short =
    alike (stage_of up above at) (asks_under (is_doubtful above t) (get_or up at d)) (is_in_turn up above at (get_or up at d)) _ _
    (leaves_some up above at (get_or up at d)) r
    (λ still turn. barred_alike (is_queued (get_or up at d)) (is_abort (get_or up at d)) (is_clear (get_or up at d)) (has_refused above)
    (front Sought.Open up above) at (is_barred up above)
    (λ queued. front_least Sought.Open up above at d short (both (is_queued (get_or up at d)) (is_open (stage_of up above at)) queued still)) turn)

pub first_ends : (up : List Sent) (above : List Heard) (t : Tag) (r : Reply) (at : ℕ) (line : Sent) → slice_get up at ≡ Some line → at < length up
    → mark_rule (stage_of up above at) (asks_under (is_doubtful above t) line) (is_in_turn up above at line)
    (end_rule (is_in_turn up above at line) (is_halted up above (front Sought.Open up above) line) (leaves_some up above at line)) r
    ≡ command_rule up above t r at line
first_ends up above t r at line there short =
    subst (λ (s : Sent). mark_rule (stage_of up above at) (asks_under (is_doubtful above t) s) (is_in_turn up above at s)
    (end_rule (is_in_turn up above at s) (is_halted up above (front Sought.Open up above) s) (leaves_some up above at s)) r
    ≡ command_rule up above t r at s) (get_or_from_slice_get up at line line there) (first_ends_at up above t r at line short)
