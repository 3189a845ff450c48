-- What a server has done is counted by its lines.
use Rattle.witness.proofs.JudgementNames.{[], ◌+◌, ◌∷◌, ◌≤◌, arith, Bool, busy, busy_after, Event, false, Heard, if◌then◌else◌, length}
use Rattle.witness.proofs.JudgementNames.{length-reverse, List, refusals, refuses, Reply, reverse, Std, true, ℕ}

busy_more : (n : ℕ) (h : Heard) → busy_after n h ≤ n + 1
busy_more n Heard.Other = omega arith
busy_more n (Heard.Response (Std t) Reply.Received) = omega arith
busy_more n (Heard.Response (Std t) (Reply.Given d)) = omega arith
busy_more n (Heard.Response (Std t) Reply.Complete) = omega arith
busy_more n (Heard.Response (Std t) (Reply.Error s)) = omega arith
busy_more n (Heard.Response (Event t) Reply.Received) = omega arith
busy_more n (Heard.Response (Event t) (Reply.Given d)) = omega arith
busy_more n (Heard.Response (Event t) Reply.Complete) = omega arith
busy_more n (Heard.Response (Event t) (Reply.Error s)) = omega arith

pub busy_within : (above : List Heard) → busy above ≤ length above
busy_within [] = omega arith
busy_within (h ∷ above) = omega (arith, busy_within above, busy_more (busy above) h)

pub few_busy : (lines : List Heard) → busy (reverse lines) ≤ length lines
few_busy lines = omega (arith, busy_within (reverse lines), length-reverse lines)

refusals_within : (above : List Heard) → refusals above ≤ length above
refusals_within [] = omega arith
refusals_within (h ∷ above) = by (refuses h) (refusals_within above)
  where
    by : (b : Bool) → refusals above ≤ length above → (if b then refusals above + 1 else refusals above) ≤ length (h ∷ above)
    by true ih = omega (arith, ih)
    by false ih = omega (arith, ih)

pub few_refused : (lines : List Heard) → refusals (reverse lines) ≤ length lines
few_refused lines = omega (arith, refusals_within (reverse lines), length-reverse lines)
