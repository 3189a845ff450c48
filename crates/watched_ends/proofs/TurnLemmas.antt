-- Lines of the client are read when a response needs them.
use Rattle.watched_ends.proofs.Names.{[], ◌++◌, ◌+◌, ◌<◌, ◌∙◌, ◌∷◌, ◌≡◌, ◌≤◌, ap, append-nil, append_assoc, AreQuiet, AreTaken, arith, at_once_line}
use Rattle.watched_ends.proofs.Names.{client_line, Down, downs, drop, drop-length, Err, false, get_or, get_or-drop, has_failed_under, is_open}
use Rattle.watched_ends.proofs.Names.{IsAnswer, IsBehind, IsCausal, IsClear, IsSure, ledger, length, length-drop, Line, List, map, Ok, refl}
use Rattle.watched_ends.proofs.Names.{response_of, said, said_all, server_line, signal_of, some_at_once, some_sends, subst, sym, Tag, take}
use Rattle.watched_ends.proofs.Names.{take-length, true, Up, ups, ℕ}
use Rattle.std.proofs.lemmas.List.{drop_more, take_more}
use Rattle.dme_line.specs.Responses.{ReadsResponse}
use Rattle.dme_line.specs.declared.responses.Mark.{Mark}
use Rattle.dme_line.specs.declared.responses.NotResponse.{NotResponse}
use Rattle.witness.proofs.Readings.{one_response}
use Rattle.witness.specs.Dialogues.{after, Dialogue, silence}
use Rattle.witness.specs.Marks.{is_end}
use Rattle.witness_laws.proofs.orders.Claimed.{downs_append, ups_append}
use Rattle.witness_laws.proofs.orders.Commands.{ups_are_causal}
use Rattle.witness_laws.proofs.orders.Sorting.{all_append, same_told}
use Rattle.watched_ends.proofs.PlaceLemmas.{none_any}

-- ---- a line of the client

ups_are_clear : (d : Dialogue) (up : List (List ℕ)) → IsClear d (map Up up)
ups_are_clear d [] = tt
ups_are_clear d (line ∷ up) = ups_are_clear (said d (Up line)) up

pub none_taken : (up : List (List ℕ)) → AreTaken up 0 [] (silence false)
none_taken up = record {
  lines = [];
  dialogue = refl;
  ups_are = refl;
  downs_are = refl;
  causal = ups_are_causal (silence false) up;
  clear = ups_are_clear (silence false) up;
}

pub taken_up : (up : List (List ℕ)) (next : ℕ) (down : List (List ℕ)) (d : Dialogue) (line : List ℕ) → AreTaken up next down d
    → line ≡ get_or up next [] → next < length up → AreTaken up (next + 1) down (after d (client_line line))
taken_up up next down d line t is short =
    let order : t.lines ++ map Up (drop next up) ≡ (t.lines ++ Up line ∷ []) ++ map Up (drop (next + 1) up) =
    ap (λ (l : List (List ℕ)). t.lines ++ map Up l) (drop_more up next [] short)
    ∙ ap (λ (l : List ℕ). t.lines ++ Up l ∷ map Up (drop (next + 1) up)) (sym is)
    ∙ sym (append_assoc t.lines (Up line ∷ []) (map Up (drop (next + 1) up))) in
    record {
      lines = t.lines ++ Up line ∷ [];
      dialogue = ap (λ (x : Dialogue). said x (Up line)) t.dialogue ∙ sym (all_append (silence false) t.lines (Up line ∷ []));
      ups_are = ups_append t.lines (Up line ∷ []) ∙ ap (λ (l : List (List ℕ)). l ++ line ∷ []) t.ups_are
          ∙ ap (λ (l : List ℕ). take next up ++ l ∷ []) is ∙ sym (take_more up next [] short);
      downs_are = downs_append t.lines (Up line ∷ []) ∙ append-nil (downs t.lines) ∙ t.downs_are;
      causal = subst (IsCausal (silence false)) order t.causal;
      clear = subst (IsClear (silence false)) order t.clear;
    }

-- no line is left
pub none_left : (up : List (List ℕ)) (n : ℕ) → n ≡ length up → drop n up ≡ []
none_left up n all = ap (λ (m : ℕ). drop m up) all ∙ drop-length up

-- ---- a line of the server

only_ups : (up : List (List ℕ)) → ups (map Up up) ≡ up
only_ups [] = refl
only_ups (line ∷ up) = ap (λ (l : List (List ℕ)). line ∷ l) (only_ups up)

same_ups : (lines : List Line) (later : List (List ℕ)) (line : List ℕ)
    → ups (lines ++ map Up later) ≡ ups ((lines ++ Down line ∷ []) ++ map Up later)
same_ups [] later line = refl
same_ups (Up up ∷ lines) later line = ap (λ (l : List (List ℕ)). up ∷ l) (same_ups lines later line)
same_ups (Down down ∷ lines) later line = same_ups lines later line

causal_down : (d : Dialogue) (lines : List Line) (later : List (List ℕ)) (line : List ℕ) → IsCausal d (lines ++ map Up later)
    → IsBehind (said_all d lines).uses later (response_of line) → IsCausal d ((lines ++ Down line ∷ []) ++ map Up later)
causal_down d [] later line causal behind =
    (subst (λ (l : List (List ℕ)). IsBehind d.uses l (response_of line)) (sym (only_ups later)) behind, ups_are_causal (said d (Down line)) later)
causal_down d (Up up ∷ lines) later line causal behind = causal_down (said d (Up up)) lines later line causal behind
causal_down d (Down down ∷ lines) later line causal behind = (
  subst (λ (l : List (List ℕ)). IsBehind d.uses l (response_of down)) (same_ups lines later line) causal.0,
  causal_down (said d (Down down)) lines later line causal.1 behind,
)

clear_down : (d : Dialogue) (lines : List Line) (later : List (List ℕ)) (line : List ℕ) → IsClear d (lines ++ map Up later)
    → some_at_once later ≡ false → IsSure (said_all d lines).uses later (response_of line) → IsClear d ((lines ++ Down line ∷ []) ++ map Up later)
clear_down d [] later line clear quiet sure = (
  ap some_at_once (only_ups later) ∙ quiet,
  subst (λ (l : List (List ℕ)). IsSure d.uses l (response_of line)) (sym (only_ups later)) sure,
  ups_are_clear (said d (Down line)) later,
)
clear_down d (Up up ∷ lines) later line clear quiet sure = clear_down (said d (Up up)) lines later line clear quiet sure
clear_down d (Down down ∷ lines) later line clear quiet sure = (
  ap some_at_once (sym (same_ups lines later line)) ∙ clear.0,
  subst (λ (l : List (List ℕ)). IsSure d.uses l (response_of down)) (same_ups lines later line) clear.1,
  clear_down (said d (Down down)) lines later line clear.2 quiet sure,
)

quiet_later : (up : List (List ℕ)) (place next : ℕ) → AreQuiet up (length up) place → place ≤ next → some_at_once (drop next up) ≡ false
quiet_later up place next quiet later = none_any at_once_line (drop next up) (λ at short.
    ap at_once_line (get_or-drop next up at []) ∙ quiet.each (next + at) (omega (arith, short, length-drop next up)) (omega (arith, later)))

taken_line : (up : List (List ℕ)) (place next : ℕ) (down : List (List ℕ)) (d : Dialogue) (line : List ℕ) → AreTaken up next down d
    → AreQuiet up (length up) place → place ≤ next → IsBehind d.uses (drop next up) (response_of line)
    → IsSure d.uses (drop next up) (response_of line) → AreTaken up next (down ++ line ∷ []) (after d (server_line line))
taken_line up place next down d line t quiet later behind sure = record {
  lines = t.lines ++ Down line ∷ [];
  dialogue = ap (λ (x : Dialogue). said x (Down line)) t.dialogue ∙ sym (all_append (silence false) t.lines (Down line ∷ []));
  ups_are = ups_append t.lines (Down line ∷ []) ∙ append-nil (ups t.lines) ∙ t.ups_are;
  downs_are = downs_append t.lines (Down line ∷ []) ∙ ap (λ (l : List (List ℕ)). l ++ line ∷ []) t.downs_are;
  causal = causal_down (silence false) t.lines (drop next up) line t.causal
      (subst (λ (x : Dialogue). IsBehind x.uses (drop next up) (response_of line)) t.dialogue behind);
  clear = clear_down (silence false) t.lines (drop next up) line t.clear (quiet_later up place next quiet later)
      (subst (λ (x : Dialogue). IsSure x.uses (drop next up) (response_of line)) t.dialogue sure);
}

pub taken_down : (up : List (List ℕ)) (place next : ℕ) (down : List (List ℕ)) (d : Dialogue) (line : List ℕ) (tag : Tag) (mark : Mark)
    → AreTaken up next down d → AreQuiet up (length up) place → place ≤ next → IsAnswer line tag mark
    → (is_open tag d.uses ≡ false → some_sends tag (drop next up) ≡ false)
    → (is_end (signal_of mark) ≡ true → has_failed_under tag d.uses ≡ true → some_sends tag (drop next up) ≡ false)
    → AreTaken up next (down ++ line ∷ []) (after d (server_line line))
taken_down up place next down d line tag mark t quiet later is behind sure =
    taken_line up place next down d line t quiet later
    (subst (IsBehind d.uses (drop next up)) (sym is.reads) behind) (subst (IsSure d.uses (drop next up)) (sym is.reads) sure)

-- a line is a response, or none
pub answer_is : (line : List ℕ) (tag : Tag) (mark : Mark) → ReadsResponse line (Ok (record { tag = tag; mark = mark })) → IsAnswer line tag mark
answer_is line tag mark read = record { reads = one_response line (Ok (record { tag = tag; mark = mark })) read }

pub other_is : (line : List ℕ) (why : NotResponse) → ReadsResponse line (Err why) → response_of line ≡ Err why
other_is line why read = one_response line (Err why) read

pub taken_other : (up : List (List ℕ)) (place next : ℕ) (down : List (List ℕ)) (d : Dialogue) (line : List ℕ) (why : NotResponse)
    → AreTaken up next down d → AreQuiet up (length up) place → place ≤ next → response_of line ≡ Err why
    → AreTaken up next (down ++ line ∷ []) (after d (server_line line))
taken_other up place next down d line why t quiet later is =
    taken_line up place next down d line t quiet later
    (subst (IsBehind d.uses (drop next up)) (sym is) tt) (subst (IsSure d.uses (drop next up)) (sym is) tt)

-- ---- all lines

pub all_taken : (up down : List (List ℕ)) (d : Dialogue) → AreTaken up (length up) down d → d.reported ≡ (ledger up down).reported
all_taken up down d t =
    let order : t.lines ++ map Up (drop (length up) up) ≡ t.lines =
    ap (λ (l : List (List ℕ)). t.lines ++ map Up l) (drop-length up) ∙ append-nil t.lines in
    ap (λ (x : Dialogue). x.reported) t.dialogue
    ∙ same_told t.lines (subst (IsCausal (silence false)) order t.causal) (subst (IsClear (silence false)) order t.clear)
    ∙ ap (λ (l : List (List ℕ)). (ledger l (downs t.lines)).reported) (t.ups_are ∙ take-length up)
    ∙ ap (λ (l : List (List ℕ)). (ledger up l).reported) t.downs_are
