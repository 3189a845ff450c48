-- Bytes that come in an order.
use Rattle.watched_ends.proofs.Names.{[], ◌++◌, ◌+◌, ◌<◌, ◌∙◌, ◌∷◌, ◌≡◌, ◌≤◌, AllByRecursion, ap, append-nil, append_assoc, arith, begun, bytes_of}
use Rattle.watched_ends.proofs.Names.{client, client_came, drop, get_or, header, IsNoOrder, IsPiece, IsRead, length, length-drop, Limited, List, map}
use Rattle.watched_ends.proofs.Names.{piece_line, Pieces, refl, Relayed, server, server_came, Side, subst, sym, take, take_all, whole_lines, with_down}
use Rattle.watched_ends.proofs.Names.{with_up, ℕ}
use Rattle.std.specs.Prelude.{◌-◌}
use Rattle.std.proofs.lemmas.List.{drop_all, drop_more, take-append-drop, take_more}
use Rattle.std.proofs.Math.Seq.{length-take-le}
use Rattle.witness.specs.declared.lines.Side.TheVariants.{Client, Server}

pub came_up : (first : Limited) (pieces : Pieces) (up down bytes : List ℕ) (count : ℕ) (r new : Limited) → Relayed first pieces up down r
    → length bytes ≡ count → IsRead (client_came r bytes) new → Relayed first (with_up pieces count) (up ++ bytes) down new
came_up first pieces up down bytes count r new before long read =
    subst (λ (n : ℕ). Relayed first (with_up pieces n) (up ++ bytes) down new) long (client pieces up down bytes r new before read)

pub came_down : (first : Limited) (pieces : Pieces) (up down bytes : List ℕ) (count : ℕ) (r new : Limited) → Relayed first pieces up down r
    → length bytes ≡ count → IsRead (server_came r bytes) new → Relayed first (with_down pieces count) up (down ++ bytes) new
came_down first pieces up down bytes count r new before long read =
    subst (λ (n : ℕ). Relayed first (with_down pieces n) up (down ++ bytes) new) long (server pieces up down bytes r new before read)

abbrev head : List ℕ → List (List ℕ) → List ℕ
head d [] = d
head d (line ∷ lines) = line

abbrev rest : List (List ℕ) → List (List ℕ)
rest [] = []
rest (line ∷ lines) = lines

-- a line that is not that of a piece is not among the lines of pieces
no_piece : (line : List ℕ) (after : List (List ℕ)) (first pieces : Pieces) → ((p : Side × ℕ) → IsPiece p × (line ≡ piece_line p) → ⊥)
    → AllByRecursion IsPiece pieces → map piece_line first ++ line ∷ after ≡ map piece_line pieces → ⊥
no_piece line after [] [] none all e = absurd cc
no_piece line after [] (p ∷ pieces) none all e = none p (all.0, ap (head line) e)
no_piece line after (q ∷ first) [] none all e = absurd cc
no_piece line after (q ∷ first) (p ∷ pieces) none all e = no_piece line after first pieces none all.1 (ap rest e)

pub no_order : (text line : List ℕ) (after : List (List ℕ)) (first : Pieces) → header ∷ (map piece_line first ++ line ∷ after) ≡ whole_lines text
    → ((p : Side × ℕ) → IsPiece p × (line ≡ piece_line p) → ⊥) → IsNoOrder text
no_order text line after first is none pieces all order = no_piece line after first pieces none all (ap rest (is ∙ order))

-- ---- pieces, one after another

-- the first pieces have come, and the others have the bytes that are left
pub record IsOnTheWay (first : Limited) (pieces : Pieces) (at : ℕ) (up down up_left down_left : List ℕ) (r : Limited) : Type 0 where
  pub up_came : List ℕ
  pub down_came : List ℕ
  pub up_parts : up ≡ up_came ++ up_left
  pub down_parts : down ≡ down_came ++ down_left
  pub relayed : Relayed first (take at pieces) up_came down_came r
  pub up_bytes : bytes_of Client (drop at pieces) ≡ length up_left
  pub down_bytes : bytes_of Server (drop at pieces) ≡ length down_left

next_piece : (pieces : Pieces) (at : ℕ) (d p : Side × ℕ) → at < length pieces → get_or pieces at d ≡ p → drop at pieces ≡ p ∷ drop (at + 1) pieces
next_piece pieces at d p short is = drop_more pieces at d short ∙ ap (λ (q : Side × ℕ). q ∷ drop (at + 1) pieces) is

pub fits_up : (pieces : Pieces) (at count : ℕ) (d : Side × ℕ) (left : List ℕ) → at < length pieces → get_or pieces at d ≡ (Client, count)
    → bytes_of Client (drop at pieces) ≡ length left → count ≤ length left
fits_up pieces at count d left short is bytes =
    let all : count + bytes_of Client (drop (at + 1) pieces) ≡ length left =
    sym (ap (bytes_of Client) (next_piece pieces at d (Client, count) short is)) ∙ bytes in
    omega (arith, all)

pub fits_down : (pieces : Pieces) (at count : ℕ) (d : Side × ℕ) (left : List ℕ) → at < length pieces → get_or pieces at d ≡ (Server, count)
    → bytes_of Server (drop at pieces) ≡ length left → count ≤ length left
fits_down pieces at count d left short is bytes =
    let all : count + bytes_of Server (drop (at + 1) pieces) ≡ length left =
    sym (ap (bytes_of Server) (next_piece pieces at d (Server, count) short is)) ∙ bytes in
    omega (arith, all)

taken_piece : (pieces : Pieces) (at : ℕ) (d p : Side × ℕ) → at < length pieces → get_or pieces at d ≡ p → take at pieces ++ p ∷ [] ≡ take (at + 1) pieces
taken_piece pieces at d p short is = sym (take_more pieces at d short ∙ ap (λ (q : Side × ℕ). take at pieces ++ q ∷ []) is)

pub one_up : (first : Limited) (pieces : Pieces) (at count : ℕ) (d : Side × ℕ) (up down up_left down_left bytes left : List ℕ) (r new : Limited)
    → IsOnTheWay first pieces at up down up_left down_left r → at < length pieces → get_or pieces at d ≡ (Client, count)
    → bytes ≡ take count up_left → left ≡ drop count up_left → IsRead (client_came r bytes) new
    → IsOnTheWay first pieces (at + 1) up down left down_left new
one_up first pieces at count d up down up_left down_left bytes left r new w short is bytes_are left_is read =
    let fits : count ≤ length up_left = fits_up pieces at count d up_left short is w.up_bytes in
    let long : length bytes ≡ count = ap (λ (l : List ℕ). length l) bytes_are ∙ length-take-le count up_left fits in
    let parts : up_left ≡ bytes ++ left = sym (take-append-drop count up_left) ∙ ap (λ (l : List ℕ). l ++ drop count up_left) (sym bytes_are)
    ∙ ap (λ (l : List ℕ). bytes ++ l) (sym left_is) in
    let up_all : count + bytes_of Client (drop (at + 1) pieces) ≡ length up_left =
    sym (ap (bytes_of Client) (next_piece pieces at d (Client, count) short is)) ∙ w.up_bytes in
    let down_all : 0 + bytes_of Server (drop (at + 1) pieces) ≡ length down_left =
    sym (ap (bytes_of Server) (next_piece pieces at d (Client, count) short is)) ∙ w.down_bytes in
    let left_long : length left ≡ length up_left - count = ap (λ (l : List ℕ). length l) left_is ∙ length-drop count up_left in
    record {
      up_came = w.up_came ++ bytes;
      down_came = w.down_came;
      up_parts = w.up_parts ∙ ap (λ (l : List ℕ). w.up_came ++ l) parts ∙ sym (append_assoc w.up_came bytes left);
      down_parts = w.down_parts;
      relayed = subst (λ (ps : Pieces). Relayed first ps (w.up_came ++ bytes) w.down_came new) (taken_piece pieces at d (Client, count) short is)
          (came_up first (take at pieces) w.up_came w.down_came bytes count r new w.relayed long read);
      up_bytes = omega (arith, up_all, left_long);
      down_bytes = omega (arith, down_all);
    }

pub one_down : (first : Limited) (pieces : Pieces) (at count : ℕ) (d : Side × ℕ) (up down up_left down_left bytes left : List ℕ) (r new : Limited)
    → IsOnTheWay first pieces at up down up_left down_left r → at < length pieces → get_or pieces at d ≡ (Server, count)
    → bytes ≡ take count down_left → left ≡ drop count down_left → IsRead (server_came r bytes) new
    → IsOnTheWay first pieces (at + 1) up down up_left left new
one_down first pieces at count d up down up_left down_left bytes left r new w short is bytes_are left_is read =
    let fits : count ≤ length down_left = fits_down pieces at count d down_left short is w.down_bytes in
    let long : length bytes ≡ count = ap (λ (l : List ℕ). length l) bytes_are ∙ length-take-le count down_left fits in
    let parts : down_left ≡ bytes ++ left = sym (take-append-drop count down_left) ∙ ap (λ (l : List ℕ). l ++ drop count down_left) (sym bytes_are)
    ∙ ap (λ (l : List ℕ). bytes ++ l) (sym left_is) in
    let down_all : count + bytes_of Server (drop (at + 1) pieces) ≡ length down_left =
    sym (ap (bytes_of Server) (next_piece pieces at d (Server, count) short is)) ∙ w.down_bytes in
    let up_all : 0 + bytes_of Client (drop (at + 1) pieces) ≡ length up_left =
    sym (ap (bytes_of Client) (next_piece pieces at d (Server, count) short is)) ∙ w.up_bytes in
    let left_long : length left ≡ length down_left - count = ap (λ (l : List ℕ). length l) left_is ∙ length-drop count down_left in
    record {
      up_came = w.up_came;
      down_came = w.down_came ++ bytes;
      up_parts = w.up_parts;
      down_parts = w.down_parts ∙ ap (λ (l : List ℕ). w.down_came ++ l) parts ∙ sym (append_assoc w.down_came bytes left);
      relayed = subst (λ (ps : Pieces). Relayed first ps w.up_came (w.down_came ++ bytes) new) (taken_piece pieces at d (Server, count) short is)
          (came_down first (take at pieces) w.up_came w.down_came bytes count r new w.relayed long read);
      up_bytes = omega (arith, up_all);
      down_bytes = omega (arith, down_all, left_long);
    }

no_bytes : (left : List ℕ) → 0 ≡ length left → left ≡ []
no_bytes [] none = refl
no_bytes (byte ∷ left) none = absurd (omega (arith, none))

pub all_came : (first : Limited) (pieces : Pieces) (at : ℕ) (up down up_left down_left : List ℕ) (r : Limited)
    → IsOnTheWay first pieces at up down up_left down_left r → length pieces ≤ at → Relayed first pieces up down r
all_came first pieces at up down up_left down_left r w end =
    let none = drop_all at pieces end in
    let up_is : up ≡ w.up_came = w.up_parts
    ∙ ap (λ (l : List ℕ). w.up_came ++ l) (no_bytes up_left (sym (ap (bytes_of Client) none) ∙ w.up_bytes)) ∙ append-nil w.up_came in
    let down_is : down ≡ w.down_came = w.down_parts
    ∙ ap (λ (l : List ℕ). w.down_came ++ l) (no_bytes down_left (sym (ap (bytes_of Server) none) ∙ w.down_bytes)) ∙ append-nil w.down_came in
    subst (λ (ps : Pieces). Relayed first ps up down r) (take_all at pieces end)
    (subst (λ (l : List ℕ). Relayed first (take at pieces) l down r) (sym up_is)
    (subst (λ (l : List ℕ). Relayed first (take at pieces) w.up_came l r) (sym down_is) w.relayed))
