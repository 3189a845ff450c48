-- The commands that are open at a witness, and for which of them it hears a written line of a server.
use Rattle.witness_laws.proofs.Names.{◌++◌, ◌==◌, ◌||◌, ◌∙◌, ◌∷◌, ◌≡◌, [], after, after_mark, all_renewed, answered, answered_known, ap}
use Rattle.witness_laws.proofs.Names.{AreCounted, Bool, Dialogue, eq-eqb, false, first_under, Heard, heard_as, heard_at, heard_under, if_false}
use Rattle.witness_laws.proofs.Names.{if_true, is_end, is_error, is_open, IsWritableReply, Known, last_under, left_over, length, List, list_any, map}
use Rattle.witness_laws.proofs.Names.{Mark, None, or_parts, refl, remove, Renewal, Reply, reply_read, reply_text, response_for, SentCommand}
use Rattle.witness_laws.proofs.Names.{server_answered, server_line, Signal, signal_of, Stage, stage_with, subst, sym, Tag, tag_is, tag_is-refl, true}
use Rattle.witness_laws.proofs.Names.{Use, use_heard, use_renewed, ℕ}
use Rattle.witness_laws.proofs.orders.Counts.{line_is, none_before, none_after}
use Rattle.witness_laws.proofs.orders.Marks.{nowhere, marks_first}
use Rattle.witness_laws.proofs.orders.Swaps.{last_none}

-- ---- open commands

-- a command that is open, but for its line and what is known for it
pub record Shape : Type 0 where
  pub tag : Tag
  pub asked : SentCommand
  pub stage : Stage
  pub failed : Bool

abbrev pub opened : Tag → SentCommand → Stage → Shape
opened tag asked stage = record { tag = tag; asked = asked; stage = stage; failed = false }

-- the command itself; none was open under its tag when it was sent
abbrev pub used : Shape → ℕ → Known → Use
used x n k = record { tag = x.tag; command = x.asked; line = n; stage = x.stage; has_failed = x.failed; rival = None; known = k }

abbrev pub AreShaped : List Shape → List Use → Type 0
AreShaped [] [] = Unit {0}
AreShaped (x ∷ xs) (u ∷ us) = (u ≡ used x u.line u.known) × AreShaped xs us
AreShaped _ _ = ⊥

-- none of these commands is open under this tag
abbrev pub HaveOthers : Tag → List Shape → Type 0
HaveOthers tag [] = Unit {0}
HaveOthers tag (x ∷ xs) = (tag_is x.tag tag ≡ false) × HaveOthers tag xs

-- what becomes of a command by what happens to the changes above it
abbrev pub renews : Renewal → List Use → List Use
renews r us = map (use_renewed (all_renewed r)) us

pub shaped_renewed : (f : Known → Known) (xs : List Shape) (us : List Use) → AreShaped xs us → AreShaped xs (map (use_renewed f) us)
shaped_renewed f [] [] h = tt
shaped_renewed f [] (u ∷ us) h = absurd h
shaped_renewed f (x ∷ xs) [] h = absurd h
shaped_renewed f (x ∷ xs) (u ∷ us) h = (ap (use_renewed f) h.0, shaped_renewed f xs us h.1)

pub shaped_join : (xs ys : List Shape) (us vs : List Use) → AreShaped xs us → AreShaped ys vs → AreShaped (xs ++ ys) (us ++ vs)
shaped_join [] ys [] vs h g = g
shaped_join [] ys (u ∷ us) vs h g = absurd h
shaped_join (x ∷ xs) ys [] vs h g = absurd h
shaped_join (x ∷ xs) ys (u ∷ us) vs h g = (h.0, shaped_join xs ys us vs h.1 g)

-- a command among others
pub record Split (before : List Shape) (x : Shape) (after : List Shape) (us : List Use) : Type 0 where
  pub b : List Use
  pub a : List Use
  pub n : ℕ
  pub k : Known
  pub parts : us ≡ b ++ used x n k ∷ a
  pub front : AreShaped before b
  pub back : AreShaped after a

pub split : (before : List Shape) (x : Shape) (after : List Shape) (us : List Use) → AreShaped (before ++ x ∷ after) us → Split before x after us
split [] x after [] h = absurd h
split [] x after (u ∷ us) h = record {
  b = [];
  a = us;
  n = u.line;
  k = u.known;
  parts = ap (λ (v : Use). v ∷ us) h.0;
  front = tt;
  back = h.1;
}
split (y ∷ before) x after [] h = absurd h
split (y ∷ before) x after (u ∷ us) h =
    let rest : Split before x after us = split before x after us h.1 in record {
      b = u ∷ Split.b rest;
      a = Split.a rest;
      n = Split.n rest;
      k = Split.k rest;
      parts = ap (λ (l : List Use). u ∷ l) (Split.parts rest);
      front = (h.0, Split.front rest);
      back = Split.back rest;
    }

-- ---- the place of a command

other_tags : (tag : Tag) (xs : List Shape) (us : List Use) → AreShaped xs us → HaveOthers tag xs → is_open tag us ≡ false
other_tags tag [] [] h others = refl
other_tags tag [] (u ∷ us) h others = absurd h
other_tags tag (x ∷ xs) [] h others = absurd h
other_tags tag (x ∷ xs) (u ∷ us) h others =
    ap (λ (b : Bool). b || is_open tag us) (ap (λ (v : Use). tag_is v.tag tag) h.0 ∙ others.0) ∙ other_tags tag xs us h.1 others.1

pub not_found : (tag : Tag) (xs : List Shape) (us : List Use) → AreShaped xs us → HaveOthers tag xs → first_under tag us ≡ None
not_found tag xs us h others = nowhere (λ (v : Use). tag_is v.tag tag) us (other_tags tag xs us h others)

pub none_under : (tag : Tag) (xs : List Shape) (us : List Use) → AreShaped xs us → HaveOthers tag xs → last_under tag us None ≡ None
none_under tag xs us h others = last_none tag us None (other_tags tag xs us h others)

-- ---- a mark for a command

-- a written line that can be read is heard as its mark
pub said_is : (d : Dialogue) (r : Reply) → IsWritableReply r
    → after d (server_line (reply_text r))
    ≡ heard_under d (reply_text r) (response_for r).tag (signal_of (response_for r).mark) (first_under (response_for r).tag d.uses)
said_is d r w = ap (λ o. server_answered d (reply_text r) (answered o)) (reply_read r w)

-- it is for the first command under its tag
pub heard_here : (d : Dialogue) (line : List ℕ) (before : List Shape) (x : Shape) (after : List Shape) (signal : Signal)
    → HaveOthers x.tag before → (p : Split before x after d.uses)
    → heard_under d line x.tag signal (first_under x.tag d.uses)
    ≡ heard_at d (length p.b) (used x p.n p.k) (heard_as x.asked signal) (is_end signal)
heard_here d line before x after signal others p =
    marks_first d line x.tag signal p.b (used x p.n p.k) p.a p.parts (other_tags x.tag before p.b p.front others) (tag_is-refl x.tag)

-- ---- the commands after a mark

-- a command after its mark
abbrev pub marked : Shape → Heard → Shape
marked x h =
    record { tag = x.tag; asked = x.asked; stage = stage_with x.asked x.stage h; failed = x.failed || is_error h }

abbrev pub own : Shape → ℕ → Known → Heard → Use
own x n k h = used (marked x h) n (all_renewed (Mark n h) (answered_known h k))

use_other : (n : ℕ) (h : Heard) (x : Shape) (m : ℕ) (k : Known) → (m == n) ≡ false
    → use_heard n h (used x m k) ≡ use_renewed (all_renewed (Mark n h)) (used x m k)
use_other n h x m k other =
    ap (use_renewed (all_renewed (Mark n h)))
    (if_false (m == n) (after_mark (use_renewed (answered_known h) (used x m k)) h) (used x m k) other)

pub use_same : (n : ℕ) (h : Heard) (x : Shape) (k : Known) → use_heard n h (used x n k) ≡ own x n k h
use_same n h x k =
    ap (use_renewed (all_renewed (Mark n h)))
    (if_true (n == n) (after_mark (use_renewed (answered_known h) (used x n k)) h) (used x n k) (eq-eqb n n refl))

others_heard : (n : ℕ) (h : Heard) (xs : List Shape) (us : List Use) → AreShaped xs us → list_any (line_is n) us ≡ false
    → map (use_heard n h) us ≡ renews (Mark n h) us
others_heard n h [] [] shaped others = refl
others_heard n h [] (u ∷ us) shaped others = absurd shaped
others_heard n h (x ∷ xs) [] shaped others = absurd shaped
others_heard n h (x ∷ xs) (u ∷ us) shaped others =
    let no = or_parts (u.line == n) (list_any (line_is n) us) others in
    ap (λ (v : Use). use_heard n h v ∷ map (use_heard n h) us) shaped.0
    ∙ (ap (λ (v : Use). v ∷ map (use_heard n h) us) (use_other n h x u.line u.known no.0 ∙ ap (use_renewed (all_renewed (Mark n h))) (sym shaped.0))
    ∙ ap (λ (l : List Use). use_renewed (all_renewed (Mark n h)) u ∷ l) (others_heard n h xs us shaped.1 no.1))

heard_among : (n : ℕ) (h : Heard) (xs ys : List Shape) (x : Shape) (k : Known) (b a : List Use) → AreShaped xs b → AreShaped ys a
    → list_any (line_is n) b ≡ false → list_any (line_is n) a ≡ false
    → map (use_heard n h) (b ++ used x n k ∷ a) ≡ renews (Mark n h) b ++ own x n k h ∷ renews (Mark n h) a
heard_among n h [] ys x k [] a front back before after =
    ap (λ (v : Use). v ∷ map (use_heard n h) a) (use_same n h x k)
    ∙ ap (λ (l : List Use). own x n k h ∷ l) (others_heard n h ys a back after)
heard_among n h [] ys x k (u ∷ b) a front back before after = absurd front
heard_among n h (y ∷ xs) ys x k [] a front back before after = absurd front
heard_among n h (y ∷ xs) ys x k (u ∷ b) a front back before after =
    let no = or_parts (u.line == n) (list_any (line_is n) b) before in
    ap (λ (v : Use). use_heard n h v ∷ map (use_heard n h) (b ++ used x n k ∷ a)) front.0
    ∙ (ap (λ (v : Use). v ∷ map (use_heard n h) (b ++ used x n k ∷ a))
    (use_other n h y u.line u.known no.0 ∙ ap (use_renewed (all_renewed (Mark n h))) (sym front.0))
    ∙ ap (λ (l : List Use). use_renewed (all_renewed (Mark n h)) u ∷ l) (heard_among n h xs ys x k b a front.1 back no.1 after))

gone : (f : Use → Use) (b : List Use) (u : Use) (after : List Use) → remove (map f b ++ u ∷ after) (length b) ≡ map f b ++ after
gone f [] u after = refl
gone f (v ∷ b) u after = ap (λ (l : List Use). f v ∷ l) (gone f b u after)

-- it is at another stage
pub heard_uses : (h : Heard) (before : List Shape) (x : Shape) (after : List Shape) (us : List Use) (hi : ℕ) → AreCounted 0 us hi
    → (p : Split before x after us)
    → map (use_heard p.n h) us ≡ renews (Mark p.n h) p.b ++ own x p.n p.k h ∷ renews (Mark p.n h) p.a
heard_uses h before x after us hi rising p =
    let u : Use = used x p.n p.k in
    let r : AreCounted 0 (p.b ++ u ∷ p.a) hi = subst (λ (l : List Use). AreCounted 0 l hi) p.parts rising in
    ap (map (use_heard p.n h)) p.parts
    ∙ heard_among p.n h before after x p.k p.b p.a p.front p.back (none_before 0 p.b u p.a hi r) (none_after 0 p.b u p.a hi r)

-- or gone
pub ended_uses : (h : Heard) (before : List Shape) (x : Shape) (after : List Shape) (us : List Use) (hi : ℕ) → AreCounted 0 us hi
    → (p : Split before x after us)
    → left_over (map (use_heard p.n h) us) (length p.b) true ≡ renews (Mark p.n h) p.b ++ renews (Mark p.n h) p.a
ended_uses h before x after us hi rising p =
    ap (λ (l : List Use). remove l (length p.b)) (heard_uses h before x after us hi rising p)
    ∙ gone (use_renewed (all_renewed (Mark p.n h))) p.b (own x p.n p.k h) (renews (Mark p.n h) p.a)
