-- Each line of a server is for a command that is open at the witness.
use Rattle.witness_laws.proofs.Names.{◌++◌, ◌∙◌, ◌∷◌, ◌≡◌, [], after, ap, Dialogue, Err, is_open, IsWritableReply, List, NotResponse, Ok, or_left}
use Rattle.witness_laws.proofs.Names.{or_right, Reply, reply_read, reply_text, reply_texts, Response, response_for, response_of, Result, server_line}
use Rattle.witness_laws.proofs.Names.{server_lines, subst, sym, Tag, tag_is, tag_is-refl, true, Use, ℕ}
use Rattle.witness_laws.proofs.server.Places.{Shape, AreShaped}

-- a line is a response under a tag under which a command is open
abbrev pub IsHeard : List Use → Result Response NotResponse → Type 0
IsHeard uses (Ok r) = is_open r.tag uses ≡ true
IsHeard uses (Err why) = ⊥

-- so is each of these lines, one after another
abbrev pub AreHeard : Dialogue → List (List ℕ) → Type 0
AreHeard d [] = Unit {0}
AreHeard d (line ∷ lines) = IsHeard d.uses (response_of line) × AreHeard (after d (server_line line)) lines

-- a command among others is open under its tag
open_there : (tag : Tag) (before : List Shape) (x : Shape) (after_it : List Shape) (us : List Use) → x.tag ≡ tag
    → AreShaped (before ++ x ∷ after_it) us → is_open tag us ≡ true
open_there tag [] x after_it [] is h = absurd h
open_there tag [] x after_it (u ∷ us) is h =
    or_left (tag_is u.tag tag) (is_open tag us)
    (ap (λ (v : Use). tag_is v.tag tag) h.0 ∙ (ap (λ (t : Tag). tag_is t tag) is ∙ tag_is-refl tag))
open_there tag (y ∷ before) x after_it [] is h = absurd h
open_there tag (y ∷ before) x after_it (u ∷ us) is h =
    or_right (tag_is u.tag tag) (is_open tag us) (open_there tag before x after_it us is h.1)

-- a written line is for such a command
pub heard_there : (d : Dialogue) (r : Reply) (before : List Shape) (x : Shape) (after_it : List Shape) → IsWritableReply r
    → x.tag ≡ (response_for r).tag → AreShaped (before ++ x ∷ after_it) d.uses → IsHeard d.uses (response_of (reply_text r))
heard_there d r before x after_it w is h =
    subst (IsHeard d.uses) (sym (reply_read r w)) (open_there (response_for r).tag before x after_it d.uses is h)

-- lines, and then more of them
pub heard_texts : (d : Dialogue) (xs ys : List Reply) → AreHeard d (reply_texts xs) → AreHeard (server_lines d (reply_texts xs)) (reply_texts ys)
    → AreHeard d (reply_texts (xs ++ ys))
heard_texts d [] ys h g = g
heard_texts d (x ∷ xs) ys h g = (h.0, heard_texts (after d (server_line (reply_text x))) xs ys h.1 g)
