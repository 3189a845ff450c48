-- The commands that are open at a server, and at a witness.
use Rattle.witness_laws.proofs.Names.{◌++◌, ◌||◌, ◌∙◌, ◌∷◌, ◌≡◌, [], Act, all_fail, ap, AreReplies, Bool, Command, Dialogue, Err, false, false≢true}
use Rattle.witness_laws.proofs.Names.{is_abort, is_event_tag, IsTag, kind_in, List, Misread, None, Ok, Option, or_from, or_parts, refl, reply_texts}
use Rattle.witness_laws.proofs.Names.{Result, runs_under, SentCommand, server_lines, Some, Stage, subst, sym, Tag, tag_is, tag_is-refl, tag_is-true}
use Rattle.witness_laws.proofs.Names.{true, Waiting, waits_under, ℕ}
use Rattle.protocol_model.specs.declared.lines.Line.{Line}
use Rattle.server_core.specs.Kept.{IsReadingFit}
use Rattle.witness_laws.proofs.server.Places.{Shape, HaveOthers, opened}
use Rattle.witness_laws.proofs.server.Selected.{Selected}
use Rattle.witness_laws.proofs.server.Hearing.{IsAt}
use Rattle.witness_laws.proofs.server.Replies.{fails_here, fails_heard}
use Rattle.witness_laws.proofs.server.Answering.{AreHeard}

-- ---- what runs and waits

-- what runs, as what waits is written
abbrev pub running_one : Option Line → List Waiting
running_one None = []
running_one (Some line) = record { tag = line.tag; reading = Ok line.command } ∷ []

-- a witness has a line under this reading as what it is: a command, or a line that is not known
abbrev pub IsAskedAs : Result Command Misread → SentCommand → Type 0
IsAskedAs (Ok c) asked = asked ≡ SentCommand.Known c
IsAskedAs (Err why) (SentCommand.Known c) = ⊥
IsAskedAs (Err why) SentCommand.Asking = Unit {0}
IsAskedAs (Err why) (SentCommand.Foreign line) = Unit {0}

-- what may run or wait: under a standard tag, no abort, with lengths in the volume
pub record IsOpen (w : Waiting) (asked : SentCommand) : Type 0 where
  pub asks : IsAskedAs w.reading asked
  pub room : IsTag w.tag
  pub sort : is_event_tag w.tag ≡ false
  pub plain : is_abort w.reading ≡ false
  pub fit : IsReadingFit w.reading

-- the commands that are open at a witness are these, each of them received
abbrev pub AreOpen : List Waiting → List Shape → Type 0
AreOpen [] us = us ≡ []
AreOpen (w ∷ ws) us =
    (asked : SentCommand) × (rest : List Shape) × (us ≡ opened w.tag asked Stage.Received ∷ rest) × IsOpen w asked × AreOpen ws rest

-- no two of them have one tag
abbrev pub AreApart : List Waiting → Type 0
AreApart [] = Unit {0}
AreApart (w ∷ ws) = (waits_under w.tag ws ≡ false) × AreApart ws

-- ---- tags

tag_apart : (t u : Tag) → tag_is t u ≡ false → tag_is u t ≡ false
tag_apart t u e = go (tag_is u t) refl
  where
    go : (b : Bool) → tag_is u t ≡ b → tag_is u t ≡ false
    go false is = is
    go true is = absurd (false≢true (sym e
        ∙ subst (λ (v : Tag). tag_is t v ≡ true) (sym (tag_is-true u t is)) (tag_is-refl t)))

pub others_open : (tag : Tag) (ws : List Waiting) (us : List Shape) → AreOpen ws us → waits_under tag ws ≡ false → HaveOthers tag us
others_open tag [] us h e = subst (HaveOthers tag) (sym h) tt
others_open tag (w ∷ ws) us h e =
    let parts = or_parts (tag_is w.tag tag) (waits_under tag ws) e in
    subst (HaveOthers tag) (sym h.2) (parts.0, others_open tag ws h.1 h.4 parts.1)

-- a command runs or waits under a tag
pub under_one : (tag : Tag) (running : Option Line) (ws : List Waiting) → (runs_under tag running || waits_under tag ws) ≡ false
    → waits_under tag (running_one running ++ ws) ≡ false
under_one tag None ws e = e
under_one tag (Some line) ws e = e

waits_more : (tag : Tag) (ws : List Waiting) (w : Waiting) → waits_under tag ws ≡ false → tag_is w.tag tag ≡ false
    → waits_under tag (ws ++ w ∷ []) ≡ false
waits_more tag [] w e other = or_from (tag_is w.tag tag) false other refl
waits_more tag (v ∷ ws) w e other =
    let parts = or_parts (tag_is v.tag tag) (waits_under tag ws) e in
    or_from (tag_is v.tag tag) (waits_under tag (ws ++ w ∷ [])) parts.0 (waits_more tag ws w parts.1 other)

-- one more waits
pub apart_more : (ws : List Waiting) (w : Waiting) → AreApart ws → waits_under w.tag ws ≡ false → AreApart (ws ++ w ∷ [])
apart_more [] w h e = (refl, tt)
apart_more (v ∷ ws) w h e =
    let parts = or_parts (tag_is v.tag w.tag) (waits_under w.tag ws) e in
    (waits_more v.tag ws w h.0 (tag_apart v.tag w.tag parts.0), apart_more ws w h.1 parts.1)

pub open_more : (ws : List Waiting) (us : List Shape) (w : Waiting) (asked : SentCommand) → AreOpen ws us → IsOpen w asked
    → AreOpen (ws ++ w ∷ []) (us ++ opened w.tag asked Stage.Received ∷ [])
open_more [] us w asked h one =
    (asked, [], ap (λ (l : List Shape). l ++ opened w.tag asked Stage.Received ∷ []) h, one, refl)
open_more (v ∷ ws) us w asked h one = (
  h.0,
  h.1 ++ opened w.tag asked Stage.Received ∷ [],
  ap (λ (l : List Shape). l ++ opened w.tag asked Stage.Received ∷ []) h.2,
  h.3,
  open_more ws h.1 w asked h.4 one,
)

-- ---- what waits fails

-- none of these commands is open under a tag of what waits
abbrev pub AreFree : List Shape → List Waiting → Type 0
AreFree before [] = Unit {0}
AreFree before (w ∷ ws) = HaveOthers w.tag before × AreFree before ws

pub free_first : (ws : List Waiting) → AreFree [] ws
free_first [] = tt
free_first (w ∷ ws) = (tt, free_first ws)

pub free_second : (u : Shape) (ws : List Waiting) → waits_under u.tag ws ≡ false → AreFree (u ∷ []) ws
free_second u [] e = tt
free_second u (w ∷ ws) e =
    let parts = or_parts (tag_is w.tag u.tag) (waits_under u.tag ws) e in
    ((tag_apart w.tag u.tag parts.0, tt), free_second u ws parts.1)

-- all that waits fails, in order
pub all_fail_at : (P : Tag → Bool) (s : Selected) (acts : List Act) (code : ℕ) (ws : List Waiting) (us before after_it : List Shape) (t : Dialogue) → AreOpen ws us
    → AreFree before ws → IsAt P s acts (before ++ (us ++ after_it)) t
    → IsAt P s acts (before ++ after_it) (server_lines t (reply_texts (all_fail code ws)))
all_fail_at P s acts code [] us before after_it t h free at =
    subst (λ (l : List Shape). IsAt P s acts (before ++ (l ++ after_it)) t) h at
all_fail_at P s acts code (w ∷ ws) us before after_it t h free at =
    all_fail_at P s acts code ws h.1 before after_it _ h.4 free.1
    (fails_here P s acts before w.tag h.0 (h.1 ++ after_it) t code (kind_in w.reading) h.3.room free.0
    (subst (λ (l : List Shape). IsAt P s acts (before ++ (l ++ after_it)) t) h.2 at))

-- each line of that is for a command that is open
pub all_fail_heard : (P : Tag → Bool) (s : Selected) (acts : List Act) (code : ℕ) (ws : List Waiting) (us before after_it : List Shape) (t : Dialogue)
    → AreOpen ws us → AreFree before ws → IsAt P s acts (before ++ (us ++ after_it)) t → AreHeard t (reply_texts (all_fail code ws))
all_fail_heard P s acts code [] us before after_it t h free at = tt
all_fail_heard P s acts code (w ∷ ws) us before after_it t h free at =
    let first : IsAt P s acts (before ++ opened w.tag h.0 Stage.Received ∷ (h.1 ++ after_it)) t =
    subst (λ (l : List Shape). IsAt P s acts (before ++ (l ++ after_it)) t) h.2 at in
    let two = fails_heard P s acts before w.tag h.0 (h.1 ++ after_it) t code (kind_in w.reading) h.3.room free.0 first in (
      two.0,
      (
        two.1,
        all_fail_heard P s acts code ws h.1 before after_it _ h.4 free.1
            (fails_here P s acts before w.tag h.0 (h.1 ++ after_it) t code (kind_in w.reading) h.3.room free.0 first),
      ),
    )

-- and can be written
pub all_fail_said : (code : ℕ) (ws : List Waiting) (us : List Shape) → AreOpen ws us → AreReplies (all_fail code ws)
all_fail_said code [] us h = tt
all_fail_said code (w ∷ ws) us h = (h.3.room, (h.3.room, all_fail_said code ws h.1 h.4))
