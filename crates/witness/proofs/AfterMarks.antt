-- What may be known for a line after a mark for it, and below a line that this profile does not know.
use Rattle.witness.proofs.Names.{[], ◌&&◌, ◌+◌, ◌++◌, ◌==◌, ◌||◌, ◌∙◌, ◌∷◌, ◌≡◌, after_mark, all_renewed, answered_known, ap, at_once, below, Bool}
use Rattle.witness.proofs.Names.{Dialogue, eq-eqb, false, Fault, faulting, foreign_event, fresh, Heard, heard_at, hearing, if◌then◌else◌, is_error}
use Rattle.witness.proofs.Names.{is_foreign, is_out_of_turn, is_rival, is_some, Known, last_under, List, map, Mark, None, nothing, NotInTurn, Option}
use Rattle.witness.proofs.Names.{refl, Some, sending, sending_after, sent_tagged, SentCommand, Stage, stage_with, Standing, sym, Tag, true, unknowing}
use Rattle.witness.proofs.Names.{unless_crossed, Use, use_heard, use_renewed, with_event, ℕ}
use Rattle.std.proofs.lemmas.Bool.{false≢true}
use Rattle.witness.specs.Dialogues as dialogues
use Rattle.witness.specs.declared.lines.Reported.TheVariants.{Broken, Other}
use Rattle.witness.specs.declared.lines.Side.TheVariants.{Client}

-- a line after a mark, by its parts, if the mark is its own, and if it may have been refused
abbrev pub by_parts : ℕ → Heard → Use → Bool → Bool → Use
by_parts line h u own refused = record {
  tag = u.tag;
  command = u.command;
  line = u.line;
  stage = if own then stage_with u.command u.stage h else u.stage;
  has_failed = if own then u.has_failed || is_error h else u.has_failed;
  rival = u.rival;
  known = all_renewed (Mark line h) (if own then answered_known h (unless_crossed refused u.known) else unless_crossed refused u.known);
}

pub heard_parts : (line : ℕ) (h : Heard) (u : Use)
    → use_heard line h u ≡ by_parts line h u (u.line == line) (is_rival line u.rival && is_error h)
heard_parts line h u = go (u.line == line) (is_rival line u.rival && is_error h)
  where
    go : (own refused : Bool) → use_renewed (all_renewed (Mark line h))
        (if own then after_mark (use_renewed (answered_known h) (if refused then unknowing u else u)) h else (if refused then unknowing u else u))
        ≡ by_parts line h u own refused
    go true true = refl
    go true false = refl
    go false true = refl
    go false false = refl

pub known_heard : (h : Heard) (u : Use) → (use_heard u.line h u).known
    ≡ all_renewed (Mark u.line h) (answered_known h (if is_rival u.line u.rival && is_error h then nothing else u.known))
known_heard h u =
    ap (λ (w : Use). w.known) (heard_parts u.line h u)
    ∙ ap (λ own. (by_parts u.line h u own (is_rival u.line u.rival && is_error h)).known) (eq-eqb u.line u.line refl)

pub fault_heard : (h : Heard) (u : Use) → (use_heard u.line h (use_renewed (all_renewed Fault) u)).known
    ≡ all_renewed (Mark u.line h) (answered_known h (if is_rival u.line u.rival && is_error h then nothing else all_renewed Fault u.known))
fault_heard h u = known_heard h (use_renewed (all_renewed Fault) u)

pub foreign_below : (s : Option Standing) (what : SentCommand) (k : Known) → is_foreign what ≡ true → below s what k ≡ nothing
foreign_below s (SentCommand.Known c) k e = absurd (false≢true e)
foreign_below s SentCommand.Asking k e = absurd (false≢true e)
foreign_below s (SentCommand.Foreign line) k e = refl

-- what was sent last under a tag is the same when nothing is known
pub last_unknowing : (tag : Tag) (us : List Use) (found : Option (ℕ × Bool)) → last_under tag (map unknowing us) found ≡ last_under tag us found
last_unknowing tag [] found = refl
last_unknowing tag (u ∷ us) found = last_unknowing tag us (dialogues.later tag u found)

either_nothing : (b : Bool) → unless_crossed b nothing ≡ nothing
either_nothing true = refl
either_nothing false = refl

-- a line that may be carried out at once is sent under a tag, for which and below which this may be known
abbrev pub at_once_to : Dialogue → List ℕ → Tag → SentCommand → (own next : Known) → Dialogue
at_once_to d line tag what own next = record {
  ordered = d.ordered;
  lines = d.lines + 1;
  uses = map unknowing d.uses ++ record {
    tag = tag;
    command = what;
    line = d.lines;
    stage = Stage.Sent;
    has_failed = false;
    rival = dialogues.line_of (last_under tag d.uses None);
    known = own;
  } ∷ [];
  events = with_event tag d.events;
  crossed = d.crossed || (d.ordered && is_some (dialogues.line_of (last_under tag d.uses None)));
  known = next;
  reported = d.reported ++ Other Client line ∷ [];
}

pub at_once_sent : (d : Dialogue) (line : List ℕ) (tag : Tag) (what : SentCommand) (s : Option Standing) (k : Known)
    → foreign_event tag what ≡ true → is_foreign what ≡ true → sent_tagged d line tag what ≡ at_once_to d line tag what nothing (below s what k)
at_once_sent d line tag what s k now foreign =
    let last = last_under tag d.uses None in
    let standing = fresh d.lines (dialogues.line_of last) (dialogues.is_lost last) in
    ap (λ b. if b then sending (at_once d line) tag what else sending d tag what) now
    ∙ ap (λ before. sending_after (at_once d line) tag what before) (last_unknowing tag d.uses None)
    ∙ ap (λ own. at_once_to d line tag what own (below standing what nothing)) (either_nothing (dialogues.is_lost last))
    ∙ ap (λ next. at_once_to d line tag what nothing next) (foreign_below standing what nothing foreign ∙ sym (foreign_below s what k foreign))

-- a mark that comes out of turn, or does not
pub early_is : (d : Dialogue) (at : ℕ) (u : Use) (h : Heard) (is_end : Bool) → is_out_of_turn d.uses at u h ≡ true
    → heard_at d at u h is_end ≡ hearing (faulting d (Broken NotInTurn u.tag)) at (use_renewed (all_renewed Fault) u) h is_end
early_is d at u h is_end e =
    ap (λ b. if b then hearing (faulting d (Broken NotInTurn u.tag)) at (use_renewed (all_renewed Fault) u) h is_end else hearing d at u h is_end) e

pub in_turn_is : (d : Dialogue) (at : ℕ) (u : Use) (h : Heard) (is_end : Bool) → is_out_of_turn d.uses at u h ≡ false
    → heard_at d at u h is_end ≡ hearing d at u h is_end
in_turn_is d at u h is_end e =
    ap (λ b. if b then hearing (faulting d (Broken NotInTurn u.tag)) at (use_renewed (all_renewed Fault) u) h is_end else hearing d at u h is_end) e

abbrev taken : Use → Option Use → Use
taken u None = u
taken u (Some w) = w

pub same_use : (u w : Use) → Some u ≡ Some w → u ≡ w
same_use u w e = ap (λ (o : Option Use). taken u o) e

-- two dialogues are the same if their parts are
pub same_parts : (a b : Dialogue) → a.ordered ≡ b.ordered → a.lines ≡ b.lines → a.uses ≡ b.uses → a.events ≡ b.events
    → a.crossed ≡ b.crossed → a.known ≡ b.known → a.reported ≡ b.reported → a ≡ b
same_parts a b ordered lines uses events crossed known reported =
    ap (λ x. record a { ordered = x }) ordered
    ∙ ap (λ x. record a { ordered = b.ordered; lines = x }) lines
    ∙ ap (λ x. record a { ordered = b.ordered; lines = b.lines; uses = x }) uses
    ∙ ap (λ x. record a { ordered = b.ordered; lines = b.lines; uses = b.uses; events = x }) events
    ∙ ap (λ x. record a { ordered = b.ordered; lines = b.lines; uses = b.uses; events = b.events; crossed = x }) crossed
    ∙ ap (λ x. record a { ordered = b.ordered; lines = b.lines; uses = b.uses; events = b.events; crossed = b.crossed; known = x }) known
    ∙ ap (λ x. record b { reported = x }) reported
