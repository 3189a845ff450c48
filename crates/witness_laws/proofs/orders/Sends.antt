-- A command is sent, and then a line of the server is read: it is as if it were sent after that line.
use Rattle.witness_laws.proofs.Names.{◌&&◌, ◌++◌, ◌<◌, ◌==◌, ◌||◌, ◌∙◌, ◌∷◌, ◌≡◌, [], Ack, all_renewed, ap, append_assoc, AreCounted, arith, Bool}
use Rattle.witness_laws.proofs.Names.{Dialogue, Error, Event, false, false≢true, Fault, faulting, Given, has_failed_under, Heard, heard_as, heard_at}
use Rattle.witness_laws.proofs.Names.{hearing, if◌then◌else◌, is_end, is_error, is_open, is_out_of_turn, is_report, is_some, IsCounted, last_under}
use Rattle.witness_laws.proofs.Names.{length, line_of, List, list_any, list_any-append, map, map-append, ne_eqb, None, NotInTurn, Option, or_from}
use Rattle.witness_laws.proofs.Names.{or_parts, refl, remove, Reported, sending, sending_after, SentCommand, Server, server_answered, Signal, Some}
use Rattle.witness_laws.proofs.Names.{Std, subst, suc, sym, Tag, tag_is, true, unasked, Use, use_heard, use_renewed, with_event, ℕ}
use Rattle.witness.specs.Asking.{Done}
use Rattle.witness_laws.proofs.orders.Counts.{lines_answered, heard_line, is_before, others_without, Without, map_without, fault_counted}
use Rattle.witness_laws.proofs.orders.Marks.{Found, find_first, marks_first, marks_none}
use Rattle.witness_laws.proofs.orders.Swaps.{heard_last, last_fault, new_use, InList, in_there, send_fault, send_heard_at, one_tag, IsLast, stays, ends, removed_map}
use Rattle.witness_laws.proofs.orders.Swaps.{last_hearing}

-- ---- which command was sent last under a tag, after a mark that may come out of turn

pub open_fault : (tag : Tag) (uses : List Use) → is_open tag (map (use_renewed (all_renewed Fault)) uses) ≡ is_open tag uses
open_fault tag [] = refl
open_fault tag (u ∷ uses) = ap (λ (b : Bool). tag_is u.tag tag || b) (open_fault tag uses)

length_fault : (uses : List Use) → length (map (use_renewed (all_renewed Fault)) uses) ≡ length uses
length_fault [] = refl
length_fault (u ∷ uses) = ap suc (length_fault uses)

fault_parts : (d : Dialogue) (before : List Use) (u : Use) (after : List Use) → d.uses ≡ before ++ u ∷ after
    → map (use_renewed (all_renewed Fault)) d.uses
    ≡ map (use_renewed (all_renewed Fault)) before ++ use_renewed (all_renewed Fault) u ∷ map (use_renewed (all_renewed Fault)) after
fault_parts d before u after parts =
    ap (map (use_renewed (all_renewed Fault))) parts ∙ map-append (use_renewed (all_renewed Fault)) before (u ∷ after)

of_faulted : (tag : Tag) (u : Use) (ended : Bool) (x y : Option (ℕ × Bool)) → IsLast tag (use_renewed (all_renewed Fault) u) ended x y → IsLast tag u ended x y
of_faulted tag u ended _ _ (stays b) = stays b
of_faulted tag u ended _ _ (ends under e) = ends under e

last_early : (d : Dialogue) (tag : Tag) (before : List Use) (u : Use) (after : List Use) (h : Heard) (ended : Bool) → d.uses ≡ before ++ u ∷ after
    → is_open u.tag before ≡ false → (ended ≡ true → is_error h ≡ false) → (x : Bool)
    → IsLast tag u ended (heard_last u.line h (last_under tag d.uses None))
    (last_under tag (if x then hearing (faulting d (Reported.Broken NotInTurn u.tag)) (length before) (use_renewed (all_renewed Fault) u) h ended
    else hearing d (length before) u h ended).uses None)
last_early d tag before u after h ended parts first none true =
    subst (λ (n : ℕ). IsLast tag u ended (heard_last u.line h (last_under tag d.uses None))
    (last_under tag (hearing (faulting d (Reported.Broken NotInTurn u.tag)) n (use_renewed (all_renewed Fault) u) h ended).uses None))
    (length_fault before)
    (subst (λ (b : Option (ℕ × Bool)). IsLast tag u ended (heard_last u.line h b)
    (last_under tag (hearing (faulting d (Reported.Broken NotInTurn u.tag)) (length (map (use_renewed (all_renewed Fault)) before))
    (use_renewed (all_renewed Fault) u) h ended).uses None)) (last_fault tag d.uses None)
    (of_faulted tag u ended _ _
    (last_hearing (faulting d (Reported.Broken NotInTurn u.tag)) tag (map (use_renewed (all_renewed Fault)) before) (use_renewed (all_renewed Fault) u)
    (map (use_renewed (all_renewed Fault)) after) h ended (fault_parts d before u after parts) (open_fault u.tag before ∙ first) none)))
last_early d tag before u after h ended parts first none false = last_hearing d tag before u after h ended parts first none

without_hearing : (d : Dialogue) (before : List Use) (u : Use) (after : List Use) (h : Heard) → d.uses ≡ before ++ u ∷ after → IsCounted d
    → Without u.line (hearing d (length before) u h true).uses
without_hearing d before u after h parts c =
    subst (λ (l : List Use). Without u.line (remove (map (use_heard u.line h) l) (length before))) (sym parts)
    (subst (Without u.line) (map-append (use_heard u.line h) before after ∙ sym (removed_map (use_heard u.line h) before u after))
    (map_without u.line (use_heard u.line h) (heard_line u.line h) (before ++ after)
    (others_without 0 before u after d.lines (subst (λ (l : List Use). AreCounted 0 l d.lines) parts c))))

without_early : (d : Dialogue) (before : List Use) (u : Use) (after : List Use) (h : Heard) (ended : Bool) → d.uses ≡ before ++ u ∷ after → IsCounted d
    → ended ≡ true → (x : Bool)
    → Without u.line (if x then hearing (faulting d (Reported.Broken NotInTurn u.tag)) (length before) (use_renewed (all_renewed Fault) u) h ended
    else hearing d (length before) u h ended).uses
without_early d before u after h true parts c e true =
    subst (λ (n : ℕ). Without u.line (hearing (faulting d (Reported.Broken NotInTurn u.tag)) n (use_renewed (all_renewed Fault) u) h true).uses)
    (length_fault before)
    (without_hearing (faulting d (Reported.Broken NotInTurn u.tag)) (map (use_renewed (all_renewed Fault)) before) (use_renewed (all_renewed Fault) u)
    (map (use_renewed (all_renewed Fault)) after) h (fault_parts d before u after parts) (fault_counted d (Reported.Broken NotInTurn u.tag) c))
without_early d before u after h true parts c e false = without_hearing d before u after h parts c
without_early d before u after h false parts c e x = absurd (false≢true e)

-- ---- what is left of it

-- the end of the command that was sent first under a tag, which has failed or not
abbrev pub IsEndOf : List Use → Tag → Option (Tag × Signal) → Bool → Type 0
IsEndOf uses tag None failed = ⊥
IsEndOf uses tag (Some (t, signal)) failed =
    (tag_is tag t ≡ true) × (is_end signal ≡ true) × (has_failed_under t uses ≡ failed) × (is_open t uses ≡ true)

-- the command that was sent last is the same with the line read after and before, or it ended; e: after the line
pub data Agrees (d : Dialogue) (tag : Tag) (r : Option (Tag × Signal)) (e : Dialogue) : Option (ℕ × Bool) → Option (ℕ × Bool) → Type 0 where
  alike : (b : Option (ℕ × Bool)) → Agrees d tag r e b b
  ended : (p : ℕ) (failed : Bool) → IsEndOf d.uses tag r failed → p < e.lines → Without p e.uses → Agrees d tag r e (Some (p, failed)) None

pub record AfterSend (d : Dialogue) (tag : Tag) (what : SentCommand) (line : List ℕ) (r : Option (Tag × Signal)) : Type 0 where
  pub last : Option (ℕ × Bool)
  pub same : server_answered (sending d tag what) line r ≡ sending_after (server_answered d line r) tag what last
  pub agrees : Agrees d tag r (server_answered d line r) last (last_under tag (server_answered d line r).uses None)

-- no response under the tag, if none is open under it
abbrev pub NotEarly : List Use → Tag → Option (Tag × Signal) → Type 0
NotEarly uses tag None = Unit {0}
NotEarly uses tag (Some (t, signal)) = is_open t uses ≡ false → tag_is tag t ≡ false

-- ---- a response for an open command

no_error : (c : SentCommand) (signal : Signal) → is_end signal ≡ true → is_error (heard_as c signal) ≡ false
no_error c Ack e = refl
no_error c (Given p homed) e = absurd (false≢true e)
no_error c Done e = refl
no_error c Error e = absurd (false≢true e)

failed_first : (tag : Tag) (before : List Use) (u : Use) (after : List Use) → is_open tag before ≡ false → tag_is u.tag tag ≡ true
    → has_failed_under tag (before ++ u ∷ after) ≡ u.has_failed
failed_first tag [] u after none is = ap (λ (b : Bool). if b then u.has_failed else has_failed_under tag after) is
failed_first tag (x ∷ before) u after none is =
    let no = or_parts (tag_is x.tag tag) (is_open tag before) none in
    ap (λ (b : Bool). if b then x.has_failed else has_failed_under tag (before ++ u ∷ after)) no.0 ∙ failed_first tag before u after no.1 is

of_last : (d e : Dialogue) (tag t : Tag) (signal : Signal) (u : Use) (x y : Option (ℕ × Bool)) → tag_is u.tag t ≡ true
    → is_open t d.uses ≡ true → has_failed_under t d.uses ≡ u.has_failed → u.line < e.lines → (is_end signal ≡ true → Without u.line e.uses) → IsLast tag u (is_end signal) x y
    → Agrees d tag (Some (t, signal)) e x y
of_last d e tag t signal u _ _ is there failed below gone (stays b) = alike b
of_last d e tag t signal u _ _ is there failed below gone (ends under end) =
    ended u.line u.has_failed (subst (λ (x : Tag). tag_is x t ≡ true) (one_tag u.tag tag under) is, end, failed, there) below (gone end)

send_first : (d : Dialogue) (tag : Tag) (what : SentCommand) (line : List ℕ) (t : Tag) (signal : Signal) → IsCounted d
    → (d.ordered && is_some (line_of (last_under tag d.uses None))) ≡ false
    → is_open t d.uses ≡ true → Found (λ (u : Use). tag_is u.tag t) d.uses → AfterSend d tag what line (Some (t, signal))
send_first d tag what line t signal c free there f =
    let u : Use = f.one in
    let h : Heard = heard_as u.command signal in
    let b : Option (ℕ × Bool) = last_under tag d.uses None in
    let new : Use = new_use d.lines tag what b d.known in
    let is_below : u.line < d.lines = is_before 0 f.before u f.after d.lines (subst (λ (l : List Use). AreCounted 0 l d.lines) f.parts c) in
    let first : is_open u.tag f.before ≡ false = ap (λ (x : Tag). is_open x f.before) (one_tag u.tag t f.passes) ∙ f.passed in
    let left : server_answered d line (Some (t, signal)) ≡ heard_at d (length f.before) u h (is_end signal) =
    marks_first d line t signal f.before u f.after f.parts f.passed f.passes in
    record {
      last = heard_last u.line h b;
      same = marks_first (sending d tag what) line t signal f.before u (f.after ++ new ∷ [])
          (ap (λ (l : List Use). l ++ new ∷ []) f.parts ∙ append_assoc f.before (u ∷ f.after) (new ∷ [])) f.passed f.passes
          ∙ send_heard_at d tag what b (length f.before) u h (is_end signal)
          (subst (λ (l : List Use). InList l (length f.before)) (sym f.parts) (in_there f.before u f.after))
          (ne_eqb d.lines u.line (λ e. omega (arith, e, is_below))) free
          ∙ ap (λ (e : Dialogue). sending_after e tag what (heard_last u.line h b)) (sym left);
      agrees = of_last d (server_answered d line (Some (t, signal))) tag t signal u (heard_last u.line h b) _ f.passes there
          (ap (has_failed_under t) f.parts ∙ failed_first t f.before u f.after f.passed f.passes)
          (subst (λ (n : ℕ). u.line < n) (sym (lines_answered d line (Some (t, signal)))) is_below)
          (λ end. subst (λ (e : Dialogue). Without u.line e.uses) (sym left)
          (without_early d f.before u f.after h (is_end signal) f.parts c end (is_out_of_turn d.uses (length f.before) u h)))
          (subst (λ (e : Dialogue). IsLast tag u (is_end signal) (heard_last u.line h b) (last_under tag e.uses None)) (sym left)
          (last_early d tag f.before u f.after h (is_end signal) f.parts first (no_error u.command signal)
          (is_out_of_turn d.uses (length f.before) u h)));
    }

-- ---- one for none

any_append : (n m : ℕ) (events : List ℕ) → (m == n) ≡ false → list_any (λ k. k == n) (events ++ m ∷ []) ≡ list_any (λ k. k == n) events
any_append n m events other =
    list_any-append (λ k. k == n) events (m ∷ [])
    ∙ ap (λ (b : Bool). list_any (λ k. k == n) events || (b || false)) other
    ∙ or_not (list_any (λ k. k == n) events)
  where
    or_not : (b : Bool) → (b || (false || false)) ≡ b
    or_not true = refl
    or_not false = refl

if_new : (n m : ℕ) (events : List ℕ) → (m == n) ≡ false → (b : Bool)
    → list_any (λ k. k == n) (if b then events else events ++ m ∷ []) ≡ list_any (λ k. k == n) events
if_new n m events other true = refl
if_new n m events other false = any_append n m events other

pub report_same : (tag t : Tag) (signal : Signal) (events : List ℕ) → tag_is tag t ≡ false
    → is_report t signal (with_event tag events) ≡ is_report t signal events
report_same tag (Std n) signal events other = refl
report_same tag (Event n) Ack events other = refl
report_same (Std m) (Event n) (Given p homed) events other = refl
report_same (Event m) (Event n) (Given p homed) events other = if_new n m events other (list_any (λ k. k == m) events)
report_same tag (Event n) Done events other = refl
report_same tag (Event n) Error events other = refl

if_reported : (d : Dialogue) (tag : Tag) (what : SentCommand) (b : Option (ℕ × Bool)) (line : List ℕ) (x : Bool)
    → (if x then sending_after d tag what b else faulting (sending_after d tag what b) (Reported.Unasked line))
    ≡ sending_after (if x then d else faulting d (Reported.Unasked line)) tag what b
if_reported d tag what b line true = refl
if_reported d tag what b line false = send_fault d tag what b (Reported.Unasked line)

last_unasked : (d : Dialogue) (tag : Tag) (line : List ℕ) (x : Bool)
    → last_under tag d.uses None ≡ last_under tag (if x then d else faulting d (Reported.Unasked line)).uses None
last_unasked d tag line true = refl
last_unasked d tag line false = sym (last_fault tag d.uses None)

send_none : (d : Dialogue) (tag : Tag) (what : SentCommand) (line : List ℕ) (t : Tag) (signal : Signal) → is_open t d.uses ≡ false → tag_is tag t ≡ false
    → AfterSend d tag what line (Some (t, signal))
send_none d tag what line t signal none other =
    let b : Option (ℕ × Bool) = last_under tag d.uses None in
    let new : Use = new_use d.lines tag what b d.known in
    let left : server_answered d line (Some (t, signal)) ≡ unasked d line t signal = marks_none d line t signal none in
    record {
      last = b;
      same = marks_none (sending d tag what) line t signal
          (list_any-append (λ (u : Use). tag_is u.tag t) d.uses (new ∷ [])
          ∙ or_from (is_open t d.uses) (is_open t (new ∷ [])) none (or_from (tag_is tag t) false other refl))
          ∙ ap (λ (x : Bool). if x then sending d tag what else faulting (sending d tag what) (Reported.Unasked line)) (report_same tag t signal d.events other)
          ∙ if_reported d tag what b line (is_report t signal d.events)
          ∙ ap (λ (e : Dialogue). sending_after e tag what b) (sym left);
      agrees = subst (Agrees d tag (Some (t, signal)) (server_answered d line (Some (t, signal))) b)
          (last_unasked d tag line (is_report t signal d.events) ∙ ap (λ (e : Dialogue). last_under tag e.uses None) (sym left)) (alike b);
    }

-- ---- any line

pub after_send : (d : Dialogue) (tag : Tag) (what : SentCommand) (line : List ℕ) (r : Option (Tag × Signal)) → IsCounted d
    → (d.ordered && is_some (line_of (last_under tag d.uses None))) ≡ false → NotEarly d.uses tag r → AfterSend d tag what line r
after_send d tag what line None c free early = record {
  last = last_under tag d.uses None;
  same = send_fault d tag what (last_under tag d.uses None) (Reported.Other Server line);
  agrees = subst (Agrees d tag None (server_answered d line None) (last_under tag d.uses None)) (sym (last_fault tag d.uses None))
      (alike (last_under tag d.uses None));
}
after_send d tag what line (Some (t, signal)) c free early = go (is_open t d.uses) refl where
  go : (b : Bool) → is_open t d.uses ≡ b → AfterSend d tag what line (Some (t, signal))
  go true is = send_first d tag what line t signal c free is (find_first (λ (u : Use). tag_is u.tag t) d.uses is)
  go false is = send_none d tag what line t signal is (early is)
