-- A server that has read commands that can be written answers replies that can be written.
use Rattle.protocol_model.proofs.Names.{[], ◌&&◌, ◌++◌, ◌||◌, ◌∙◌, ◌∷◌, ◌≡◌, aborted, all_fail, and_parts, Answer, ap, arith, Bool, carried_out}
use Rattle.protocol_model.proofs.Names.{Command, cond, Csy, Direction, fails, false, false≢true, finished, frame_of, has_outcome, idle, in_error}
use Rattle.protocol_model.proofs.Names.{in_volume, is_abort, is_clear, IsInVolume, IsNumbered, IsTag, IsWritable, Kind, kind_of, leb-true, length}
use Rattle.protocol_model.proofs.Names.{Line, List, MachineCsy, machined, may_end, nat_le, None, not, offset, Ok, Option, Outcome, PartCsy, Point}
use Rattle.protocol_model.proofs.Names.{queued, refl, refusal, Reply, running_fails, runs_under, Server, server_left, server_machined, server_read}
use Rattle.protocol_model.proofs.Names.{server_turned, Some, stands, Std, stopped, subst, sym, Tag, taken, touched, true, turned_to, Waiting}
use Rattle.protocol_model.proofs.Names.{waits_under, zero_point, ℕ}
use Rattle.fixed_um.specs.declared.frames.Frame.TheVariants.{Machine}
use Rattle.dme_line.specs.declared.tags.Tag.TheVariants.{Event}
use Rattle.protocol_model.proofs.invariant.Holding.{listed, waits, all_wait}
use Rattle.protocol_model.proofs.invariant.LineFacts.{wait_more}
use Rattle.protocol_model.proofs.written_lines.Writable.{AreWritable, writable_join, AreReplies, replies_join, difference_on_wire, opposite_in_volume}

-- a tag that a command can have has a number with room in its digits
pub tag_of_numbered : (t : Tag) → IsNumbered t → IsTag t
tag_of_numbered (Std n) h = h.1
tag_of_numbered (Event n) h = h.1

line_tag : (l : Line) → IsWritable l.tag l.command → IsTag l.tag
line_tag l h = tag_of_numbered l.tag h.tagged.numbered

-- what runs and waits can be written, and what is selected lies in the volume
pub record IsPlainServer (s : Server) : Type 0 where
  pub lines : List Line
  pub waiting_is : s.waiting ≡ all_wait lines
  pub running : AreWritable (listed s.running)
  pub waiting : AreWritable lines
  pub stored : IsInVolume s.stored
  pub frame : IsInVolume (offset s.frame)

-- an answer of such a server
pub record IsPlainAnswer (a : Answer) : Type 0 where
  pub server : IsPlainServer a.server
  pub said : AreReplies a.said

zero_in_volume : IsInVolume zero_point
zero_in_volume = record { x = omega arith; y = omega arith; z = omega arith }

-- a server that was never on a connection is such a one: nothing runs or waits, and the zero point lies in the volume
pub plain_new : (rack : List (List ℕ)) → IsPlainServer (record {
  rack = rack;
  on = false;
  last = 0;
  session = false;
  homed = false;
  tool = None;
  frame = Machine;
  stored = zero_point;
  error = false;
  running = None;
  waiting = [];
  ledger = [];
})
plain_new rack = record { lines = []; waiting_is = refl; running = tt; waiting = tt; stored = zero_in_volume; frame = zero_in_volume }

-- ---- failures

fails_plain : (t : Tag) (code : ℕ) (name : Option Kind) → IsTag t → AreReplies (fails t code name)
fails_plain t code name h = (h, (h, tt))

all_fail_plain : (code : ℕ) (ls : List Line) → AreWritable ls → AreReplies (all_fail code (all_wait ls))
all_fail_plain code [] h = tt
all_fail_plain code (l ∷ ls) h = (line_tag l h.0, (line_tag l h.0, all_fail_plain code ls h.1))

all_fail_by : (code : ℕ) (ws : List Waiting) (ls : List Line) → ws ≡ all_wait ls → AreWritable ls → AreReplies (all_fail code ws)
all_fail_by code ws ls e h = subst (λ (l : List Waiting). AreReplies (all_fail code l)) (sym e) (all_fail_plain code ls h)

running_fail_plain : (o : Option Line) → AreWritable (listed o) → AreReplies (running_fails o)
running_fail_plain None h = tt
running_fail_plain (Some l) h = (line_tag l h.0, (line_tag l h.0, tt))

-- ---- a line is read

either : (P : Answer → Type 0) (b : Bool) (x y : Answer) → P x → P y → P (cond b x y)
either P true x y p q = p
either P false x y p q = q

failed_server : (s : Server) → IsPlainServer s → IsPlainServer (in_error s)
failed_server s h = record { lines = []; waiting_is = refl; running = h.running; waiting = tt; stored = h.stored; frame = h.frame }

queued_server : (s : Server) (t : Tag) (c : Command) (error : Bool) → IsPlainServer s → IsWritable t c
    → IsPlainServer (queued t (Ok c) (record s { error = error }))
queued_server s t c error h w =
    let l : Line = record { tag = t; command = c } in
    record {
      lines = h.lines ++ l ∷ [];
      waiting_is = ap (λ (ws : List Waiting). ws ++ waits l ∷ []) h.waiting_is ∙ sym (wait_more h.lines (l ∷ []));
      running = h.running;
      waiting = writable_join h.lines (l ∷ []) h.waiting (w, tt);
      stored = h.stored;
      frame = h.frame;
    }

stands_plain : (s : Server) (t : Tag) (c : Command) → IsPlainServer s → IsWritable t c → IsPlainAnswer (stands s t (Ok c))
stands_plain s t c h w =
    let tag : IsTag t = tag_of_numbered t w.tagged.numbered in
    either IsPlainAnswer (s.error && not (is_clear (Ok c))) _ _
    (record { server = h; said = (tag, fails_plain t 9008 (Some (kind_of c)) tag) })
    (either IsPlainAnswer s.error _ _ (record { server = queued_server s t c false h w; said = (tag, tt) })
    (either IsPlainAnswer (nat_le 64 (length s.waiting)) _ _
    (record {
      server = failed_server s h;
      said = (
        tag,
        replies_join (fails t 9009 (Some (kind_of c))) (all_fail 9007 s.waiting)
            (fails_plain t 9009 (Some (kind_of c)) tag) (all_fail_by 9007 s.waiting h.lines h.waiting_is h.waiting),
      );
    })
    (record { server = queued_server s t c s.error h w; said = (tag, tt) })))

aborted_plain : (s : Server) (t : Tag) → IsPlainServer s → IsTag t → IsPlainAnswer (aborted s t)
aborted_plain s t h tag = record {
  server = record { lines = []; waiting_is = refl; running = tt; waiting = tt; stored = h.stored; frame = h.frame };
  said = (
    tag,
    replies_join (running_fails s.running) (all_fail 9007 s.waiting ++ Reply.Done t ∷ []) (running_fail_plain s.running h.running)
        (replies_join (all_fail 9007 s.waiting) (Reply.Done t ∷ []) (all_fail_by 9007 s.waiting h.lines h.waiting_is h.waiting) (tag, tt)),
  );
}

-- at a line that can be written, such a server answers replies that can be written, and stays such a one
pub read_plain : (s : Server) (l : Line) → IsPlainServer s → IsWritable l.tag l.command → IsPlainAnswer (server_read s (Ok l))
read_plain s l h w =
    let tag : IsTag l.tag = line_tag l w in
    either IsPlainAnswer (runs_under l.tag s.running || waits_under l.tag s.waiting) _ _ (record { server = h; said = (omega arith, tt) })
    (either IsPlainAnswer (is_abort (Ok l.command)) _ _ (aborted_plain s l.tag h tag) (stands_plain s l.tag l.command h w))

-- ---- a turn

runs_plain : (s : Server) (l : Line) → IsPlainServer s → IsWritable l.tag l.command → IsPlainServer (record s { running = Some l })
runs_plain s l h w = record {
  lines = h.lines;
  waiting_is = h.waiting_is;
  running = (w, tt);
  waiting = h.waiting;
  stored = h.stored;
  frame = h.frame;
}

frame_plain : (system : Csy) (stored : Point) → IsInVolume stored → IsInVolume (offset (frame_of system stored))
frame_plain MachineCsy stored h = zero_in_volume
frame_plain PartCsy stored h = h

carried_plain : (s : Server) (t : Tag) (c : Command) → IsPlainServer s → IsWritable t c → IsPlainAnswer (carried_out s t c)
carried_plain s t Command.StartSession h w = record {
  server = record {
    lines = h.lines;
    waiting_is = h.waiting_is;
    running = h.running;
    waiting = h.waiting;
    stored = h.stored;
    frame = h.frame;
  };
  said = (tag_of_numbered t w.tagged.numbered, tt);
}
carried_plain s t Command.EndSession h w = record {
  server = record {
    lines = h.lines;
    waiting_is = h.waiting_is;
    running = h.running;
    waiting = h.waiting;
    stored = h.stored;
    frame = h.frame;
  };
  said = (tag_of_numbered t w.tagged.numbered, tt);
}
carried_plain s t Command.ClearAllErrors h w = record { server = h; said = (tag_of_numbered t w.tagged.numbered, tt) }
carried_plain s t Command.OnPtMeasReport h w = record { server = h; said = (tag_of_numbered t w.tagged.numbered, tt) }
carried_plain s t Command.IsHomed h w = record {
  server = record {
    lines = h.lines;
    waiting_is = h.waiting_is;
    running = h.running;
    waiting = h.waiting;
    stored = h.stored;
    frame = h.frame;
  };
  said = ((tag_of_numbered t w.tagged.numbered, tt), (tag_of_numbered t w.tagged.numbered, tt));
}
carried_plain s t (Command.SetCsyTransformation p) h w = record {
  server = record {
    lines = h.lines;
    waiting_is = h.waiting_is;
    running = h.running;
    waiting = h.waiting;
    stored = opposite_in_volume p w.arguments;
    frame = h.frame;
  };
  said = (tag_of_numbered t w.tagged.numbered, tt);
}
carried_plain s t (Command.SetCoordSystem system) h w = record {
  server = record {
    lines = h.lines;
    waiting_is = h.waiting_is;
    running = h.running;
    waiting = h.waiting;
    stored = h.stored;
    frame = frame_plain system s.stored h.stored;
  };
  said = (tag_of_numbered t w.tagged.numbered, tt);
}
carried_plain s t Command.Home h w = record {
  server = record {
    lines = h.lines;
    waiting_is = h.waiting_is;
    running = (w, tt);
    waiting = h.waiting;
    stored = h.stored;
    frame = h.frame;
  };
  said = tt;
}
carried_plain s t (Command.ChangeTool n) h w = record {
  server = record {
    lines = h.lines;
    waiting_is = h.waiting_is;
    running = (w, tt);
    waiting = h.waiting;
    stored = h.stored;
    frame = h.frame;
  };
  said = tt;
}
carried_plain s t (Command.GoTo p) h w = record { server = runs_plain s (record { tag = t; command = Command.GoTo p }) h w; said = tt }
carried_plain s t (Command.PtMeas p d) h w = record {
  server = runs_plain s (record { tag = t; command = Command.PtMeas p d }) h w;
  said = tt;
}
carried_plain s t Command.AbortE h w = record { server = h; said = tt }

turned_by : (s : Server) (ls : List Line) → IsPlainServer s → AreWritable ls → IsPlainAnswer (turned_to s (all_wait ls))
turned_by s [] h w = record { server = h; said = tt }
turned_by s (l ∷ ls) h w = go (refusal s (Ok l.command))
  where
    go : (number : Option ℕ) → IsPlainAnswer (taken s (waits l) (all_wait ls) number)
    go (Some number) = record {
      server = failed_server s h;
      said = replies_join (fails l.tag number (Some (kind_of l.command)))
          (all_fail 9007 (all_wait ls)) (fails_plain l.tag number (Some (kind_of l.command)) (line_tag l w.0)) (all_fail_plain 9007 ls w.1);
    }
    go None = carried_plain (record s { waiting = all_wait ls }) l.tag l.command
        (record { lines = ls; waiting_is = refl; running = h.running; waiting = w.1; stored = h.stored; frame = h.frame }) w.0

-- at the turn of the first that waits, such a server answers replies that can be written, and stays such a one
pub turned_plain : (s : Server) → IsPlainServer s → IsPlainAnswer (server_turned s)
turned_plain s h = subst (λ (ws : List Waiting). IsPlainAnswer (turned_to s ws)) (sym h.waiting_is) (turned_by s h.lines h h.waiting)

-- ---- the machine

stopped_plain : (s : Server) (l : Line) (number : ℕ) → IsPlainServer s → IsWritable l.tag l.command → IsPlainAnswer (stopped s l number)
stopped_plain s l number h w = record {
  server = record { lines = []; waiting_is = refl; running = tt; waiting = tt; stored = h.stored; frame = h.frame };
  said = replies_join (fails l.tag number (Some (kind_of l.command))) (all_fail 9007 s.waiting)
      (fails_plain l.tag number (Some (kind_of l.command)) (line_tag l w)) (all_fail_by 9007 s.waiting h.lines h.waiting_is h.waiting);
}

idle_plain : (s : Server) → IsPlainServer s → IsPlainServer (idle s)
idle_plain s h = record {
  lines = h.lines;
  waiting_is = h.waiting_is;
  running = tt;
  waiting = h.waiting;
  stored = h.stored;
  frame = h.frame;
}

finished_plain : (s : Server) (t : Tag) (c : Command) → IsPlainServer s → IsTag t → has_outcome c Outcome.Done ≡ true
    → IsPlainAnswer (finished s t c)
finished_plain s t Command.Home h tag can = record {
  server = record {
    lines = h.lines;
    waiting_is = h.waiting_is;
    running = tt;
    waiting = h.waiting;
    stored = h.stored;
    frame = h.frame;
  };
  said = (tag, tt);
}
finished_plain s t (Command.ChangeTool n) h tag can = record {
  server = record { lines = h.lines; waiting_is = h.waiting_is; running = tt; waiting = h.waiting; stored = h.stored; frame = h.frame };
  said = (tag, tt);
}
finished_plain s t (Command.GoTo p) h tag can = record {
  server = record {
    lines = h.lines;
    waiting_is = h.waiting_is;
    running = tt;
    waiting = h.waiting;
    stored = h.stored;
    frame = h.frame;
  };
  said = (tag, tt);
}
finished_plain s t Command.StartSession h tag can = record { server = h; said = tt }
finished_plain s t Command.EndSession h tag can = record { server = h; said = tt }
finished_plain s t Command.ClearAllErrors h tag can = record { server = h; said = tt }
finished_plain s t Command.IsHomed h tag can = record { server = h; said = tt }
finished_plain s t Command.OnPtMeasReport h tag can = record { server = h; said = tt }
finished_plain s t (Command.PtMeas p d) h tag can = record { server = h; said = tt }
finished_plain s t (Command.SetCsyTransformation p) h tag can = record { server = h; said = tt }
finished_plain s t (Command.SetCoordSystem system) h tag can = record { server = h; said = tt }
finished_plain s t Command.AbortE h tag can = record { server = h; said = tt }

-- a point that passes the test of the volume lies in it on each axis
pub volume_is : (p : Point) → in_volume p ≡ true → IsInVolume p
volume_is p e =
    let parts = and_parts _ _ e in
    let others = and_parts _ _ parts.1 in
    record { x = leb-true _ _ parts.0; y = leb-true _ _ others.0; z = leb-true _ _ others.1 }

touch_plain : (s : Server) (t : Tag) (p : Point) (d : Option Direction) (at : Point) (tool : Option (List ℕ)) → IsPlainServer s → IsTag t
    → in_volume at ≡ true → IsPlainAnswer (touched s t (Command.PtMeas p d) at tool)
touch_plain s t p d at (Some n) h tag can = record {
  server = record { lines = h.lines; waiting_is = h.waiting_is; running = tt; waiting = h.waiting; stored = h.stored; frame = h.frame };
  said = ((tag, difference_on_wire at (offset s.frame) (volume_is at can) h.frame), (tag, tt));
}
touch_plain s t p d at None h tag can = record { server = h; said = tt }

touched_plain : (s : Server) (t : Tag) (c : Command) (at : Point) (tool : Option (List ℕ)) → IsPlainServer s → IsTag t
    → has_outcome c (Outcome.Touched at) ≡ true → IsPlainAnswer (touched s t c at tool)
touched_plain s t (Command.PtMeas p d) at tool h tag can = touch_plain s t p d at tool h tag can
touched_plain s t Command.Home at tool h tag can = absurd (false≢true can)
touched_plain s t (Command.ChangeTool n) at tool h tag can = absurd (false≢true can)
touched_plain s t (Command.GoTo p) at tool h tag can = absurd (false≢true can)
touched_plain s t Command.StartSession at tool h tag can = absurd (false≢true can)
touched_plain s t Command.EndSession at tool h tag can = absurd (false≢true can)
touched_plain s t Command.ClearAllErrors at tool h tag can = absurd (false≢true can)
touched_plain s t Command.IsHomed at tool h tag can = absurd (false≢true can)
touched_plain s t Command.OnPtMeasReport at tool h tag can = absurd (false≢true can)
touched_plain s t (Command.SetCsyTransformation p) at tool h tag can = absurd (false≢true can)
touched_plain s t (Command.SetCoordSystem system) at tool h tag can = absurd (false≢true can)
touched_plain s t Command.AbortE at tool h tag can = absurd (false≢true can)

machined_by : (s : Server) (outcome : Outcome) (l : Line) → IsPlainServer s → IsWritable l.tag l.command
    → has_outcome l.command outcome ≡ true → IsPlainAnswer (machined s outcome (Some l))
machined_by s Outcome.Done l h w can = finished_plain s l.tag l.command h (line_tag l w) can
machined_by s (Outcome.Touched at) l h w can = touched_plain s l.tag l.command at s.tool h (line_tag l w) can
machined_by s Outcome.Missed l h w can = stopped_plain s l 9014 h w
machined_by s Outcome.Fault l h w can = stopped_plain s l 9015 h w

-- at an outcome that what runs can have, such a server answers replies that can be written, and stays such a one
pub machined_plain : (s : Server) (outcome : Outcome) → IsPlainServer s → may_end s.running outcome ≡ true
    → IsPlainAnswer (server_machined s outcome)
machined_plain s outcome h can = go s.running refl
  where
    go : (o : Option Line) → s.running ≡ o → IsPlainAnswer (machined s outcome s.running)
    go None e = absurd (false≢true (subst (λ (o : Option Line). may_end o outcome ≡ true) e can))
    go (Some l) e =
        let running : AreWritable (l ∷ []) = subst (λ (o : Option Line). AreWritable (listed o)) e h.running in
        subst (λ (o : Option Line). IsPlainAnswer (machined s outcome o)) (sym e)
        (machined_by s outcome l h running.0 (subst (λ (o : Option Line). may_end o outcome ≡ true) e can))

-- ---- leaving

-- a server that has left its connection is such a one, homed or not and with any tool or none
pub left_plain : (s : Server) (homed : Bool) (tool : Option (List ℕ))
    → IsPlainServer (record (server_left s) { homed = homed; tool = tool })
left_plain s homed tool = record {
  lines = [];
  waiting_is = refl;
  running = tt;
  waiting = tt;
  stored = zero_in_volume;
  frame = zero_in_volume;
}
