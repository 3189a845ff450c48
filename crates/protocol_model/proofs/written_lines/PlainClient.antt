-- What a client writes are commands that can be written.
use Rattle.protocol_model.proofs.Names.{[], ◌++◌, ◌-◌, ◌∷◌, ◌≡◌, ◌≤◌, AllByRecursion, arith, behind, block_touches, Bool, Cause, clearing, Client}
use Rattle.protocol_model.proofs.Names.{client_aborted, client_connected, client_hears, client_left, client_read, client_restarted, client_resumed}
use Rattle.protocol_model.proofs.Names.{client_sent, Command, cond, Direction, Err, false, false≢true, first_free, Frame, frame_behind, framing}
use Rattle.protocol_model.proofs.Names.{HasArguments, Heard, heard_event, heard_in, heard_on, heard_standard, IfSome, is_abort, is_empty}
use Rattle.protocol_model.proofs.Names.{is_event_kind, IsDirection, IsFrame, IsIjk, IsProgram, IsStep, IsTouch, kind_of, length, List}
use Rattle.protocol_model.proofs.Names.{Meaning as Program, measuring, NewConnection, next_number, None, not, Ok, OpenCommand, Option, or_else, Part}
use Rattle.protocol_model.proofs.Names.{passed_over, plan, Planned, refl, Result, SameConnection, Sends, sends_abort, sends_next, Some, Start, Std}
use Rattle.protocol_model.proofs.Names.{Step, stepping, suc, sym, Table, Tag, tag_is, tool_behind, tooling, true, up_to, volume_on_wire, Wanted, zero}
use Rattle.protocol_model.proofs.Names.{ℕ}
use Rattle.fixed_um.specs.Names.{IsName}
use Rattle.fixed_um.specs.declared.frames.Frame.TheVariants.{Machine}
use Rattle.dme_line.specs.declared.tags.Tag.TheVariants.{Event}
use Rattle.protocol_model.specs.Replies.{Mark}
use Rattle.protocol_model.proofs.plan.Marks.{HasNoAbort, plan_no_abort}
use Rattle.protocol_model.proofs.plan.PassedOver.{passes, passed_no_abort}
use Rattle.protocol_model.proofs.table.Asking.{tallied_leaves}
use Rattle.protocol_model.proofs.table.Drawing.{IsFound, found, or_cases}
use Rattle.protocol_model.proofs.written_lines.Writable.{AreWritable, opposite_in_volume}

-- ---- plans

-- the commands of these steps have arguments that can be written
abbrev pub HaveArguments : List Planned → Type 0
HaveArguments [] = Unit {0}
HaveArguments (p ∷ ps) = HasArguments p.command × HaveArguments ps

arguments_join : (ps qs : List Planned) → HaveArguments ps → HaveArguments qs → HaveArguments (ps ++ qs)
arguments_join [] qs h g = g
arguments_join (p ∷ ps) qs h g = (h.0, arguments_join ps qs h.1 g)

ijk_is : (d : Option Direction) → IfSome d IsDirection → IsIjk d
ijk_is None h = tt
ijk_is (Some d) h = h

arguments_framing : (frame : Frame) → IsFrame frame → HaveArguments (framing frame)
arguments_framing Machine h = (tt, tt)
arguments_framing (Part p) h = (opposite_in_volume p h, (tt, tt))

abbrev IsTool : Option (List ℕ) → Type 0
IsTool None = Unit {0}
IsTool (Some n) = IsName n

arguments_tooling : (tool : Option (List ℕ)) → IsTool tool → HaveArguments (tooling tool)
arguments_tooling None h = tt
arguments_tooling (Some n) h = (h, tt)

arguments_steps : (frame : Frame) (ss : List Step) → AllByRecursion IsStep ss → HaveArguments (stepping frame ss)
arguments_steps frame [] h = tt
arguments_steps frame (Step.Goto p ∷ ss) h = (volume_on_wire p h.0, arguments_steps frame ss h.1)
arguments_steps frame (Step.Begin l ∷ ss) h = arguments_steps frame ss h.1
arguments_steps frame (Step.Touch t ∷ ss) h = let touch : IsTouch t = h.0
    in ((volume_on_wire t.target touch.target, ijk_is t.dir touch.direction), arguments_steps frame ss h.1)
arguments_steps frame (Step.Tool n ∷ ss) h = (h.0, arguments_steps frame ss h.1)
arguments_steps frame (Step.Recall p ∷ ss) h = arguments_join (framing (Part p)) (stepping (Part p) ss) (arguments_framing (Part p) h.0)
    (arguments_steps (Part p) ss h.1)
arguments_steps frame (Step.End ∷ ss) h = arguments_steps frame ss h.1

abbrev AreSteps : List Step → Type 0
AreSteps ss = AllByRecursion IsStep ss

cond_steps : (b : Bool) (xs ys : List Step) → AreSteps xs → AreSteps ys → AreSteps (cond b xs ys)
cond_steps true xs ys h g = h
cond_steps false xs ys h g = g

steps_behind : (k : ℕ) (ss : List Step) → AreSteps ss → AreSteps (behind k ss)
steps_behind zero ss h = h
steps_behind (suc k) [] h = tt
steps_behind (suc k) (Step.Goto p ∷ ss) h = steps_behind (suc k) ss h.1
steps_behind (suc k) (Step.Begin l ∷ ss) h = steps_behind (suc k) ss h.1
steps_behind (suc k) (Step.Touch t ∷ ss) h = cond_steps (is_empty (block_touches ss)) _ _ (steps_behind k ss h.1)
    (steps_behind (suc k) ss h.1)
steps_behind (suc k) (Step.Tool n ∷ ss) h = steps_behind (suc k) ss h.1
steps_behind (suc k) (Step.Recall p ∷ ss) h = steps_behind (suc k) ss h.1
steps_behind (suc k) (Step.End ∷ ss) h = steps_behind (suc k) ss h.1

steps_up_to : (k : ℕ) (ss : List Step) → AreSteps ss → AreSteps (up_to k ss)
steps_up_to zero ss h = tt
steps_up_to (suc k) [] h = tt
steps_up_to (suc k) (Step.Goto p ∷ ss) h = (h.0, steps_up_to (suc k) ss h.1)
steps_up_to (suc k) (Step.Begin l ∷ ss) h = (h.0, steps_up_to (suc k) ss h.1)
steps_up_to (suc k) (Step.Touch t ∷ ss) h = (
  h.0,
  cond_steps (is_empty (block_touches ss)) _ _ (steps_up_to k ss h.1)
      (steps_up_to (suc k) ss h.1),
)
steps_up_to (suc k) (Step.Tool n ∷ ss) h = (h.0, steps_up_to (suc k) ss h.1)
steps_up_to (suc k) (Step.Recall p ∷ ss) h = (h.0, steps_up_to (suc k) ss h.1)
steps_up_to (suc k) (Step.End ∷ ss) h = (h.0, steps_up_to (suc k) ss h.1)

tool_is : (tool : Option (List ℕ)) (ss : List Step) → IsTool tool → AreSteps ss → IsTool (tool_behind tool ss)
tool_is tool [] t h = t
tool_is tool (Step.Goto p ∷ ss) t h = tool_is tool ss t h.1
tool_is tool (Step.Begin l ∷ ss) t h = tool_is tool ss t h.1
tool_is tool (Step.Touch u ∷ ss) t h = tool_is tool ss t h.1
tool_is tool (Step.Tool n ∷ ss) t h = tool_is (Some n) ss h.0 h.1
tool_is tool (Step.Recall p ∷ ss) t h = tool_is tool ss t h.1
tool_is tool (Step.End ∷ ss) t h = tool_is tool ss t h.1

frame_is : (frame : Frame) (ss : List Step) → IsFrame frame → AreSteps ss → IsFrame (frame_behind frame ss)
frame_is frame [] f h = f
frame_is frame (Step.Goto p ∷ ss) f h = frame_is frame ss f h.1
frame_is frame (Step.Begin l ∷ ss) f h = frame_is frame ss f h.1
frame_is frame (Step.Touch u ∷ ss) f h = frame_is frame ss f h.1
frame_is frame (Step.Tool n ∷ ss) f h = frame_is frame ss f h.1
frame_is frame (Step.Recall p ∷ ss) f h = frame_is (Part p) ss h.0 h.1
frame_is frame (Step.End ∷ ss) f h = frame_is frame ss f h.1

arguments_measuring : (tool : Option (List ℕ)) (frame : Frame) (ss : List Step) → IsTool tool → IsFrame frame → AreSteps ss
    → HaveArguments (measuring tool frame ss)
arguments_measuring tool frame ss t f h =
    arguments_join (tooling tool) _ (arguments_tooling tool t)
    (arguments_join (framing frame) _ (arguments_framing frame f)
    (arguments_join (stepping frame ss) _ (arguments_steps frame ss h) (tt, tt)))

-- so have those of each plan of a program, after any number of features and from either start
pub plan_arguments : (p : Program) (k : ℕ) (start : Start) → IsProgram p → HaveArguments (plan p k start)
plan_arguments p k start h = go start
  where
    rest : HaveArguments (clearing (measuring (tool_behind None (up_to k p.steps)) (frame_behind Machine (up_to k p.steps))
        (behind k p.steps)))
    rest = (
      tt,
      (
        tt,
        (
          tt,
          (
            tt,
            arguments_measuring _ _ (behind k p.steps) (tool_is None (up_to k p.steps) tt (steps_up_to k p.steps h.steps))
                (frame_is Machine (up_to k p.steps) tt (steps_up_to k p.steps h.steps)) (steps_behind k p.steps h.steps),
          ),
        ),
      ),
    )

    go : (s : Start) → HaveArguments (plan p k s)
    go NewConnection = (tt, rest)
    go SameConnection = rest

-- so have those that are left if the next homing is skipped
passed_arguments : (told : Bool) (ps : List Planned) → HaveArguments ps → HaveArguments (passed_over told ps)
passed_arguments told ps h = passes HaveArguments (λ p qs e f. f.1) told ps h

-- ---- numbers that are drawn

number_below : (sort : ℕ → Tag) (hs : List OpenCommand) (last all n : ℕ) → last ≤ all
    → or_else (first_free sort hs (suc last) (all - last)) (first_free sort hs 1 all) ≡ Some n → (1 ≤ n) × (n ≤ all)
number_below sort hs last all n le e = or_cases _ _ n ((1 ≤ n) × (n ≤ all)) e
    (λ first. let f : IsFound sort hs (suc last) (all - last) n = found sort hs (suc last) (all - last) n first
    in (omega (arith, f.from), omega (arith, f.below)))
    (λ other. let f : IsFound sort hs 1 all n = found sort hs 1 all n other in (f.from, omega (arith, f.below)))

-- ---- the client

-- a client with a well-made program, drawn numbers of at most 9,999, and unsent commands that can be written and are not aborts
pub record IsPlainClient (c : Client) : Type 0 where
  pub program : IsProgram c.program
  pub drawn : c.drawn ≤ 9999
  pub event_drawn : c.event_drawn ≤ 9999
  pub unsent : HaveArguments c.table.tally.unsent
  pub no_abort : HasNoAbort c.table.tally.unsent

-- such a client, with lines to send that can be written
pub record IsPlainSends (s : Sends) : Type 0 where
  pub client : IsPlainClient s.client
  pub lines : AreWritable s.lines

-- a command that is not an abort is sent under a standard tag
pub standard_kind : (c : Command) → is_abort (Ok c) ≡ false → false ≡ is_event_kind (kind_of c)
standard_kind Command.StartSession h = refl
standard_kind Command.EndSession h = refl
standard_kind Command.ClearAllErrors h = refl
standard_kind Command.IsHomed h = refl
standard_kind Command.Home h = refl
standard_kind Command.OnPtMeasReport h = refl
standard_kind (Command.GoTo p) h = refl
standard_kind (Command.PtMeas p d) h = refl
standard_kind (Command.ChangeTool n) h = refl
standard_kind (Command.SetCsyTransformation p) h = refl
standard_kind (Command.SetCoordSystem s) h = refl
standard_kind Command.AbortE h = absurd (false≢true (sym h))

-- a plain client stays one on a new connection
pub plain_connected : (n : ℕ) (c : Client) → IsPlainClient c → IsPlainClient (client_connected n c)
plain_connected n c h = record {
  program = h.program;
  drawn = omega arith;
  event_drawn = omega arith;
  unsent = plan_arguments c.program (length c.table.tally.features) Start.NewConnection h.program;
  no_abort = plan_no_abort c.program (length c.table.tally.features) Start.NewConnection;
}

sends_by : (c : Client) (ps : List Planned) (number : Option ℕ) → IsPlainClient c → HaveArguments ps → HasNoAbort ps
    → ((n : ℕ) → number ≡ Some n → (1 ≤ n) × (n ≤ 9999)) → IsPlainSends (sends_next c ps number)
sends_by c [] number h a b within = record { client = h; lines = tt }
sends_by c (p ∷ ps) None h a b within = record {
  client = record {
    program = h.program;
    drawn = h.drawn;
    event_drawn = h.event_drawn;
    unsent = h.unsent;
    no_abort = h.no_abort;
  };
  lines = tt;
}
sends_by c (p ∷ ps) (Some n) h a b within =
    let bounds = within n refl in
    record {
      client = record { program = h.program; drawn = bounds.1; event_drawn = h.event_drawn; unsent = a.1; no_abort = b.1 };
      lines = (
        record {
          tagged = record { numbered = (bounds.0, omega (arith, bounds.1)); sort = standard_kind p.command b.0 };
          arguments = a.0;
        },
        tt,
      );
    }

-- what it sends of its plan can be written, and it stays plain
pub plain_sent : (c : Client) → IsPlainClient c → IsPlainSends (client_sent c)
plain_sent c h = sends_by c c.table.tally.unsent (next_number Std c.table.standard c.drawn) h h.unsent h.no_abort
    (λ n e. number_below Std c.table.standard c.drawn 9999 n h.drawn e)

aborts_by : (c : Client) (number : Option ℕ) → IsPlainClient c → ((n : ℕ) → number ≡ Some n → (1 ≤ n) × (n ≤ 9999))
    → IsPlainSends (sends_abort c number)
aborts_by c None h within = record {
  client = record {
    program = h.program;
    drawn = h.drawn;
    event_drawn = h.event_drawn;
    unsent = h.unsent;
    no_abort = h.no_abort;
  };
  lines = tt;
}
aborts_by c (Some n) h within =
    let bounds = within n refl in
    record {
      client = record { program = h.program; drawn = h.drawn; event_drawn = bounds.1; unsent = h.unsent; no_abort = h.no_abort };
      lines = (record { tagged = record { numbered = (bounds.0, bounds.1); sort = refl }; arguments = tt }, tt);
    }

-- likewise for an abort that it sends
pub plain_aborted : (c : Client) → IsPlainClient c → IsPlainSends (client_aborted c)
plain_aborted c h = aborts_by c (next_number Event c.table.event c.event_drawn) h
    (λ n e. number_below Event c.table.event c.event_drawn 9999 n h.event_drawn e)

-- commands that can be written and are not aborts
abbrev AreSendable : List Planned → Type 0
AreSendable ps = HaveArguments ps × HasNoAbort ps

-- what an expected reply leaves unsent are such commands
abbrev LeavesSendable : Result Table Cause → Type 0
LeavesSendable (Ok b) = AreSendable b.tally.unsent
LeavesSendable (Err cause) = Unit {0}

standard_leaves : (ws : List Wanted) (b : Table) (r : Heard) → AreSendable b.tally.unsent → LeavesSendable (heard_standard ws b r)
standard_leaves ws b (Ok (hs, effect)) h = tallied_leaves ws effect b.tally AreSendable h
    (λ ps told s. (passed_arguments told ps s.0, passed_no_abort told ps s.1))
standard_leaves ws b (Err cause) h = tt

event_leaves : (b : Table) (r : Heard) → AreSendable b.tally.unsent → LeavesSendable (heard_event b r)
event_leaves b (Ok (hs, effect)) h = h
event_leaves b (Err cause) h = tt

leaves_on : (ws : List Wanted) (b : Table) (t : Tag) (m : Mark) → AreSendable b.tally.unsent → LeavesSendable (heard_on ws b t m)
leaves_on ws b (Std n) m h = standard_leaves ws b (heard_in (not b.tally.failed) b.standard (Std n) m) h
leaves_on ws b (Event n) m h = event_leaves b (heard_in true b.event (Event n) m) h

hears_plain : (c : Client) (t : Tag) (m : Mark) (r : Result Table Cause) → IsPlainClient c → LeavesSendable r
    → IsPlainClient (client_hears c t m r)
hears_plain c t m (Ok b) h leaves = record {
  program = h.program;
  drawn = h.drawn;
  event_drawn = h.event_drawn;
  unsent = leaves.0;
  no_abort = leaves.1;
}
hears_plain c t m (Err cause) h leaves = record {
  program = h.program;
  drawn = h.drawn;
  event_drawn = h.event_drawn;
  unsent = h.unsent;
  no_abort = h.no_abort;
}

-- it stays plain after each reply that it reads
pub plain_read : (c : Client) (t : Tag) (m : Mark) → IsPlainClient c → IsPlainClient (client_read c t m)
plain_read c t m h = go (tag_is t (Event 0))
  where
    go : (b : Bool) → IsPlainClient (cond b c (client_hears c t m (heard_on c.program.features c.table t m)))
    go true = h
    go false = hears_plain c t m (heard_on c.program.features c.table t m) h
        (leaves_on c.program.features c.table t m (h.unsent, h.no_abort))

-- and where it resumes measuring
pub plain_resumed : (c : Client) → IsPlainClient c → IsPlainClient (client_resumed c)
plain_resumed c h = record {
  program = h.program;
  drawn = h.drawn;
  event_drawn = h.event_drawn;
  unsent = plan_arguments c.program (length c.table.tally.features) Start.SameConnection h.program;
  no_abort = plan_no_abort c.program (length c.table.tally.features) Start.SameConnection;
}

-- and where it leaves its connection
pub plain_left : (c : Client) → IsPlainClient c → IsPlainClient (client_left c)
plain_left c h = record { program = h.program; drawn = h.drawn; event_drawn = h.event_drawn; unsent = h.unsent; no_abort = h.no_abort }

-- and if it is restarted with its first k features
pub plain_restarted : (k : ℕ) (c : Client) → IsPlainClient c → IsPlainClient (client_restarted k c)
plain_restarted k c h = record { program = h.program; drawn = omega arith; event_drawn = omega arith; unsent = tt; no_abort = tt }
