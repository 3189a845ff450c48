-- What holds of each statement of a text, and of others on their lines, holds of each that comes out.
use Rattle.std.proofs.Common.{◌≡◌, ℕ, zero, suc, ◌+◌, Bool, true, false, List, [], ◌∷◌, cond, drop, refl, subst, sym}
use Rattle.std.specs.List.{AllByRecursion}
use Rattle.std.specs.Prelude.{◌==◌, ◌&&◌, ◌||◌, not, bytes_eq, codes, None, Option, Some, ℤ, ◌+ℤ◌, ◌-◌, unsigned_abs, take}
use Rattle.dmis_text.specs.Reading.{text_reading}
use Rattle.dmis_text.specs.declared.elements.Statement.{Statement}
use Rattle.dmis_text.specs.declared.reading.TextFault.{TextFault}
use Rattle.program_flow.specs.LookBack.{value_said}
use Rattle.program_flow.specs.Calls as calls
use Rattle.program_flow.specs.Calls.{Frame, Step, call_by, call_of, ended_by, fits, given_up_in, is_call, is_open, leave_frame, step, step_at}
use Rattle.program_flow.specs.Macros.{Macro, Pair, all_with_arguments, begins_macro, body_of, both_or_none, ends_macro, has_end, has_label, macro_after, macro_name}
use Rattle.program_flow.specs.Macros.{only_statement, outside_after, pairs_of, replaced_statement, said_by, statement_text, with_arguments}
use Rattle.program_flow.specs.Blocks.{around, end_of, is_level, label_place, part_of, start_of}
use Rattle.program_flow.specs.Flow.{Control, Header, Turn, again, assignment, assigns, begun, branch, carried, choose_by, condition_of, do_by}
use Rattle.program_flow.specs.Values.{Valuation, Value}
use Rattle.program_flow.specs.Flow.{do_with, enddo_by, enter_at, enter_by, is_default, is_last, select_by}
use Rattle.program_flow.specs.Flow.{first_text, gives_or, header_at, header_of, if_by, is_kept, jump_by, jump_of, leave_by, next_text}
use Rattle.program_flow.specs.Flow.{only_assignment, other_branch, past_branch, round_by, round_of, round_with, to, turn, turn_at, turn_of, whole_value}
use Rattle.program_flow.specs.Flow.Turn.{Ends, Stops, Passes, Gives}
use Rattle.program_flow.specs.declared.blocks.Block.{Block}
use Rattle.program_flow.specs.declared.blocks.Rounds.{Rounds}
use Rattle.program_flow.specs.declared.blocks.Part.{Part}
use Rattle.program_flow.specs.declared.blocks.Part.TheVariants.{If, Else, EndIf, Do, EndDo, Select, Case, DefaultCase, EndCase, EndSelect, Jump, Label, Other}
use Rattle.program_flow.specs.declared.selections.Choice.{Choice}
use Rattle.program_flow.specs.declared.selections.Choice.TheVariants.{Branch, NoBranch}
use Rattle.program_flow.specs.Selections.{chosen, selected}
use Rattle.program_flow.proofs.Frames.{call-done, call-step}

module _ (Q : Statement → Type 0) (assigned : (s a : Statement) → Q s → bytes_eq a.word (codes "ASSIGN") ≡ true → a.line ≡ s.line → Q a) where
  abbrev Comes : Turn → Type 0
  Comes Ends = Unit {0}
  Comes (Stops s) = Q s
  Comes (Passes next) = Unit {0}
  Comes (Gives s next) = Q s

  branch_comes : (c : Control) (s : Statement) (middle : ℕ) (below : List Statement) → Q s → Comes (past_branch c s middle below)
  branch_comes c s middle [] h = h
  branch_comes c s middle (t ∷ below) h = go (part_of t) (end_of Else 0 (middle + 1) below)
    where
      go : (part : Part) (end : Option ℕ) → Comes (other_branch c s middle part end)
      go Else (Some end) = tt
      go Else None = h
      go If end = tt
      go EndIf end = tt
      go Do end = tt
      go EndDo end = tt
      go Select end = tt
      go Case end = tt
      go DefaultCase end = tt
      go EndCase end = tt
      go EndSelect end = tt
      go Jump end = tt
      go Label end = tt
      go Other end = tt

  if_comes : (all : List Statement) (c : Control) (s : Statement) (r : Option Bool) (middle : Option ℕ) → Q s → Comes (if_by all c s r middle)
  if_comes all c s (Some true) (Some middle) h = tt
  if_comes all c s (Some false) (Some middle) h = branch_comes c s middle (drop middle all) h
  if_comes all c s (Some true) None h = h
  if_comes all c s (Some false) None h = h
  if_comes all c s None middle h = h

  either_comes : (b : Bool) (next : Control) (s : Statement) → Q s → Comes (cond b (Passes next) (Stops s))
  either_comes true next s h = tt
  either_comes false next s h = h

  leave_comes : (c : Control) (s : Statement) (blocks : List Block) (end : Option ℕ) → Q s → Comes (leave_by c s blocks end)
  leave_comes c s (b ∷ outer) (Some end) h = either_comes (b.end == c.place) (to (end + 1) outer) s h
  leave_comes c s (b ∷ outer) None h = h
  leave_comes c s [] end h = h

  made_comes : (s : Statement) (ss : List Statement) (f : Option TextFault) (next : Control) → Q s → Comes (gives_or s (only_assignment s.line ss f) next)
  made_comes s [] f next h = h
  made_comes s (t ∷ []) (Some fault) next h = h
  made_comes s (t ∷ (u ∷ ss)) f next h = h
  made_comes s (t ∷ []) None next h = go (bytes_eq t.word (codes "ASSIGN")) refl
    where
      go : (b : Bool) → bytes_eq t.word (codes "ASSIGN") ≡ b → Comes (gives_or s (cond b (Some (record t { line = s.line })) None) next)
      go true e = assigned s (record t { line = s.line }) h e refl
      go false e = h

  assigns_comes : (s : Statement) (text : List ℕ) (next : Control) → Q s → Comes (assigns s text next)
  unfolding assignment
  assigns_comes s text next h = made_comes s (text_reading text).statements (text_reading text).fault next h

  unless_comes : (b : Bool) (t : Turn) (s : Statement) → Q s → Comes t → Comes (cond b (Stops s) t)
  unless_comes true t s h g = h
  unless_comes false t s h g = g

  do_comes : (values : Valuation) (c : Control) (s : Statement) (h : Option Header) (end : Option ℕ) → Q s → Comes (do_by values c s h end)
  do_comes values c s None end q = q
  do_comes values c s (Some h) None q = q
  do_comes values c s (Some h) (Some end) q = go (whole_value values h.first) (whole_value values h.limit) (whole_value values h.step)
    where
      go : (x y z : Option ℤ) → Comes (do_with c s h end x y z)
      go (Some first) (Some limit) (Some step) = unless_comes (unsigned_abs step == 0) (assigns s (first_text h) (begun c end first limit step)) s q
          (assigns_comes s (first_text h) (begun c end first limit step) q)
      go None y z = q
      go (Some first) None z = q
      go (Some first) (Some limit) None = q

  enter_comes : (all : List Statement) (c : Control) (s : Statement) (place : ℕ) (below : List Statement) → Q s → Comes (enter_at all c s place below)
  enter_comes all c s place [] h = h
  enter_comes all c s place (t ∷ below) h = go (end_of (part_of t) 0 (place + 1) below)
    where
      go : (end : Option ℕ) → Comes (enter_by all c s (place + 1) (part_of t) end)
      go None = h
      go (Some end) = unless_comes (is_default (part_of t) && not (is_last (drop (end + 1) all)))
          (Passes (to (place + 1) (branch (place + 1) end ∷ c.blocks))) s h tt

  choose_comes : (all : List Statement) (c : Control) (s : Statement) (end : ℕ) (it : Option Choice) → Q s → Comes (choose_by all c s end it)
  choose_comes all c s end None h = h
  choose_comes all c s end (Some NoBranch) h = tt
  choose_comes all c s end (Some (Branch place)) h = enter_comes all c s place (drop place all) h

  select_comes : (all : List Statement) (values : Valuation) (c : Control) (s : Statement) (below : List Statement) (f : Option Value) (end : Option ℕ)
      → Q s → Comes (select_by all values c s below f end)
  select_comes all values c s below (Some f) (Some end) h = choose_comes all c s end (chosen values f 0 (c.place + 1) below) h
  select_comes all values c s below None end h = h
  select_comes all values c s below (Some f) None h = h

  if_same_comes : (b : Bool) (t : Turn) (s : Statement) → Q s → Comes t → Comes (cond b t (Stops s))
  if_same_comes true t s h g = g
  if_same_comes false t s h g = h

  round_comes : (values : Valuation) (c : Control) (s : Statement) (b : Block) (outer : List Block) (r : Rounds) (h : Option Header) → Q s
      → Comes (round_by values c s b outer r h)
  round_comes values c s b outer r None q = q
  round_comes values c s b outer r (Some h) q = go (whole_value values h.name) (whole_value values h.limit) (whole_value values h.step)
    where
      go : (x y z : Option ℤ) → Comes (round_with c s b outer r h x y z)
      go (Some value) (Some limit) (Some step) = if_same_comes (is_kept limit step r) (assigns s (next_text h) (again c b outer r (value +ℤ step)))
          s q (assigns_comes s (next_text h) (again c b outer r (value +ℤ step)) q)
      go None y z = q
      go (Some value) None z = q
      go (Some value) (Some limit) None = q

  enddo_comes : (all : List Statement) (values : Valuation) (c : Control) (s : Statement) (blocks : List Block) → Q s
      → Comes (enddo_by all values c s blocks)
  enddo_comes all values c s [] q = q
  enddo_comes all values c s (b ∷ outer) q = if_same_comes (b.end == c.place) (round_of all values c s b outer b.rounds) s q (go b.rounds)
    where
      go : (rounds : Option Rounds) → Comes (round_of all values c s b outer rounds)
      go None = q
      go (Some r) = round_comes values c s b outer r (header_at (drop r.header all)) q

  jump_comes : (all : List Statement) (c : Control) (s : Statement) (params : List (List ℕ)) → Q s → Comes (jump_of all c s params)
  jump_comes all c s [] h = h
  jump_comes all c s (only ∷ (more ∷ others)) h = h
  jump_comes all c s (only ∷ []) h = go (label_place only 0 all)
    where
      go : (place : Option ℕ) → Comes (jump_by all c s place)
      go None = h
      go (Some place) = either_comes (is_level 0 (take (place - start_of (around place c.blocks)) (drop (start_of (around place c.blocks)) all)))
          (to place (around place c.blocks)) s h

  part_comes : (all : List Statement) (values : Valuation) (c : Control) (s : Statement) (below : List Statement) (part : Part) → Q s
      → Comes (turn_of all values c s below part)
  part_comes all values c s below If h = if_comes all c s (condition_of values s.params) (end_of If 0 (c.place + 1) below) h
  part_comes all values c s below Else h = leave_comes c s c.blocks (end_of Else 0 (c.place + 1) below) h
  part_comes all values c s below EndIf h = leave_comes c s c.blocks (Some c.place) h
  part_comes all values c s below Do h = do_comes values c s (header_of s.params) (end_of Do 0 (c.place + 1) below) h
  part_comes all values c s below EndDo h = enddo_comes all values c s c.blocks h
  part_comes all values c s below Select h = select_comes all values c s below (selected values s.params) (end_of Select 0 (c.place + 1) below) h
  part_comes all values c s below Case h = h
  part_comes all values c s below DefaultCase h = h
  part_comes all values c s below EndCase h = leave_comes c s c.blocks (end_of Select 0 (c.place + 1) below) h
  part_comes all values c s below EndSelect h = h
  part_comes all values c s below Jump h = jump_comes all c s s.params h
  part_comes all values c s below Label h = tt
  part_comes all values c s below Other h = h

  dropped : (place : ℕ) (all : List Statement) → AllByRecursion Q all → AllByRecursion Q (drop place all)
  dropped zero all h = h
  dropped (suc place) [] h = h
  dropped (suc place) (s ∷ all) h = dropped place all h.1

  turn_comes : (all : List Statement) (values : Valuation) (c : Control) → AllByRecursion Q all → Comes (turn all values c)
  unfolding turn
  turn_comes all values c h = go (drop c.place all) (dropped c.place all h)
    where
      go : (below : List Statement) → AllByRecursion Q below → Comes (turn_at all values c below)
      go [] h = tt
      go (s ∷ below) h = part_comes all values c s below (part_of s) h.0

  -- statements with arguments, and those of macros
  abbrev AllIn : List Frame → Type 0
  AllIn [] = Unit {0}
  AllIn (f ∷ outer) = AllByRecursion Q f.statements × AllIn outer

  abbrev StepComes : Step → Type 0
  StepComes calls.Step.Ends = Unit {0}
  StepComes (calls.Step.Stops s) = Q s
  StepComes (calls.Step.Passes next) = AllIn next
  StepComes (calls.Step.Gives s next) = Q s × AllIn next

  abbrev OneComes : Option Statement → Type 0
  OneComes None = Unit {0}
  OneComes (Some s) = Q s

  abbrev SomeCome : Option (List Statement) → Type 0
  SomeCome None = Unit {0}
  SomeCome (Some ss) = AllByRecursion Q ss

  abbrev BodyComes : Option Macro → Type 0
  BodyComes None = Unit {0}
  BodyComes (Some m) = AllByRecursion Q m.body

  lifted_comes : (f : Frame) (outer : List Frame) (t : Turn) → AllByRecursion Q f.statements → AllIn outer → Comes t → StepComes (calls.lifted f outer t)
  lifted_comes f outer Ends fs os q = tt
  lifted_comes f outer (Stops s) fs os q = q
  lifted_comes f outer (Passes next) fs os q = (fs, os)
  lifted_comes f outer (Gives s next) fs os q = (q, (fs, os))

  body_comes : (below : List Statement) → AllByRecursion Q below → AllByRecursion Q (body_of below)
  body_comes [] h = tt
  body_comes (s ∷ below) h = go (ends_macro s) (body_comes below h.1)
    where
      go : (b : Bool) → AllByRecursion Q (body_of below) → AllByRecursion Q (cond b [] (s ∷ body_of below))
      go true rest = tt
      go false rest = (h.0, rest)

  macro_comes : (name : List ℕ) (within : Bool) (text : List Statement) → AllByRecursion Q text → BodyComes (macro_after name within text)
  unfolding macro_after
  macro_comes name true [] h = tt
  macro_comes name false [] h = tt
  macro_comes name true (s ∷ below) h = macro_comes name (not (ends_macro s)) below h.1
  macro_comes name false (s ∷ below) h = go (begins_macro s && has_end below) (has_label (macro_name s) name) (body_comes below h.1)
      (macro_comes name true below h.1) (macro_comes name false below h.1)
    where
      go : (b l : Bool) → AllByRecursion Q (body_of below) → BodyComes (macro_after name true below) → BodyComes (macro_after name false below)
          → BodyComes (cond b (cond l (Some (record { params = s.params; body = body_of below })) (macro_after name true below)) (macro_after name false below))
      go true true body inner outer = body
      go true false body inner outer = inner
      go false l body inner outer = outer

  outside_comes : (within : Bool) (text : List Statement) → AllByRecursion Q text → AllByRecursion Q (outside_after within text)
  unfolding outside_after
  outside_comes true [] h = tt
  outside_comes false [] h = tt
  outside_comes true (s ∷ below) h = outside_comes (not (ends_macro s)) below h.1
  outside_comes false (s ∷ below) h = go (begins_macro s && has_end below) (outside_comes true below h.1) (outside_comes false below h.1)
    where
      go : (b : Bool) → AllByRecursion Q (outside_after true below) → AllByRecursion Q (outside_after false below)
          → AllByRecursion Q (cond b (outside_after true below) (s ∷ outside_after false below))
      go true inner outer = inner
      go false inner outer = (h.0, outer)

  module _ (said : (s a : Statement) → Q s → a.line ≡ s.line → Q a) where
    only_comes : (s : Statement) (ss : List Statement) (fault : Option TextFault) → Q s → OneComes (only_statement s.line ss fault)
    only_comes s [] fault h = tt
    only_comes s (t ∷ []) (Some f) h = tt
    only_comes s (t ∷ []) None h = said s (record t { line = s.line }) h refl
    only_comes s (t ∷ (u ∷ ss)) fault h = tt

    argued_comes : (pairs : List Pair) (s : Statement) → Q s → OneComes (with_arguments pairs s)
    unfolding said_by
    argued_comes pairs s h = only_comes s (text_reading (statement_text (replaced_statement pairs s))).statements
        (text_reading (statement_text (replaced_statement pairs s))).fault h

    both_come : (o : Option Statement) (r : Option (List Statement)) → OneComes o → SomeCome r → SomeCome (both_or_none o r)
    both_come None r h g = tt
    both_come (Some s) None h g = tt
    both_come (Some s) (Some below) h g = (h, g)

    all_argued : (pairs : List Pair) (body : List Statement) → AllByRecursion Q body → SomeCome (all_with_arguments pairs body)
    all_argued pairs [] h = tt
    all_argued pairs (s ∷ below) h =
        both_come (with_arguments pairs s) (all_with_arguments pairs below) (argued_comes pairs s h.0) (all_argued pairs below h.1)

    entered_comes : (f : Frame) (outer : List Frame) (s : Statement) (name : List ℕ) (o : Option (List Statement)) → Q s → AllIn (f ∷ outer)
        → SomeCome o → StepComes (calls.enter_by f outer s name o)
    entered_comes f outer s name None q h g = q
    entered_comes f outer s name (Some ss) q h g = (g, h)

    called_comes : (f : Frame) (outer : List Frame) (s : Statement) (name : List ℕ) (arguments : List (List ℕ)) (m : Option Macro) → Q s
        → AllIn (f ∷ outer) → BodyComes m → StepComes (call_by f outer s name arguments m)
    called_comes f outer s name arguments None q h g = q
    called_comes f outer s name arguments (Some m) q h g = go (is_open name (f ∷ outer) || not (fits m arguments))
        (entered_comes f outer s name (all_with_arguments (pairs_of m.params arguments) m.body) q h (all_argued (pairs_of m.params arguments) m.body g))
      where
        go : (b : Bool) → StepComes (calls.enter_by f outer s name (all_with_arguments (pairs_of m.params arguments) m.body))
            → StepComes (cond b (calls.Step.Stops s) (calls.enter_by f outer s name (all_with_arguments (pairs_of m.params arguments) m.body)))
        go true entered = q
        go false entered = entered

    call_comes : (text : List Statement) (f : Frame) (outer : List Frame) (s : Statement) (params : List (List ℕ)) → AllByRecursion Q text → Q s
        → AllIn (f ∷ outer) → StepComes (call_of text f outer s params)
    call_comes text f outer s [] all q h = q
    call_comes text f outer s (name ∷ arguments) all q h =
        called_comes f outer s name arguments (macro_after name false text) q h (macro_comes name false text all)

    left_comes : (outer : List Frame) → AllIn outer → StepComes (leave_frame outer)
    left_comes [] h = tt
    left_comes (f ∷ outer) h = h

    step_comes : (text : List Statement) (values : Valuation) (frames : List Frame) → AllByRecursion Q text → AllIn frames
        → StepComes (step text values frames)
    unfolding step
    step_comes text values [] all h = tt
    step_comes text values (f ∷ outer) all h = go (drop f.control.place f.statements) (dropped f.control.place f.statements h.0)
      where
        by : (b d : Bool) (s : Statement) → Q s → StepComes (cond b (call_of text f outer s s.params)
            (cond d (calls.Step.Stops s) (calls.lifted f outer (turn f.statements values f.control))))
        by true d s q = call_comes text f outer s s.params all q h
        by false true s q = q
        by false false s q = lifted_comes f outer (turn f.statements values f.control) h.0 h.1 (turn_comes f.statements values f.control h.0)

        go : (below : List Statement) → AllByRecursion Q below → StepComes (step_at text values f outer below)
        go [] g = left_comes outer h.1
        go (s ∷ below) g = by (is_call s) (begins_macro s || ends_macro s) s g.0

    -- what a statement decides
    up_line_comes : (line : ℕ) (text : List ℕ) (s : Statement) → s.line ≡ line → Q s → OneComes (said_by line text)
    unfolding said_by
    up_line_comes line text s e q = subst (λ (n : ℕ). OneComes (only_statement n (text_reading text).statements (text_reading text).fault)) e
        (only_comes s (text_reading text).statements (text_reading text).fault q)

    told_comes : (s : Statement) (due : Step) → Q s → StepComes due → StepComes (calls.told s.line s.word due)
    told_comes s calls.Step.Ends q h = tt
    told_comes s (calls.Step.Gives t next) q h = h
    told_comes s (calls.Step.Passes next) q h = go (said_by s.line (calls.lead_text s.word (given_up_in next)))
        (up_line_comes s.line (calls.lead_text s.word (given_up_in next)) s refl q)
      where
        go : (o : Option Statement) → OneComes o → StepComes (calls.leads o next)
        go None one = h
        go (Some t) one = (one, h)
    told_comes s (calls.Step.Stops t) q h = go (said_by s.line s.word) (up_line_comes s.line s.word s refl q)
      where
        go : (o : Option Statement) → OneComes o → Q (calls.bare o t)
        go None one = h
        go (Some u) one = one

    told_step_comes : (text : List Statement) (values : Valuation) (frames : List Frame) → AllByRecursion Q text → AllIn frames
        → StepComes (calls.told_step text values frames)
    told_step_comes text values [] all h = step_comes text values [] all h
    told_step_comes text values (f ∷ outer) all h =
        go (drop f.control.place f.statements) (dropped f.control.place f.statements h.0) (step_comes text values (f ∷ outer) all h)
      where
        by : (b : Bool) (s : Statement) (due : Step) → Q s → StepComes due → StepComes (calls.told_as (cond b (Some (s.line, s.word)) None) due)
        by true s due q d = told_comes s due q d
        by false s due q d = d

        go : (below : List Statement) → AllByRecursion Q below → StepComes (step text values (f ∷ outer))
            → StepComes (calls.told_as (calls.decision_at below) (step text values (f ∷ outer)))
        go [] g d = d
        go (s ∷ below) g d = by (is_call s || calls.decides (part_of s)) s (step text values (f ∷ outer)) g.0 d

    traced_all : (rest : List Frame → List Statement → List Statement) (above : List Statement) (t : Step)
        → ((next : List Frame) (more : List Statement) → AllIn next → AllByRecursion Q (rest next more)) → StepComes t
        → AllByRecursion Q (calls.traced rest above t)
    traced_all rest above calls.Step.Ends all q = tt
    traced_all rest above (calls.Step.Stops s) all q = (q, tt)
    traced_all rest above (calls.Step.Passes next) all q = all next above q
    traced_all rest above (calls.Step.Gives s next) all q = (q.0, all next (carried above s) q.1)

    up_all : (frames : List Frame) → AllIn frames → AllByRecursion Q (given_up_in frames)
    up_all [] h = tt
    up_all (f ∷ outer) h = go (drop f.control.place f.statements) (dropped f.control.place f.statements h.0) (up_all outer h.1)
      where
        go : (below : List Statement) → AllByRecursion Q below → AllByRecursion Q (given_up_in outer)
            → AllByRecursion Q (ended_by below (given_up_in outer))
        go [] g rest = rest
        go (s ∷ below) g rest = (said s (record { line = s.line; label = None; word = codes "ENDDO"; params = [] }) g.0 refl, tt)

    pub comes_all : (n : ℕ) (text : List Statement) (frames : List Frame) (above : List Statement) → AllByRecursion Q text → AllIn frames
        → AllByRecursion Q (calls.trace n text frames above)
    comes_all zero text frames above all h = subst (AllByRecursion Q) (sym (call-done zero text frames above refl)) (up_all frames h)
    comes_all (suc n) text frames above all h = subst (AllByRecursion Q) (sym (call-step n (suc n) text frames above refl))
        (traced_all (calls.trace n text) above (calls.told_step text (value_said above) frames) (λ next more g. comes_all n text next more all g)
        (told_step_comes text (value_said above) frames all h))

    pub all_carried_out : (text : List Statement) → AllByRecursion Q text → AllByRecursion Q (calls.trace 1000000 text (calls.begun text) [])
    all_carried_out text h = comes_all 1000000 text (calls.begun text) [] h (outside_comes false text h, tt)
