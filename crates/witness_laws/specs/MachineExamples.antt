-- Examples: histories that are written out, in the order in which things happen (this profile). No contract but theirs cites these definitions.
use Rattle.std.specs.Prelude.{◌≡◌, ℕ, true, List, [], ◌∷◌, ◌++◌, codes, map, reverse, Option, Some, None, pos, negsuc}
use Rattle.fixed_um.specs.declared.frames.Frame.{Frame}
use Rattle.fixed_um.specs.declared.frames.Frame.TheVariants.{Machine, Part}
use Rattle.fixed_um.specs.declared.lengths.Point.{Point}
use Rattle.dme_line.specs.declared.commands.Command.TheVariants as command
use Rattle.witness.specs.Asking.{Line, Ack, Done, Error}
use Rattle.witness.specs.Examples.{of_each, asks, tool, other_tool, machine, part, zero_point, touch, foreign, untagged, hears, hears_event, given, done, touched}
use Rattle.witness.specs.Rules.{all_reported}
use Rattle.witness_laws.specs.Machines.{Effect, TakesTool, SelectsFrame, StoresZero, Touches, InTurn, AtOnce, ForNoLine, Entry, Message, Does, lines}
use Rattle.witness_laws.specs.Machines.{tool_at_contact, frame_at_contact}
use Rattle.witness_laws.specs.Premises.{Always, ActsWithin, ActsInOrder, ActsBefore, ChangesAreMade, LossesAreReported, TouchesAreMade}

-- ---- what is known, and what was so

-- what the witness knows of each contact, if it reads each line as it is sent
abbrev pub known : List Entry → List (Option (List ℕ) × Option Frame)
known happened = of_each (all_reported true (lines (reverse happened)))

-- the tool and the frame at the contact of the touch at a place
abbrev pub tool_had : ℕ → List Entry → Option (Option (List ℕ))
tool_had n happened = tool_at_contact n (reverse happened)

abbrev pub frame_had : ℕ → List Entry → Option (Option Frame)
frame_had n happened = frame_at_contact n (reverse happened)

-- a history is of this sort, this is known of its contacts, and this is the tool at the one of the touch at a place
abbrev pub Shows : (List Entry → Type 0) → List Entry → List (Option (List ℕ) × Option Frame) → ℕ → Option (Option (List ℕ)) → Type 0
Shows Sort happened of_contacts n tool = Sort (reverse happened) × (known happened ≡ of_contacts) × (tool_had n happened ≡ tool)

-- ---- entries

abbrev pub messages : List Line → List Entry
messages sent = map Message sent

abbrev pub p1 : Option (List ℕ)
p1 = Some (codes "P1")

abbrev pub p2 : Option (List ℕ)
p2 = Some (codes "P2")

-- the zero point of the part's frame in these histories, and that frame
abbrev pub zero : Point
zero = record { x = negsuc 0; y = pos 0; z = pos 0 }

abbrev pub part_frame : Option Frame
part_frame = Some (Part zero)

abbrev pub takes : ℕ → Option (List ℕ) → List Entry
takes n name = Does (InTurn n) (TakesTool name) ∷ []

abbrev pub selects : ℕ → Option Frame → List Entry
selects n frame = Does (InTurn n) (SelectsFrame frame) ∷ []

abbrev pub stores : ℕ → Point → List Entry
stores n at = Does (InTurn n) (StoresZero (Some at)) ∷ []

abbrev pub meets : ℕ → List Entry
meets n = Does (InTurn n) Touches ∷ []

abbrev pub at_once : ℕ → Effect → List Entry
at_once n effect = Does (AtOnce n) effect ∷ []

abbrev pub loses : Option (List ℕ) → List Entry
loses name = Does ForNoLine (TakesTool name) ∷ []

-- the tool P1 is taken for the line at a place, and then reported, under a tag
abbrev pub changed : ℕ → ℕ → List Entry
changed n tag = takes n p1 ++ messages (done tag)

-- a touch makes its contact, and then says so
abbrev pub contact : ℕ → ℕ → List Entry
contact n tag = messages (hears tag Ack) ++ (meets n ++ messages (hears tag given ++ hears tag Done))

-- ---- histories that keep the premises

-- a tool, the machine's frame, a touch
abbrev pub plain : List Entry
plain = messages (tool 1 ++ (machine 2 ++ touch 3)) ++ (changed 0 1 ++ (selects 1 (Some Machine) ++ (messages (done 2) ++ contact 2 3)))

-- a part's frame, with the zero point that was stored before
abbrev pub in_part : List Entry
in_part = messages (zero_point 1 1 ++ (part 2 ++ touch 3))
    ++ (stores 0 zero ++ (messages (done 1) ++ (selects 1 part_frame ++ (messages (done 2) ++ contact 2 3))))

-- a server makes the second of two changes first, and its end says so
abbrev pub crosswise : List Entry
crosswise = messages (tool 4 ++ (other_tool 5 ++ (touch 6 ++ (hears 4 Ack ++ hears 5 Ack))))
    ++ (takes 1 p2 ++ (messages (hears 5 Done) ++ (takes 0 p1 ++ (messages (hears 4 Done) ++ contact 2 6))))

-- a line without a tag is carried out between a change and a touch
abbrev pub sent_untagged : List Entry
sent_untagged = messages (tool 1) ++ (changed 0 1 ++ (messages (untagged ++ touch 3) ++ (at_once 1 (TakesTool p2) ++ contact 2 3)))

-- a line that this profile does not know is carried out in its turn
abbrev pub sent_foreign : List Entry
sent_foreign = messages (tool 1 ++ (foreign 2 ++ touch 3)) ++ (changed 0 1 ++ (takes 1 p2 ++ (messages (done 2) ++ contact 2 3)))

-- homing puts the tool down
abbrev pub homed : List Entry
homed = messages (tool 1 ++ (asks 2 command.Home ++ touch 3)) ++ (changed 0 1 ++ (takes 1 None ++ (messages (done 2) ++ contact 2 3)))

-- a tool falls off, and an error says so before the touch ends
abbrev pub fell_off : List Entry
fell_off = messages (tool 1 ++ touch 2) ++ (changed 0 1 ++ (loses None ++ (messages (hears 2 Ack) ++ (meets 1 ++ (messages (hears_event 0 Error)
    ++ messages (hears 2 given ++ hears 2 Done))))))

-- a tool falls off, and is taken again before a touch
abbrev pub taken_again : List Entry
taken_again = messages (tool 1) ++ (changed 0 1 ++ (loses None ++ (messages (tool 2 ++ touch 3) ++ (changed 1 2 ++ contact 2 3))))

-- a touch is carried out before the change above it, which ends after its data
abbrev pub late_end : List Entry
late_end = messages (other_tool 1) ++ (takes 0 p2 ++ messages (done 1 ++ (tool 2 ++ touch 3)))
    ++ (messages (hears 3 Ack) ++ (meets 2 ++ (messages (hears 3 given) ++ (takes 1 p1 ++ messages (done 2 ++ hears 3 Done)))))

-- a tag is used while in use; the second line is refused, and then the first is carried out. By the tags it is the other way round
abbrev pub used_again : List Entry
used_again = messages (tool 5 ++ (other_tool 5 ++ (touch 6 ++ (hears 5 Error ++ hears 5 Done))))
    ++ (takes 0 p1 ++ (messages (done 5) ++ contact 2 6))

-- ---- histories that break one premise

-- a change acts once more after its end
abbrev pub acts_late : List Entry
acts_late = messages (tool 1 ++ touch 2) ++ (changed 0 1 ++ (takes 0 p2 ++ contact 1 2))

-- a touch loses its tool, and does not say so
abbrev pub touch_takes : List Entry
touch_takes = messages (tool 1 ++ (touch 2 ++ touch 3)) ++ (changed 0 1 ++ (contact 1 2 ++ (takes 1 None ++ contact 2 3)))

-- a zero point that is stored selects another frame than the machine's
abbrev pub zero_selects : List Entry
zero_selects = messages (machine 1 ++ (zero_point 2 1 ++ touch 3))
    ++ (selects 0 (Some Machine) ++ (messages (done 1) ++ (selects 1 None
    ++ (stores 1 zero ++ (messages (done 2) ++ contact 2 3)))))

-- a change is made before the touch above it, and says nothing out of turn
abbrev pub change_first : List Entry
change_first = messages (tool 1 ++ (touch 2 ++ other_tool 3)) ++ (changed 0 1 ++ (takes 2 p2 ++ (contact 1 2 ++ messages (done 3))))

-- a line without a tag is carried out after a change below it
abbrev pub once_late : List Entry
once_late = messages (untagged ++ (tool 1 ++ touch 2)) ++ (changed 1 1 ++ (at_once 0 (TakesTool p2) ++ contact 2 2))

-- a change that is not made
abbrev pub not_made : List Entry
not_made = messages (other_tool 1 ++ (tool 2 ++ touch 3)) ++ (takes 0 p2 ++ (messages (done 1) ++ (messages (done 2) ++ contact 2 3)))

-- a change whose tool is put down again before its end
abbrev pub not_held : List Entry
not_held = messages (tool 1 ++ touch 2) ++ (takes 0 p1 ++ (loses None ++ (messages (hears_event 0 Error) ++ (messages (done 1) ++ contact 1 2))))

-- another client takes a tool
abbrev pub two_clients : List Entry
two_clients = messages (tool 1 ++ touch 2) ++ (changed 0 1 ++ (loses p2 ++ contact 1 2))

-- a touch that makes no contact
abbrev pub no_contact : List Entry
no_contact = messages (tool 1 ++ touch 2) ++ (changed 0 1 ++ messages (touched 2))

-- ---- a history breaks this premise, and no other

abbrev pub BreaksWithin : List Entry → Type 0
BreaksWithin h = (Always ActsWithin h → ⊥) × Always ActsInOrder h × Always ActsBefore h × Always ChangesAreMade h × Always LossesAreReported h
    × Always TouchesAreMade h

abbrev pub BreaksOrder : List Entry → Type 0
BreaksOrder h = (Always ActsInOrder h → ⊥) × Always ActsWithin h × Always ActsBefore h × Always ChangesAreMade h × Always LossesAreReported h
    × Always TouchesAreMade h

abbrev pub BreaksBefore : List Entry → Type 0
BreaksBefore h = (Always ActsBefore h → ⊥) × Always ActsWithin h × Always ActsInOrder h × Always ChangesAreMade h × Always LossesAreReported h
    × Always TouchesAreMade h

abbrev pub BreaksMade : List Entry → Type 0
BreaksMade h = (Always ChangesAreMade h → ⊥) × Always ActsWithin h × Always ActsInOrder h × Always ActsBefore h × Always LossesAreReported h
    × Always TouchesAreMade h

abbrev pub BreaksReported : List Entry → Type 0
BreaksReported h = (Always LossesAreReported h → ⊥) × Always ActsWithin h × Always ActsInOrder h × Always ActsBefore h × Always ChangesAreMade h
    × Always TouchesAreMade h

abbrev pub BreaksTouched : List Entry → Type 0
BreaksTouched h = (Always TouchesAreMade h → ⊥) × Always ActsWithin h × Always ActsInOrder h × Always ActsBefore h × Always ChangesAreMade h
    × Always LossesAreReported h
