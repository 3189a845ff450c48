-- The written form of a command can be in a line.
use Rattle.dme_line.proofs.Names.{◌++◌, ◌∷◌, ◌≤◌, arith, codes, Command, Csy, csy_name, Direction, HasArguments, IsDirection, IsIjk, IsOnWire}
use Rattle.dme_line.proofs.Names.{IsWireText, IsWritable, Kind, kind_name, kind_of, List, MachineCsy, None, Option, PartCsy, Point, quoted, refl}
use Rattle.dme_line.proofs.Names.{Some, Tag, written, written_arguments, written_component, written_direction, written_ijk, written_point}
use Rattle.dme_line.proofs.Names.{written_tag, written_transformation, ℕ}
use Rattle.dme_line.specs.Written.{written_command}
use Rattle.dme_line.specs.declared.commands.Command.TheVariants.{ClearAllErrors, EndSession, Home, IsHomed, OnPtMeasReport, StartSession}
use Rattle.dme_line.specs.declared.commands.Command.TheVariants.{AbortE, ChangeTool, GoTo, PtMeas, SetCoordSystem, SetCsyTransformation}
use Rattle.dme_line.proofs.WireTexts.{wire_append, word_wire, written-word, component-word, tag-wire, point-wire, name-word}
use Rattle.dme_line.proofs.CommandBack.{volume_on_wire}

pub wire_weaker : (m n : ℕ) (text : List ℕ) → m ≤ n → IsWireText m text → IsWireText n text
wire_weaker m n text le h = record { free = h.free; short = omega (arith, le, h.short) }

pub name-wire : (k : Kind) → IsWireText 20 (kind_name k)
name-wire Kind.StartSession = record { free = refl; short = omega arith }
name-wire Kind.EndSession = record { free = refl; short = omega arith }
name-wire Kind.ClearAllErrors = record { free = refl; short = omega arith }
name-wire Kind.IsHomed = record { free = refl; short = omega arith }
name-wire Kind.Home = record { free = refl; short = omega arith }
name-wire Kind.OnPtMeasReport = record { free = refl; short = omega arith }
name-wire Kind.GoTo = record { free = refl; short = omega arith }
name-wire Kind.PtMeas = record { free = refl; short = omega arith }
name-wire Kind.ChangeTool = record { free = refl; short = omega arith }
name-wire Kind.SetCsyTransformation = record { free = refl; short = omega arith }
name-wire Kind.SetCoordSystem = record { free = refl; short = omega arith }
name-wire Kind.AbortE = record { free = refl; short = omega arith }

comma : IsWireText 2 (codes ", ")
comma = record { free = refl; short = omega arith }

direction-wire : (d : Direction) → IsDirection d → IsWireText 49 (written_direction d (codes ", "))
direction-wire d h =
    let i = word_wire 15 (written_component d.i) (component-word d.i h.i_within) in
    let j = word_wire 15 (written_component d.j) (component-word d.j h.j_within) in
    let k = word_wire 15 (written_component d.k) (component-word d.k h.k_within) in
    let k_text = wire_append 2 15 17 (codes ", ") (written_component d.k) comma k (omega arith) in
    let j_text = wire_append 15 17 32 (written_component d.j) (codes ", " ++ written_component d.k) j k_text (omega arith) in
    let j_all = wire_append 2 32 34 (codes ", ") (written_component d.j ++ (codes ", " ++ written_component d.k)) comma j_text (omega arith)
    in
    wire_append 15 34 49 (written_component d.i) (codes ", " ++ (written_component d.j ++ (codes ", " ++ written_component d.k))) i j_all
    (omega arith)

ijk-wire : (d : Option Direction) → IsIjk d → IsWireText 56 (written_ijk d)
ijk-wire None h = record { free = refl; short = omega arith }
ijk-wire (Some d) h =
    let whole = wire_append 49 1 50 (written_direction d (codes ", ")) (codes ")") (direction-wire d h)
    (record { free = refl; short = omega arith }) (omega arith) in
    wire_append 6 50 56 (codes ", IJK(") (written_direction d (codes ", ") ++ codes ")") (record { free = refl; short = omega arith }) whole
    (omega arith)

transformation-wire : (p : Point) → IsOnWire p → IsWireText 58 (written_transformation p)
transformation-wire p h =
    let x = word_wire 12 (written p.x) (written-word p.x h.x) in
    let y = word_wire 12 (written p.y) (written-word p.y h.y) in
    let z = word_wire 12 (written p.z) (written-word p.z h.z) in
    let end : IsWireText 9 (codes ", 0, 0, 0") = record { free = refl; short = omega arith } in
    let z_text = wire_append 12 9 21 (written p.z) (codes ", 0, 0, 0") z end (omega arith) in
    let z_all = wire_append 2 21 23 (codes ", ") (written p.z ++ codes ", 0, 0, 0") comma z_text (omega arith) in
    let y_text = wire_append 12 23 35 (written p.y) (codes ", " ++ (written p.z ++ codes ", 0, 0, 0")) y z_all (omega arith) in
    let y_all = wire_append 2 35 37 (codes ", ") (written p.y ++ (codes ", " ++ (written p.z ++ codes ", 0, 0, 0"))) comma y_text
    (omega arith) in
    let x_text = wire_append 12 37 49 (written p.x) (codes ", " ++ (written p.y ++ (codes ", " ++ (written p.z ++ codes ", 0, 0, 0")))) x
    y_all (omega arith) in
    wire_append 9 49 58 (codes "PartCsy, ") (written p.x ++ (codes ", "
    ++ (written p.y ++ (codes ", " ++ (written p.z ++ codes ", 0, 0, 0"))))) (record { free = refl; short = omega arith }) x_text
    (omega arith)

system-wire : (s : Csy) → IsWireText 105 (csy_name s)
system-wire MachineCsy = record { free = refl; short = omega arith }
system-wire PartCsy = record { free = refl; short = omega arith }

arguments-wire : (c : Command) → HasArguments c → IsWireText 105 (written_arguments c)
arguments-wire StartSession h = record { free = refl; short = omega arith }
arguments-wire EndSession h = record { free = refl; short = omega arith }
arguments-wire ClearAllErrors h = record { free = refl; short = omega arith }
arguments-wire IsHomed h = record { free = refl; short = omega arith }
arguments-wire Home h = record { free = refl; short = omega arith }
arguments-wire OnPtMeasReport h = record { free = refl; short = omega arith }
arguments-wire (GoTo p) h = wire_weaker 49 105 (written_point p) (omega arith) (point-wire p h)
arguments-wire (PtMeas p d) h = wire_append 49 56 105 (written_point p) (written_ijk d) (point-wire p h.0) (ijk-wire d h.1) (omega arith)
arguments-wire (ChangeTool n) h = wire_weaker 66 105 (quoted n) (omega arith) (name-word n h).wire
arguments-wire (SetCsyTransformation p) h = wire_weaker 58 105 (written_transformation p) (omega arith)
    (transformation-wire p (volume_on_wire p h))
arguments-wire (SetCoordSystem s) h = system-wire s
arguments-wire AbortE h = record { free = refl; short = omega arith }

pub command-wire : (tag : Tag) (command : Command) → IsWritable tag command → IsWireText 200 (written_command tag command)
unfolding written_command
command-wire tag command h =
    let arguments = arguments-wire command h.arguments in
    let closed = wire_append 105 1 106 (written_arguments command) (codes ")") arguments (record { free = refl; short = omega arith })
    (omega arith) in
    let opened = wire_append 1 106 107 (codes "(") (written_arguments command ++ codes ")") (record { free = refl; short = omega arith })
    closed (omega arith) in
    let named = wire_append 20 107 127 (kind_name (kind_of command)) (40 ∷ (written_arguments command ++ codes ")"))
    (name-wire (kind_of command)) opened (omega arith) in
    let spaced = wire_append 1 127 128 (codes " ") (kind_name (kind_of command) ++ (40 ∷ (written_arguments command ++ codes ")")))
    (record { free = refl; short = omega arith }) named (omega arith) in
    wire_append 5 128 200 (written_tag tag) (32 ∷ (kind_name (kind_of command) ++ (40 ∷ (written_arguments command ++ codes ")"))))
    (tag-wire tag) spaced (omega arith)
