-- The written form of a command can be in a line, and reads back.
use Rattle.dme_line.proofs.Names.{[], ◌++◌, ◌∙◌, ◌∷◌, ◌≡◌, ◌≤◌, absent, ap, append-nil, append_assoc, arith, begins_word, bytes_eq-Decides, Close}
use Rattle.dme_line.proofs.Names.{codes, Comma, Command, Csy, Direction, direction_reads_back, false, HasArguments, inr, is_name_part, is_word}
use Rattle.dme_line.proofs.Names.{IsDirection, IsIjk, IsInVolume, IsName, IsOnWire, IsPlace, IsWritable, IsZero, Kind, kind_name, kind_of, List}
use Rattle.dme_line.proofs.Names.{list_all, MachineCsy, map, None, none, nothing, Numeral, Ok, Open, Option, PartCsy, Point, quoted, Reads}
use Rattle.dme_line.proofs.Names.{ReadsCommand, refl, Says, Single, Some, subst, sym, Tag, to_ascii_lowercase, Token, tokens, Triple, true}
use Rattle.dme_line.proofs.Names.{unsigned_abs, volume_limit, wire_limit, Word, written, written_arguments, written_component, written_ijk}
use Rattle.dme_line.proofs.Names.{written_point, written_reads_back, written_transformation, ℕ, ℤ}
use Rattle.dme_line.specs.Written.{written_command}
use Rattle.dme_line.specs.declared.commands.Command.TheVariants.{ClearAllErrors, EndSession, Home, IsHomed, OnPtMeasReport, StartSession}
use Rattle.dme_line.specs.declared.commands.Command.TheVariants.{AbortE, ChangeTool, GoTo, PtMeas, SetCoordSystem, SetCsyTransformation}
use Rattle.dme_line.proofs.TokenLemmas.{tokens-word}
use Rattle.dme_line.proofs.WireTexts.{IsPlainWord, word_bytes, written-word, component-word, name-word}

-- ---- the tokens of what is written

-- a point with something after it, its texts one after another
abbrev pub point_before : Point → List ℕ → List ℕ
point_before p tail = 88 ∷ 40 ∷ (written p.x ++ (41 ∷ 44 ∷ 32 ∷ 89 ∷ 40
    ∷ (written p.y ++ (41 ∷ 44 ∷ 32 ∷ 90 ∷ 40 ∷ (written p.z ++ (41 ∷ tail))))))

pub point-append : (p : Point) (tail : List ℕ) → written_point p ++ tail ≡ point_before p tail
point-append p tail = simp append_assoc

-- a word before what is not a word
word_before : (limit : ℕ) (w rest : List ℕ) → IsPlainWord limit w → begins_word rest ≡ false → tokens (w ++ rest) ≡ Word w ∷ tokens rest
word_before limit w rest h stop = tokens-word w rest (word_bytes limit w h) h.some stop

pub point-tokens : (p : Point) (tail : List ℕ) → IsOnWire p
    → tokens (point_before p tail) ≡ Word (codes "X") ∷ Open ∷ Word (written p.x) ∷ Close ∷ Comma ∷ Word (codes "Y") ∷ Open
    ∷ Word (written p.y) ∷ Close ∷ Comma ∷ Word (codes "Z") ∷ Open ∷ Word (written p.z) ∷ Close ∷ tokens tail
point-tokens p tail h =
    let z = word_before 12 (written p.z) (41 ∷ tail) (written-word p.z h.z) refl in
    let y = word_before 12 (written p.y) (41 ∷ 44 ∷ 32 ∷ 90 ∷ 40 ∷ (written p.z ++ (41 ∷ tail))) (written-word p.y h.y) refl in
    let x = word_before 12 (written p.x) (41 ∷ 44 ∷ 32 ∷ 89 ∷ 40 ∷ (written p.y ++ (41 ∷ 44 ∷ 32 ∷ 90 ∷ 40 ∷ (written p.z ++ (41 ∷ tail)))))
    (written-word p.x h.x) refl in
    rw (x, y, z) refl

-- a direction after a point, and the closing parenthesis
abbrev ijk_before : Direction → List ℕ
ijk_before d = 44 ∷ 32 ∷ 73 ∷ 74 ∷ 75 ∷ 40 ∷ (written_component d.i
    ++ (44 ∷ 32 ∷ (written_component d.j ++ (44 ∷ 32 ∷ (written_component d.k ++ (41 ∷ 41 ∷ []))))))

ijk-append : (d : Direction) → written_ijk (Some d) ++ codes ")" ≡ ijk_before d
ijk-append d = simp append_assoc

ijk-tokens : (d : Direction) → IsDirection d → tokens (ijk_before d) ≡ Comma ∷ Word (codes "IJK") ∷ Open ∷ Word (written_component d.i)
    ∷ Comma ∷ Word (written_component d.j) ∷ Comma ∷ Word (written_component d.k) ∷ Close ∷ Close ∷ []
ijk-tokens d h =
    let k = word_before 15 (written_component d.k) (41 ∷ 41 ∷ []) (component-word d.k h.k_within) refl in
    let j = word_before 15 (written_component d.j) (44 ∷ 32 ∷ (written_component d.k ++ (41 ∷ 41 ∷ []))) (component-word d.j h.j_within)
    refl in
    let i = word_before 15 (written_component d.i) (44 ∷ 32 ∷ (written_component d.j
    ++ (44 ∷ 32 ∷ (written_component d.k ++ (41 ∷ 41 ∷ []))))) (component-word d.i h.i_within) refl in
    rw (i, j, k) refl

-- a transformation and the closing parenthesis
abbrev transformation_before : Point → List ℕ
transformation_before p = codes "PartCsy, " ++ (written p.x ++ (44 ∷ 32 ∷ (written p.y ++ (44 ∷ 32 ∷ (written p.z ++ codes ", 0, 0, 0)")))))

transformation-append : (p : Point) → written_transformation p ++ codes ")" ≡ transformation_before p
transformation-append p = simp append_assoc

transformation-tokens : (p : Point) → IsOnWire p → tokens (transformation_before p) ≡ Word (codes "PartCsy") ∷ Comma ∷ Word (written p.x)
    ∷ Comma ∷ Word (written p.y) ∷ Comma ∷ Word (written p.z) ∷ Comma ∷ Word (codes "0") ∷ Comma ∷ Word (codes "0") ∷ Comma
    ∷ Word (codes "0") ∷ Close ∷ []
transformation-tokens p h =
    let z = word_before 12 (written p.z) (codes ", 0, 0, 0)") (written-word p.z h.z) refl in
    let y = word_before 12 (written p.y) (44 ∷ 32 ∷ (written p.z ++ codes ", 0, 0, 0)")) (written-word p.y h.y) refl in
    let x = word_before 12 (written p.x) (44 ∷ 32 ∷ (written p.y ++ (44 ∷ 32 ∷ (written p.z ++ codes ", 0, 0, 0)")))) (written-word p.x h.x)
    refl in
    rw (x, y, z) refl

-- ---- what the written arguments say

pub reads_back : (z : ℤ) → unsigned_abs z ≤ wire_limit → Reads 3 wire_limit (written z) (Ok z)
reads_back z h = written_reads_back wire_limit z h (omega arith)

volume_back : (z : ℤ) → unsigned_abs z ≤ volume_limit → Reads 3 volume_limit (written z) (Ok z)
volume_back z h = written_reads_back volume_limit z h (omega arith)

pub volume_on_wire : (p : Point) → IsInVolume p → IsOnWire p
volume_on_wire p h = record { x = omega (arith, h.x); y = omega (arith, h.y); z = omega (arith, h.z) }

zero_numeral : Numeral
zero_numeral = record { negative = false; digits = 48 ∷ []; places = 0; raised = 0; lowered = 0 }

zero_is : IsZero (codes "0")
unfolding zero_numeral
zero_is = (
  zero_numeral,
  record {
    sign = [];
    whole = 48 ∷ [];
    point = [];
    fraction = [];
    exponent = [];
    parts = refl;
    is_sign = none refl;
    is_whole = (omega arith, tt);
    is_fraction = absent refl;
    is_exponent = nothing refl;
    digits_are = refl;
    places_are = refl;
    some_digit =
        omega arith;
  },
  omega arith,
  refl,
)

-- the tokens after a command's name
abbrev written_tokens : Command → List Token
written_tokens c = tokens (40 ∷ (written_arguments c ++ codes ")"))

move-tokens : (p : Point) → IsOnWire p → written_tokens (GoTo p) ≡ Open ∷ Word (codes "X") ∷ Open ∷ Word (written p.x) ∷ Close ∷ Comma
    ∷ Word (codes "Y") ∷ Open ∷ Word (written p.y) ∷ Close ∷ Comma ∷ Word (codes "Z") ∷ Open ∷ Word (written p.z) ∷ Close ∷ Close ∷ []
move-tokens p h = ap (λ (t : List ℕ). tokens (40 ∷ t)) (point-append p (codes ")"))
    ∙ ap (λ (ts : List Token). Open ∷ ts) (point-tokens p (codes ")") h)

move_back : (p : Point) → IsOnWire p → IsPlace (written_tokens (GoTo p)) p None
move_back p h = record {
  arguments = Single (codes "X") (written p.x) ∷ Single (codes "Y") (written p.y) ∷ Single (codes "Z") (written p.z) ∷ [];
  spelled = move-tokens p h;
  target = record {
    x = record { numeral = written p.x; found = refl; reads = reads_back p.x h.x };
    y = record { numeral = written p.y; found = refl; reads = reads_back p.y h.y };
    z =
        record { numeral = written p.z; found = refl; reads = reads_back p.z h.z };
  };
  ijk = refl;
}

touch-tokens : (p : Point) (d : Direction) → IsOnWire p → IsDirection d
    → written_tokens (PtMeas p (Some d)) ≡ Open ∷ Word (codes "X") ∷ Open ∷ Word (written p.x) ∷ Close ∷ Comma ∷ Word (codes "Y") ∷ Open
    ∷ Word (written p.y) ∷ Close ∷ Comma ∷ Word (codes "Z") ∷ Open ∷ Word (written p.z) ∷ Close ∷ Comma ∷ Word (codes "IJK") ∷ Open
    ∷ Word (written_component d.i) ∷ Comma ∷ Word (written_component d.j) ∷ Comma ∷ Word (written_component d.k) ∷ Close ∷ Close ∷ []
touch-tokens p d h g =
    let whole : (written_point p ++ written_ijk (Some d)) ++ codes ")" ≡ point_before p (ijk_before d) =
    append_assoc (written_point p) (written_ijk (Some d)) (codes ")") ∙ ap (λ (t : List ℕ). written_point p ++ t) (ijk-append d)
    ∙ point-append p (ijk_before d) in
    ap (λ (t : List ℕ). tokens (40 ∷ t)) whole ∙ ap (λ (ts : List Token). Open ∷ ts) (point-tokens p (ijk_before d) h
    ∙ rw (ijk-tokens d g) refl)

touch_back : (p : Point) (d : Direction) → IsOnWire p → IsDirection d → IsPlace (written_tokens (PtMeas p (Some d))) p (Some d)
touch_back p d h g = record {
  arguments = Single (codes "X") (written p.x) ∷ Single (codes "Y") (written p.y) ∷ Single (codes "Z") (written p.z)
      ∷ Triple (codes "IJK") (written_component d.i) (written_component d.j) (written_component d.k) ∷ [];
  spelled = touch-tokens p d h g;
  target = record {
    x = record { numeral = written p.x; found = refl; reads = reads_back p.x h.x };
    y = record { numeral = written p.y; found = refl; reads = reads_back p.y h.y };
    z =
        record { numeral = written p.z; found = refl; reads = reads_back p.z h.z };
  };
  ijk = (
    refl,
    record {
      words = (written_component d.i, written_component d.j, written_component d.k);
      found = refl;
      reads = direction_reads_back d g;
    },
  );
}

-- a touch without a direction is written as a move
plain_touch : (p : Point) → written_tokens (PtMeas p None) ≡ written_tokens (GoTo p)
plain_touch p = ap (λ (t : List ℕ). tokens (40 ∷ (t ++ codes ")"))) (append-nil (written_point p))

place_back : (p : Point) (d : Option Direction) → IsOnWire p → IsIjk d → IsPlace (written_tokens (PtMeas p d)) p d
place_back p None h g = subst (λ (ts : List Token). IsPlace ts p None) (sym (plain_touch p)) (move_back p h)
place_back p (Some d) h g = touch_back p d h g

tool-tokens : (n : List ℕ) → IsName n → written_tokens (ChangeTool n) ≡ Open ∷ Word (quoted n) ∷ Close ∷ []
tool-tokens n h = ap (λ (ts : List Token). Open ∷ ts) (tokens-word (quoted n) (codes ")") (name-word n h).words (omega arith) refl)

transformation_says : (p : Point) → IsInVolume p → Says Kind.SetCsyTransformation (written_tokens (SetCsyTransformation p))
    (SetCsyTransformation p)
transformation_says p h =
    let spelled = ap (λ (t : List ℕ). tokens (40 ∷ t)) (transformation-append p)
    ∙ ap (λ (ts : List Token). Open ∷ ts) (transformation-tokens p (volume_on_wire p h)) in (
      p,
      record {
        words = record {
          system = codes "PartCsy";
          x = written p.x;
          y = written p.y;
          z = written p.z;
          a = codes "0";
          b = codes "0";
          c = codes "0";
        };
        spelled = spelled;
        named = refl;
        lengths = record { x = volume_back p.x h.x; y = volume_back p.y h.y; z = volume_back p.z h.z };
        angles = record { a = zero_is; b = zero_is; c = zero_is };
      },
      refl,
    )

system_says : (s : Csy) → Says Kind.SetCoordSystem (written_tokens (SetCoordSystem s)) (SetCoordSystem s)
system_says MachineCsy = (MachineCsy, record { word = codes "MachineCsy"; spelled = refl; named = refl }, refl)
system_says PartCsy = (PartCsy, record { word = codes "PartCsy"; spelled = refl; named = refl }, refl)

arguments_say : (c : Command) → HasArguments c → Says (kind_of c) (written_tokens c) c
arguments_say StartSession h = (refl, refl)
arguments_say EndSession h = (refl, refl)
arguments_say ClearAllErrors h = (refl, refl)
arguments_say IsHomed h = (refl, refl)
arguments_say Home h = (refl, refl)
arguments_say OnPtMeasReport h = (
  record {
    x = codes "X";
    y = codes "Y";
    z = codes "Z";
    spelled = refl;
    x_named = refl;
    y_named = refl;
    z_named = refl;
  },
  refl,
)
arguments_say (GoTo p) h = (p, move_back p h, refl)
arguments_say (PtMeas p d) h = (p, d, place_back p d h.0 h.1, refl)
arguments_say (ChangeTool n) h = (
  n,
  record {
    word = quoted n;
    spelled = tool-tokens n h;
    reads = record { bare = n; spelled = inr refl; named = h.named; is_folded = sym h.capitals };
  },
  refl,
)
arguments_say (SetCsyTransformation p) h = transformation_says p h
arguments_say (SetCoordSystem s) h = system_says s
arguments_say AbortE h = (refl, refl)

-- ---- the whole line

name_whole : (k : Kind) → list_all is_name_part (kind_name k) ≡ true
name_whole Kind.StartSession = refl
name_whole Kind.EndSession = refl
name_whole Kind.ClearAllErrors = refl
name_whole Kind.IsHomed = refl
name_whole Kind.Home = refl
name_whole Kind.OnPtMeasReport = refl
name_whole Kind.GoTo = refl
name_whole Kind.PtMeas = refl
name_whole Kind.ChangeTool = refl
name_whole Kind.SetCsyTransformation = refl
name_whole Kind.SetCoordSystem = refl
name_whole Kind.AbortE = refl

at_parenthesis : (rest : List ℕ) (c : ℕ) (more : List ℕ) → 40 ∷ rest ≡ c ∷ more → is_name_part c ≡ false
at_parenthesis rest c more e = let p : 40 ≡ c = cc in ap is_name_part (sym p)

own_name : (name : List ℕ) → is_word name name ≡ true
own_name name = (bytes_eq-Decides (map to_ascii_lowercase name) (map to_ascii_lowercase name)).1 refl

pub command_reads_back : (tag : Tag) (command : Command) → IsWritable tag command
    → ReadsCommand (written_command tag command) (Ok (tag, command))
unfolding written_command
command_reads_back tag command h =
    let rest : List ℕ = 40 ∷ (written_arguments command ++ codes ")") in
    let name : List ℕ = kind_name (kind_of command) in
    record {
      name = name;
      rest = rest;
      kind = kind_of command;
      begins = record {
        text = name ++ rest;
        tagged = record { numbered = h.tagged.numbered; parts = refl };
        named = record {
          parts = refl;
          whole = name_whole (kind_of command);
          stop = at_parenthesis (written_arguments command ++ codes ")");
        };
      };
      known = own_name name;
      fits = h.tagged;
      says = arguments_say command h.arguments;
    }
