-- The arguments of commands (I++ DME Interface version 1; spaces, case and order of axes: this profile).
use Rattle.std.specs.Prelude.{◌≡◌, ℕ, ℤ, ◌⊎◌, true, if◌then◌else◌, List, [], ◌∷◌, ◌++◌, length, codes, Option, Some, None, Ok}
use Rattle.std.specs.Option.{option_or}
use Rattle.fixed_um.specs.Limits.{wire_limit, volume_limit}
use Rattle.fixed_um.specs.Names.{folded, is_name_text}
use Rattle.fixed_um.specs.Numerals.{Reads, ReadsDirection, IsZero}
use Rattle.fixed_um.specs.Shapes.{Direction}
use Rattle.fixed_um.specs.declared.lengths.Point.{Point}
use Rattle.dme_line.specs.Words.{is_word, quoted}
use Rattle.dme_line.specs.Tokens.{Token, Open, Close, Comma, Word}
use Rattle.dme_line.specs.Kinds.{csy_name}
use Rattle.dme_line.specs.declared.commands.Csy.{Csy}
use Rattle.dme_line.specs.declared.commands.Kind.{Kind}
use Rattle.dme_line.specs.declared.commands.Kind.TheVariants as kind
use Rattle.dme_line.specs.declared.commands.Command.{Command}
use Rattle.dme_line.specs.declared.commands.Command.TheVariants as command

-- a named argument: with one word in its parentheses, as X(1), or with three, as IJK(0, 0, 1)
pub data Argument : Type 0 where
  Single : List ℕ → List ℕ → Argument
  Triple : List ℕ → List ℕ → List ℕ → List ℕ → Argument

abbrev pub argument_tokens : Argument → List Token
argument_tokens (Single name x) = Word name ∷ Open ∷ Word x ∷ Close ∷ []
argument_tokens (Triple name i j k) = Word name ∷ Open ∷ Word i ∷ Comma ∷ Word j ∷ Comma ∷ Word k ∷ Close ∷ []

-- arguments with a comma between each two
abbrev pub list_tokens : List Argument → List Token
list_tokens [] = []
list_tokens (a ∷ []) = argument_tokens a
list_tokens (a ∷ b ∷ more) = argument_tokens a ++ (Comma ∷ list_tokens (b ∷ more))

-- tokens in their parentheses
abbrev pub enclosed : List Token → List Token
enclosed ts = Open ∷ (ts ++ (Close ∷ []))

-- the word of an argument with this name and one word
abbrev pub single_of : List ℕ → Argument → Option (List ℕ)
single_of name (Single n x) = if is_word name n then Some x else None
single_of name (Triple n i j k) = None

-- the words of an argument with this name and three words
abbrev pub triple_of : List ℕ → Argument → Option (List ℕ × List ℕ × List ℕ)
triple_of name (Single n x) = None
triple_of name (Triple n i j k) = if is_word name n then Some (i, j, k) else None

-- the first such argument among several
abbrev pub single_named : List ℕ → List Argument → Option (List ℕ)
single_named name [] = None
single_named name (a ∷ more) = option_or (single_of name a) (single_named name more)

abbrev pub triple_named : List ℕ → List Argument → Option (List ℕ × List ℕ × List ℕ)
triple_named name [] = None
triple_named name (a ∷ more) = option_or (triple_of name a) (triple_named name more)

-- the coordinate of an axis: a numeral in millimetres within the wire limit
pub record IsAxis (name : List ℕ) (arguments : List Argument) (value : ℤ) : Type 0 where
  pub numeral : List ℕ
  pub found : single_named name arguments ≡ Some numeral
  pub reads : Reads 3 wire_limit numeral (Ok value)

-- the direction: three numerals in millionths, not all zero
pub record IsAlong (arguments : List Argument) (d : Direction) : Type 0 where
  pub words : List ℕ × List ℕ × List ℕ
  pub found : triple_named (codes "IJK") arguments ≡ Some words
  pub reads : ReadsDirection words.0 words.1 words.2 (Ok (Some d))

-- a comma, a direction and the last parenthesis
pub record EndsWithAlong (ts : List Token) (d : Direction) : Type 0 where
  pub argument : Argument
  pub words : List ℕ × List ℕ × List ℕ
  pub found : triple_of (codes "IJK") argument ≡ Some words
  pub spelled : ts ≡ Comma ∷ (argument_tokens argument ++ (Close ∷ []))
  pub reads : ReadsDirection words.0 words.1 words.2 (Ok (Some d))

-- besides the axes: nothing, or a direction
abbrev pub HasIjk : List Argument → Option Direction → Type 0
HasIjk arguments None = length arguments ≡ 3
HasIjk arguments (Some d) = (length arguments ≡ 4) × IsAlong arguments d

-- the three axes
pub record IsTarget (arguments : List Argument) (p : Point) : Type 0 where
  pub x : IsAxis (codes "X") arguments p.x
  pub y : IsAxis (codes "Y") arguments p.y
  pub z : IsAxis (codes "Z") arguments p.z

-- X, Y, Z and optionally IJK, in any order; since there are no more arguments than that, each is there once
pub record IsPlace (ts : List Token) (p : Point) (d : Option Direction) : Type 0 where
  pub arguments : List Argument
  pub spelled : ts ≡ enclosed (list_tokens arguments)
  pub target : IsTarget arguments p
  pub ijk : HasIjk arguments d

-- X(), Y(), Z() in this order
pub record IsReport (ts : List Token) : Type 0 where
  pub x : List ℕ
  pub y : List ℕ
  pub z : List ℕ
  pub spelled : ts ≡ enclosed (Word x ∷ Open ∷ Close ∷ Comma ∷ Word y ∷ Open ∷ Close ∷ Comma ∷ Word z ∷ Open ∷ Close ∷ [])
  pub x_named : is_word (codes "X") x ≡ true
  pub y_named : is_word (codes "Y") y ≡ true
  pub z_named : is_word (codes "Z") z ≡ true

-- one word
abbrev pub IsOneWord : List Token → List ℕ → Type 0
IsOneWord ts word = ts ≡ enclosed (Word word ∷ [])

-- a name, or a name in quotes; letters are folded
pub record IsToolWord (word name : List ℕ) : Type 0 where
  pub bare : List ℕ
  pub spelled : (word ≡ bare) ⊎ (word ≡ quoted bare)
  pub named : is_name_text bare ≡ true
  pub is_folded : name ≡ folded bare

pub record IsTool (ts : List Token) (name : List ℕ) : Type 0 where
  pub word : List ℕ
  pub spelled : IsOneWord ts word
  pub reads : IsToolWord word name

-- a coordinate system by its name
pub record IsSystem (ts : List Token) (csy : Csy) : Type 0 where
  pub word : List ℕ
  pub spelled : IsOneWord ts word
  pub named : is_word (csy_name csy) word ≡ true

-- the words of a transformation: its coordinate system, three lengths, three angles
pub record Seven : Type 0 where
  pub system : List ℕ
  pub x : List ℕ
  pub y : List ℕ
  pub z : List ℕ
  pub a : List ℕ
  pub b : List ℕ
  pub c : List ℕ

abbrev pub seven_tokens : Seven → List Token
seven_tokens s = Word s.system ∷ Comma ∷ Word s.x ∷ Comma ∷ Word s.y ∷ Comma ∷ Word s.z ∷ Comma ∷ Word s.a ∷ Comma ∷ Word s.b ∷ Comma
    ∷ Word s.c ∷ []

-- lengths in millimetres within the volume limit
pub record HasLengths (words : Seven) (p : Point) : Type 0 where
  pub x : Reads 3 volume_limit words.x (Ok p.x)
  pub y : Reads 3 volume_limit words.y (Ok p.y)
  pub z : Reads 3 volume_limit words.z (Ok p.z)

-- angles of zero
pub record HasNoAngles (words : Seven) : Type 0 where
  pub a : IsZero words.a
  pub b : IsZero words.b
  pub c : IsZero words.c

-- the part's system at a place in the machine's, with parallel axes
pub record IsTransformation (ts : List Token) (p : Point) : Type 0 where
  pub words : Seven
  pub spelled : ts ≡ enclosed (seven_tokens words)
  pub named : is_word (codes "PartCsy") words.system ≡ true
  pub lengths : HasLengths words p
  pub angles : HasNoAngles words

-- what the tokens after a command's name say
abbrev pub Says : Kind → List Token → Command → Type 0
Says kind.StartSession ts c = (ts ≡ enclosed []) × (c ≡ command.StartSession)
Says kind.EndSession ts c = (ts ≡ enclosed []) × (c ≡ command.EndSession)
Says kind.ClearAllErrors ts c = (ts ≡ enclosed []) × (c ≡ command.ClearAllErrors)
Says kind.IsHomed ts c = (ts ≡ enclosed []) × (c ≡ command.IsHomed)
Says kind.Home ts c = (ts ≡ enclosed []) × (c ≡ command.Home)
Says kind.OnPtMeasReport ts c = IsReport ts × (c ≡ command.OnPtMeasReport)
Says kind.GoTo ts c = (p : Point) × IsPlace ts p None × (c ≡ command.GoTo p)
Says kind.PtMeas ts c = (p : Point) × (d : Option Direction) × IsPlace ts p d × (c ≡ command.PtMeas p d)
Says kind.ChangeTool ts c = (name : List ℕ) × IsTool ts name × (c ≡ command.ChangeTool name)
Says kind.SetCsyTransformation ts c = (p : Point) × IsTransformation ts p × (c ≡ command.SetCsyTransformation p)
Says kind.SetCoordSystem ts c = (csy : Csy) × IsSystem ts csy × (c ≡ command.SetCoordSystem csy)
Says kind.AbortE ts c = (ts ≡ enclosed []) × (c ≡ command.AbortE)
