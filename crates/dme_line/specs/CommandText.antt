-- Which command a line stands for, and which fault is due where it stands for none (I++ DME Interface version 1; the faults: this profile).
use Rattle.std.specs.Prelude.{◌≡◌, ℕ, Bool, true, false, not, ◌&&◌, ◌==◌, List, ◌∷◌, ◌++◌, Result, Ok, Err}
use Rattle.std.specs.List.{list_all}
use Rattle.dme_line.specs.Words.{is_word}
use Rattle.dme_line.specs.Tokens.{tokens}
use Rattle.dme_line.specs.Tags.{written_tag, IsNumbered}
use Rattle.dme_line.specs.Kinds.{kind_name, IsTagOf}
use Rattle.dme_line.specs.Arguments.{Says, IsOneWord}
use Rattle.dme_line.specs.declared.tags.Tag.{Tag}
use Rattle.dme_line.specs.declared.commands.Kind.{Kind}
use Rattle.dme_line.specs.declared.commands.Kind.TheVariants.{ChangeTool}
use Rattle.dme_line.specs.declared.commands.Command.{Command}
use Rattle.dme_line.specs.declared.reading.LineFault.{LineFault}
use Rattle.dme_line.specs.declared.reading.LineFault.TheVariants.{NoTag, UnknownCommand, BadArguments}

-- a line begins with a tag other than number 0 and one space
pub record IsTagged (line : List ℕ) (tag : Tag) (text : List ℕ) : Type 0 where
  pub numbered : IsNumbered tag
  pub parts : line ≡ written_tag tag ++ (32 ∷ text)

-- a byte of a command's name, which ends before the first space or opening parenthesis
abbrev pub is_name_part : ℕ → Bool
is_name_part c = not (c == 32) && not (c == 40)

-- a text is a command's name and what follows it
pub record IsNamed (text name rest : List ℕ) : Type 0 where
  pub parts : text ≡ name ++ rest
  pub whole : list_all is_name_part name ≡ true
  pub stop : (c : ℕ) (more : List ℕ) → rest ≡ c ∷ more → is_name_part c ≡ false

-- a tag, a space, a name and what follows it
pub record Begins (line : List ℕ) (tag : Tag) (name rest : List ℕ) : Type 0 where
  pub text : List ℕ
  pub tagged : IsTagged line tag text
  pub named : IsNamed text name rest

-- a text is the name of a command of this kind and what this command says
pub record IsCommandOf (kind : Kind) (text : List ℕ) (command : Command) : Type 0 where
  pub name : List ℕ
  pub rest : List ℕ
  pub named : IsNamed text name rest
  pub known : is_word (kind_name kind) name ≡ true
  pub says : Says kind (tokens rest) command

-- the line stands for this command under this tag
pub record IsCommandText (line : List ℕ) (tag : Tag) (command : Command) : Type 0 where
  pub name : List ℕ
  pub rest : List ℕ
  pub kind : Kind
  pub begins : Begins line tag name rest
  pub known : is_word (kind_name kind) name ≡ true
  pub fits : IsTagOf kind tag
  pub says : Says kind (tokens rest) command

-- the line begins as a change of tool to one word, the only command that holds a text; memory can be wanted for its name alone
pub record HoldsTool (line : List ℕ) : Type 0 where
  pub tag : Tag
  pub name : List ℕ
  pub rest : List ℕ
  pub word : List ℕ
  pub begins : Begins line tag name rest
  pub known : is_word (kind_name ChangeTool) name ≡ true
  pub fits : IsTagOf ChangeTool tag
  pub spelled : IsOneWord (tokens rest) word

-- reading a line gives its command, or the fault that is due: no tag before an unknown name, and that before bad arguments
abbrev pub ReadsCommand : List ℕ → Result (Tag × Command) LineFault → Type 0
ReadsCommand line (Ok (tag, command)) = IsCommandText line tag command
ReadsCommand line (Err NoTag) = (tag : Tag) (text : List ℕ) → IsTagged line tag text → ⊥
ReadsCommand line (Err (UnknownCommand tag)) = (name rest : List ℕ) × Begins line tag name rest
    × ((kind : Kind) → is_word (kind_name kind) name ≡ true → ⊥)
ReadsCommand line (Err (BadArguments tag kind)) = (name rest : List ℕ) × Begins line tag name rest × (is_word (kind_name kind) name ≡ true)
    × ((command : Command) → IsCommandText line tag command → ⊥)
