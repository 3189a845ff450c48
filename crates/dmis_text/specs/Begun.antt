-- A statement that continues over several lines (ISO 22093, continued lines).
use Rattle.std.specs.Prelude.{ℕ, Bool, false, List, ◌++◌, Option, Some, None}
use Rattle.dmis_text.specs.Texts.{inside_after}

-- a statement that has begun and not ended: its first line, and its parts so far, joined
pub record OpenStatement : Type 0 where
  pub line : ℕ
  pub text : List ℕ

-- whether its open text continues; if none has begun, there is no open text
abbrev pub is_open : Option OpenStatement → Bool
is_open None = false
is_open (Some begun) = inside_after false begun.text

-- the same with one part more, which is on line n: if none has begun, one begins there
abbrev pub grown : Option OpenStatement → ℕ → List ℕ → OpenStatement
grown None n part = record { line = n; text = part }
grown (Some begun) n part = record { line = begun.line; text = begun.text ++ part }

-- how the code keeps one: no public clause cites it
abbrev pub begun_of : Option ℕ → List ℕ → Option OpenStatement
begun_of None text = None
begun_of (Some line) text = Some (record { line = line; text = text })
