-- The answers that `--value NAME=TEXT` gives (this profile).
use Rattle.std.specs.Prelude.{ℕ, ◌+◌, ◌==◌, List, [], ◌∷◌, ◌++◌, Option, Some, None, Result, Ok, Err, drop, take, codes, if◌then◌else◌, string_bytes, unwrap_or, ◌≡◌}
use Rattle.std.specs.List.{position}
use Rattle.clap.specs.Words.{Row, Text, all_of}
use Rattle.program_lowering.specs.Prompts.{Answer, answer_of}
use Rattle.dme_words.specs.declared.words.Wanted.TheVariants as wanted
use Rattle.dme_words.specs.declared.words.WordsFault.{WordsFault}
use Rattle.dme_words.specs.declared.words.WordsFault.TheVariants.{Memory, NoValue}

-- a word, cut at its first `=` (61): nothing, if it has none, or nothing is before it
abbrev pub cut_word : Text → Option ℕ → Option Answer
cut_word word None = None
cut_word word (Some at) = if at == 0 then None else Some (answer_of (take at word) (drop (at + 1) word))

abbrev pub answer_in : Text → Option Answer
answer_in word = cut_word word (position (λ b. b == 61) word)

-- those of all words, in their order; or the first word that gives none
abbrev pub and_others : Text → Option Answer → Result (List Answer) Text → Result (List Answer) Text
and_others word None others = Err word
and_others word (Some answer) (Ok answers) = Ok (answer ∷ answers)
and_others word (Some answer) (Err bad) = Err bad

abbrev pub answers_in : List Text → Result (List Answer) Text
answers_in [] = Ok []
answers_in (word ∷ words) = and_others word (answer_in word) (answers_in words)

abbrev pub named_answers : List Row → Result (List Answer) Text
named_answers rows = answers_in (unwrap_or (all_of (codes "value") rows) [])

-- those of some words are added
abbrev pub AddsAnswers : List Answer → List Answer → Result (List Answer) Text → Type 0
AddsAnswers old new (Ok answers) = new ≡ old ++ answers
AddsAnswers old new (Err bad) = ⊥

-- a word is no answer; or memory ran out
abbrev pub HasNoAnswer : Result (List Answer) Text → WordsFault → Type 0
HasNoAnswer given (NoValue wanted.Answer word) = given ≡ Err (string_bytes word)
HasNoAnswer given Memory = Unit {0}
HasNoAnswer given _ = ⊥
