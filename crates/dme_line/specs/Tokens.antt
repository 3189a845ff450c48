-- What arguments and point texts are made of: marks and words, with any number of spaces next to them (this profile).
use Rattle.std.specs.Prelude.{ℕ, Bool, false, not, ◌&&◌, ◌||◌, ◌==◌, if◌then◌else◌, List, [], ◌∷◌}

-- a parenthesis, a comma, or a word
pub data Token : Type 0 where
  Open : Token
  Close : Token
  Comma : Token
  Word : List ℕ → Token

-- the bytes of the marks
abbrev pub is_mark : ℕ → Bool
is_mark c = (c == 40) || ((c == 41) || (c == 44))

abbrev pub mark_token : ℕ → Token
mark_token c = if c == 40 then Open else (if c == 41 then Close else Comma)

-- a byte of a word: no mark and no space
abbrev pub is_word_byte : ℕ → Bool
is_word_byte c = not (c == 32) && not (is_mark c)

-- whether a text begins inside a word
abbrev pub begins_word : List ℕ → Bool
begins_word [] = false
begins_word (c ∷ cs) = is_word_byte c

-- a word with a byte in front
abbrev pub longer_word : ℕ → List Token → List Token
longer_word c (Word w ∷ ts) = Word (c ∷ w) ∷ ts
longer_word c ts = Word (c ∷ []) ∷ ts

-- the tokens with a byte in front of their text, which may belong to their first word
abbrev pub tokens_behind : ℕ → Bool → List Token → List Token
tokens_behind c joins ts =
    if c == 32 then ts else (if is_mark c then mark_token c ∷ ts else (if joins then longer_word c ts else Word (c ∷ []) ∷ ts))

-- the tokens of a text: each longest run of word bytes is a word, and spaces only part words
abbrev pub tokens : List ℕ → List Token
tokens [] = []
tokens (c ∷ cs) = tokens_behind c (begins_word cs) (tokens cs)
