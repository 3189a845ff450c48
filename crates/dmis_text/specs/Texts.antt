-- Texts, blanks and comments on one line (ISO 22093: a text is between apostrophes, `$$` begins a comment, `$` continues a
-- line). An apostrophe is 39, `$` is 36.
use Rattle.std.specs.Prelude.{ℕ, Bool, true, false, not, List, [], ◌∷◌, ◌&&◌, ◌||◌, ◌==◌, nat_le, if◌then◌else◌}
use Rattle.std.specs.List.{list_all}

-- whether what follows a byte is in a text: each apostrophe turns it, so a doubled one needs no rule
abbrev pub turned : Bool → ℕ → Bool
turned inside c = if c == 39 then not inside else inside

-- the same after a list of bytes
abbrev pub inside_after : Bool → List ℕ → Bool
inside_after inside [] = inside
inside_after inside (c ∷ cs) = inside_after (turned inside c) cs

-- a space or a tab
abbrev pub is_blank : ℕ → Bool
is_blank c = (c == 32) || (c == 9)

-- blanks alone, or nothing
abbrev pub all_blank : List ℕ → Bool
all_blank = list_all is_blank

-- a comment begins in front: two `$`, outside texts
abbrev pub begins_comment : Bool → List ℕ → Bool
begins_comment inside [] = false
begins_comment inside (c ∷ []) = false
begins_comment inside (c ∷ d ∷ cs) = not inside && ((c == 36) && (d == 36))

-- what is before the comment, or the whole line if there is none; `inside` says that a text is open before it
abbrev pub before_comment : Bool → List ℕ → List ℕ
before_comment inside [] = []
before_comment inside (c ∷ cs) = if begins_comment inside (c ∷ cs) then [] else c ∷ before_comment (turned inside c) cs

-- a tab and 32 to 126 may stand anywhere, 128 and above only where bytes are free, in texts and in comments (this profile)
abbrev pub may_stand : Bool → ℕ → Bool
may_stand free c = (c == 9) || ((nat_le 32 c && nat_le c 126) || (free && nat_le 128 c))

-- whether each byte of a line may be in its place
abbrev pub is_clean : Bool → List ℕ → Bool
is_clean inside [] = true
is_clean inside (c ∷ cs) = if begins_comment inside (c ∷ cs) then list_all (may_stand true) (c ∷ cs) else may_stand inside c
    && is_clean (turned inside c) cs

-- whether the last byte that is not blank is `$`
abbrev pub is_continued : List ℕ → Bool
is_continued [] = false
is_continued (c ∷ cs) = if all_blank cs then c == 36 else is_continued cs

-- the bytes without the last one that is not blank, and nothing else left out
abbrev pub without_mark : List ℕ → List ℕ
without_mark [] = []
without_mark (c ∷ cs) = if all_blank cs then cs else c ∷ without_mark cs

-- what begins with the first byte that is not blank
abbrev pub without_front_blanks : List ℕ → List ℕ
without_front_blanks [] = []
without_front_blanks (c ∷ cs) = if is_blank c then without_front_blanks cs else c ∷ cs

-- what ends with the last byte that is not blank
abbrev pub without_end_blanks : List ℕ → List ℕ
without_end_blanks [] = []
without_end_blanks (c ∷ cs) = if all_blank (c ∷ cs) then [] else c ∷ without_end_blanks cs
