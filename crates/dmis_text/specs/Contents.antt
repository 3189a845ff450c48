-- What is before a comment, and what is left without blanks, as relations: what the laws of this crate tie its functions to.
use Rattle.std.specs.Prelude.{◌≡◌, ◌⊎◌, ℕ, ◌<◌, ◌-◌, Bool, true, false, not, ◌||◌, ◌&&◌, ◌==◌, nat_le, List, [], ◌++◌, length, take, drop}
use Rattle.std.specs.Prelude.{slice_index}
use Rattle.std.specs.List.{list_all}
use Rattle.dmis_text.specs.Texts.{inside_after, is_blank, all_blank, begins_comment, before_comment, may_stand}

-- a line is this content and its comment: no comment begins in the content, and one begins after it or the line ends there
pub record IsContent (inside : Bool) (line content : List ℕ) : Type 0 where
  pub comment : List ℕ
  pub parts : line ≡ content ++ comment
  pub none : (k : ℕ) → k < length content → begins_comment (inside_after inside (take k line)) (drop k line) ≡ false
  pub ends : (comment ≡ []) ⊎ (begins_comment (inside_after inside content) comment ≡ true)

-- each byte may be in its place, where texts and the comment are free
abbrev pub EachStands : Bool → List ℕ → Type 0
EachStands inside line = (k : ℕ) → k < length line
    → may_stand (inside_after inside (take k line) || nat_le (length (before_comment inside line)) k) (slice_index line k) ≡ true

-- what is left of bytes when the blanks at both ends are dropped, and nothing else
pub record IsTrimmed (bytes kept : List ℕ) : Type 0 where
  pub before : List ℕ
  pub behind : List ℕ
  pub parts : bytes ≡ before ++ (kept ++ behind)
  pub blank_before : all_blank before ≡ true
  pub blank_behind : all_blank behind ≡ true
  pub first : is_blank (slice_index kept 0) ≡ false
  pub last : is_blank (slice_index kept (length kept - 1)) ≡ false

-- the byte stands nowhere in the list
abbrev pub lacks : ℕ → List ℕ → Bool
lacks c bytes = list_all (λ b. not (b == c)) bytes

-- a line as it may be written: free of CR and LF
abbrev pub is_line : List ℕ → Bool
is_line bytes = lacks 13 bytes && lacks 10 bytes
