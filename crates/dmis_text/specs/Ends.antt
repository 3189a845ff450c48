-- Where a line and its comment end, as the code finds it in one pass: no public clause cites it. LF is 10, CR 13.
use Rattle.std.specs.Prelude.{◌≡◌, ℕ, ◌+◌, Bool, true, false, List, ◌∷◌, drop, ◌⊎◌}
use Rattle.std.specs.List.{prefix_len}
use Rattle.dmis_text.specs.Texts.{begins_comment}
use Rattle.dmis_text.specs.Runs.{is_in_comment}

-- what follows the end of a line, LF or CR LF
abbrev pub IsBehindEnd : List ℕ → List ℕ → Type 0
IsBehindEnd bytes after = (bytes ≡ 10 ∷ after) ⊎ (bytes ≡ 13 ∷ 10 ∷ after)

-- the end of the comment that begins at this place, or the place where none begins
abbrev pub IsCommentEnd : List ℕ → ℕ → ℕ → Type 0
IsCommentEnd bytes at end = (end ≡ at)
    ⊎ ((begins_comment false (drop at bytes) ≡ true) × (end ≡ at + prefix_len is_in_comment (drop at bytes)))
