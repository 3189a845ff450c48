use Rattle.record_text.proofs.Names.{◌++◌, ◌≡◌, drop, fitting, kept_error, string_bytes}
use Rattle.record_text.proofs.note_writing.kept_of.Given as goal

-- what is kept so far, and what of the bytes that are left fits after it
abbrev pub invariant-loop-byte : goal.invariant-loop-byte
invariant-loop-byte l = string_bytes l.kept ++ fitting l.room (drop l.byte-index l.text) ≡ kept_error l.text
