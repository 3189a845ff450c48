use Rattle.std.proofs.Common.{◌≡◌, ◌++◌, string_bytes, flat_map, drop}
use Rattle.dme_words.specs.Folders.{file_byte}
use Rattle.dme_words.proofs.folders.push_name.Given as goal

-- what is there and what is left are the whole name
abbrev pub invariant-loop-byte : goal.invariant-loop-byte
invariant-loop-byte l = string_bytes l.out ++ flat_map file_byte (drop l.byte-index l.part) ≡ string_bytes l.fn.out ++ flat_map file_byte l.part
