-- Whether what comes from a peer ends the time for which it is waited (this profile): only a whole line does that is not under E0000.
use Rattle.std.specs.Prelude.{ℕ, Bool, false, ◌==◌, ◌&&◌, ◌||◌, nat_lt, not, if◌then◌else◌, List, [], ◌∷◌, suc}

-- how many of the first bytes of a line are those of E0000, after one more: 5 once all are, 6 if others have come; none after its end
abbrev pub seen_after : ℕ → ℕ → ℕ
seen_after seen byte =
    if byte == 10 then 0
    else if seen == 5 then 5
    else if (seen == 0) && (byte == 69) then 1
    else if (nat_lt 0 seen && nat_lt seen 5) && (byte == 48) then suc seen
    else 6

abbrev pub seen_after_all : ℕ → List ℕ → ℕ
seen_after_all seen [] = seen
seen_after_all seen (byte ∷ bytes) = seen_after_all (seen_after seen byte) bytes

-- a line ends in these bytes that is not under E0000
abbrev pub ends_asked : ℕ → List ℕ → Bool
ends_asked seen [] = false
ends_asked seen (byte ∷ bytes) = ((byte == 10) && not (seen == 5)) || ends_asked (seen_after seen byte) bytes
