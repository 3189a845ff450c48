-- HMAC (RFC 2104) over SHA-256 (FIPS 180-4).
use Rattle.std.specs.Prelude.{ℕ, List, ◌++◌, map, drop, length, replicate, bit_xor, nat_lt, if◌then◌else◌}
use Rattle.sha2.specs.Sha256.{sha256}

-- a key of at most 64 bytes, and the digest of a longer one
abbrev pub short_key : List ℕ → List ℕ
short_key key = if nat_lt 64 (length key) then sha256 key else key

-- 64 bytes: the key with this byte, and after it the byte
abbrev pub padded : ℕ → List ℕ → List ℕ
padded byte key = map (λ b. bit_xor b byte) key ++ drop (length key) (replicate 64 byte)

-- the inner pad is 54, the outer one 92
abbrev pub hmac : (key text : List ℕ) → List ℕ
hmac key text = sha256 (padded 92 (short_key key) ++ sha256 (padded 54 (short_key key) ++ text))
