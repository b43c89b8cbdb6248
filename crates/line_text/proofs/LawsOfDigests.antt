-- Laws of SHA-256 digests, for proofs above: the digest that SHA-256 gives is one, 32 bytes.
use Rattle.std.proofs.Common.{◌≡◌, ◌<◌, ℕ, zero, suc, List, [], ◌∷◌, ◌++◌, length, get_or, refl, arith}
use Rattle.std.specs.Int.{w32, to_be_bytes, bytes_high_first, byte_at}
use Rattle.hex.specs.Hex.{IsBytes}
use Rattle.sha2.specs.Sha256.{sha256, digest_bytes}
use Rattle.line_text.specs.Values.{IsDigest}

-- two lists of bytes make one
bytes_append : (xs ys : List ℕ) → IsBytes xs → IsBytes ys → IsBytes (xs ++ ys)
bytes_append [] ys hx hy i = hy i
bytes_append (x ∷ xs) ys hx hy zero = hx 0
bytes_append (x ∷ xs) ys hx hy (suc i) = bytes_append xs ys (λ k. hx (suc k)) hy i

-- the empty list is one of bytes
bytes_none : IsBytes []
bytes_none i = omega arith

-- a byte of a number is below 256
byte_at-small : (k n : ℕ) → byte_at k n < 256
byte_at-small k n = grind arith

-- the bytes of a word are bytes
word_bytes : (k n : ℕ) → IsBytes (bytes_high_first k n)
word_bytes zero n i = bytes_none i
word_bytes (suc k) n zero = byte_at-small k n
word_bytes (suc k) n (suc i) = word_bytes k n i

-- so are those of all words
digest_all : (h : List ℕ) (n : ℕ) → IsBytes (digest_bytes h n)
unfolding digest_bytes
digest_all h zero = bytes_none
digest_all h (suc n) = bytes_append (digest_bytes h n) (to_be_bytes w32 (get_or h n 0)) (digest_all h n) (word_bytes 4 (get_or h n 0))

-- and those of a digest
IsBytes-sha256 : (bytes : List ℕ) → IsBytes (sha256 bytes)
unfolding sha256
IsBytes-sha256 bytes = digest_all _ 8

-- a digest has 32 bytes
pub length-sha256 : (bytes : List ℕ) → length (sha256 bytes) ≡ 32
unfolding sha256 digest_bytes
length-sha256 bytes = refl

-- what SHA-256 gives is a digest
pub IsDigest-sha256 : (bytes : List ℕ) → IsDigest (sha256 bytes)
IsDigest-sha256 bytes = record { size = length-sha256 bytes; bytes = IsBytes-sha256 bytes }
