-- What the scorers compute (SHA-1, FIPS 180-4, and one for tests), and that it has the form of a
-- score.
use Rattle.std.specs.Prelude.{ℕ, zero, suc, ◌≡◌, ◌/◌, List, ◌∷◌, replicate, slice_index, length, refl}
use Rattle.std.specs.Int.{w32, to_be_bytes}
use Rattle.std.proofs.Common.{arith}
use Rattle.sha1.specs.Sha1.{sha1, digest_bytes, hash_after, padded_message}
use Rattle.vt_base.specs.Bytes.{AreBytes, AreBytes-none, AreBytes-cons, AreBytes-append}

-- the first byte of the block, or 0 for no bytes, then 19 zero bytes
abbrev pub short_score : List ℕ → List ℕ
short_score block = slice_index block 0 ∷ replicate 19 0

-- a short score has 20 bytes, as any score
pub length-short_score : (block : List ℕ) → length (short_score block) ≡ 20
length-short_score block = refl

-- zeros are bytes
zero_bytes : (n : ℕ) → AreBytes (replicate n 0)
zero_bytes zero = AreBytes-none
zero_bytes (suc n) = AreBytes-cons 0 (replicate n 0) (omega arith) (zero_bytes n)

-- a short score of bytes is of bytes
pub bytes-short_score : (block : List ℕ) → AreBytes block → AreBytes (short_score block)
bytes-short_score block are = AreBytes-cons (slice_index block 0) (replicate 19 0) (are 0) (zero_bytes 19)

-- an SHA-1 score has 20 bytes
pub length-sha1 : (block : List ℕ) → length (sha1 block) ≡ 20
unfolding sha1 digest_bytes
length-sha1 block = refl

-- a word of 32 bits is spelled by bytes
word_bytes : (n : ℕ) → AreBytes (to_be_bytes w32 n)
word_bytes n zero = omega arith
word_bytes n (suc zero) = omega arith
word_bytes n (suc (suc zero)) = omega arith
word_bytes n (suc (suc (suc zero))) = omega arith
word_bytes n (suc (suc (suc (suc i)))) = omega arith

-- the words of a hash are spelled by bytes
digest_is_bytes : (h : List ℕ) (n : ℕ) → AreBytes (digest_bytes h n)
unfolding digest_bytes
digest_is_bytes h zero = AreBytes-none
digest_is_bytes h (suc n) = AreBytes-append (digest_bytes h n) (to_be_bytes w32 (slice_index h n)) (digest_is_bytes h n) (word_bytes (slice_index h n))

-- an SHA-1 score is of bytes
pub bytes-sha1 : (block : List ℕ) → AreBytes (sha1 block)
unfolding sha1
bytes-sha1 block = digest_is_bytes (hash_after (padded_message block) (length (padded_message block) / 64)) 5
