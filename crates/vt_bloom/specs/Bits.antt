-- The bits of a Bloom filter over scores (Quinlan and Dorward 2002 lead each look-up past one; the
-- positions are this project's).
use Rattle.std.specs.Prelude.{◌≡◌, ◌⊎◌, ◌↔◌, ℕ, ◌+◌, ◌-◌, ◌*◌, ◌/◌, ◌%◌, ◌^◌, ◌<◌, ◌≤◌, List, length, drop, replicate, slice_index, bit_or}
use Rattle.std.specs.Int.{bit_at}
use Rattle.byteorder.specs.Endian.{big_number}

-- 2^m bits, of which each score has k, in words of 64 bits
pub record Filter : Type 0 where
  pub m : ℕ
  pub k : ℕ
  pub words : List ℕ

-- how many bits a filter may have, and how many of them a score
pub record AreCounts (m k : ℕ) : Type 0 where
  pub least : 16 ≤ m
  pub most : m ≤ 23
  pub some : 1 ≤ k
  pub few : k ≤ 32

-- a filter of 2 ^ m bits with k positions for a score, both within their limits
pub record IsFilter (filter : Filter) : Type 0 where
  pub counts : AreCounts filter.m filter.k
  pub whole : 64 * length filter.words ≡ 2 ^ filter.m

-- A filter of 2^m bits with k positions for a score, none of which is set.
abbrev pub clear_of : (m k : ℕ) → Filter
clear_of m k = record { m = m; k = k; words = replicate (2 ^ (m - 6)) 0 }

-- A score's positions begin at the number that its first eight bytes spell, and go on by the one
-- that the next eight spell, made odd, round the end of the bits.
abbrev pub stride_of : (score : List ℕ) → ℕ
stride_of score = bit_or (big_number 8 (drop 8 score)) 1

-- the bit that position i of a score is: the first eight bytes of the score, and i strides of it
-- further, modulo 2 ^ m
abbrev pub position_of : (m : ℕ) → (score : List ℕ) → (i : ℕ) → ℕ
position_of m score i = (big_number 8 score + i * stride_of score) % 2 ^ m

-- words have 64 bits each, the lowest first
abbrev pub IsSetIn : (words : List ℕ) → (p : ℕ) → Type 0
IsSetIn words p = bit_at (slice_index words (p / 64)) (p % 64) ≡ 1

-- the bit at this position is set
abbrev pub IsSet : Filter → (p : ℕ) → Type 0
IsSet filter p = IsSetIn filter.words p

-- the score has this bit
abbrev pub IsPosition : Filter → (score : List ℕ) → (p : ℕ) → Type 0
IsPosition filter score p = (i : ℕ) × (i < filter.k) × (p ≡ position_of filter.m score i)

-- All bits of the score are set.
abbrev pub HasBitsOf : Filter → (score : List ℕ) → Type 0
HasBitsOf filter score = (i : ℕ) → i < filter.k → IsSet filter (position_of filter.m score i)

-- the score's bits are set, and the others are as they were
pub record MarksScore (old : Filter) (score : List ℕ) (new : Filter) : Type 0 where
  pub m : new.m ≡ old.m
  pub k : new.k ≡ old.k
  pub len : length new.words ≡ length old.words
  pub set : (p : ℕ) → IsSet new p ↔ (IsSet old p ⊎ IsPosition old score p)
