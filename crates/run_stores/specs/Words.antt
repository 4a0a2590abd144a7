-- What the words behind a command's name say.
use Rattle.std.specs.Prelude.{ℕ, ◌≡◌, ◌^◌, ◌<◌, ◌≤◌, List, decimal}
use Rattle.vt_bloom.specs.Size.{IsFilterSize}
use Rattle.vt_format.specs.declared.TheConstants.{MAX_LEN, MOST_POSITIONS}
use Rattle.vt_part.specs.Table.{IsArenaSize}

-- the length that a file is to have at least
pub record IsLength (word : List ℕ) (len : ℕ) : Type 0 where
  pub is : word ≡ decimal len
  pub most : len ≤ MAX_LEN

-- the size of a partition's arenas
pub record SaysArenaSize (word : List ℕ) (size : ℕ) : Type 0 where
  pub is : word ≡ decimal size
  pub fits : IsArenaSize size

-- the size of a filter of 2^m bits
pub record SaysSize (word : List ℕ) (m size : ℕ) : Type 0 where
  pub is : word ≡ decimal size
  pub fits : IsFilterSize m size

-- how many bits of a filter each score has
pub record SaysPositions (word : List ℕ) (positions : ℕ) : Type 0 where
  pub is : word ≡ decimal positions
  pub some : 1 ≤ positions
  pub most : positions ≤ MOST_POSITIONS

-- the number from which the rounds of a rehearsal are drawn
pub record SaysSeed (word : List ℕ) (x : ℕ) : Type 0 where
  pub is : word ≡ decimal x
  pub fits : x < 2 ^ 63

-- how many rounds it has
pub record SaysCount (word : List ℕ) (rounds : ℕ) : Type 0 where
  pub is : word ≡ decimal rounds
  pub fits : rounds < 2 ^ 32
