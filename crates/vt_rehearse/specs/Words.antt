-- The words of a rehearsal, which are what it writes and reads.
use Rattle.std.specs.Prelude.{◌≡◌, ◌≢◌, ℕ, ◌+◌, ◌*◌, ◌%◌, ◌<◌, List, [], replicate}
use Rattle.std.specs.List.{range_with_len}
use Rattle.vt_model.specs.History.{Block}
use Rattle.vt_rehearse.specs.declared.words.TheConstants.{WORDS}

-- all words, in their order
unfoldable pub all_words : List ℕ
all_words = range_with_len 0 WORDS

-- word w, from 0 to 63
abbrev pub word_of : (w : ℕ) → List ℕ
word_of w = replicate (1 + 37 * w % 200) w

-- how long a word is at most
abbrev pub WORD_MOST : ℕ
WORD_MOST = 200

-- The block of a word, of the type of data.
abbrev pub block_of_word : (w : ℕ) → Block
block_of_word w = record { kind = 13; bytes = word_of w }

-- Under this scorer no two words have one score, and none has the zero score.
pub record AreApart (score : List ℕ → List ℕ) : Type 0 where
  pub scores : (v w : ℕ) → v < WORDS → w < WORDS → score (word_of v) ≡ score (word_of w) → v ≡ w
  pub nonzero : (w : ℕ) → w < WORDS → score (word_of w) ≢ score []
