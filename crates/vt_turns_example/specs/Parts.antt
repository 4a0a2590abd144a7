-- What the parts mean.
use Rattle.std.specs.Prelude.{◌≡◌, ℕ, ◌%◌, ltb, leb, ◌&&◌, ◌==◌, List, [], ◌∷◌, length, None, Bool, true, false}
use Rattle.std.specs.Ordering.{nat_cmp}
use Rattle.std.specs.BTreeMap.{get}
use Rattle.vt_turns_example.specs.declared.part.Block.{Block}
use Rattle.vt_turns_example.specs.declared.part.Shard.{Shard as TheShard}
use Rattle.vt_turns_example.specs.declared.part.Part.{Part}
use Rattle.vt_turns_example.specs.declared.part.Part.TheVariants.{Log, Shard}
use Rattle.vt_turns.specs.Meaning.{Meaning}
use Rattle.vt_turns_example.specs.Blocks.{number_from}

-- the key lies in the shard's range
abbrev pub covers_key : TheShard → ℕ → Bool
covers_key s key = leb s.low key && ltb key s.high

-- a log has each block in its range, a shard those of its keys
abbrev pub covers : Part → Block → Bool
covers (Log l) b = true
covers (Shard s) b = covers_key s b.key

-- the log has the history, and a shard the number of each key of its range
abbrev pub sound_for : (kept : Bool) → List Block → Part → Type 0
sound_for kept h (Log l) = kept ≡ true → l.blocks.items ≡ h
sound_for kept h (Shard s) = kept ≡ true → (key : ℕ) → covers_key s key ≡ true
    → get nat_cmp s.numbers key ≡ number_from 0 h key

-- how many blocks a log has; a shard bounds nothing
abbrev pub front_of : Part → ℕ
front_of (Log l) = length l.blocks.items
front_of (Shard s) = 0

-- the blocks of the log among parts
abbrev pub log_of : List Part → List Block
log_of [] = []
log_of (Log l ∷ parts) = l.blocks.items
log_of (Shard s ∷ parts) = []

-- the place of a key's bit, of 128
abbrev pub bit_place : (key : ℕ) → ℕ
bit_place key = key % 128

-- nothing is on a disk: no block is durable, no entry is filed, no device fails
abbrev pub part_means : Meaning Part Block
part_means = record {
  sound = λ o. sound_for o.kept;
  covers = covers;
  places = λ b. bit_place b.key ∷ [];
  front = front_of;
  durable = λ x. 0;
  within = λ o n x. Unit {0};
  mark = λ x. 0;
  stop = λ x. None;
  count = λ x. 0;
  full = λ x. false;
}

-- the part is the log, or the shard of these keys
abbrev pub is_log : Part → Bool
is_log (Log l) = true
is_log (Shard s) = false

-- whether the part is the shard of this range of keys
abbrev pub is_range : (low high : ℕ) → Part → Bool
is_range low high (Log l) = false
is_range low high (Shard s) = (s.low == low) && (s.high == high)

-- a log, the shard of the keys below this one, and that of the others
abbrev pub is_cut : (cut : ℕ) → List Part → Bool
is_cut cut [] = false
is_cut cut (x ∷ []) = false
is_cut cut (x ∷ y ∷ []) = false
is_cut cut (x ∷ y ∷ z ∷ []) =
    is_log x && (is_range 0 cut y && is_range cut 18446744073709551615 z)
is_cut cut (x ∷ y ∷ z ∷ w ∷ rest) = false
