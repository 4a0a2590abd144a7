-- What is found of a history's blocks, and what is found in memory.
use Rattle.std.specs.Prelude.{◌≡◌, ℕ, ◌≤◌, Option, None, Some, MatchOption, List}
use Rattle.std.specs.List.{All, Contains}
use Rattle.vt_base.specs.declared.key.Key.{Key}
use Rattle.vt_base.specs.declared.place.Entry.{Entry}
use Rattle.vt_icache.specs.Index.{IndexState, IsCached}
use Rattle.vt_isect.specs.Agreement.{IsEntryOfBlock}
use Rattle.vt_model.specs.History.{History, HasScoreAt, HasKeyAt}
use Rattle.vt_model.specs.Places.{Setup}
use Rattle.vt_shard.specs.Shard.{ReadBucket}

-- Block i of the history has this key.
abbrev pub HasKeyOf : (List ℕ → List ℕ) → History → (i : ℕ) → Key → Type 0
HasKeyOf score h i key = HasKeyAt score h i key.score.0 key.kind

-- The search for a key: None says that none of the blocks from this number on has it; an entry is
-- that of the block that has it, wherever that stands.
abbrev pub FindsEntry : (List ℕ → List ℕ) → Setup → History → (from : ℕ) → Key → Option Entry
    → Type 0
FindsEntry score c h from key None = (i : ℕ) → from ≤ i → ¬ HasKeyOf score h i key
FindsEntry score c h from key (Some entry) = (entry.key ≡ key) × IsEntryOfBlock score c h entry

-- The search for a score under any type: None says that none of the blocks from this number on has
-- it; an entry is that of a block that does.
abbrev pub FindsScore : (List ℕ → List ℕ) → Setup → History → (from : ℕ) → List ℕ → Option Entry
    → Type 0
FindsScore score c h from s None = (i : ℕ) → from ≤ i → ¬ HasScoreAt score h i s
FindsScore score c h from s (Some entry) = (entry.key.score.0 ≡ s) × IsEntryOfBlock score c h entry

-- These are the bytes of the block of the history that has the key.
abbrev pub IsLumpOf : (List ℕ → List ℕ) → History → Key → (bytes : List ℕ) → Type 0
IsLumpOf score h key bytes =
    (i : ℕ) × (it : HasKeyOf score h i key) × (bytes ≡ it.block.block.bytes)

-- ---- in memory

-- an entry in memory has this score
abbrev pub KeepsScore : IndexState → List ℕ → Type 0
KeepsScore index s = (entry : Entry) × IsCached index entry × (entry.key.score.0 ≡ s)

-- of some entries this is the one that passes, or none does
abbrev pub IsOneOf : List Entry → (passes : Entry → Type 0) → Option Entry → Type 0
IsOneOf entries passes None = All (λ entry. ¬ passes entry) entries
IsOneOf entries passes (Some entry) = Contains entries entry × passes entry

-- what the bucket of this number, which was read, says of the entries that pass
abbrev pub IsFoundIn : Option ReadBucket → (n : ℕ) → (passes : Entry → Type 0) → Option Entry
    → Type 0
IsFoundIn bucket n passes found =
    MatchOption bucket ⊥ (λ it. (it.number ≡ n) × IsOneOf it.entries passes found)
