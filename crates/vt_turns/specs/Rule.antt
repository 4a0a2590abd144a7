-- The rule: what holds of the words, of the parts at home and of all views between any two steps.
--
-- Word 0 is the front, the count of accepted blocks. Word 1 + k is that of the part k, 0 where no
-- pass holds it. Behind them stand the words of the Bloom bits, of 64 bits each.
use Rattle.std.specs.Prelude.{◌≡◌, ◌≢◌, ◌⊎◌, ℕ, suc, ◌+◌, ◌<◌, ◌≤◌, List, [], length, slice_index, Option, Some, None, true, false, ◌/◌, ◌%◌}
use Rattle.std.specs.Int.{bit_at}
use mathlib.Core.Option.{some}
use mathlib.Core.Option as maybe
use mathlib.Core.List.{IsPrefix}
use lib.ListN.{get_elem?}
use Rattle.atomic_table.specs.Table.{State}
use Rattle.vt_turns.specs.declared.view.View.{View}
use Rattle.vt_turns.specs.declared.view.Opening.{Opening}
use Rattle.vt_turns.specs.Meaning.{Meaning}
use Rattle.vt_turns.specs.Lists.{total, times, once}
use Rattle.vt_turns.specs.Views.{turn_of, mark_of, stop_of, faults_of, HoldsNone, front_of, durable_of}

-- what is at home in each slot
abbrev pub Homes : Type 0 → Type 0
Homes P = List (maybe.Option (Option P))

-- among these words, of a table of so many parts, the Bloom bit at this place is set
abbrev pub HasBit : List ℕ → (parts place : ℕ) → Type 0
HasBit words parts place = bit_at (slice_index words (suc parts + place / 64)) (place % 64) ≡ 1

module _ {P B : Type 0} where
  -- the bit was set when the store was opened
  abbrev pub WasSet : Opening P B → (place : ℕ) → Type 0
  WasSet opening place = bit_at (slice_index opening.bits (place / 64)) (place % 64) ≡ 1

  -- a pass knows the bit as set
  abbrev pub IsKnown : List (View P B) → (place : ℕ) → Type 0
  IsKnown views place = (i : ℕ) × (k : ℕ) × (v : View P B)
      × (get_elem? views i ≡ some v) × (get_elem? v.bits k ≡ some place)

module _ {P : Type 0} where
  -- a part that nobody holds lies in its slot, and its word is 0 there alone
  abbrev pub Placed : (holder word : ℕ) → maybe.Option (maybe.Option (Option P)) → P → Type 0
  Placed holder word home x =
      (holder ≡ 0 → (word ≡ 0) × (home ≡ some (some (Some x)))) × (0 < holder → 0 < word)

  -- the pass i holds the part k, as it is; its slot is empty, unless it is out with the pass
  abbrev pub Holds : Homes P → (holder : ℕ → ℕ) → (parts : List P) → (i away k : ℕ) → P → Type 0
  Holds homes holder parts i away k x =
      (holder k ≡ suc i)
      × (get_elem? parts k ≡ some x)
      × (away ≢ suc k → get_elem? homes k ≡ some (some None))

module _ {P B : Type 0} (M : Meaning P B) where
  -- no block lies in the ranges of two shards
  abbrev pub Apart : List P → Type 0
  Apart parts = (j k : ℕ) (x y : P) (b : B) → 0 < j → 0 < k → j ≢ k
      → get_elem? parts j ≡ some x → get_elem? parts k ≡ some y
      → M.covers x b ≡ true → M.covers y b ≡ false

  -- the count of a part is what it was at the opening, and what all passes booked for it
  abbrev pub Counted : (booked : ℕ) → (old new : P) → Type 0
  Counted booked o x =
      (M.count x ≤ M.count o + booked) × (M.full x ≡ false → M.count x ≡ M.count o + booked)

  -- the part x, which was o when the store was opened
  pub record Stands (opening : Opening P B) (history : List B) (durable booked : ℕ) (o x : P)
      : Type 0 where
    pub sound : M.sound opening history x
    pub within : M.within opening durable x
    pub covers : (b : B) → M.covers x b ≡ M.covers o b
    pub counted : Counted booked o x

  -- what the view v, that of the pass i, agrees with
  pub record Knows (opening : Opening P B) (homes : Homes P) (holder : ℕ → ℕ) (parts : List P)
      (history : List B) (i : ℕ) (v : View P B) : Type 0 where
    pub seen : IsPrefix v.seen history
    -- who holds the log has seen all, and knows how much of it is durable
    pub whole : (x : P) → turn_of v 0 ≡ Some x → v.seen ≡ history
    pub durable : (x : P) → turn_of v 0 ≡ Some x → v.stable ≡ M.durable x
    pub olds : (n : ℕ) (h : List B) → get_elem? v.olds n ≡ some h → IsPrefix h history
    pub opening_is : 0 < v.share → v.opening ≡ opening
    pub stable : v.stable ≤ durable_of M parts
    pub marks : (k : ℕ) (x : P) → get_elem? parts k ≡ some x → mark_of v k ≤ M.mark x
    pub stops : (k n : ℕ) (x : P) → get_elem? parts k ≡ some x
        → stop_of v k ≡ Some n → M.stop x ≡ Some n
    pub turns : (k : ℕ) (x : P) → turn_of v k ≡ Some x → Holds homes holder parts i v.away k x
    -- without a share it added nothing, holds nothing and booked nothing
    pub idle : v.share ≡ 0 → (v.own ≡ []) × HoldsNone v × ((k : ℕ) → faults_of v k ≡ 0)

  -- What holds of the words, the slots and all views behind each atomic step.
  pub record Rule (bit_words : ℕ) (opening : Opening P B) (s : State (Option P) (View P B))
      : Type 0 where
    -- each part as it is at home, or as its holder took, raised or booked it
    pub parts : List P
    pub history : List B
    -- 0, or the number of the pass that holds the part, and 1
    pub holder : ℕ → ℕ
    pub words_are : length s.words ≡ suc (length parts) + bit_words
    pub homes_are : length s.homes ≡ length parts
    pub as_many : length parts ≡ length opening.parts
    -- the front's word is the length of the history, which is the log's
    pub front : slice_index s.words 0 ≡ length history
    pub log : front_of M parts ≡ length history
    pub grown : IsPrefix opening.history history
    -- each part is at home or held by one pass, and stands for the history
    pub placed : (k : ℕ) (x : P) → get_elem? parts k ≡ some x
        → Placed (holder k) (slice_index s.words (suc k)) (get_elem? s.homes k) x
    pub held : (k i : ℕ) → k < length parts → holder k ≡ suc i
        → (v : View P B) × (x : P) × (get_elem? s.views i ≡ some v) × (turn_of v k ≡ Some x)
    pub stands : (k : ℕ) (o x : P) → get_elem? opening.parts k ≡ some o → get_elem? parts k ≡ some x
        → Stands opening history (durable_of M parts) (total (λ v. faults_of v k) s.views) o x
    pub apart : Apart opening.parts
    pub each : (i : ℕ) (v : View P B) → get_elem? s.views i ≡ some v
        → Knows opening s.homes holder parts history i v
    -- there are 65,536 shares, and each block since the opening was added by exactly one pass
    pub shares : total (λ v. v.share) s.views ≡ 65536
    pub numbers : (n : ℕ) → total (λ v. times n v.own) s.views
        ≡ once (length opening.history) (length history) n
    -- each block's Bloom bits are set, and each bit that a pass knows as set
    pub bits : opening.kept ≡ true → (i k p : ℕ) (b : B)
        → get_elem? history i ≡ some b → get_elem? (M.places b) k ≡ some p
        → HasBit s.words (length parts) p
    pub known_bits : (i k p : ℕ) (v : View P B)
        → get_elem? s.views i ≡ some v → get_elem? v.bits k ≡ some p
        → HasBit s.words (length parts) p
    -- no other bit is set: each was at the opening, or a pass knows it
    pub no_other_bits : (p : ℕ) → HasBit s.words (length parts) p
        → WasSet opening p ⊎ IsKnown s.views p
