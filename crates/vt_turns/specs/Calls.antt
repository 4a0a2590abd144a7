-- What the calls ask, and what they tell.
use Rattle.std.specs.Prelude.{◌≡◌, ℕ, ◌+◌, ◌<◌, ◌≤◌, List, [], ◌∷◌, ◌++◌, length, take, Option, Some, true, false}
use mathlib.Core.Option.{some}
use mathlib.Core.List.{IsPrefix}
use lib.ListN.{get_elem?}
use Rattle.atomic_table.specs.declared.shared.Seat.{Seat}
use Rattle.vt_turns.specs.declared.view.View.{View}
use Rattle.vt_turns.specs.declared.view.Opening.{Opening}
use Rattle.vt_turns.specs.declared.shared.Turns.{Turns}
use Rattle.vt_turns.specs.Meaning.{Meaning}
use Rattle.vt_turns.specs.Lists.{times, once}
use Rattle.vt_turns.specs.Views.{turn_of, mark_of, stop_of, faults_of, front_of, durable_of, holding, with_bits}
use Rattle.vt_turns.specs.Rule.{Apart, Stands, WasSet}
use Rattle.vt_turns.specs.Steps.{Sees, LacksBit}

module _ {P B : Type 0} where
  -- How many parts are shared.
  abbrev pub part_count : Turns P B → ℕ
  part_count turns = turns.table.shared.table_id.slots

  -- how many words of 64 Bloom bits are shared
  abbrev pub word_count : Turns P B → ℕ
  word_count turns = turns.table.shared.key.bit_words

  -- with what the store was opened; no call changes it
  abbrev pub opening_of : Turns P B → Opening P B
  opening_of turns = turns.table.shared.key.opening.value.me.0

  -- a pass of this store, with no slot out
  abbrev pub IsPassOf : Turns P B → Seat (Option P) (View P B) → Type 0
  IsPassOf turns pass =
      (pass.table_id ≡ turns.table.shared.table_id) × (pass.me.1 ≡ []) × (pass.me.0.away ≡ 0)

module _ {P B : Type 0} (M : Meaning P B) where
  -- with what a store is opened: the log first, every part sound, and the bits of its blocks set
  pub record CanOpen (o : Opening P B) : Type 0 where
    pub some_log : 0 < length o.parts
    pub front : front_of M o.parts ≡ length o.history
    pub apart : Apart M o.parts
    pub sound : (k : ℕ) (x : P) → get_elem? o.parts k ≡ some x → M.sound o o.history x
    pub within : (k : ℕ) (x : P) → get_elem? o.parts k ≡ some x
        → M.within o (durable_of M o.parts) x
    pub bits_set : o.kept ≡ true → (i k p : ℕ) (b : B)
        → get_elem? o.history i ≡ some b → get_elem? (M.places b) k ≡ some p
        → WasSet o p

  -- x was at home as the part k, and the pass with the view v has it now, with the view w
  pub record Takes (k : ℕ) (v : View P B) (x : P) (w : View P B) : Type 0 where
    pub history : List B
    pub is : w ≡ holding M k history x v
    pub goes_on : IsPrefix v.seen history
    -- what the rule says of the view
    pub sees : Sees M history w
    -- the part has come as far as the pass knew
    pub mark : mark_of v k ≤ M.mark x
    pub stop : (n : ℕ) → stop_of v k ≡ Some n → M.stop x ≡ Some n

  -- what may be booked for the part k, which was x: it has the blocks that x had, and its numbers
  -- are no less; entries are filed, and a mark is raised, only below what the pass knows as durable
  pub record MayBook (v : View P B) (k : ℕ) (x y : P) : Type 0 where
    pub front : k ≡ 0 → M.front y ≡ M.front x
    pub sound : (h : List B) → IsPrefix v.seen h → M.sound v.opening h x → M.sound v.opening h y
    pub covers : (b : B) → M.covers y b ≡ M.covers x b
    pub durable : k ≡ 0 → M.durable x ≤ M.durable y
    pub within : (n : ℕ) → v.stable ≤ n → M.within v.opening n x → M.within v.opening n y
    pub mark : M.mark x ≤ M.mark y
    pub stop : (n : ℕ) → M.stop x ≡ Some n → M.stop y ≡ Some n
    pub count : M.count x ≤ M.count y
    pub full : M.full y ≡ false → M.full x ≡ false

  -- y has the numbers of x
  pub record HasNumbersOf (x y : P) : Type 0 where
    pub covers : (b : B) → M.covers y b ≡ M.covers x b
    pub durable : M.durable y ≡ M.durable x
    pub within : (o : Opening P B) (n : ℕ) → M.within o n x → M.within o n y
    pub mark : M.mark y ≡ M.mark x
    pub stop : M.stop y ≡ M.stop x
    pub count : M.count y ≡ M.count x
    pub full : M.full y ≡ M.full x

  -- a block is added to the log x, which becomes y, and to its shard j, which was o and becomes z
  pub record MayRaise (v : View P B) (x y : P) (j : ℕ) (o z : P) (b : B) : Type 0 where
    pub shard : 0 < j
    pub has_log : turn_of v 0 ≡ Some x
    pub has_shard : turn_of v j ≡ Some o
    pub front : M.front y ≡ M.front x + 1
    -- the shard is that of the block, and the pass knows that the block's bits are set
    pub covered : v.opening.kept ≡ true → M.covers o b ≡ true
    pub bits_set : v.opening.kept ≡ true → (k p : ℕ) → get_elem? (M.places b) k ≡ some p
        → (n : ℕ) × (get_elem? v.bits n ≡ some p)
    pub log_sound : M.sound v.opening v.seen x → M.sound v.opening (v.seen ++ b ∷ []) y
    pub shard_sound : M.sound v.opening v.seen o → M.sound v.opening (v.seen ++ b ∷ []) z
    pub same_log : HasNumbersOf x y
    pub same_shard : HasNumbersOf o z

  -- a bit isn't set: those in front of it are, and no block that the pass has seen has it
  pub record FindsUnset (places : List ℕ) (v w : View P B) : Type 0 where
    pub number : ℕ
    pub place : ℕ
    pub is : get_elem? places number ≡ some place
    pub view : w ≡ with_bits (take number places) v
    pub lacks : LacksBit M place v

  -- the parts with which a store is closed, by a pass that has all shares and holds no part
  pub record Closes (v : View P B) (parts : List P) : Type 0 where
    pub history : List B
    pub front : front_of M parts ≡ length history
    pub seen : IsPrefix v.seen history
    pub begins : IsPrefix v.opening.history history
    -- the pass added every block since the opening
    pub own : (n : ℕ) → times n v.own ≡ once (length v.opening.history) (length history) n
    pub stable : v.stable ≤ durable_of M parts
    pub as_many : length parts ≡ length v.opening.parts
    pub marks : (k : ℕ) (x : P) → get_elem? parts k ≡ some x → mark_of v k ≤ M.mark x
    pub stops : (k n : ℕ) (x : P) → get_elem? parts k ≡ some x
        → stop_of v k ≡ Some n → M.stop x ≡ Some n
    pub stands : (k : ℕ) (o x : P) → get_elem? v.opening.parts k ≡ some o
        → get_elem? parts k ≡ some x
        → Stands M v.opening history (durable_of M parts) (faults_of v k) o x
