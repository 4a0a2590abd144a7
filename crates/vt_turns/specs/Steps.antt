-- What each atomic step tells the pass that makes it. There are twelve kinds of step; those that
-- cut a view in two, or put two together, are in Views: less_one and split_off, noted, joined.
use Rattle.std.specs.Prelude.{◌≡◌, ◌≢◌, ℕ, suc, ◌<◌, ◌≤◌, List, [], ◌∷◌, length, Option, Some, None, true, ◌%◌}
use Rattle.std.specs.Int.{bit_at}
use mathlib.Core.Option.{some}
use mathlib.Core.List.{IsPrefix}
use lib.ListN.{get_elem?}
use Rattle.atomic_table.specs.Table.{Me, Step}
use Rattle.vt_turns.specs.declared.view.View.{View}
use Rattle.vt_turns.specs.Meaning.{Meaning}
use Rattle.vt_turns.specs.Lists.{times, once}
use Rattle.vt_turns.specs.Views.{turn_of, mark_of, stop_of, taking, without, booking, raising, with_bits, KnowsAll}

-- a pass as a table sees it: its view, and the slots that are out with it
abbrev pub Seated : Type 0 → Type 0 → Type 0
Seated P B = Me (Option P) (View P B)

module _ {P B : Type 0} (M : Meaning P B) where
  -- what the rule says of a view w where h is the history
  pub record Sees (h : List B) (w : View P B) : Type 0 where
    pub seen : IsPrefix w.seen h
    pub begins : 0 < w.share → IsPrefix w.opening.history h
    -- the parts that it holds are sound, and cover what they did at the opening
    pub sounds : (k : ℕ) (x : P) → turn_of w k ≡ Some x → M.sound w.opening h x
    pub covers : 0 < w.share → (k : ℕ) (o x : P)
        → get_elem? w.opening.parts k ≡ some o → turn_of w k ≡ Some x
        → (b : B) → M.covers x b ≡ M.covers o b
    -- where it holds the log it has seen all of it
    pub log : (x : P) → turn_of w 0 ≡ Some x → w.seen ≡ h
    pub front : (x : P) → turn_of w 0 ≡ Some x → M.front x ≡ length h
    -- so many blocks are durable
    pub durable : ℕ
    pub stable : w.stable ≤ durable
    pub durable_is : (x : P) → turn_of w 0 ≡ Some x → M.durable x ≡ durable
    pub withins : (k : ℕ) (x : P) → turn_of w k ≡ Some x → M.within w.opening durable x
    -- a pass with all shares added all blocks that were added
    pub sole : w.share ≡ 65536 → (n : ℕ)
        → times n w.own ≡ once (length w.opening.history) (length h) n

  -- x was at home as the part k, and a pass that had the view v has it now, with the view w
  pub record TookAt (k : ℕ) (history : List B) (v : View P B) (x : P) (w : View P B) : Type 0 where
    pub goes_on : IsPrefix v.seen history
    pub sees : Sees history w
    pub marks : mark_of v k ≤ M.mark x
    pub stops : (n : ℕ) → stop_of v k ≡ Some n → M.stop x ≡ Some n
    pub stable : k ≡ 0 → v.stable ≤ M.durable x

  -- The part's word is exchanged from 0 to 1: the pass has the part, and its slot is out with it.
  abbrev pub Claimed : ℕ → (old new : Seated P B) → Type 0
  Claimed k m m' = (x : P) × (h : List B)
      × (m'.1 ≡ (k, Some x) ∷ m.1)
      × (m'.0 ≡ taking M k h x m.0)
      × TookAt k h m.0 x m'.0

  -- take: an exchange that finds another number changes nothing
  abbrev pub TellsTaken : Step (Option P) → Seated P B → (found : ℕ) → Seated P B → Type 0
  TellsTaken st m found m' =
      (found ≡ 0 → (k : ℕ) × (suc k ≡ st.word) × Claimed k m m') × (found ≢ 0 → m' ≡ m)

  -- slot home: the empty slot goes back, and the part stays with the pass
  abbrev pub TellsSlotHome : Step (Option P) → Seated P B → (found : ℕ) → Seated P B → Type 0
  TellsSlotHome st m found m' = m' ≡ (record m.0 { away = 0 }, [])

  -- slot out: the empty slot of a part that the pass has comes out
  abbrev pub TellsSlotOut : Step (Option P) → Seated P B → (found : ℕ) → Seated P B → Type 0
  TellsSlotOut st m found m' = (k : ℕ) × (suc k ≡ st.word)
      × (m' ≡ (record m.0 { away = suc k }, (k, None) ∷ m.1))

  -- give: the part is in its slot, which goes back
  abbrev pub TellsGiven : Step (Option P) → Seated P B → (found : ℕ) → Seated P B → Type 0
  TellsGiven st m found m' = (k : ℕ) × (suc k ≡ st.word) × (m' ≡ (without k m.0, []))

  -- book: the numbers of the part, which the step names
  abbrev pub TellsBooked : Option P
      → Step (Option P) → Seated P B → (found : ℕ) → Seated P B → Type 0
  TellsBooked named st m found m' = (k : ℕ) (x y : P)
      → suc k ≡ st.word → turn_of m.0 k ≡ Some x → named ≡ Some y
      → (m' ≡ (booking M k x y m.0, m.1)) × KnowsAll m.0 (booking M k x y m.0)

  -- raise the front: the step names the log, the shard with its number, and the block
  abbrev pub TellsRaised : Option (P × ℕ × P × B)
      → Step (Option P) → Seated P B → (found : ℕ) → Seated P B → Type 0
  TellsRaised named st m found m' = (y : P) (j : ℕ) (z : P) (b : B)
      → named ≡ Some (y, j, z, b) → m' ≡ (raising M y j z b m.0, m.1)

  -- the history that is found is seen, and with it what joined passes had seen
  pub record Loads (v : View P B) (found : ℕ) (w : View P B) : Type 0 where
    pub history : List B
    pub is : w ≡ record v { seen = history; olds = [] }
    pub length_is : length history ≡ found
    pub goes_on : IsPrefix v.seen history
    pub olds : (n : ℕ) (h : List B) → get_elem? v.olds n ≡ some h → IsPrefix h history
    pub sees : Sees history w

  -- load the front
  abbrev pub TellsFront : Step (Option P) → Seated P B → (found : ℕ) → Seated P B → Type 0
  TellsFront st m found m' = (m'.1 ≡ m.1) × Loads m.0 found m'.0

  -- where the store was kept, no block that the pass has seen has this place among its bits
  pub record LacksBit (place : ℕ) (v : View P B) : Type 0 where
    pub none : v.opening.kept ≡ true → 0 < v.share → (i k : ℕ) (b : B)
        → get_elem? v.seen i ≡ some b → get_elem? (M.places b) k ≡ some place → ⊥

  -- set a bit
  abbrev pub TellsBitSet : (place : ℕ)
      → Step (Option P) → Seated P B → (found : ℕ) → Seated P B → Type 0
  TellsBitSet place st m found m' = m' ≡ (with_bits (place ∷ []) m.0, m.1)

  -- load a bit
  abbrev pub TellsBit : (place : ℕ)
      → Step (Option P) → Seated P B → (found : ℕ) → Seated P B → Type 0
  TellsBit place st m found m' =
      (bit_at found (place % 64) ≡ 1 → m' ≡ (with_bits (place ∷ []) m.0, m.1))
      × (bit_at found (place % 64) ≢ 1 → (m' ≡ m) × LacksBit place m.0)
