-- A pass of a store, and what the calls tell of it.
use Rattle.std.specs.Prelude.{◌≡◌, ◌≢◌, ℕ, ◌<◌, ◌≤◌, ◌==◌, if◌then◌else◌, List, [], ◌++◌, length, take, Option, None}
use mathlib.Core.List.{IsPrefix}
use Rattle.atomic_table.specs.declared.shared.Seat.{Seat}
use Rattle.vt_turns.specs.declared.view.View.{View}
use Rattle.vt_turns.specs.Views.{view, turn_of, HoldsNone}
use Rattle.vt_turns.specs.Calls.{IsPassOf, opening_of}
use Rattle.vt_turns_example.specs.declared.part.Block.{Block}
use Rattle.vt_turns_example.specs.declared.part.Part.{Part}
use Rattle.vt_turns_example.specs.declared.store.Store.{Store}
use Rattle.vt_turns_example.specs.declared.link.Ask.{Ask}
use Rattle.vt_turns_example.specs.declared.link.Said.{Said}
use Rattle.vt_turns_example.specs.declared.link.Said.TheVariants.{Held, Collision}
use Rattle.vt_turns_example.specs.Talk.{AnswersAsk, Adds}

-- a worker's pass, as contracts see it
abbrev pub Pass : Type 0
Pass = Seat (Option Part) (View Part Block)

-- what a pass knows, in this store
abbrev pub TheView : Type 0
TheView = View Part Block

-- a pass of this store, with a share
abbrev pub IsPassOfStore : Store → Pass → Type 0
IsPassOfStore store p =
    IsPassOf store.turns p × (p.me.0.opening ≡ opening_of store.turns) × (0 < p.me.0.share)

-- A pass of this store, with a share, which holds no part.
abbrev pub IsFree : Store → Pass → Type 0
IsFree store p = IsPassOfStore store p × HoldsNone (view p)

-- the log and the shard of this number were given back, and nothing was seen or added
pub record GaveBoth (number : ℕ) (v w : TheView) : Type 0 where
  pub log : turn_of w 0 ≡ None
  pub shard : turn_of w number ≡ None
  pub others : (k : ℕ) → k ≢ 0 → k ≢ number → turn_of w k ≡ turn_of v k
  pub share : w.share ≡ v.share

-- a key that has the value x is found when the value y is written
abbrev pub compared_values : (x y : ℕ) → Said
compared_values x y = if x == y then Held else Collision

-- what was asked is answered by the first `at` blocks of what is then seen
pub record Answered (v : TheView) (ask : Ask) (said : Said) (at : ℕ) (w : TheView) : Type 0 where
  pub since : length v.seen ≤ at
  pub within : at ≤ length w.seen
  pub goes_on : IsPrefix v.seen w.seen
  pub answers : AnswersAsk ask said (take at w.seen)
  pub added : List ℕ
  pub own : w.own ≡ v.own ++ added
  pub adds : Adds ask said at w.seen added []
