-- What workers do, of which each serves a link with a pass of its own.
use Rattle.std.specs.Prelude.{◌≡◌, ℕ, ◌+◌, ◌-◌, ◌<◌, List, [], ◌∷◌, ◌++◌, length}
use mathlib.Core.Option.{some}
use mathlib.Core.List.{IsPrefix}
use lib.ListN.{get_elem?}
use Rattle.vt_turns.specs.Views.{HoldsNone, split_off}
use Rattle.vt_turns.specs.Lists.{times, once}
use Rattle.vt_turns_example.specs.declared.part.Block.{Block}
use Rattle.vt_turns_example.specs.declared.store.Store.{Store}
use Rattle.vt_turns_example.specs.declared.link.Line.{Line}
use Rattle.vt_turns_example.specs.declared.workers.Started.{Started}
use Rattle.vt_turns_example.specs.declared.workers.Started.TheVariants.{Runs, Done}
use Rattle.vt_turns_example.specs.declared.workers.End.{End}
use Rattle.vt_turns_example.specs.Stores.{Pass, TheView, IsPassOfStore}
use Rattle.vt_turns_example.specs.Talk.{IsTalk}
use Rattle.vt_turns_example.specs.Work.{Works}

-- v with n shares given away
abbrev pub less : TheView → ℕ → TheView
less v n = record v { share = v.share - n }

-- a pass that another takes in: both histories are seen, and its numbers and shares are taken over
pub record Joins (v w u : TheView) : Type 0 where
  pub opening : u.opening ≡ v.opening
  pub share : u.share ≡ v.share + w.share
  pub own : u.own ≡ v.own ++ w.own
  pub none_held : HoldsNone u
  pub mine : IsPrefix v.seen u.seen
  pub theirs : IsPrefix w.seen u.seen

-- Two links were served by the pass with view v and by one that it split off, and it has view u:
-- both were told of the history that it sees, and it added what both added.
pub record ServedTwo (v : TheView) (first second : List Line) (u : TheView) : Type 0 where
  pub share : u.share ≡ v.share
  pub seen : IsPrefix v.seen u.seen
  pub by_first : List ℕ
  pub by_second : List ℕ
  pub first_talk : IsTalk u.seen (length v.seen) first by_first
  pub second_talk : IsTalk u.seen (length v.seen) second by_second
  pub own : u.own ≡ (v.own ++ by_second) ++ by_first

module _ {L : Type 0} where
  -- the numbers of the blocks that a worker added, and those of all
  abbrev pub own_of : End L → List ℕ
  own_of e = e.pass.value.me.0.own

  -- (those of the first worker come first)
  abbrev pub owns : List (End L) → List ℕ
  owns [] = []
  owns (e ∷ es) = own_of e ++ owns es

module _ {L : Type 0} (told : L → List Line) where
  -- the worker was started with this pass
  abbrev pub BeginsWorker : Pass → Started L → Type 0
  BeginsWorker p (Runs h) = h.promise.was.value ≡ p
  BeginsWorker p (Done s) = Works p s.pass (told s.link)

  -- each worker was started with a pass of its own, which knew what v knows
  abbrev pub AllBegun : Store → TheView → List (Started L) → Type 0
  AllBegun store v all = (k : ℕ) (s : Started L) → get_elem? all k ≡ some s
      → (p : Pass) × (p.me.0 ≡ split_off v) × IsPassOfStore store p × BeginsWorker p s

  -- so many workers were started by the pass with view v, which then has view u
  abbrev pub Begun : Store → (v u : TheView) → List (Started L) → Type 0
  Begun store v u all =
      (u ≡ less v (length all)) × (length all < v.share) × AllBegun store v all

  -- the workers of these ends were served beside the pass with view v, which then has view u, and
  -- so many others of its workers are left to be joined
  pub record Joining (v u : TheView) (ends : List (End L)) (left : ℕ) : Type 0 where
    pub opening : u.opening ≡ v.opening
    pub share : u.share + left ≡ v.share
    pub seen : IsPrefix v.seen u.seen
    pub own : u.own ≡ v.own ++ owns ends
    -- what each link was told is a talk of what is seen, with the blocks that its worker added
    pub talks : (k : ℕ) (e : End L) → get_elem? ends k ≡ some e
        → IsTalk u.seen (length v.seen) (told e.link) (own_of e)

  -- All of the workers were joined.
  abbrev pub HasServed : (v u : TheView) → List (End L) → Type 0
  HasServed v u ends = Joining v u ends 0

  -- the links were told of one history, which is the log's, and each of its blocks was added by
  -- exactly one worker
  pub record IsOneHistory (ends : List (End L)) (history : List Block) : Type 0 where
    pub talks : (k : ℕ) (e : End L) → get_elem? ends k ≡ some e
        → IsTalk history 0 (told e.link) (own_of e)
    pub once_each : (n : ℕ) → times n (owns ends) ≡ once 0 (length history) n
