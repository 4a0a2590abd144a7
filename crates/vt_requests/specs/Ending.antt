-- What the end of a store's use leaves: what was accepted is durable, its entries are written back,
-- and each mark says so.
use Rattle.std.specs.Prelude.{◌≡◌, ◌≢◌, ℕ, ◌<◌, IsTrue, Option, Some, None, Result, Ok, Err, IfErr, OnOk, List, [], ◌∷◌, length, slice_get}
use Rattle.std.specs.List.{All}
use Rattle.vt_base.specs.Damage.{Differ}
use Rattle.vt_base.specs.declared.why.Why.{Why}
use Rattle.vt_base.specs.declared.why.Why.TheVariants.{DiskFault, Stopped, Damaged}
use Rattle.vt_disk.specs.Members.{DiskOf}
use Rattle.vt_model.specs.History.{History}
use Rattle.vt_bloom.specs.Bloom.{BloomState}
use Rattle.vt_model.specs.Causes.{NoneFell, OneRose}
use Rattle.vt_shard.specs.Shard.{ShardState}
use Rattle.vt_core.specs.declared.event.Event.{Event}
use Rattle.vt_core.specs.declared.event.Event.TheVariants.{LogAdvance, FileAdvance, BloomAdvance}
use Rattle.vt_core.specs.declared.event.Out.{Out}
use Rattle.vt_core.specs.declared.event.Out.TheVariants.{Said as SaidOut, Waits, NotYet, Moved, Nothing, Failed}
use Rattle.vt_core.specs.Causes.{IsUndamagedWhy}
use Rattle.vt_core.specs.Core.{CoreState, each_of, history_len, stops_of}
use Rattle.vt_core.specs.Sound.{IsSound}
use Rattle.vt_core.specs.Steps.{Runs}
use Rattle.vt_core.specs.Work.{IsSaved}
use Rattle.vt_requests.specs.Answers.{KeepsAll, KeepsStopped}
use Rattle.vt_requests.specs.Working.{IsShardFiled, IsOwnWork}

-- one of these events, when it was there, failed
pub record EventHasFailed (event : Event) (events : List Event) (outs : List Out) : Type 0 where
  pub at : ℕ
  pub why : Why
  pub event_is : slice_get events at ≡ Some event
  pub out_is : slice_get outs at ≡ Some (Failed why)

-- what failed first, if anything did
abbrev pub first_failure : List Out → Option Why
first_failure [] = None
first_failure (Failed why ∷ outs) = Some why
first_failure (Moved ∷ outs) = first_failure outs
first_failure (Nothing ∷ outs) = first_failure outs
first_failure (SaidOut answer ∷ outs) = first_failure outs
first_failure (Waits ∷ outs) = first_failure outs
first_failure (NotYet ∷ outs) = first_failure outs

-- the first failure of two
abbrev pub first_of : (first second : Result (Unit {0}) Why) → Result (Unit {0}) Why
first_of (Ok done) second = second
first_of (Err why) second = Err why

-- what is told is what failed first
abbrev pub TellsFirst : Result (Unit {0}) Why → List Out → Type 0
TellsFirst (Ok done) outs = first_failure outs ≡ None
TellsFirst (Err why) outs = first_failure outs ≡ Some why

-- In the first so many shards everything durable was written back, unless a piece of that failed.
pub record FilesAll {D : Type 0} (score : List ℕ → List ℕ) (disk : DiskOf D) (many : ℕ)
    (result : Result (Unit {0}) Why) (old new : CoreState D) : Type 0 where
  pub events : List Event
  pub outs : List Out
  pub own : All IsOwnWork events
  pub runs : Runs score disk events outs old new
  pub same : new ≡ record old { shards = new.shards }
  pub shards : (i : ℕ) (s : ShardState D) → i < many → slice_get new.shards i ≡ Some s
      → ¬ EventHasFailed (FileAdvance i) events outs → IsShardFiled new.log.durable s
  pub tells : TellsFirst result outs

-- Each part is brought to its end unless a piece of its own work failed: the log has nothing left
-- to commit, a shard nothing to write back, and the filter nothing to save.
pub record EndsParts {D : Type 0} (score : List ℕ → List ℕ) (disk : DiskOf D)
    (result : Result (Unit {0}) Why) (old new : CoreState D) : Type 0 where
  pub events : List Event
  pub outs : List Out
  pub own : All IsOwnWork events
  pub runs : Runs score disk events outs old new
  pub log : ¬ EventHasFailed LogAdvance events outs → new.log.durable ≡ history_len new
  pub shards : (i : ℕ) (s : ShardState D) → slice_get new.shards i ≡ Some s
      → ¬ EventHasFailed (FileAdvance i) events outs → IsShardFiled new.log.durable s
  pub filter : (b : BloomState D) → new.bloom ≡ Some b
      → ¬ EventHasFailed BloomAdvance events outs → IsSaved new.log.durable b
  pub tells : TellsFirst result outs

-- The log has so many blocks on its disks, and every shard and the filter are marked so, with
-- nothing under way in them: their devices have these marks.
pub record AreMarkedAt {D : Type 0} (n : ℕ) (k : CoreState D) : Type 0 where
  pub durable : k.log.durable ≡ n
  pub shards : (i : ℕ) (s : ShardState D) → slice_get k.shards i ≡ Some s
      → (s.writeback ≡ None) × (s.section.head.mark ≡ n)
  pub filter : (b : BloomState D) → k.bloom ≡ Some b → IsSaved n b

-- why a store's end fails: a count rose in it, a part had stopped before, or two values differ
abbrev pub EndsFor : {D : Type 0} → DiskOf D → Why → (old new : CoreState D) → Type 0
EndsFor disk DiskFault old new = OneRose (each_of disk.faults old) (each_of disk.faults new)
EndsFor disk (Stopped call) old new =
    (i : ℕ) × (slice_get (stops_of old) i ≡ Some (Some call))
EndsFor disk (Damaged site want found) old new = Differ want found
EndsFor disk why old new = ⊥

-- A store's use was ended.
pub record Ends {D : Type 0} (score : List ℕ → List ℕ) (disk : DiskOf D)
    (result : Result (Unit {0}) Why) (old new : CoreState D) : Type 0 where
  pub parts : EndsParts score disk result old new
  pub keeps : KeepsAll disk old new
  pub len : history_len new ≡ history_len old
  pub stops : KeepsStopped (result ≢ Ok tt) old new
  -- each failure has its cause, whatever the devices hold
  pub cause : IfErr result (λ why. EndsFor disk why old new)
  pub fell : NoneFell (each_of disk.faults old) (each_of disk.faults new)
  pub same : OnOk result (each_of disk.faults new ≡ each_of disk.faults old)
  -- on sound devices, which nothing but a call that fails keeps from a good end
  pub sound : (h : History) → IsTrue disk.tells → IsSound score disk old h
      → IsSound score disk new h
  pub undamaged : (h : History) → IsTrue disk.tells → IsSound score disk old h
      → IfErr result IsUndamagedWhy
  pub ends_well : (h : History) → IsTrue disk.tells → IsSound score disk old h
      → All (λ stop. stop ≡ None) (stops_of old)
      → ¬ OneRose (each_of disk.faults old) (each_of disk.faults new) → result ≡ Ok tt
  pub whole : (h : History) → IsTrue disk.tells → IsSound score disk old h → result ≡ Ok tt
      → AreMarkedAt (length h) new
