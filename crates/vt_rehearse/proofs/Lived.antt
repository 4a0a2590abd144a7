-- A rehearsal as a life of its store.
use Rattle.std.proofs.Common.{◌≡◌, inl, ℕ, zero, suc, List, [], ◌∷◌, ◌++◌, refl, sym, subst}
use Rattle.vt_disk.specs.Members.{DiskOf}
use Rattle.vt_memdisk.specs.declared.crash.CrashMode.{CrashMode}
use Rattle.vt_core.specs.declared.event.Event.{Event}
use Rattle.vt_core.specs.declared.event.Event.TheVariants.{LogAdvance, FileBegin, FileAdvance, EvictLump, EvictIndex}
use Rattle.vt_core.specs.declared.event.Out.{Out}
use Rattle.vt_core.specs.Core.{CoreState}
use Rattle.vt_core.specs.Crashing.{Act, Lives, crashes, happens}
use Rattle.vt_core.specs.Steps.{Runs, Steps}
use Rattle.vt_rehearse.specs.declared.rounds.Round.{Round}
use Rattle.vt_rehearse.specs.declared.rounds.Round.TheVariants.{Write, Read, Sync, Commit, Begin, Advance, Evict, Crash}
use Rattle.vt_rehearse.specs.Rehearsal.{CommitsAll, LooksUpAll, MakesRound, MakesAll}
use Rattle.vt_rehearse.specs.Stage.{StageState}

module _ {D : Type 0} (score : List ℕ → List ℕ) (disk : DiskOf D) where
  abbrev pub Lived : (old new : CoreState D) → Type 0
  Lived old new = (acts : List Act) × Lives score disk acts old new

  lives_then : (acts more : List Act) (old mid new : CoreState D) → Lives score disk acts old mid → Lives score disk more mid new → Lives score disk (acts ++ more) old new
  lives_then [] more old mid new is rest = subst (λ (k : CoreState D). Lives score disk more k new) is rest
  lives_then (happens event out ∷ acts) more old mid new (next, step, lives) rest = (next, step, lives_then acts more next mid new lives rest)
  lives_then (crashes ∷ acts) more old mid new (during, next, may, recovers, lives) rest = (during, next, may, recovers, lives_then acts more next mid new lives rest)

  both : (old mid new : CoreState D) → Lived old mid → Lived mid new → Lived old new
  both old mid new (acts, first) (more, second) = (acts ++ more, lives_then acts more old mid new first second)

  one : (event : Event) (out : Out) (old new : CoreState D) → Steps score disk event out old new → Lived old new
  one event out old new step = (happens event out ∷ [], (new, step, refl))

  commits : (calls : ℕ) (old new : CoreState D) → CommitsAll score disk calls old new → Lived old new
  commits zero old new is = ([], is)
  commits (suc calls) old new (moved, less, moves, rest) = both old moved new (one _ _ old moved moves) (commits calls moved new rest)

  runs : (events : List Event) (outs : List Out) (old new : CoreState D) → Runs score disk events outs old new → Lived old new
  runs [] [] old new is = ([], is)
  runs [] (out ∷ outs) old new never = absurd never
  runs (event ∷ events) [] old new never = absurd never
  runs (event ∷ events) (out ∷ outs) old new (mid, step, rest) = both old mid new (one event out old mid step) (runs events outs mid new rest)

  module _ (Leaves : CrashMode → D → List ℕ → Type 0) where
    makes : (round : Round) (old new : StageState D) → MakesRound score disk Leaves round old new → Lived old.core new.core
    makes (Write session word) old new it = one _ _ old.core new.core it.writes.tells.steps
    makes (Read session word) old new it = one _ _ old.core new.core it.reads.tells.steps
    makes (Sync session) old new it = both old.core it.waiting new.core (one _ _ old.core it.waiting it.waits)
        (both it.waiting it.durable new.core (commits it.calls it.waiting it.durable it.commits) (one _ _ it.durable new.core it.tells))
    makes Commit old new it = runs (LogAdvance ∷ []) it.outs old.core new.core it.runs
    makes (Begin shard) old new it = runs (FileBegin shard ∷ []) it.outs old.core new.core it.runs
    makes (Advance shard) old new it = runs (FileAdvance shard ∷ []) it.outs old.core new.core it.runs
    makes (Evict shard) old new it = runs (EvictLump shard ∷ EvictIndex shard ∷ []) it.outs old.core new.core it.runs
    makes (Crash mode) old new it = (crashes ∷ [], (old.core, new.core, inl refl, it.restarts.recovers, refl))

    pub makes_all : (rounds : List Round) (old new : StageState D) → MakesAll score disk Leaves rounds old new → Lived old.core new.core
    makes_all [] old new same = ([], subst (λ (s : StageState D). s.core ≡ old.core) (sym same) refl)
    makes_all (round ∷ rounds) old new (mid, first, rest) = both old.core mid.core new.core (makes round old mid first) (makes_all rounds mid new rest)

    pub looks_up : (words : List ℕ) (old new : StageState D) → LooksUpAll score disk words old new → Lived old.core new.core
    looks_up [] old new same = ([], subst (λ (s : StageState D). s.core ≡ old.core) (sym same) refl)
    looks_up (word ∷ words) old new (mid, (is_found, look), rest) = both old.core mid.core new.core (one _ _ old.core mid.core look.reads.tells.steps) (looks_up words mid new rest)
