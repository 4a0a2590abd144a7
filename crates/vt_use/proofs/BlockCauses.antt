-- Why a block wasn't read or written, whatever the store's devices hold.
use Rattle.std.proofs.Common.{◌≡◌, ⊎_elim, ℕ, ◌<◌, List, [], ◌∷◌, true, false, None, Result, Ok, Err, sym, subst}
use Rattle.std.specs.List.{All, AllByRecursion}
use Rattle.std.specs.Prelude.{◌^◌, IfErr}
use Rattle.vt_base.specs.Protocol.{r_write, sync, write}
use Rattle.vt_base.specs.declared.score.Score.{Score}
use Rattle.vt_base.specs.declared.why.Why.{Why}
use Rattle.vt_disk.specs.Members.{DiskOf}
use Rattle.vt_handler.specs.Serving.{tells_failure}
use Rattle.vt_core.specs.Core.{CoreState, stops_of}
use Rattle.vt_use.specs.Causes.{FailsFor, HasItsCause}
use Rattle.vt_use.specs.OneBlock.{ArePut, asks_block}
use Rattle.vt_use.specs.Stores.{Exchange}
use Rattle.vt_use.proofs.Uses.{each_cause, end_cause}
use Rattle.vt_use.specs.Blocks.{ReadsBlock, WritesBlock, closed_behind}
use Rattle.vt_use.proofs.BlockAsks.{reads_asks, writes_asks}

module _ {D : Type 0} (score : List ℕ → List ℕ) (disk : DiskOf D)
    (fits : (device : D) → disk.faults device < 2 ^ 64) (old : CoreState D)
    (none : All (λ stop. stop ≡ None) (stops_of old)) where
  pub read_cause : (kind : ℕ) (s : List ℕ) (result : Result (List ℕ) Why) (new : CoreState D)
      → ReadsBlock score disk kind s result old new
      → IfErr result (λ why. tells_failure why ≡ true → FailsFor disk why old new)
  read_cause kind s (Ok bytes) new it = tt
  read_cause kind s (Err why) new it = (each_cause score disk 0 false (asks_block kind s (Err why))
      (Ok tt) old new new (reads_asks score disk kind s (Err why) old new it) fits none).0

  module _ (now kind : ℕ) (bytes : List ℕ) (result : Result Score Why) (new : CoreState D)
      (it : WritesBlock score disk now kind bytes result old new) where
    abbrev Caused : List Exchange → Type 0
    Caused calls = AllByRecursion (HasItsCause disk old new) calls

    each : Caused it.puts.0
    each = each_cause score disk now true it.puts.0 it.closed old it.kept new
        (writes_asks score disk now kind bytes result old new it) fits none

    put_cause : (put : Result Score Why) → ArePut kind bytes put it.puts.0
        → IfErr put (λ why. tells_failure why ≡ true → FailsFor disk why old new)
    put_cause (Ok given) are = tt
    put_cause (Err why) are = ⊎_elim
        (λ first.
        let all : Caused ((write kind bytes, Err why) ∷ []) = subst Caused first each in all.0)
        (λ behind.
        let all : Caused ((write kind bytes, Ok (r_write behind.0)) ∷ (sync, Err why) ∷ []) =
        subst Caused behind.1 each in all.1.0)
        are

    closed_cause : IfErr it.closed (λ why. FailsFor disk why old new)
    closed_cause = end_cause score disk now true it.puts.0 it.closed old it.kept new
        (writes_asks score disk now kind bytes result old new it) fits none

    either : (put : Result Score Why) (closed : Result (Unit {0}) Why)
        → IfErr put (λ why. tells_failure why ≡ true → FailsFor disk why old new)
        → IfErr closed (λ why. FailsFor disk why old new)
        → IfErr (closed_behind put closed)
        (λ why. tells_failure why ≡ true → FailsFor disk why old new)
    either (Err why) closed x y = x
    either (Ok given) (Ok done) x y = tt
    either (Ok given) (Err why) x y = λ fails. y

    pub write_cause : IfErr result (λ why. tells_failure why ≡ true → FailsFor disk why old new)
    write_cause = subst (λ (r : Result Score Why). IfErr r
        (λ why. tells_failure why ≡ true → FailsFor disk why old new)) (sym it.result_is)
        (either it.put it.closed (put_cause it.put it.puts.1) closed_cause)
