-- What is shown of a store is what its history has.
use Rattle.std.proofs.Common.{ℕ, Option, Result, IsTrue, List, take, refl, arith}
use Rattle.vt_base.specs.declared.why.Why.{Why}
use Rattle.vt_disk.specs.Members.{DiskOf}
use Rattle.vt_model.specs.History.{History, held}
use Rattle.vt_tree.specs.Maps.{Maps}
use Rattle.vt_core.specs.Core.{CoreState}
use Rattle.vt_core.specs.Sound.{IsSound}
use Rattle.vt_blocks.specs.Local.{DoesLocal, HoldsLocal}
use Rattle.vt_use.specs.LocalJobs.{new_local}
use Rattle.vt_use.specs.Stores.{at_time, store_on}
use Rattle.vac_read.specs.declared.error.VacBad.{VacBad}
use Rattle.nine_view.specs.declared.serving.Served.{Served}
use Rattle.vac_view.specs.Stored.{ShowsOn, ViewsByJob}
use Rattle.vac_view.specs.Viewing.{Passed}
use Rattle.vac_view.proofs.Shown.{view_shown}

module _ {D : Type 0} (score_of : List ℕ → List ℕ) (disk : DiskOf D) (tells : IsTrue disk.tells)
    (h : History) where
  -- what the store holds at first
  before : Maps
  before = record { held = held score_of h; synced = held score_of (take 0 h) }

  holds_before : (old : CoreState D) → IsSound score_of disk old h
      → HoldsLocal (store_on score_of disk) score_of (new_local (at_time 0 old)) before
  unfolding before
  holds_before old sound = record {
    scores = λ bytes. refl;
    alone = refl;
    history = h;
    holds_it = (tells, sound);
    legal = sound.legal;
    held = λ s kind. refl;
    number = 0;
    is_durable = omega arith;
    synced = λ s kind. refl;
  }

  pub shown : (score : List ℕ) (p : Passed) (result : Result Served VacBad) (said : Option Why)
      (added : ℕ) (closed : Result (Unit {0}) Why) (old new : CoreState D)
      → IsSound score_of disk old h
      → (it : ViewsByJob score_of disk score p result said added closed old new)
      → ShowsOn (held score_of h) it
  unfolding before
  shown score p result said added closed old new sound it =
      (view_shown (DoesLocal (store_on score_of disk)) (HoldsLocal (store_on score_of disk) score_of)
      score_of before score p result (new_local (at_time 0 old)) it.does.kept it.does.does.views
      (holds_before old sound)).1
