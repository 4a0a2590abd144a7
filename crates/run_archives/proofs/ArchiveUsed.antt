-- What a use of a store by the job that archives tells of the folder.
use Rattle.std.proofs.Common.{◌≡◌, ℕ, ◌<◌, ◌^◌, Bool, true, List, Result, Ok, Err, ap, arith}
use Rattle.std.specs.Prelude.{IfOk, IsTrue, OnErr}
use Rattle.vt_disk.specs.Members.{DiskOf}
use Rattle.vt_out.specs.declared.folder_item.Facts.{Facts}
use Rattle.vt_out.specs.FolderItems.{FailingPaths, Items}
use Rattle.vt_use.specs.Change.{DialerChange, PartsChange}
use Rattle.vt_use.specs.Members.{LinkOf}
use Rattle.vt_use.specs.Places.{Doing, UsesAt}
use Rattle.vt_use.specs.declared.used_at.StoreAt.{StoreAt}
use Rattle.vt_use.specs.declared.used_at.StoreError.{StoreError}
use Rattle.vt_use.specs.declared.used_at.UsedAt.{UsedAt}
use Rattle.vt_use.proofs.Narrower.{told_beside, uses_less}
use Rattle.vac_write.specs.declared.archived.Archived.{Archived}
use Rattle.vac_write.specs.declared.error.VacErr.{VacErr}
use Rattle.vac_write.specs.Archiving.{CountsFailures, FolderRead}
use Rattle.vac_store.specs.Storing.{ArchivesOrGivesUp, CountsFailuresAt, archived_at}
use Rattle.vac_store.proofs.Into.{came_failures}

module _ {P D N L W : Type 0} (score : List ℕ → List ℕ) (disk : DiskOf D) (link : LinkOf L)
    (at : StoreAt) (now bsize : ℕ) (parts : PartsChange P D) (dialer : DialerChange N L)
    (before after : W) (tells : Bool) (held : W → Items Facts) (failing : W → FailingPaths)
    (faults : W → ℕ) where
  -- the folder, as it was read
  abbrev seen : FolderRead
  seen = record {
    tells = tells;
    held = held before;
    failing = failing before;
    faults = faults before;
    faults' = faults after;
  }

  -- it stays, where that is told, and its count tells of its failed calls
  abbrev Stays : Result Archived VacErr → Type 0
  Stays answer = CountsFailures answer (faults before) (faults after)
      × (IsTrue tells → (held after ≡ held before) × (failing after ≡ failing before))

  abbrev Archives : Result Archived VacErr → Doing
  Archives answer = λ S act holds calls from to.
      ArchivesOrGivesUp act holds score bsize seen answer calls from to

  abbrev Job : Result Archived VacErr → Doing
  Job answer = λ S act holds calls from to.
      ArchivesOrGivesUp act holds score bsize seen answer calls from to
      × CountsFailures answer (faults before) (faults after)
      × (IsTrue tells → (held after ≡ held before) × (failing after ≡ failing before))

  module _ (used : Result (UsedAt (Result Archived VacErr)) StoreError)
      (x : UsesAt score disk link at now true Job used parts dialer) where
    pub archives_so : UsesAt score disk link at now true Archives used parts dialer
    archives_so = uses_less score disk link now true parts dialer at Job Archives
        (λ answer S act holds calls from to does. does.0) used x

    beside : IfOk used (λ u. Stays u.output)
    beside = told_beside score disk link now true parts dialer at Job Stays
        (λ answer S act holds calls from to does. (does.1, does.2)) used x

    pub counts_so : OnErr used (after ≡ before) → faults before < 2 ^ 64
        → CountsFailuresAt (archived_at used) (faults before) (faults after)
    counts_so same fits = of used beside same
      where
        of : (used : Result (UsedAt (Result Archived VacErr)) StoreError)
            → IfOk used (λ u. Stays u.output) → OnErr used (after ≡ before)
            → CountsFailuresAt (archived_at used) (faults before) (faults after)
        of (Ok u) told same = came_failures (faults before) (faults after) u.output u.refusal
            u.blocks u.closed told.0
        of (Err bad) told same = (0, omega (arith, fits, ap faults same))

    pub stays_so : OnErr used (after ≡ before) → IsTrue tells
        → (held after ≡ held before) × (failing after ≡ failing before)
    stays_so same told = of used beside same
      where
        of : (used : Result (UsedAt (Result Archived VacErr)) StoreError)
            → IfOk used (λ u. Stays u.output) → OnErr used (after ≡ before)
            → (held after ≡ held before) × (failing after ≡ failing before)
        of (Ok u) it same = it.1 told
        of (Err bad) it same = (ap held same, ap failing same)
