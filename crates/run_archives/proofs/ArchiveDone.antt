-- A folder that was archived, and is back.
use Rattle.std.proofs.Common.{◌≡◌, ◌≢◌, ℕ, ◌+◌, ◌-◌, ◌<◌, ◌^◌, Bool, List, Result, subst, arith}
use Rattle.std.specs.Prelude.{IsTrue, min}
use Rattle.vt_disk.specs.Members.{DiskOf}
use Rattle.vt_out.specs.declared.folder_item.Facts.{Facts}
use Rattle.vt_out.specs.FolderItems.{FailingPaths, Items}
use Rattle.vt_out.specs.FolderStanding.{Standing, lent, there}
use Rattle.vac_write.specs.Archiving.{FolderRead, HasRisenBy}
use Rattle.vac_store.specs.declared.outcome.ArchiveError.{ArchiveError}
use Rattle.vac_store.specs.declared.outcome.ArchivedAt.{ArchivedAt}
use Rattle.vt_use.specs.declared.used_at.StoreAt.{StoreAt}
use Rattle.vac_store.specs.Storing.{CountsFailuresAt}
use Rattle.run_base.specs.Change.{DialerChange, PartsChange}
use Rattle.run_base.specs.Members.{LinkOf}
use Rattle.run_archives.specs.Vac.{ArchivesAt, StoresFolder}
use Rattle.run_archives.proofs.FoldersBack.{back_again, counts_back}

-- a folder that was handed out, archived, and is back
module _ {P D N L : Type 0} (score : List ℕ → List ℕ) (disk : DiskOf D) (link : LinkOf L)
    (name : List ℕ) (at : StoreAt) (bsize now : ℕ) (parts : PartsChange P D)
    (dialer : DialerChange N L) (tells told : Bool) (held left : Items Facts)
    (failing behind : FailingPaths) (old mid new : List ℕ → Standing) where
  -- the folder, of which so many calls had failed before and behind
  abbrev seen : (own own' : ℕ) → FolderRead
  seen own own' = record {
    tells = tells;
    held = held;
    failing = failing;
    faults = own;
    faults' = own';
  }

  pub stores_folder : (told_as result : Result ArchivedAt ArchiveError) → told_as ≡ result
      → (before between after own own' : ℕ)
      → (IsTrue told → IsTrue tells × (old name ≡ there held failing))
      → (IsTrue told → mid name ≡ lent)
      → (IsTrue told → (other : List ℕ) → other ≢ name → mid other ≡ old other)
      → (IsTrue told → mid name ≡ lent → new name ≡ there left behind)
      → (IsTrue told → (other : List ℕ) → other ≢ name → new other ≡ mid other)
      → (IsTrue tells → left ≡ held) → (IsTrue tells → behind ≡ failing)
      → ArchivesAt score disk link at now bsize (seen own own') told_as parts dialer
      → own ≡ 0 → CountsFailuresAt told_as own own' → between ≡ before
      → after ≡ min (between + own') (2 ^ 64 - 1) → between < 2 ^ 64
      → StoresFolder score disk link now name at bsize result (record {
        tells = told;
        old = old;
        new = new;
        faults = before;
        faults' = after;
      }) parts dialer
  stores_folder told_as result is before between after own own' out away apart back apart' stays
      paths archives fresh counts same sum fits =
      let risen : HasRisenBy own' before after = omega (arith, same, sum) in
      record {
        folder = seen own own';
        handed_out = out;
        fresh = fresh;
        back = λ t. back_again old mid new name held left failing behind (out t).1 (away t) (back t)
            (stays (out t).0) (paths (out t).0) (apart t) (apart' t);
        rose = risen;
        archives = subst (λ r. ArchivesAt score disk link at now bsize (seen own own') r parts
            dialer) is archives;
        counted = subst (λ r. CountsFailuresAt r before after) is
            (subst (λ (n : ℕ). CountsFailuresAt told_as n after) same
            (counts_back told_as own own' between after fresh counts sum fits));
      }
