-- A folder that was archived stands in the store.
use Rattle.std.proofs.Common.{◌≡◌, ℕ, Option, Some, None, Result, Ok, Err, IsTrue, List, [], ◌++◌, length, map, take, refl, sym, ◌∙◌, ap, subst, arith, append-nil}
use Rattle.std.specs.Prelude.{◌+◌, ◌-◌, Bool, true, IfErr, IfOk, IfSome}
use Rattle.vt_base.specs.Protocol.{Operation}
use Rattle.vt_base.specs.declared.why.Why.{Why}
use Rattle.vt_base.specs.declared.why.Why.TheVariants as whys
use Rattle.vt_disk.specs.Members.{DiskOf}
use Rattle.vt_out.specs.declared.folder_item.Facts.{Facts}
use Rattle.vt_out.specs.FolderItems.{Items}
use Rattle.vt_model.specs.History.{Block, History, held}
use Rattle.vt_model.specs.Places.{Setup}
use Rattle.vt_tree.specs.declared.error.TreeErr.TheVariants as trees
use Rattle.vt_handler.specs.Serving.{tells_failure}
use Rattle.vt_tree.specs.declared.error.BlockErr.{BlockErr}
use Rattle.vt_tree.specs.Calls.{Call, asked_of}
use Rattle.vt_tree.specs.Maps.{BlockMap, Maps, with_blocks}
use Rattle.vt_core.specs.Core.{CoreState, devices_of, history_len, setup_of}
use Rattle.vt_core.specs.Causes.{IsUndamagedWhy}
use Rattle.vt_core.specs.Mounting.{AllStandFor}
use Rattle.vt_core.specs.Sound.{IsSound}
use Rattle.vt_requests.specs.Driven.{DrivenState}
use Rattle.vt_requests.specs.Ending.{EndsFor}
use Rattle.vt_use.specs.LocalJobs.{new_local}
use Rattle.vt_use.specs.Stores.{at_time, store_on}
use Rattle.vt_use.specs.Uses.{LeftByUse}
use Rattle.vt_blocks.specs.Local.{DoesLocal, HoldsLocal, LocalState}
use Rattle.vac_model.specs.Kept.{archived}
use Rattle.vac_model.specs.Trees.{IsTreeOf}
use Rattle.vac_write.specs.declared.archived.Archived.{Archived}
use Rattle.vac_write.specs.declared.error.VacErr.{VacErr}
use Rattle.vac_write.specs.declared.error.VacErr.TheVariants.{FolderFault, Tree, BadName, TooDeep, NoMemory}
use Rattle.vac_write.specs.Archiving.{IsUnlisted, FolderRead, KeepsArchive, PutsFor, WritesArchive, GivesUpArchive, IsGivenUpAs, refusal_of, IsSeen}
use Rattle.vac_write.specs.Tried.{Tried, whole, found}
use Rattle.vac_model.specs.Limits.{first_unfit}
use Rattle.vac_store.specs.declared.outcome.ArchiveError.{ArchiveError}
use Rattle.vac_store.specs.declared.outcome.ArchivedAt.{ArchivedAt}
use Rattle.vt_use.specs.Places.{as_ended, as_refused}
use Rattle.vac_store.proofs.Into.{ArchivesInto}
use Rattle.vac_store.specs.Storing.{IsBecause, IsRefusedFor, KeepsFolder, StandsIn, all_written, came_to, told}
use Rattle.vac_store.proofs.Written.{Holds, IsOwnRefusal, puts_so}

-- ---- why there is no archive

-- what the store said no for is told of a refusal of its, and nothing else
told_because : (score : List ℕ → List ℕ) (c : Setup) (last : History) (rest : List Block)
    (folder : FolderRead) (seen : Items Facts) (err : VacErr) (refused : Option Why)
    → IsGivenUpAs (IsUnlisted folder) err (first_unfit seen)
    → IfSome (refusal_of err) (λ e. IsOwnRefusal score c last rest refused)
    → IsBecause score c last rest folder seen (told err (as_refused refused))
told_because score c last rest folder seen FolderFault refused cause because = cause
told_because score c last rest folder seen (Tree (trees.Block err)) None cause because = absurd because
told_because score c last rest folder seen (Tree (trees.Block err)) (Some why) cause because = because
told_because score c last rest folder seen (Tree trees.SourceFault) refused cause because = cause
told_because score c last rest folder seen (Tree (trees.BadEntry bad)) refused cause because = cause
told_because score c last rest folder seen (Tree (trees.BadBlock depth len)) refused cause because = cause
told_because score c last rest folder seen (Tree trees.TooLong) refused cause because = cause
told_because score c last rest folder seen (Tree trees.NoMemory) refused cause because = cause
told_because score c last rest folder seen (BadName path) refused cause because = cause
told_because score c last rest folder seen (TooDeep path) refused cause because = cause
told_because score c last rest folder seen NoMemory refused cause because = cause

-- the end of the store's use fails for a failure
end_fails : {D : Type 0} (disk : DiskOf D) (why : Why) (kept new : CoreState D)
    → EndsFor disk why kept new → tells_failure why ≡ Bool.true
end_fails disk whys.DiskFault kept new it = refl
end_fails disk (whys.Stopped call) kept new it = refl
end_fails disk (whys.Damaged site want found) kept new it = refl
end_fails disk whys.NoMemory kept new it = absurd it
end_fails disk whys.BadType kept new it = absurd it
end_fails disk whys.TooBig kept new it = absurd it
end_fails disk whys.TooSmall kept new it = absurd it
end_fails disk whys.Absent kept new it = absurd it
end_fails disk whys.Collision kept new it = absurd it
end_fails disk whys.IndexFull kept new it = absurd it
end_fails disk whys.ArenasFull kept new it = absurd it

-- nothing is left to be asked for
abbrev all_asked : Type 0
all_asked = ◌≡◌ {A = List Operation} [] []

all_put : (put rest blocks : List Block) → put ++ rest ≡ blocks → rest ≡ [] → put ≡ blocks
all_put put rest blocks are none =
    sym (append-nil put) ∙ ap (λ (l : List Block). put ++ l) (sym none) ∙ are

module _ {D : Type 0} (score : List ℕ → List ℕ) (disk : DiskOf D)
    (now bsize : ℕ) (folder : FolderRead) (h : History) (old new : CoreState D)
    (tells : IsTrue disk.tells) (sound : IsSound score disk old h) where
  abbrev Does : LocalState (DrivenState D) → Call → LocalState (DrivenState D) → Type 0
  Does = DoesLocal (store_on score disk)

  abbrev Has : LocalState (DrivenState D) → Maps → Type 0
  Has = HoldsLocal (store_on score disk) score

  -- the store as a store of blocks, before its first call, and what it holds then
  abbrev start : LocalState (DrivenState D)
  start = new_local (at_time now old)

  before : Maps
  before = record { held = held score h; synced = held score (take old.log.durable h) }

  holds_before : Has start before
  unfolding before
  holds_before = record {
    scores = λ bytes. refl;
    alone = refl;
    history = h;
    holds_it = (tells, sound);
    legal = sound.legal;
    held = λ s kind. refl;
    number = old.log.durable;
    is_durable = omega arith;
    synced = λ s kind. refl;
  }

  module _ (result : Result ArchivedAt ArchiveError)
      (it : ArchivesInto score disk now bsize folder result old new)
      (leave : (last : History) → IsSound score disk it.kept.store.core last
      → LeftByUse score disk true it.closed last old it.kept.store.core new) where
    module _ (tried : Tried) (all : List Block) (none_left : Type 0) (err : Option BlockErr)
        (so : Holds score disk tells all none_left err h start it.kept) where
      abbrev last : History
      last = all_written score (setup_of old) h so.put

      leaves : LeftByUse score disk true it.closed last old it.kept.store.core new
      leaves = leave last so.sound

      abbrev Stored : ArchivedAt → Type 0
      Stored s = (so.rest ≡ []) × StandsIn score bsize tried last s.archived
          × (length last ≡ length h + s.blocks)
          × AllStandFor score disk (setup_of old) old.log.tables (devices_of new) last
          (length last)

      -- how many blocks are new
      grown : length last ≡ length h + (history_len new - history_len old)
      grown = omega (arith, sound.log.front, leaves.sound.log.front, leaves.keeps.store.len)

      keeps_so : (is : IsSeen folder tried) → PutsFor score bsize tried all
          → IfErr result (IsBecause score (setup_of old) last so.rest folder (found tried))
          → IfOk result Stored
          → KeepsFolder score disk bsize folder result h old new
      keeps_so is puts because done = record {
        tried = tried;
        is = is;
        all = all;
        puts = puts;
        put = so.put;
        rest = so.rest;
        blocks = so.are;
        last = last;
        last_is = refl;
        sound = leaves.sound;
        keeps = leaves.keeps;
        stands = leaves.stands;
        because = because;
        done = done;
      }

    -- it was archived
    module _ (a : Archived)
        (w : WritesArchive Does Has score start it.kept bsize folder a) where
      abbrev blocks : List Block
      blocks = w.all

      so : Holds score disk tells blocks all_asked None h start it.kept
      so = puts_so score disk tells None [] blocks w.calls h start it.kept sound refl w.made w.accepted
          (append-nil (map asked_of w.calls) ∙ w.asked)

      abbrev added : ℕ
      added = history_len new - history_len old

      abbrev behind : History
      behind = all_written score (setup_of old) h so.put

      kept : KeepsArchive Has score it.kept before bsize w.all (found w.tried)
      kept = w.keeps before holds_before

      same_map : (s : List ℕ) (kind : ℕ) → kept.maps.held s kind ≡ held score behind s kind
      unfolding before
      same_map s kind =
          ap (λ (m : BlockMap). m s kind) kept.held
          ∙ ap (λ (bs : List Block). with_blocks score bs (held score h) s kind)
          (sym (all_put so.put so.rest blocks so.are (so.whole refl)))
          ∙ sym (so.map s kind)

      tree : IsTreeOf (held score behind) a.score.0 (archived (found w.tried))
      tree = subst (λ (m : BlockMap). IsTreeOf m a.score.0 (archived (found w.tried)))
          (λ i s kind. same_map s kind i)
          (subst (λ (s : List ℕ). IsTreeOf kept.maps.held s (archived (found w.tried)))
          (sym w.score) kept.tree)

      -- nothing is left but the end of the store's use
      because : (closed : Result (Unit {0}) Why) → it.closed ≡ closed
          → IfErr (came_to (Ok a) (as_refused it.kept.refused) added (as_ended closed))
          (IsBecause score (setup_of old) behind so.rest folder (found w.tried))
      because (Ok end) is = tt
      because (Err why) is = subst (λ (bs : List Block). IsRefusedFor score (setup_of old) behind bs
          why) (sym (so.whole refl)) (
            end_fails disk why it.kept.store.core new
                (subst (λ (r : Result (Unit {0}) Why). IfErr r (λ w. EndsFor disk w
                it.kept.store.core new)) is it.asks.ends.cause),
            subst (λ (r : Result (Unit {0}) Why). IfErr r IsUndamagedWhy) is
                (it.asks.ends.undamaged behind tells so.sound),
          )

      done : (closed : Result (Unit {0}) Why) → it.closed ≡ closed
          → IfOk (came_to (Ok a) (as_refused it.kept.refused) added (as_ended closed))
          (Stored w.tried w.all all_asked None so)
      done (Err why) well = tt
      done (Ok end) well = (
        so.whole refl,
        record {
          fit = w.fit;
          score_is = w.score;
          left_out = w.left_out;
          failed = w.failed;
          tree = tree;
        },
        grown w.tried w.all all_asked None so,
        ((leaves w.tried w.all all_asked None so).done refl well).1,
      )

      wrote_so : result ≡ came_to (Ok a) (as_refused it.kept.refused) added (as_ended it.closed)
          → KeepsFolder score disk bsize folder result h old new
      wrote_so is = keeps_so w.tried w.all all_asked None so w.is w.puts
          (subst (λ (r : Result ArchivedAt ArchiveError). IfErr r
          (IsBecause score (setup_of old) behind so.rest folder (found w.tried))) (sym is)
          (because it.closed refl))
          (subst (λ (r : Result ArchivedAt ArchiveError). IfOk r
          (Stored w.tried w.all all_asked None so)) (sym is) (done it.closed refl))

    -- it was given up
    gave_so : (err : VacErr)
        → GivesUpArchive Does Has score start it.kept bsize folder err
        → result ≡ Err (told err (as_refused it.kept.refused))
        → KeepsFolder score disk bsize folder result h old new
    gave_so err gave is = keeps_so gave.tried gave.all (gave.rest ≡ []) (refusal_of err) so gave.is
        gave.puts
        (subst (λ (r : Result ArchivedAt ArchiveError). IfErr r (IsBecause score (setup_of old)
        (all_written score (setup_of old) h so.put) so.rest folder (found gave.tried))) (sym is)
        (told_because score (setup_of old) (all_written score (setup_of old) h so.put) so.rest
        folder (found gave.tried) err it.kept.refused gave.cause so.because))
        (subst (λ (r : Result ArchivedAt ArchiveError). IfOk r
        (Stored gave.tried gave.all (gave.rest ≡ []) (refusal_of err) so)) (sym is) tt)
      where
        so : Holds score disk tells gave.all (gave.rest ≡ []) (refusal_of err) h start it.kept
        so = puts_so score disk tells (refusal_of err) gave.rest gave.all gave.calls h start it.kept
            sound refl gave.made gave.refused gave.asked

    pub keeps_folder : KeepsFolder score disk bsize folder result h old new
    keeps_folder = of it.answer it.archives it.gives_up it.result_is
      where
        of : (answer : Result Archived VacErr)
            → IfOk answer (WritesArchive Does Has score start it.kept bsize folder)
            → IfErr answer (GivesUpArchive Does Has score start it.kept bsize folder)
            → result ≡ came_to answer (as_refused it.kept.refused)
            (history_len new - history_len old) (as_ended it.closed)
            → KeepsFolder score disk bsize folder result h old new
        of (Ok a) w gave is = wrote_so a w is
        of (Err err) w gave is = gave_so err gave is
