use Rattle.std.proofs.Common.{◌≡◌, ℕ, ◌+◌, ◌/◌, ◌<◌, ◌≤◌, ◌^◌, List, [], ◌∷◌, ◌++◌, length, refl, sym, ◌∙◌, ap, subst, arith, rules, append_assoc, append-nil, length-append}
use Rattle.std.specs.Vec.Iter.{into_iter_items}
use Rattle.std.proofs.lemmas.List.{nil_from_length}
use Rattle.std.proofs.lemmas.Result.{err_from_is_err_and, IfOk-weaker, on_ok_weaker, IfErr-weaker}
use Rattle.std.specs.Prelude.{MatchBool, IsTrue}
use Rattle.vt_base.specs.Faults.{HasRisen}
use Rattle.vt_out.specs.declared.folder_item.Facts.{Facts}
use Rattle.vt_out.specs.declared.folder_item.Item.{Item}
use Rattle.vt_out.specs.declared.folder_item.ItemKind.{ItemKind}
use Rattle.vt_out.specs.FolderItems.{FailingPaths, Items, listing_of}
use Rattle.vac_meta.specs.declared.record.RecordKind.TheVariants.{Folder}
use Rattle.vac_meta.specs.Records.{all_spelled, record_bytes}
use Rattle.vac_model.specs.declared.TheConstants.{MIN_BLOCK_SIZE, MAX_BLOCK_SIZE, MAX_NESTING}
use Rattle.vac_model.specs.Archives.{records_of}
use Rattle.vac_model.specs.Kept.{path_to}
use Rattle.vac_write.specs.declared.error.VacErr.{VacErr}
use Rattle.vac_write.specs.declared.error.VacErr.TheVariants.{NoMemory}
use Rattle.vac_write.specs.Archiving.{HasRisenBy, is_folder_fault}
use Rattle.vac_write.specs.Listing.{AreListed, IsNotListed, StandsAt, FitsArchivedItem, IfKept, joined_path}
use Rattle.vac_write.specs.Puts.{GivesUpBlocks, IsOfStore}
use Rattle.vac_write.specs.Tried.{LacksOnly, no_more, whole}
use Rattle.vac_write.specs.Walking.{streams_blocks, archived_from, record_for, IsHandedOn, AreItemsAt, WritesStreams, ArchivesItems, GivesUpItem, GivesUpItems}
use Rattle.vac_write.proofs.Causes.{err_both, handed_on, handed_on_all, kept_count, of_store_all, memory_goes_on, rose_once, stayed}
use Rattle.vac_write.proofs.Failing.{listed_stands, unlisted_fails}
use Rattle.vac_write.proofs.Fits.{fits_item}
use Rattle.vac_write.proofs.FoundFits.{short_found}
use Rattle.vac_write.proofs.Followed.{listing_followed}
use Rattle.vac_write.proofs.OneItem.{popped, item_not_begun, other_archived, folder_archived, folder_given_up, folder_not_listed, folder_too_deep, folder_unlisted, folder_unrecorded, folder_untold}
use Rattle.vac_write.proofs.Parts.{part_none, part_join}
use Rattle.vac_write.proofs.Tried.{failures_joined, joined, lacks_joined, whole_joined}
use Rattle.vac_write.proofs.Wholes.{are_as, are_followed}
use Rattle.vac_write.proofs.Wholly.{gave_as, gave_items_as, items_archived, items_as, items_given_up, listed_as_held, streams_given_up}
use Rattle.vac_write.proofs.archiving.Walk.+walk.Goals as goal

-- ---- a folder

pub archive_folder-returns-in_err-path_to-clause-refused : goal.archive_folder-returns-in_err-path_to-clause-refused
archive_folder-returns-in_err-path_to-clause-refused g t c =
    let does = g.B.Blocks.does in
    let score_of = g.B.Scorer.score_of in
    let tells = g.F.Folder.tells in
    let held = g.F.Folder.holds c.args.folder.now in
    let failing = g.F.Folder.may_fail c.args.folder.now in
    let f = g.F.Folder.faults c.args.folder.now in
    let have = g.met.F.Folder.holds_bytes c.args.folder.now in
    let same : HasRisenBy 0 f f = stayed f f (g.met.F.Folder.faults_fit c.args.folder.now) refl in
    let s = c.args.blocks.now in
    let old = c.args.self.now in
    let item = c.args.item in
    let p = err_from_is_err_and c.from_residual.result c.from_residual.ensures.1 in
    rw (p.1, p.2, c.in_err-path_to.ensures) (item_not_begun does score_of tells held failing have s f f old
    item NoMemory same (λ o. tt) refl)

pub archive_folder-returns-then-len-ge-MAX_NESTING-clause-refused : goal.archive_folder-returns-then-len-ge-MAX_NESTING-clause-refused
archive_folder-returns-then-len-ge-MAX_NESTING-clause-refused g t c =
    let does = g.B.Blocks.does in
    let score_of = g.B.Scorer.score_of in
    let tells = g.F.Folder.tells in
    let held = g.F.Folder.holds c.args.folder.now in
    let failing = g.F.Folder.may_fail c.args.folder.now in
    let f = g.F.Folder.faults c.args.folder.now in
    let have = g.met.F.Folder.holds_bytes c.args.folder.now in
    let same : HasRisenBy 0 f f = stayed f f (g.met.F.Folder.faults_fit c.args.folder.now) refl in
    let s = c.args.blocks.now in
    let old = c.args.self.now in
    let item = c.args.item in
    folder_too_deep does score_of tells held failing have s f f old item c.in_ok-path_to.field-0 same
    c.requires.kind (omega (arith, c.len.ensures, old.path.ok.0, c.if-len-ge-MAX_NESTING.true))
    c.in_ok-path_to.ensures

pub archive_folder-returns-in_err-enter-clause-refused : goal.archive_folder-returns-in_err-enter-clause-refused
archive_folder-returns-in_err-enter-clause-refused g t c =
    let does = g.B.Blocks.does in
    let score_of = g.B.Scorer.score_of in
    let tells = g.F.Folder.tells in
    let held = g.F.Folder.holds c.args.folder.now in
    let failing = g.F.Folder.may_fail c.args.folder.now in
    let f = g.F.Folder.faults c.args.folder.now in
    let have = g.met.F.Folder.holds_bytes c.args.folder.now in
    let same : HasRisenBy 0 f f = stayed f f (g.met.F.Folder.faults_fit c.args.folder.now) refl in
    let s = c.args.blocks.now in
    let old = c.args.self.now in
    let item = c.args.item in
    let p = err_from_is_err_and c.from_residual-in_err-enter.result
    c.from_residual-in_err-enter.ensures.1 in
    rw (p.1, p.2, c.in_err-enter.ensures.err) (item_not_begun does score_of tells held failing have s f f old
    item NoMemory same (λ o. tt) refl)

pub archive_folder-returns-in-Err-clause-archived : goal.archive_folder-returns-in-Err-clause-archived
archive_folder-returns-in-Err-clause-archived g t c =
    let does = g.B.Blocks.does in
    let score_of = g.B.Scorer.score_of in
    let tells = g.F.Folder.tells in
    let held = g.F.Folder.holds c.args.folder.now in
    let failing = g.F.Folder.may_fail c.args.folder.now in
    let f = g.F.Folder.faults c.args.folder.now in
    let fits = g.met.F.Folder.faults_fit c.args.folder.now in
    let have = g.met.F.Folder.holds_bytes c.args.folder.now in
    let s = c.args.blocks.now in
    let old = c.args.self.now in
    let item = c.args.item in
    let shallow : length old.path.items < MAX_NESTING =
    omega (arith, c.len.ensures, old.path.ok.0, c.if-len-ge-MAX_NESTING.false) in
    let entered = c.enter.new.self in
    let left = c.in_ok-enter.ensures.left in
    let f' = g.F.Folder.faults c.items_at.new.folder in
    let err = c.in-Err.err in
    let Counts : VacErr → Type 0 = λ (e : VacErr).
    MatchBool (is_folder_fault e) (HasRisen f f') (f' ≡ f) in
    let new = c.leave_out.new.self in
    let there : List (List ℕ) = old.path.items ++ item.name ∷ [] in
    let why : IsNotListed tells held failing there err =
    subst (λ (p : List (List ℕ)). IsNotListed tells held failing p err)
    (c.deref.ensures.value ∙ c.in_ok-enter.ensures.path) c.in-Err.ensures.refused in
    on_ok_weaker c.leave_out.result (λ x.
    let path : new.path.items ≡ old.path.items =
    popped entered.path.items old.path.items item.name (length entered.path.items) new.path.items
    c.in_ok-enter.ensures.path refl x.path in
    folder_unlisted does score_of tells held failing s s f f' old entered item c.requires.kind shallow
    c.in_ok-enter.ensures.path left.0 have
    (rose_once f f' (subst Counts x.fault c.in-Err.ensures.cause))
    (unlisted_fails tells held failing there err item.kind c.requires.kind why x.fault
    c.requires.stands) new c.args.streams.now
    (x.qid ∙ left.1) path (x.bsize ∙ left.0) (x.skipped ∙ left.2)
    (x.noted ∙ (λ i. left.3 i ++ path_to (joined_path (path i)) item.name ∷ [])))
    c.leave_out.ensures.noted

pub archive_folder-returns-in-Err-clause-refused : goal.archive_folder-returns-in-Err-clause-refused
archive_folder-returns-in-Err-clause-refused g t c =
    let does = g.B.Blocks.does in
    let score_of = g.B.Scorer.score_of in
    let tells = g.F.Folder.tells in
    let held = g.F.Folder.holds c.args.folder.now in
    let failing = g.F.Folder.may_fail c.args.folder.now in
    let f = g.F.Folder.faults c.args.folder.now in
    let fits = g.met.F.Folder.faults_fit c.args.folder.now in
    let have = g.met.F.Folder.holds_bytes c.args.folder.now in
    let s = c.args.blocks.now in
    let old = c.args.self.now in
    let item = c.args.item in
    let shallow : length old.path.items < MAX_NESTING =
    omega (arith, c.len.ensures, old.path.ok.0, c.if-len-ge-MAX_NESTING.false) in
    let entered = c.enter.new.self in
    let left = c.in_ok-enter.ensures.left in
    let f' = g.F.Folder.faults c.items_at.new.folder in
    let err = c.in-Err.err in
    let Counts : VacErr → Type 0 = λ (e : VacErr).
    MatchBool (is_folder_fault e) (HasRisen f f') (f' ≡ f) in
    let GaveUp : VacErr → Type 0 = λ (e : VacErr).
    GivesUpItem does score_of s s tells held failing f f' old item e in
    let there : List (List ℕ) = old.path.items ++ item.name ∷ [] in
    let why : IsNotListed tells held failing there err =
    subst (λ (p : List (List ℕ)). IsNotListed tells held failing p err)
    (c.deref.ensures.value ∙ c.in_ok-enter.ensures.path) c.in-Err.ensures.refused in
    IfErr-weaker c.leave_out.result (IsHandedOn err) GaveUp
    (λ answer is. handed_on err answer GaveUp is
    (λ fault. folder_untold does score_of tells held failing s s f f' old entered item c.requires.kind shallow
    c.in_ok-enter.ensures.path left.0 have
    (rose_once f f' (subst Counts fault c.in-Err.ensures.cause))
    (unlisted_fails tells held failing there err item.kind c.requires.kind why fault
    c.requires.stands) NoMemory (λ o. tt) refl)
    (λ goes_on. folder_not_listed does score_of tells held failing s s f f' old entered item c.requires.kind
    shallow c.in_ok-enter.ensures.path left.0 have
    (stayed f f' fits (kept_count err f f' goes_on c.in-Err.ensures.cause)) err
    (subst (λ (p : List (List ℕ)). IsNotListed tells held failing p err) c.deref.ensures.value
    c.in-Err.ensures.refused)))
    c.leave_out.ensures.err

pub archive_folder-returns-in-Err-clause-goes_on : goal.archive_folder-returns-in-Err-clause-goes_on
archive_folder-returns-in-Err-clause-goes_on g t c =
    handed_on_all c.leave_out.result c.in-Err.err c.leave_out.ensures.err

pub archive_folder-returns-in_err-qid-clause-refused : goal.archive_folder-returns-in_err-qid-clause-refused
archive_folder-returns-in_err-qid-clause-refused g t c =
    let does = g.B.Blocks.does in
    let score_of = g.B.Scorer.score_of in
    let tells = g.F.Folder.tells in
    let held = g.F.Folder.holds c.args.folder.now in
    let failing = g.F.Folder.may_fail c.args.folder.now in
    let f = g.F.Folder.faults c.args.folder.now in
    let have = g.met.F.Folder.holds_bytes c.args.folder.now in
    let same : HasRisenBy 0 f f = stayed f f (g.met.F.Folder.faults_fit c.args.folder.now) refl in
    let s = c.args.blocks.now in
    let old = c.args.self.now in
    let item = c.args.item in
    let shallow : length old.path.items < MAX_NESTING =
    omega (arith, c.len.ensures, old.path.ok.0, c.if-len-ge-MAX_NESTING.false) in
    let entered = c.enter.new.self in
    let left = c.in_ok-enter.ensures.left in
    let f' = g.F.Folder.faults c.items_at.new.folder in
    let p = err_from_is_err_and c.from_residual-in_err-qid.result
    c.from_residual-in_err-qid.ensures.1 in
    rw (p.1, p.2, c.in_err-qid.ensures.err) (item_not_begun does score_of tells held failing have s f f' old
    item NoMemory (stayed f f' (g.met.F.Folder.faults_fit c.args.folder.now) c.in-Ok.ensures.cause)
    (λ o. tt) refl)

pub archive_folder-returns-in_err-inside-clause-refused : goal.archive_folder-returns-in_err-inside-clause-refused
archive_folder-returns-in_err-inside-clause-refused g t c =
    let does = g.B.Blocks.does in
    let score_of = g.B.Scorer.score_of in
    let tells = g.F.Folder.tells in
    let held = g.F.Folder.holds c.args.folder.now in
    let failing = g.F.Folder.may_fail c.args.folder.now in
    let f = g.F.Folder.faults c.args.folder.now in
    let have = g.met.F.Folder.holds_bytes c.args.folder.now in
    let same : HasRisenBy 0 f f = stayed f f (g.met.F.Folder.faults_fit c.args.folder.now) refl in
    let s = c.args.blocks.now in
    let old = c.args.self.now in
    let item = c.args.item in
    let shallow : length old.path.items < MAX_NESTING =
    omega (arith, c.len.ensures, old.path.ok.0, c.if-len-ge-MAX_NESTING.false) in
    let left = c.in_ok-enter.ensures.left in
    let held' = g.F.Folder.holds c.items_at.new.folder in
    let failing' = g.F.Folder.may_fail c.items_at.new.folder in
    let mid = g.F.Folder.faults c.items_at.new.folder in
    let f' = g.F.Folder.faults c.archive_items.new.folder in
    let s' = c.archive_items.new.blocks in
    let half = c.number.new.self in
    let deeper : half.path.items ≡ old.path.items ++ item.name ∷ [] =
    c.number.ensures.path ∙ c.in_ok-enter.ensures.path in
    let bsize : half.bsize ≡ old.bsize = c.number.ensures.bsize ∙ left.0 in
    let next : half.qid ≡ old.qid + 1 =
    omega (arith, c.in_ok-qid.ensures.qid.0, c.in_ok-qid.ensures.qid.1, left.1) in
    let err = c.in_err-inside.field-0.0 in
    let p = err_from_is_err_and c.from_residual-in_err-inside.result
    c.from_residual-in_err-inside.ensures.1 in
    rw (p.1, p.2) (folder_given_up does score_of tells held failing s s' f f' old half item c.requires.kind
    shallow deeper bsize next err (gave_items_as does score_of s s' tells held' held failing' failing f mid f' half
    c.in-Ok.ensures.stays c.in-Ok.ensures.paths c.in-Ok.ensures.cause err c.in_err-inside.ensures.refused))

pub archive_folder-returns-clause-archived : goal.archive_folder-returns-clause-archived
archive_folder-returns-clause-archived g t c =
    let does = g.B.Blocks.does in
    let score_of = g.B.Scorer.score_of in
    let tells = g.F.Folder.tells in
    let held = g.F.Folder.holds c.args.folder.now in
    let failing = g.F.Folder.may_fail c.args.folder.now in
    let f = g.F.Folder.faults c.args.folder.now in
    let have = g.met.F.Folder.holds_bytes c.args.folder.now in
    let same : HasRisenBy 0 f f = stayed f f (g.met.F.Folder.faults_fit c.args.folder.now) refl in
    let s = c.args.blocks.now in
    let old = c.args.self.now in
    let item = c.args.item in
    let shallow : length old.path.items < MAX_NESTING =
    omega (arith, c.len.ensures, old.path.ok.0, c.if-len-ge-MAX_NESTING.false) in
    let left = c.in_ok-enter.ensures.left in
    let held' = g.F.Folder.holds c.items_at.new.folder in
    let failing' = g.F.Folder.may_fail c.items_at.new.folder in
    let mid = g.F.Folder.faults c.items_at.new.folder in
    let f' = g.F.Folder.faults c.archive_items.new.folder in
    let s' = c.archive_items.new.blocks in
    let half = c.number.new.self in
    let deeper : half.path.items ≡ old.path.items ++ item.name ∷ [] =
    c.number.ensures.path ∙ c.in_ok-enter.ensures.path in
    let bsize : half.bsize ≡ old.bsize = c.number.ensures.bsize ∙ left.0 in
    let next : half.qid ≡ old.qid + 1 =
    omega (arith, c.in_ok-qid.ensures.qid.0, c.in_ok-qid.ensures.qid.1, left.1) in
    let inside = c.archive_items.new.self in
    let e = c.in_ok-inside.inside in
    let a = items_as does score_of s s' tells held' held failing' failing f mid f' half c.in-Ok.ensures.stays
    c.in-Ok.ensures.paths
    c.in-Ok.ensures.cause inside e c.in_ok-inside.ensures.archived in
    let from = c.args.streams.now in
    let new = c.add_folder.new.self in
    on_ok_weaker c.add_folder.result (λ x. folder_archived does score_of tells held failing s s' f f' old half
    item c.requires.kind shallow deeper bsize next inside e a new from c.add_folder.new.streams
    c.in_ok-inside.ensures.allowed.0 c.in_ok-inside.ensures.allowed.1 x.time x.qid
    (popped inside.path.items old.path.items item.name (length inside.path.items) new.path.items
    (a.path ∙ deeper) refl x.path) x.bsize x.skipped x.failed (c.number.ensures.skipped ∙ left.2)
    (c.number.ensures.failed ∙ left.3) x.entries
    (x.metadata ∙ ap (λ (q : ℕ). from.metadata.items ++ record_bytes
    (record_for item Folder (length from.entries.items / 40) q))
    (c.in_ok-qid.ensures.qid.0 ∙ left.1))) c.add_folder.ensures.added

pub archive_folder-returns-clause-refused : goal.archive_folder-returns-clause-refused
archive_folder-returns-clause-refused g t c =
    let does = g.B.Blocks.does in
    let score_of = g.B.Scorer.score_of in
    let tells = g.F.Folder.tells in
    let held = g.F.Folder.holds c.args.folder.now in
    let failing = g.F.Folder.may_fail c.args.folder.now in
    let f = g.F.Folder.faults c.args.folder.now in
    let have = g.met.F.Folder.holds_bytes c.args.folder.now in
    let same : HasRisenBy 0 f f = stayed f f (g.met.F.Folder.faults_fit c.args.folder.now) refl in
    let s = c.args.blocks.now in
    let old = c.args.self.now in
    let item = c.args.item in
    let shallow : length old.path.items < MAX_NESTING =
    omega (arith, c.len.ensures, old.path.ok.0, c.if-len-ge-MAX_NESTING.false) in
    let left = c.in_ok-enter.ensures.left in
    let held' = g.F.Folder.holds c.items_at.new.folder in
    let failing' = g.F.Folder.may_fail c.items_at.new.folder in
    let mid = g.F.Folder.faults c.items_at.new.folder in
    let f' = g.F.Folder.faults c.archive_items.new.folder in
    let s' = c.archive_items.new.blocks in
    let half = c.number.new.self in
    let deeper : half.path.items ≡ old.path.items ++ item.name ∷ [] =
    c.number.ensures.path ∙ c.in_ok-enter.ensures.path in
    let bsize : half.bsize ≡ old.bsize = c.number.ensures.bsize ∙ left.0 in
    let next : half.qid ≡ old.qid + 1 =
    omega (arith, c.in_ok-qid.ensures.qid.0, c.in_ok-qid.ensures.qid.1, left.1) in
    let inside = c.archive_items.new.self in
    let e = c.in_ok-inside.inside in
    let a = items_as does score_of s s' tells held' held failing' failing f mid f' half c.in-Ok.ensures.stays
    c.in-Ok.ensures.paths
    c.in-Ok.ensures.cause inside e c.in_ok-inside.ensures.archived in
    IfErr-weaker c.add_folder.result (λ (err : VacErr). err ≡ NoMemory)
    (GivesUpItem does score_of s s' tells held failing f f' old item)
    (λ err is. subst (GivesUpItem does score_of s s' tells held failing f f' old item) (sym is)
    (folder_unrecorded does score_of tells held failing s s' f f' old half item c.requires.kind shallow deeper
    bsize next inside e a NoMemory (λ o. tt) refl)) c.add_folder.ensures.err

pub archive_folder-returns-clause-goes_on : goal.archive_folder-returns-clause-goes_on
archive_folder-returns-clause-goes_on g t c =
    memory_goes_on c.add_folder.result c.add_folder.ensures.err

pub archive_folder-archive_items-requires : goal.archive_folder-archive_items-requires
archive_folder-archive_items-requires g t c =
    let tells = g.F.Folder.tells in
    let held = g.F.Folder.holds c.args.folder.now in
    let failing = g.F.Folder.may_fail c.args.folder.now in
    let held' = g.F.Folder.holds c.items_at.new.folder in
    let failing' = g.F.Folder.may_fail c.items_at.new.folder in
    let old = c.args.self.now in
    let half = c.number.new.self in
    let name = c.args.item.name in
    let left = c.in_ok-enter.ensures.left in
    let shallow : length old.path.items < MAX_NESTING =
    omega (arith, c.len.ensures, old.path.ok.0, c.if-len-ge-MAX_NESTING.false) in
    let deeper : half.path.items ≡ old.path.items ++ name ∷ [] =
    c.number.ensures.path ∙ c.in_ok-enter.ensures.path in
    let depth : length half.path.items ≡ length old.path.items + 1 =
    ap length deeper ∙ length-append old.path.items (name ∷ []) in
    let least : MIN_BLOCK_SIZE ≤ half.bsize =
    omega (arith, c.number.ensures.bsize, left.0, c.requires.least) in
    let most : half.bsize ≤ MAX_BLOCK_SIZE =
    omega (arith, c.number.ensures.bsize, left.0, c.requires.most) in
    let deep : length half.path.items ≤ MAX_NESTING = omega (arith, depth, shallow) in
    let path : half.path.items ≡ c.deref.result.now =
    c.number.ensures.path ∙ sym c.deref.ensures.value in
    let listed : AreListed tells held' half.path.items c.in-Ok.items.items =
    subst (λ (p : List (List ℕ)). AreListed tells held' p c.in-Ok.items.items) (sym path)
    (listed_as_held tells held' held c.deref.result.now c.in-Ok.items.items c.in-Ok.ensures.stays
    c.in-Ok.ensures.listed) in
    search rules

-- ---- an item

pub archive_item-archive_file-requires-clause-fits : goal.archive_item-archive_file-requires-clause-fits
archive_item-archive_file-requires-clause-fits g t c =
    subst (λ (k : ItemKind). IfKept k (FitsArchivedItem c.args.item)) c.in-File.is c.requires.fits

pub archive_item-returns-in-Other-clause-archived : goal.archive_item-returns-in-Other-clause-archived
archive_item-returns-in-Other-clause-archived g t c =
    let does = g.B.Blocks.does in
    let score_of = g.B.Scorer.score_of in
    let tells = g.F.Folder.tells in
    let held = g.F.Folder.holds c.args.folder.now in
    let failing = g.F.Folder.may_fail c.args.folder.now in
    let f = g.F.Folder.faults c.args.folder.now in
    let have = g.met.F.Folder.holds_bytes c.args.folder.now in
    let same : HasRisenBy 0 f f = stayed f f (g.met.F.Folder.faults_fit c.args.folder.now) refl in
    let s = c.args.blocks.now in
    let old = c.args.self.now in
    let item = c.args.item in
    on_ok_weaker c.skip.result (λ noted. other_archived does score_of tells held failing s f f old
    c.skip.new.self c.args.streams.now item c.in-Other.is same c.skip.ensures.qid c.skip.ensures.path
    c.skip.ensures.bsize c.skip.ensures.failed noted) c.skip.ensures.noted

pub archive_item-returns-in-Other-clause-refused : goal.archive_item-returns-in-Other-clause-refused
archive_item-returns-in-Other-clause-refused g t c =
    let does = g.B.Blocks.does in
    let score_of = g.B.Scorer.score_of in
    let tells = g.F.Folder.tells in
    let held = g.F.Folder.holds c.args.folder.now in
    let failing = g.F.Folder.may_fail c.args.folder.now in
    let f = g.F.Folder.faults c.args.folder.now in
    let have = g.met.F.Folder.holds_bytes c.args.folder.now in
    let same : HasRisenBy 0 f f = stayed f f (g.met.F.Folder.faults_fit c.args.folder.now) refl in
    let s = c.args.blocks.now in
    let old = c.args.self.now in
    let item = c.args.item in
    IfErr-weaker c.skip.result (λ (err : VacErr). err ≡ NoMemory)
    (GivesUpItem does score_of s s tells held failing f f old item)
    (λ err is. subst (GivesUpItem does score_of s s tells held failing f f old item) (sym is)
    (item_not_begun does score_of tells held failing have s f f old item NoMemory same (λ o. tt) refl))
    c.skip.ensures.err

pub archive_item-returns-in-Other-clause-goes_on : goal.archive_item-returns-in-Other-clause-goes_on
archive_item-returns-in-Other-clause-goes_on g t c =
    memory_goes_on c.skip.result c.skip.ensures.err

-- ---- the items of a folder

none_left : (n : ℕ) (left : List Item) → n ≡ length left → n ≡ 0 → left ≡ []
none_left n left len zero = nil_from_length left (omega arith)

pub archive_items-loop-item-init : goal.archive_items-loop-item-init
archive_items-loop-item-init g t c =
    let old = c.args.self.now in record {
      items = c.args.items.items;
      listed = c.requires.listed;
      done = no_more;
      left = sym c.into_iter-item-iterator.ensures.into_iter_gives.0;
      len = search rules;
      are = tt;
      lacks = λ told. tt;
      archived = part_none g.B.Blocks.does g.B.Scorer.score_of c.args.blocks.now old
          c.new-streams.result;
      no_entries = c.new-streams.ensures.entries;
      no_metadata = c.new-streams.ensures.metadata;
      stays = λ told. refl;
      paths = λ told. refl;
      counted = stayed (g.F.Folder.faults c.args.folder.now) (g.F.Folder.faults c.args.folder.now)
          (g.met.F.Folder.faults_fit c.args.folder.now) refl;
    }

pub archive_items-loop-item-preserved : goal.archive_items-loop-item-preserved
archive_items-loop-item-preserved g t c =
    let so = c.loop-item.invariant in
    let does = g.B.Blocks.does in
    let score_of = g.B.Scorer.score_of in
    let tells = g.F.Folder.tells in
    let old = c.args.self.now in
    let held = g.F.Folder.holds c.args.folder.now in
    let failing = g.F.Folder.may_fail c.args.folder.now in
    let f = g.F.Folder.faults c.args.folder.now in
    let item = c.in-Some.item in
    let tail = into_iter_items c.next.new.self in
    let step : into_iter_items c.loop-item.item-iterator ≡ item ∷ tail =
    c.in-Some.ensures.steps.0 in
    let one = c.in_ok-archive_item.ensures.archived in
    let whole_is = whole_joined so.done one.part in
    let are = are_as tells (g.F.Folder.holds c.loop-item.folder) held old.path.items (whole one.part)
    so.stays (subst (λ (p : List (List ℕ)).
    AreItemsAt tells (g.F.Folder.holds c.loop-item.folder) p (whole one.part)) so.archived.path
    one.are) in record {
      items = so.items;
      listed = so.listed;
      done = joined so.done one.part;
      left =
          so.left
          ∙ ap (λ (l : List Item). listing_of (whole so.done) ++ l)
          (step ∙ ap (λ (l : List Item). l ++ tail) (sym one.lists))
          ∙ sym (append_assoc (listing_of (whole so.done)) (listing_of (whole one.part)) tail)
          ∙ ap (λ (l : List Item). l ++ tail) (sym (ap listing_of whole_is
          ∙ listing_followed (whole so.done) (whole one.part)));
      len = omega (arith, so.len, ap length step, c.in-Some.ensures.steps.1);
      are = subst (AreItemsAt tells held old.path.items) (sym whole_is)
          (are_followed tells held old.path.items (whole so.done) (whole one.part) so.are are);
      lacks = λ told. lacks_joined failing old.path.items so.done one.part (so.lacks told)
          (subst (λ (p : List (List ℕ)). LacksOnly failing p one.part) so.archived.path
          (subst (λ (x : FailingPaths). LacksOnly x c.loop-item.self.path.items one.part)
          (so.paths told) (one.lacks told)));
      archived = part_join does score_of c.args.blocks.now c.loop-item.blocks
          c.archive_item.new.blocks old c.loop-item.self c.new-streams.result c.loop-item.streams
          so.done one.part so.archived c.archive_item.new.self c.archive_item.new.streams
          one.archived;
      no_entries = so.no_entries;
      no_metadata = so.no_metadata;
      stays = λ told. c.in_ok-archive_item.ensures.stays told ∙ so.stays told;
      paths = λ told. c.in_ok-archive_item.ensures.paths told ∙ so.paths told;
      counted = omega (arith, so.counted, one.counted, failures_joined so.done one.part);
    }

pub archive_items-returns-in_err-archive_item-clause-refused : goal.archive_items-returns-in_err-archive_item-clause-refused
archive_items-returns-in_err-archive_item-clause-refused g t c =
    let so = c.loop-item.invariant in
    let does = g.B.Blocks.does in
    let score_of = g.B.Scorer.score_of in
    let tells = g.F.Folder.tells in
    let old = c.args.self.now in
    let held = g.F.Folder.holds c.args.folder.now in
    let failing = g.F.Folder.may_fail c.args.folder.now in
    let f = g.F.Folder.faults c.args.folder.now in
    let item = c.in-Some.item in
    let tail = into_iter_items c.next.new.self in
    let step : into_iter_items c.loop-item.item-iterator ≡ item ∷ tail =
    c.in-Some.ensures.steps.0 in
    let e = c.in_err-archive_item.field-0.0 in
    let mid = g.F.Folder.faults c.loop-item.folder in
    let f' = g.F.Folder.faults c.archive_item.new.folder in
    let p = err_from_is_err_and c.from_residual.result c.from_residual.ensures.1 in
    rw (p.1, p.2) (items_given_up does score_of tells held failing so.items old so.listed c.args.blocks.now
    c.loop-item.blocks c.archive_item.new.blocks f mid f' c.loop-item.self c.new-streams.result
    c.loop-item.streams so.done item tail e
    (so.left ∙ ap (λ (l : List Item). listing_of (whole so.done) ++ l) step) so.are so.lacks
    so.archived so.counted
    (gave_as does score_of c.loop-item.blocks c.archive_item.new.blocks tells
    (g.F.Folder.holds c.loop-item.folder) held (g.F.Folder.may_fail c.loop-item.folder) failing mid f'
    c.loop-item.self item e so.stays so.paths c.in_err-archive_item.ensures.refused))

pub archive_items-returns-clause-archived : goal.archive_items-returns-clause-archived
archive_items-returns-clause-archived g t c =
    let so = c.loop-item.invariant in
    let does = g.B.Blocks.does in
    let score_of = g.B.Scorer.score_of in
    let tells = g.F.Folder.tells in
    let old = c.args.self.now in
    let held = g.F.Folder.holds c.args.folder.now in
    let failing = g.F.Folder.may_fail c.args.folder.now in
    let f = g.F.Folder.faults c.args.folder.now in
    let f' = g.F.Folder.faults c.loop-item.folder in
    let all : so.items ≡ listing_of (whole so.done) =
    so.left ∙ ap (λ (l : List Item). listing_of (whole so.done) ++ l) (none_left _ _ so.len
    c.in-None.ensures.steps.0)
    ∙ append-nil (listing_of (whole so.done)) in
    IfOk-weaker c.write.result
    (WritesStreams does score_of c.loop-item.blocks c.write.new.blocks c.loop-item.self.bsize
    c.loop-item.streams)
    (ArchivesItems does score_of c.args.blocks.now c.write.new.blocks tells held failing f f' old
    c.loop-item.self)
    (λ e wrote. items_archived does score_of tells held failing so.items old so.listed c.args.blocks.now
    c.loop-item.blocks f f' c.loop-item.self c.new-streams.result c.loop-item.streams so.done
    so.no_entries so.no_metadata all so.are so.lacks so.archived so.counted c.write.new.blocks e wrote)
    c.write.ensures.written

pub archive_items-returns-clause-refused : goal.archive_items-returns-clause-refused
archive_items-returns-clause-refused g t c =
    let so = c.loop-item.invariant in
    let does = g.B.Blocks.does in
    let score_of = g.B.Scorer.score_of in
    let tells = g.F.Folder.tells in
    let old = c.args.self.now in
    let held = g.F.Folder.holds c.args.folder.now in
    let failing = g.F.Folder.may_fail c.args.folder.now in
    let f = g.F.Folder.faults c.args.folder.now in
    let f' = g.F.Folder.faults c.loop-item.folder in
    let all : so.items ≡ listing_of (whole so.done) =
    so.left ∙ ap (λ (l : List Item). listing_of (whole so.done) ++ l) (none_left _ _ so.len
    c.in-None.ensures.steps.0)
    ∙ append-nil (listing_of (whole so.done)) in
    err_both c.write.result IsOfStore
    (GivesUpBlocks does c.loop-item.blocks c.write.new.blocks
    (streams_blocks score_of c.loop-item.self.bsize c.loop-item.streams))
    (GivesUpItems does score_of c.args.blocks.now c.write.new.blocks tells held failing f f' old)
    (λ e own gave. streams_given_up does score_of tells held failing so.items old so.listed
    c.args.blocks.now c.loop-item.blocks f f' c.loop-item.self c.new-streams.result
    c.loop-item.streams so.done so.no_entries so.no_metadata all so.are so.lacks so.archived so.counted
    c.write.new.blocks e own gave) c.write.ensures.plain c.write.ensures.refused

pub archive_items-returns-clause-goes_on : goal.archive_items-returns-clause-goes_on
archive_items-returns-clause-goes_on g t c =
    of_store_all c.write.result c.write.ensures.plain

-- what an item in the loop may be
pub archive_items-archive_item-requires : goal.archive_items-archive_item-requires
archive_items-archive_item-requires g t c =
    let so = c.loop-item.invariant in
    let old = c.args.self.now in
    let held = g.F.Folder.holds c.args.folder.now in
    let failing = g.F.Folder.may_fail c.args.folder.now in
    let item = c.in-Some.item in
    let tail = into_iter_items c.next.new.self in
    let step : into_iter_items c.loop-item.item-iterator ≡ item ∷ tail =
    c.in-Some.ensures.steps.0 in
    let both = short_found g.B.Scorer.score_of old.bsize
    (length c.new-streams.result.entries.items / 40) old.qid g.F.Folder.tells held old.path.items
    so.items so.done (into_iter_items c.loop-item.item-iterator) so.listed so.left in
    let same : length c.loop-item.self.path.items ≡ length old.path.items =
    ap length so.archived.path in
    let least : MIN_BLOCK_SIZE ≤ c.loop-item.self.bsize =
    omega (arith, so.archived.bsize, c.requires.least) in
    let most : c.loop-item.self.bsize ≤ MAX_BLOCK_SIZE =
    omega (arith, so.archived.bsize, c.requires.most) in
    let deep : length c.loop-item.self.path.items ≤ MAX_NESTING =
    omega (arith, same, c.requires.deep) in
    let fits : IfKept item.kind (FitsArchivedItem item) =
    fits_item g.F.Folder.tells held old.path.items so.items (listing_of (whole so.done)) item tail
    so.listed (so.left ∙ ap (λ (l : List Item). listing_of (whole so.done) ++ l) step) in
    let few : length c.loop-item.streams.entries.items / 40 < 2 ^ 32 =
    omega (arith, so.archived.places, ap length so.no_entries, both.0) in
    let stands : IsTrue g.F.Folder.tells → StandsAt (g.F.Folder.holds c.loop-item.folder)
    (c.loop-item.self.path.items ++ item.name ∷ []) item.kind =
    λ told. subst (λ (h : Items Facts).
    StandsAt h (c.loop-item.self.path.items ++ item.name ∷ []) item.kind) (sym (so.stays told))
    (subst (λ (p : List (List ℕ)). StandsAt held (p ++ item.name ∷ []) item.kind)
    (sym so.archived.path) (listed_stands g.F.Folder.tells held old.path.items so.items
    (listing_of (whole so.done)) item tail so.listed
    (so.left ∙ ap (λ (l : List Item). listing_of (whole so.done) ++ l) step) told)) in
    search rules

-- its streams are short
pub archive_items-write-requires-clause-entries : goal.archive_items-write-requires-clause-entries
archive_items-write-requires-clause-entries g t c =
    let so = c.loop-item.invariant in
    let old = c.args.self.now in
    let held = g.F.Folder.holds c.args.folder.now in
    let failing = g.F.Folder.may_fail c.args.folder.now in
    let both = short_found g.B.Scorer.score_of old.bsize
    (length c.new-streams.result.entries.items / 40) old.qid g.F.Folder.tells held old.path.items
    so.items so.done (into_iter_items c.loop-item.item-iterator) so.listed so.left in
    omega (arith, so.archived.places, ap length so.no_entries, both.0)

pub archive_items-write-requires-clause-metadata : goal.archive_items-write-requires-clause-metadata
archive_items-write-requires-clause-metadata g t c =
    let so = c.loop-item.invariant in
    let old = c.args.self.now in
    let held = g.F.Folder.holds c.args.folder.now in
    let failing = g.F.Folder.may_fail c.args.folder.now in
    let i : ℕ = length c.new-streams.result.entries.items / 40 in
    let both = short_found g.B.Scorer.score_of old.bsize i old.qid g.F.Folder.tells held
    old.path.items so.items so.done (into_iter_items c.loop-item.item-iterator) so.listed so.left
    in omega (
      arith,
      ap length so.archived.metadata,
      length-append c.new-streams.result.metadata.items
          (all_spelled (records_of i (archived_from old.qid so.done))),
      ap length so.no_metadata,
      both.1,
    )
