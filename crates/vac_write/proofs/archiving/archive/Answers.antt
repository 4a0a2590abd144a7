use Rattle.std.proofs.Common.{List, [], ℕ, refl, sym, ◌∙◌, ap, subst}
use Rattle.std.proofs.lemmas.Result.{err_from_is_err_and}
use Rattle.vt_base.specs.declared.score.Score.{Score}
use Rattle.vac_write.specs.declared.archiving.Walk.{Walk}
use Rattle.vac_write.specs.Listing.{AreListed}
use Rattle.vac_write.specs.Tried.{failures}
use Rattle.vac_write.proofs.Causes.{counts_some, counts_unlisted, none_at_least, of_store_goes_on}
use Rattle.vac_write.proofs.Ends.{archive_written, counts_told, root_given_up, sync_refused, top_not_listed, walk_given_up}
use Rattle.vac_write.proofs.Wholly.{gave_items_as, items_as, listed_as_held}
use Rattle.vac_write.proofs.archiving.archive.Goals as goal

pub returns-in_err-items-clause-refused : goal.returns-in_err-items-clause-refused
returns-in_err-items-clause-refused g c =
    let does = g.B.Blocks.does in
    let holds = g.B.Blocks.holds in
    let score_of = g.B.Scorer.score_of in
    let tells = g.F.Folder.tells in
    let held = g.F.Folder.holds c.args.folder.now in
    let failing = g.F.Folder.may_fail c.args.folder.now in
    let f = g.F.Folder.faults c.args.folder.now in
    let s = c.args.blocks.now in
    let p = err_from_is_err_and c.from_residual.result c.from_residual.ensures.1 in
    rw (p.1, p.2) (top_not_listed does holds score_of tells held failing g.met.B.Blocks.tells s f
    (g.F.Folder.faults c.items_at.new.folder) c.args.bsize c.in_err-items.field-0.0
    (none_at_least c.in_err-items.field-0.0 f (g.F.Folder.faults c.items_at.new.folder)
    c.in_err-items.ensures.cause) c.in_err-items.ensures.refused)

pub returns-in_err-items-clause-cause : goal.returns-in_err-items-clause-cause
returns-in_err-items-clause-cause g c =
    let does = g.B.Blocks.does in
    let holds = g.B.Blocks.holds in
    let score_of = g.B.Scorer.score_of in
    let tells = g.F.Folder.tells in
    let held = g.F.Folder.holds c.args.folder.now in
    let failing = g.F.Folder.may_fail c.args.folder.now in
    let f = g.F.Folder.faults c.args.folder.now in
    let s = c.args.blocks.now in
    let p = err_from_is_err_and c.from_residual.result c.from_residual.ensures.1 in
    rw (p.1, p.2) (counts_unlisted c.in_err-items.field-0.0 f
    (g.F.Folder.faults c.items_at.new.folder) (g.met.F.Folder.faults_fit c.args.folder.now)
    c.in_err-items.ensures.cause)

pub archive_items-requires-clause-listed : goal.archive_items-requires-clause-listed
archive_items-requires-clause-listed g c =
    let does = g.B.Blocks.does in
    let holds = g.B.Blocks.holds in
    let score_of = g.B.Scorer.score_of in
    let tells = g.F.Folder.tells in
    let held = g.F.Folder.holds c.args.folder.now in
    let failing = g.F.Folder.may_fail c.args.folder.now in
    let f = g.F.Folder.faults c.args.folder.now in
    let s = c.args.blocks.now in
    let held' = g.F.Folder.holds c.items_at.new.folder in
    let failing' = g.F.Folder.may_fail c.items_at.new.folder in
    subst (λ (p : List (List ℕ)). AreListed tells held' p c.in_ok-items.items.items)
    (sym c.new.ensures.items)
    (listed_as_held tells held' held [] c.in_ok-items.items.items c.in_ok-items.ensures.stays
    c.in_ok-items.ensures.listed)

pub returns-in_err-top-clause-refused : goal.returns-in_err-top-clause-refused
returns-in_err-top-clause-refused g c =
    let does = g.B.Blocks.does in
    let holds = g.B.Blocks.holds in
    let score_of = g.B.Scorer.score_of in
    let tells = g.F.Folder.tells in
    let held = g.F.Folder.holds c.args.folder.now in
    let failing = g.F.Folder.may_fail c.args.folder.now in
    let f = g.F.Folder.faults c.args.folder.now in
    let s = c.args.blocks.now in
    let held' = g.F.Folder.holds c.items_at.new.folder in
    let failing' = g.F.Folder.may_fail c.items_at.new.folder in
    let mid = g.F.Folder.faults c.items_at.new.folder in
    let f' = g.F.Folder.faults c.archive_items.new.folder in
    let half = c.archive_items.new.blocks in
    let old : Walk = record {
      alloc = c.args.alloc;
      bsize = c.args.bsize;
      path = c.new.result;
      qid = 1;
      skipped = c.new-2.result;
      failed = c.new-3.result;
    } in
    let err = c.in_err-top.field-0.0 in
    let p = err_from_is_err_and c.from_residual-in_err-top.result
    c.from_residual-in_err-top.ensures.1 in
    rw (p.1, p.2) (walk_given_up does holds score_of tells held failing g.met.B.Blocks.tells s half f f'
    c.args.bsize old err c.new.ensures.items refl refl c.in_err-top.ensures.goes_on
    (gave_items_as does score_of s half tells held' held failing' failing f mid f' old c.in_ok-items.ensures.stays
    c.in_ok-items.ensures.paths
    c.in_ok-items.ensures.cause err c.in_err-top.ensures.refused))

pub returns-in_err-top-clause-cause : goal.returns-in_err-top-clause-cause
returns-in_err-top-clause-cause g c =
    let does = g.B.Blocks.does in
    let holds = g.B.Blocks.holds in
    let score_of = g.B.Scorer.score_of in
    let tells = g.F.Folder.tells in
    let held = g.F.Folder.holds c.args.folder.now in
    let failing = g.F.Folder.may_fail c.args.folder.now in
    let f = g.F.Folder.faults c.args.folder.now in
    let s = c.args.blocks.now in
    let held' = g.F.Folder.holds c.items_at.new.folder in
    let failing' = g.F.Folder.may_fail c.items_at.new.folder in
    let mid = g.F.Folder.faults c.items_at.new.folder in
    let f' = g.F.Folder.faults c.archive_items.new.folder in
    let half = c.archive_items.new.blocks in
    let old : Walk = record {
      alloc = c.args.alloc;
      bsize = c.args.bsize;
      path = c.new.result;
      qid = 1;
      skipped = c.new-2.result;
      failed = c.new-3.result;
    } in
    let err = c.in_err-top.field-0.0 in
    let gave = gave_items_as does score_of s half tells held' held failing' failing f mid f' old
    c.in_ok-items.ensures.stays c.in_ok-items.ensures.paths c.in_ok-items.ensures.cause err c.in_err-top.ensures.refused in
    let p = err_from_is_err_and c.from_residual-in_err-top.result
    c.from_residual-in_err-top.ensures.1 in
    rw (p.1, p.2) (counts_some err (failures gave.tried) f f' c.in_err-top.ensures.goes_on
    gave.counted)

pub returns-in_err-score-clause-refused : goal.returns-in_err-score-clause-refused
returns-in_err-score-clause-refused g c =
    let does = g.B.Blocks.does in
    let holds = g.B.Blocks.holds in
    let score_of = g.B.Scorer.score_of in
    let tells = g.F.Folder.tells in
    let held = g.F.Folder.holds c.args.folder.now in
    let failing = g.F.Folder.may_fail c.args.folder.now in
    let f = g.F.Folder.faults c.args.folder.now in
    let s = c.args.blocks.now in
    let held' = g.F.Folder.holds c.items_at.new.folder in
    let failing' = g.F.Folder.may_fail c.items_at.new.folder in
    let mid = g.F.Folder.faults c.items_at.new.folder in
    let f' = g.F.Folder.faults c.archive_items.new.folder in
    let half = c.archive_items.new.blocks in
    let old : Walk = record {
      alloc = c.args.alloc;
      bsize = c.args.bsize;
      path = c.new.result;
      qid = 1;
      skipped = c.new-2.result;
      failed = c.new-3.result;
    } in
    let walk = c.archive_items.new.self in
    let e = c.in_ok-top.top in
    let a = items_as does score_of s half tells held' held failing' failing f mid f' old c.in_ok-items.ensures.stays
    c.in_ok-items.ensures.paths
    c.in_ok-items.ensures.cause walk e c.in_ok-top.ensures.archived in
    let p = err_from_is_err_and c.from_residual-in_err-score.result
    c.from_residual-in_err-score.ensures.1 in
    rw (p.1, p.2) (root_given_up does holds score_of tells held failing g.met.B.Blocks.tells s half half
    c.put_root.new.blocks f f' c.args.bsize old walk e c.new.ensures.items refl refl a
    c.in_err-score.field-0.0 c.in_err-score.ensures.plain c.in_err-score.ensures.refused)

pub returns-in_err-score-clause-cause : goal.returns-in_err-score-clause-cause
returns-in_err-score-clause-cause g c =
    let does = g.B.Blocks.does in
    let holds = g.B.Blocks.holds in
    let score_of = g.B.Scorer.score_of in
    let tells = g.F.Folder.tells in
    let held = g.F.Folder.holds c.args.folder.now in
    let failing = g.F.Folder.may_fail c.args.folder.now in
    let f = g.F.Folder.faults c.args.folder.now in
    let s = c.args.blocks.now in
    let held' = g.F.Folder.holds c.items_at.new.folder in
    let failing' = g.F.Folder.may_fail c.items_at.new.folder in
    let mid = g.F.Folder.faults c.items_at.new.folder in
    let f' = g.F.Folder.faults c.archive_items.new.folder in
    let half = c.archive_items.new.blocks in
    let old : Walk = record {
      alloc = c.args.alloc;
      bsize = c.args.bsize;
      path = c.new.result;
      qid = 1;
      skipped = c.new-2.result;
      failed = c.new-3.result;
    } in
    let walk = c.archive_items.new.self in
    let e = c.in_ok-top.top in
    let a = items_as does score_of s half tells held' held failing' failing f mid f' old c.in_ok-items.ensures.stays
    c.in_ok-items.ensures.paths
    c.in_ok-items.ensures.cause walk e c.in_ok-top.ensures.archived in
    let err = c.in_err-score.field-0.0 in
    let p = err_from_is_err_and c.from_residual-in_err-score.result
    c.from_residual-in_err-score.ensures.1 in
    rw (p.1, p.2) (counts_some err (failures a.tried) f f'
    (of_store_goes_on err c.in_err-score.ensures.plain) a.counted)

pub returns-in_err-sync-clause-refused : goal.returns-in_err-sync-clause-refused
returns-in_err-sync-clause-refused g c =
    let does = g.B.Blocks.does in
    let holds = g.B.Blocks.holds in
    let score_of = g.B.Scorer.score_of in
    let tells = g.F.Folder.tells in
    let held = g.F.Folder.holds c.args.folder.now in
    let failing = g.F.Folder.may_fail c.args.folder.now in
    let f = g.F.Folder.faults c.args.folder.now in
    let s = c.args.blocks.now in
    let held' = g.F.Folder.holds c.items_at.new.folder in
    let failing' = g.F.Folder.may_fail c.items_at.new.folder in
    let mid = g.F.Folder.faults c.items_at.new.folder in
    let f' = g.F.Folder.faults c.archive_items.new.folder in
    let half = c.archive_items.new.blocks in
    let old : Walk = record {
      alloc = c.args.alloc;
      bsize = c.args.bsize;
      path = c.new.result;
      qid = 1;
      skipped = c.new-2.result;
      failed = c.new-3.result;
    } in
    let walk = c.archive_items.new.self in
    let e = c.in_ok-top.top in
    let a = items_as does score_of s half tells held' held failing' failing f mid f' old c.in_ok-items.ensures.stays
    c.in_ok-items.ensures.paths
    c.in_ok-items.ensures.cause walk e c.in_ok-top.ensures.archived in
    let p = err_from_is_err_and c.from_residual-in_err-sync.result
    c.from_residual-in_err-sync.ensures.1 in
    rw (p.1, p.2) (sync_refused does holds score_of tells held failing g.met.B.Blocks.tells s half
    c.put_root.new.blocks c.sync.new.self f f' c.args.bsize old walk e c.new.ensures.items refl refl a
    c.in_ok-score.ensures.put c.in_err-sync.field-0.0 c.in_err-sync.ensures)

pub returns-in_err-sync-clause-cause : goal.returns-in_err-sync-clause-cause
returns-in_err-sync-clause-cause g c =
    let does = g.B.Blocks.does in
    let holds = g.B.Blocks.holds in
    let score_of = g.B.Scorer.score_of in
    let tells = g.F.Folder.tells in
    let held = g.F.Folder.holds c.args.folder.now in
    let failing = g.F.Folder.may_fail c.args.folder.now in
    let f = g.F.Folder.faults c.args.folder.now in
    let s = c.args.blocks.now in
    let held' = g.F.Folder.holds c.items_at.new.folder in
    let failing' = g.F.Folder.may_fail c.items_at.new.folder in
    let mid = g.F.Folder.faults c.items_at.new.folder in
    let f' = g.F.Folder.faults c.archive_items.new.folder in
    let half = c.archive_items.new.blocks in
    let old : Walk = record {
      alloc = c.args.alloc;
      bsize = c.args.bsize;
      path = c.new.result;
      qid = 1;
      skipped = c.new-2.result;
      failed = c.new-3.result;
    } in
    let walk = c.archive_items.new.self in
    let e = c.in_ok-top.top in
    let a = items_as does score_of s half tells held' held failing' failing f mid f' old c.in_ok-items.ensures.stays
    c.in_ok-items.ensures.paths
    c.in_ok-items.ensures.cause walk e c.in_ok-top.ensures.archived in
    let p = err_from_is_err_and c.from_residual-in_err-sync.result
    c.from_residual-in_err-sync.ensures.1 in
    rw (p.1, p.2) (failures a.tried, a.counted)

pub returns-clause-archived : goal.returns-clause-archived
returns-clause-archived g c =
    let does = g.B.Blocks.does in
    let holds = g.B.Blocks.holds in
    let score_of = g.B.Scorer.score_of in
    let tells = g.F.Folder.tells in
    let held = g.F.Folder.holds c.args.folder.now in
    let failing = g.F.Folder.may_fail c.args.folder.now in
    let f = g.F.Folder.faults c.args.folder.now in
    let s = c.args.blocks.now in
    let held' = g.F.Folder.holds c.items_at.new.folder in
    let failing' = g.F.Folder.may_fail c.items_at.new.folder in
    let mid = g.F.Folder.faults c.items_at.new.folder in
    let f' = g.F.Folder.faults c.archive_items.new.folder in
    let half = c.archive_items.new.blocks in
    let old : Walk = record {
      alloc = c.args.alloc;
      bsize = c.args.bsize;
      path = c.new.result;
      qid = 1;
      skipped = c.new-2.result;
      failed = c.new-3.result;
    } in
    let walk = c.archive_items.new.self in
    let e = c.in_ok-top.top in
    let a = items_as does score_of s half tells held' held failing' failing f mid f' old c.in_ok-items.ensures.stays
    c.in_ok-items.ensures.paths
    c.in_ok-items.ensures.cause walk e c.in_ok-top.ensures.archived in
    archive_written does holds score_of tells held failing g.met.B.Blocks.tells s half c.put_root.new.blocks
    c.sync.new.self f f' c.args.bsize old walk e c.new.ensures.items refl refl a
    c.in_ok-score.ensures.put c.in_ok-sync.ensures g.met.B.Blocks.write_once
    g.met.B.Scorer.score_len c.requires.least c.requires.most c.into_archived.ensures.few
    c.into_archived.result
    (ap (λ (found : Score). found.0) c.into_archived.ensures.score ∙ c.in_ok-score.ensures.scored)
    c.new-2.ensures.items c.into_archived.ensures.skipped
    c.new-3.ensures.items c.into_archived.ensures.failed

pub returns-clause-cause : goal.returns-clause-cause
returns-clause-cause g c =
    let does = g.B.Blocks.does in
    let holds = g.B.Blocks.holds in
    let score_of = g.B.Scorer.score_of in
    let tells = g.F.Folder.tells in
    let held = g.F.Folder.holds c.args.folder.now in
    let failing = g.F.Folder.may_fail c.args.folder.now in
    let f = g.F.Folder.faults c.args.folder.now in
    let s = c.args.blocks.now in
    let held' = g.F.Folder.holds c.items_at.new.folder in
    let failing' = g.F.Folder.may_fail c.items_at.new.folder in
    let mid = g.F.Folder.faults c.items_at.new.folder in
    let f' = g.F.Folder.faults c.archive_items.new.folder in
    let half = c.archive_items.new.blocks in
    let old : Walk = record {
      alloc = c.args.alloc;
      bsize = c.args.bsize;
      path = c.new.result;
      qid = 1;
      skipped = c.new-2.result;
      failed = c.new-3.result;
    } in
    let walk = c.archive_items.new.self in
    let e = c.in_ok-top.top in
    let a = items_as does score_of s half tells held' held failing' failing f mid f' old c.in_ok-items.ensures.stays
    c.in_ok-items.ensures.paths
    c.in_ok-items.ensures.cause walk e c.in_ok-top.ensures.archived in
    counts_told does holds score_of tells held failing g.met.B.Blocks.tells s half c.put_root.new.blocks
    c.sync.new.self f f' c.args.bsize old walk e c.new.ensures.items refl refl a
    c.in_ok-score.ensures.put c.in_ok-sync.ensures g.met.B.Blocks.write_once
    g.met.B.Scorer.score_len c.requires.least c.requires.most c.into_archived.ensures.few
    c.into_archived.result c.new-3.ensures.items c.into_archived.ensures.failed
