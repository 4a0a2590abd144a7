use Rattle.std.proofs.Common.{◌≡◌, ℕ, Bool, false, Option, List, drop, refl, ap, subst, rules}
use Rattle.std.proofs.lemmas.Result.{err_from_is_err_and}
use Rattle.vt_tree.specs.Streams.{Shape}
use Rattle.vt_out.specs.declared.folder_item.Facts.{Facts}
use Rattle.vt_out.specs.FolderItems.{FailingPaths, Items}
use Rattle.vt_tree.specs.Writing.{IsAll, IsTakenWhole, WritesStream, GivesUpStream, is_source_fault}
use Rattle.vac_model.specs.Archives.{file_shape}
use Rattle.vac_write.specs.Files.{IsUnread}
use Rattle.vac_write.specs.Sources.{bytes_at_path, is_sure}
use Rattle.vac_write.proofs.Filed.{file_written, file_given_up}
use Rattle.vac_write.proofs.Shapes.{shape_is}
use Rattle.vac_write.proofs.Sure.{both_stayed, stream_counts, told_same, told_unsure, unsure_fails}
use Rattle.vac_write.proofs.archiving.write_file.Goals as goal

-- what a source of a file keeps
abbrev Kept : Type 0
Kept = ℕ × List (List ℕ) × Option (Items Facts × FailingPaths) × Bool × ℕ

pub returns-in_err-write_stream-clause-refused : goal.returns-in_err-write_stream-clause-refused
returns-in_err-write_stream-clause-refused g c =
    let held = g.F.Folder.holds c.args.folder.now in
    let path = c.args.path.now in
    let e = c.in_err-write_stream.field-0.0 in
    let same = shape_is c.args.bsize c.pointer_len-psize.result c.args.bsize false
    c.pointer_len-psize.ensures refl in
    let gave = subst (λ (sh : Shape). GivesUpStream g.B.Blocks.does g.B.Blocks.holds
    g.B.Scorer.score_of c.args.blocks.now c.write_stream.new.blocks sh
    (IsAll g.F.Folder.tells (drop 0 (bytes_at_path path held))) e) same
    c.in_err-write_stream.ensures.refused in
    let p = err_from_is_err_and c.from_residual.result c.from_residual.ensures.1 in
    let failing = g.F.Folder.may_fail c.args.folder.now in
    let behind = c.write_stream.new.source in
    let sure = is_sure g.F.Folder.tells held failing path in
    let sure' = is_sure g.F.Folder.tells (g.F.Folder.holds behind.folder.now)
    (g.F.Folder.may_fail behind.folder.now) behind.path.now in
    let same : sure' ≡ sure =
    ap (λ (k : Kept). k.3) c.in_err-write_stream.ensures.keeps in
    rw (p.1, p.2) (file_given_up g.B.Blocks.does g.B.Blocks.holds g.B.Scorer.score_of
    c.args.blocks.now c.write_stream.new.blocks (file_shape c.args.bsize) g.F.Folder.tells held
    path (IsUnread g.F.Folder.tells held failing path) e
    (λ fault. unsure_fails g.F.Folder.tells held failing path
    (told_unsure sure sure' (g.F.Folder.faults c.args.folder.now)
    (g.F.Folder.faults behind.folder.now) same (is_source_fault e)
    c.in_err-write_stream.ensures.cause fault)) gave)

pub returns-in_err-write_stream-clause-cause : goal.returns-in_err-write_stream-clause-cause
returns-in_err-write_stream-clause-cause g c =
    let held = g.F.Folder.holds c.args.folder.now in
    let path = c.args.path.now in
    let e = c.in_err-write_stream.field-0.0 in
    let p = err_from_is_err_and c.from_residual.result c.from_residual.ensures.1 in
    let failing = g.F.Folder.may_fail c.args.folder.now in
    let behind = c.write_stream.new.source in
    let sure = is_sure g.F.Folder.tells held failing path in
    let sure' = is_sure g.F.Folder.tells (g.F.Folder.holds behind.folder.now)
    (g.F.Folder.may_fail behind.folder.now) behind.path.now in
    let same : sure' ≡ sure =
    ap (λ (k : Kept). k.3) c.in_err-write_stream.ensures.keeps in
    let counts = stream_counts sure sure' (g.F.Folder.faults c.args.folder.now)
    (g.F.Folder.faults behind.folder.now) same e
    (ap (λ (k : Kept). k.4) c.in_err-write_stream.ensures.keeps)
    c.in_err-write_stream.ensures.cause in
    rw (p.1, p.2) (search rules)

pub returns-in_err-write_stream-clause-stays : goal.returns-in_err-write_stream-clause-stays
returns-in_err-write_stream-clause-stays g c told =
    let behind = c.write_stream.new.source in
    let same : g.F.Folder.holds behind.folder.now ≡ g.F.Folder.holds c.args.folder.now =
    (told_same g.F.Folder.tells (g.F.Folder.holds c.args.folder.now)
    (g.F.Folder.holds behind.folder.now) (g.F.Folder.may_fail c.args.folder.now)
    (g.F.Folder.may_fail behind.folder.now)
    (ap (λ (k : Kept). k.2) c.in_err-write_stream.ensures.keeps) told).0 in
    search rules

pub returns-in_err-write_stream-clause-paths : goal.returns-in_err-write_stream-clause-paths
returns-in_err-write_stream-clause-paths g c told =
    let behind = c.write_stream.new.source in
    let same : g.F.Folder.may_fail behind.folder.now ≡ g.F.Folder.may_fail c.args.folder.now =
    (told_same g.F.Folder.tells (g.F.Folder.holds c.args.folder.now)
    (g.F.Folder.holds behind.folder.now) (g.F.Folder.may_fail c.args.folder.now)
    (g.F.Folder.may_fail behind.folder.now)
    (ap (λ (k : Kept). k.2) c.in_err-write_stream.ensures.keeps) told).1 in
    search rules

pub returns-clause-cause : goal.returns-clause-cause
returns-clause-cause g c =
    let held = g.F.Folder.holds c.args.folder.now in
    let path = c.args.path.now in
    let failing = g.F.Folder.may_fail c.args.folder.now in
    let behind = c.write_stream.new.source in
    let sure = is_sure g.F.Folder.tells held failing path in
    let sure' = is_sure g.F.Folder.tells (g.F.Folder.holds behind.folder.now)
    (g.F.Folder.may_fail behind.folder.now) behind.path.now in
    let same : g.F.Folder.faults behind.folder.now ≡ g.F.Folder.faults c.args.folder.now =
    both_stayed sure sure' (g.F.Folder.faults c.args.folder.now)
    (g.F.Folder.faults behind.folder.now)
    (ap (λ (k : Kept). k.3) c.in_ok-write_stream.ensures.keeps)
    (ap (λ (k : Kept). k.4) c.in_ok-write_stream.ensures.keeps)
    c.in_ok-write_stream.ensures.cause in
    search rules

pub returns-clause-stays : goal.returns-clause-stays
returns-clause-stays g c told =
    let behind = c.write_stream.new.source in
    let same : g.F.Folder.holds behind.folder.now ≡ g.F.Folder.holds c.args.folder.now =
    (told_same g.F.Folder.tells (g.F.Folder.holds c.args.folder.now)
    (g.F.Folder.holds behind.folder.now) (g.F.Folder.may_fail c.args.folder.now)
    (g.F.Folder.may_fail behind.folder.now)
    (ap (λ (k : Kept). k.2) c.in_ok-write_stream.ensures.keeps) told).0 in
    search rules

pub returns-clause-paths : goal.returns-clause-paths
returns-clause-paths g c told =
    let behind = c.write_stream.new.source in
    let same : g.F.Folder.may_fail behind.folder.now ≡ g.F.Folder.may_fail c.args.folder.now =
    (told_same g.F.Folder.tells (g.F.Folder.holds c.args.folder.now)
    (g.F.Folder.holds behind.folder.now) (g.F.Folder.may_fail c.args.folder.now)
    (g.F.Folder.may_fail behind.folder.now)
    (ap (λ (k : Kept). k.2) c.in_ok-write_stream.ensures.keeps) told).1 in
    search rules

pub returns-clause-written : goal.returns-clause-written
returns-clause-written g c =
    let held = g.F.Folder.holds c.args.folder.now in
    let path = c.args.path.now in
    let e = c.in_ok-write_stream.field-0 in
    let behind = c.write_stream.new.source in
    let new : List ℕ = drop behind.at
    (bytes_at_path behind.path.now (g.F.Folder.holds behind.folder.now)) in
    let same = shape_is c.args.bsize c.pointer_len-psize.result c.args.bsize false
    c.pointer_len-psize.ensures refl in
    let wrote = subst (λ (sh : Shape). WritesStream g.B.Blocks.does g.B.Blocks.holds
    g.B.Scorer.score_of c.args.blocks.now c.write_stream.new.blocks sh
    (IsTakenWhole g.F.Folder.tells (drop 0 (bytes_at_path path held)) new) e) same
    c.in_ok-write_stream.ensures.written in
    file_written g.B.Blocks.does g.B.Blocks.holds g.B.Scorer.score_of c.args.blocks.now
    c.write_stream.new.blocks (file_shape c.args.bsize) g.F.Folder.tells held path new e wrote
