use Rattle.std.proofs.Common.{◌≡◌, take, sym, ap, arith}
use Rattle.std.specs.Prelude.{sum_by}
use Rattle.std.proofs.lemmas.List.{length-map, take_all}
use Rattle.vt_part.specs.Parts.{table_of, tables_of}
use Rattle.vt_mount_errors.proofs.Partitions.{next_sum, part_found, part_past, table_at}
use Rattle.vt_mount_errors.proofs.mount_errors.partition_of.Goals as goal

pub returns-then-arena-first : goal.returns-then-arena-first
returns-then-arena-first g c =
    let parts = c.args.parts.now in
    let at = table_at parts c.loop-i.i c.index-parts-i.result c.loop-i-test.true c.index-parts-i.is in
    sym (part_found (tables_of parts) c.loop-i.i (table_of c.index-parts-i.result) c.args.arena at (omega arith) (omega arith))

pub loop-i-preserved : goal.loop-i-preserved
loop-i-preserved g c =
    let parts = c.args.parts.now in
    let at = table_at parts c.loop-i.i c.index-parts-i.result c.loop-i-test.true c.index-parts-i.is in
    let next = next_sum (tables_of parts) c.loop-i.i (table_of c.index-parts-i.result) at in
    record { before = omega (arith, next); behind = omega arith }

pub returns : goal.returns
returns g c =
    let tables = tables_of c.args.parts.now in
    let all : take c.loop-i.i tables ≡ tables = take_all c.loop-i.i tables (omega (arith, length-map c.args.parts.now (λ part. table_of part))) in
    let sums : sum_by (λ t. t.count) (take c.loop-i.i tables) ≡ sum_by (λ t. t.count) tables = ap (sum_by (λ t. t.count)) all in
    sym (part_past tables c.args.arena (omega (arith, sums)))
