-- One more head is written.
use Rattle.std.proofs.Common.{◌≡◌, ◌+◌, ℕ, refl, ◌∙◌, ap, subst, arith}
use Rattle.std.proofs.lemmas.Result.{err_from_is_err_and}
use Rattle.vt_disk.specs.declared.region.Region.{Region}
use Rattle.vt_disk.specs.Calls.{WritesWithin}
use Rattle.vt_twin.specs.Formatting.{EndsFormat}
use Rattle.vt_part.specs.Layout.{arena_region}
use Rattle.vt_part.specs.Parts.{disk_of, table_of}
use Rattle.vt_part.specs.Table.{Table, IsTable}
use Rattle.vt_arena.specs.Heads.{head_frame}
use Rattle.vt_arena.specs.Layout.{IsArena, head_place, arena_head, empty}
use Rattle.vt_log.proofs.FoundLog.{region_fits}
use Rattle.vt_log.proofs.IsEmpty.{none_written, heads_more, heads_wider, empty_kept, empty_more, empty_whole}
use Rattle.vt_log.proofs.mounting.format_part.Goals as goal

pub loop-arena-init : goal.loop-arena-init
loop-arena-init g c = record {
  table = refl;
  empty = λ told score_of number image less. absurd (omega (arith, less));
  settled = λ some. absurd (omega (arith, some));
  writes = none_written g.D.Disk (table_of c.args.part.now) 0 (disk_of c.args.part.now);
  faults = refl;
}

pub format-requires : goal.format-requires
format-requires g c =
    let t = table_of c.args.part.now in
    let is : c.region-region.result ≡ arena_region t c.loop-arena.arena = c.region-region.ensures.region ∙ ap (λ (u : Table). arena_region u c.loop-arena.arena) c.loop-arena.invariant.table in
    rw is (region_fits _ t c.loop-arena.arena (subst IsTable c.loop-arena.invariant.table c.region-region.ensures.table)
    (omega (arith, ap (λ (u : Table). u.count) c.loop-arena.invariant.table, c.count-arena-end.ensures.count))
    (omega (arith, c.loop-arena.invariant.writes.size, c.requires)))

pub loop-arena-preserved : goal.loop-arena-preserved
loop-arena-preserved g c =
    let t = table_of c.args.part.now in
    let was = disk_of c.loop-arena.part in
    let now = c.format.new.disk in
    let is : c.region-region.result ≡ arena_region t c.loop-arena.arena = c.region-region.ensures.region ∙ ap (λ (u : Table). arena_region u c.loop-arena.arena) c.loop-arena.invariant.table in
    let writes : WritesWithin g.D.Disk (head_place (arena_region t c.loop-arena.arena)) 3 was now =
    subst (λ (r : Region). WritesWithin g.D.Disk (head_place r) 3 was now) is c.format.ensures.writes in
    record {
      table = c.loop-arena.invariant.table;
      empty = λ told. empty_more t c.loop-arena.arena (g.D.Disk.images was) (g.D.Disk.images now) c.count-arena-end.ensures.table
          (c.loop-arena.invariant.empty told) writes.images
          (λ score_of image left. subst (λ (r : Region). IsArena score_of r c.loop-arena.arena empty image) is (c.in_ok-format.ensures.empty score_of told image left));
      settled = λ some. c.in_ok-format.ensures.settled;
      writes = heads_more g.D.Disk t c.loop-arena.arena (disk_of c.args.part.now) was now c.loop-arena.invariant.writes writes;
      faults = c.in_ok-format.ensures.cause ∙ c.loop-arena.invariant.faults;
    }

pub returns-clause-empty : goal.returns-clause-empty
returns-clause-empty g c = record {
  arenas = λ told. empty_whole (table_of c.args.part.now) (table_of c.loop-arena.part) c.loop-arena.arena (g.D.Disk.images (disk_of c.loop-arena.part)) c.loop-arena.invariant.table
      (omega (arith, ap (λ (t : Table). t.count) c.loop-arena.invariant.table, c.count-arena-end.ensures.count)) (c.loop-arena.invariant.empty told);
  settled = c.loop-arena.invariant.settled (omega (arith, c.count-arena-end.ensures.count, c.count-arena-end.ensures.table.some));
}

pub returns-clause-writes : goal.returns-clause-writes
returns-clause-writes g c =
    heads_wider g.D.Disk (table_of c.args.part.now) c.loop-arena.arena _ (disk_of c.args.part.now) _
    (omega (arith, ap (λ (u : Table). u.count) c.loop-arena.invariant.table, c.count-arena-end.ensures.count)) c.loop-arena.invariant.writes

-- ---- a call that fails

pub returns-in_err-format-clause-stops : goal.returns-in_err-format-clause-stops
returns-in_err-format-clause-stops g c =
    let t = table_of c.args.part.now in
    let was = disk_of c.loop-arena.part in
    let now = c.format.new.disk in
    let e = err_from_is_err_and c.from_residual.result c.from_residual.ensures.1 in
    let is : c.region-region.result ≡ arena_region t c.loop-arena.arena = c.region-region.ensures.region ∙ ap (λ (u : Table). arena_region u c.loop-arena.arena) c.loop-arena.invariant.table in
    let writes : WritesWithin g.D.Disk (head_place (arena_region t c.loop-arena.arena)) 3 was now =
    subst (λ (r : Region). WritesWithin g.D.Disk (head_place r) 3 was now) is c.format.ensures.writes in
    rw e.1 (record {
      arena = c.loop-arena.arena;
      within = omega (arith, ap (λ (u : Table). u.count) c.loop-arena.invariant.table, c.count-arena-end.ensures.count);
      done = λ told. empty_kept t c.loop-arena.arena (g.D.Disk.images was) (g.D.Disk.images now) c.count-arena-end.ensures.table
          (c.loop-arena.invariant.empty told) writes.images;
      before = was;
      so_far = c.loop-arena.invariant.writes;
      ends = λ score_of. subst (λ (r : Region). (made : ℕ)
          × EndsFormat g.D.Disk (head_place r) (head_frame (arena_head score_of c.loop-arena.arena empty)) made was now) is
          (c.in_err-format.ensures.failed score_of);
    })

pub returns-in_err-format-clause-writes : goal.returns-in_err-format-clause-writes
returns-in_err-format-clause-writes g c =
    let t = table_of c.args.part.now in
    let was = disk_of c.loop-arena.part in
    let now = c.format.new.disk in
    let is : c.region-region.result ≡ arena_region t c.loop-arena.arena = c.region-region.ensures.region ∙ ap (λ (u : Table). arena_region u c.loop-arena.arena) c.loop-arena.invariant.table in
    let writes : WritesWithin g.D.Disk (head_place (arena_region t c.loop-arena.arena)) 3 was now =
    subst (λ (r : Region). WritesWithin g.D.Disk (head_place r) 3 was now) is c.format.ensures.writes in
    heads_wider g.D.Disk t (c.loop-arena.arena + 1) t.count (disk_of c.args.part.now) now
    (omega (arith, ap (λ (u : Table). u.count) c.loop-arena.invariant.table, c.count-arena-end.ensures.count))
    (heads_more g.D.Disk t c.loop-arena.arena (disk_of c.args.part.now) was now c.loop-arena.invariant.writes writes)
