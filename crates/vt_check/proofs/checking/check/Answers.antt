use Rattle.std.proofs.Common.{◌≡◌, ◌+◌, ◌*◌, ◌<◌, ◌≤◌, ℕ, Some, List, length, map, take, refl, sym, ◌∙◌, ap, subst, arith}
use Rattle.std.specs.Prelude.{slice_get, sum_by}
use Rattle.std.proofs.lemmas.Option.{same_Some}
use Rattle.vt_arena.specs.declared.head.ArenaHead.{ArenaHead}
use Rattle.vt_arena.specs.declared.head.Found.{Found}
use Rattle.vt_arena.specs.Faults.{read_at}
use Rattle.vt_arena.specs.Heads.{fields_of, own_fields}
use Rattle.vt_log.specs.Answers.{OnlyReadsLog}
use Rattle.vt_log.specs.Log.{LogState}
use Rattle.vt_check.specs.declared.checking.ArenaReport.{ArenaReport}
use Rattle.vt_check.specs.Checking.{TellsOf}
use Rattle.vt_check.proofs.Reports.{IsReporting, head_there, map_from, reads_so_far, reads_within, report_more}
use Rattle.vt_check.proofs.checking.check.Goals as goal

pub head-head-requires : goal.head-head-requires
head-head-requires g c = omega (
  arith,
  ap (λ (l : LogState g.row.D.Denot). length l.layout) c.check_arena.ensures.reads.2.same,
  ap (λ (l : LogState g.row.D.Denot). length l.layout) c.loop-number.invariant.reads.same,
)

pub returns-in_err-damage-clause-reads : goal.returns-in_err-damage-clause-reads
returns-in_err-damage-clause-reads g c =
    let it = c.check_arena.ensures.reads in
    reads_within g.S.Scorer.score_of g.D.Disk c.args.log.now c.loop-number.log c.check_arena.new.log c.loop-number.number c.loop-number.arenas.items c.loop-number.invariant it.0
    (ap (λ (l : LogState g.row.D.Denot). slice_get l.heads c.loop-number.number) (sym c.loop-number.invariant.reads.same) ∙ it.1) it.2

pub returns-in_err-add-clause-reads : goal.returns-in_err-add-clause-reads
returns-in_err-add-clause-reads g c =
    let it = c.check_arena.ensures.reads in
    reads_within g.S.Scorer.score_of g.D.Disk c.args.log.now c.loop-number.log c.check_arena.new.log c.loop-number.number c.loop-number.arenas.items c.loop-number.invariant it.0
    (ap (λ (l : LogState g.row.D.Denot). slice_get l.heads c.loop-number.number) (sym c.loop-number.invariant.reads.same) ∙ it.1) it.2

pub returns-clause-reads : goal.returns-clause-reads
returns-clause-reads g c =
    reads_so_far g.S.Scorer.score_of g.D.Disk c.args.log.now c.loop-number.log c.loop-number.number c.loop-number.arenas.items c.loop-number.invariant

pub loop-number-preserved : goal.loop-number-preserved
loop-number-preserved g c =
    let score = g.S.Scorer.score_of in
    let disk = g.D.Disk in
    let old = c.args.log.now in
    let now = c.loop-number.log in
    let number = c.loop-number.number in
    let it = c.loop-number.invariant in
    let found : Found = c.check_arena.ensures.reads.0 in
    let here : slice_get now.heads number ≡ Some found = c.check_arena.ensures.reads.1 in
    let there : slice_get old.heads number ≡ Some found = ap (λ (l : LogState g.row.D.Denot). slice_get l.heads number) (sym it.reads.same) ∙ here in
    let after : slice_get c.check_arena.new.log.heads number ≡ Some found =
    ap (λ (l : LogState g.row.D.Denot). slice_get l.heads number) c.check_arena.ensures.reads.2.same ∙ here in
    let same : c.head-head.result ≡ found.head =
    c.head-head.ensures.head.2 ∙ ap (λ (f : Found). f.head) (same_Some c.head-head.ensures.head.0 found (sym c.head-head.ensures.head.1 ∙ after)) in
    let report : ArenaReport = record {
      number = number;
      clumps = c.head-head.result.clumps;
      used = c.head-head.result.used;
      sealed = c.head-head.result.sealed;
      damage = c.in_ok-damage.damage;
    } in
    subst (λ (rs : List ArenaReport). IsReporting score disk old c.check_arena.new.log (number + 1) rs) (sym c.in_ok-add.ensures.added)
    (report_more score disk old now c.check_arena.new.log number c.loop-number.arenas.items it found there report c.check_arena.ensures.reads.2 c.in_ok-damage.ensures.faults
    (record {
      number = refl;
      clumps = ap (λ (h : ArenaHead). h.clumps) same;
      used = ap (λ (h : ArenaHead). h.used) same;
      sealed = ap (λ (h : ArenaHead). h.sealed) same;
      differs = c.in_ok-damage.ensures.differs;
    })
    (λ tells its r file at read.
    let d = map_from disk.bytes now.disks r.part file (ap (λ (l : List (List ℕ)). slice_get l r.part) it.reads.disks.bytes_are ∙ read) in
    let head = head_there disk old its number r found file at there read in
    subst (λ (f : List ℕ). TellsOf score r found.head f c.in_ok-damage.damage) d.2
    (c.in_ok-damage.ensures.told r d.0 found tells (record { arena = ap (λ (l : LogState g.row.D.Denot). slice_get l.layout number) it.reads.same ∙ at; disk_is = d.1 }) here
    (subst (λ (f : List ℕ). own_fields (read_at r.region r.number f) ≡ fields_of found.head) (sym d.2) head))))
