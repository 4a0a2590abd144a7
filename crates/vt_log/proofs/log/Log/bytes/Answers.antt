-- One disk is read.
use Rattle.std.proofs.Common.{rules, true, List, refl, ap, subst, get_or}
use Rattle.vt_part.specs.declared.layout.ArenaRegion.{ArenaRegion}
use Rattle.vt_log.specs.Whole.{IsWholeLog}
use Rattle.vt_log.proofs.Disks.{tells_set}
use Rattle.vt_log.proofs.Lists.{no_region}
use Rattle.vt_log.proofs.OnlyReads.{lent}
use Rattle.vt_log.proofs.log.Log.bytes.Goals as goal

pub invariant_of-self : goal.invariant_of-self
invariant_of-self g c =
    let r = get_or c.as_slice.result.now c.args.arena no_region in
    let it = lent g.S.Scorer.score_of g.D.Disk 1
    c.self.inside.parts.items c.args.arena r no_region c.index_mut.result.now c.read_at.new.disk
    _ c.args.self.now c.self.invariant c.self.view_is refl refl c.requires.arena
    (ap (λ (rs : List ArenaRegion). get_or rs c.args.arena no_region) c.as_slice.ensures)
    c.index_mut.ensures.value c.read_at.ensures.reads in
    it.only.whole (subst (IsWholeLog g.D.Disk) c.self.view_is c.self.invariant)

pub returns : goal.returns
returns g c =
    let r = get_or c.as_slice.result.now c.args.arena no_region in
    let it = lent g.S.Scorer.score_of g.D.Disk 1
    c.self.inside.parts.items c.args.arena r no_region c.index_mut.result.now c.read_at.new.disk
    _ c.args.self.now c.self.invariant c.self.view_is refl refl c.requires.arena
    (ap (λ (rs : List ArenaRegion). get_or rs c.args.arena no_region) c.as_slice.ensures)
    c.index_mut.ensures.value c.read_at.ensures.reads in
    record {
      read = search rules;
      reads = it.reads;
      spares = it.spares;
      cause = tells_set g.D.Disk.faults (λ _. true) c.args.self.now.disks _ r.part _ c.read_at.new.disk
          c.read_at.result it.only.was it.only.disks_are c.read_at.ensures.cause;
    }
