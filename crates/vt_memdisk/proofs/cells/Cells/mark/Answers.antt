use Rattle.std.proofs.Common.{length, arith}
use Rattle.vt_memdisk.proofs.Combinations.{free_before}
use Rattle.vt_memdisk.proofs.Marks.{marks_set, still_clean}
use Rattle.vt_memdisk.proofs.cells.Cells.mark.Goals as goal

pub returns-clause-marks : goal.returns-clause-marks
returns-clause-marks c =
    let s = c.args.self.now in
    marks_set c.args.start c.args.n s.pending.items c.set_all.new.flags.items
    (omega (arith, s.pending_length)) c.set_all.ensures

pub invariant_of-self-clause-settled : goal.invariant_of-self-clause-settled
invariant_of-self-clause-settled c i free =
    let s = c.args.self.now in
    s.settled i (free_before c.args.start c.args.n s.pending.items c.set_all.new.flags.items
    (marks_set c.args.start c.args.n s.pending.items c.set_all.new.flags.items
    (omega (arith, s.pending_length)) c.set_all.ensures) i free)

pub invariant_of-self-clause-clean : goal.invariant_of-self-clause-clean
invariant_of-self-clause-clean c =
    let s = c.args.self.now in
    still_clean c.args.start c.args.n
    (length s.content.items) s.dirty.count c.add_range.new.self.count s.pending.items
    c.set_all.new.flags.items s.dirty.place.items c.add_range.new.self.place.items
    s.sectors s.clean
    (marks_set c.args.start c.args.n s.pending.items c.set_all.new.flags.items
    (omega (arith, s.pending_length)) c.set_all.ensures)
    c.add_range.ensures.added c.add_range.ensures.kept
