use Rattle.std.proofs.Common.{List, subst}
use Rattle.vt_base.specs.declared.place.Entry.{Entry}
use Rattle.vt_isect.specs.Section.{AreInRange}
use Rattle.vt_index_tests.proofs.sections.SectionTestSection.begin_writeback.Goals as goal

pub begin_file-requires-clause-in_range : goal.begin_file-requires-clause-in_range
begin_file-requires-clause-in_range g c =
    let t = c.args.self.now in
    subst (λ (l : List Entry). AreInRange t.head t.buckets l) c.as_slice.ensures
    (c.has_buckets.ensures.0 c.if-not-has_buckets.false)
