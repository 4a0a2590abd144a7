use Rattle.std.proofs.Common.{◌≡◌, ◌*◌, ℕ, List, length, map, replicate, sym, ◌∙◌, ap, subst, arith}
use Rattle.vt_isect.specs.Layout.{buckets_in}
use Rattle.vt_isect.specs.Section.{SectionState}
use Rattle.vt_format.specs.Usage.{AreUsed, total_buckets}
use Rattle.vt_empty.specs.Formatted.{AreUnfilled}
use Rattle.vt_empty.proofs.Unfilled.{all_counts, all_unfilled, buckets_all, if_ok, never_stops, written_back}
use Rattle.vt_empty.proofs.sections.put_sections.Goals as goal

pub put_all_to_use-requires-clause-few : goal.put_all_to_use-requires-clause-few
put_all_to_use-requires-clause-few g c =
    let made = c.in_ok-sections.ensures in
    let same = ap (λ (ts : List (SectionState g.row.D.Denot)). total_buckets ts) c.deref_mut.ensures.value in
    let sums = buckets_all g.D.Disk c.args.buckets c.ranges.buckets.fits c.in_ok-sections.sections.items made.each in
    let product = ap (λ (n : ℕ). n * c.args.buckets) made.many in
    let most = c.requires.most in
    omega (arith, same, sums, product, most)

pub unreachable-requires : goal.unreachable-requires
unreachable-requires g c =
    never_stops g.D.Disk c.requires.never c.in_default.field-0 (total_buckets c.deref_mut.result.now) c.deref_mut.result.now c.put_all_to_use.new.sections c.in_default.ensures.among c.in_default.ensures.stops

pub returns-clause-unfilled : goal.returns-clause-unfilled
returns-clause-unfilled g c =
    let disk = g.D.Disk in
    let items = c.in_ok-sections.sections.items in
    let news = c.put_all_to_use.new.sections in
    let made = c.in_ok-sections.ensures in
    let old = c.deref_mut.ensures.value in
    let used : AreUsed disk c.in-Ok.field-0 items news = subst (λ (ts : List (SectionState g.row.D.Denot)). AreUsed disk c.in-Ok.field-0 ts news) old c.in-Ok.ensures.used in
    let total : c.in-Ok.field-0 ≡ total_buckets items = c.in-Ok.ensures.total ∙ ap (λ (ts : List (SectionState g.row.D.Denot)). total_buckets ts) old in
    let back = written_back news items c.in_ok-sections.sections.len used.many (sym c.deref_mut.ensures.len ∙ ap length old) in
    if_ok c.disks_of.result (λ it. it.items ≡ _) (λ it. AreUnfilled disk 0 (length c.args.disks.items * c.args.buckets) it.items)
    (λ it is. subst (λ (ds : List _). AreUnfilled disk 0 (length c.args.disks.items * c.args.buckets) ds) (sym (is ∙ ap (λ (ts : List (SectionState g.row.D.Denot)). map (λ (s : SectionState g.row.D.Denot). s.disk) ts) back))
    (all_unfilled disk c.args.buckets (length c.args.disks.items) c.in-Ok.field-0 c.ranges.buckets.fits items news c.requires.tells made total used)) c.disks_of.ensures

pub returns-clause-buckets : goal.returns-clause-buckets
returns-clause-buckets g c =
    let disk = g.D.Disk in
    let items = c.in_ok-sections.sections.items in
    let news = c.put_all_to_use.new.sections in
    let made = c.in_ok-sections.ensures in
    let old = c.deref_mut.ensures.value in
    let used : AreUsed disk c.in-Ok.field-0 items news = subst (λ (ts : List (SectionState g.row.D.Denot)). AreUsed disk c.in-Ok.field-0 ts news) old c.in-Ok.ensures.used in
    let back = written_back news items c.in_ok-sections.sections.len used.many (sym c.deref_mut.ensures.len ∙ ap length old) in
    if_ok c.disks_of.result (λ it. it.items ≡ _) (λ it. map (λ (d : g.row.D.Denot). buckets_in (disk.size d)) it.items ≡ replicate (length c.args.disks.items) c.args.buckets)
    (λ it is. ap (λ (ds : List _). map (λ (d : g.row.D.Denot). buckets_in (disk.size d)) ds) (is ∙ ap (λ (ts : List (SectionState g.row.D.Denot)). map (λ (s : SectionState g.row.D.Denot). s.disk) ts) back)
    ∙ all_counts disk c.args.buckets (length c.args.disks.items) c.ranges.buckets.fits items news used.many made.many (λ i old new at also. (used.each i old new at also).size) made.each) c.disks_of.ensures
