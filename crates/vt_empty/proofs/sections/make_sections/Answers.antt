use Rattle.std.proofs.Common.{◌≡◌, ◌∷◌, [], length, ap, subst, arith, length-append}
use Rattle.std.proofs.lemmas.List.Elements.{All-push, All-same}
use Rattle.vt_empty.specs.Sections.{IsSectionOf, len_for}
use Rattle.vt_empty.proofs.Unfilled.{front_all, last_is}
use Rattle.vt_empty.proofs.sections.make_sections.Goals as goal

pub loop-disk-preserved : goal.loop-disk-preserved
loop-disk-preserved g c =
    let disk = g.D.Disk in
    let was = c.loop-disk.invariant in
    let more = c.in_ok-push.ensures.items in
    let less = c.in-Some.ensures.items in
    let one = c.in_ok-fresh_section.field-0 in
    let size = last_is (λ d. disk.size d ≡ len_for c.args.buckets) c.loop-disk.disks.items c.pop.new.self.items c.in-Some.disk less was.len in
    let made : IsSectionOf disk (len_for c.args.buckets) one = subst (λ n. IsSectionOf disk n one) size c.in_ok-fresh_section.ensures in
    record {
      many = omega (arith, was.many, ap length more, length-append c.loop-disk.sections.items (one ∷ []), ap length less, length-append c.pop.new.self.items (c.in-Some.disk ∷ []));
      len = front_all (λ d. disk.size d ≡ len_for c.args.buckets) c.loop-disk.disks.items c.pop.new.self.items c.in-Some.disk less was.len;
      each = All-same (IsSectionOf disk (len_for c.args.buckets)) c.push.new.self.items _ more (All-push (IsSectionOf disk (len_for c.args.buckets)) c.loop-disk.sections.items one was.each made);
    }
