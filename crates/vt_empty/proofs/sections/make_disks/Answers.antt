use Rattle.std.proofs.Common.{◌≡◌, ◌∷◌, [], length, ap, arith, length-append}
use Rattle.std.proofs.lemmas.List.Elements.{All-push, All-same}
use Rattle.vt_memdisk.specs.Memory.{memory_bytes}
use Rattle.vt_empty.proofs.sections.make_disks.Goals as goal

pub loop-preserved : goal.loop-preserved
loop-preserved c =
    let was = c.loop.invariant in
    let more = c.in_ok-push.ensures.items in
    let one = c.in_ok-new.field-0 in
    record {
      many = omega (arith, was.many, ap length more, length-append c.loop.disks.items (one ∷ []));
      len = All-same (λ d. length (memory_bytes d) ≡ c.args.len) c.push.new.self.items _ more
          (All-push (λ d. length (memory_bytes d) ≡ c.args.len) c.loop.disks.items one was.len c.in_ok-new.ensures.length);
    }
