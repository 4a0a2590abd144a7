use Rattle.std.proofs.Common.{◌≡◌, ◌+◌, ◌∷◌, [], List, Some, take, length, refl, sym, ◌∙◌, ap, subst, arith, length-append}
use Rattle.std.specs.Prelude.{IsTrue, slice_get}
use Rattle.std.proofs.lemmas.Option.{slice_get_read}
use Rattle.vt_open.specs.Taking.{AreTaken}
use Rattle.vt_open.proofs.Handing.{none_taken}
use Rattle.vt_open.proofs.TakingAll.{next_refused, next_taken}
use Rattle.vt_open.proofs.taking.take_sections.Goals as goal

pub returns-in_default-clause-refused : goal.returns-in_default-clause-refused
returns-in_default-clause-refused g c =
    none_taken g.P.Disk.Disk (IsTrue g.P.Parts.tells) c.args.first 0 c.args.files.now (g.P.Parts.standing c.args.parts.now) (g.P.Parts.faults c.args.parts.now)

pub returns-in-Err-clause-refused : goal.returns-in-Err-clause-refused
returns-in-Err-clause-refused g c =
    let disk = g.P.Disk.Disk in
    let told = IsTrue g.P.Parts.tells in
    let files = c.args.files.now in
    let n = c.loop-number.number in
    let f = c.index-files-number.result in
    let i = c.loop-number.invariant in
    let at : slice_get files n ≡ Some f = slice_get_read files (length files) n f refl (omega arith) c.index-files-number.is in
    next_refused disk told c.args.first files n f (g.P.Parts.standing c.args.parts.now) (g.P.Parts.standing c.loop-number.parts) (g.P.Parts.standing c.take_disk.new.parts)
    (g.P.Parts.standing c.give_sections.new.parts) c.loop-number.disks.items (g.P.Parts.faults c.args.parts.now) (g.P.Parts.faults c.loop-number.parts)
    (g.P.Parts.faults c.take_disk.new.parts) (g.P.Parts.faults c.give_sections.new.parts) c.in-Err.bad at i.taken c.in-Err.ensures.refused
    c.give_sections.ensures.given i.faults c.give_sections.ensures.faults

pub loop-number-preserved : goal.loop-number-preserved
loop-number-preserved g c =
    let disk = g.P.Disk.Disk in
    let told = IsTrue g.P.Parts.tells in
    let files = c.args.files.now in
    let n = c.loop-number.number in
    let f = c.index-files-number.result in
    let i = c.loop-number.invariant in
    let d = c.in-Ok-take_disk.disk in
    let at : slice_get files n ≡ Some f = slice_get_read files (length files) n f refl (omega arith) c.index-files-number.is in
    let s0 = g.P.Parts.standing c.args.parts.now in
    let s2 = g.P.Parts.standing c.take_disk.new.parts in
    let items = c.push_reserved.ensures.items in
    record {
      room = omega (arith, i.room, c.push_reserved.ensures.capacity);
      many = omega (arith, i.many, ap length items ∙ length-append c.loop-number.disks.items (d ∷ []));
      taken = subst (λ (l : List g.row.P-Disk.Denot). AreTaken told (take (n + 1) files) s0 s2 l) (sym items)
          (next_taken disk told files n f s0 (g.P.Parts.standing c.loop-number.parts) s2 c.loop-number.disks.items d at i.taken c.in-Ok-take_disk.ensures.taken);
      faults = c.in-Ok-take_disk.ensures.faults ∙ i.faults;
    }
