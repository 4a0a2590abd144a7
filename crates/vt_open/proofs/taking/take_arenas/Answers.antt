use Rattle.std.proofs.Common.{◌≡◌, ◌+◌, ◌∷◌, [], List, Some, take, length, refl, sym, ◌∙◌, ap, subst, arith, length-append}
use Rattle.std.specs.Prelude.{IsTrue, slice_get}
use Rattle.std.proofs.lemmas.Option.{slice_get_read}
use Rattle.vt_part.specs.declared.part.Part.{Part}
use Rattle.vt_open.specs.Taking.{AreTakenArenas}
use Rattle.vt_open.proofs.Handing.{none_taken}
use Rattle.vt_open.proofs.TakingAll.{arenas_start, next_refused_arena, next_taken_arena}
use Rattle.vt_open.proofs.taking.take_arenas.Goals as goal

pub returns-in_default-clause-refused : goal.returns-in_default-clause-refused
returns-in_default-clause-refused g c =
    none_taken g.P.Disk.Disk (IsTrue g.P.Parts.tells) 0 (length c.args.files.now) c.args.files.now (g.P.Parts.standing c.args.parts.now) (g.P.Parts.faults c.args.parts.now)

pub returns-in-Err-clause-refused : goal.returns-in-Err-clause-refused
returns-in-Err-clause-refused g c =
    let disk = g.P.Disk.Disk in
    let told = IsTrue g.P.Parts.tells in
    let files = c.args.files.now in
    let n = c.loop-number.number in
    let f = c.index-files-number.result in
    let i = c.loop-number.invariant in
    let at : slice_get files n ≡ Some f = slice_get_read files (length files) n f refl (omega arith) c.index-files-number.is in
    next_refused_arena disk told files n f (g.P.Parts.standing c.args.parts.now) (g.P.Parts.standing c.loop-number.parts) (g.P.Parts.standing c.take_part.new.parts)
    (g.P.Parts.standing c.give_arenas.new.parts) c.loop-number.arenas.items (g.P.Parts.faults c.args.parts.now) (g.P.Parts.faults c.loop-number.parts)
    (g.P.Parts.faults c.take_part.new.parts) (g.P.Parts.faults c.give_arenas.new.parts) c.in-Err.bad at i.taken c.in-Err.ensures.refused
    c.give_arenas.ensures.given i.faults c.give_arenas.ensures.faults

pub loop-number-preserved : goal.loop-number-preserved
loop-number-preserved g c =
    let disk = g.P.Disk.Disk in
    let told = IsTrue g.P.Parts.tells in
    let files = c.args.files.now in
    let n = c.loop-number.number in
    let f = c.index-files-number.result in
    let i = c.loop-number.invariant in
    let p = c.in-Ok-take_part.part in
    let at : slice_get files n ≡ Some f = slice_get_read files (length files) n f refl (omega arith) c.index-files-number.is in
    let s0 = g.P.Parts.standing c.args.parts.now in
    let s2 = g.P.Parts.standing c.take_part.new.parts in
    let items = c.push_reserved.ensures.items in
    record {
      room = omega (arith, i.room, c.push_reserved.ensures.capacity);
      many = omega (arith, i.many, ap length items ∙ length-append c.loop-number.arenas.items (p ∷ []));
      taken = subst (λ (l : List (Part g.row.P-Disk.Denot)). AreTakenArenas disk told (take (n + 1) files) s0 s2 l) (sym items)
          (next_taken_arena disk told files n f s0 (g.P.Parts.standing c.loop-number.parts) s2 c.loop-number.arenas.items p at i.taken c.in-Ok-take_part.ensures.taken);
      faults = c.in-Ok-take_part.ensures.faults ∙ i.faults;
    }

pub loop-number-init : goal.loop-number-init
loop-number-init g c =
    let none = c.in-Ok.ensures.items in
    record {
      room = omega (arith, c.in-Ok.ensures.capacity);
      many = ap length none;
      taken = subst (λ (l : List (Part g.row.P-Disk.Denot)). AreTakenArenas g.P.Disk.Disk (IsTrue g.P.Parts.tells) (take 0 c.args.files.now) (g.P.Parts.standing c.args.parts.now) (g.P.Parts.standing c.args.parts.now) l)
          (sym none) (arenas_start g.P.Disk.Disk (IsTrue g.P.Parts.tells) c.args.files.now (g.P.Parts.standing c.args.parts.now));
      faults = refl;
    }
