use Rattle.std.proofs.Common.{◌≡◌, ℕ, Some, get_or, length, refl, sym, ◌∙◌, ap, arith}
use Rattle.std.specs.Prelude.{IsTrue, slice_get}
use Rattle.std.proofs.lemmas.Option.{slice_get-get_or}
use Rattle.vt_part.specs.declared.part.Part.{Part}
use Rattle.vt_partitions.specs.Parts.{there}
use Rattle.vt_open.proofs.Giving.{given_all, given_bound, given_next, given_start, no_items}
use Rattle.vt_open.proofs.closing.give_arenas.Goals as goal

pub loop-part-init : goal.loop-part-init
loop-part-init g c = record {
  given = given_start (IsTrue g.P.Parts.tells) (λ (p : Part g.row.P-Disk.Denot). p.disk) c.args.files.now c.args.arenas.items (g.P.Parts.standing c.args.parts.now) c.requires;
  faults = refl;
}

pub loop-part-preserved : goal.loop-part-preserved
loop-part-preserved g c =
    let told = IsTrue g.P.Parts.tells in
    let files = c.args.files.now in
    let rest = c.pop.new.self.items in
    let old = g.P.Parts.standing c.args.parts.now in
    let mid = g.P.Parts.standing c.loop-part.parts in
    let bound = given_bound told (λ (p : Part g.row.P-Disk.Denot). p.disk) files c.args.arenas.items c.loop-part.arenas.items rest c.in-Some.part old mid c.in-Some.ensures.items c.loop-part.invariant.given in
    let len : c.len.result ≡ length rest = c.len.ensures ∙ c.pop.new.self.ok.0 in
    let f = get_or files c.len.result c.index-files-len.result in
    let at : slice_get files (length rest) ≡ Some f =
    slice_get-get_or files (length rest) c.index-files-len.result bound ∙ ap (λ (n : ℕ). Some (get_or files n c.index-files-len.result)) (sym len) in
    record {
      given = given_next told (λ (p : Part g.row.P-Disk.Denot). p.disk) files c.args.arenas.items c.loop-part.arenas.items rest c.in-Some.part f old mid
          (g.P.Parts.standing c.done.new.self) c.in-Some.ensures.items at c.loop-part.invariant.given (λ t was. c.done.ensures.back t was ∙ ap there c.into_devices.ensures) (λ t n no. c.done.ensures.others t n no);
      faults = c.done.ensures.faults ∙ c.loop-part.invariant.faults;
    }

pub returns-clause-given : goal.returns-clause-given
returns-clause-given g c =
    given_all (IsTrue g.P.Parts.tells) (λ (p : Part g.row.P-Disk.Denot). p.disk) c.args.files.now c.args.arenas.items c.loop-part.arenas.items
    (g.P.Parts.standing c.args.parts.now) (g.P.Parts.standing c.loop-part.parts) (no_items c.loop-part.arenas.items (omega (arith, c.in_default.ensures.cases.0, c.loop-part.arenas.ok.0))) c.loop-part.invariant.given
