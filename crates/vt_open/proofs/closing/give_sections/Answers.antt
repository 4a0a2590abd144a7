use Rattle.std.proofs.Common.{◌≡◌, ℕ, List, Some, get_or, length, refl, sym, ◌∙◌, ap, subst, arith}
use Rattle.std.specs.Prelude.{IsTrue, slice_get}
use Rattle.std.proofs.lemmas.Option.{slice_get-get_or}
use Rattle.vt_open.specs.Taking.{AreHandedBack}
use Rattle.vt_open.proofs.Giving.{given_all, given_bound, given_next, given_start, no_items, map_same}
use Rattle.vt_open.proofs.closing.give_sections.Goals as goal

pub loop-disk-init : goal.loop-disk-init
loop-disk-init g c = record {
  given = given_start (IsTrue g.P.Parts.tells) (λ (d : g.row.P-Disk.Denot). d) c.args.files.now c.args.disks.items (g.P.Parts.standing c.args.parts.now) c.requires;
  faults = refl;
}

pub loop-disk-preserved : goal.loop-disk-preserved
loop-disk-preserved g c =
    let told = IsTrue g.P.Parts.tells in
    let files = c.args.files.now in
    let rest = c.pop.new.self.items in
    let old = g.P.Parts.standing c.args.parts.now in
    let mid = g.P.Parts.standing c.loop-disk.parts in
    let bound = given_bound told (λ (d : g.row.P-Disk.Denot). d) files c.args.disks.items c.loop-disk.disks.items rest c.in-Some.disk old mid c.in-Some.ensures.items c.loop-disk.invariant.given in
    let len : c.len.result ≡ length rest = c.len.ensures ∙ c.pop.new.self.ok.0 in
    let f = get_or files c.len.result c.index-files-len.result in
    let at : slice_get files (length rest) ≡ Some f =
    slice_get-get_or files (length rest) c.index-files-len.result bound ∙ ap (λ (n : ℕ). Some (get_or files n c.index-files-len.result)) (sym len) in
    record {
      given = given_next told (λ (d : g.row.P-Disk.Denot). d) files c.args.disks.items c.loop-disk.disks.items rest c.in-Some.disk f old mid
          (g.P.Parts.standing c.done.new.self) c.in-Some.ensures.items at c.loop-disk.invariant.given (λ t was. c.done.ensures.back t was) (λ t n no. c.done.ensures.others t n no);
      faults = c.done.ensures.faults ∙ c.loop-disk.invariant.faults;
    }

pub returns-clause-given : goal.returns-clause-given
returns-clause-given g c =
    subst (λ (l : List g.row.P-Disk.Denot). AreHandedBack (IsTrue g.P.Parts.tells) c.args.files.now (g.P.Parts.standing c.args.parts.now) (g.P.Parts.standing c.loop-disk.parts) l) (map_same c.args.disks.items)
    (given_all (IsTrue g.P.Parts.tells) (λ (d : g.row.P-Disk.Denot). d) c.args.files.now c.args.disks.items c.loop-disk.disks.items
    (g.P.Parts.standing c.args.parts.now) (g.P.Parts.standing c.loop-disk.parts) (no_items c.loop-disk.disks.items (omega (arith, c.in_default.ensures.cases.0, c.loop-disk.disks.ok.0))) c.loop-disk.invariant.given)
