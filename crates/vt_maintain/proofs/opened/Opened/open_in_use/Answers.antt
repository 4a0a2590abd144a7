use Rattle.std.proofs.Common.{◌≡◌, ℕ, List, length, None, Option, Some, ◌∙◌, ap, subst, arith}
use Rattle.std.specs.Prelude.{Err, slice_get}
use Rattle.vt_recover.specs.Opening.{IsFoundSection}
use Rattle.vt_core.specs.Opening.{TestsHeads, with_log, wrong_at}
use Rattle.vt_recover.proofs.Zips.{zip_length}
use Rattle.vt_isect.specs.Section.{SectionState}
use Rattle.vt_rebuild.specs.Building.{disks_under}
use Rattle.vt_maintain.proofs.Backs.{refused_use}
use Rattle.vt_maintain.proofs.opened.Opened.open_in_use.Goals as goal

pub test_heads-requires-clause-many : goal.test_heads-requires-clause-many
test_heads-requires-clause-many g c =
    let it = c.in_ok-opened.opened in
    let e = c.in_ok-opened.ensures in
    let many = zip_length (IsFoundSection g.D.Disk) c.args.devices.sections.items it.sections.items
    e.opened.sections_are in
    omega (arith, many, e.beside.part_is, ap length c.deref.ensures.value, c.requires.many)

pub returns-in-Ok-clause-in_use : goal.returns-in-Ok-clause-in_use
returns-in-Ok-clause-in_use g c =
    let it = c.in_ok-opened.opened in
    let heads = subst (λ (l : List (SectionState g.row.D.Denot)).
    (i : ℕ) (s : SectionState g.row.D.Denot) → slice_get l i ≡ Some s
    → wrong_at it.part l i s ≡ None) c.deref.ensures.value c.in-Ok.ensures in
    subst (λ (p : ℕ). (i : ℕ) (s : SectionState g.row.D.Denot)
    → slice_get it.sections.items i ≡ Some s → wrong_at p it.sections.items i s ≡ None)
    c.in_ok-opened.ensures.beside.part_is heads

pub returns-in-Err-clause-refused : goal.returns-in-Err-clause-refused
returns-in-Err-clause-refused g c =
    let it = c.in_ok-opened.opened in
    let e = c.in_ok-opened.ensures in
    let bad = c.in-Err.bad in
    let heads : TestsHeads {U = Unit {0}} it.part it.sections.items (Err bad) =
    subst (λ (l : List (SectionState g.row.D.Denot)). TestsHeads {U = Unit {0}} it.part l (Err bad))
    c.deref.ensures.value c.in-Err.ensures in
    refused_use g.D.Disk g.S.Scorer.score_of c.args.devices it.log it.sections.items bad
    c.close.result e.opened
    (subst (λ (p : ℕ). TestsHeads {U = Unit {0}} p it.sections.items (Err bad)) e.beside.part_is
    heads)
    (c.close.ensures.devices ∙ ap (λ (o : Option g.row.D.Denot). with_log it.log.disks
    (disks_under it.sections.items) o) e.filter)
    c.close.ensures.tables
