use Rattle.std.proofs.Common.{List, length, Err, Option, sym, ◌∙◌, ap, subst}
use Rattle.vt_core.specs.Opening.{with_log}
use Rattle.vt_recover.proofs.OpenWork.{items_after}
use Rattle.vt_isect.specs.Section.{SectionState}
use Rattle.vt_rebuild.specs.Building.{disks_under}
use Rattle.vt_maintain.specs.Opened.{AreOpened}
use Rattle.vt_maintain.proofs.Kept.{at_rest, rebuilds, stops}
use Rattle.vt_maintain.proofs.Rebuilt.{some_buckets}
use Rattle.vt_maintain.proofs.rebuilding.rebuild_devices.Goals as goal

pub rebuild-requires-clause-opened : goal.rebuild-requires-clause-opened
rebuild-requires-clause-opened g c =
    let it = c.in-Ok.opened in
    let opened = subst (λ (l : List (SectionState g.row.D.Denot)).
    AreOpened g.S.Scorer.score_of g.D.Disk c.args.devices it.log l) (sym c.deref_mut.ensures.value)
    c.in-Ok.ensures.opened in
    at_rest g.S.Scorer.score_of g.D.Disk c.args.devices it.log c.deref_mut.result.now opened

pub rebuild-requires-clause-some : goal.rebuild-requires-clause-some
rebuild-requires-clause-some g c =
    let it = c.in-Ok.opened in
    let opened = subst (λ (l : List (SectionState g.row.D.Denot)).
    AreOpened g.S.Scorer.score_of g.D.Disk c.args.devices it.log l) (sym c.deref_mut.ensures.value)
    c.in-Ok.ensures.opened in
    some_buckets g.D.Disk c.args.devices.sections.items c.deref_mut.result.now opened.sections_are
    c.requires.some_section

pub returns-in-Ok-rebuild : goal.returns-in-Ok-rebuild
returns-in-Ok-rebuild g c =
    let it = c.in-Ok.opened in
    let e = c.in-Ok-rebuild.ensures in
    let value = c.deref_mut.ensures.value in
    let log = c.rebuild.new.log in
    let news = c.rebuild.new.sections in
    let many = c.rebuild.auto.sections in
    let opened = subst (λ (l : List (SectionState g.row.D.Denot)).
    AreOpened g.S.Scorer.score_of g.D.Disk c.args.devices it.log l) (sym value)
    c.in-Ok.ensures.opened in
    let after = items_after it.sections.len it.sections.items news it.sections.ok.0
    (many ∙ ap length value) in
    let is = c.close.ensures.devices
    ∙ ap (λ (l : List (SectionState g.row.D.Denot)). with_log log.disks (disks_under l) it.filter)
    after
    ∙ ap (λ (o : Option g.row.D.Denot). with_log log.disks (disks_under news) o)
    c.in-Ok.ensures.filter in
    rebuilds g.S.Scorer.score_of g.D.Disk c.args.devices it.log c.deref_mut.result.now opened log
    news c.close.result e.keeps many is c.close.ensures.tables
    (c.close.ensures.filter ∙ c.in-Ok.ensures.filter) c.in-Ok-rebuild.blocks e.rebuilt e.room
    e.blocks e.faults

pub returns-in-Err-rebuild : goal.returns-in-Err-rebuild
returns-in-Err-rebuild g c =
    let it = c.in-Ok.opened in
    let e = c.in-Err-rebuild.ensures in
    let close = c.close-in-Err-rebuild.ensures in
    let value = c.deref_mut.ensures.value in
    let log = c.rebuild.new.log in
    let news = c.rebuild.new.sections in
    let many = c.rebuild.auto.sections in
    let bad = c.in-Err-rebuild.bad in
    let opened = subst (λ (l : List (SectionState g.row.D.Denot)).
    AreOpened g.S.Scorer.score_of g.D.Disk c.args.devices it.log l) (sym value)
    c.in-Ok.ensures.opened in
    let after = items_after it.sections.len it.sections.items news it.sections.ok.0
    (many ∙ ap length value) in
    let is = close.devices
    ∙ ap (λ (l : List (SectionState g.row.D.Denot)). with_log log.disks (disks_under l) it.filter)
    after
    ∙ ap (λ (o : Option g.row.D.Denot). with_log log.disks (disks_under news) o)
    c.in-Ok.ensures.filter in
    stops g.S.Scorer.score_of g.D.Disk c.args.devices it.log c.deref_mut.result.now opened log
    news c.close-in-Err-rebuild.result e.keeps many is close.tables
    (close.filter ∙ c.in-Ok.ensures.filter) bad e.left (λ h n has is. e.unwritten h n has (ap Err is))
    e.refused e.damage e.faults
