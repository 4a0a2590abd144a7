use Rattle.std.proofs.Common.{◌≡◌, ap, subst}
use Rattle.std.proofs.lemmas.Result.{err_from_is_err_and}
use Rattle.vt_isect.specs.declared.head.Head.{Head}
use Rattle.vt_isect.specs.Section.{SectionState}
use Rattle.vt_rebuild.specs.Building.{StopsInUse, in_use}
use Rattle.vt_rebuild.specs.Heads.{HasHead}
use Rattle.vt_rebuild.proofs.Counts.{on_err, on_ok}
use Rattle.vt_rebuild.proofs.Using.{has_head, holds_in_use, stops_at_head, stops_at_sync}
use Rattle.vt_rebuild.proofs.rebuilding.put_to_use.Goals as goal

pub returns-in_err-clear-clause-stops : goal.returns-in_err-clear-clause-stops
returns-in_err-clear-clause-stops g c =
    let p = err_from_is_err_and c.from_residual.result c.from_residual.ensures.1 in
    rw p.1 (stops_at_sync g.D.Disk c.soundness_is_kept.ensures.forget c.head-building.result.first c.args.section.now c.clear.new.self c.requires.rest c.clear.ensures.same
    c.clear.ensures.others (in_use c.args.blocks c.args.section.now.head) c.requires.next)

pub returns-clause-head : goal.returns-clause-head
returns-clause-head g c =
    let old : SectionState g.row.D.Denot = c.args.section.now in
    let new : SectionState g.row.D.Denot = c.change_head.new.section in
    let same : in_use c.args.blocks c.head-building.result ≡ in_use c.args.blocks old.head = ap (λ (x : Head). in_use c.args.blocks x) c.head-building.ensures in
    on_ok c.change_head.result
    (λ it. subst (λ (x : Head). HasHead g.D.Disk x old new) same
    (has_head g.D.Disk c.soundness_is_kept.ensures.forget c.head-building.result.first old c.clear.new.self c.requires.rest c.clear.ensures.same c.clear.ensures.others
    c.what_is_read_is_settled.ensures.settled c.in_ok-clear.ensures.settled c.in_ok-clear.ensures.read (in_use c.args.blocks c.head-building.result) new it))
    c.change_head.ensures.changed

pub returns-clause-used : goal.returns-clause-used
returns-clause-used g c = λ known tells was reads.
    let old : SectionState g.row.D.Denot = c.args.section.now in
    let new : SectionState g.row.D.Denot = c.change_head.new.section in
    on_ok c.change_head.result
    (λ it. holds_in_use g.D.Disk c.soundness_is_kept.ensures.forget c.head-building.result.first old c.clear.new.self c.requires.rest c.clear.ensures.same c.clear.ensures.others
    c.what_is_read_is_settled.ensures.settled c.in_ok-clear.ensures.settled c.in_ok-clear.ensures.read (in_use c.args.blocks c.head-building.result) new
    (ap (λ (x : Head). x.first) c.head-building.ensures) it known tells was reads)
    c.change_head.ensures.changed

pub returns-clause-stops : goal.returns-clause-stops
returns-clause-stops g c =
    let old : SectionState g.row.D.Denot = c.args.section.now in
    let new : SectionState g.row.D.Denot = c.change_head.new.section in
    let same : in_use c.args.blocks c.head-building.result ≡ in_use c.args.blocks old.head = ap (λ (x : Head). in_use c.args.blocks x) c.head-building.ensures in
    on_err c.change_head.result
    (λ stop. subst (λ (x : Head). StopsInUse g.D.Disk x old new) same
    (stops_at_head g.D.Disk c.soundness_is_kept.ensures.forget c.head-building.result.first old c.clear.new.self c.requires.rest c.clear.ensures.same c.clear.ensures.others
    c.what_is_read_is_settled.ensures.settled c.in_ok-clear.ensures.settled c.in_ok-clear.ensures.read (in_use c.args.blocks c.head-building.result) new stop))
    c.change_head.ensures.stops
