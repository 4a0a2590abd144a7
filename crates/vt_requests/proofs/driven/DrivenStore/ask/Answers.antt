use Rattle.std.proofs.Common.{refl, subst}
use Rattle.vt_base.specs.Operations.{operation_of}
use Rattle.vt_base.specs.Protocol.{Operation}
use Rattle.vt_handler.specs.Serving.{Suits}
use Rattle.vt_requests.specs.Driven.{DrivenState}
use Rattle.vt_requests.proofs.DrivenServes.{asked, goes_on, serves, tells_cause, told_of}
use Rattle.vt_requests.proofs.driven.DrivenStore.ask.Goals as goal

pub returns-clause-serves : goal.returns-clause-serves
returns-clause-serves g c h hold =
    let before : DrivenState g.row.D.Denot = record { core = c.self.inside.core; now = c.self.inside.now } in
    let new : DrivenState g.row.D.Denot = record { core = c.ask.new.core; now = c.self.inside.now } in
    let m : Operation = operation_of c.args.operation in
    let it = told_of g.S.Scorer.score_of g.D.Disk m c.asked_for-operation.result c.ask.result before c.args.self.now new c.self.view_is c.asked_for-operation.ensures c.ask.ensures in
    serves g.S.Scorer.score_of g.D.Disk g.met.D.Disk.faults_fit m c.ask.result c.args.self.now new it h hold c.ask.result.said refl

pub returns-clause-cause : goal.returns-clause-cause
returns-clause-cause g c =
    let before : DrivenState g.row.D.Denot = record { core = c.self.inside.core; now = c.self.inside.now } in
    let new : DrivenState g.row.D.Denot = record { core = c.ask.new.core; now = c.self.inside.now } in
    let m : Operation = operation_of c.args.operation in
    let it = told_of g.S.Scorer.score_of g.D.Disk m c.asked_for-operation.result c.ask.result before c.args.self.now new c.self.view_is c.asked_for-operation.ensures c.ask.ensures in
    tells_cause g.S.Scorer.score_of g.D.Disk g.met.D.Disk.faults_fit m c.ask.result c.args.self.now new it c.ask.result.said refl

pub returns-clause-goes_on : goal.returns-clause-goes_on
returns-clause-goes_on g c =
    let before : DrivenState g.row.D.Denot = record { core = c.self.inside.core; now = c.self.inside.now } in
    let new : DrivenState g.row.D.Denot = record { core = c.ask.new.core; now = c.self.inside.now } in
    let m : Operation = operation_of c.args.operation in
    goes_on g.S.Scorer.score_of g.D.Disk g.met.D.Disk.faults_fit m c.ask.result c.args.self.now new
    (told_of g.S.Scorer.score_of g.D.Disk m c.asked_for-operation.result c.ask.result before c.args.self.now new c.self.view_is c.asked_for-operation.ensures c.ask.ensures)

pub returns-clause-once : goal.returns-clause-once
returns-clause-once g c =
    let before : DrivenState g.row.D.Denot = record { core = c.self.inside.core; now = c.self.inside.now } in
    let new : DrivenState g.row.D.Denot = record { core = c.ask.new.core; now = c.self.inside.now } in
    asked g.S.Scorer.score_of g.D.Disk (operation_of c.args.operation) c.asked_for-operation.result c.ask.result c.ask.result.said before c.args.self.now new c.self.view_is refl refl c.asked_for-operation.ensures c.ask.ensures

pub returns-clause-suits : goal.returns-clause-suits
returns-clause-suits g c = subst (λ (m : Operation). Suits g.S.Scorer.score_of m c.ask.result.said) c.asked_for-operation.ensures c.ask.ensures.suits
