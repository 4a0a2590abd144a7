use Rattle.std.proofs.Common.{◌≡◌, Option, Some, ◌∙◌, ap, subst}
use Rattle.std.specs.Prelude.{Result, Ok, Err}
use Rattle.vt_arena.specs.declared.error.BackBad.{BackBad}
use Rattle.vt_arena.specs.declared.error.BackBad.TheVariants.{Damaged, Fault}
use Rattle.vt_base.specs.declared.place.Info.{Info}
use Rattle.vt_log.specs.Back.{TailState}
use Rattle.vt_log.specs.Log.{LogState}
use Rattle.vt_rebuild.proofs.NextBack.{BackAnswers, gives_block, gives_damage, gives_fault}
use Rattle.vt_rebuild.proofs.walking.next_back.Goals as goal

pub returns-in-Ok-Some : goal.returns-in-Ok-Some
returns-in-Ok-Some g c =
    let score = g.S.Scorer.score_of in
    let l : LogState g.row.D.Denot = c.args.log.now in
    let new : LogState g.row.D.Denot = c.back.new.self in
    let t : TailState = c.args.tail.now in
    let after : TailState = c.back.new.tail in
    let e = c.back.ensures in
    let it : BackAnswers score g.D.Disk l new t after c.back.result = record {
      blocks = e.blocks;
      differs = e.differs;
      tail = e.tail;
      left = e.left;
      reads = e.reads;
      cause = e.cause;
    } in
    let is : c.back.result ≡ Ok (Some c.in-Ok-Some.info) = c.in-Ok-Some.is ∙ ap (λ (o : Option Info). Ok o) c.in-Ok-Some.field-0-is in
    gives_block score g.D.Disk l new t after c.in-Ok-Some.info
    (subst (λ (r : Result (Option Info) BackBad). BackAnswers score g.D.Disk l new t after r) is it)

pub returns-in-Err-Fault : goal.returns-in-Err-Fault
returns-in-Err-Fault g c =
    let score = g.S.Scorer.score_of in
    let l : LogState g.row.D.Denot = c.args.log.now in
    let new : LogState g.row.D.Denot = c.back.new.self in
    let t : TailState = c.args.tail.now in
    let after : TailState = c.back.new.tail in
    let e = c.back.ensures in
    let it : BackAnswers score g.D.Disk l new t after c.back.result = record {
      blocks = e.blocks;
      differs = e.differs;
      tail = e.tail;
      left = e.left;
      reads = e.reads;
      cause = e.cause;
    } in
    let is : c.back.result ≡ Err Fault = c.in-Err-Fault.is ∙ ap (λ (b : BackBad). Err b) c.in-Err-Fault.field-0-is in
    gives_fault score g.D.Disk l new t after
    (subst (λ (r : Result (Option Info) BackBad). BackAnswers score g.D.Disk l new t after r) is it)

pub returns-in-Err-Damaged : goal.returns-in-Err-Damaged
returns-in-Err-Damaged g c =
    let score = g.S.Scorer.score_of in
    let l : LogState g.row.D.Denot = c.args.log.now in
    let new : LogState g.row.D.Denot = c.back.new.self in
    let t : TailState = c.args.tail.now in
    let after : TailState = c.back.new.tail in
    let e = c.back.ensures in
    let it : BackAnswers score g.D.Disk l new t after c.back.result = record {
      blocks = e.blocks;
      differs = e.differs;
      tail = e.tail;
      left = e.left;
      reads = e.reads;
      cause = e.cause;
    } in
    let is : c.back.result ≡ Err (Damaged c.in-Err-Damaged.want c.in-Err-Damaged.found) = c.in-Err-Damaged.is ∙ ap (λ (b : BackBad). Err b) c.in-Err-Damaged.field-0-is in
    gives_damage score g.D.Disk l new t after c.in-Err-Damaged.want c.in-Err-Damaged.found c.tail_place.result
    (subst (λ (r : Result (Option Info) BackBad). BackAnswers score g.D.Disk l new t after r) is it)
