use Rattle.std.proofs.Common.{◌≡◌, Option, Some, ◌∙◌, ap, subst, arith}
use Rattle.std.specs.Prelude.{Result, Ok, Err}
use Rattle.vt_arena.specs.declared.error.BackBad.{BackBad}
use Rattle.vt_arena.specs.declared.error.BackBad.TheVariants.{Damaged}
use Rattle.vt_base.specs.declared.place.Info.{Info}
use Rattle.vt_base.specs.declared.place.Place.{Place}
use Rattle.vt_log.specs.Back.{TailState}
use Rattle.vt_log.specs.Log.{LogState}
use Rattle.vt_recover.proofs.NextBack.{BackAnswers, gives_block, gives_damage, has_next_back}
use Rattle.vt_recover.proofs.recalling.next_back.Goals as goal

pub returns-in-Ok-Some : goal.returns-in-Ok-Some
returns-in-Ok-Some g c =
    let score = g.S.Scorer.score_of in
    let l : LogState g.row.D.Denot = c.args.log.now in
    let new : LogState g.row.D.Denot = c.back.new.self in
    let t : TailState = c.args.tail.now in
    let after : TailState = c.back.new.tail in
    let e = c.back.ensures in
    let none : t.queued ≡ 0 = omega (arith, c.requires.tail.queue, c.requires.rest) in
    let it : BackAnswers score g.D.Disk l new t after c.back.result = record {
      blocks = e.blocks;
      entry = e.entry;
      differs = e.differs;
      tail = e.tail;
      left = e.left;
      reads = e.reads;
      cause = e.cause;
    } in
    let is : c.back.result ≡ Ok (Some c.in-Ok-Some.info) = c.in-Ok-Some.is ∙ ap (λ (o : Option Info). Ok o) c.in-Ok-Some.field-0-is in
    gives_block score g.D.Disk l new t after c.in-Ok-Some.info (has_next_back g.D.Disk l t c.requires.stands c.requires.tail none c.requires.some c.requires.come) none
    (subst (λ (r : Result (Option Info) BackBad). BackAnswers score g.D.Disk l new t after r) is it)

pub returns-in-Err-Damaged : goal.returns-in-Err-Damaged
returns-in-Err-Damaged g c =
    let score = g.S.Scorer.score_of in
    let l : LogState g.row.D.Denot = c.args.log.now in
    let new : LogState g.row.D.Denot = c.back.new.self in
    let t : TailState = c.args.tail.now in
    let after : TailState = c.back.new.tail in
    let e = c.back.ensures in
    let none : t.queued ≡ 0 = omega (arith, c.requires.tail.queue, c.requires.rest) in
    let it : BackAnswers score g.D.Disk l new t after c.back.result = record {
      blocks = e.blocks;
      entry = e.entry;
      differs = e.differs;
      tail = e.tail;
      left = e.left;
      reads = e.reads;
      cause = e.cause;
    } in
    let is : c.back.result ≡ Err (Damaged c.in-Err-Damaged.want c.in-Err-Damaged.found) = c.in-Err-Damaged.is ∙ ap (λ (b : BackBad). Err b) c.in-Err-Damaged.field-0-is in
    gives_damage score g.D.Disk l new t after c.in-Err-Damaged.want c.in-Err-Damaged.found c.tail_place.result (has_next_back g.D.Disk l t c.requires.stands c.requires.tail none c.requires.some c.requires.come) none
    (subst (λ (r : Result (Option Info) BackBad). BackAnswers score g.D.Disk l new t after r) is it) (ap (λ (p : Place). p.arena) c.tail_place.ensures)
