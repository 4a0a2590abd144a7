use Rattle.std.proofs.Common.{◌≡◌, ℕ, Bool, Option, None, inl, refl, sym, ◌∙◌, ap, subst, arith}
use Rattle.std.specs.Prelude.{Result, Ok}
use Rattle.vt_base.specs.declared.why.Why.{Why}
use Rattle.vt_log.specs.Answers.{OnlyReadsLog}
use Rattle.vt_log.specs.Log.{LogState}
use Rattle.vt_shard.specs.Shard.{ShardState, HasRead}
use Rattle.vt_lookup.specs.declared.writing.Verdict.{Verdict}
use Rattle.vt_lookup.specs.Finding.{Compares, HoldsBlock, JudgesWrite, SeeksBlock, SeeksOther, TestsOther, parts_of}
use Rattle.std.proofs.lemmas.Result.{err_from_is_err_and}
use Rattle.vt_lookup.specs.Seeking.{IsOwn}
use Rattle.vt_lookup.proofs.Seeks.{key_has_score, seeks_none}
use Rattle.vt_lookup.proofs.TestWork.{judges_own, none_collides, none_held, own_err, own_none, own_not_new, own_some, same_bucket, same_dirty, still_has, then_looks, wider_looks}
use Rattle.vt_lookup.proofs.writing.test_write.Goals as goal

abbrev found_ok : Option Bool → Result (Option Bool) Why
found_ok o = Ok o

pub returns-then-not-may_have-clause-tests : goal.returns-then-not-may_have-clause-tests
returns-then-not-may_have-clause-tests g c = λ setup h durable tells sound right block scored nonzero.
    let score = g.S.Scorer.score_of in
    let none = right c.if-not-may_have.true in
    c.test_room.ensures.right setup h durable tells sound block scored
    (none_collides score setup h sound.legal c.args.key.now c.args.block.now block scored nonzero c.collides_by_number.ensures.none none)
    (none_held score setup h sound.legal c.args.key.now c.args.block.now block scored nonzero c.held_by_number.ensures.none (λ i it. none i (key_has_score score h i c.args.key.now it)))

pub returns-then-not-may_have-clause-read : goal.returns-then-not-may_have-clause-read
returns-then-not-may_have-clause-read g c =
    let old = parts_of c.args.log.now c.args.shard.now in
    let new = parts_of c.args.log.now c.test_room.new.shard in
    record {
      own = Ok None;
      mid = old;
      seeks = seeks_none g.S.Scorer.score_of g.D.Disk c.args.may_have c.args.key.now old c.if-not-may_have.true;
      compares = record {
        other = Ok None;
        mid = old;
        seeks = subst (λ (b : Bool). SeeksOther g.S.Scorer.score_of g.D.Disk b c.args.key.now.score.0 (Ok None) old old) (sym c.if-not-may_have.true) (refl, refl);
        compares = c.test_room.ensures.room;
      };
    }

pub returns-then-not-may_have-clause-looks : goal.returns-then-not-may_have-clause-looks
returns-then-not-may_have-clause-looks g c =
    wider_looks g.S.Scorer.score_of g.D.Disk 0 2 2 2 c.test_room.result (parts_of c.args.log.now c.args.shard.now) (parts_of c.args.log.now c.test_room.new.shard) (omega arith) (omega arith) c.test_room.ensures.looks

pub returns-in_err-own-clause-tests : goal.returns-in_err-own-clause-tests
returns-in_err-own-clause-tests g c = λ setup h durable tells sound right block scored nonzero. let p = err_from_is_err_and c.from_residual.result c.from_residual.ensures.1 in
    rw (p.1, p.2) (inl (c.in_err-own.ensures.right setup h durable tells sound))

pub returns-in_err-own-clause-read : goal.returns-in_err-own-clause-read
returns-in_err-own-clause-read g c =
    let old = parts_of c.args.log.now c.args.shard.now in
    let mid = parts_of c.compare_block.new.log c.compare_block.new.shard in
    let it = c.in_err-own.ensures.compares in
    let p = err_from_is_err_and c.from_residual.result c.from_residual.ensures.1 in
    rw (p.1, p.2) (record {
      own = it.own;
      mid = mid;
      seeks = subst (λ (b : Bool). SeeksBlock g.S.Scorer.score_of g.D.Disk b c.args.key.now it.own old mid) (sym c.if-not-may_have.false) it.seeks;
      compares = own_err c.args.block.now (TestsOther g.S.Scorer.score_of g.D.Disk c.args.may_have c.args.key.now.score.0 c.args.block.now) mid it.own _ it.result_is;
    })

pub returns-in-Some-clause-tests : goal.returns-in-Some-clause-tests
returns-in-Some-clause-tests g c = λ setup h durable tells sound right block scored nonzero.
    subst (λ (v : Result Verdict Why). JudgesWrite g.S.Scorer.score_of setup h c.args.key.now c.args.block.now v) (sym c.judge_own.ensures)
    (judges_own g.S.Scorer.score_of setup h sound.legal c.args.key.now c.args.block.now block scored nonzero c.held_by_number.ensures.block c.collides_by_number.ensures.same c.collides_by_number.ensures.other
    c.in-Some.same
    (subst (λ (o : Option Bool). IsOwn g.S.Scorer.score_of h c.args.key.now c.args.block.now o) c.in-Some.is (c.in_ok-own.ensures.right setup h durable tells sound)))

pub returns-in-Some-clause-read : goal.returns-in-Some-clause-read
returns-in-Some-clause-read g c =
    let old = parts_of c.args.log.now c.args.shard.now in
    let mid = parts_of c.compare_block.new.log c.compare_block.new.shard in
    let it = c.in_ok-own.ensures.compares in
    let is = ap (λ (o : Option Bool). found_ok o) (sym c.in-Some.is) ∙ it.result_is in
    let room = TestsOther g.S.Scorer.score_of g.D.Disk c.args.may_have c.args.key.now.score.0 c.args.block.now in
    record {
      own = it.own;
      mid = mid;
      seeks = subst (λ (b : Bool). SeeksBlock g.S.Scorer.score_of g.D.Disk b c.args.key.now it.own old mid) (sym c.if-not-may_have.false) it.seeks;
      compares = subst (λ (v : Result Verdict Why). Compares it.own c.args.block.now HoldsBlock room v mid mid) (sym c.judge_own.ensures) (own_some c.args.block.now room mid it.own c.in-Some.same is);
    }

pub test_other-requires-clause-range : goal.test_other-requires-clause-range
test_other-requires-clause-range g c = still_has g.D.Disk 2 c.args.shard.now c.compare_block.new.shard c.args.key.now.score.0 c.in_ok-own.ensures.looks.shard c.requires.range

pub test_other-requires-clause-read : goal.test_other-requires-clause-read
test_other-requires-clause-read g c =
    let s : ShardState g.row.D.Denot = c.args.shard.now in
    let s2 : ShardState g.row.D.Denot = c.compare_block.new.shard in
    subst (λ (n : ℕ). HasRead s2 n) (same_bucket g.D.Disk 2 s s2 c.args.key.now.score.0 c.in_ok-own.ensures.looks.shard) (c.in_ok-own.ensures.absent (ap (λ (o : Option Bool). found_ok o) c.in-None.is)).1

pub returns-in-None-clause-tests : goal.returns-in-None-clause-tests
returns-in-None-clause-tests g c = λ setup h durable tells sound right block scored nonzero.
    let score = g.S.Scorer.score_of in
    c.test_other.ensures.right setup h durable tells (c.compare_block.ensures.sound setup h durable tells sound) block scored nonzero
    (none_held score setup h sound.legal c.args.key.now c.args.block.now block scored nonzero c.held_by_number.ensures.none (subst (λ (o : Option Bool). IsOwn g.S.Scorer.score_of h c.args.key.now c.args.block.now o) c.in-None.is (c.in_ok-own.ensures.right setup h durable tells sound)))

pub returns-in-None-clause-sound : goal.returns-in-None-clause-sound
returns-in-None-clause-sound g c = λ setup h durable tells sound. c.test_other.ensures.sound setup h durable tells (c.compare_block.ensures.sound setup h durable tells sound)

pub returns-in-None-clause-read : goal.returns-in-None-clause-read
returns-in-None-clause-read g c =
    let old = parts_of c.args.log.now c.args.shard.now in
    let mid = parts_of c.compare_block.new.log c.compare_block.new.shard in
    let new = parts_of c.test_other.new.log c.test_other.new.shard in
    let it = c.in_ok-own.ensures.compares in
    let is = ap (λ (o : Option Bool). found_ok o) (sym c.in-None.is) ∙ it.result_is in
    let room = TestsOther g.S.Scorer.score_of g.D.Disk c.args.may_have c.args.key.now.score.0 c.args.block.now in
    record {
      own = it.own;
      mid = mid;
      seeks = subst (λ (b : Bool). SeeksBlock g.S.Scorer.score_of g.D.Disk b c.args.key.now it.own old mid) (sym c.if-not-may_have.false) it.seeks;
      compares = own_none c.args.block.now room mid it.own c.test_other.result new is
          (subst (λ (b : Bool). TestsOther g.S.Scorer.score_of g.D.Disk b c.args.key.now.score.0 c.args.block.now c.test_other.result mid new) (sym c.if-not-may_have.false) c.test_other.ensures.tests);
    }

pub returns-in-None-clause-looks : goal.returns-in-None-clause-looks
returns-in-None-clause-looks g c =
    let old = parts_of c.args.log.now c.args.shard.now in
    let mid = parts_of c.compare_block.new.log c.compare_block.new.shard in
    let new = parts_of c.test_other.new.log c.test_other.new.shard in
    let first = c.in_ok-own.ensures.looks in
    let same : c.compare_block.new.log ≡ c.args.log.now = (c.in_ok-own.ensures.absent (ap (λ (o : Option Bool). found_ok o) c.in-None.is)).0 in
    then_looks g.S.Scorer.score_of g.D.Disk 2 2 0 c.test_other.result old mid new first.shard first.counts (ap (λ (l : LogState g.row.D.Denot). l.layout) same)
    (subst (λ (l : LogState g.row.D.Denot). OnlyReadsLog g.S.Scorer.score_of g.D.Disk 2 l c.test_other.new.log) same c.test_other.ensures.looks.log) c.test_other.ensures.looks

pub returns-in-None-clause-absent : goal.returns-in-None-clause-absent
returns-in-None-clause-absent g c = λ new _.
    same_dirty c.args.key.now c.compare_block.new.shard c.test_other.new.shard c.test_other.ensures.looks.shard.dirty (c.in_ok-own.ensures.absent (ap (λ (o : Option Bool). found_ok o) c.in-None.is)).2

pub returns-in-Some-clause-fits : goal.returns-in-Some-clause-fits
returns-in-Some-clause-fits g c = λ new. absurd (own_not_new c.in-Some.same (sym c.judge_own.ensures ∙ new))

pub returns-in-Some-clause-absent : goal.returns-in-Some-clause-absent
returns-in-Some-clause-absent g c = λ new. absurd (own_not_new c.in-Some.same (sym c.judge_own.ensures ∙ new))
