use Rattle.std.proofs.Common.{◌≡◌, ℕ, Bool, Option, inl, sym, ◌∙◌, ap, subst, arith}
use Rattle.std.specs.Prelude.{MatchOption, Ok}
use Rattle.vt_log.specs.Log.{LogState}
use Rattle.vt_shard.specs.Shard.{ShardState, ReadBucket, HasRead, bucket_at}
use Rattle.vt_lookup.specs.Finding.{TestsRoom, parts_of}
use Rattle.std.proofs.lemmas.Result.{err_from_is_err_and}
use Rattle.vt_lookup.proofs.TestWork.{differs_err, differs_false, differs_true, judges_collision, same_bucket, still_has, then_looks, wider_looks}
use Rattle.vt_lookup.proofs.writing.test_other.Goals as goal

pub returns-in_err-collides-clause-right : goal.returns-in_err-collides-clause-right
returns-in_err-collides-clause-right g c = λ setup h durable tells sound block scored nonzero none. let p = err_from_is_err_and c.from_residual.result c.from_residual.ensures.1 in
    rw (p.1, p.2) (inl (c.in_err-collides.ensures.right setup h durable tells sound scored nonzero))

pub returns-in_err-collides-clause-tests : goal.returns-in_err-collides-clause-tests
returns-in_err-collides-clause-tests g c =
    let it = c.in_err-collides.ensures.compares in
    let p = err_from_is_err_and c.from_residual.result c.from_residual.ensures.1 in
    rw (p.1, p.2) (record {
      other = it.other;
      mid = parts_of c.other_collides.new.log c.other_collides.new.shard;
      seeks = it.seeks;
      compares = differs_err c.args.block.now (TestsRoom g.D.Disk c.args.key.now.score.0 c.args.block.now) (parts_of c.other_collides.new.log c.other_collides.new.shard) it.other _ it.result_is;
    })

pub returns-then-collides-clause-right : goal.returns-then-collides-clause-right
returns-then-collides-clause-right g c = λ setup h durable tells sound block scored nonzero none.
    judges_collision g.S.Scorer.score_of setup h sound.legal c.args.key.now c.args.block.now block scored nonzero
    (sym (c.in_ok-collides.ensures.right setup h durable tells sound scored nonzero) ∙ c.if-collides.true)

pub returns-then-collides-clause-tests : goal.returns-then-collides-clause-tests
returns-then-collides-clause-tests g c =
    let it = c.in_ok-collides.ensures.compares in
    record {
      other = it.other;
      mid = parts_of c.other_collides.new.log c.other_collides.new.shard;
      seeks = it.seeks;
      compares = differs_true c.args.block.now (TestsRoom g.D.Disk c.args.key.now.score.0 c.args.block.now) (parts_of c.other_collides.new.log c.other_collides.new.shard) it.other
          (sym (ap (λ (b : Bool). Ok b) c.if-collides.true) ∙ it.result_is);
    }

pub test_room-requires-clause-range : goal.test_room-requires-clause-range
test_room-requires-clause-range g c = still_has g.D.Disk 0 c.args.shard.now c.other_collides.new.shard c.args.key.now.score.0 c.in_ok-collides.ensures.looks.shard c.requires.range

pub returns-clause-right : goal.returns-clause-right
returns-clause-right g c = λ setup h durable tells sound block scored nonzero none.
    c.test_room.ensures.right setup h durable tells (c.other_collides.ensures.sound setup h durable tells sound) block scored
    (sym (c.in_ok-collides.ensures.right setup h durable tells sound scored nonzero) ∙ c.if-collides.false) none

pub returns-clause-sound : goal.returns-clause-sound
returns-clause-sound g c = λ setup h durable tells sound. c.test_room.ensures.sound setup h durable tells (c.other_collides.ensures.sound setup h durable tells sound)

pub returns-clause-tests : goal.returns-clause-tests
returns-clause-tests g c =
    let it = c.in_ok-collides.ensures.compares in
    record {
      other = it.other;
      mid = parts_of c.other_collides.new.log c.other_collides.new.shard;
      seeks = it.seeks;
      compares = differs_false c.args.block.now (TestsRoom g.D.Disk c.args.key.now.score.0 c.args.block.now) (parts_of c.other_collides.new.log c.other_collides.new.shard) it.other
          c.test_room.result (parts_of c.other_collides.new.log c.test_room.new.shard) (sym (ap (λ (b : Bool). Ok b) c.if-collides.false) ∙ it.result_is) c.test_room.ensures.room;
    }

pub returns-clause-looks : goal.returns-clause-looks
returns-clause-looks g c =
    let s : ShardState g.row.D.Denot = c.args.shard.now in
    let s2 : ShardState g.row.D.Denot = c.other_collides.new.shard in
    let first = c.in_ok-collides.ensures.looks in
    let has : HasRead s2 (bucket_at s2 c.args.key.now.score.0) = subst (λ (n : ℕ). HasRead s2 n) (same_bucket g.D.Disk 0 s s2 c.args.key.now.score.0 first.shard)
    (subst (λ (o : Option ReadBucket). MatchOption o ⊥ (λ b. b.number ≡ bucket_at s c.args.key.now.score.0)) (sym c.other_collides.ensures.bucket) c.requires.read) in
    let last = c.test_room.ensures.read_last has in
    then_looks g.S.Scorer.score_of g.D.Disk 2 0 0 c.test_room.result (parts_of c.args.log.now s) (parts_of c.other_collides.new.log s2) (parts_of c.other_collides.new.log c.test_room.new.shard)
    first.shard first.counts (ap (λ (l : LogState g.row.D.Denot). l.layout) first.log.same) first.log
    (wider_looks g.S.Scorer.score_of g.D.Disk 0 0 2 0 c.test_room.result (parts_of c.other_collides.new.log s2) (parts_of c.other_collides.new.log c.test_room.new.shard) (omega arith) (omega arith) last)
