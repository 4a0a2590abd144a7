use Rattle.std.proofs.Common.{◌≡◌, ◌<◌, Some, List, length, sym, subst, arith}
use Rattle.std.specs.Prelude.{slice_get, slice_set, IsSome}
use Rattle.vt_shard.specs.Shard.{ShardState}
use Rattle.vt_core.specs.declared.event.Event.TheVariants.{FileAdvance}
use Rattle.vt_core.specs.declared.event.Out.{Out}
use Rattle.vt_core.specs.declared.event.Out.TheVariants.{Nothing}
use Rattle.vt_core.specs.Core.{CoreState, setup_of}
use Rattle.vt_core.specs.Steps.{Steps}
use Rattle.vt_core.specs.View.{state_of}
use Rattle.vt_recover.proofs.Places.{there_is}
use Rattle.vt_core.proofs.ShardWork.{shard_whole}
use Rattle.vt_recover.proofs.Owed.{under_way}
use Rattle.vt_core.proofs.ShardCall.{call_steps, idle_steps, step_keeps, never_damaged}
use Rattle.vt_core.specs.Whole.{IsWhole}
use Rattle.vt_core.proofs.Room.{room_stays, set_same}
use Rattle.vt_core.proofs.store.Core.advance_file.Goals as goal

pub returns-then-owed-eq0 : goal.returns-then-owed-eq0
returns-then-owed-eq0 g c =
    let k : CoreState g.row.D.Denot = state_of c.self.inside in
    let before : ShardState g.row.D.Denot = c.index_mut-part.result.now in
    let at : slice_get k.shards c.args.shard ≡ Some before = there_is k.shards c.args.shard before before
    (subst (λ (m : CoreState g.row.D.Denot). c.args.shard < length m.shards) (sym c.self.view_is) c.requires) (sym c.index_mut-part.ensures.value) in
    subst (λ (m : CoreState g.row.D.Denot). Steps g.S.Scorer.score_of g.D.Disk (FileAdvance c.args.shard) Nothing m (record k { shards = slice_set k.shards c.args.shard before })) c.self.view_is
    (idle_steps g.S.Scorer.score_of g.D.Disk k c.args.shard before at c.crash_gives_a_prefix.ensures.prefix c.self.invariant.0 (c.owed.ensures.none.0 c.if-owed-eq0.true))

pub invariant_of-self : goal.invariant_of-self
invariant_of-self g c =
    let k : CoreState g.row.D.Denot = state_of c.self.inside in
    let before : ShardState g.row.D.Denot = c.index_mut-part.result.now in
    let at : slice_get k.shards c.args.shard ≡ Some before = there_is k.shards c.args.shard before before
    (subst (λ (m : CoreState g.row.D.Denot). c.args.shard < length m.shards) (sym c.self.view_is) c.requires) (sym c.index_mut-part.ensures.value) in (
      subst (λ (shards : List (ShardState g.row.D.Denot)). IsWhole g.D.Disk (record k { shards = shards })) (sym (set_same k.shards c.args.shard before at)) c.self.invariant.0,
      room_stays k.shards c.args.shard before c.self.inside.room c.self.invariant.1,
    )

pub invariant_of-self-2 : goal.invariant_of-self-2
invariant_of-self-2 g c =
    let k : CoreState g.row.D.Denot = state_of c.self.inside in
    let before : ShardState g.row.D.Denot = c.index_mut-part.result.now in
    let after : ShardState g.row.D.Denot = c.advance-answer.new.self in
    let at : slice_get k.shards c.args.shard ≡ Some before = there_is k.shards c.args.shard before before
    (subst (λ (m : CoreState g.row.D.Denot). c.args.shard < length m.shards) (sym c.self.view_is) c.requires) (sym c.index_mut-part.ensures.value) in
    let some : IsSome before.writeback = under_way before.writeback c.owed.result c.owed.ensures.none (omega (arith, c.if-owed-eq0.false)) in (
      shard_whole g.S.Scorer.score_of g.D.Disk k c.args.shard before after at
          (step_keeps g.D.Disk k c.args.shard before after c.advance-answer.result (c.self.invariant.0.shards c.args.shard before at) some c.advance-answer.ensures.takes c.advance-answer.ensures.calls) c.self.invariant.0,
      room_stays k.shards c.args.shard after c.self.inside.room c.self.invariant.1,
    )

pub returns : goal.returns
returns g c =
    let k : CoreState g.row.D.Denot = state_of c.self.inside in
    let before : ShardState g.row.D.Denot = c.index_mut-part.result.now in
    let after : ShardState g.row.D.Denot = c.advance-answer.new.self in
    let at : slice_get k.shards c.args.shard ≡ Some before = there_is k.shards c.args.shard before before
    (subst (λ (m : CoreState g.row.D.Denot). c.args.shard < length m.shards) (sym c.self.view_is) c.requires) (sym c.index_mut-part.ensures.value) in
    let some : IsSome before.writeback = under_way before.writeback c.owed.result c.owed.ensures.none (omega (arith, c.if-owed-eq0.false)) in
    let own = c.advance-answer.ensures in
    subst (λ (m : CoreState g.row.D.Denot). Steps g.S.Scorer.score_of g.D.Disk (FileAdvance c.args.shard) c.out_of_writeback.result m (record k { shards = slice_set k.shards c.args.shard after })) c.self.view_is
    (subst (λ (o : Out). Steps g.S.Scorer.score_of g.D.Disk (FileAdvance c.args.shard) o k (record k { shards = slice_set k.shards c.args.shard after })) (sym c.out_of_writeback.ensures)
    (call_steps g.S.Scorer.score_of g.D.Disk k c.args.shard before after at c.advance-answer.result c.crash_gives_a_prefix.ensures.prefix c.self.invariant.0
    (λ d tells. g.met.D.Disk.read_is_image d tells) some own.takes own.reads own.calls own.sound
    (λ tells h n was low high file within. own.crash g.S.Scorer.score_of (setup_of k) h k.log.durable 0 n tells was low high file within)
    (λ tells h was. never_damaged c.advance-answer.result (own.undamaged g.S.Scorer.score_of (setup_of k) h k.log.durable 0 tells (was.shards c.args.shard before at) was.legal.buckets))))
