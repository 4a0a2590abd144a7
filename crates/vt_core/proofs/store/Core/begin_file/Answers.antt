use Rattle.std.proofs.Common.{◌≡◌, ◌<◌, ℕ, inl, Some, None, List, length, refl, sym, subst, arith}
use Rattle.std.specs.Prelude.{slice_get, slice_set}
use Rattle.vt_shard.specs.Shard.{ShardState}
use Rattle.vt_core.specs.declared.event.Event.TheVariants.{FileBegin}
use Rattle.vt_core.specs.declared.event.Out.{Out}
use Rattle.vt_core.specs.declared.event.Out.TheVariants.{Nothing}
use Rattle.vt_core.specs.Core.{CoreState, setup_of}
use Rattle.vt_core.specs.Steps.{Steps}
use Rattle.vt_core.specs.View.{state_of}
use Rattle.vt_core.specs.Work.{BeginsWriteback}
use Rattle.vt_recover.proofs.Places.{there_is}
use Rattle.vt_core.proofs.ShardWork.{shard_whole, begun_rests, begun_writeback, file_steps}
use Rattle.vt_recover.proofs.Owed.{under_way}
use Rattle.vt_core.specs.Whole.{IsWhole}
use Rattle.vt_core.proofs.Room.{room_stays, set_same}
use Rattle.vt_core.proofs.store.Core.begin_file.Goals as goal

pub returns-then-owed-gt0 : goal.returns-then-owed-gt0
returns-then-owed-gt0 g c =
    let k : CoreState g.row.D.Denot = state_of c.self.inside in
    let before : ShardState g.row.D.Denot = c.index_mut-part.result.now in
    let at : slice_get k.shards c.args.shard ≡ Some before = there_is k.shards c.args.shard before before
    (subst (λ (m : CoreState g.row.D.Denot). c.args.shard < length m.shards) (sym c.self.view_is) c.requires) (sym c.index_mut-part.ensures.value) in
    let it : BeginsWriteback k.log.durable Nothing before before = (inl (under_way before.writeback c.owed.result c.owed.ensures.none c.if-owed-gt0.true), refl) in
    subst (λ (m : CoreState g.row.D.Denot). Steps g.S.Scorer.score_of g.D.Disk (FileBegin c.args.shard) Nothing m (record k { shards = slice_set k.shards c.args.shard before })) c.self.view_is
    (file_steps g.S.Scorer.score_of g.D.Disk k c.args.shard before at c.crash_gives_a_prefix.ensures.prefix c.self.invariant.0 Nothing before it (λ tells h was. was))

pub invariant_of-self : goal.invariant_of-self
invariant_of-self g c =
    let k : CoreState g.row.D.Denot = state_of c.self.inside in
    let before : ShardState g.row.D.Denot = c.index_mut-part.result.now in
    let at : slice_get k.shards c.args.shard ≡ Some before = there_is k.shards c.args.shard before before
    (subst (λ (m : CoreState g.row.D.Denot). c.args.shard < length m.shards) (sym c.self.view_is) c.requires) (sym c.index_mut-part.ensures.value) in (
      subst (λ (shards : List (ShardState g.row.D.Denot)). IsWhole g.D.Disk (record k { shards = shards })) (sym (set_same k.shards c.args.shard before at)) c.self.invariant.0,
      room_stays k.shards c.args.shard before c.self.inside.room c.self.invariant.1,
    )

pub invariant_of-self-2 : goal.invariant_of-self-2
invariant_of-self-2 g c =
    let k : CoreState g.row.D.Denot = state_of c.self.inside in
    let before : ShardState g.row.D.Denot = c.index_mut-part.result.now in
    let after : ShardState g.row.D.Denot = c.begin_file-begun.new.self in
    let at : slice_get k.shards c.args.shard ≡ Some before = there_is k.shards c.args.shard before before
    (subst (λ (m : CoreState g.row.D.Denot). c.args.shard < length m.shards) (sym c.self.view_is) c.requires) (sym c.index_mut-part.ensures.value) in
    let rest : before.writeback ≡ None = c.owed.ensures.none.0 (omega (arith, c.if-owed-gt0.false)) in
    let own = c.begin_file-begun.ensures in
    let it : BeginsWriteback c.durable-durable.result c.moved_if.result before after = subst (λ (o : Out). BeginsWriteback c.durable-durable.result o before after) (sym c.moved_if.ensures)
    (begun_writeback c.durable-durable.result before after c.begin_file-begun.result rest own.begins own.begun own.idle) in (
      shard_whole g.S.Scorer.score_of g.D.Disk k c.args.shard before after at
          (begun_rests g.S.Scorer.score_of g.D.Disk k c.args.shard before at c.crash_gives_a_prefix.ensures.prefix c.self.invariant.0 c.moved_if.result after
          (subst (λ (n : ℕ). BeginsWriteback n c.moved_if.result before after) c.durable-durable.ensures it)).keeps c.self.invariant.0,
      room_stays k.shards c.args.shard after c.self.inside.room c.self.invariant.1,
    )

pub returns : goal.returns
returns g c =
    let k : CoreState g.row.D.Denot = state_of c.self.inside in
    let before : ShardState g.row.D.Denot = c.index_mut-part.result.now in
    let after : ShardState g.row.D.Denot = c.begin_file-begun.new.self in
    let at : slice_get k.shards c.args.shard ≡ Some before = there_is k.shards c.args.shard before before
    (subst (λ (m : CoreState g.row.D.Denot). c.args.shard < length m.shards) (sym c.self.view_is) c.requires) (sym c.index_mut-part.ensures.value) in
    let rest : before.writeback ≡ None = c.owed.ensures.none.0 (omega (arith, c.if-owed-gt0.false)) in
    let own = c.begin_file-begun.ensures in
    let it : BeginsWriteback c.durable-durable.result c.moved_if.result before after = subst (λ (o : Out). BeginsWriteback c.durable-durable.result o before after) (sym c.moved_if.ensures)
    (begun_writeback c.durable-durable.result before after c.begin_file-begun.result rest own.begins own.begun own.idle) in
    let durable : c.durable-durable.result ≡ k.log.durable = c.durable-durable.ensures in
    subst (λ (m : CoreState g.row.D.Denot). Steps g.S.Scorer.score_of g.D.Disk (FileBegin c.args.shard) c.moved_if.result m (record k { shards = slice_set k.shards c.args.shard after })) c.self.view_is
    (file_steps g.S.Scorer.score_of g.D.Disk k c.args.shard before at c.crash_gives_a_prefix.ensures.prefix c.self.invariant.0 c.moved_if.result after
    (subst (λ (n : ℕ). BeginsWriteback n c.moved_if.result before after) durable it)
    (λ tells h was. own.sound g.S.Scorer.score_of (setup_of k) h k.log.durable tells was (omega (arith, durable))))
