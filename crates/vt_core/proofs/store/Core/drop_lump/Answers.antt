use Rattle.std.proofs.Common.{◌≡◌, ◌<◌, Some, length, sym, ap, subst}
use Rattle.std.specs.Prelude.{slice_get, slice_set}
use Rattle.std.specs.List.{Contains}
use Rattle.vt_shard.specs.Shard.{ShardState}
use Rattle.vt_core.specs.declared.event.Event.TheVariants.{EvictLump}
use Rattle.vt_core.specs.declared.event.Out.{Out}
use Rattle.vt_core.specs.Core.{CoreState}
use Rattle.vt_core.specs.Steps.{Steps}
use Rattle.vt_core.specs.View.{state_of}
use Rattle.vt_core.specs.Work.{IsMovedWhere}
use Rattle.vt_recover.proofs.Places.{there_is}
use Rattle.vt_core.proofs.ShardWork.{shard_whole, in_memory, lump_steps, by_first}
use Rattle.vt_core.proofs.Room.{room_stays}
use Rattle.vt_core.proofs.store.Core.drop_lump.Goals as goal

pub invariant_of-self : goal.invariant_of-self
invariant_of-self g c =
    let k : CoreState g.row.D.Denot = state_of c.self.inside in
    let before : ShardState g.row.D.Denot = c.index_mut.result.now in
    let after : ShardState g.row.D.Denot = c.drop_last-dropped.new.self in
    let at : slice_get k.shards c.args.shard ≡ Some before = there_is k.shards c.args.shard before before
    (subst (λ (m : CoreState g.row.D.Denot). c.args.shard < length m.shards) (sym c.self.view_is) c.requires) (sym c.index_mut.ensures.value) in
    let same = c.drop_last-dropped.ensures.dropped in (
      shard_whole g.S.Scorer.score_of g.D.Disk k c.args.shard before after at
          (in_memory g.S.Scorer.score_of g.D.Disk k c.args.shard before at c.crash_gives_a_prefix.ensures.prefix c.self.invariant.0 c.moved_if.result after
          (ap (λ (x : ShardState g.row.D.Denot). x.section) same) (ap (λ (x : ShardState g.row.D.Denot). x.writeback) same) (ap (λ (x : ShardState g.row.D.Denot). x.filed) same)
          (λ info has. subst (λ (x : ShardState g.row.D.Denot). Contains x.index.dirty info) same has)) c.self.invariant.0,
      room_stays k.shards c.args.shard after c.self.inside.room c.self.invariant.1,
    )

pub returns : goal.returns
returns g c =
    let k : CoreState g.row.D.Denot = state_of c.self.inside in
    let before : ShardState g.row.D.Denot = c.index_mut.result.now in
    let after : ShardState g.row.D.Denot = c.drop_last-dropped.new.self in
    let at : slice_get k.shards c.args.shard ≡ Some before = there_is k.shards c.args.shard before before
    (subst (λ (m : CoreState g.row.D.Denot). c.args.shard < length m.shards) (sym c.self.view_is) c.requires) (sym c.index_mut.ensures.value) in
    let moved : IsMovedWhere (length before.lumps.entries) c.moved_if.result = subst (λ (o : Out). IsMovedWhere (length before.lumps.entries) o) (sym c.moved_if.ensures) (by_first (before.lumps.entries) c.drop_last-dropped.result c.drop_last-dropped.ensures.some) in
    subst (λ (m : CoreState g.row.D.Denot). Steps g.S.Scorer.score_of g.D.Disk (EvictLump c.args.shard) c.moved_if.result m (record k { shards = slice_set k.shards c.args.shard after })) c.self.view_is
    (lump_steps g.S.Scorer.score_of g.D.Disk k c.args.shard before at c.crash_gives_a_prefix.ensures.prefix c.self.invariant.0 c.moved_if.result after
    (moved, c.drop_last-dropped.ensures.dropped) (λ _. c.drop_last-dropped.ensures.sound))
