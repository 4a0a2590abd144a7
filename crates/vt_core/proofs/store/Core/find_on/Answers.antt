use Rattle.std.proofs.Common.{◌≡◌, ℕ, ◌<◌, Some, length, sym, ap, subst}
use Rattle.std.specs.Prelude.{slice_get}
use Rattle.vt_shard.specs.Shard.{ShardState}
use Rattle.vt_core.specs.Asking.{shard_of, with_parts}
use Rattle.vt_core.specs.Core.{CoreState, setup_of}
use Rattle.vt_lookup.specs.Finding.{parts_of}
use Rattle.vt_core.specs.Serving.{FindsBlock}
use Rattle.vt_core.specs.View.{state_of}
use Rattle.vt_core.specs.Whole.{IsWhole}
use Rattle.vt_recover.proofs.Places.{there_is}
use Rattle.vt_core.proofs.AskWork.{are_sound, bits_right, looks_in_shard, mid_whole}
use Rattle.vt_core.proofs.Room.{room_stays}
use Rattle.vt_core.proofs.store.Core.find_on.Goals as goal

pub find_block-requires : goal.find_block-requires
find_block-requires g c =
    let score = g.S.Scorer.score_of in
    let k : CoreState g.row.D.Denot = state_of c.self.inside in
    let key = c.args.key.now in
    let i = c.shard_of-shard.result in
    let s : ShardState g.row.D.Denot = c.index_mut.result.now in
    let is : i ≡ shard_of k key.score.0 = subst (λ (m : CoreState g.row.D.Denot). i ≡ shard_of m key.score.0) (sym c.self.view_is) c.shard_of-shard.ensures.shard in
    let below : i < length k.shards = subst (λ (m : CoreState g.row.D.Denot). i < length m.shards) (sym c.self.view_is) c.shard_of-shard.ensures.within in
    let at : slice_get k.shards i ≡ Some s = there_is k.shards i s s below (sym c.index_mut.ensures.value) in
    c.shard_of-shard.ensures.has s (subst (λ (m : CoreState g.row.D.Denot). slice_get m.shards i ≡ Some s) c.self.view_is at)

pub invariant_of-self : goal.invariant_of-self
invariant_of-self g c =
    let score = g.S.Scorer.score_of in
    let k : CoreState g.row.D.Denot = state_of c.self.inside in
    let key = c.args.key.now in
    let i = c.shard_of-shard.result in
    let s : ShardState g.row.D.Denot = c.index_mut.result.now in
    let is : i ≡ shard_of k key.score.0 = subst (λ (m : CoreState g.row.D.Denot). i ≡ shard_of m key.score.0) (sym c.self.view_is) c.shard_of-shard.ensures.shard in
    let below : i < length k.shards = subst (λ (m : CoreState g.row.D.Denot). i < length m.shards) (sym c.self.view_is) c.shard_of-shard.ensures.within in
    let at : slice_get k.shards i ≡ Some s = there_is k.shards i s s below (sym c.index_mut.ensures.value) in
    let looks_in = looks_in_shard k key.score.0 i s c.may_have-may_have.result at is c.may_have-may_have.ensures in
    let before = parts_of k.log s in
    let after = parts_of c.find_block.new.log c.find_block.new.shard in (
      subst (λ (n : ℕ). IsWhole g.D.Disk (with_parts n after k)) (sym is)
          (mid_whole score g.D.Disk k key.score.0 before after c.may_have-may_have.result looks_in c.find_block.result c.find_block.ensures.looks c.self.invariant.0),
      room_stays k.shards i after.shard c.self.inside.room c.self.invariant.1,
    )

pub returns-clause-finds : goal.returns-clause-finds
returns-clause-finds g c =
    let score = g.S.Scorer.score_of in
    let k : CoreState g.row.D.Denot = state_of c.self.inside in
    let key = c.args.key.now in
    let i = c.shard_of-shard.result in
    let s : ShardState g.row.D.Denot = c.index_mut.result.now in
    let is : i ≡ shard_of k key.score.0 = subst (λ (m : CoreState g.row.D.Denot). i ≡ shard_of m key.score.0) (sym c.self.view_is) c.shard_of-shard.ensures.shard in
    let below : i < length k.shards = subst (λ (m : CoreState g.row.D.Denot). i < length m.shards) (sym c.self.view_is) c.shard_of-shard.ensures.within in
    let at : slice_get k.shards i ≡ Some s = there_is k.shards i s s below (sym c.index_mut.ensures.value) in
    let looks_in = looks_in_shard k key.score.0 i s c.may_have-may_have.result at is c.may_have-may_have.ensures in
    let before = parts_of k.log s in
    let after = parts_of c.find_block.new.log c.find_block.new.shard in
    subst (λ (m : CoreState g.row.D.Denot). FindsBlock score g.D.Disk key c.find_block.result m (with_parts i after k)) c.self.view_is (record {
      before = before;
      after = after;
      may_have = c.may_have-may_have.result;
      looks_in = looks_in;
      seeks = c.find_block.ensures.seeks;
      looks = c.find_block.ensures.looks;
      stay = c.find_block.ensures.sound;
      found = λ h tells sound other. c.find_block.ensures.found (setup_of k) h k.log.durable tells (are_sound score g.D.Disk k h i s at sound)
          (bits_right score g.D.Disk k h key.score.0 c.may_have-may_have.result sound c.may_have-may_have.ensures) other;
      new_is = ap (λ (n : ℕ). with_parts n after k) is;
    })

pub returns-clause-whole : goal.returns-clause-whole
returns-clause-whole g c = subst (λ (m : CoreState g.row.D.Denot). IsWhole g.D.Disk m) c.self.view_is c.self.invariant.0
