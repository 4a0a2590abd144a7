use Rattle.std.proofs.Common.{◌≡◌, ℕ, ◌<◌, Some, length, sym, ◌∙◌, ap, subst}
use Rattle.std.specs.Prelude.{slice_get}
use Rattle.std.proofs.lemmas.Option.{same_Some}
use Rattle.vt_icache.specs.Index.{dirty_info}
use Rattle.vt_shard.specs.Shard.{ShardState}
use Rattle.vt_core.specs.Asking.{shard_of, with_parts}
use Rattle.vt_core.specs.Core.{CoreState, setup_of}
use Rattle.vt_lookup.specs.Finding.{parts_of}
use Rattle.vt_core.specs.Serving.{TestsBlock}
use Rattle.vt_core.specs.View.{state_of}
use Rattle.vt_core.specs.Whole.{IsWhole}
use Rattle.vt_recover.proofs.Places.{there_is, get_set}
use Rattle.vt_core.proofs.AskWork.{are_sound, bits_right, looks_in_shard, mid_whole}
use Rattle.vt_lookup.proofs.TestWork.{absent_either}
use Rattle.vt_core.proofs.Room.{room_stays}
use Rattle.vt_core.proofs.store.Core.test_on.Goals as goal

pub test_write-requires-clause-range : goal.test_write-requires-clause-range
test_write-requires-clause-range g c =
    let k : CoreState g.row.D.Denot = state_of c.self.inside in
    let i = c.args.shard in
    let s : ShardState g.row.D.Denot = c.index_mut.result.now in
    let below : i < length k.shards = subst (λ (m : CoreState g.row.D.Denot). i < length m.shards) (sym c.self.view_is) c.requires.within in
    let at : slice_get k.shards i ≡ Some s = there_is k.shards i s s below (sym c.index_mut.ensures.value) in
    c.requires.has s (subst (λ (m : CoreState g.row.D.Denot). slice_get m.shards i ≡ Some s) c.self.view_is at)

pub invariant_of-self : goal.invariant_of-self
invariant_of-self g c =
    let score = g.S.Scorer.score_of in
    let k : CoreState g.row.D.Denot = state_of c.self.inside in
    let key = c.args.key.now in
    let i = c.args.shard in
    let s : ShardState g.row.D.Denot = c.index_mut.result.now in
    let is : i ≡ shard_of k key.score.0 = subst (λ (m : CoreState g.row.D.Denot). i ≡ shard_of m key.score.0) (sym c.self.view_is) c.requires.shard in
    let below : i < length k.shards = subst (λ (m : CoreState g.row.D.Denot). i < length m.shards) (sym c.self.view_is) c.requires.within in
    let at : slice_get k.shards i ≡ Some s = there_is k.shards i s s below (sym c.index_mut.ensures.value) in
    let looks_in = looks_in_shard k key.score.0 i s c.may_have-may_have.result at is c.may_have-may_have.ensures in
    let before = parts_of k.log s in
    let after = parts_of c.test_write.new.log c.test_write.new.shard in (
      subst (λ (n : ℕ). IsWhole g.D.Disk (with_parts n after k)) (sym is)
          (mid_whole score g.D.Disk k key.score.0 before after c.may_have-may_have.result looks_in c.test_write.result c.test_write.ensures.looks c.self.invariant.0),
      room_stays k.shards i after.shard c.self.inside.room c.self.invariant.1,
    )

pub returns-clause-tests : goal.returns-clause-tests
returns-clause-tests g c =
    let score = g.S.Scorer.score_of in
    let k : CoreState g.row.D.Denot = state_of c.self.inside in
    let key = c.args.key.now in
    let i = c.args.shard in
    let s : ShardState g.row.D.Denot = c.index_mut.result.now in
    let is : i ≡ shard_of k key.score.0 = subst (λ (m : CoreState g.row.D.Denot). i ≡ shard_of m key.score.0) (sym c.self.view_is) c.requires.shard in
    let below : i < length k.shards = subst (λ (m : CoreState g.row.D.Denot). i < length m.shards) (sym c.self.view_is) c.requires.within in
    let at : slice_get k.shards i ≡ Some s = there_is k.shards i s s below (sym c.index_mut.ensures.value) in
    let looks_in = looks_in_shard k key.score.0 i s c.may_have-may_have.result at is c.may_have-may_have.ensures in
    let before = parts_of k.log s in
    let after = parts_of c.test_write.new.log c.test_write.new.shard in
    subst (λ (m : CoreState g.row.D.Denot). TestsBlock score g.D.Disk key c.args.block.now c.test_write.result m (with_parts i after k)) c.self.view_is (record {
      before = before;
      after = after;
      may_have = c.may_have-may_have.result;
      looks_in = looks_in;
      tests = c.test_write.ensures.read;
      looks = c.test_write.ensures.looks;
      stay = c.test_write.ensures.sound;
      judged = λ h tells sound block scored other. c.test_write.ensures.tests (setup_of k) h k.log.durable tells (are_sound score g.D.Disk k h i s at sound)
          (bits_right score g.D.Disk k h key.score.0 c.may_have-may_have.result sound c.may_have-may_have.ensures) block scored other;
      new_is = ap (λ (n : ℕ). with_parts n after k) is;
    })

pub returns-clause-absent : goal.returns-clause-absent
returns-clause-absent g c = λ t new there.
    let k : CoreState g.row.D.Denot = state_of c.self.inside in
    let i = c.args.shard in
    let s : ShardState g.row.D.Denot = c.index_mut.result.now in
    let below : i < length k.shards = subst (λ (m : CoreState g.row.D.Denot). i < length m.shards) (sym c.self.view_is) c.requires.within in
    let at : slice_get k.shards i ≡ Some s = there_is k.shards i s s below (sym c.index_mut.ensures.value) in
    let after : ShardState g.row.D.Denot = c.test_write.new.shard in
    let same : after ≡ t = same_Some after t (sym (get_set k.shards i after s at) ∙ there) in
    let none = absent_either c.args.key.now s after k.bits c.may_have-may_have.result c.may_have-may_have.ensures (c.self.invariant.0.shards i s at).bits
    c.test_write.ensures.looks.shard.dirty (c.test_write.ensures.absent new) in
    ap (λ (x : ShardState g.row.D.Denot). dirty_info c.args.key.now x.index) (sym same) ∙ none
