use Rattle.std.proofs.Common.{◌≡◌, ⊎_elim, inl, inr, ℕ, ◌<◌, List, [], ◌∷◌, ◌++◌, Some, length, refl, sym, ◌∙◌, ap, subst, arith}
use Rattle.std.specs.Prelude.{IsTrue, slice_get, slice_set}
use Rattle.std.proofs.lemmas.Option.{same_Some}
use Rattle.vt_base.specs.declared.answer.Said.TheVariants.{Score, Refused}
use Rattle.vt_base.specs.declared.key.Key.{Key}
use Rattle.vt_base.specs.declared.score.Score.{Score as ScoreOf}
use Rattle.vt_base.specs.declared.why.Why.TheVariants.{NoMemory}
use Rattle.vt_base.specs.Protocol.{write}
use Rattle.vt_bloom.specs.Bits.{MarksScore}
use Rattle.vt_clump.specs.declared.packed.Packed.{Packed}
use Rattle.vt_clump.specs.Clumps.{IsPacked, stored_of}
use Rattle.vt_icache.specs.Index.{dirty_info}
use Rattle.vt_log.specs.Log.{has_next, queued}
use Rattle.vt_log.specs.declared.TheConstants.{QUEUE_MAX}
use Rattle.vt_model.specs.Answer.{answer}
use Rattle.vt_shard.specs.declared.TheConstants.{ROOM}
use Rattle.vt_shard.specs.Shard.{ShardState, HasScore}
use Rattle.vt_core.specs.declared.event.Out.TheVariants.{Said as SaidOut, NotYet}
use Rattle.vt_core.specs.Asking.{HasNoRoom, says}
use Rattle.vt_core.specs.Core.{CoreState, setup_of}
use Rattle.vt_lookup.specs.Finding.{AreSound, parts_of}
use Rattle.vt_core.specs.Serving.{AddsIfRoom}
use Rattle.vt_core.specs.Sound.{IsSound}
use Rattle.vt_core.specs.View.{state_of}
use Rattle.vt_lookup.proofs.Adding.{packed_is, written_is}
use Rattle.vt_core.proofs.AddWork.{adding_sound, adding_whole}
use Rattle.vt_recover.proofs.Places.{there_is}
use Rattle.vt_core.proofs.AskWork.{are_sound}
use Rattle.vt_core.proofs.Room.{room_stays}
use Rattle.vt_core.proofs.store.Core.add.Goals as goal

pub returns-then-queue_full-clause-adds : goal.returns-then-queue_full-clause-adds
returns-then-queue_full-clause-adds g c = λ s at.
    let k : CoreState g.row.D.Denot = state_of c.self.inside in
    let full : queued k.log ≡ QUEUE_MAX = omega (arith, c.queue_full.ensures.full.0 c.if-queue_full.true) in
    subst (λ (m : CoreState g.row.D.Denot). AddsIfRoom g.S.Scorer.score_of c.args.key.now c.args.block.now c.args.now c.args.shard (parts_of m.log s) NotYet m m) c.self.view_is
    (inl (inl full, refl, refl))

pub returns-then-spare-eq0-clause-adds : goal.returns-then-spare-eq0-clause-adds
returns-then-spare-eq0-clause-adds g c = λ s at.
    let k : CoreState g.row.D.Denot = state_of c.self.inside in
    let v : ShardState g.row.D.Denot = c.index.result.now in
    let here : slice_get k.shards c.args.shard ≡ Some v = there_is k.shards c.args.shard v v
    (subst (λ (m : CoreState g.row.D.Denot). c.args.shard < length m.shards) (sym c.self.view_is) c.requires.within) (sym c.index.ensures) in
    let same : v ≡ s = same_Some v s (sym here ∙ subst (λ (m : CoreState g.row.D.Denot). slice_get m.shards c.args.shard ≡ Some s) (sym c.self.view_is) at) in
    let full : length v.index.dirty ≡ ROOM = omega (arith, c.spare.ensures.count, c.spare.ensures.fits, c.if-spare-eq0.true) in
    subst (λ (m : CoreState g.row.D.Denot). AddsIfRoom g.S.Scorer.score_of c.args.key.now c.args.block.now c.args.now c.args.shard (parts_of m.log s) NotYet m m) c.self.view_is
    (inl (inr (sym (ap (λ (t : ShardState g.row.D.Denot). length t.index.dirty) same) ∙ full), refl, refl))

pub returns-in_default-clause-adds : goal.returns-in_default-clause-adds
returns-in_default-clause-adds g c = λ s at.
    let k : CoreState g.row.D.Denot = state_of c.self.inside in
    let v : ShardState g.row.D.Denot = c.index.result.now in
    let here : slice_get k.shards c.args.shard ≡ Some v = there_is k.shards c.args.shard v v
    (subst (λ (m : CoreState g.row.D.Denot). c.args.shard < length m.shards) (sym c.self.view_is) c.requires.within) (sym c.index.ensures) in
    let same : v ≡ s = same_Some v s (sym here ∙ subst (λ (m : CoreState g.row.D.Denot). slice_get m.shards c.args.shard ≡ Some s) (sym c.self.view_is) at) in
    let room : ¬ HasNoRoom (parts_of k.log v) = λ no. ⊎_elim
    (λ (full : queued k.log ≡ QUEUE_MAX). omega (arith, full, c.queue_full.ensures.room c.if-queue_full.false))
    (λ (full : length v.index.dirty ≡ ROOM). omega (arith, full, c.spare.ensures.count, c.if-spare-eq0.false)) no in
    let said : c.say.result ≡ says (Refused NoMemory) k = c.say.ensures ∙ ap (λ (n : ℕ). SaidOut (record { said = Refused NoMemory; at = n })) c.front-at.ensures.front in
    subst (λ (m : CoreState g.row.D.Denot). AddsIfRoom g.S.Scorer.score_of c.args.key.now c.args.block.now c.args.now c.args.shard (parts_of m.log s) c.say.result m m) c.self.view_is
    (inr (inl (subst (λ (t : ShardState g.row.D.Denot). ¬ HasNoRoom (parts_of k.log t)) same room, said, refl)))

pub add_block-requires-clause-room : goal.add_block-requires-clause-room
add_block-requires-clause-room g c =
    let k : CoreState g.row.D.Denot = state_of c.self.inside in
    subst (λ (n : ℕ). IsTrue (has_next k.log n)) (sym c.in-Ok.ensures.len) (subst (λ (m : CoreState g.row.D.Denot). IsTrue (has_next m.log (length c.args.block.now))) (sym c.self.view_is) c.requires.fits)

pub add_block-requires-clause-spare : goal.add_block-requires-clause-spare
add_block-requires-clause-spare g c =
    let k : CoreState g.row.D.Denot = state_of c.self.inside in
    let v : ShardState g.row.D.Denot = c.index.result.now in
    let s : ShardState g.row.D.Denot = c.index_mut.result.now in
    let below : c.args.shard < length k.shards = subst (λ (m : CoreState g.row.D.Denot). c.args.shard < length m.shards) (sym c.self.view_is) c.requires.within in
    let read : slice_get k.shards c.args.shard ≡ Some v = there_is k.shards c.args.shard v v below (sym c.index.ensures) in
    let at : slice_get k.shards c.args.shard ≡ Some s = there_is k.shards c.args.shard s s below (sym c.index_mut.ensures.value) in
    let same : v ≡ s = same_Some v s (sym read ∙ at) in
    omega (arith, c.spare.ensures.count, c.if-spare-eq0.false, ap (λ (t : ShardState g.row.D.Denot). length t.index.dirty) same)

pub add_block-requires-clause-range : goal.add_block-requires-clause-range
add_block-requires-clause-range g c =
    let k : CoreState g.row.D.Denot = state_of c.self.inside in
    let s : ShardState g.row.D.Denot = c.index_mut.result.now in
    let below : c.args.shard < length k.shards = subst (λ (m : CoreState g.row.D.Denot). c.args.shard < length m.shards) (sym c.self.view_is) c.requires.within in
    let at : slice_get k.shards c.args.shard ≡ Some s = there_is k.shards c.args.shard s s below (sym c.index_mut.ensures.value) in
    subst (λ (x : List ℕ). HasScore s x) (sym (ap (λ (x : ScoreOf). x.0) c.in-Ok.ensures.score))
    (c.requires.has s (subst (λ (m : CoreState g.row.D.Denot). slice_get m.shards c.args.shard ≡ Some s) c.self.view_is at))

pub add_block-requires-clause-absent : goal.add_block-requires-clause-absent
add_block-requires-clause-absent g c =
    let k : CoreState g.row.D.Denot = state_of c.self.inside in
    let s : ShardState g.row.D.Denot = c.index_mut.result.now in
    let packed : Packed = c.in-Ok.packed in
    let below : c.args.shard < length k.shards = subst (λ (m : CoreState g.row.D.Denot). c.args.shard < length m.shards) (sym c.self.view_is) c.requires.within in
    let at : slice_get k.shards c.args.shard ≡ Some s = there_is k.shards c.args.shard s s below (sym c.index_mut.ensures.value) in
    let none = c.requires.absent s (subst (λ (m : CoreState g.row.D.Denot). slice_get m.shards c.args.shard ≡ Some s) c.self.view_is at) in
    let own : c.args.key.now ≡ record { score = packed.score; kind = packed.kind } =
    ap (λ (x : ScoreOf). record { score = x; kind = c.args.key.now.kind }) (sym c.in-Ok.ensures.score) ∙ ap (λ (n : ℕ). record { score = packed.score; kind = n }) (sym c.in-Ok.ensures.kind) in
    ap (λ (x : Key). dirty_info x s.index) (sym own) ∙ none

pub add_block-requires-clause-later : goal.add_block-requires-clause-later
add_block-requires-clause-later g c = λ below is.
    let k : CoreState g.row.D.Denot = state_of c.self.inside in
    let s : ShardState g.row.D.Denot = c.index_mut.result.now in
    let within : c.args.shard < length k.shards = subst (λ (m : CoreState g.row.D.Denot). c.args.shard < length m.shards) (sym c.self.view_is) c.requires.within in
    let at : slice_get k.shards c.args.shard ≡ Some s = there_is k.shards c.args.shard s s within (sym c.index_mut.ensures.value) in
    omega (arith, (c.self.invariant.0.shards c.args.shard s at).writeback below is)

pub invariant_of-self : goal.invariant_of-self
invariant_of-self g c =
    let k : CoreState g.row.D.Denot = state_of c.self.inside in
    let s : ShardState g.row.D.Denot = c.index_mut.result.now in
    let packed : Packed = c.in-Ok.packed in
    let below : c.args.shard < length k.shards = subst (λ (m : CoreState g.row.D.Denot). c.args.shard < length m.shards) (sym c.self.view_is) c.requires.within in
    let at : slice_get k.shards c.args.shard ≡ Some s = there_is k.shards c.args.shard s s below (sym c.index_mut.ensures.value) in (
      adding_whole g.S.Scorer.score_of g.D.Disk k c.args.shard s at packed (parts_of c.add_block.new.log c.add_block.new.shard) c.add_block.ensures.adds c.mark_bits.new.self
          (subst (λ (x : ScoreOf). MarksScore k.bits x.0 c.mark_bits.new.self) (sym c.in-Ok.ensures.score) c.mark_bits.ensures)
          c.marked_scores_stay.ensures.stay c.marked_scores_stay.ensures.marked c.self.invariant.0,
      room_stays k.shards c.args.shard c.add_block.new.shard c.self.inside.room c.self.invariant.1,
    )

pub returns-clause-adds : goal.returns-clause-adds
returns-clause-adds g c = λ s there.
    let score = g.S.Scorer.score_of in
    let k : CoreState g.row.D.Denot = state_of c.self.inside in
    let v : ShardState g.row.D.Denot = c.index_mut.result.now in
    let u : ShardState g.row.D.Denot = c.index.result.now in
    let key = c.args.key.now in
    let packed : Packed = c.in-Ok.packed in
    let below : c.args.shard < length k.shards = subst (λ (m : CoreState g.row.D.Denot). c.args.shard < length m.shards) (sym c.self.view_is) c.requires.within in
    let at : slice_get k.shards c.args.shard ≡ Some v = there_is k.shards c.args.shard v v below (sym c.index_mut.ensures.value) in
    let first : slice_get k.shards c.args.shard ≡ Some u = there_is k.shards c.args.shard u u below (sym c.index.ensures) in
    let one : u ≡ v = same_Some u v (sym first ∙ at) in
    let same : v ≡ s = same_Some v s (sym at ∙ subst (λ (m : CoreState g.row.D.Denot). slice_get m.shards c.args.shard ≡ Some s) (sym c.self.view_is) there) in
    let room : ¬ HasNoRoom (parts_of k.log v) = λ no. ⊎_elim
    (λ (full : queued k.log ≡ QUEUE_MAX). omega (arith, full, c.queue_full.ensures.room c.if-queue_full.false))
    (λ (full : length v.index.dirty ≡ ROOM). omega (arith, full, ap (λ (t : ShardState g.row.D.Denot). length t.index.dirty) one, c.spare.ensures.count, c.if-spare-eq0.false)) no in
    let said : c.say-2.result ≡ says (Score key.score) k = c.say-2.ensures ∙ ap (λ (n : ℕ). SaidOut (record { said = Score key.score; at = n })) c.front-at.ensures.front in
    let is : IsPacked score packed = c.in-Ok.ensures.packed score c.requires.scored in
    let own = packed_is score packed key.kind key.score.0 c.args.block.now c.args.now c.clumps_are_told_apart.ensures.one is
    c.in-Ok.ensures.kind (ap (λ (x : ScoreOf). x.0) c.in-Ok.ensures.score) c.in-Ok.ensures.bytes c.requires.scored c.requires.some c.requires.most c.ranges.now.fits in
    let after = parts_of c.add_block.new.log c.add_block.new.shard in
    let new : CoreState g.row.D.Denot = record k { log = after.log; shards = slice_set k.shards c.args.shard after.shard; bits = c.mark_bits.new.self } in
    subst (λ (m : CoreState g.row.D.Denot). AddsIfRoom score key c.args.block.now c.args.now c.args.shard (parts_of m.log s) c.say-2.result m new) c.self.view_is
    (subst (λ (t : ShardState g.row.D.Denot). AddsIfRoom score key c.args.block.now c.args.now c.args.shard (parts_of k.log t) c.say-2.result k new) same
    (inr (inr (record {
      room = room;
      after = after;
      adds = record { packed = packed; is_packed = is; kind = c.in-Ok.ensures.kind; block = own.0; time = own.1; adds = c.add_block.ensures.adds };
      bits = c.mark_bits.ensures;
      out_is = said;
      new_is = refl;
    }))))

pub returns-clause-sound : goal.returns-clause-sound
returns-clause-sound g c = λ h block tells sound added said.
    let score = g.S.Scorer.score_of in
    let k : CoreState g.row.D.Denot = state_of c.self.inside in
    let s : ShardState g.row.D.Denot = c.index_mut.result.now in
    let key = c.args.key.now in
    let packed : Packed = c.in-Ok.packed in
    let below : c.args.shard < length k.shards = subst (λ (m : CoreState g.row.D.Denot). c.args.shard < length m.shards) (sym c.self.view_is) c.requires.within in
    let at : slice_get k.shards c.args.shard ≡ Some s = there_is k.shards c.args.shard s s below (sym c.index_mut.ensures.value) in
    let here : IsSound score g.D.Disk k h = subst (λ (m : CoreState g.row.D.Denot). IsSound score g.D.Disk m h) (sym c.self.view_is) sound in
    let is : IsPacked score packed = c.in-Ok.ensures.packed score c.requires.scored in
    let own = packed_is score packed key.kind key.score.0 c.args.block.now c.args.now c.clumps_are_told_apart.ensures.one is
    c.in-Ok.ensures.kind (ap (λ (x : ScoreOf). x.0) c.in-Ok.ensures.score) c.in-Ok.ensures.bytes c.requires.scored c.requires.some c.requires.most c.ranges.now.fits in
    let after = parts_of c.add_block.new.log c.add_block.new.shard in
    let adds : (answer score (setup_of k) h (write packed.kind (stored_of packed).block)).added ≡ Some block =
    ap (λ (n : ℕ). (answer score (setup_of k) h (write n (stored_of packed).block)).added) c.in-Ok.ensures.kind
    ∙ ap (λ (b : List ℕ). (answer score (setup_of k) h (write key.kind b)).added) own.0
    ∙ ap (λ (m : CoreState g.row.D.Denot). (answer score (setup_of m) h (write key.kind c.args.block.now)).added) c.self.view_is ∙ added in
    let parts : AreSound score g.D.Disk (setup_of k) after (h ++ block ∷ []) k.log.durable =
    c.add_block.ensures.sound (setup_of k) h k.log.durable block tells (are_sound score g.D.Disk k h c.args.shard s at here) is adds in
    let bytes : c.args.block.now ≡ block.block.bytes = written_is key.kind c.args.block.now block
    (c.refusals_add_nothing.ensures.operation score (setup_of c.args.self.now) h (write key.kind c.args.block.now) block added) in
    let scored : key.score.0 ≡ score block.block.bytes = c.requires.scored ∙ ap score bytes in
    adding_sound score g.D.Disk k c.args.shard s at packed after c.add_block.ensures.adds c.mark_bits.new.self
    (subst (λ (x : ScoreOf). MarksScore k.bits x.0 c.mark_bits.new.self) (sym c.in-Ok.ensures.score) c.mark_bits.ensures)
    c.marked_scores_stay.ensures.stay c.marked_scores_stay.ensures.marked c.self.invariant.0 c.sections_have_ranges.ensures c.others_are_added.ensures h block here
    (subst (λ (x : List ℕ). HasScore s x) scored (c.requires.has s (subst (λ (m : CoreState g.row.D.Denot). slice_get m.shards c.args.shard ≡ Some s) c.self.view_is at)))
    (ap (λ (x : ScoreOf). x.0) c.in-Ok.ensures.score ∙ scored) parts
