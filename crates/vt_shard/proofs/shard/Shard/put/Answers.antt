use Rattle.std.proofs.Common.{◌≡◌, ◌<◌, ◌≤◌, ◌+◌, ◌-◌, ℕ, Some, None, length, sym, ap, subst, ◌∙◌, refl, arith}
use Rattle.std.proofs.lemmas.Option.{slice_get_within, get_or_from_slice_get}
use Rattle.vt_isect.specs.declared.head.Head.{Head}
use Rattle.vt_shard.specs.Shard.{ShardState, HasScore, bucket_at}
use Rattle.vt_shard.specs.Sound.{IsSoundFrom, IsSoundWithout}
use Rattle.vt_shard.specs.View.{state_of}
use Rattle.vt_shard.proofs.IsSoundFrom.{added, recalled}
use Rattle.vt_shard.proofs.IsWell.{count_of, few_dirty, well_put}
use Rattle.vt_shard.specs.declared.TheConstants.{ROOM}
use Rattle.vt_icache.specs.Index.{dirty_info}
use Rattle.vt_shard.proofs.shard.Shard.put.Goals as goal

pub index_mut-requires : goal.index_mut-requires
index_mut-requires g c =
    let within = subst (λ t. HasScore t c.args.info.key.score.0) (sym c.self.view_is) c.requires.in_range in
    let number = subst (λ (t : ShardState g.row.D.Denot). c.bucket_of.result ≡ bucket_at t c.args.info.key.score.0) (sym c.self.view_is) c.bucket_of.ensures in
    let at = slice_get_within c.self.inside.waiting.items (c.bucket_of.result - c.head.result.first) _
    (count_of _ _ _ c.self.invariant c.args.info.key.score.0 c.bucket_of.result c.head.result.first within number (ap (λ (h : Head). h.first) c.head.ensures)) in
    let len = c.self.inside.waiting.ok.0 in
    omega (arith, at, len)

pub overflow_add-index_mut : goal.overflow_add-index_mut
overflow_add-index_mut g c =
    let within = subst (λ t. HasScore t c.args.info.key.score.0) (sym c.self.view_is) c.requires.in_range in
    let number = subst (λ (t : ShardState g.row.D.Denot). c.bucket_of.result ≡ bucket_at t c.args.info.key.score.0) (sym c.self.view_is) c.bucket_of.ensures in
    let at = count_of _ _ _ c.self.invariant c.args.info.key.score.0 c.bucket_of.result c.head.result.first within number (ap (λ (h : Head). h.first) c.head.ensures) in
    let is = c.index_mut.ensures.value ∙ get_or_from_slice_get c.self.inside.waiting.items (c.bucket_of.result - c.head.result.first) _ c.index_mut.result.now at in
    let few = few_dirty _ _ _ c.self.invariant (bucket_at (state_of c.self.inside) c.args.info.key.score.0) in
    omega (arith, is, few)

pub invariant_of-self : goal.invariant_of-self
invariant_of-self g c =
    let within = subst (λ t. HasScore t c.args.info.key.score.0) (sym c.self.view_is) c.requires.in_range in
    let number = subst (λ (t : ShardState g.row.D.Denot). c.bucket_of.result ≡ bucket_at t c.args.info.key.score.0) (sym c.self.view_is) c.bucket_of.ensures in
    let at = count_of _ _ _ c.self.invariant c.args.info.key.score.0 c.bucket_of.result c.head.result.first within number (ap (λ (h : Head). h.first) c.head.ensures) in
    let is = c.index_mut.ensures.value ∙ get_or_from_slice_get c.self.inside.waiting.items (c.bucket_of.result - c.head.result.first) _ c.index_mut.result.now at in
    rw c.put_dirty.ensures
    (well_put _ _ _ c.self.invariant c.args.info (c.bucket_of.result - c.head.result.first) (c.index_mut.result.now + 1)
    within c.requires.number
    (subst (λ (t : ShardState g.row.D.Denot). length t.index.dirty < ROOM) (sym c.self.view_is) c.requires.room)
    (subst (λ (t : ShardState g.row.D.Denot). dirty_info c.args.info.key t.index ≡ None) (sym c.self.view_is) c.requires.absent)
    (subst (λ (t : ShardState g.row.D.Denot). (below : ℕ) → t.writeback ≡ Some below → below ≤ c.args.info.number) (sym c.self.view_is) c.requires.later)
    (ap (λ (n : ℕ). n - c.head.result.first) number ∙ ap (λ (h : Head). bucket_at (state_of c.self.inside) c.args.info.key.score.0 - h.first) c.head.ensures)
    (ap (λ (n : ℕ). n + 1) is))

pub returns-clause-adds : goal.returns-clause-adds
returns-clause-adds g c = λ score setup h durable from block sound keys number of.
    let was = subst (λ t. IsSoundFrom score setup g.D.Disk t h durable from) (sym c.self.view_is) sound in
    rw c.put_dirty.ensures
    (added score setup _ _ h durable from was c.args.info block keys number of
    (subst (λ t. HasScore t c.args.info.key.score.0) (sym c.self.view_is) c.requires.in_range))

pub returns-clause-recalls : goal.returns-clause-recalls
returns-clause-recalls g c = λ score setup h durable sound of.
    let was = subst (λ t. IsSoundWithout score setup g.D.Disk t h durable (c.args.info.number + 1) c.args.info.key) (sym c.self.view_is) sound in
    rw c.put_dirty.ensures
    (recalled score setup _ _ h durable (c.args.info.number + 1) was.0 c.args.info refl of was.1)
