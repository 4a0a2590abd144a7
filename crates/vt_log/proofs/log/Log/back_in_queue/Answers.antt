-- The last queued block is the last one of the history that is before the walk.
use Rattle.std.proofs.Common.{◌≡◌, ◌-◌, ℕ, refl, ap, subst, arith, Some}
use Rattle.std.specs.Prelude.{slice_get}
use Rattle.vt_log.specs.Back.{TailState}
use Rattle.vt_log.specs.Log.{LogState, packed_of}
use Rattle.vt_log.proofs.StepsBack.{queue_steps}
use Rattle.vt_log.proofs.log.Log.back_in_queue.Goals as goal

pub returns-clause-queued : goal.returns-clause-queued
returns-clause-queued g c =
    let index : c.tail.inside.queued - 1 ≡ c.args.tail.now.queued - 1 = ap (λ (t : TailState). t.queued - 1) c.tail.view_is in
    let left : c.tail.inside.left ≡ c.args.tail.now.left = ap (λ (t : TailState). t.left) c.tail.view_is in (
      c.packed-packed.result.now,
      c.place.result,
      record { kind = refl; score = refl; size = refl; place_is = refl; number = omega (arith, left, c.requires.tail.left, c.requires.some) },
      subst (λ (k : ℕ). slice_get (packed_of c.args.self.now) k ≡ Some c.packed-packed.result.now) index c.packed-packed.ensures,
      subst (λ (k : ℕ). slice_get c.args.self.now.queue.places k ≡ Some c.place.result) index
          (subst (λ (l : LogState _). slice_get l.queue.places (c.tail.inside.queued - 1) ≡ Some c.place.result) c.self.view_is c.place.ensures),
    )

pub returns-clause-blocks : goal.returns-clause-blocks
returns-clause-blocks g c h n sound behind =
    let left : c.tail.inside.left ≡ c.args.tail.now.left = ap (λ (t : TailState). t.left) c.tail.view_is in
    let queue : c.tail.inside.queued ≡ c.args.tail.now.queued = ap (λ (t : TailState). t.queued) c.tail.view_is in
    let new : TailState = record { left = c.tail.inside.left - 1; queued = c.tail.inside.queued - 1; arena = c.tail.inside.arena; at = c.tail.inside.at } in
    queue_steps g.S.Scorer.score_of g.D.Disk c.args.self.now h n c.args.tail.now new c.packed-packed.result.now c.place.result _ sound behind
    (record { kind = refl; score = refl; size = refl; place_is = refl; number = omega (arith, left, c.requires.tail.left, c.requires.some) })
    c.packed-packed.ensures
    (subst (λ (l : LogState _). slice_get l.queue.places new.queued ≡ Some c.place.result) c.self.view_is c.place.ensures)
    (omega (arith, queue, c.requires.some)) (omega (arith, left, c.requires.tail.left, c.requires.some))
    (ap (λ (t : TailState). t.arena) c.tail.view_is) (ap (λ (t : TailState). t.at) c.tail.view_is)

pub returns-clause-moved : goal.returns-clause-moved
returns-clause-moved g c = ap (λ (t : TailState). record t { left = t.left - 1; queued = t.queued - 1 }) c.tail.view_is
