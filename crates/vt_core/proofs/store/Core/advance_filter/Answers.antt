use Rattle.std.proofs.Common.{◌≡◌, ℕ, Option, subst}
use Rattle.vt_bloom.specs.Bloom.{BloomState}
use Rattle.vt_core.specs.declared.event.Event.TheVariants.{BloomAdvance}
use Rattle.vt_core.specs.Core.{CoreState}
use Rattle.vt_core.specs.Saving.{SavesSoundly}
use Rattle.vt_core.specs.Steps.{Steps}
use Rattle.vt_core.specs.View.{state_of}
use Rattle.vt_core.specs.Work.{SavesIn}
use Rattle.vt_core.proofs.FilterWork.{filter_whole, filter_steps}
use Rattle.vt_core.proofs.store.Core.advance_filter.Goals as goal

pub advance_any-requires : goal.advance_any-requires
advance_any-requires g c = record { counts = λ b is. (c.self.invariant.0.filter b is).counts; made = λ b is. (c.self.invariant.0.filter b is).made }

pub invariant_of-self : goal.invariant_of-self
invariant_of-self g c =
    let k : CoreState g.row.D.Denot = state_of c.self.inside in (
      filter_whole g.S.Scorer.score_of g.D.Disk k c.advance_any.new.bloom c.advance_any.result
          (subst (λ (n : ℕ). SavesIn k.bits n c.advance_any.result k.bloom c.advance_any.new.bloom) c.durable-durable.ensures c.advance_any.ensures.saves) c.self.invariant.0,
      c.self.invariant.1,
    )

pub returns : goal.returns
returns g c =
    let k : CoreState g.row.D.Denot = state_of c.self.inside in
    let bloom : Option (BloomState g.row.D.Denot) = c.advance_any.new.bloom in
    let durable : c.durable-durable.result ≡ k.log.durable = c.durable-durable.ensures in
    subst (λ (m : CoreState g.row.D.Denot). Steps g.S.Scorer.score_of g.D.Disk BloomAdvance c.advance_any.result m (record k { bloom = bloom })) c.self.view_is
    (filter_steps g.S.Scorer.score_of g.D.Disk k bloom c.advance_any.result
    (subst (λ (n : ℕ). SavesIn k.bits n c.advance_any.result k.bloom bloom) durable c.advance_any.ensures.saves) c.self.invariant.0
    c.advance_any.ensures.calls
    (λ before after was is. subst (λ (n : ℕ). SavesSoundly g.D.Disk k.bits n before after) durable (c.advance_any.ensures.sound before after was is))
    c.true_marks_stay.ensures.more c.crash_gives_a_prefix.ensures.prefix (λ d tells. g.met.D.Disk.read_is_image d tells))
