use Rattle.std.proofs.Common.{◌∙◌}
use Rattle.vt_format.proofs.Clearing.{one_more, still_sound}
use Rattle.vt_format.proofs.usage.clear_buckets.Goals as goal

pub loop-piece-preserved : goal.loop-piece-preserved
loop-piece-preserved g c =
    one_more g.D.Disk c.soundness_is_kept.ensures.forget c.loop-piece.piece c.args.section.now c.loop-piece.section c.clear.new.self c.loop-piece.invariant
    c.clear.ensures.same
    (λ known told sound. rw (c.from-all.ensures, c.buckets.ensures, c.from.ensures, c.from-in-loop-piece.ensures, c.head-first.ensures) at (c.in_ok-clear.ensures.cleared known told sound))
    (rw (c.from-all.ensures, c.buckets.ensures, c.from.ensures, c.from-in-loop-piece.ensures) at c.in_ok-clear.ensures.calls)
    c.clear.ensures.writes.size c.in_ok-clear.ensures.faults

pub returns-in_err-clear-clause-size : goal.returns-in_err-clear-clause-size
returns-in_err-clear-clause-size g c = c.clear.ensures.writes.size ∙ c.loop-piece.invariant.size

pub returns-clause-size : goal.returns-clause-size
returns-clause-size g c = c.loop-piece.invariant.size

pub returns-in_err-clear-clause-sound : goal.returns-in_err-clear-clause-sound
returns-in_err-clear-clause-sound g c =
    still_sound g.D.Disk c.soundness_is_kept.ensures.forget c.loop-piece.piece _ _ c.args.section.now c.loop-piece.section c.clear.new.self
    c.loop-piece.invariant c.clear.ensures.others

pub returns-clause-sound : goal.returns-clause-sound
returns-clause-sound g c told sound =
    c.soundness_is_kept.ensures.forget c.loop-piece.section _ _ (λ n entries is. absurd (cc)) (c.loop-piece.invariant.holds told sound)
