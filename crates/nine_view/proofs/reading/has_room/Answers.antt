use Rattle.std.proofs.Common.{ℕ, length, sym, ◌∙◌, ap, subst}
use Rattle.std.specs.Prelude.{nat_le}
use Rattle.nine_wire.specs.Messages.{FitsStat, Stat, stat_bytes}
use Rattle.nine_view.proofs.reading.has_room.Goals as goal

pub stat_len-requires : goal.stat_len-requires
stat_len-requires c =
    subst (λ (s : Stat). FitsStat s) (sym c.stat_of-stat.ensures.stat) c.stat_of-stat.ensures.fits

pub returns : goal.returns
returns c =
    ap (λ (n : ℕ). nat_le n c.args.room)
    (c.stat_len.ensures ∙ ap (λ (s : Stat). length (stat_bytes s)) c.stat_of-stat.ensures.stat)
