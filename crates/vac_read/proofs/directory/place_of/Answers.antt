use Rattle.std.proofs.Common.{◌/◌, ◌∙◌, sym, ap, ℕ}
use Rattle.vac_read.proofs.Leaves.{ends_before}
use Rattle.vac_read.proofs.directory.place_of.Goals as goal

pub returns-then-each-eq0 : goal.returns-then-each-eq0
returns-then-each-eq0 c =
    ends_before c.args.stream.now c.args.number c.requires.stream
    (ap (λ (n : ℕ). n / 40) (sym c.from-dsize.ensures) ∙ c.if-each-eq0.true)
