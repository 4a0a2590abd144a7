use Rattle.std.proofs.Common.{Option, Some, refl, sym, subst}
use Rattle.vt_bloom.specs.Bloom.{BloomState}
use Rattle.vt_core.specs.Work.{SavesIn}
use Rattle.vt_core.proofs.advancing.advance_any.Goals as goal

pub returns-in-Some-clause-saves : goal.returns-in-Some-clause-saves
returns-in-Some-clause-saves g c =
    subst (λ (o : Option (BloomState g.row.D.Denot)). SavesIn c.args.bits.now c.args.durable c.advance_save.result o (Some c.advance_save.new.bloom)) (sym c.in-Some.is)
    (c.advance_save.new.bloom, refl, c.advance_save.ensures.saves)
