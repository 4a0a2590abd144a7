use Rattle.std.proofs.Common.{sym, ◌∙◌, ap, arith, length, length-drop}
use Rattle.vt_wire.specs.Lines.{line_of}
use Rattle.vt_session.proofs.Hearings.{line_len}
use Rattle.vt_session.proofs.talker.hear_line.Goals as goal

pub skip-requires : goal.skip-requires
skip-requires c = line_len c.args.waiting.now c.in-Whole.len c.in-Whole.has_02
    (ap line_of (sym c.as_slice.ensures.value) ∙ sym c.in-Whole.ensures)

pub returns-in-Whole-clause-same : goal.returns-in-Whole-clause-same
returns-in-Whole-clause-same c = omega (
  arith,
  line_len c.args.waiting.now c.in-Whole.len c.in-Whole.has_02
      (ap line_of (sym c.as_slice.ensures.value) ∙ sym c.in-Whole.ensures),
  ap length c.skip.ensures,
  length-drop c.in-Whole.len c.args.waiting.now,
)
