-- the digits of the two numbers
use Rattle.std.proofs.Common.{◌∙◌}
use Rattle.run_stores.proofs.commands.fmtbloom.print_filter.Goals as goal

pub returns : goal.returns
returns g c =
    rw (c.as_bytes.ensures.value ∙ c.format.ensures.text, c.as_bytes-2.ensures.value ∙ c.format-2.ensures.text) at c.print.ensures
