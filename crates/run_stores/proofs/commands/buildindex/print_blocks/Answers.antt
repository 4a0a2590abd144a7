-- the digits of the number
use Rattle.std.proofs.Common.{◌∙◌}
use Rattle.run_stores.proofs.commands.buildindex.print_blocks.Goals as goal

pub returns : goal.returns
returns g c = rw (c.as_bytes.ensures.value ∙ c.format.ensures.text) at c.print.ensures
