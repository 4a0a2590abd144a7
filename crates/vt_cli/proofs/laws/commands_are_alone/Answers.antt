use Rattle.vt_cli.proofs.Asking.{alone}
use Rattle.vt_cli.proofs.laws.commands_are_alone.Goals as goal

pub returns : goal.returns
returns c words command asked x y = alone words command asked x y
