use Rattle.std.proofs.Common.{length, sym, ap, ◌∙◌}
use Rattle.nine_wire.proofs.NamesIn.{names_len}
use Rattle.nine_wire.proofs.names.Names.len.Goals as goal

pub returns : goal.returns
returns c =
    sym (names_len c.self.inside.count c.self.inside.bytes.now) ∙ ap length c.self.view_is
