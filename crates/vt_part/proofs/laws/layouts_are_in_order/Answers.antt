use Rattle.vt_part.proofs.Layouts.{layouts_have_arenas, layouts_list_arenas, layouts_have_lengths, layouts_are_in_order}
use Rattle.vt_part.proofs.laws.layouts_are_in_order.Goals as goal

pub returns-clause-arenas : goal.returns-clause-arenas
returns-clause-arenas c = layouts_have_arenas

pub returns-clause-listed : goal.returns-clause-listed
returns-clause-listed c = layouts_list_arenas

pub returns-clause-lengths : goal.returns-clause-lengths
returns-clause-lengths c = layouts_have_lengths

pub returns-clause-order : goal.returns-clause-order
returns-clause-order c = layouts_are_in_order
