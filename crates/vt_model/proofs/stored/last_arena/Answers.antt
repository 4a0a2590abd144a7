use Rattle.std.proofs.Common.{sym}
use Rattle.vt_model.proofs.Room.{last_arena-history_of}
use Rattle.vt_model.proofs.stored.last_arena.Goals as goal

pub returns-in-Some : goal.returns-in-Some
returns-in-Some c =
    sym (last_arena-history_of c.args.blocks.now c.in-Some.block.now (sym c.in-Some.ensures.value))
