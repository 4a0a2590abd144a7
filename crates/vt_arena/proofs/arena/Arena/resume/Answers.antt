use Rattle.std.proofs.Common.{rules}
use Rattle.vt_arena.proofs.Memory.{fresh_whole}
use Rattle.vt_arena.proofs.arena.Arena.resume.Goals as goal

pub invariant_of-result : goal.invariant_of-result
invariant_of-result c =
    fresh_whole c.args.found.head.number c.args.len _ c.resume.result c.args.found.head c.in_ok-staged.staged c.in_ok-directory.directory c.in_ok-buffer.buffer c.resume.ensures c.requires.len c.requires.fit
    (search rules) (search rules) (search rules) (search rules)
