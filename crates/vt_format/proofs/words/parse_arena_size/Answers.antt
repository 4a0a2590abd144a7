use Rattle.std.proofs.Common.{◌≤◌, sym, arith}
use Rattle.vt_format.proofs.Numbers.{whole}
use Rattle.vt_format.proofs.words.parse_arena_size.Goals as goal

pub returns-else-is_arena_size-clause-bad : goal.returns-else-is_arena_size-clause-bad
returns-else-is_arena_size-clause-bad c =
    let most : c.in_ok-size.size ≤ 1073741824 = c.in_ok-size.ensures.most in
    sym (whole c.args.text.now c.in_ok-size.size (omega (arith, most)) c.in_ok-size.ensures.ok)
