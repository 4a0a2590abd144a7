use Rattle.std.proofs.Common.{◌≡◌, ◌+◌, ◌-◌, ◌*◌, ◌<◌, ◌≤◌, min, Bool, false, true, ℕ, suc, List, length, sym, subst, arith}
use Rattle.vt_check.specs.declared.clumps.Cut.{Cut}
use Rattle.vt_check.specs.Checking.{taken}
use Rattle.vt_check.proofs.Following.{IsCutting, cut_more}
use Rattle.vt_check.proofs.clumps.cut_all.Goals as goal

pub cut_at-cut-requires-clause-entries : goal.cut_at-cut-requires-clause-entries
cut_at-cut-requires-clause-entries c = λ off. omega (arith, c.requires.entries off, c.loop-left.invariant.count_is)

pub loop-left-preserved : goal.loop-left-preserved
loop-left-preserved c =
    let bytes : List ℕ = c.args.bytes.now in
    let start : ℕ = c.loop-left.start in
    let cut : Cut = c.cut_at-cut.result in
    let at = c.cut_at-cut.ensures in
    let left : c.loop-left.left ≡ suc (c.loop-left.left - 1) = omega arith in
    let room : c.args.more ≡ true → 65573 ≤ length bytes - start = λ is. omega (arith, c.least_left-least.ensures.more is) in
    let next : c.min-start.result ≡ min (start + taken c.args.version (cut.end - cut.start)) (length bytes) =
    omega (arith, c.min-start.ensures, c.taken.ensures.taken) in
    subst (λ (l : List Cut). IsCutting c.args.version bytes c.args.more c.args.entries.now c.args.own c.args.count c.min-start.result (c.loop-left.left - 1) l) (sym c.in_ok-push.ensures.pushed)
    (cut_more c.args.version bytes c.args.more c.args.entries.now c.args.own c.args.count start c.loop-left.left (c.loop-left.left - 1) c.loop-left.cuts.items c.loop-left.invariant left room
    cut at.within at.clump at.len at.small at.entry at.own c.min-start.result next)
