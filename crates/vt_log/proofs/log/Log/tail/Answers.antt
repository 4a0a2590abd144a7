-- No arena is behind the last one.
use Rattle.std.proofs.Common.{◌≡◌, ◌∙◌, ap, length, rules, subst}
use Rattle.vt_log.specs.Log.{LogState, queued}
use Rattle.vt_log.specs.Whole.{IsWholeLog}
use Rattle.vt_log.proofs.IsBehind.{tail_behind}
use Rattle.vt_log.proofs.log.Log.tail.Goals as goal

pub returns-clause-behind : goal.returns-clause-behind
returns-clause-behind g c h sound =
    let queue : c.len.result ≡ queued c.args.self.now = c.len.ensures ∙ ap (λ (l : LogState _). queued l) c.self.view_is in
    let items : c.len-2.result ≡ length c.self.inside.heads.items = search rules in
    let arenas : c.len-2.result ≡ length c.args.self.now.heads = items ∙ ap (λ (l : LogState _). length l.heads) c.self.view_is in
    rw (c.front.ensures.front, queue, arenas) (tail_behind _ _ c.args.self.now h sound)

pub returns-clause-whole : goal.returns-clause-whole
returns-clause-whole g c = subst (λ (l : LogState _). IsWholeLog g.D.Disk l) c.self.view_is c.self.invariant

pub returns-clause-past : goal.returns-clause-past
returns-clause-past g c =
    let items : c.len-2.result ≡ length c.self.inside.heads.items = search rules in
    items ∙ ap (λ (l : LogState _). length l.heads) c.self.view_is
