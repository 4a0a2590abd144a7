-- Each turn passes an arena that has no block left.
use Rattle.std.proofs.Common.{◌≡◌, ◌-◌, ◌<◌, refl, ◌∙◌, ap, subst, arith, length, get_or, Some}
use Rattle.std.specs.Prelude.{slice_get}
use Rattle.std.proofs.lemmas.Option.{slice_get_read}
use Rattle.vt_arena.specs.declared.head.Found.{Found}
use Rattle.vt_log.specs.Back.{TailState}
use Rattle.vt_log.specs.Log.{LogState}
use Rattle.vt_log.specs.Whole.{IsWholeLog}
use Rattle.vt_log.proofs.Versions.{head_on}
use Rattle.vt_log.proofs.StepsBack.{skip_some, skip_more, skip_behind}
use Rattle.vt_log.proofs.log.Log.skip_empty.Goals as goal

pub loop-tail-preserved : goal.loop-tail-preserved
loop-tail-preserved g c =
    let l : LogState _ = c.args.self.now in
    let t : TailState = record {
      left = c.loop-tail.tail-inside.left;
      queued = c.loop-tail.tail-inside.queued;
      arena = c.loop-tail.tail-inside.arena;
      at = c.loop-tail.tail-inside.at;
    } in
    let new : TailState = record t { arena = t.arena - 1; at = c.start-tail-inside.result } in
    let found : Found = c.index.result.now in
    let some : 0 < t.arena = skip_some l c.args.tail.now t c.loop-tail.invariant c.requires.left c.loop-tail-test.true in
    let below : new.arena < length l.heads = omega (arith, some, c.loop-tail.invariant.tail.arena) in
    let is : found ≡ get_or l.heads new.arena found = c.index.ensures ∙ ap (λ (m : LogState _). get_or m.heads new.arena found) c.self.view_is in
    let at : slice_get l.heads new.arena ≡ Some found = slice_get_read l.heads (length l.heads) new.arena found refl below is in
    skip_more l c.args.tail.now t new found c.loop-tail.invariant c.requires.left c.loop-tail-test.true (omega (arith, some)) at refl refl c.start-tail-inside.ensures
    (head_on g.D.Disk l (subst (IsWholeLog g.D.Disk) c.self.view_is c.self.invariant) new.arena found at)

pub returns-clause-behind : goal.returns-clause-behind
returns-clause-behind g c h n sound behind =
    skip_behind _ _ c.args.self.now h n c.args.tail.now _ c.requires.tail c.requires.queued c.loop-tail.invariant sound behind
