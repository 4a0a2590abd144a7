use Rattle.std.proofs.Common.{ap, sym, subst}
use mathlib.Core.List.{IsPrefix}
use Rattle.vt_turns.specs.Views.{turn_of}
use Rattle.vt_turns_example.specs.Stores.{TheView}
use Rattle.vt_turns_example.proofs.Talks.{prefix_on}
use Rattle.vt_turns_example.proofs.workers.meet.Goals as goal

pub join_pass-requires-clause-other : goal.join_pass-requires-clause-other
join_pass-requires-clause-other c = let new = c.note-note.ensures.new in (new.0, λ k. ap (λ (v : TheView). turn_of v k) new.1)

pub join_pass-requires-2-clause-other : goal.join_pass-requires-2-clause-other
join_pass-requires-2-clause-other c = let new = c.note-note-2.ensures.new in (new.0, λ k. ap (λ (v : TheView). turn_of v k) new.1)

pub returns-clause-first : goal.returns-clause-first
returns-clause-first c =
    let a = c.args.first.now.me.0 in
    let b = c.args.second.now.me.0 in
    let one = c.join_pass.ensures.joins in
    let two = c.join_pass-2.ensures.joins in
    let told = subst (λ (v : TheView). IsPrefix v.seen c.join_pass-2.new.pass.me.0.seen) c.note-note-2.ensures.new.1 two.theirs in
    let kept = subst (λ (v : TheView). IsPrefix v.seen c.join_pass-2.new.pass.me.0.seen) c.note-note.ensures.view two.mine in
    (kept, prefix_on b.seen c.join_pass.new.pass.me.0.seen c.join_pass-2.new.pass.me.0.seen one.mine told)

pub returns-clause-second : goal.returns-clause-second
returns-clause-second c =
    let one = c.join_pass.ensures.joins in
    let same = ap (λ (v : TheView). v.seen) c.note-note-2.ensures.view in
    let w = c.note-note-2.new.pass.me.0 in
    let told = subst (λ (v : TheView). IsPrefix v.seen c.join_pass.new.pass.me.0.seen) c.note-note.ensures.new.1 one.theirs in
    (subst (λ h. IsPrefix c.args.second.now.me.0.seen h) (sym same) one.mine, subst (λ h. IsPrefix c.args.first.now.me.0.seen h) (sym same) told)
