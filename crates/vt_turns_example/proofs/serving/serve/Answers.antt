use Rattle.std.proofs.Common.{sym, subst, ◌++◌, ◌∷◌, [], ◌∙◌, ap}
use Rattle.vt_turns_example.specs.Work.{Works}
use Rattle.vt_turns_example.proofs.Talks.{works_none, works_on}
use Rattle.vt_turns_example.proofs.serving.serve.Goals as goal

pub loop-init : goal.loop-init
loop-init g c = let p = c.args.pass.now in let own = c.requires.free in
    (tt, tt, own, subst (λ l. Works p p l) (sym c.requires.fresh) (works_none p (own.0.0.1, own.0.0.2) own.1))

pub loop-preserved : goal.loop-preserved
loop-preserved g c = let p = c.args.pass.now in let r = c.answer-line.new.pass in let line = c.answer-line.result in
    let told = c.answer.ensures.told ∙ ap (λ l. l ++ line ∷ []) c.next-in-loop.ensures.told in
    (tt, tt, c.answer-line.ensures.free, subst (λ l. Works p r l) (sym told) (works_on p c.loop.pass r (g.L.Link.told c.loop.link) (line ∷ []) c.loop.invariant.3 c.answer-line.ensures.works))
