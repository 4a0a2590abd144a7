use Rattle.std.proofs.Common.{◌+◌, ◌++◌, ◌∷◌, [], max, List, take, sym, ap, subst, ◌∙◌}
use Rattle.std.proofs.lemmas.List.{take_more, take_all}
use Rattle.std.proofs.lemmas.Option.{MatchOption-at_some}
use Rattle.vt_base.specs.declared.place.Info.{Info}
use Rattle.vt_shard.proofs.IsAboveAll.{IsGreatest, greatest_more, front_empty, above_greatest}
use Rattle.vt_shard.proofs.writeback.above_all.Goals as goal

pub loop-info-preserved : goal.loop-info-preserved
loop-info-preserved c =
    let xs : List Info = c.args.dirty.now in
    let i = c.loop-info.info-index in
    let y : Info = c.info-item.result in
    greatest_more (take i xs) (take (i + 1) xs) y c.loop-info.greatest c.max.result
    (take_more xs i y c.loop-info-test.true ∙ ap (λ (x : Info). take i xs ++ x ∷ []) (sym c.info-item.is))
    (front_empty xs i c.loop-info.greatest _ c.loop-info.invariant)
    (c.max.ensures ∙ ap (max y.number) c.unwrap_or.ensures)

pub returns-clause-some : goal.returns-clause-some
returns-clause-some c =
    let it : IsGreatest (take c.loop-info.info-index c.args.dirty.now) c.in_ok-greatest.field-0 =
    MatchOption-at_some _ _ c.in_ok-greatest.field-0 c.in_ok-greatest.was c.loop-info.invariant in
    above_greatest c.args.dirty.now c.in_ok-greatest.field-0
    (subst (λ (l : List Info). IsGreatest l c.in_ok-greatest.field-0) (take_all c.loop-info.info-index c.args.dirty.now c.loop-info-test.false) it)
