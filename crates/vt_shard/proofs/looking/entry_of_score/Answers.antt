use Rattle.std.proofs.Common.{◌≡◌, ◌++◌, ◌∷◌, [], ⊎_elim, List, get_or, take, sym, ap, subst, ◌∙◌, false, true≢false}
use Rattle.std.specs.List.{Contains}
use Rattle.std.specs.Str.{bytes_eq}
use Rattle.std.proofs.lemmas.List.{take_more, take_all}
use Rattle.std.proofs.lemmas.List.Elements.{Contains-get_or, Contains-push_cases}
use Rattle.std.proofs.lemmas.Slice.Eq.{bytes_eq-Decides}
use Rattle.vt_base.specs.declared.place.Entry.{Entry}
use Rattle.vt_shard.proofs.looking.entry_of_score.Goals as goal

pub loop-entry-preserved : goal.loop-entry-preserved
loop-entry-preserved c =
    let xs : List Entry = c.args.entries.now in
    let i = c.loop-entry.entry-index in
    let y : Entry = c.entry-item.result in
    let grown = take_more xs i y c.loop-entry-test.true ∙ ap (λ (x : Entry). take i xs ++ x ∷ []) (sym c.entry-item.is) in
    let other : bytes_eq y.key.score.0 c.args.score.now.0 ≡ false = sym c.eq.ensures ∙ c.if-eq.false in
    λ info it. ⊎_elim
    (λ (was : Contains (take i xs) info). c.loop-entry.invariant info was)
    (λ (is : y ≡ info) same. true≢false (sym ((bytes_eq-Decides y.key.score.0 c.args.score.now.0).1 (ap (λ (x : Entry). x.key.score.0) is ∙ same)) ∙ other))
    (Contains-push_cases (take i xs) y info (subst (λ (l : List Entry). Contains l info) grown it))

pub returns : goal.returns
returns c = λ k d within.
    c.loop-entry.invariant (get_or c.args.entries.now k d) (subst (λ (l : List Entry). Contains l (get_or c.args.entries.now k d))
    (sym (take_all c.loop-entry.entry-index c.args.entries.now c.loop-entry-test.false)) (Contains-get_or c.args.entries.now k d within))
