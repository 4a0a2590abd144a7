use Rattle.std.proofs.Common.{◌≡◌, ◌≢◌, ◌+◌, ◌∷◌, [], ◌++◌, ℕ, List, take, ap, sym, subst, ◌∙◌, rules}
use Rattle.std.specs.List.{Contains}
use Rattle.std.proofs.lemmas.List.{take_more, take_all}
use Rattle.vt_base.specs.declared.place.Entry.{Entry}
use Rattle.vt_isect.specs.Merging.{HasKey}
use Rattle.vt_isect.proofs.Merges.{no_key_more}
use Rattle.vt_isect.proofs.merging.has_key.Goals as goal

pub loop-entry-preserved : goal.loop-entry-preserved
loop-entry-preserved c =
    let xs : List Entry = c.args.entries.now in
    let i : ℕ = c.loop-entry.entry-index in
    let y : Entry = c.entry-item.result in
    let grown : take (i + 1) xs ≡ take i xs ++ y ∷ [] =
    take_more xs i y c.loop-entry-test.true ∙ ap (λ (x : Entry). take i xs ++ x ∷ []) (sym c.entry-item.is) in
    let other : y.key ≢ c.args.key.now = search rules in
    subst (λ (l : List Entry). ¬ HasKey (Contains l) c.args.key.now) (sym grown)
    (no_key_more c.args.key.now (take i xs) y c.loop-entry.invariant other)

pub returns : goal.returns
returns c = (
  λ yes. absurd (search rules),
  λ it. absurd (c.loop-entry.invariant
      (subst (λ (l : List Entry). HasKey (Contains l) c.args.key.now)
      (sym (take_all c.loop-entry.entry-index c.args.entries.now c.loop-entry-test.false)) it)),
)
