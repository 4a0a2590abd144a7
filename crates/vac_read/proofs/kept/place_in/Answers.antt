use Rattle.std.proofs.Common.{◌≡◌, ◌+◌, ◌<◌, ◌≤◌, ℕ, List, refl, sym, ◌∙◌, ap, subst, arith, ⊎_elim}
use Rattle.std.proofs.lemmas.Bool.{cases_lt}
use Rattle.vac_read.specs.declared.kept.KeptFolder.{KeptFolder}
use Rattle.vac_read.specs.Kept.{IsKeptAt, IsKeptOf}
use Rattle.vac_read.proofs.Keeps.{at_from, at_item, at_within}
use Rattle.vac_read.proofs.kept.place_in.Goals as goal

pub returns-then-is_of : goal.returns-then-is_of
returns-then-is_of c =
    let folders : List KeptFolder = c.args.folders.now in
    let item : KeptFolder = c.folder-item.result in
    subst (λ (n : ℕ). IsKeptAt c.args.entries.now c.args.metadata.now folders n)
    (sym c.loop-folder.invariant.at_is)
    (at_from c.args.entries.now c.args.metadata.now folders c.loop-folder.folder-index item
    c.loop-folder-test.true
    (subst (λ (k : KeptFolder). IsKeptOf c.args.entries.now c.args.metadata.now k)
    c.folder-item.is (c.if-is_of.ensures)))

pub loop-folder-preserved : goal.loop-folder-preserved
loop-folder-preserved c =
    let folders : List KeptFolder = c.args.folders.now in
    let item : KeptFolder = c.folder-item.result in
    let index : ℕ = c.loop-folder.folder-index in
    record {
      at_is = ap (λ (n : ℕ). n + 1) c.loop-folder.invariant.at_is;
      before = λ k within it. ⊎_elim
          (λ (low : k < index). c.loop-folder.invariant.before k low it)
          (λ (high : index ≤ k).
          let same : k ≡ index = omega arith in
          c.if-is_of.ensures
          (subst (λ (f : KeptFolder). IsKeptOf c.args.entries.now c.args.metadata.now f)
          (sym c.folder-item.is)
          (at_item c.args.entries.now c.args.metadata.now folders index item
          (subst (λ (n : ℕ). IsKeptAt c.args.entries.now c.args.metadata.now folders n) same it))))
          (cases_lt k index);
    }

pub returns : goal.returns
returns c = λ kept.
    let within = at_within c.args.entries.now c.args.metadata.now c.args.folders.now kept.0 kept.1 in
    c.loop-folder.invariant.before kept.0 (omega (arith, c.loop-folder-test.false)) kept.1
