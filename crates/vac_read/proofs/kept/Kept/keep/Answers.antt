use Rattle.std.proofs.Common.{◌≡◌, ◌+◌, ◌≤◌, ℕ, List, sym, ◌∙◌, ap, subst}
use Rattle.std.specs.List.{AllByRecursion}
use Rattle.vac_read.specs.declared.kept.KeptFolder.{KeptFolder}
use Rattle.vac_read.specs.Kept.{IsKeptFolder, all_cost, kept_cost}
use Rattle.vac_read.proofs.Keeps.{all_push, cost_push}
use Rattle.vac_read.proofs.kept.Kept.keep.Goals as goal

pub invariant_of-self-2 : goal.invariant_of-self-2
invariant_of-self-2 c =
    let folders : List KeptFolder = c.self.inside.folders.items in
    let more = c.in_ok-push.ensures.items in
    let cost : all_cost c.push.new.self.items ≡ all_cost folders + kept_cost c.args.folder =
    ap (λ (l : List KeptFolder). all_cost l) more ∙ cost_push folders c.args.folder in
    let room : all_cost folders + kept_cost c.args.folder ≤ 33685504 =
    subst (λ (l : List KeptFolder). all_cost l + kept_cost c.args.folder ≤ 33685504)
    (sym c.self.view_is) c.requires.room in (
      record {
        each = subst (λ (l : List KeptFolder). AllByRecursion IsKeptFolder l) (sym more)
            (all_push IsKeptFolder folders c.args.folder c.self.invariant.0.each c.requires.folder);
        most = subst (λ (n : ℕ). n ≤ 33685504) (sym cost) room;
      },
      ap (λ (n : ℕ). n + (65536 + c.size_of-cost.result)) c.self.invariant.1
          ∙ ap (λ (n : ℕ). all_cost folders + (65536 + n)) c.size_of-cost.ensures ∙ sym cost,
    )
