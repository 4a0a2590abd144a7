use Rattle.std.proofs.Common.{◌≡◌, ◌≤◌, List, ℕ, length, take, drop, false, ap, ◌∙◌, subst, inr, arith}
use Rattle.std.proofs.lemmas.Result.{err_from_is_err_and}
use Rattle.vt_tree.specs.Entries.{SpellsEntry}
use Rattle.vac_read.specs.Broken.{IsNoEntry}
use Rattle.vac_read.proofs.archive.top_in.Goals as goal

pub returns-in_err-metadata : goal.returns-in_err-metadata
returns-in_err-metadata c =
    let p = err_from_is_err_and c.from_residual-in_err-metadata.result
    c.from_residual-in_err-metadata.ensures.1 in
    let bytes = c.args.bytes.now in
    let one = c.in-Some.ensures.cases in
    let two = c.in-Some-split_first_chunk.ensures.cases in
    let e = c.in_ok-entries.ensures in
    let second : c.in-Some-split_first_chunk.metadata.now ≡ take 40 (drop 40 bytes) =
    two.0 ∙ ap (λ (l : List ℕ). take 40 l) one.1 in
    let long : 80 ≤ length bytes = omega (arith, one.2, two.2) in
    rw (p.1, p.2) (inr (
      long,
      inr (
        (
          c.in_ok-entries.entries,
          e.0,
          subst (SpellsEntry c.in_ok-entries.entries) one.0 e.1,
          e.2,
        ),
        subst (λ (l : List ℕ). IsNoEntry l false 0 c.in_err-metadata.field-0.0) second
            c.in_err-metadata.ensures,
      ),
    ))
