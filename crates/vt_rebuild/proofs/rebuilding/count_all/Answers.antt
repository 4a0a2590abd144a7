use Rattle.std.proofs.Common.{◌≡◌, ◌∙◌, ℕ, List, drop, length, sym, subst, arith}
use Rattle.std.proofs.lemmas.List.{take_at}
use Rattle.std.proofs.lemmas.Result.{err_from_is_err_and}
use Rattle.vt_rebuild.specs.Walking.{AreCounted}
use Rattle.vt_rebuild.proofs.Assembling.{fault_refused}
use Rattle.vt_rebuild.proofs.Counting.{all_fit, first_full_is}
use Rattle.vt_rebuild.proofs.rebuilding.count_all.Goals as goal

pub returns-in_err-count_blocks-clause-refused : goal.returns-in_err-count_blocks-clause-refused
returns-in_err-count_blocks-clause-refused g c = λ h is.
    let p = err_from_is_err_and c.from_residual.result c.from_residual.ensures.1 in
    rw (p.1, p.2) (fault_refused g.S.Scorer.score_of c.args.total h _ (c.in_err-count_blocks.ensures.undamaged h is.tells is.sound))

pub returns-in-Some-clause-refused : goal.returns-in-Some-clause-refused
returns-in-Some-clause-refused g c = λ h is.
    let score = g.S.Scorer.score_of in
    let counts : List ℕ = c.count_blocks.new.counts in
    let all : length c.deref_mut.result.now ≡ c.args.total = omega (arith, c.deref_mut.ensures.len, c.in-Ok.ensures.len) in
    let many : length counts ≡ c.args.total = omega (arith, c.count_blocks.ensures.len, all) in
    let counted : AreCounted score c.args.total h counts = subst (λ (n : ℕ). AreCounted score n h counts) all (c.in_ok-count_blocks.ensures.counted h is.tells is.sound) in
    let len : length counts ≡ c.in-Ok.counts.len = omega (arith, many, c.in-Ok.ensures.len, c.in-Ok.counts.ok.0) in
    let same : c.deref.result.now ≡ counts = c.deref.ensures.value ∙ take_at counts (drop (length counts) c.in-Ok.counts.items) c.in-Ok.counts.len len in
    first_full_is score c.args.total h c.deref.result.now c.in-Some.bucket (subst (λ (ns : List ℕ). AreCounted score c.args.total h ns) (sym same) counted)
    (subst (λ (ns : List ℕ). length ns ≡ c.args.total) (sym same) many) c.in-Some.ensures.first.0 c.in-Some.ensures.first.1 c.in-Some.ensures.first.2

pub returns-clause-room : goal.returns-clause-room
returns-clause-room g c = λ h is.
    let score = g.S.Scorer.score_of in
    let counts : List ℕ = c.count_blocks.new.counts in
    let all : length c.deref_mut.result.now ≡ c.args.total = omega (arith, c.deref_mut.ensures.len, c.in-Ok.ensures.len) in
    let many : length counts ≡ c.args.total = omega (arith, c.count_blocks.ensures.len, all) in
    let counted : AreCounted score c.args.total h counts = subst (λ (n : ℕ). AreCounted score n h counts) all (c.in_ok-count_blocks.ensures.counted h is.tells is.sound) in
    let len : length counts ≡ c.in-Ok.counts.len = omega (arith, many, c.in-Ok.ensures.len, c.in-Ok.counts.ok.0) in
    let same : c.deref.result.now ≡ counts = c.deref.ensures.value ∙ take_at counts (drop (length counts) c.in-Ok.counts.items) c.in-Ok.counts.len len in
    all_fit score c.args.total h c.deref.result.now (subst (λ (ns : List ℕ). AreCounted score c.args.total h ns) (sym same) counted)
    (subst (λ (ns : List ℕ). length ns ≡ c.args.total) (sym same) many) c.in_default-first_full.ensures.none
