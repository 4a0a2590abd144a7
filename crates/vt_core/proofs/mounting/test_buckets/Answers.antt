use Rattle.std.proofs.Common.{◌≡◌, ◌≤◌, ◌+◌, ◌∷◌, [], ◌++◌, ℕ, List, length, map, take, Option, Some, sym, ap, subst, arith, ◌∙◌}
use Rattle.std.specs.Prelude.{MatchOption, slice_get, sum}
use Rattle.std.proofs.lemmas.List.{length-map, length-take, take_all}
use Rattle.vt_base.specs.declared.mount.MountField.TheVariants.{Buckets}
use Rattle.vt_core.specs.Refusals.{IsFirstPast, IsTally, PassesOrRefuses}
use Rattle.vt_recover.proofs.Lists.{at_map}
use Rattle.vt_core.proofs.Tallies.{sum_more}
use Rattle.vt_core.proofs.TestsParts.{read_at}
use Rattle.vt_core.proofs.mounting.test_buckets.Goals as goal
use Rattle.vt_core.proofs.Runs.{one_longer}

pub loop-i-preserved : goal.loop-i-preserved
loop-i-preserved g c =
    let sections = c.args.sections.now in
    let i = c.loop-i.i in
    let counts = map (λ s. s.buckets) sections in
    let count = c.index-sections-i.result.buckets in
    let at : slice_get counts i ≡ Some count =
    at_map (λ s. s.buckets) sections i c.index-sections-i.result (read_at sections i c.index-sections-i.result c.loop-i-test.true c.index-sections-i.is) in
    let next : take (i + 1) counts ≡ take i counts ++ count ∷ [] = one_longer counts i count at in
    let many : length counts ≡ length sections = length-map sections (λ s. s.buckets) in
    let len : length (take i counts) ≡ i = omega (arith, length-take i counts, many) in
    let tally = c.add.ensures c.args.part (take i counts) c.loop-i.invariant.tally (omega (arith, len)) in
    let same : take i counts ++ c.buckets.result ∷ [] ≡ take (i + 1) counts = ap (λ (n : ℕ). take i counts ++ n ∷ []) c.buckets.ensures ∙ sym next in
    record {
      tally = subst (λ (l : List ℕ). IsTally 1048576 c.args.part l c.add.new.self) same tally;
      low = omega (arith, tally.total, c.loop-i.invariant.tally.total, sum_more (take i counts) c.buckets.result);
    }

pub test-requires : goal.test-requires
test-requires g c = λ none.
    let counts = take c.loop-i.i (map (λ s. s.buckets) c.args.sections.now) in
    let low : sum counts ≤ 1048576 = subst (λ (o : Option ℕ). MatchOption o (sum counts ≤ 1048576) (λ part. (i : ℕ) × (part ≡ c.args.part + i) × IsFirstPast 1048576 counts i)) none c.loop-i.invariant.tally.past in
    omega (arith, low, c.loop-i.invariant.tally.total)

pub returns : goal.returns
returns g c =
    let counts = map (λ s. s.buckets) c.args.sections.now in
    let many : length counts ≡ length c.args.sections.now = length-map c.args.sections.now (λ s. s.buckets) in
    let all : take c.loop-i.i counts ≡ counts = take_all c.loop-i.i counts (omega (arith, many)) in
    subst (λ (l : List ℕ). PassesOrRefuses Buckets 1048576 c.args.part l c.test.result) all (c.test.ensures c.args.part (take c.loop-i.i counts) c.loop-i.invariant.tally)
