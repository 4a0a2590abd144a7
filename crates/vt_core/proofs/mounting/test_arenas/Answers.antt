use Rattle.std.proofs.Common.{◌≡◌, ◌≤◌, ◌+◌, ◌∷◌, [], ◌++◌, ℕ, List, length, map, take, Option, Some, sym, ap, subst, arith, ◌∙◌}
use Rattle.std.specs.Prelude.{MatchOption, slice_get, sum}
use Rattle.std.proofs.lemmas.List.{length-map, length-take, take_all}
use Rattle.vt_base.specs.declared.mount.MountField.TheVariants.{Arenas}
use Rattle.vt_part.specs.Parts.{table_of, tables_of}
use Rattle.vt_core.specs.Refusals.{IsFirstPast, IsTally, PassesOrRefuses}
use Rattle.vt_recover.proofs.Lists.{at_map}
use Rattle.vt_core.proofs.Tallies.{sum_more}
use Rattle.vt_core.proofs.TestsParts.{read_at}
use Rattle.vt_core.proofs.mounting.test_arenas.Goals as goal
use Rattle.vt_core.proofs.Runs.{one_longer}

pub loop-i-preserved : goal.loop-i-preserved
loop-i-preserved g c =
    let parts = c.args.parts.now in
    let i = c.loop-i.i in
    let counts = map (λ t. t.count) (tables_of parts) in
    let count = c.index-parts-i.result.head.count in
    let at : slice_get counts i ≡ Some count =
    at_map (λ t. t.count) (tables_of parts) i (table_of c.index-parts-i.result)
    (at_map (λ part. table_of part) parts i c.index-parts-i.result (read_at parts i c.index-parts-i.result c.loop-i-test.true c.index-parts-i.is)) in
    let next : take (i + 1) counts ≡ take i counts ++ count ∷ [] = one_longer counts i count at in
    let many : length counts ≡ length parts = length-map (tables_of parts) (λ t. t.count) ∙ length-map parts (λ part. table_of part) in
    let len : length (take i counts) ≡ i = omega (arith, length-take i counts, many) in
    let tally = c.add.ensures 0 (take i counts) c.loop-i.invariant.tally (omega (arith, len)) in
    let same : take i counts ++ c.count.result ∷ [] ≡ take (i + 1) counts = ap (λ (n : ℕ). take i counts ++ n ∷ []) c.count.ensures.count ∙ sym next in
    record {
      tally = subst (λ (l : List ℕ). IsTally 4096 0 l c.add.new.self) same tally;
      low = omega (arith, tally.total, c.loop-i.invariant.tally.total, sum_more (take i counts) c.count.result);
    }

pub test-requires : goal.test-requires
test-requires g c = λ none.
    let counts = take c.loop-i.i (map (λ t. t.count) (tables_of c.args.parts.now)) in
    let low : sum counts ≤ 4096 = subst (λ (o : Option ℕ). MatchOption o (sum counts ≤ 4096) (λ part. (i : ℕ) × (part ≡ 0 + i) × IsFirstPast 4096 counts i)) none c.loop-i.invariant.tally.past in
    omega (arith, low, c.loop-i.invariant.tally.total)

pub returns : goal.returns
returns g c =
    let counts = map (λ t. t.count) (tables_of c.args.parts.now) in
    let many : length counts ≡ length c.args.parts.now = length-map (tables_of c.args.parts.now) (λ t. t.count) ∙ length-map c.args.parts.now (λ part. table_of part) in
    let all : take c.loop-i.i counts ≡ counts = take_all c.loop-i.i counts (omega (arith, many)) in
    subst (λ (l : List ℕ). PassesOrRefuses Arenas 4096 0 l c.test.result) all (c.test.ensures 0 (take c.loop-i.i counts) c.loop-i.invariant.tally)
