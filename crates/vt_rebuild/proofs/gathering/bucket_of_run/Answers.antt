use Rattle.std.proofs.Common.{◌≡◌, ◌+◌, ◌∷◌, [], ◌++◌, ℕ, List, take, ap, sym, refl, subst, ◌∙◌, rules}
use Rattle.std.specs.List.{Contains}
use Rattle.std.proofs.lemmas.List.{take_more, take_all}
use Rattle.vt_base.specs.declared.place.Entry.{Entry}
use Rattle.vt_bucket.specs.Buckets.{bucket_entries}
use Rattle.vt_isect.specs.Merging.{Merges}
use Rattle.vt_isect.proofs.Merges.{merges_none, merges_more}
use Rattle.vt_rebuild.proofs.Buckets.{has_more}
use Rattle.vt_rebuild.proofs.gathering.bucket_of_run.Goals as goal

pub loop-i-init : goal.loop-i-init
loop-i-init c = record {
  merged = subst (λ (l : List Entry). Merges l (Contains (take 0 c.args.run.now)) (bucket_entries c.new-bucket.result)) c.new-bucket.ensures.entries
      (merges_none (bucket_entries c.new-bucket.result) (take 0 c.args.run.now) (search rules));
  number = c.new-bucket.ensures.number;
}

pub loop-i-preserved : goal.loop-i-preserved
loop-i-preserved c =
    let mid : List Entry = bucket_entries c.loop-i.bucket in
    let xs : List Entry = c.args.run.now in
    let i : ℕ = c.loop-i.i in
    let y : Entry = c.index-run-i.result in
    let grown : take (i + 1) xs ≡ take i xs ++ y ∷ [] = take_more xs i y c.loop-i-test.true ∙ ap (λ (x : Entry). take i xs ++ x ∷ []) (sym c.index-run-i.is) in
    record {
      merged = subst (λ (l : List Entry). Merges [] (Contains l) (bucket_entries c.with.new.self)) (sym grown)
          (merges_more [] mid (bucket_entries c.with.new.self) (take i xs) y c.loop-i.invariant.merged (search rules));
      number = c.with.ensures.number ∙ c.loop-i.invariant.number;
    }

pub returns-in-Err-clause-full : goal.returns-in-Err-clause-full
returns-in-Err-clause-full c =
    let full = c.in-Err.ensures.full.0 refl in
    has_more c.args.run.now (bucket_entries c.loop-i.bucket) c.index-run-i.result c.loop-i.i
    (c.loop-i.i, c.loop-i-test.true, sym c.index-run-i.is) c.loop-i.invariant.merged c.loop-i.bucket.ascending full.0 full.1

pub returns-clause-merged : goal.returns-clause-merged
returns-clause-merged c =
    let xs : List Entry = c.args.run.now in
    subst (λ (l : List Entry). Merges [] (Contains l) (bucket_entries c.loop-i.bucket)) (take_all c.loop-i.i xs c.loop-i-test.false) c.loop-i.invariant.merged
