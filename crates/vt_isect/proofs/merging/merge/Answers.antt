use Rattle.std.proofs.Common.{◌≡◌, ◌+◌, ◌∷◌, [], ◌++◌, ℕ, List, length, ◌-◌, take, drop, length-drop, ap, sym, refl, subst, ◌∙◌, arith, rules}
use Rattle.std.specs.List.{Contains}
use Rattle.std.proofs.lemmas.List.{take_more, take_all}
use Rattle.vt_base.specs.declared.place.Entry.{Entry}
use Rattle.vt_bucket.specs.Buckets.{bucket_entries}
use Rattle.vt_isect.specs.Merging.{Merges, HasKeys, IsAbsentEntry}
use Rattle.vt_isect.proofs.Merges.{merges_none, merges_more, some_keys, keys_joined, first_of_rest}
use Rattle.vt_isect.proofs.merging.merge.Goals as goal

pub loop-i-init : goal.loop-i-init
loop-i-init c = record { merged = merges_none (bucket_entries c.args.bucket.now) (take 0 c.args.group.now) (search rules); number = refl }

pub loop-i-preserved : goal.loop-i-preserved
loop-i-preserved c =
    let old : List Entry = bucket_entries c.args.bucket.now in
    let mid : List Entry = bucket_entries c.loop-i.bucket in
    let xs : List Entry = c.args.group.now in
    let i : ℕ = c.loop-i.i in
    let y : Entry = c.index-group-i.result in
    let grown : take (i + 1) xs ≡ take i xs ++ y ∷ [] = take_more xs i y c.loop-i-test.true ∙ ap (λ (x : Entry). take i xs ++ x ∷ []) (sym c.index-group-i.is) in
    record {
      merged = subst (λ (l : List Entry). Merges old (Contains l) (bucket_entries c.with.new.self)) (sym grown)
          (merges_more old mid (bucket_entries c.with.new.self) (take i xs) y c.loop-i.invariant.merged (search rules));
      number = c.with.ensures.number ∙ c.loop-i.invariant.number;
    }

pub returns-in-Err-clause-full : goal.returns-in-Err-clause-full
returns-in-Err-clause-full c =
    let xs : List Entry = c.args.group.now in
    let old : List Entry = bucket_entries c.args.bucket.now in
    let mid : List Entry = bucket_entries c.loop-i.bucket in
    let y : Entry = c.index-group-i.result in
    let full = c.in-Err.ensures.full.0 refl in
    let count : ℕ = c.count_absent.result in
    let left : ℕ = length xs - c.loop-i.i in
    let all : take left (drop c.loop-i.i xs) ≡ drop c.loop-i.i xs =
    take_all left (drop c.loop-i.i xs) (omega (arith, length-drop c.loop-i.i xs)) in
    let keys : HasKeys (IsAbsentEntry mid (Contains (drop c.loop-i.i xs))) count =
    subst (λ (l : List Entry). HasKeys (IsAbsentEntry mid (Contains l)) count) all
    (subst (λ (l : List Entry). HasKeys (IsAbsentEntry l (Contains (take left (drop c.loop-i.i xs)))) count) c.in-Err.ensures.unchanged
    c.count_absent.ensures.keys) in
    let rest : Contains (drop c.loop-i.i xs) y =
    first_of_rest xs c.loop-i.i y c.loop-i-test.true (sym c.index-group-i.is) in (
      omega (arith, some_keys mid (Contains (drop c.loop-i.i xs)) y c.count_absent.result rest full.1 keys),
      keys_joined old mid xs c.loop-i.i c.count_absent.result full.0 c.loop-i.bucket.ascending
          c.loop-i.invariant.merged keys,
    )
