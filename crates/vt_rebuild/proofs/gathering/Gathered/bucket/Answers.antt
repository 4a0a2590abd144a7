use Rattle.std.proofs.Common.{◌≡◌, ◌-◌, ℕ, List, length, length-drop, drop, take, ltb, leb, sym, subst, arith, rules}
use Rattle.std.proofs.lemmas.List.{take_all}
use Rattle.std.specs.List.Sorted.{IsNonDecreasingBy}
use Rattle.std.proofs.lemmas.List.Sorted.{IsPartitionPoint-from_clause, IsPartitionedBy-leb, IsPartitionedBy-ltb}
use Rattle.vt_base.specs.declared.place.Entry.{Entry}
use Rattle.vt_model.specs.Places.{bucket_of}
use Rattle.vt_rebuild.specs.Gathering.{HasGathered}
use Rattle.vt_rebuild.proofs.Buckets.{bucket_answers}
use Rattle.vt_rebuild.proofs.Runs.{IsFrom, IsTo, all_rest, order_behind, own_rest}
use Rattle.vt_rebuild.proofs.gathering.Gathered.bucket.Goals as goal

pub returns-clause-blocks : goal.returns-clause-blocks
returns-clause-blocks c = λ score setup h can gathered least below.
    let total : ℕ = c.args.self.now.total in
    let t : ℕ = c.args.number in
    let xs : List Entry = c.as_slice-entries.result.now in
    let from : ℕ = c.partition_point-from.result in
    let count : ℕ = c.partition_point-count.result in
    let number : Entry → ℕ = λ entry. bucket_of total entry.key.score.0 in
    let order : IsNonDecreasingBy number xs = subst (λ (es : List Entry). IsNonDecreasingBy number es) (sym c.as_slice-entries.ensures.value) c.requires in
    let low : IsFrom number t xs from = IsPartitionPoint-from_clause (λ (y : Entry). ltb (number y) t) xs from c.partition_point-from.ensures.partitioned
    (IsPartitionedBy-ltb number xs t order) (λ a r f' called. search rules) in
    let rest : take (length xs - from) (drop from xs) ≡ drop from xs = take_all (length xs - from) (drop from xs) (omega (arith, length-drop from xs)) in
    let ys : List Entry = take (length xs - from) (drop from xs) in
    let behind : IsNonDecreasingBy number ys = subst (λ (es : List Entry). IsNonDecreasingBy number es) (sym rest) (order_behind number xs from order) in
    let high : IsTo number t ys count = IsPartitionPoint-from_clause (λ (y : Entry). leb (number y) t) ys count
    c.partition_point-count.ensures.partitioned (IsPartitionedBy-leb number ys t behind) (λ a r f' called. search rules) in
    bucket_answers score setup h total c.args.self.now.first c.args.self.now.end t xs (take count ys) can
    (subst (λ (es : List Entry). HasGathered score setup h c.args.self.now.first c.args.self.now.end 0 es) (sym c.as_slice-entries.ensures.value) gathered)
    (own_rest number t xs from count low ys rest high) (all_rest number t xs from count low ys rest high)
    (c.one_key_has_one_entry.ensures score setup h) (c.blocks_are_counted.ensures.most score setup h t) least below
    c.bucket_of_run.result c.bucket_of_run.ensures.merged c.bucket_of_run.ensures.full
