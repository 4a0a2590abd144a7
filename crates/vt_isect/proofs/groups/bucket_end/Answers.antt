use Rattle.std.proofs.Common.{◌≡◌, ◌+◌, ◌∷◌, [], ◌++◌, ℕ, List, length, length-take, get_or, take, drop, sym, ap, ◌∙◌, subst, arith}
use Rattle.std.proofs.lemmas.List.{take_more, take_all, drop-append-le}
use Rattle.std.proofs.lemmas.Option.{get_or_from_slice_get, slice_get_within}
use Rattle.vt_base.specs.declared.place.Entry.{Entry}
use Rattle.vt_model.specs.Places.{bucket_of}
use Rattle.vt_isect.proofs.AreNext.{AreOwn, own_more, none_behind, none_later}
use Rattle.vt_isect.proofs.groups.bucket_end.Goals as goal

pub loop-i-preserved : goal.loop-i-preserved
loop-i-preserved c =
    let xs : List Entry = c.args.entries.now in
    let i : ℕ = c.loop-i.i in
    let y : Entry = c.index-entries-i.result in
    let from : ℕ = c.args.first in
    let grown : drop from (take (i + 1) xs) ≡ drop from (take i xs) ++ y ∷ [] =
    ap (λ (l : List Entry). drop from l) (take_more xs i y c.loop-i-test.true ∙ ap (λ (x : Entry). take i xs ++ x ∷ []) (sym c.index-entries-i.is))
    ∙ drop-append-le from (take i xs) (y ∷ []) (omega (arith, length-take i xs, c.loop-i-test.true)) in
    subst (AreOwn c.args.total c.args.bucket) (sym grown)
    (own_more c.args.total c.args.bucket (drop from (take i xs)) y
    (ap (λ (e : Entry). bucket_of c.args.total e.key.score.0) c.index-entries-i.is ∙ sym c.bucket_number.ensures.bucket ∙ c.if-bucket_number-bucket.false) c.loop-i.invariant)

pub returns-then-bucket_number-bucket-clause-next : goal.returns-then-bucket_number-bucket-clause-next
returns-then-bucket_number-bucket-clause-next c =
    let xs : List Entry = c.args.entries.now in
    let y : Entry = c.index-entries-i.result in
    let one = c.requires.first in
    let is : bucket_of c.args.total (get_or xs c.args.first y).key.score.0 ≡ c.args.bucket =
    ap (λ (e : Entry). bucket_of c.args.total e.key.score.0) (get_or_from_slice_get xs c.args.first one.0 y one.1) ∙ one.2 in
    record {
      order = omega arith;
      within = omega arith;
      own = c.loop-i.invariant;
      all = λ entry has same. none_later c.args.total c.requires.ordered.0 xs c.requires.ordered.1 c.args.first c.loop-i.i y
          (omega arith) c.loop-i-test.true (omega (arith, is, c.ranges.bucket)) (omega (arith, c.bucket_number.ensures.bucket, c.bucket_number.type_inv))
          (λ e. c.if-bucket_number-bucket.true (c.bucket_number.ensures.bucket ∙ e ∙ is)) entry has (same ∙ sym is);
    }

pub returns-clause-next : goal.returns-clause-next
returns-clause-next c =
    let xs : List Entry = c.args.entries.now in
    let lt = slice_get_within xs c.args.first c.requires.first.0 c.requires.first.1 in
    record {
      order = omega (arith, lt);
      within = omega arith;
      own = subst (λ (l : List Entry). AreOwn c.args.total c.args.bucket (drop c.args.first l))
          (take_all c.loop-i.i xs c.loop-i-test.false ∙ sym (take_all (length xs) xs (omega arith))) c.loop-i.invariant;
      all = λ entry has. absurd (none_behind (length xs) xs (omega arith) entry has);
    }
