use Rattle.std.proofs.Common.{◌≡◌, ◌+◌, ◌∷◌, [], ◌++◌, ℕ, List, take, refl, sym, ap, ◌∙◌, subst}
use Rattle.std.proofs.lemmas.List.{take_more, take_all}
use Rattle.std.proofs.lemmas.Bool.{false≢true}
use Rattle.vt_base.specs.declared.place.Entry.{Entry}
use Rattle.vt_model.specs.Places.{bucket_of}
use Rattle.vt_isect.specs.Layout.{InRange}
use Rattle.vt_isect.specs.Section.{AreInRange}
use Rattle.vt_isect.proofs.BeginsBehind.{in_range_none, in_range_more}
use Rattle.vt_isect.proofs.section.Section.has_buckets.Goals as goal

pub loop-entry-init : goal.loop-entry-init
loop-entry-init g c = in_range_none c.args.self.now.head c.args.self.now.buckets [] refl

pub loop-entry-preserved : goal.loop-entry-preserved
loop-entry-preserved g c =
    let now = c.args.self.now in
    let xs : List Entry = c.args.entries.now in
    let i : ℕ = c.loop-entry.entry-index in
    let y : Entry = c.entry-item.result in
    let grown : take (i + 1) xs ≡ take i xs ++ y ∷ [] = take_more xs i y c.loop-entry-test.true ∙ ap (λ (x : Entry). take i xs ++ x ∷ []) (sym c.entry-item.is) in
    let number : c.bucket_number.result ≡ bucket_of now.head.total y.key.score.0 =
    c.bucket_number.ensures.bucket ∙ ap (λ t. bucket_of t.head.total y.key.score.0) c.self.view_is in
    subst (AreInRange now.head now.buckets) (sym grown)
    (in_range_more now.head now.buckets (take i xs) y
    (subst (InRange now.head now.buckets) number (c.has_bucket.ensures.0 c.if-not-has_bucket.false)) c.loop-entry.invariant)

pub returns-then-not-has_bucket : goal.returns-then-not-has_bucket
returns-then-not-has_bucket g c =
    let now = c.args.self.now in
    let number : c.bucket_number.result ≡ bucket_of now.head.total c.entry-item.result.key.score.0 =
    c.bucket_number.ensures.bucket ∙ ap (λ t. bucket_of t.head.total c.entry-item.result.key.score.0) c.self.view_is in (
      λ is. absurd (false≢true is),
      λ all. absurd (false≢true (sym c.if-not-has_bucket.true
          ∙ c.has_bucket.ensures.1 (subst (InRange now.head now.buckets) (sym number)
          (all c.entry-item.result (c.loop-entry.entry-index, c.loop-entry-test.true, sym c.entry-item.is))))),
    )

pub returns : goal.returns
returns g c =
    let now = c.args.self.now in
    let xs : List Entry = c.args.entries.now in (
      λ is. subst (AreInRange now.head now.buckets) (take_all c.loop-entry.entry-index xs c.loop-entry-test.false) c.loop-entry.invariant,
      λ all. refl,
    )
