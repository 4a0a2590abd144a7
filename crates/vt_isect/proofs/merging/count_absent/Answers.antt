use Rattle.std.proofs.Common.{◌≡◌, ◌⊎◌, inl, inr, ⊎_elim, ◌+◌, ◌∷◌, [], ◌++◌, ℕ, List, take, get_or, ap, sym, subst, ◌∙◌, arith}
use Rattle.std.specs.List.{Contains}
use Rattle.std.proofs.lemmas.Bool.{false≢true}
use Rattle.std.proofs.lemmas.List.{take_more, get_or_default}
use Rattle.vt_base.specs.declared.place.Entry.{Entry}
use Rattle.vt_bucket.specs.Buckets.{bucket_entries}
use Rattle.vt_isect.specs.Merging.{HasKey, HasKeys, IsAbsentEntry}
use Rattle.vt_isect.proofs.Merges.{keys_more, keys_same, decide_held}
use Rattle.vt_isect.proofs.merging.count_absent.Goals.{then-is_absent+then-not-has_key, else-is_absent, else-is_absent-via-then-is_absent+else-not-has_key, else-is_absent-via-else-is_absent}
use Rattle.vt_isect.proofs.merging.count_absent.Goals as goal

pub loop-i-preserved : goal.loop-i-preserved
loop-i-preserved c =
    let old : List Entry = bucket_entries c.args.bucket.now in
    let xs : List Entry = c.args.entries.now in
    let i : ℕ = c.loop-i.i in
    let y : Entry = c.index-entries-i.result in
    let front : List Entry = take i xs in
    let grown : take (i + 1) xs ≡ front ++ y ∷ [] =
    take_more xs i y c.loop-i-test.true ∙ ap (λ (x : Entry). front ++ x ∷ []) (sym c.index-entries-i.is) in
    let at = c.index-entries-i.is in
    let there : (d : Entry) → y ≡ get_or xs i d = λ d. at ∙ get_or_default xs i y d c.loop-i-test.true in
    let back = subst (λ (e : Entry). ¬ HasKey (Contains old) e.key) at in
    let of = subst (λ (e : Entry). ¬ HasKey (Contains old) e.key) (sym at) in
    let same : (HasKey (Contains old) y.key ⊎ HasKey (Contains front) y.key)
    → HasKeys (IsAbsentEntry old (Contains (take (i + 1) xs))) c.loop-i.absent =
    λ why. subst (λ (l : List Entry). HasKeys (IsAbsentEntry old (Contains l)) c.loop-i.absent) (sym grown)
    (keys_same old front y c.loop-i.absent why c.loop-i.invariant.keys) in
    elim c.if-is_absent.branch [
      | then-is_absent+then-not-has_key w ↦
          let is = of (c.is_absent.ensures.0 w.if-is_absent.true) in
          let fresh : ¬ HasKey (Contains front) y.key = λ has.
          let yes = w.has_key.ensures.1 (subst (λ (e : Entry). HasKey (Contains front) e.key) (there _) has) in
          let no = w.if-not-has_key.true in
          false≢true (sym no ∙ yes) in
          rw w.absent-is (record {
            keys = subst (λ (l : List Entry). HasKeys (IsAbsentEntry old (Contains l)) (c.loop-i.absent + 1)) (sym grown)
                (keys_more old front y c.loop-i.absent is fresh c.loop-i.invariant.keys);
            most = omega (arith, c.loop-i.invariant.most);
          })
      | else-is_absent w ↦ rw w.absent-is (record {
        keys = elim w.else-is_absent.branch [
          | else-is_absent-via-then-is_absent+else-not-has_key v ↦ same (inr (subst (λ (e : Entry). HasKey (Contains front) e.key) (sym (there _)) (v.has_key.ensures.0 v.if-not-has_key.false)))
          | else-is_absent-via-else-is_absent v ↦ same (⊎_elim
              (λ (has : HasKey (Contains old) y.key). inl has)
              (λ (none : ¬ HasKey (Contains old) y.key).
              let yes = c.is_absent.ensures.1 (back none) in
              let no = v.if-is_absent.false in
              absurd (false≢true (sym no ∙ yes)))
              (decide_held y.key old))
        ];
        most = omega (arith, c.loop-i.invariant.most);
      })
    ]
