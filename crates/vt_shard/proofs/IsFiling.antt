-- What is under way while entries are put into their buckets.
use Rattle.std.proofs.Common.{◌≡◌, ⊎_elim, ℕ, zero, suc, ◌<◌, ◌≤◌, List, [], ◌∷◌, length, take, drop, refl, sym, ap, subst, arith, ◌∙◌}
use Rattle.std.specs.List.{Contains}
use Rattle.std.proofs.lemmas.List.Elements.{Contains-push_cases}
use Rattle.lru.proofs.Splits.{Contains-cons, Contains-head, Contains-nil, Contains-tail}
use Rattle.vt_isect.specs.Section.{SectionState, HasBucket, HasGroup, entering, entries_of}
use Rattle.vt_isect.specs.Writeback.{BeginsBucket, BeginsGroup, JoinsGroup, SameGroup}
use Rattle.vt_isect.specs.declared.groups.Member.{Member}
use Rattle.vt_isect.proofs.IsRead.{read_whole}
use Rattle.vt_shard.specs.Shard.{HasEntryOf, IsFiling}

-- ---- parts of a list

some_between : {X : Type 0} (xs : List X) (a b : ℕ) → a < b → b ≤ length xs → (x : X) × Contains (drop a (take b xs)) x
some_between [] a b lt le = absurd (omega (arith, lt, le))
some_between (x ∷ xs) zero zero lt le = absurd (omega (arith, lt))
some_between (x ∷ xs) zero (suc b) lt le = (x, (0, omega arith, refl))
some_between (x ∷ xs) (suc a) zero lt le = absurd (omega (arith, lt))
some_between (x ∷ xs) (suc a) (suc b) lt le = some_between xs a b (omega (arith, lt)) (omega (arith, le))

longer : {X : Type 0} (xs : List X) (a b c : ℕ) (x : X) → b ≤ c → Contains (drop a (take b xs)) x → Contains (drop a (take c xs)) x
longer xs a zero c x le has = absurd (none xs a x has)
  where
    none : {X : Type 0} (ys : List X) (n : ℕ) (y : X) → ¬ Contains (drop n (take 0 ys)) y
    none [] zero y it = Contains-nil y it
    none [] (suc n) y it = Contains-nil y it
    none (z ∷ ys) zero y it = Contains-nil y it
    none (z ∷ ys) (suc n) y it = Contains-nil y it
longer xs a (suc b) zero x le has = absurd (omega (arith, le))
longer [] a (suc b) (suc c) x le has = has
longer (y ∷ xs) zero (suc b) (suc c) x le has = ⊎_elim
    (λ (same : y ≡ x). subst (Contains (y ∷ take c xs)) same (Contains-head y (take c xs)))
    (λ (later : Contains (take b xs) x). Contains-tail y (take c xs) x (longer xs zero b c x (omega (arith, le)) later))
    (Contains-cons y (take b xs) x has)
longer (y ∷ xs) (suc a) (suc b) (suc c) x le has = longer xs a b c x (omega (arith, le)) has

earlier : {X : Type 0} (xs : List X) (a b : ℕ) (x : X) → a ≤ b → Contains (drop b xs) x → Contains (drop a xs) x
earlier xs zero zero x le has = has
earlier [] zero (suc b) x le has = has
earlier (y ∷ xs) zero (suc b) x le has = Contains-tail y xs x (earlier xs zero b x (omega arith) has)
earlier xs (suc a) zero x le has = absurd (omega (arith, le))
earlier [] (suc a) (suc b) x le has = has
earlier (y ∷ xs) (suc a) (suc b) x le has = earlier xs a b x (omega (arith, le)) has

-- ---- a group begins

module _ {D : Type 0} (v : SectionState D) (from : ℕ) where
  pub comes : BeginsBucket from v → HasEntryOf v (entering v) v.bucket
  comes begins =
      let some = some_between (entries_of v) v.framed v.begun
      (let framed = begins.1 in let lt = begins.2 in omega (arith, framed, lt)) begins.3.within in
      (some.0, some.1, begins.3.own some.0 some.1)

  pub begins_filing : BeginsGroup from v → IsFiling v
  begins_filing begins = record {
    order = (
      (let written = begins.1 in let framed = begins.0.1 in omega (arith, written, framed)),
      (let framed = begins.0.1 in let lt = begins.0.2 in omega (arith, framed, lt)),
      begins.0.3.within,
    );
    next = λ has. comes begins.0;
    group = λ member it. absurd (Contains-nil member (subst (λ (l : List Member). Contains l member) begins.2 it));
    whole = λ has. absurd (read_whole v.phase begins.0.0 has);
  }

-- ---- it goes on

module _ {D : Type 0} (t v : SectionState D) (entries : v.entries ≡ t.entries) (head : v.head ≡ t.head) (filing : IsFiling t) where
  pub same_filing : SameGroup t v → (HasBucket v.phase → HasBucket t.phase) → (HasGroup v.phase → HasGroup t.phase) → IsFiling v
  same_filing same bucket whole = record {
    order = rw (same.written, same.framed, same.begun, entries) filing.order;
    next = λ has. rw (same.bucket, same.framed, same.begun, entries, head) (filing.next (bucket has));
    group = λ member it. rw (same.written, same.framed, entries, head)
        (filing.group member (subst (λ (l : List Member). Contains l member) same.group it));
    whole = λ has. same.framed ∙ filing.whole (whole has) ∙ sym same.begun;
  }

  -- the bucket under way joins the group
  module _ (s : ℕ) (joins : JoinsGroup s t v) (bucket : HasBucket t.phase) (framed : v.framed ≡ t.begun) where
    joined : (member : Member) → Contains v.group member → HasEntryOf t (drop t.written (take t.begun (entries_of t))) member.bucket
    joined member it = ⊎_elim
        (λ (was : Contains t.group member).
        let one = filing.group member was in
        (one.0, longer (entries_of t) t.written t.framed t.begun one.0 filing.order.1 one.1, one.2))
        (λ (new : record { bucket = t.bucket; current = s } ≡ member).
        let one = filing.next bucket in (
          one.0,
          earlier (take t.begun (entries_of t)) t.written t.framed one.0 filing.order.0 one.1,
          one.2 ∙ ap (λ (m : Member). m.bucket) new,
        ))
        (Contains-push_cases t.group (record { bucket = t.bucket; current = s }) member
        (subst (λ (l : List Member). Contains l member) joins.group it))

    pub joins_filing : t.begun ≤ v.begun → v.begun ≤ length (entries_of t) → (HasBucket v.phase → HasEntryOf v (entering v) v.bucket)
        → (HasGroup v.phase → v.framed ≡ v.begun) → IsFiling v
    joins_filing le within next whole = record {
      order = rw (joins.written, framed, entries)
          (let order = filing.order in (omega (arith, order), le, within));
      next = next;
      group = λ member it. rw (joins.written, framed, entries, head) (joined member it);
      whole = whole;
    }
