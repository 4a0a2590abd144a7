-- What stands under each name when a partition was handed out, others were worked on, and it was
-- taken back.
use Rattle.std.proofs.Common.{◌≡◌, ◌≢◌, ◌⊎◌, inl, inr, ⊎_elim, ℕ, true, false, List, sym, ◌∙◌, ap, subst}
use Rattle.std.specs.Prelude.{bytes_eq}
use Rattle.std.proofs.lemmas.Bool.{cases_Bool}
use Rattle.std.proofs.lemmas.Slice.Eq.{bytes_eq-Decides}
use Rattle.vt_partitions.specs.Parts.{Standing, lent, there}

pub same_or_not : (a b : List ℕ) → (a ≡ b) ⊎ (a ≢ b)
same_or_not a b = ⊎_elim
    (λ (yes : bytes_eq a b ≡ true). inl ((bytes_eq-Decides a b).0 yes))
    (λ (no : bytes_eq a b ≡ false). inr (λ same. let wrong : true ≡ false = sym ((bytes_eq-Decides a b).1 same) ∙ no in absurd (cc)))
    (cases_Bool (bytes_eq a b))

-- what becomes of what stands there, of which one that is lent stays so
pub record Becomes {D : Type 0} (R : Standing D → Standing D → Type 0) : Type 0 where
  pub lent_stays : (x : Standing D) → R lent x → x ≡ lent

-- One partition is handed out, others are worked on, and it is taken back.
pub record Round {D : Type 0} (f : List ℕ) (s0 s1 s2 s3 : List ℕ → Standing D) (d e : D) : Type 0 where
  pub was : s0 f ≡ there d
  pub now : s1 f ≡ lent
  pub handed : (n : List ℕ) → n ≢ f → s1 n ≡ s0 n
  pub back : s2 f ≡ lent → s3 f ≡ there e
  pub taken : (n : List ℕ) → n ≢ f → s3 n ≡ s2 n

module _ {D : Type 0} (f : List ℕ) (s0 s1 s2 s3 : List ℕ → Standing D) (d e : D) (it : Round f s0 s1 s2 s3 d e) where
  -- a partition that was worked on meanwhile is another one
  pub other : (n : List ℕ) (a : D) → s1 n ≡ there a → n ≢ f
  other n a is same = let wrong : lent ≡ there a = sym (ap s1 same ∙ it.now) ∙ is in absurd (cc)

  pub old_is : (n : List ℕ) (a : D) → s1 n ≡ there a → s0 n ≡ there a
  old_is n a is = sym (it.handed n (other n a is)) ∙ is

  pub new_is : (n : List ℕ) (a b : D) → s1 n ≡ there a → s2 n ≡ there b → s3 n ≡ there b
  new_is n a b is becomes = it.taken n (other n a is) ∙ becomes

  -- it is there again
  pub again : (R : Standing D → Standing D → Type 0) → Becomes R → R (s1 f) (s2 f) → s3 f ≡ there e
  again R becomes own = it.back (becomes.lent_stays (s2 f) (subst (λ (x : Standing D). R x (s2 f)) it.now own))

  pub round : (R : Standing D → Standing D → Type 0) → s3 f ≡ there e → R (there d) (there e) → (n : List ℕ)
      → (n ≢ f → R (s1 n) (s2 n)) → R (s0 n) (s3 n)
  round R is own n meanwhile = ⊎_elim
      (λ (same : n ≡ f).
      subst (λ (x : Standing D). R x (s3 n)) (sym (ap s0 same ∙ it.was)) (subst (λ (x : Standing D). R (there d) x) (sym (ap s3 same ∙ is)) own))
      (λ (no : n ≢ f).
      subst (λ (x : Standing D). R x (s3 n)) (it.handed n no) (subst (λ (x : Standing D). R (s1 n) x) (sym (it.taken n no)) (meanwhile no)))
      (same_or_not n f)
