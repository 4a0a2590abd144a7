-- Bytes that are taken of a source piece by piece, and what is cut from the end of a leaf.
use Rattle.std.proofs.Common.{◌≡◌, ℕ, zero, suc, ◌+◌, ◌-◌, ◌<◌, ◌≤◌, Bool, true, false, IsTrue, Result, Ok, Err, List, [], ◌∷◌, ◌++◌, length, take, get_or, refl, sym, ◌∙◌, ap, subst, arith, append_assoc}
use Rattle.std.specs.List.{suffix_len}
use Rattle.std.proofs.Math.Seq.{take-append-add}
use Rattle.std.proofs.lemmas.List.{length-take-le, take-append-le}
use Rattle.std.proofs.lemmas.List.Sums.{suffix_len_is}
use Rattle.vt_base.specs.Bytes.{AreBytes}
use Rattle.vt_base.specs.Faults.{CountsFault}
use Rattle.vt_tree.specs.declared.error.TreeErr.{TreeErr}
use Rattle.vt_tree.specs.declared.error.TreeErr.TheVariants as errs
use Rattle.vt_tree.specs.Growing.{IsOfCall}
use Rattle.vt_tree.specs.Streams.{without_end}
use Rattle.vt_tree.specs.Writing.{IsTaken, is_source_fault}

-- ---- what a source gives

pub nothing_taken : (tells : Bool) (a : List ℕ) → IsTaken tells a a []
nothing_taken tells a = record {
  bytes = λ i. omega arith;
  front = λ told. refl;
}

AreBytes-take : (n : ℕ) (s : List ℕ) → AreBytes s → AreBytes (take n s)
AreBytes-take zero s are i = omega arith
AreBytes-take (suc n) [] are i = omega arith
AreBytes-take (suc n) (b ∷ s) are zero = are 0
AreBytes-take (suc n) (b ∷ s) are (suc i) = AreBytes-take n s (λ i. are (suc i)) i

-- the front of a buffer, and what was moved behind it
pub taken_behind : (tells : Bool) (a b c : List ℕ) (n more : ℕ) (buf part behind : List ℕ)
    → n ≤ length buf → more ≤ length part → IsTaken tells a b (take n buf)
    → AreBytes (take n buf ++ (part ++ behind)) → (IsTrue tells → b ≡ take more part ++ c)
    → IsTaken tells a c (take (n + more) (take n buf ++ (part ++ behind)))
taken_behind tells a b c n more buf part behind within few t bytes moved = record {
  bytes = AreBytes-take (n + more) (take n buf ++ (part ++ behind)) bytes;
  front = λ told.
      t.front told
      ∙ ap (λ (l : List ℕ). take n buf ++ l) (moved told)
      ∙ sym (append_assoc (take n buf) (take more part) c)
      ∙ ap (λ (l : List ℕ). l ++ c) (sym all);
}
  where
    all : take (n + more) (take n buf ++ (part ++ behind)) ≡ take n buf ++ take more part
    all =
        ap (λ (k : ℕ). take (k + more) (take n buf ++ (part ++ behind)))
        (sym (length-take-le n buf within))
        ∙ take-append-add (take n buf) (part ++ behind) more
        ∙ ap (λ (l : List ℕ). take n buf ++ l) (take-append-le more part behind few)

-- ---- what is cut from an end

-- each element from a place on passes the test, and the one before it doesn't
pub end_found : {A : Type 0} (p : A → Bool) (xs : List A) (n : ℕ) (d : A) → n ≤ length xs
    → ((k : ℕ) → n ≤ k → k < length xs → p (get_or xs k d) ≡ true)
    → (0 < n → p (get_or xs (n - 1) d) ≡ false)
    → take n xs ≡ without_end p xs
end_found p xs n d within passes stops =
    let len : suffix_len p xs ≡ length xs - n = suffix_len_is p xs n d within passes stops in
    let same : n ≡ length xs - suffix_len p xs = omega (arith, len) in
    ap (λ (k : ℕ). take k xs) same

-- ---- causes

pub counts_from : {X : Type 0} (result : Result X TreeErr) (a b c : ℕ) → b ≡ a
    → CountsFault is_source_fault result b c → CountsFault is_source_fault result a c
counts_from {X} result a b c same counts =
    subst (λ (n : ℕ). CountsFault is_source_fault result n c) same counts
