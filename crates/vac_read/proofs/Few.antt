-- How many blocks are asked for at most, one reading after another.
use Rattle.std.proofs.Common.{◌≡◌, ◌+◌, ◌-◌, ◌*◌, ◌/◌, ◌<◌, ◌≤◌, ◌==◌, ◌||◌, ◌^◌, ℕ, zero, suc, min, nat_le, if◌then◌else◌, Bool, true, false, Option, Some, None, Result, Ok, Err, List, [], ◌∷◌, ◌++◌, length, map, refl, sym, ◌∙◌, ap, subst, inl, inr, arith, add-zero, le_trans, div-mul-le_self, length-append}
use Rattle.std.specs.Prelude.{IfErr}
use Rattle.std.specs.List.{flat_map, range_with_len}
use Rattle.std.specs.Str.{bytes_eq}
use Rattle.std.proofs.lemmas.Bool.{cases_Bool}
use Rattle.std.proofs.lemmas.List.{length-map}
use Rattle.std.proofs.lemmas.Nat.{div-mul-add, le-div}
use Rattle.vt_base.specs.Protocol.{Operation}
use Rattle.vt_tree.specs.declared.entry.Entry.{Entry}
use Rattle.vt_tree.specs.declared.error.TreeErr.{TreeErr}
use Rattle.vt_tree.specs.declared.plain.ContentError.{ContentError}
use Rattle.vt_tree.specs.Calls.{Call, IsGet, asked_of, TellsOfMap}
use Rattle.vt_tree.specs.Content.{byte_of, led, pointer_kind, score_of_pointers, scores_in, way_below, way_through, way_to}
use Rattle.vt_tree.specs.Making.{EndsBy}
use Rattle.vt_tree.specs.Maps.{BlockMap, Maps}
use Rattle.vt_tree.specs.Reading.{AsksFor, GivesBytes, IsOfEntry, ReadsRange, unfit}
use Rattle.vt_tree.proofs.Appending.{all_first, all_join, all_then, ends_more}
use Rattle.vt_tree.proofs.Making.{makes_more}
use Rattle.vac_read.specs.declared.error.VacBad.{VacBad}
use Rattle.vac_read.specs.Asking.{ReadsFew, leaf_blocks}
use Rattle.vac_read.specs.Reading.{of_tree, refused_by}
use Rattle.vac_read.proofs.Readings.{TellsRange, given, range_refused}

-- ---- one leaf

module _ (zero_score : List ℕ) (blocks : BlockMap) (e : Entry) where
  led_few : (answer : Result (Option (List ℕ)) ContentError) (below : List ℕ → List Operation)
      (n : ℕ) → ((s : List ℕ) → length (below s) ≤ n) → length (led answer below) ≤ n
  led_few (Err trouble) below n few = omega arith
  led_few (Ok None) below n few = omega arith
  led_few (Ok (Some s)) below n few = few s

  one_place : (f : ℕ → List Operation) (first count n : ℕ) → count ≤ 1
      → ((place : ℕ) → length (f place) ≤ n) → length (flat_map f (range_with_len first count)) ≤ n
  one_place f first zero n one few = omega arith
  one_place f first (suc zero) n one few =
      let here = few first in omega (arith, length-append (f first) [])
  one_place f first (suc (suc count)) n one few = absurd (omega arith)

  same_leaves : (leaves first end : ℕ) → end ≤ first + 1
      → (end - 1) / leaves + 1 - first / leaves ≤ 1
  same_leaves zero first end most = omega arith
  same_leaves (suc k) first end most =
      let here : (end - 1) / suc k * suc k ≤ first =
      le_trans (div-mul-le_self (end - 1) (suc k)) (omega arith) in
      let up = le-div ((end - 1) / suc k) first (suc k) (omega arith) here in
      omega (arith, up)

  below_few : (depth : ℕ) (score : List ℕ) (first end : ℕ) → end ≤ first + 1
      → length (way_below zero_score blocks e depth score first end) ≤ depth + 1
  below_few zero score first end most = elim (cases_Bool (bytes_eq score zero_score)) [
    | inl a ↦ rw a (omega arith)
    | inr a ↦ rw a (omega arith)
  ]
  below_few (suc d) score first end most =
      let leaves = scores_in e.psize ^ d in
      let kind = pointer_kind (suc d) in
      let through : length (way_through leaves
      (λ place. score_of_pointers e (suc d) place (blocks score kind))
      (way_below zero_score blocks e d) first end) ≤ d + 1 =
      one_place _ (first / leaves) _ (d + 1) (same_leaves leaves first end most)
      (λ place. led_few (score_of_pointers e (suc d) place (blocks score kind)) _ (d + 1)
      (λ s. below_few d s (first - place * leaves) (min (end - place * leaves) leaves)
      (omega arith))) in
      elim (cases_Bool (bytes_eq score zero_score)) [
        | inl a ↦ rw a (omega arith)
        | inr a ↦ rw a (omega arith)
      ]

  not_none : (n : ℕ) (b : Bool) → (n == 0 || b) ≡ false → 0 < n
  not_none zero b is = let never : true ≡ false = is in cc
  not_none (suc n) b is = omega arith

  -- the blocks on the way to a leaf, or to a part of it from its front on
  pub leaf_few : (leaf at len : ℕ) → at ≡ leaf * e.dsize → len ≤ e.dsize
      → length (way_to zero_score blocks e at len) ≤ leaf_blocks e
  leaf_few leaf at len is most =
      let leaves = scores_in e.psize ^ e.depth in
      elim (cases_Bool (len == 0 || nat_le leaves (at / e.dsize))) [
        | inl a ↦ rw a (omega arith)
        | inr a ↦ rw a (below_few e.depth e.score.0 (at / e.dsize)
            (min ((at + len - 1) / e.dsize + 1) leaves) (leaf_end leaf at len is most a))
      ]
    where
      leaf_end : (leaf at len : ℕ) → at ≡ leaf * e.dsize → len ≤ e.dsize
          → (len == 0 || nat_le (scores_in e.psize ^ e.depth) (at / e.dsize)) ≡ false
          → min ((at + len - 1) / e.dsize + 1) (scores_in e.psize ^ e.depth) ≤ at / e.dsize + 1
      leaf_end leaf at len is most some =
          let long : 0 < len = not_none len _ some in
          let last : at + len - 1 ≡ leaf * e.dsize + (len - 1) = omega (arith, is) in
          let end = ap (λ (n : ℕ). n / e.dsize) last
          ∙ div-mul-add leaf e.dsize (len - 1) (omega arith) in
          let first = ap (λ (n : ℕ). n / e.dsize) (is ∙ sym (add-zero (leaf * e.dsize)))
          ∙ div-mul-add leaf e.dsize 0 (omega arith) in
          omega (arith, end, first)

-- ---- readings

module _ {S : Type 0} (does : S → Call → S → Type 0) (holds : S → Maps → Type 0)
    (score_of : List ℕ → List ℕ) where
  -- nothing was asked for
  pub few_nothing : {X : Type 0} (s : S) (result : Result X VacBad) (right : BlockMap → Type 0)
      (few : BlockMap → ℕ → Type 0) → refused_by result ≡ None → ((map : BlockMap) → right map)
      → ((map : BlockMap) → few map 0)
      → ReadsFew does holds score_of s s result right few
  few_nothing s result right few none all enough = record {
    reads = record {
      calls = [];
      made = refl;
      gets = tt;
      refused = subst (λ o. EndsBy o []) (sym none) refl;
      right = λ map once tells. all map;
      held = λ m held. (held, all m.held);
    };
    few = λ map once tells. enough map;
  }

  -- the same calls, said of another answer
  pub few_as : {X Y : Type 0} (s s' : S) (result : Result X VacBad) (other : Result Y VacBad)
      (P Q : BlockMap → Type 0) (F G : BlockMap → ℕ → Type 0)
      → refused_by other ≡ refused_by result
      → ReadsFew does holds score_of s s' result P F → ((map : BlockMap) → P map → Q map)
      → ((map : BlockMap) (n : ℕ) → P map → F map n → G map n)
      → ReadsFew does holds score_of s s' other Q G
  few_as s s' result other P Q F G same first so enough = record {
    reads = record {
      calls = first.reads.calls;
      made = first.reads.made;
      gets = first.reads.gets;
      refused = subst (λ o. EndsBy o first.reads.calls) (sym same) first.reads.refused;
      right = λ map once tells. so map (first.reads.right map once tells);
      held = λ m held. let h = first.reads.held m held in (h.0, so m.held h.1);
    };
    few = λ map once tells. enough map (length first.reads.calls)
        (first.reads.right map once tells) (first.few map once tells);
  }

  -- two readings, of which the first went well, and what is answered of both
  pub few_then : {X Y Z : Type 0} (a b c : S) (x : X) (result : Result Y VacBad)
      (other : Result Z VacBad) (P Q R : BlockMap → Type 0) (F G H : BlockMap → ℕ → Type 0)
      → refused_by other ≡ refused_by result
      → ReadsFew does holds score_of a b (Ok x) P F → ReadsFew does holds score_of b c result Q G
      → ((map : BlockMap) → P map → Q map → R map)
      → ((map : BlockMap) (m n : ℕ) → P map → Q map → F map m → G map n → H map (m + n))
      → ReadsFew does holds score_of a c other R H
  few_then a b c x result other P Q R F G H same first second join enough = record {
    reads = record {
      calls = first.reads.calls ++ second.reads.calls;
      made = makes_more does a b c first.reads.calls second.reads.calls first.reads.made
          second.reads.made;
      gets = all_join IsGet first.reads.calls second.reads.calls first.reads.gets second.reads.gets;
      refused = ends_more (refused_by other) first.reads.calls second.reads.calls
          first.reads.refused
          (subst (λ o. EndsBy o second.reads.calls) (sym same) second.reads.refused);
      right = λ map once tells. join map
          (first.reads.right map once
          (all_first (TellsOfMap score_of map) first.reads.calls second.reads.calls tells))
          (second.reads.right map once
          (all_then (TellsOfMap score_of map) first.reads.calls second.reads.calls tells));
      held = λ m held.
          let f = first.reads.held m held in
          let t = second.reads.held m f.0 in
          (t.0, join m.held f.1 t.1);
    };
    few = λ map once tells.
        let front = all_first (TellsOfMap score_of map) first.reads.calls second.reads.calls tells in
        let rest = all_then (TellsOfMap score_of map) first.reads.calls second.reads.calls tells in
        subst (λ (n : ℕ). H map n) (sym (length-append first.reads.calls second.reads.calls))
        (enough map (length first.reads.calls) (length second.reads.calls)
        (first.reads.right map once front) (second.reads.right map once rest)
        (first.few map once front) (second.few map once rest));
  }

  asked_few : {X E : Type 0} (result : Result X E) (calls : List Call) (wanted : List Operation)
      → AsksFor result (map asked_of calls) wanted → length calls ≤ length wanted
  asked_few (Ok x) calls wanted is =
      let all = ap (λ (l : List Operation). length l) is in
      omega (arith, length-map calls asked_of)
  asked_few (Err err) calls wanted is =
      let all = ap (λ (l : List Operation). length l) is.1 in
      omega (arith, length-map calls asked_of, length-append (map asked_of calls) is.0)

  -- a part of a stream
  pub few_range : (s s' : S) (e : Entry) (at len : ℕ) (result : Result (List ℕ) TreeErr)
      → IfErr result (λ err. IsOfEntry err → unfit e ≡ Some err)
      → ReadsRange does score_of s s' e at len result
      → ((m : Maps) → holds s m → holds s' m × GivesBytes (byte_of m.held e) at len result)
      → ReadsFew does holds score_of s s' (of_tree result) (TellsRange e at len (of_tree result))
      (λ map n. n ≤ length (way_to (score_of []) map e at len))
  few_range s s' e at len result fit reads content = record {
    reads = record {
      calls = reads.calls;
      made = reads.made;
      gets = reads.gets;
      refused = range_refused does holds score_of result s s' e at len reads;
      right = λ map once tells. given does holds score_of result map e at len fit
          (reads.gives map once tells);
      held = λ m held.
          let c = content m held in
          (c.0, given does holds score_of result m.held e at len fit c.1);
    };
    few = λ map once tells. asked_few result reads.calls
        (way_to (score_of []) map e at len) (reads.asked map once tells);
  }
