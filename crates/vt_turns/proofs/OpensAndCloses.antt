-- How the rule begins and ends.
use Rattle.std.proofs.Common.{◌≡◌, inl, ℕ, zero, suc, ◌+◌, ◌<◌, List, [], ◌∷◌, length, replicate, get_or, map, sym, refl, ap, ◌∙◌, subst, arith, ◌++◌}
use Rattle.std.specs.Int.{bit_at}
use Rattle.std.specs.Prelude.{◌/◌, ◌%◌, Option, Some}
use mathlib.Core.Option.{some, some-injective, some-ne-none}
use native.Mathlib.Decide.{ℕ_discrete}
use lib.ListN.{get_elem?}
use Rattle.atomic_table.specs.Table.{opening as opened, Final, Seen}
use Rattle.atomic_table.proofs.Lists.{at_map}
use Rattle.vt_turns.specs.declared.view.View.{View}
use Rattle.vt_turns.specs.declared.view.Opening.{Opening}
use Rattle.vt_turns.specs.Meaning.{Meaning}
use Rattle.vt_turns.specs.Lists.{first_list, total, FullOf}
use Rattle.vt_turns.specs.Views.{turn_of, faults_of, HoldsNone, durable_of, first_view}
use Rattle.vt_turns.specs.Rule.{Knows, Counted, Stands, Rule}
use Rattle.vt_turns.specs.Calls.{CanOpen, Closes}
use Rattle.vt_turns.proofs.Moves.{no_share_left, Some-None, St, sees}
use Rattle.vt_turns.proofs.Lists.{total_alone, inside, whole_prefix, once_none}

zeros_then : (n : ℕ) (bits : List ℕ) → (length (replicate n 0 ++ bits) ≡ n + length bits) × ((k : ℕ) → k < n → get_or (replicate n 0 ++ bits) k 0 ≡ 0) × ((q : ℕ) → get_or (replicate n 0 ++ bits) (n + q) 0 ≡ get_or bits q 0)
zeros_then zero bits = (omega arith, (λ k near. absurd (omega arith)), λ q. ap (λ (z : ℕ). get_or bits z 0) (omega arith))
zeros_then (suc n) bits = let rest = zeros_then n bits in let long = rest.0 in (omega arith, below rest.1, above rest.2)
  where
    below : ((k : ℕ) → k < n → get_or (replicate n 0 ++ bits) k 0 ≡ 0) → (k : ℕ) → k < suc n → get_or (replicate (suc n) 0 ++ bits) k 0 ≡ 0
    below f zero near = refl
    below f (suc k) near = f k (omega arith)

    above : ((q : ℕ) → get_or (replicate n 0 ++ bits) (n + q) 0 ≡ get_or bits q 0) → (q : ℕ) → get_or (replicate (suc n) 0 ++ bits) (suc n + q) 0 ≡ get_or bits q 0
    above f q = let same : suc n + q ≡ suc (n + q) = omega arith in ap (λ (z : ℕ). get_or (replicate (suc n) 0 ++ bits) z 0) same ∙ f q

pub first_are : (count front : ℕ) (bits : List ℕ) → let ws : List ℕ = first_list count front bits in (length ws ≡ suc count + length bits) × (get_or ws 0 0 ≡ front) × ((k : ℕ) → k < count → get_or ws (suc k) 0 ≡ 0) × ((q : ℕ) → get_or ws (suc count + q) 0 ≡ get_or bits q 0)
first_are count front bits = let z = zeros_then count bits in let long = z.0 in
    (omega arith, refl, z.1, λ q. let same : suc count + q ≡ suc (count + q) = omega arith in ap (λ (i : ℕ). get_or (first_list count front bits) i 0) same ∙ z.2 q)

only : {A : Type 0} (a b : A) (i : ℕ) → get_elem? (a ∷ []) i ≡ some b → a ≡ b
only a b zero e = some-injective a b e
only a b (suc i) e = absurd (some-ne-none b (sym e))

pub same_length : {A C : Type 0} (f : A → C) (l : List A) → length (map f l) ≡ length l
same_length f [] = refl
same_length f (x ∷ xs) = ap suc (same_length f xs)

all_some : {A : Type 0} (xs : List (Option A)) (ps : List A) → length xs ≡ length ps → ((k : ℕ) (p : A) → get_elem? ps k ≡ some p → get_elem? xs k ≡ some (Some p)) → xs ≡ map (λ (p : A). Some p) ps
all_some [] [] e h = refl
all_some [] (p ∷ ps) e h = absurd (omega arith)
all_some (x ∷ xs) [] e h = absurd (omega arith)
all_some (x ∷ xs) (p ∷ ps) e h = λ i. some-injective x (Some p) (h zero p refl) i ∷ all_some xs ps (omega arith) (λ k q d. h (suc k) q d) i

module _ {P B : Type 0} (M : Meaning P B) where
  pub opens : (extra : ℕ) (began : Opening P B) (ws : List ℕ) (slots : List (Option P)) → CanOpen M began → length ws ≡ suc (length began.parts) + extra → get_or ws 0 0 ≡ length began.history → ((k : ℕ) → k < length began.parts → get_or ws (suc k) 0 ≡ 0)
      → ((q : ℕ) → get_or ws (suc (length began.parts) + q) 0 ≡ get_or began.bits q 0) → FullOf slots began.parts
      → Rule M extra began (opened ws slots (first_view M began))
  opens extra began ws slots o wide front none behind full = record {
    parts = began.parts;
    history = began.history;
    holder = λ k. 0;
    words_are = wide;
    homes_are = same_length some slots ∙ ap length full ∙ same_length (λ (x : P). Some x) began.parts;
    as_many = refl;
    front = front;
    log = o.front;
    grown = whole_prefix began.history;
    apart = o.apart;
    placed = λ k x e. ((λ _. (none k (inside began.parts k x e), at_map some slots k (Some x) (subst (λ (l : List (Option P)). get_elem? l k ≡ some (Some x)) (sym full) (at_map (λ (y : P). Some y) began.parts k x e)))), (λ h. absurd (omega arith)));
    stands = λ k o' x eo e. let same : o' ≡ x = some-injective o' x (sym eo ∙ e) in record {
      sound = o.sound k x e;
      within = o.within k x e;
      covers = λ b. ap (λ (y : P). M.covers y b) (sym same);
      counted = subst (λ (y : P). Counted M (total (λ (v : View P B). faults_of v k) (first_view M began ∷ [])) y x) (sym same) (omega arith, λ _. omega arith);
    };
    each = λ i v e. subst (λ (u : View P B). Knows M began (map some slots) (λ k. 0) began.parts began.history i u) (only (first_view M began) v i e) record {
      seen = whole_prefix began.history;
      whole = λ x has. refl;
      durable = λ x has. absurd (Some-None x (sym has));
      olds = λ n h d. absurd (some-ne-none h (sym d));
      opening_is = λ _. refl;
      stable = omega arith;
      marks = λ k x d. omega arith;
      stops = λ k n x d has. absurd (Some-None n (sym has));
      turns = λ k x has. absurd (Some-None x (sym has));
      idle = λ none_left. absurd (omega arith);
    };
    held = λ k i near e. absurd (omega arith);
    shares = refl;
    numbers = λ n. sym (once_none (length began.history) n);
    bits = λ kept i k p b e d. ap (λ (z : ℕ). bit_at z (p % 64)) (behind (p / 64)) ∙ o.bits_set kept i k p b e d;
    known_bits = λ i k p v e d. absurd (some-ne-none p (sym (ap (λ (z : View P B). get_elem? z.bits k) (only (first_view M began) v i e) ∙ d)));
    no_other_bits = λ p is. inl (sym (ap (λ (z : ℕ). bit_at z (p % 64)) (behind (p / 64))) ∙ is);
  }

  module _ {extra : ℕ} {opening : Opening P B} (s : St M) (r : Rule M extra opening s) (id : ℕ) (v : View P B) (at : get_elem? s.views id ≡ some v) (all : v.share ≡ 65536) (none_held : HoldsNone v) where
    nobody_holds : (k : ℕ) → k < length r.parts → r.holder k ≡ 0
    nobody_holds k near = go (r.holder k) refl
      where
        go : (h : ℕ) → r.holder k ≡ h → r.holder k ≡ 0
        go zero e = e
        go (suc i) e = let old = r.held k i near e in by_seat old.0 old.1 i old.2 old.3 (ℕ_discrete i id)
          where
            by_seat : (u : View P B) (x : P) (i : ℕ) → get_elem? s.views i ≡ some u → turn_of u k ≡ Some x → Dec (i ≡ id) → r.holder k ≡ 0
            by_seat u x i e has (yes is) = let same : u ≡ v = some-injective u v (sym e ∙ subst (λ (q : ℕ). get_elem? s.views q ≡ some v) (sym is) at) in absurd (Some-None x (sym has ∙ ap (λ (w : View P B). turn_of w k) same ∙ none_held k))
            by_seat u x i e has (no n) = absurd (Some-None x (sym has ∙ ((r.each i u e).idle (no_share_left M s r id v at all i u n e)).1 k))

    faults_alone : (k : ℕ) → total (λ (u : View P B). faults_of u k) s.views ≡ faults_of v k
    faults_alone k = total_alone (λ (u : View P B). faults_of u k) s.views id v at (λ j u n e. ((r.each j u e).idle (no_share_left M s r id v at all j u n e)).2 k)

    pub ends_with : Closes M v r.parts
    ends_with = let mine = r.each id v at in let see = sees M s r id v at in let some_share : 0 < v.share = omega arith in let is = mine.opening_is some_share in record {
      history = r.history;
      front = r.log;
      seen = mine.seen;
      begins = see.begins some_share;
      own = see.sole all;
      stable = mine.stable;
      as_many = r.as_many ∙ ap (λ (o : Opening P B). length o.parts) (sym is);
      marks = mine.marks;
      stops = mine.stops;
      stands = λ k o x eo e. subst (λ (q : ℕ × Opening P B). Stands M q.1 r.history (durable_of M r.parts) q.0 o x) (λ i. (faults_alone k i, sym is i)) (r.stands k o x (subst (λ (l : Opening P B). get_elem? l.parts k ≡ some o) is eo) e);
    }

    pub all_home : (k : ℕ) (x : P) → get_elem? r.parts k ≡ some x → get_elem? s.homes k ≡ some (some (Some x))
    all_home k x e = ((r.placed k x e).0 (nobody_holds k (inside r.parts k x e))).1

  pub closes : (extra : ℕ) (opening : Opening P B) (id : ℕ) (v : View P B) (ws : List ℕ) (xs : List (Option P)) → v.share ≡ 65536 → HoldsNone v → Final (Seen (Rule M extra opening) id v) ws xs
      → (parts : List P) × FullOf xs parts × Closes M v parts
  closes extra opening id v ws xs all none_held f = let s = f.0 in let r = f.1.0 in let at = f.1.1 in
      (r.parts, all_some xs r.parts (sym f.3 ∙ r.homes_are) (λ k p e. f.4 k (Some p) (all_home s r id v at all none_held k p e)), ends_with s r id v at all none_held)
