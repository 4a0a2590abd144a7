-- The steps on the words of the bits keep the rule.
use Rattle.std.proofs.Common.{◌≡◌, ◌≢◌, ◌⊎◌, inl, inr, ℕ, suc, ◌+◌, ◌<◌, List, [], ◌∷◌, ◌++◌, length, set, sym, refl, ap, ◌∙◌, subst, ⊎_elim, arith, true, get_or, length-set, get_or-set_same, get_or-set_other, ◌*◌, ◌^◌}
use Rattle.std.specs.Prelude.{Option, Some, None, ◌/◌, ◌%◌, bit_or}
use mathlib.Core.Option.{some, some-injective, none}
use native.Mathlib.Decide.{ℕ_discrete}
use lib.ListN.{get_elem?}
use Rattle.atomic_table.specs.Table.{Splits, Joins, State, Me, Act, keeps, step, stepped, Allows}
use Rattle.atomic_table.proofs.Lists.{at_set, set_here, set_else, at_last, at_snoc, at_longer}
use Rattle.vt_turns.specs.declared.view.View.{View}
use Rattle.vt_turns.specs.declared.view.Opening.{Opening}
use Rattle.vt_turns.specs.Meaning.{Meaning}
use Rattle.vt_turns.specs.Lists.{times}
use Rattle.vt_turns.specs.Views.{with_bits, turn_of, faults_of, durable_of}
use Rattle.vt_turns.specs.Rule.{Knows, Stands, HasBit, Rule, Placed}
use Rattle.vt_turns.specs.Steps.{TellsBit, TellsBitSet}
use Rattle.vt_turns.proofs.Moves.{St, unchanged, no_others_on}
use Rattle.vt_turns.proofs.Lists.{inside, total_same}
use Rattle.std.specs.Int.{bit_at}
use Rattle.std.proofs.lemmas.Nat.Bits.{bit_at_or, bit_at-lt, bit_at_set_same, bit_at_set_other}
use mir.Syntax.{w64}
use lib.Seq.{set-get_or}

module _ {P B : Type 0} (M : Meaning P B) where
  -- a step on a word of the bits, after which no bit is clear that was set
  relit : {extra : ℕ} {opening : Opening P B} (s : St M) (r : Rule M extra opening s) (id i x : ℕ) (v w : View P B) → get_elem? s.views id ≡ some v → length r.parts < i
      → w.share ≡ v.share → w.own ≡ v.own → w.faults ≡ v.faults → w.turns ≡ v.turns
      → Knows M opening s.homes r.holder r.parts r.history id w
      → ((p : ℕ) → HasBit s.words (length r.parts) p → HasBit (set s.words i x) (length r.parts) p)
      → ((k p : ℕ) → get_elem? w.bits k ≡ some p → HasBit (set s.words i x) (length r.parts) p)
      → ((k p : ℕ) → get_elem? v.bits k ≡ some p → get_elem? w.bits k ≡ some p)
      → ((p : ℕ) → HasBit (set s.words i x) (length r.parts) p → HasBit s.words (length r.parts) p ⊎ ((k : ℕ) × (get_elem? w.bits k ≡ some p)))
      → Rule M extra opening record { words = set s.words i x; homes = s.homes; views = set s.views id w }
  relit {extra} {opening} s r id i x v w at behind share own faults turns mine more known longer come = record {
    parts = r.parts;
    history = r.history;
    holder = r.holder;
    words_are = omega (arith, length-set s.words i x, r.words_are);
    homes_are = r.homes_are;
    as_many = r.as_many;
    front = get_or-set_other s.words i 0 x 0 (λ e. omega arith) ∙ r.front;
    log = r.log;
    grown = r.grown;
    apart = r.apart;
    placed = λ k y e. let near = inside r.parts k y e in subst (λ (n : ℕ). Placed (r.holder k) n (get_elem? s.homes k) y) (sym (get_or-set_other s.words i (suc k) x 0 (λ e'. omega arith))) (r.placed k y e);
    stands = λ j o y eo e. subst (λ (z : ℕ). Stands M opening r.history (durable_of M r.parts) z o y) (sym (total_same (λ (u : View P B). faults_of u j) s.views id v w at (ap (λ (l : List ℕ). get_or l j 0) faults))) (r.stands j o y eo e);
    each = λ j u e. ⊎_elim (λ (t : (j ≡ id) × (w ≡ u)). subst (λ (z : ℕ × View P B). Knows M opening s.homes r.holder r.parts r.history z.0 z.1) (λ q. (sym t.0 q, t.1 q)) mine)
        (λ (t : (j ≢ id) × (get_elem? s.views j ≡ some u)). r.each j u t.1) (at_set s.views id j w u e);
    held = λ k j near e. go k j near e (ℕ_discrete j id);
    shares = total_same (λ (u : View P B). u.share) s.views id v w at share ∙ r.shares;
    numbers = λ q. total_same (λ (u : View P B). times q u.own) s.views id v w at (ap (times q) own) ∙ r.numbers q;
    bits = λ kept j k p b e d. more p (r.bits kept j k p b e d);
    known_bits = λ j k p u e d. ⊎_elim (λ (t : (j ≡ id) × (w ≡ u)). known k p (ap (λ (z : View P B). get_elem? z.bits k) t.1 ∙ d))
        (λ (t : (j ≢ id) × (get_elem? s.views j ≡ some u)). more p (r.known_bits j k p u t.1 d)) (at_set s.views id j w u e);
    no_other_bits = λ p is. ⊎_elim (λ old. no_others_on M opening s.views id p v w at (λ k e. longer k p e) (r.no_other_bits p old)) (λ (t : (k : ℕ) × (get_elem? w.bits k ≡ some p)). inr (id, t.0, w, set_here s.views id w (inside s.views id v at), t.1)) (come p is);
  }
    where
      go : (k j : ℕ) → k < length r.parts → r.holder k ≡ suc j → Dec (j ≡ id) → (u : View P B) × (y : P) × (get_elem? (set s.views id w) j ≡ some u) × (turn_of u k ≡ Some y)
      go k j near e (yes is) = let old = r.held k j near e in let v_is : old.0 ≡ v = some-injective old.0 v (sym old.2 ∙ (subst (λ (q : ℕ). get_elem? s.views q ≡ some v) (sym is) at)) in
          (w, old.1, subst (λ (q : ℕ). get_elem? (set s.views id w) q ≡ some w) (sym is) (set_here s.views id w (inside s.views id v at)), ap (λ (l : List (Option P)). get_or l k None) turns ∙ ap (λ (u : View P B). turn_of u k) (sym v_is) ∙ old.3)
      go k j near e (no apart) = let old = r.held k j near e in (old.0, old.1, set_else s.views id j w apart ∙ old.2, old.3)

  lit_agrees : {extra : ℕ} {opening : Opening P B} (s : St M) (r : Rule M extra opening s) (id p : ℕ) (v : View P B) → get_elem? s.views id ≡ some v → Knows M opening s.homes r.holder r.parts r.history id (with_bits (p ∷ []) v)
  lit_agrees s r id p v at = let old = r.each id v at in record {
    seen = old.seen;
    whole = old.whole;
    durable = old.durable;
    olds = old.olds;
    opening_is = old.opening_is;
    stable = old.stable;
    marks = old.marks;
    stops = old.stops;
    turns = old.turns;
    idle = old.idle;
  }

  known_then : (words : List ℕ) (n p : ℕ) (v : View P B) → ((k q : ℕ) → get_elem? v.bits k ≡ some q → HasBit words n q) → HasBit words n p → (k q : ℕ) → get_elem? (v.bits ++ p ∷ []) k ≡ some q → HasBit words n q
  known_then words n p v old here k q e = ⊎_elim (old k q) (λ (is : p ≡ q). subst (λ (z : ℕ). HasBit words n z) is here) (at_snoc v.bits p q k e)

  one_bit : (a b i : ℕ) → bit_at a i ≡ 1 → bit_at (bit_or a b) i ≡ 1
  one_bit a b i e = let less = bit_at-lt b i in bit_at_or a b i ∙ omega arith

  -- a bit is set
  pub sets : (extra : ℕ) (opening : Opening P B) (slots id p : ℕ) (v : View P B) (c : List (ℕ × Option P)) → p / 64 < extra
      → Allows (Rule M extra opening) slots id (v, c) (suc slots + p / 64) (λ n. bit_or n (1 * 2 ^ (p % 64) % 2 ^ 64)) (TellsBitSet M p (step slots (suc slots + p / 64) (1 * 2 ^ (p % 64) % 2 ^ 64) 0 none) (v, c))
  sets extra opening slots id p v c near s r homes_are at _ = (with_bits (p ∷ []) v, keeps, tt, kept, refl)
    where
      i : ℕ
      i = suc slots + p / 64

      same_slots : length r.parts ≡ slots
      same_slots = sym r.homes_are ∙ homes_are

      x : ℕ
      x = bit_or (get_or s.words i 0) (1 * 2 ^ (p % 64) % 2 ^ 64)

      here : get_or (set s.words i x) i 0 ≡ x
      here = get_or-set_same s.words i x 0 (omega (arith, r.words_are))

      more : (q : ℕ) → HasBit s.words slots q → HasBit (set s.words i x) slots q
      more q is = by_word (ℕ_discrete (suc slots + q / 64) i)
        where
          by_word : Dec (suc slots + q / 64 ≡ i) → HasBit (set s.words i x) slots q
          by_word (yes e) = ap (λ (z : ℕ). bit_at (get_or (set s.words i x) z 0) (q % 64)) e ∙ ap (λ (z : ℕ). bit_at z (q % 64)) here ∙ one_bit (get_or s.words i 0) (1 * 2 ^ (p % 64) % 2 ^ 64) (q % 64) (ap (λ (z : ℕ). bit_at (get_or s.words z 0) (q % 64)) (sym e) ∙ is)
          by_word (no n) = ap (λ (z : ℕ). bit_at z (q % 64)) (get_or-set_other s.words i (suc slots + q / 64) x 0 n) ∙ is

      this : HasBit (set s.words i x) slots p
      this = ap (λ (z : ℕ). bit_at z (p % 64)) here ∙ bit_at_set_same w64 (get_or s.words i 0) (p % 64) (omega arith)

      -- a bit that is set behind the step was set, or is this one
      only : (q : ℕ) → HasBit (set s.words i x) slots q → HasBit s.words slots q ⊎ ((k : ℕ) × (get_elem? (v.bits ++ p ∷ []) k ≡ some q))
      only q is = by_word (ℕ_discrete (suc slots + q / 64) i) (ℕ_discrete (q % 64) (p % 64))
        where
          Goal : Type 0
          Goal = HasBit s.words slots q ⊎ ((k : ℕ) × (get_elem? (v.bits ++ p ∷ []) k ≡ some q))

          by_word : Dec (suc slots + q / 64 ≡ i) → Dec (q % 64 ≡ p % 64) → Goal
          by_word (yes e) (yes same) = let this_one : p ≡ q = omega arith in inr (length v.bits, at_last v.bits p (length v.bits) refl ∙ ap (λ (z : ℕ). some z) this_one)
          by_word (yes e) (no other) = inl (ap (λ (z : ℕ). bit_at (get_or s.words z 0) (q % 64)) e ∙ sym (bit_at_set_other w64 (get_or s.words i 0) (p % 64) (omega arith) (q % 64) other) ∙ ap (λ (z : ℕ). bit_at z (q % 64)) (sym here) ∙ ap (λ (z : ℕ). bit_at (get_or (set s.words i x) z 0) (q % 64)) (sym e) ∙ is)
          by_word (no n) d = inl (ap (λ (z : ℕ). bit_at z (q % 64)) (sym (get_or-set_other s.words i (suc slots + q / 64) x 0 n)) ∙ is)

      kept : Rule M extra opening (stepped s i x id c (with_bits (p ∷ []) v) keeps)
      kept = relit s r id i x v (with_bits (p ∷ []) v) at (omega arith) refl refl refl refl (lit_agrees s r id p v at)
          (λ q is. subst (λ (n : ℕ). HasBit (set s.words i x) n q) (sym same_slots) (more q (subst (λ (n : ℕ). HasBit s.words n q) same_slots is)))
          (λ k q e. subst (λ (n : ℕ). HasBit (set s.words i x) n q) (sym same_slots) (known_then (set s.words i x) slots p v (λ k' q' e'. more q' (subst (λ (n : ℕ). HasBit s.words n q') same_slots (r.known_bits id k' q' v at e'))) this k q e))
          (λ k q e. at_longer v.bits (p ∷ []) k q e)
          (λ q is. subst (λ (n : ℕ). HasBit (set s.words i x) n q → HasBit s.words n q ⊎ ((k : ℕ) × (get_elem? (v.bits ++ p ∷ []) k ≡ some q))) (sym same_slots) (only q) is)

  -- a bit is looked at
  pub shines : (extra : ℕ) (opening : Opening P B) (slots id p : ℕ) (v : View P B) (c : List (ℕ × Option P)) → p / 64 < extra
      → Allows (Rule M extra opening) slots id (v, c) (suc slots + p / 64) (λ n. n) (TellsBit M p (step slots (suc slots + p / 64) 0 0 none) (v, c))
  shines extra opening slots id p v c near s r homes_are at _ = go (ℕ_discrete (bit_at (get_or s.words i 0) (p % 64)) 1)
    where
      i : ℕ
      i = suc slots + p / 64

      x : ℕ
      x = get_or s.words i 0

      same_slots : length r.parts ≡ slots
      same_slots = sym r.homes_are ∙ homes_are

      Goal : Type 0
      Goal = (w : View P B) × (a : Act (Option P)) × Rattle.atomic_table.specs.Table.Valid s.homes c a × Rule M extra opening (stepped s i x id c w a) × TellsBit M p (step slots i 0 0 none) (v, c) x (w, Rattle.atomic_table.specs.Table.carried_after c a)

      more : (q : ℕ) → HasBit s.words (length r.parts) q → HasBit (set s.words i x) (length r.parts) q
      more q is = subst (λ (l : List ℕ). HasBit l (length r.parts) q) (sym (set-get_or s.words i 0)) is

      go : Dec (bit_at x (p % 64) ≡ 1) → Goal
      go (yes e) = (
        with_bits (p ∷ []) v,
        keeps,
        tt,
        relit s r id i x v (with_bits (p ∷ []) v) at (omega arith) refl refl refl refl (lit_agrees s r id p v at) more
            (known_then (set s.words i x) (length r.parts) p v (λ k q d. more q (r.known_bits id k q v at d)) (more p (ap (λ (n : ℕ). bit_at (get_or s.words (suc n + p / 64) 0) (p % 64)) same_slots ∙ e)))
            (λ k q d. at_longer v.bits (p ∷ []) k q d)
            (λ q is. inl (subst (λ (l : List ℕ). HasBit l (length r.parts) q) (set-get_or s.words i 0) is)),
        ((λ _. refl), (λ n. absurd (n e))),
      )
      go (no n) = (
        v,
        keeps,
        tt,
        unchanged M s r id i v at,
        ((λ e. absurd (n e)), (λ _. (refl, record { none = λ kept share. none_at kept share n }))),
      )
        where
          none_at : v.opening.kept ≡ true → 0 < v.share → bit_at x (p % 64) ≢ 1 → (j k : ℕ) (b : B) → get_elem? v.seen j ≡ some b → get_elem? (M.places b) k ≡ some p → ⊥
          none_at kept share clear j k b e d = let pre = (r.each id v at).seen in
              clear (ap (λ (q : ℕ). bit_at (get_or s.words (suc q + p / 64) 0) (p % 64)) (sym same_slots) ∙ r.bits (ap (λ (o : Opening P B). o.kept) (sym ((r.each id v at).opening_is share)) ∙ kept) j k p b (subst (λ (h : List B). get_elem? h j ≡ some b) pre.1 (at_longer v.seen pre.0 j b e)) d)
