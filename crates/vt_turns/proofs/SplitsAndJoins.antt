-- How passes are split, joined and noted.
use Rattle.std.proofs.Common.{◌≡◌, ◌≢◌, ◌⊎◌, inl, inr, ℕ, zero, suc, ◌+◌, ◌-◌, ◌<◌, List, [], ◌∷◌, ◌++◌, length, set, sym, refl, ap, ◌∙◌, subst, ⊎_elim, arith}
use Rattle.std.specs.Prelude.{Option, Some, None, max}
use mathlib.Core.Option.{some, some-injective, some-ne-none}
use mathlib.Core.List.{IsPrefix}
use native.Mathlib.Decide.{ℕ_discrete}
use lib.ListN.{get_elem?}
use Rattle.atomic_table.specs.Table.{Splits, Joins}
use Rattle.atomic_table.proofs.Lists.{at_set, set_here, set_else, at_snoc, at_longer}
use Rattle.vt_turns.specs.declared.view.View.{View}
use Rattle.vt_turns.specs.declared.view.Opening.{Opening}
use Rattle.vt_turns.specs.Meaning.{Meaning}
use Rattle.vt_turns.specs.Lists.{or_else, total, times}
use Rattle.vt_turns.specs.Views.{turn_of, mark_of, stop_of, faults_of, HoldsNone, durable_of, less_one, split_off, noted, joined_views, spent}
use Rattle.vt_turns.specs.Rule.{Knows, Stands, HasBit, IsKnown, Rule}
use Rattle.vt_turns.proofs.Moves.{is_log, Some-None, St, bits_known, no_others_on}
use Rattle.vt_turns.proofs.Lists.{total_set, total_snoc, inside, times-append, at_both}

module _ {P B : Type 0} (M : Meaning P B) where
  module _ {extra : ℕ} {opening : Opening P B} (s : St M) (r : Rule M extra opening s) (id a b : ℕ) (v : View P B) (at : get_elem? s.views id ≡ some v) (sum : a + b ≡ v.share) (some_left : a ≡ 0 → v.share ≡ 0) where
    abbrev l : View P B
    l = record v { share = a }

    abbrev n : View P B
    n = record v { share = b; olds = []; own = []; faults = []; turns = []; away = 0 }

    abbrev views' : List (View P B)
    views' = set s.views id l ++ n ∷ []

    new_agrees : (i : ℕ) → Knows M opening s.homes r.holder r.parts r.history i n
    new_agrees i = let old = r.each id v at in record {
      seen = old.seen;
      whole = λ x e. absurd (Some-None x (sym e));
      durable = λ x e. absurd (Some-None x (sym e));
      olds = λ k h e. absurd (some-ne-none h (sym e));
      opening_is = λ share. old.opening_is (omega arith);
      stable = old.stable;
      marks = old.marks;
      stops = old.stops;
      turns = λ k x e. absurd (Some-None x (sym e));
      idle = λ none_left. (refl, λ k. refl, λ k. refl);
    }

    left_agrees : Knows M opening s.homes r.holder r.parts r.history id l
    left_agrees = let old = r.each id v at in record {
      seen = old.seen;
      whole = old.whole;
      durable = old.durable;
      olds = old.olds;
      opening_is = λ share. old.opening_is (omega arith);
      stable = old.stable;
      marks = old.marks;
      stops = old.stops;
      turns = old.turns;
      idle = λ none_left. old.idle (some_left none_left);
    }

    each' : (i : ℕ) (u : View P B) → get_elem? views' i ≡ some u → Knows M opening s.homes r.holder r.parts r.history i u
    each' i u e = ⊎_elim
        (λ old. ⊎_elim (λ (t : (i ≡ id) × (l ≡ u)). subst (λ (z : ℕ × View P B). Knows M opening s.homes r.holder r.parts r.history z.0 z.1) (λ q. (sym t.0 q, t.1 q)) left_agrees)
        (λ (t : (i ≢ id) × (get_elem? s.views i ≡ some u)). r.each i u t.1) (at_set s.views id i l u old))
        (λ (is : n ≡ u). subst (λ (z : View P B). Knows M opening s.homes r.holder r.parts r.history i z) is (new_agrees i))
        (at_snoc (set s.views id l) n u i e)

    total_parted : (f : View P B → ℕ) → f l + f n ≡ f v → total f views' ≡ total f s.views
    total_parted f same = let t = total_set f s.views id v l at in let t' = total_snoc f (set s.views id l) n in omega arith

    held' : (k i : ℕ) → k < length r.parts → r.holder k ≡ suc i → (u : View P B) × (x : P) × (get_elem? views' i ≡ some u) × (turn_of u k ≡ Some x)
    held' k i near e = go (ℕ_discrete i id)
      where
        go : Dec (i ≡ id) → (u : View P B) × (x : P) × (get_elem? views' i ≡ some u) × (turn_of u k ≡ Some x)
        go (yes is) = let old = r.held k i near e in let v_is : old.0 ≡ v = some-injective old.0 v (sym old.2 ∙ (subst (λ (q : ℕ). get_elem? s.views q ≡ some v) (sym is) at)) in
            (l, old.1, at_longer (set s.views id l) (n ∷ []) i l (subst (λ (q : ℕ). get_elem? (set s.views id l) q ≡ some l) (sym is) (set_here s.views id l (inside s.views id v at))), ap (λ (u : View P B). turn_of u k) (sym v_is) ∙ old.3)
        go (no apart) = let old = r.held k i near e in (old.0, old.1, at_longer (set s.views id l) (n ∷ []) i old.0 (set_else s.views id i l apart ∙ old.2), old.3)

    pub kept_parted : Rule M extra opening record { words = s.words; homes = s.homes; views = views' }
    kept_parted = record {
      parts = r.parts;
      history = r.history;
      holder = r.holder;
      words_are = r.words_are;
      homes_are = r.homes_are;
      as_many = r.as_many;
      front = r.front;
      log = r.log;
      grown = r.grown;
      apart = r.apart;
      placed = r.placed;
      stands = λ j o y eo e. subst (λ (z : ℕ). Stands M opening r.history (durable_of M r.parts) z o y) (sym (total_parted (λ (u : View P B). faults_of u j) (omega arith))) (r.stands j o y eo e);
      each = each';
      held = held';
      shares = total_parted (λ (u : View P B). u.share) sum ∙ r.shares;
      numbers = λ q. total_parted (λ (u : View P B). times q u.own) (omega arith) ∙ r.numbers q;
      bits = r.bits;
      known_bits = λ i k p u e d. ⊎_elim (λ old. bits_known M s r id v l at refl i k p u old d) (λ (is : n ≡ u). r.known_bits id k p v at (ap (λ (z : View P B). get_elem? z.bits k) is ∙ d)) (at_snoc (set s.views id l) n u i e);
      no_other_bits = λ p is. ⊎_elim (λ was. inl was) (λ t. inr (t.0, t.1, t.2, at_longer (set s.views id l) (n ∷ []) t.0 t.2 t.3, t.4)) (no_others_on M opening s.views id p v l at (λ q e. e) (r.no_other_bits p is));
    }

  pub splits : (extra : ℕ) (opening : Opening P B) (id : ℕ) (v : View P B) → 1 < v.share → Splits (Rule M extra opening) id v (less_one v) (split_off v)
  splits extra opening id v two s r at = kept_parted s r id (v.share - 1) 1 v at (omega arith) (λ e. absurd (omega arith))

  pub notes : (extra : ℕ) (opening : Opening P B) (id : ℕ) (v : View P B) → Splits (Rule M extra opening) id v v (noted v)
  notes extra opening id v s r at = kept_parted s r id v.share 0 v at (omega arith) (λ e. e)

or_none : (o : Option ℕ) → or_else o None ≡ o
or_none None = refl
or_none (Some n) = refl

in_append : {A : Type 0} (l m : List A) (n : ℕ) (a : A) → get_elem? (l ++ m) n ≡ some a → ((i : ℕ) × (get_elem? l i ≡ some a)) ⊎ ((i : ℕ) × (get_elem? m i ≡ some a))
in_append [] m n a e = inr (n, e)
in_append (x ∷ xs) m zero a e = inl (0, e)
in_append (x ∷ xs) m (suc n) a e = ⊎_elim (λ (t : (i : ℕ) × (get_elem? xs i ≡ some a)). inl (suc t.0, t.1)) (λ (t : (i : ℕ) × (get_elem? m i ≡ some a)). inr t) (in_append xs m n a e)

at_behind : {A : Type 0} (l m : List A) (k : ℕ) (a : A) → get_elem? m k ≡ some a → (j : ℕ) × (get_elem? (l ++ m) j ≡ some a)
at_behind [] m k a e = (k, e)
at_behind (x ∷ xs) m k a e = let t = at_behind xs m k a e in (suc t.0, t.1)

module _ {P B : Type 0} (M : Meaning P B) where
  module _ {extra : ℕ} {opening : Opening P B} (s : St M) (r : Rule M extra opening s) (id other : ℕ) (v w : View P B) (at : get_elem? s.views id ≡ some v) (apart : other ≢ id) (at_w : get_elem? s.views other ≡ some w) (share : 0 < v.share) (none_held : HoldsNone w) where
    abbrev both : View P B
    both = joined_views v w

    abbrev views2 : List (View P B)
    views2 = set (set s.views id both) other (spent)

    marks_are : (k : ℕ) → mark_of both k ≡ max (mark_of v k) (mark_of w k)
    marks_are k = at_both 0 max (λ y. omega arith) (λ y. omega arith) v.marks w.marks k

    stops_are : (k : ℕ) → stop_of both k ≡ or_else (stop_of v k) (stop_of w k)
    stops_are k = at_both None or_else (λ y. refl) or_none v.stops w.stops k

    faults_are : (k : ℕ) → faults_of both k ≡ faults_of v k + faults_of w k
    faults_are k = at_both 0 (λ m n. m + n) (λ y. omega arith) (λ y. omega arith) v.faults w.faults k

    either_stop : (a b : Option ℕ) (n : ℕ) → or_else a b ≡ Some n → (a ≡ Some n) ⊎ (b ≡ Some n)
    either_stop None b n e = inr e
    either_stop (Some m) b n e = inl e

    both_agrees : Knows M opening s.homes r.holder r.parts r.history id both
    both_agrees = let old = r.each id v at in let old_w = r.each other w at_w in record {
      seen = old.seen;
      whole = old.whole;
      durable = λ x has. let mine = old.durable x has in let log = is_log M s r x (old.turns 0 x has).1 in let theirs = old_w.stable in omega arith;
      olds = λ n h e. ⊎_elim
          (λ (t : (i : ℕ) × (get_elem? (v.olds ++ w.seen ∷ []) i ≡ some h)). ⊎_elim (λ e'. old.olds t.0 h e') (λ (is : w.seen ≡ h). subst (λ (z : List B). IsPrefix z r.history) is old_w.seen) (at_snoc v.olds w.seen h t.0 t.1))
          (λ (t : (i : ℕ) × (get_elem? w.olds i ≡ some h)). old_w.olds t.0 h t.1) (in_append (v.olds ++ w.seen ∷ []) w.olds n h e);
      opening_is = λ _. old.opening_is share;
      stable = let a = old.stable in let b = old_w.stable in omega arith;
      marks = λ k x e. let a = old.marks k x e in let b = old_w.marks k x e in let is = marks_are k in omega arith;
      stops = λ k n x e has. ⊎_elim (old.stops k n x e) (old_w.stops k n x e) (either_stop (stop_of v k) (stop_of w k) n (sym (stops_are k) ∙ has));
      turns = old.turns;
      idle = λ none_left. absurd (omega arith);
    }

    spent_agrees : (i : ℕ) → Knows M opening s.homes r.holder r.parts r.history i (spent)
    spent_agrees i = record {
      seen = (r.history, refl);
      whole = λ x has. absurd (Some-None x (sym has));
      durable = λ x has. absurd (Some-None x (sym has));
      olds = λ n h e. absurd (some-ne-none h (sym e));
      opening_is = λ some_share. absurd (omega arith);
      stable = omega arith;
      marks = λ k x e. omega arith;
      stops = λ k n x e has. absurd (Some-None n (sym has));
      turns = λ k x has. absurd (Some-None x (sym has));
      idle = λ none_left. (refl, λ k. refl, λ k. refl);
    }

    each2 : (i : ℕ) (u : View P B) → get_elem? views2 i ≡ some u → Knows M opening s.homes r.holder r.parts r.history i u
    each2 i u e = ⊎_elim
        (λ (t : (i ≡ other) × (spent ≡ u)). subst (λ (z : View P B). Knows M opening s.homes r.holder r.parts r.history i z) t.1 (spent_agrees i))
        (λ (t : (i ≢ other) × (get_elem? (set s.views id both) i ≡ some u)). ⊎_elim
        (λ (t' : (i ≡ id) × (both ≡ u)). subst (λ (z : ℕ × View P B). Knows M opening s.homes r.holder r.parts r.history z.0 z.1) (λ q. (sym t'.0 q, t'.1 q)) both_agrees)
        (λ (t' : (i ≢ id) × (get_elem? s.views i ≡ some u)). r.each i u t'.1) (at_set s.views id i both u t.1))
        (at_set (set s.views id both) other i (spent) u e)

    total_joined : (f : View P B → ℕ) → f both ≡ f v + f w → f (spent) ≡ 0 → total f views2 ≡ total f s.views
    total_joined f same none_spent = let t = total_set f s.views id v both at in let t' = total_set f (set s.views id both) other w (spent) (set_else s.views id other both apart ∙ at_w) in omega arith

    held2 : (k i : ℕ) → k < length r.parts → r.holder k ≡ suc i → (u : View P B) × (x : P) × (get_elem? views2 i ≡ some u) × (turn_of u k ≡ Some x)
    held2 k i near e = go (ℕ_discrete i other) (ℕ_discrete i id)
      where
        old : (u : View P B) × (x : P) × (get_elem? s.views i ≡ some u) × (turn_of u k ≡ Some x)
        old = r.held k i near e

        go : Dec (i ≡ other) → Dec (i ≡ id) → (u : View P B) × (x : P) × (get_elem? views2 i ≡ some u) × (turn_of u k ≡ Some x)
        go (yes is) d = let w_is : old.0 ≡ w = some-injective old.0 w (sym old.2 ∙ (subst (λ (q : ℕ). get_elem? s.views q ≡ some w) (sym is) at_w)) in
            absurd (Some-None old.1 (sym (ap (λ (u : View P B). turn_of u k) (sym w_is) ∙ old.3) ∙ none_held k))
        go (no ne) (yes is) = let v_is : old.0 ≡ v = some-injective old.0 v (sym old.2 ∙ (subst (λ (q : ℕ). get_elem? s.views q ≡ some v) (sym is) at)) in
            (both, old.1, set_else (set s.views id both) other i (spent) ne ∙ subst (λ (q : ℕ). get_elem? (set s.views id both) q ≡ some both) (sym is) (set_here s.views id both (inside s.views id v at)), ap (λ (u : View P B). turn_of u k) (sym v_is) ∙ old.3)
        go (no ne) (no ne') = (old.0, old.1, set_else (set s.views id both) other i (spent) ne ∙ set_else s.views id i both ne' ∙ old.2, old.3)

    known2 : (i k p : ℕ) (u : View P B) → get_elem? views2 i ≡ some u → get_elem? u.bits k ≡ some p → HasBit s.words (length r.parts) p
    known2 i k p u e d = ⊎_elim
        (λ (t : (i ≡ other) × (spent ≡ u)). absurd (some-ne-none p (sym (ap (λ (z : View P B). get_elem? z.bits k) t.1 ∙ d))))
        (λ (t : (i ≢ other) × (get_elem? (set s.views id both) i ≡ some u)). ⊎_elim
        (λ (t' : (i ≡ id) × (both ≡ u)). ⊎_elim (λ (a : (j : ℕ) × (get_elem? v.bits j ≡ some p)). r.known_bits id a.0 p v at a.1) (λ (a : (j : ℕ) × (get_elem? w.bits j ≡ some p)). r.known_bits other a.0 p w at_w a.1)
        (in_append v.bits w.bits k p (ap (λ (z : View P B). get_elem? z.bits k) t'.1 ∙ d)))
        (λ (t' : (i ≢ id) × (get_elem? s.views i ≡ some u)). r.known_bits i k p u t'.1 d) (at_set s.views id i both u t.1))
        (at_set (set s.views id both) other i (spent) u e)

    -- what the pass that was joined knew is known
    known_joined : (p : ℕ) (t : IsKnown s.views p) → Dec (t.0 ≡ other) → Dec (t.0 ≡ id) → IsKnown views2 p
    known_joined p t is_other is_id = by is_other is_id
      where
        here : get_elem? views2 id ≡ some both
        here = set_else (set s.views id both) other id (spent) (λ e. apart (sym e)) ∙ set_here s.views id both (inside s.views id v at)

        by : Dec (t.0 ≡ other) → Dec (t.0 ≡ id) → IsKnown views2 p
        by (yes is) d = let w_is : t.2 ≡ w = some-injective t.2 w (sym t.3 ∙ subst (λ (q : ℕ). get_elem? s.views q ≡ some w) (sym is) at_w) in
            let there = at_behind v.bits w.bits t.1 p (ap (λ (u : View P B). get_elem? u.bits t.1) (sym w_is) ∙ t.4) in (id, there.0, both, here, there.1)
        by (no ne) (yes is) = let v_is : t.2 ≡ v = some-injective t.2 v (sym t.3 ∙ subst (λ (q : ℕ). get_elem? s.views q ≡ some v) (sym is) at) in
            (id, t.1, both, here, at_longer v.bits w.bits t.1 p (ap (λ (u : View P B). get_elem? u.bits t.1) (sym v_is) ∙ t.4))
        by (no ne) (no ne') = (t.0, t.1, t.2, set_else (set s.views id both) other t.0 (spent) ne ∙ set_else s.views id t.0 both ne' ∙ t.3, t.4)

    pub kept_joined : Rule M extra opening record { words = s.words; homes = s.homes; views = views2 }
    kept_joined = record {
      parts = r.parts;
      history = r.history;
      holder = r.holder;
      words_are = r.words_are;
      homes_are = r.homes_are;
      as_many = r.as_many;
      front = r.front;
      log = r.log;
      grown = r.grown;
      apart = r.apart;
      placed = r.placed;
      stands = λ j o y eo e. subst (λ (z : ℕ). Stands M opening r.history (durable_of M r.parts) z o y) (sym (total_joined (λ (u : View P B). faults_of u j) (faults_are j) refl)) (r.stands j o y eo e);
      each = each2;
      held = held2;
      shares = total_joined (λ (u : View P B). u.share) refl refl ∙ r.shares;
      numbers = λ q. total_joined (λ (u : View P B). times q u.own) (times-append q v.own w.own) refl ∙ r.numbers q;
      bits = r.bits;
      known_bits = known2;
      no_other_bits = λ p is. ⊎_elim (λ was. inl was) (λ t. inr (known_joined p t (ℕ_discrete t.0 other) (ℕ_discrete t.0 id))) (r.no_other_bits p is);
    }

  pub joins : (extra : ℕ) (opening : Opening P B) (id other : ℕ) (v w : View P B) → 0 < v.share → HoldsNone w → Joins (Rule M extra opening) id v other w (joined_views v w) (spent)
  joins extra opening id other v w share none_held s r at apart at_w = kept_joined s r id other v w at apart (sym (set_else s.views id other (joined_views v w) apart) ∙ at_w) share none_held
