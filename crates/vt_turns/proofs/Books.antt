-- What is booked keeps the rule.
use Rattle.std.proofs.Common.{◌≡◌, ◌≢◌, ℕ, zero, suc, ◌+◌, ◌<◌, ◌≤◌, cond, List, [], ◌∷◌, length, get_or, set, sym, refl, ap, ◌∙◌, subst, ⊎_elim, arith, length-set, get_or-set_same, get_or-set_other, Bool, false}
use Rattle.std.specs.Prelude.{Option, Some, None}
use mathlib.Core.Option.{none, some, some-injective, some-ne-none}
use native.Mathlib.Decide.{ℕ_discrete}
use lib.ListN.{get_elem?}
use Rattle.atomic_table.specs.Table.{keeps, step, Allows}
use Rattle.atomic_table.proofs.Lists.{at_set, set_here, set_else}
use Rattle.vt_turns.specs.declared.view.View.{View}
use Rattle.vt_turns.specs.declared.view.Opening.{Opening}
use Rattle.vt_turns.specs.Meaning.{Meaning, Lawful}
use Rattle.vt_turns.specs.Lists.{put_at, total, times}
use Rattle.vt_turns.specs.Views.{KnowsAll, turn_of, mark_of, stop_of, faults_of, front_of, durable_of, stable_at, risen, booking}
use Rattle.vt_turns.specs.Rule.{Placed, Holds, Knows, Counted, Stands, HasBit, Rule}
use Rattle.vt_turns.specs.Calls.{MayBook}
use Rattle.vt_turns.specs.Steps.{TellsBooked}
use Rattle.vt_turns.proofs.KnowsAll.{knows_booked}
use Rattle.vt_turns.proofs.Moves.{is_log, positive, Some-same, St, of_turn, has_share, bits_stay, bits_stood, bits_known, no_others_on, alone_with}
use Rattle.vt_turns.proofs.Lists.{total_set, total_same, at_put_here, at_put_else, inside}

module _ {P B : Type 0} (M : Meaning P B) (lawful : Lawful M) where
  pub front_set : (parts : List P) (k : ℕ) (x y : P) → get_elem? parts k ≡ some x → (k ≡ 0 → M.front y ≡ M.front x) → front_of M (set parts k y) ≡ front_of M parts
  front_set [] k x y is same = refl
  front_set (p ∷ ps) zero x y is same = same refl ∙ ap M.front (sym (some-injective p x is))
  front_set (p ∷ ps) (suc k) x y is same = refl

  pub durable_set : (parts : List P) (k : ℕ) (x y : P) → get_elem? parts k ≡ some x → (k ≡ 0 → M.durable x ≤ M.durable y) → durable_of M parts ≤ durable_of M (set parts k y)
  durable_set [] k x y is grows = omega arith
  durable_set (p ∷ ps) zero x y is grows = let same : M.durable p ≡ M.durable x = ap M.durable (some-injective p x is) in let more = grows refl in omega arith
  durable_set (p ∷ ps) (suc k) x y is grows = omega arith

  stable_set : (parts : List P) (k stable : ℕ) (x y : P) → get_elem? parts k ≡ some x → stable ≤ durable_of M parts → stable_at M k y stable ≤ durable_of M (set parts k y)
  stable_set [] k stable x y is le = absurd (some-ne-none x (sym is))
  stable_set (p ∷ ps) zero stable x y is le = omega arith
  stable_set (p ∷ ps) (suc k) stable x y is le = le

  counted_more : (o x y : P) (sum f g total' : ℕ) → M.count x ≤ M.count y → (M.full y ≡ false → M.full x ≡ false) → Counted M sum o x → g ≡ f + risen M x y → total' + f ≡ sum + g → Counted M total' o y
  counted_more o x y sum f g total' grows full c more added = (omega (arith, c.0), λ e. let x_is = c.1 (full e) in let none_more : cond {A = ℕ} (M.full y) 1 0 ≡ 0 = ap (λ (q : Bool). cond {A = ℕ} q 1 0) e in omega arith)

  -- what another view agrees with, where the part k becomes y
  other_agrees : {extra : ℕ} {opening : Opening P B} {s : St M} (r : Rule M extra opening s) (k : ℕ) (x y : P) → get_elem? r.parts k ≡ some x → durable_of M r.parts ≤ durable_of M (set r.parts k y) → M.mark x ≤ M.mark y → ((n : ℕ) → M.stop x ≡ Some n → M.stop y ≡ Some n)
      → (i : ℕ) (u : View P B) → ((z : P) → turn_of u k ≡ Some z → ⊥) → Knows M opening s.homes r.holder r.parts r.history i u → Knows M opening s.homes r.holder (set r.parts k y) r.history i u
  other_agrees r k x y is more mark stop i u none_here old = record {
    seen = old.seen;
    whole = old.whole;
    durable = old.durable;
    olds = old.olds;
    opening_is = old.opening_is;
    stable = let le = old.stable in omega arith;
    marks = λ j z e. ⊎_elim (λ (t : (j ≡ k) × (y ≡ z)). subst (λ (q : ℕ × P). mark_of u q.0 ≤ M.mark q.1) (λ w. (sym t.0 w, t.1 w)) (let le = old.marks k x is in omega arith))
        (λ (t : (j ≢ k) × (get_elem? r.parts j ≡ some z)). old.marks j z t.1) (at_set r.parts k j y z e);
    stops = λ j n z e has. ⊎_elim (λ (t : (j ≡ k) × (y ≡ z)). ap M.stop (sym t.1) ∙ stop n (old.stops k n x is (subst (λ (q : ℕ). stop_of u q ≡ Some n) t.0 has)))
        (λ (t : (j ≢ k) × (get_elem? r.parts j ≡ some z)). old.stops j n z t.1 has) (at_set r.parts k j y z e);
    turns = λ j z e. let n : j ≢ k = λ q. none_here z (subst (λ (p : ℕ). turn_of u p ≡ Some z) q e) in let h = old.turns j z e in (h.0, set_else r.parts k j y n ∙ h.1, h.2);
    idle = old.idle;
  }

  module _ {extra : ℕ} {opening : Opening P B} (s : St M) (r : Rule M extra opening s) (id k : ℕ) (v : View P B) (x y : P) (at : get_elem? s.views id ≡ some v) (has : turn_of v k ≡ Some x) (b : MayBook M v k x y) where
    h : Holds s.homes r.holder r.parts id v.away k x
    h = of_turn M s r id v at k x has

    abbrev w : View P B
    w = booking M k x y v

    opened : v.opening ≡ opening
    opened = (r.each id v at).opening_is (positive v.share (has_share M s r id v at k x has))

    more : durable_of M r.parts ≤ durable_of M (set r.parts k y)
    unfolding h
    more = durable_set r.parts k x y h.1 b.durable

    own_agrees : Knows M opening s.homes r.holder (set r.parts k y) r.history id w
    unfolding h
    own_agrees = let old = r.each id v at in record {
      seen = old.seen;
      whole = whole_at k has;
      durable = durable_at k has;
      olds = old.olds;
      opening_is = old.opening_is;
      stable = stable_set r.parts k v.stable x y h.1 old.stable;
      marks = λ j z e. ⊎_elim (λ (t : (j ≡ k) × (y ≡ z)). subst (λ (q : ℕ × P). mark_of w q.0 ≤ M.mark q.1) (λ i. (sym t.0 i, t.1 i)) (let is = at_put_here 0 v.marks k (M.mark y) in omega arith))
          (λ (t : (j ≢ k) × (get_elem? r.parts j ≡ some z)). let is = at_put_else 0 v.marks k j (M.mark y) t.0 in let le = old.marks j z t.1 in omega arith) (at_set r.parts k j y z e);
      stops = λ j n z e got. ⊎_elim (λ (t : (j ≡ k) × (y ≡ z)). ap M.stop (sym t.1) ∙ sym (at_put_here None v.stops k (M.stop y)) ∙ subst (λ (q : ℕ). stop_of w q ≡ Some n) t.0 got)
          (λ (t : (j ≢ k) × (get_elem? r.parts j ≡ some z)). old.stops j n z t.1 (sym (at_put_else None v.stops k j (M.stop y) t.0) ∙ got)) (at_set r.parts k j y z e);
      turns = λ j z e. turns_at j z (ℕ_discrete j k) e;
      idle = λ none_left. absurd (has_share M s r id v at k x has none_left);
    }
      where
        whole_at : (q : ℕ) → turn_of v q ≡ Some x → (z : P) → get_or (put_at None v.turns q (Some y)) 0 None ≡ Some z → v.seen ≡ r.history
        whole_at zero had z e = (r.each id v at).whole x had
        whole_at (suc q) had z e = (r.each id v at).whole z (sym (at_put_else None v.turns (suc q) 0 (Some y) (λ f. omega arith)) ∙ e)

        durable_at : (q : ℕ) → turn_of v q ≡ Some x → (z : P) → get_or (put_at None v.turns q (Some y)) 0 None ≡ Some z → stable_at M q y v.stable ≡ M.durable z
        durable_at zero had z e = ap M.durable (Some-same y z (sym (at_put_here None v.turns zero (Some y)) ∙ e))
        durable_at (suc q) had z e = (r.each id v at).durable z (sym (at_put_else None v.turns (suc q) 0 (Some y) (λ f. omega arith)) ∙ e)

        turns_at : (j : ℕ) (z : P) → Dec (j ≡ k) → turn_of w j ≡ Some z → Holds s.homes r.holder (set r.parts k y) id v.away j z
        turns_at j z (yes same) e = let y_is : y ≡ z = Some-same y z (sym (at_put_here None v.turns k (Some y)) ∙ subst (λ (q : ℕ). turn_of w q ≡ Some z) same e) in
            subst (λ (q : ℕ × P). Holds s.homes r.holder (set r.parts k y) id v.away q.0 q.1) (λ i. (sym same i, y_is i)) (h.0, set_here r.parts k y (inside r.parts k x h.1), h.2)
        turns_at j z (no n) e = let t = of_turn M s r id v at j z (sym (at_put_else None v.turns k j (Some y) n) ∙ e) in (t.0, set_else r.parts k j y n ∙ t.1, t.2)

    all_stand : (j : ℕ) (o z : P) → get_elem? opening.parts j ≡ some o → get_elem? (set r.parts k y) j ≡ some z → Stands M opening r.history (durable_of M (set r.parts k y)) (total (λ (u : View P B). faults_of u j) (set s.views id w)) o z
    unfolding h more
    all_stand j o z eo e = ⊎_elim
        (λ (t : (j ≡ k) × (y ≡ z)). subst (λ (q : ℕ × P). Stands M opening r.history (durable_of M (set r.parts k y)) (total (λ (u : View P B). faults_of u q.0) (set s.views id w)) o q.1) (λ i. (sym t.0 i, t.1 i))
        (let old = r.stands k o x (subst (λ (q : ℕ). get_elem? opening.parts q ≡ some o) t.0 eo) h.1 in let mine = r.each id v at in record {
          sound = subst (λ (l : Opening P B). M.sound l r.history x → M.sound l r.history y) opened (b.sound r.history mine.seen) old.sound;
          within = lawful.further opening (durable_of M r.parts) (durable_of M (set r.parts k y)) y more (subst (λ (l : Opening P B). M.within l (durable_of M r.parts) x → M.within l (durable_of M r.parts) y) opened (b.within (durable_of M r.parts) mine.stable) old.within);
          covers = λ c. b.covers c ∙ old.covers c;
          counted = counted_more o x y (total (λ (u : View P B). faults_of u k) s.views) (faults_of v k) (faults_of w k) (total (λ (u : View P B). faults_of u k) (set s.views id w)) b.count b.full old.counted
              (at_put_here 0 v.faults k (faults_of v k + risen M x y)) (total_set (λ (u : View P B). faults_of u k) s.views id v w at);
        }))
        (λ (t : (j ≢ k) × (get_elem? r.parts j ≡ some z)). let old = r.stands j o z eo t.1 in record {
          sound = old.sound;
          within = lawful.further opening (durable_of M r.parts) (durable_of M (set r.parts k y)) z more old.within;
          covers = old.covers;
          counted = subst (λ (q : ℕ). Counted M q o z) (sym (total_same (λ (u : View P B). faults_of u j) s.views id v w at (at_put_else 0 v.faults k j (faults_of v k + risen M x y) t.0))) old.counted;
        })
        (at_set r.parts k j y z e)

    still_held : (j i : ℕ) → j < length r.parts → r.holder j ≡ suc i → (u : View P B) × (z : P) × (get_elem? (set s.views id w) i ≡ some u) × (turn_of u j ≡ Some z)
    unfolding h
    still_held j i near e = go (ℕ_discrete j k) (ℕ_discrete i id)
      where
        Goal : Type 0
        Goal = (u : View P B) × (z : P) × (get_elem? (set s.views id w) i ≡ some u) × (turn_of u j ≡ Some z)

        here : i ≡ id → get_elem? (set s.views id w) i ≡ some w
        here is = subst (λ (q : ℕ). get_elem? (set s.views id w) q ≡ some w) (sym is) (set_here s.views id w (inside s.views id v at))

        go : Dec (j ≡ k) → Dec (i ≡ id) → Goal
        go (yes same) d = (w, y, here (let a = h.0 in let c : r.holder k ≡ suc i = ap r.holder (sym same) ∙ e in omega arith), subst (λ (q : ℕ). turn_of w q ≡ Some y) (sym same) (at_put_here None v.turns k (Some y)))
        go (no n) (yes is) = let old = r.held j i near e in let v_is : old.0 ≡ v = some-injective old.0 v (sym old.2 ∙ (subst (λ (q : ℕ). get_elem? s.views q ≡ some v) (sym is) at)) in
            (w, old.1, here is, at_put_else None v.turns k j (Some y) n ∙ ap (λ (u : View P B). turn_of u j) (sym v_is) ∙ old.3)
        go (no n) (no apart) = let old = r.held j i near e in (old.0, old.1, set_else s.views id i w apart ∙ old.2, old.3)

    all_placed : (j : ℕ) (z : P) → get_elem? (set r.parts k y) j ≡ some z → Placed (r.holder j) (get_or (set s.words (suc k) 1) (suc j) 0) (get_elem? s.homes j) z
    unfolding h
    all_placed j z e = ⊎_elim
        (λ (t : (j ≡ k) × (y ≡ z)). subst (λ (q : ℕ × P). Placed (r.holder q.0) (get_or (set s.words (suc k) 1) (suc q.0) 0) (get_elem? s.homes q.0) q.1) (λ i. (sym t.0 i, t.1 i))
        ((λ none_left. absurd (let a = h.0 in omega arith)), (λ _. let is = get_or-set_same s.words (suc k) 1 0 (let i = inside r.parts k x h.1 in omega (arith, r.words_are)) in omega arith)))
        (λ (t : (j ≢ k) × (get_elem? r.parts j ≡ some z)). subst (λ (q : ℕ). Placed (r.holder j) q (get_elem? s.homes j) z) (sym (get_or-set_other s.words (suc k) (suc j) 1 0 (λ a. t.0 (omega arith)))) (r.placed j z t.1))
        (at_set r.parts k j y z e)

    pub kept_booked : Rule M extra opening record { words = set s.words (suc k) 1; homes = s.homes; views = set s.views id w }
    unfolding h
    kept_booked = record {
      parts = set r.parts k y;
      history = r.history;
      holder = r.holder;
      words_are = omega (arith, length-set s.words (suc k) 1, r.words_are, length-set r.parts k y);
      homes_are = r.homes_are ∙ sym (length-set r.parts k y);
      as_many = length-set r.parts k y ∙ r.as_many;
      front = get_or-set_other s.words (suc k) 0 1 0 (omega arith) ∙ r.front;
      log = front_set r.parts k x y h.1 b.front ∙ r.log;
      grown = r.grown;
      apart = r.apart;
      placed = all_placed;
      stands = all_stand;
      each = λ i u e. ⊎_elim (λ (t : (i ≡ id) × (w ≡ u)). subst (λ (z : ℕ × View P B). Knows M opening s.homes r.holder (set r.parts k y) r.history z.0 z.1) (λ q. (sym t.0 q, t.1 q)) own_agrees)
          (λ (t : (i ≢ id) × (get_elem? s.views i ≡ some u)). other_agrees r k x y h.1 more b.mark b.stop i u (λ z. alone_with M s r k id h.0 i u z t.0 t.1) (r.each i u t.1)) (at_set s.views id i w u e);
      held = λ j i near. still_held j i (subst (λ (q : ℕ). j < q) (length-set r.parts k y) near);
      shares = total_same (λ (u : View P B). u.share) s.views id v w at refl ∙ r.shares;
      numbers = λ q. total_same (λ (u : View P B). times q u.own) s.views id v w at refl ∙ r.numbers q;
      bits = λ kept i q p c e d. subst (λ (z : ℕ). HasBit (set s.words (suc k) 1) z p) (sym (length-set r.parts k y)) (bits_stay M s.words (suc k) 1 (length r.parts) p (let f = inside r.parts k x h.1 in omega arith) (r.bits kept i q p c e d));
      known_bits = λ i q p u e d. subst (λ (z : ℕ). HasBit (set s.words (suc k) 1) z p) (sym (length-set r.parts k y)) (bits_stay M s.words (suc k) 1 (length r.parts) p (let f = inside r.parts k x h.1 in omega arith) (bits_known M s r id v w at refl i q p u e d));
      no_other_bits = λ p is. no_others_on M opening s.views id p v w at (λ q e. e) (r.no_other_bits p (bits_stood M s.words (suc k) 1 (length r.parts) p (let f = inside r.parts k x h.1 in omega arith) (subst (λ (z : ℕ). HasBit (set s.words (suc k) 1) z p) (length-set r.parts k y) is)));
    }

  -- what is TellsBooked keeps the rule
  pub books : (extra : ℕ) (opening : Opening P B) (slots id k : ℕ) (v : View P B) (c : List (ℕ × Option P)) (x y : P) → turn_of v k ≡ Some x → MayBook M v k x y
      → Allows (Rule M extra opening) slots id (v, c) (suc k) (λ _. 1) (λ _ m'. TellsBooked M (Some y) (step slots (suc k) 1 0 none) (v, c) 1 m')
  books extra opening slots id k v c x y has b s r wide at _ = (
    booking M k x y v,
    keeps,
    tt,
    kept_booked s r id k v x y at has b,
    (λ k' x' y' e has' named.
        let same : k ≡ k' = omega arith in
        let x_is : x ≡ x' = Some-same x x' (sym has ∙ ap (λ (q : ℕ). turn_of v q) same ∙ has') in
        let y_is : y ≡ y' = Some-same y y' named in
        let mine = r.each id v at in
        let known = knows_booked M k x y v b
        (λ z. let le = mine.stable in let log = is_log M s r x (subst (λ (q : ℕ). get_elem? r.parts q ≡ some x) z (of_turn M s r id v at k x has).1) in omega arith)
        (mine.marks k x (of_turn M s r id v at k x has).1)
        (λ n. mine.stops k n x (of_turn M s r id v at k x has).1) in
        ((λ i. (booking M (same i) (x_is i) (y_is i) v, c)), subst (λ (q : ℕ × P × P). KnowsAll v (booking M q.0 q.1 q.2 v)) (λ i. (same i, x_is i, y_is i)) known)),
  )
