-- The steps on the front keep the rule.
use Rattle.std.proofs.Common.{◌≡◌, ◌≢◌, ℕ, zero, suc, ◌+◌, ◌%◌, ◌^◌, ◌<◌, ◌≤◌, List, [], ◌∷◌, ◌++◌, length, get_or, set, sym, refl, ap, ◌∙◌, subst, ⊎_elim, arith, length-set, length-append, get_or-set_same, get_or-set_other, false, true}
use Rattle.std.specs.Prelude.{Option, Some, None}
use Rattle.std.proofs.Math.Nat.{mod-eq_of_lt}
use mathlib.Core.Option.{none, some, some-injective, some-ne-none}
use mathlib.Core.List.{IsPrefix}
use native.Mathlib.Decide.{ℕ_discrete}
use lib.ListN.{get_elem?}
use lib.Seq.{set-get_or}
use Rattle.atomic_table.specs.Table.{keeps, step, stepped, Allows}
use Rattle.atomic_table.proofs.Lists.{at_set, set_here, set_else, at_snoc}
use Rattle.vt_turns.specs.declared.view.View.{View}
use Rattle.vt_turns.specs.declared.view.Opening.{Opening}
use Rattle.vt_turns.specs.Meaning.{Meaning, Lawful}
use Rattle.vt_turns.specs.Lists.{put_at, total, times, once}
use Rattle.vt_turns.specs.Views.{turn_of, mark_of, stop_of, faults_of, front_of, durable_of, raising}
use Rattle.vt_turns.specs.Rule.{Placed, Holds, Knows, Stands, HasBit, Rule}
use Rattle.vt_turns.specs.Calls.{HasNumbersOf, MayRaise}
use Rattle.vt_turns.specs.Steps.{TellsRaised, Loads, TellsFront}
use Rattle.vt_turns.proofs.Moves.{positive, Some-same, St, of_turn, has_share, is_log, is_front, bits_stay, bits_stood, bits_known, no_others_on, alone_with, sees}
use Rattle.vt_turns.proofs.Lists.{total_set, total_same, at_put_here, at_put_else, there, inside, whole_prefix, longer_prefix, prefix_length, times-append, once_more}

module _ {P B : Type 0} (M : Meaning P B) where
  -- a step of the seat id after which it knows more, and holds and owns what it did
  pub learned : {extra : ℕ} {opening : Opening P B} (s : St M) (r : Rule M extra opening s) (id i : ℕ) (v w : View P B) → get_elem? s.views id ≡ some v → w.share ≡ v.share → w.own ≡ v.own → w.faults ≡ v.faults → w.bits ≡ v.bits → w.turns ≡ v.turns
      → Knows M opening s.homes r.holder r.parts r.history id w
      → Rule M extra opening record { words = set s.words i (get_or s.words i 0); homes = s.homes; views = set s.views id w }
  learned {extra} {opening} s r id i v w at share own faults bits turns mine =
      let words_same = set-get_or s.words i 0 in record {
        parts = r.parts;
        history = r.history;
        holder = r.holder;
        words_are = ap length words_same ∙ r.words_are;
        homes_are = r.homes_are;
        as_many = r.as_many;
        front = ap (λ (l : List ℕ). get_or l 0 0) words_same ∙ r.front;
        log = r.log;
        grown = r.grown;
        apart = r.apart;
        placed = λ k x e. subst (λ (l : List ℕ). Placed (r.holder k) (get_or l (suc k) 0) (get_elem? s.homes k) x) (sym words_same) (r.placed k x e);
        stands = λ j o y eo e. subst (λ (z : ℕ). Stands M opening r.history (durable_of M r.parts) z o y) (sym (total_same (λ (u : View P B). faults_of u j) s.views id v w at (ap (λ (l : List ℕ). get_or l j 0) faults))) (r.stands j o y eo e);
        each = λ j u e. ⊎_elim (λ (t : (j ≡ id) × (w ≡ u)). subst (λ (z : ℕ × View P B). Knows M opening s.homes r.holder r.parts r.history z.0 z.1) (λ q. (sym t.0 q, t.1 q)) mine)
            (λ (t : (j ≢ id) × (get_elem? s.views j ≡ some u)). r.each j u t.1) (at_set s.views id j w u e);
        held = λ k j near e. go k j near e (ℕ_discrete j id);
        shares = total_same (λ (u : View P B). u.share) s.views id v w at share ∙ r.shares;
        numbers = λ q. total_same (λ (u : View P B). times q u.own) s.views id v w at (ap (times q) own) ∙ r.numbers q;
        bits = λ kept i q p b e d. subst (λ (l : List ℕ). HasBit l (length r.parts) p) (sym words_same) (r.bits kept i q p b e d);
        known_bits = λ i q p u e d. subst (λ (l : List ℕ). HasBit l (length r.parts) p) (sym words_same) (bits_known M s r id v w at bits i q p u e d);
        no_other_bits = λ p is. no_others_on M opening s.views id p v w at (λ q e. ap (λ (l : List ℕ). get_elem? l q) bits ∙ e) (r.no_other_bits p (subst (λ (l : List ℕ). HasBit l (length r.parts) p) words_same is));
      }
    where
      go : (k j : ℕ) → k < length r.parts → r.holder k ≡ suc j → Dec (j ≡ id) → (u : View P B) × (x : P) × (get_elem? (set s.views id w) j ≡ some u) × (turn_of u k ≡ Some x)
      go k j near e (yes is) = let old = r.held k j near e in let v_is : old.0 ≡ v = some-injective old.0 v (sym old.2 ∙ (subst (λ (q : ℕ). get_elem? s.views q ≡ some v) (sym is) at)) in
          (w, old.1, subst (λ (q : ℕ). get_elem? (set s.views id w) q ≡ some w) (sym is) (set_here s.views id w (inside s.views id v at)), ap (λ (l : List (Option P)). get_or l k None) turns ∙ ap (λ (u : View P B). turn_of u k) (sym v_is) ∙ old.3)
      go k j near e (no apart) = let old = r.held k j near e in (old.0, old.1, set_else s.views id j w apart ∙ old.2, old.3)

  pub looks : (extra : ℕ) (opening : Opening P B) (slots id : ℕ) (v : View P B) (c : List (ℕ × Option P)) → Allows (Rule M extra opening) slots id (v, c) 0 (λ n. n) (TellsFront M (step slots 0 0 0 none) (v, c))
  unfolding learned
  looks extra opening slots id v c s r wide at _ = (w, keeps, tt, r', (refl, tells))
    where
      w : View P B
      w = record v { seen = r.history; olds = [] }

      old : Knows M opening s.homes r.holder r.parts r.history id v
      old = r.each id v at

      mine : Knows M opening s.homes r.holder r.parts r.history id w
      mine = record {
        seen = whole_prefix r.history;
        whole = λ x has. refl;
        durable = old.durable;
        olds = λ n h e. absurd (some-ne-none h (sym e));
        opening_is = old.opening_is;
        stable = old.stable;
        marks = old.marks;
        stops = old.stops;
        turns = old.turns;
        idle = old.idle;
      }

      r' : Rule M extra opening (stepped s 0 (get_or s.words 0 0) id c w keeps)
      r' = learned s r id 0 v w at refl refl refl refl refl mine

      tells : Loads M v (get_or s.words 0 0) w
      tells = record {
        history = r.history;
        is = refl;
        length_is = sym r.front;
        goes_on = old.seen;
        olds = old.olds;
        sees = sees M (stepped s 0 (get_or s.words 0 0) id c w keeps) r' id w (set_here s.views id w (inside s.views id v at));
      }

mod_small : (n : ℕ) → n < 2 ^ 64 → n % 2 ^ 64 ≡ n
mod_small n small = mod-eq_of_lt small

module _ {P B : Type 0} (M : Meaning P B) (lawful : Lawful M) where
  same_refl : (x : P) → HasNumbersOf M x x
  same_refl x = record { covers = λ b. refl; durable = refl; within = λ l n h. h; mark = refl; stop = refl; count = refl; full = refl }

  log_first : (parts : List P) (j : ℕ) (x y z : P) → 0 < j → get_elem? parts 0 ≡ some x → durable_of M (set (set parts 0 y) j z) ≡ M.durable y
  log_first [] j x y z below e = absurd (some-ne-none x (sym e))
  log_first (p ∷ ps) zero x y z below e = absurd (omega arith)
  log_first (p ∷ ps) (suc j) x y z below e = refl

  front_first : (parts : List P) (j : ℕ) (x y z : P) → 0 < j → get_elem? parts 0 ≡ some x → front_of M (set (set parts 0 y) j z) ≡ M.front y
  front_first [] j x y z below e = absurd (some-ne-none x (sym e))
  front_first (p ∷ ps) zero x y z below e = absurd (omega arith)
  front_first (p ∷ ps) (suc j) x y z below e = refl

  module _ {extra : ℕ} {opening : Opening P B} (s : St M) (r : Rule M extra opening s) (id j : ℕ) (v : View P B) (x y o z : P) (b : B) (at : get_elem? s.views id ≡ some v) (q : MayRaise M v x y j o z b) where
    abbrev parts' : List P
    parts' = set (set r.parts 0 y) j z

    abbrev w : View P B
    w = raising M y j z b v

    abbrev history' : List B
    history' = v.seen ++ b ∷ []

    log_held : Holds s.homes r.holder r.parts id v.away 0 x
    log_held = of_turn M s r id v at 0 x q.has_log

    shard_held : Holds s.homes r.holder r.parts id v.away j o
    shard_held = of_turn M s r id v at j o q.has_shard

    opened : v.opening ≡ opening
    opened = (r.each id v at).opening_is (positive v.share (has_share M s r id v at 0 x q.has_log))

    x_is : v.seen ≡ r.history
    x_is = (r.each id v at).whole x q.has_log

    history_is : history' ≡ r.history ++ b ∷ []
    history_is = ap (λ (l : List B). l ++ b ∷ []) x_is

    longer : (l : List B) → IsPrefix l r.history → IsPrefix l history'
    longer l p = subst (λ h. IsPrefix l h) (sym history_is) (longer_prefix l r.history (b ∷ []) p)

    durable_is : durable_of M parts' ≡ durable_of M r.parts
    durable_is = log_first r.parts j x y z q.shard log_held.1 ∙ q.same_log.durable ∙ sym (is_log M s r x log_held.1)

    long_is : length parts' ≡ length r.parts
    long_is = length-set (set r.parts 0 y) j z ∙ length-set r.parts 0 y

    not_log : 0 ≢ j
    not_log e = let p = q.shard in omega arith

    -- the covering of a part that isn't the block's shard, nor the log
    outside_b : opening.kept ≡ true → (k : ℕ) (u : P) → k ≢ 0 → k ≢ j → get_elem? r.parts k ≡ some u → M.covers u b ≡ false
    outside_b kept k u n m e = let oj = there opening.parts j (let i = inside r.parts j o shard_held.1 in omega (arith, r.as_many)) in let ok = there opening.parts k (let i = inside r.parts k u e in omega (arith, r.as_many)) in
        (r.stands k ok.0 u ok.1 e).covers b ∙ r.apart j k oj.0 ok.0 b q.shard (omega arith) (λ same. m (sym same)) oj.1 ok.1 (sym ((r.stands j oj.0 o oj.1 shard_held.1).covers b) ∙ q.covered (ap (λ (l : Opening P B). l.kept) opened ∙ kept))

    -- what a part was
    Was : ℕ → P → Type 0
    Was k u = (t : P) × (get_elem? r.parts k ≡ some t) × HasNumbersOf M t u × (M.sound opening r.history t → M.sound opening history' u)

    was : (k : ℕ) (u : P) → get_elem? parts' k ≡ some u → Was k u
    unfolding Was
    was k u e = ⊎_elim
        (λ (t : (k ≡ j) × (z ≡ u)). subst (λ (p : ℕ × P). Was p.0 p.1) (λ i. (sym t.0 i, t.1 i)) (o, shard_held.1, q.same_shard, subst (λ (l : Opening P B). M.sound l r.history o → M.sound l history' z) opened (λ sound. q.shard_sound (subst (λ h. M.sound v.opening h o) (sym x_is) sound))))
        (λ (t : (k ≢ j) × (get_elem? (set r.parts 0 y) k ≡ some u)). ⊎_elim
        (λ (t' : (k ≡ 0) × (y ≡ u)). subst (λ (p : ℕ × P). Was p.0 p.1) (λ i. (sym t'.0 i, t'.1 i)) (x, log_held.1, q.same_log, subst (λ (l : Opening P B). M.sound l r.history x → M.sound l history' y) opened (λ sound. q.log_sound (subst (λ h. M.sound v.opening h x) (sym x_is) sound))))
        (λ (t' : (k ≢ 0) × (get_elem? r.parts k ≡ some u)). (u, t'.1, same_refl u, λ sound. subst (λ h. M.sound opening h u) (sym history_is) (lawful.outside opening r.history b u (λ kept. outside_b kept k u t'.0 t.0 t'.1) sound)))
        (at_set r.parts 0 k y u t.1))
        (at_set (set r.parts 0 y) j k z u e)

    -- the parts but the log and the shard are the same
    else_same : (k : ℕ) → k ≢ 0 → k ≢ j → get_elem? parts' k ≡ get_elem? r.parts k
    else_same k n m = set_else (set r.parts 0 y) j k z m ∙ set_else r.parts 0 k y n

    log_there : get_elem? parts' 0 ≡ some y
    log_there = set_else (set r.parts 0 y) j 0 z not_log ∙ set_here r.parts 0 y (inside r.parts 0 x log_held.1)

    shard_there : get_elem? parts' j ≡ some z
    shard_there = set_here (set r.parts 0 y) j z (let i = inside r.parts j o shard_held.1 in omega (arith, length-set r.parts 0 y))

    marks' : (u : View P B) → ((k : ℕ) (t : P) → get_elem? r.parts k ≡ some t → mark_of u k ≤ M.mark t) → (k : ℕ) (t : P) → get_elem? parts' k ≡ some t → mark_of u k ≤ M.mark t
    unfolding Was
    marks' u old k t e = let a = was k t e in let le = old k a.0 a.1 in let is = a.2.mark in omega arith

    stops' : (u : View P B) → ((k n : ℕ) (t : P) → get_elem? r.parts k ≡ some t → stop_of u k ≡ Some n → M.stop t ≡ Some n) → (k n : ℕ) (t : P) → get_elem? parts' k ≡ some t → stop_of u k ≡ Some n → M.stop t ≡ Some n
    unfolding Was
    stops' u old k n t e stop = let a = was k t e in a.2.stop ∙ old k n a.0 a.1 stop

    own_agrees : Knows M opening s.homes r.holder parts' history' id w
    own_agrees = let old = r.each id v at in record {
      seen = whole_prefix history';
      whole = λ u e. refl;
      durable = λ u e. (r.each id v at).durable x q.has_log ∙ sym q.same_log.durable ∙ ap M.durable (Some-same y u (sym (at_put_else None (put_at None v.turns 0 (Some y)) j 0 (Some z) not_log ∙ at_put_here None v.turns 0 (Some y)) ∙ e));
      olds = λ n h e. longer h (old.olds n h e);
      opening_is = old.opening_is;
      stable = let le = old.stable in omega (arith, durable_is);
      marks = marks' v old.marks;
      stops = stops' v old.stops;
      turns = λ k u e. turns_at k u (ℕ_discrete k j) e;
      idle = λ none_left. absurd (has_share M s r id v at 0 x q.has_log none_left);
    }
      where
        turns_at : (k : ℕ) (u : P) → Dec (k ≡ j) → turn_of w k ≡ Some u → Holds s.homes r.holder parts' id v.away k u
        turns_at k u (yes same) e = let z_is : z ≡ u = Some-same z u (sym (at_put_here None (put_at None v.turns 0 (Some y)) j (Some z)) ∙ subst (λ (p : ℕ). turn_of w p ≡ Some u) same e) in
            subst (λ (p : ℕ × P). Holds s.homes r.holder parts' id v.away p.0 p.1) (λ i. (sym same i, z_is i)) (shard_held.0, shard_there, shard_held.2)
        turns_at k u (no m) e = other (sym (at_put_else None (put_at None v.turns 0 (Some y)) j k (Some z) m) ∙ e) (ℕ_discrete k 0)
          where
            other : get_or (put_at None v.turns 0 (Some y)) k None ≡ Some u → Dec (k ≡ 0) → Holds s.homes r.holder parts' id v.away k u
            other e' (yes same) = let y_is : y ≡ u = Some-same y u (sym (at_put_here None v.turns 0 (Some y)) ∙ subst (λ (p : ℕ). get_or (put_at None v.turns 0 (Some y)) p None ≡ Some u) same e') in
                subst (λ (p : ℕ × P). Holds s.homes r.holder parts' id v.away p.0 p.1) (λ i. (sym same i, y_is i)) (log_held.0, log_there, log_held.2)
            other e' (no n) = let t = of_turn M s r id v at k u (sym (at_put_else None v.turns 0 k (Some y) n) ∙ e') in (t.0, else_same k n m ∙ t.1, t.2)

    other_agrees : (i : ℕ) (u : View P B) → i ≢ id → get_elem? s.views i ≡ some u → Knows M opening s.homes r.holder parts' history' i u
    other_agrees i u apart e = let old = r.each i u e in record {
      seen = longer u.seen old.seen;
      durable = λ t has. absurd (alone_with M s r 0 id log_held.0 i u t apart e has);
      whole = λ t has. absurd (alone_with M s r 0 id log_held.0 i u t apart e has);
      olds = λ n h eh. longer h (old.olds n h eh);
      opening_is = old.opening_is;
      stable = let le = old.stable in omega (arith, durable_is);
      marks = marks' u old.marks;
      stops = stops' u old.stops;
      turns = λ k t has. let h = old.turns k t has in (
        h.0,
        else_same k (λ same. alone_with M s r 0 id log_held.0 i u t apart e (subst (λ (p : ℕ). turn_of u p ≡ Some t) same has)) (λ same. alone_with M s r j id shard_held.0 i u t apart e (subst (λ (p : ℕ). turn_of u p ≡ Some t) same has)) ∙ h.1,
        h.2,
      );
      idle = old.idle;
    }

    all_stand : (k : ℕ) (oo t : P) → get_elem? opening.parts k ≡ some oo → get_elem? parts' k ≡ some t → Stands M opening history' (durable_of M parts') (total (λ (u : View P B). faults_of u k) (set s.views id w)) oo t
    unfolding Was
    all_stand k oo t eo e = let a = was k t e in let old = r.stands k oo a.0 eo a.1 in
        subst (λ (p : ℕ × ℕ). Stands M opening history' p.0 p.1 oo t) (λ i. (sym durable_is i, sym (total_same (λ (u : View P B). faults_of u k) s.views id v w at refl) i)) record {
          sound = a.3 old.sound;
          within = a.2.within opening (durable_of M r.parts) old.within;
          covers = λ c. a.2.covers c ∙ old.covers c;
          counted = (let le = old.counted.0 in let is = a.2.count in omega arith, λ full. a.2.count ∙ old.counted.1 (sym a.2.full ∙ full));
        }

    still_held : (k i : ℕ) → k < length r.parts → r.holder k ≡ suc i → (u : View P B) × (t : P) × (get_elem? (set s.views id w) i ≡ some u) × (turn_of u k ≡ Some t)
    still_held k i near e = go (ℕ_discrete i id)
      where
        turned : (t : P) → turn_of v k ≡ Some t → (t' : P) × (turn_of w k ≡ Some t')
        turned t has = by_k (ℕ_discrete k j) (ℕ_discrete k 0)
          where
            by_k : Dec (k ≡ j) → Dec (k ≡ 0) → (t' : P) × (turn_of w k ≡ Some t')
            by_k (yes same) d = (z, subst (λ (p : ℕ). turn_of w p ≡ Some z) (sym same) (at_put_here None (put_at None v.turns 0 (Some y)) j (Some z)))
            by_k (no m) (yes same) = (y, at_put_else None (put_at None v.turns 0 (Some y)) j k (Some z) m ∙ subst (λ (p : ℕ). get_or (put_at None v.turns 0 (Some y)) p None ≡ Some y) (sym same) (at_put_here None v.turns 0 (Some y)))
            by_k (no m) (no n) = (t, at_put_else None (put_at None v.turns 0 (Some y)) j k (Some z) m ∙ at_put_else None v.turns 0 k (Some y) n ∙ has)

        go : Dec (i ≡ id) → (u : View P B) × (t : P) × (get_elem? (set s.views id w) i ≡ some u) × (turn_of u k ≡ Some t)
        go (yes is) = let old = r.held k i near e in let v_is : old.0 ≡ v = some-injective old.0 v (sym old.2 ∙ (subst (λ (p : ℕ). get_elem? s.views p ≡ some v) (sym is) at)) in
            let t = turned old.1 (ap (λ (u : View P B). turn_of u k) (sym v_is) ∙ old.3) in
            (w, t.0, subst (λ (p : ℕ). get_elem? (set s.views id w) p ≡ some w) (sym is) (set_here s.views id w (inside s.views id v at)), t.1)
        go (no apart) = let old = r.held k i near e in (old.0, old.1, set_else s.views id i w apart ∙ old.2, old.3)

    numbers' : (n : ℕ) → total (λ (u : View P B). times n u.own) (set s.views id w) ≡ once (length opening.history) (length history') n
    numbers' n = let t = total_set (λ (u : View P B). times n u.own) s.views id v w at in let more = times-append n v.own (length v.seen ∷ []) in
        let is : length v.seen ≡ length r.history = ap length x_is in
        let one : once (length opening.history) (length r.history + 1) n ≡ once (length opening.history) (length r.history) n + times n (length r.history ∷ []) = once_more (length opening.history) (length r.history) n (prefix_length opening.history r.history r.grown) in
        let last : times n (length v.seen ∷ []) ≡ times n (length r.history ∷ []) = ap (λ (k : ℕ). times n (k ∷ [])) is in
        let was_n = r.numbers n in
        let grown_by : length history' ≡ length r.history + 1 = ap length history_is ∙ length-append r.history (b ∷ []) in
        let sum : total (λ (u : View P B). times n u.own) (set s.views id w) ≡ once (length opening.history) (length r.history + 1) n = omega arith in
        sum ∙ ap (λ (k : ℕ). once (length opening.history) k n) (sym grown_by)

    pub kept_raised : (m : ℕ) → m ≡ length history' → Rule M extra opening record { words = set s.words 0 m; homes = s.homes; views = set s.views id w }
    unfolding Was
    kept_raised m m_is = record {
      parts = parts';
      history = history';
      holder = r.holder;
      words_are = omega (arith, length-set s.words 0 m, r.words_are, long_is);
      homes_are = r.homes_are ∙ sym long_is;
      as_many = long_is ∙ r.as_many;
      front = get_or-set_same s.words 0 m 0 (omega (arith, r.words_are)) ∙ m_is;
      log = front_first r.parts j x y z q.shard log_held.1 ∙ q.front ∙ ap (λ (n : ℕ). n + 1) (is_front M s r x log_held.1 ∙ sym (ap length x_is)) ∙ sym (length-append v.seen (b ∷ []));
      grown = longer opening.history r.grown;
      apart = r.apart;
      placed = λ k t e. subst (λ (p : ℕ). Placed (r.holder k) p (get_elem? s.homes k) t) (sym (get_or-set_other s.words 0 (suc k) m 0 (λ h. omega arith))) (placed_at k t e (ℕ_discrete k j) (ℕ_discrete k 0));
      stands = all_stand;
      each = λ i u e. ⊎_elim (λ (t : (i ≡ id) × (w ≡ u)). subst (λ (p : ℕ × View P B). Knows M opening s.homes r.holder parts' history' p.0 p.1) (λ i'. (sym t.0 i', t.1 i')) own_agrees)
          (λ (t : (i ≢ id) × (get_elem? s.views i ≡ some u)). other_agrees i u t.0 t.1) (at_set s.views id i w u e);
      held = λ k i near. still_held k i (subst (λ (p : ℕ). k < p) long_is near);
      shares = total_same (λ (u : View P B). u.share) s.views id v w at refl ∙ r.shares;
      numbers = numbers';
      bits = raised_lit;
      known_bits = λ i k p u e d. moved_lit p (bits_known M s r id v w at refl i k p u e d);
      no_other_bits = λ p is. no_others_on M opening s.views id p v w at (λ q e. e) (r.no_other_bits p (bits_stood M s.words 0 m (length r.parts) p (omega arith) (subst (λ (z : ℕ). HasBit (set s.words 0 m) z p) long_is is)));
    }
      where
        moved_lit : (p : ℕ) → HasBit s.words (length r.parts) p → HasBit (set s.words 0 m) (length parts') p
        moved_lit p is = subst (λ (z : ℕ). HasBit (set s.words 0 m) z p) (sym long_is) (bits_stay M s.words 0 m (length r.parts) p (omega arith) is)

        raised_lit : opening.kept ≡ true → (i k p : ℕ) (c : B) → get_elem? history' i ≡ some c → get_elem? (M.places c) k ≡ some p → HasBit (set s.words 0 m) (length parts') p
        raised_lit kept i k p c e d = moved_lit p (⊎_elim (λ old. r.bits kept i k p c old d)
            (λ (is : b ≡ c). let known = q.bits_set (ap (λ (l : Opening P B). l.kept) opened ∙ kept) k p (ap (λ (z : B). get_elem? (M.places z) k) is ∙ d) in r.known_bits id known.0 p v at known.1)
            (at_snoc r.history b c i (subst (λ (h : List B). get_elem? h i ≡ some c) history_is e)))

        taken : (k i : ℕ) (t t' : P) → get_elem? r.parts k ≡ some t' → r.holder k ≡ suc i → Placed (r.holder k) (get_or s.words (suc k) 0) (get_elem? s.homes k) t
        taken k i t t' e is = ((λ free. absurd (omega arith)), (r.placed k t' e).1)

        placed_at : (k : ℕ) (t : P) → get_elem? parts' k ≡ some t → Dec (k ≡ j) → Dec (k ≡ 0) → Placed (r.holder k) (get_or s.words (suc k) 0) (get_elem? s.homes k) t
        placed_at k t e (yes same) d = taken k id t o (subst (λ (p : ℕ). get_elem? r.parts p ≡ some o) (sym same) shard_held.1) (ap r.holder same ∙ shard_held.0)
        placed_at k t e (no n) (yes same) = taken k id t x (subst (λ (p : ℕ). get_elem? r.parts p ≡ some x) (sym same) log_held.1) (ap r.holder same ∙ log_held.0)
        placed_at k t e (no n) (no m) = r.placed k t (sym (else_same k m n) ∙ e)

  -- the front rises by one
  pub raises : (extra : ℕ) (opening : Opening P B) (slots id : ℕ) (v : View P B) (c : List (ℕ × Option P)) (x y : P) (j : ℕ) (o z : P) (b : B) → MayRaise M v x y j o z b → length v.seen + 1 < 2 ^ 64
      → Allows (Rule M extra opening) slots id (v, c) 0 (λ n. (n + 1) % 2 ^ 64) (TellsRaised M (Some (y, j, z, b)) (step slots 0 1 0 none) (v, c))
  unfolding x_is history_is
  raises extra opening slots id v c x y j o z b q room s r wide at _ = (
    raising M y j z b v,
    keeps,
    tt,
    kept_raised s r id j v x y o z b at q ((get_or s.words 0 0 + 1) % 2 ^ 64) is,
    (λ y' j' z' b' said. let e : (y, j, z, b) ≡ (y', j', z', b') = Some-same (y, j, z, b) (y', j', z', b') said in λ i. (raising M (e i).0 (e i).1 (e i).2 (e i).3 v, c)),
  )
    where
      n_is : get_or s.words 0 0 + 1 ≡ length v.seen + 1
      n_is = ap (λ (k : ℕ). k + 1) (r.front ∙ sym (ap length ((r.each id v at).whole x q.has_log)))

      is : (get_or s.words 0 0 + 1) % 2 ^ 64 ≡ length (v.seen ++ b ∷ [])
      is = mod_small (get_or s.words 0 0 + 1) (omega (arith, n_is)) ∙ n_is ∙ sym (length-append v.seen (b ∷ []))
