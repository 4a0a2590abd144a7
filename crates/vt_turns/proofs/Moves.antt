-- Each step on a part's word keeps the rule.
use Rattle.std.proofs.Common.{◌≡◌, ◌≢◌, ◌⊎◌, inl, inr, ℕ, zero, suc, ◌<◌, ◌≤◌, eqb, eq-eqb, ne_eqb, List, [], ◌∷◌, length, get_or, set, sym, refl, ap, ◌∙◌, subst, ⊎_elim, arith, length-set, get_or-set_same, get_or-set_other}
use Rattle.std.specs.Int.{bit_at}
use Rattle.std.specs.Prelude.{◌+◌, ◌/◌, ◌%◌, Option, Some, None}
use mathlib.Core.Option.{none, some, some-injective, some-ne-none}
use mathlib.Core.Option as maybe
use mathlib.Core.List.{IsPrefix}
use native.Mathlib.Decide.{ℕ_discrete}
use prog.Atomic.{either}
use lib.ListN.{get_elem?}
use lib.Seq.{set-get_or}
use Rattle.atomic_table.specs.Table.{State, Me, Act, keeps, takes, gives, step, stepped, Allows, Valid, carried_after}
use Rattle.atomic_table.proofs.Lists.{at_set, set_here, set_else, set_again}
use Rattle.vt_turns.specs.declared.view.View.{View}
use Rattle.vt_turns.specs.declared.view.Opening.{Opening}
use Rattle.vt_turns.specs.Meaning.{Meaning}
use Rattle.vt_turns.specs.Lists.{times, once}
use Rattle.vt_turns.specs.Views.{mark_of, holding, turn_of, faults_of, front_of, durable_of, seen_at, stable_at, taking, without}
use Rattle.vt_turns.specs.Rule.{Placed, Holds, HasBit, WasSet, IsKnown, Knows, Stands, Rule}
use Rattle.vt_turns.specs.Calls.{Takes}
use Rattle.vt_turns.specs.Steps.{Sees, TookAt, TellsTaken, TellsSlotHome, TellsSlotOut, TellsGiven}
use Rattle.vt_turns.proofs.Lists.{put, put_here, put_else, total_same, total_parts, total_alone, at_put_here, at_put_else, there, inside, whole_prefix}

pub Some-same : {A : Type 0} (x y : A) → Some x ≡ Some y → x ≡ y
Some-same x y e = cc

pub Some-None : {A : Type 0} (x : A) → Some x ≡ None → ⊥
Some-None x e = cc

pub some-Some : {A : Type 0} (x y : A) → some (Some x) ≡ some (Some y) → x ≡ y
some-Some x y e = cc

pub positive : (n : ℕ) → n ≢ 0 → 0 < n
positive zero ne = absurd (ne refl)
positive (suc n) ne = omega arith

module _ {P B : Type 0} (M : Meaning P B) where
  abbrev pub St : Type 0
  St = State (Option P) (View P B)

  abbrev pub Homes : Type 0
  Homes = List (maybe.Option (Option P))

  abbrev pub MePB : Type 0
  MePB = Me (Option P) (View P B)

  -- what is known of a part that a view has
  pub of_turn : {extra : ℕ} {opening : Opening P B} (s : St) (r : Rule M extra opening s) (id : ℕ) (v : View P B) → get_elem? s.views id ≡ some v → (k : ℕ) (x : P) → turn_of v k ≡ Some x → Holds s.homes r.holder r.parts id v.away k x
  of_turn s r id v at k x has = (r.each id v at).turns k x has

  -- a pass that holds a part has a share
  pub has_share : {extra : ℕ} {opening : Opening P B} (s : St) (r : Rule M extra opening s) (id : ℕ) (v : View P B) → get_elem? s.views id ≡ some v → (k : ℕ) (x : P) → turn_of v k ≡ Some x → v.share ≢ 0
  has_share s r id v at k x has none_left = Some-None x (sym has ∙ ((r.each id v at).idle none_left).1 k)

  log_at : (parts : List P) (x : P) → get_elem? parts 0 ≡ some x → durable_of M parts ≡ M.durable x
  log_at [] x e = absurd (some-ne-none x (sym e))
  log_at (y ∷ ys) x e = let same : y ≡ x = some-injective y x e in ap M.durable same

  pub is_log : {extra : ℕ} {opening : Opening P B} (s : St) (r : Rule M extra opening s) (x : P) → get_elem? r.parts 0 ≡ some x → durable_of M r.parts ≡ M.durable x
  is_log s r x is = log_at r.parts x is

  front_at : (parts : List P) (x : P) → get_elem? parts 0 ≡ some x → front_of M parts ≡ M.front x
  front_at [] x e = absurd (some-ne-none x (sym e))
  front_at (y ∷ ys) x e = ap M.front (some-injective y x e)

  pub is_front : {extra : ℕ} {opening : Opening P B} (s : St) (r : Rule M extra opening s) (x : P) → get_elem? r.parts 0 ≡ some x → M.front x ≡ length r.history
  is_front s r x is = sym (front_at r.parts x is) ∙ r.log

  -- beside a view with all shares no other has one
  pub no_share_left : {extra : ℕ} {opening : Opening P B} (s : St) (r : Rule M extra opening s) (id : ℕ) (v : View P B) → get_elem? s.views id ≡ some v → v.share ≡ 65536 → (j : ℕ) (u : View P B) → j ≢ id → get_elem? s.views j ≡ some u → u.share ≡ 0
  no_share_left s r id v at all j u ne e = let both = total_parts (λ (x : View P B). x.share) s.views id j v u (λ h. ne (sym h)) at e in let sum = r.shares in omega arith

  -- what a view sees
  pub sees : {extra : ℕ} {opening : Opening P B} (s : St) (r : Rule M extra opening s) (id : ℕ) (v : View P B) → get_elem? s.views id ≡ some v → Sees M r.history v
  sees {extra} {opening} s r id v at = let mine = r.each id v at in let opened : (k : ℕ) (x : P) → turn_of v k ≡ Some x → v.opening ≡ opening = λ k x has. mine.opening_is (let some_share = has_share s r id v at k x has in positive v.share some_share) in record {
    seen = mine.seen;
    begins = λ some_share. subst (λ (o : Opening P B). IsPrefix o.history r.history) (sym (mine.opening_is some_share)) r.grown;
    sounds = λ k x has. let h = mine.turns k x has in let near = inside r.parts k x h.1 in let o = there opening.parts k (omega (arith, r.as_many)) in subst (λ (l : Opening P B). M.sound l r.history x) (sym (opened k x has)) (r.stands k o.0 x o.1 h.1).sound;
    covers = λ some_share k o x is has. (r.stands k o x (subst (λ (l : Opening P B). get_elem? l.parts k ≡ some o) (mine.opening_is some_share) is) (mine.turns k x has).1).covers;
    log = mine.whole;
    front = λ x has. is_front s r x (mine.turns 0 x has).1;
    durable = durable_of M r.parts;
    stable = mine.stable;
    durable_is = λ x has. sym (is_log s r x (mine.turns 0 x has).1);
    withins = λ k x has. let h = mine.turns k x has in let near = inside r.parts k x h.1 in let o = there opening.parts k (omega (arith, r.as_many)) in subst (λ (l : Opening P B). M.within l (durable_of M r.parts) x) (sym (opened k x has)) (r.stands k o.0 x o.1 h.1).within;
    sole = λ all n. sym (total_alone (λ (u : View P B). times n u.own) s.views id v at (λ j u ne e. ap (times n) ((r.each j u e).idle (no_share_left s r id v at all j u ne e)).0))
        ∙ r.numbers n ∙ ap (λ (o : Opening P B). once (length o.history) (length r.history) n) (sym (mine.opening_is (omega arith)));
  }

  -- where the word is 0 nobody has the part, and it is in its slot
  free_at : {extra : ℕ} {opening : Opening P B} (s : St) (r : Rule M extra opening s) (k : ℕ) (x : P) → get_elem? r.parts k ≡ some x → get_or s.words (suc k) 0 ≡ 0 → (r.holder k ≡ 0) × (get_elem? s.homes k ≡ some (some (Some x)))
  free_at s r k x is zero_word = go (ℕ_discrete (r.holder k) 0)
    where
      p : Placed (r.holder k) (get_or s.words (suc k) 0) (get_elem? s.homes k) x
      p = r.placed k x is

      go : Dec (r.holder k ≡ 0) → (r.holder k ≡ 0) × (get_elem? s.homes k ≡ some (some (Some x)))
      go (yes e) = (e, (p.0 e).1)
      go (no n) = absurd (let above : 0 < get_or s.words (suc k) 0 = p.1 (omega arith) in omega arith)

  -- no view has a part that nobody holds
  nobody : {extra : ℕ} {opening : Opening P B} (s : St) (r : Rule M extra opening s) (k : ℕ) → r.holder k ≡ 0 → (i : ℕ) (u : View P B) (y : P) → get_elem? s.views i ≡ some u → turn_of u k ≡ Some y → ⊥
  nobody s r k free i u y e has = let h = (of_turn s r i u e k y has).0 in omega arith

  -- only the seat id has it
  pub alone_with : {extra : ℕ} {opening : Opening P B} (s : St) (r : Rule M extra opening s) (k id : ℕ) → r.holder k ≡ suc id → (i : ℕ) (u : View P B) (y : P) → i ≢ id → get_elem? s.views i ≡ some u → turn_of u k ≡ Some y → ⊥
  alone_with s r k id mine i u y apart e has = let h = (of_turn s r i u e k y has).0 in apart (omega arith)

  -- a word before the bits changes
  pub bits_stay : (words : List ℕ) (i x n p : ℕ) → i < suc n → HasBit words n p → HasBit (set words i x) n p
  bits_stay words i x n p below is = ap (λ (z : ℕ). bit_at z (p % 64)) (get_or-set_other words i (suc n + p / 64) x 0 (λ e. omega arith)) ∙ is

  -- a view that knows the same bits
  pub bits_known : {extra : ℕ} {opening : Opening P B} (s : St) (r : Rule M extra opening s) (id : ℕ) (v w : View P B) → get_elem? s.views id ≡ some v → w.bits ≡ v.bits → (i q p : ℕ) (u : View P B) → get_elem? (set s.views id w) i ≡ some u → get_elem? u.bits q ≡ some p
      → HasBit s.words (length r.parts) p
  bits_known s r id v w at same i q p u e d = ⊎_elim
      (λ (t : (i ≡ id) × (w ≡ u)). r.known_bits id q p v at (ap (λ (l : List ℕ). get_elem? l q) (sym same ∙ ap (λ (z : View P B). z.bits) t.1) ∙ d))
      (λ (t : (i ≢ id) × (get_elem? s.views i ≡ some u)). r.known_bits i q p u t.1 d) (at_set s.views id i w u e)

  -- the same the other way round
  pub bits_stood : (words : List ℕ) (i x n p : ℕ) → i < suc n → HasBit (set words i x) n p → HasBit words n p
  bits_stood words i x n p below is = sym (ap (λ (z : ℕ). bit_at z (p % 64)) (get_or-set_other words i (suc n + p / 64) x 0 (λ e. omega arith))) ∙ is

  -- a seat's view that knows no less of the bits
  pub known_on : (views : List (View P B)) (id p : ℕ) (v w : View P B) → get_elem? views id ≡ some v → ((k : ℕ) → get_elem? v.bits k ≡ some p → get_elem? w.bits k ≡ some p) → IsKnown views p → IsKnown (set views id w) p
  known_on views id p v w at more t = go (ℕ_discrete t.0 id)
    where
      go : Dec (t.0 ≡ id) → IsKnown (set views id w) p
      go (yes is) = let v_is : t.2 ≡ v = some-injective t.2 v (sym t.3 ∙ subst (λ (q : ℕ). get_elem? views q ≡ some v) (sym is) at) in
          (id, t.1, w, set_here views id w (inside views id v at), more t.1 (ap (λ (u : View P B). get_elem? u.bits t.1) (sym v_is) ∙ t.4))
      go (no apart) = (t.0, t.1, t.2, set_else views id t.0 w apart ∙ t.3, t.4)

  pub no_others_on : (opening : Opening P B) (views : List (View P B)) (id p : ℕ) (v w : View P B) → get_elem? views id ≡ some v → ((k : ℕ) → get_elem? v.bits k ≡ some p → get_elem? w.bits k ≡ some p) → WasSet opening p ⊎ IsKnown views p → WasSet opening p ⊎ IsKnown (set views id w) p
  no_others_on opening views id p v w at more = ⊎_elim (λ was. inl was) (λ t. inr (known_on views id p v w at more t))

  -- a step that changes nothing
  pub unchanged : {extra : ℕ} {opening : Opening P B} (s : St) (r : Rule M extra opening s) (id i : ℕ) (v : View P B) → get_elem? s.views id ≡ some v
      → Rule M extra opening record { words = set s.words i (get_or s.words i 0); homes = s.homes; views = set s.views id v }
  unchanged {extra} {opening} s r id i v at = subst (λ (z : List ℕ × List (View P B)). Rule M extra opening record { words = z.0; homes = s.homes; views = z.1 }) (λ q. (sym (set-get_or s.words i 0) q, sym (set_again s.views id v at) q)) r

  -- A part moves between its slot and the seat id, or its slot moves
  pub record Moves {extra : ℕ} {opening : Opening P B} {s : St} (r : Rule M extra opening s) (id k n hv : ℕ) (v w : View P B) (homes' : Homes) (x : P) : Type 0 where
    pub at : get_elem? s.views id ≡ some v
    pub is : get_elem? r.parts k ≡ some x
    pub long : length homes' ≡ length s.homes
    pub same : (j : ℕ) → j ≢ k → get_elem? homes' j ≡ get_elem? s.homes j
    pub placed : Placed hv n (get_elem? homes' k) x
    pub alone : (i : ℕ) (u : View P B) (y : P) → i ≢ id → get_elem? s.views i ≡ some u → turn_of u k ≡ Some y → ⊥
    pub share : w.share ≡ v.share
    pub own : w.own ≡ v.own
    pub faults : w.faults ≡ v.faults
    pub bits : w.bits ≡ v.bits
    pub turns_else : (j : ℕ) → j ≢ k → turn_of w j ≡ turn_of v j
    pub holds_it : (i : ℕ) → hv ≡ suc i → (i ≡ id) × (turn_of w k ≡ Some x)
    pub mine : Knows M opening homes' (put r.holder k hv) r.parts r.history id w

  moves_held : {extra : ℕ} {opening : Opening P B} {s : St} (r : Rule M extra opening s) (id k n hv : ℕ) (v w : View P B) (homes' : Homes) (x : P) → Moves r id k n hv v w homes' x
      → (j i : ℕ) → j < length r.parts → put r.holder k hv j ≡ suc i → (u : View P B) × (y : P) × (get_elem? (set s.views id w) i ≡ some u) × (turn_of u j ≡ Some y)
  moves_held {extra} {opening} {s} r id k n hv v w homes' x m j i near e = go (ℕ_discrete j k)
    where
      Goal : Type 0
      Goal = (u : View P B) × (y : P) × (get_elem? (set s.views id w) i ≡ some u) × (turn_of u j ≡ Some y)

      other : j ≢ k → r.holder j ≡ suc i → Dec (i ≡ id) → Goal
      other ne held (yes is) = let old = r.held j i near held in let v_is : old.0 ≡ v = some-injective old.0 v (sym old.2 ∙ (subst (λ (z : ℕ). get_elem? s.views z ≡ some v) (sym is) m.at)) in
          (w, old.1, subst (λ (z : ℕ). get_elem? (set s.views id w) z ≡ some w) (sym is) (set_here s.views id w (inside s.views id v m.at)), m.turns_else j ne ∙ ap (λ (u : View P B). turn_of u j) (sym v_is) ∙ old.3)
      other ne held (no apart) = let old = r.held j i near held in (old.0, old.1, set_else s.views id i w apart ∙ old.2, old.3)

      go : Dec (j ≡ k) → Goal
      go (yes same) = let h = m.holds_it i (sym (put_here r.holder k hv) ∙ ap (put r.holder k hv) (sym same) ∙ e) in
          (w, x, subst (λ (z : ℕ). get_elem? (set s.views id w) z ≡ some w) (sym h.0) (set_here s.views id w (inside s.views id v m.at)), subst (λ (z : ℕ). turn_of w z ≡ Some x) (sym same) h.1)
      go (no ne) = other ne (sym (put_else r.holder k hv j ne) ∙ e) (ℕ_discrete i id)

  moves_other : {extra : ℕ} {opening : Opening P B} {s : St} (r : Rule M extra opening s) (k hv : ℕ) (homes' : Homes) → ((j : ℕ) → j ≢ k → get_elem? homes' j ≡ get_elem? s.homes j)
      → (i : ℕ) (u : View P B) → ((y : P) → turn_of u k ≡ Some y → ⊥) → Knows M opening s.homes r.holder r.parts r.history i u → Knows M opening homes' (put r.holder k hv) r.parts r.history i u
  moves_other r k hv homes' same i u none_here old = record {
    seen = old.seen;
    whole = old.whole;
    durable = old.durable;
    olds = old.olds;
    opening_is = old.opening_is;
    stable = old.stable;
    marks = old.marks;
    stops = old.stops;
    turns = λ j y e. let n : j ≢ k = λ is. none_here y (subst (λ (z : ℕ). turn_of u z ≡ Some y) is e) in let h = old.turns j y e in (put_else r.holder k hv j n ∙ h.0, h.1, λ away. same j n ∙ h.2 away);
    idle = old.idle;
  }

  pub moved : {extra : ℕ} {opening : Opening P B} {s : St} (r : Rule M extra opening s) (id k n hv : ℕ) (v w : View P B) (homes' : Homes) (x : P) → Moves r id k n hv v w homes' x
      → Rule M extra opening record { words = set s.words (suc k) n; homes = homes'; views = set s.views id w }
  moved {extra} {opening} {s} r id k n hv v w homes' x m =
      let near = inside r.parts k x m.is in
      let word_there : suc k < length s.words = omega (arith, r.words_are) in record {
        parts = r.parts;
        history = r.history;
        holder = put r.holder k hv;
        words_are = length-set s.words (suc k) n ∙ r.words_are;
        homes_are = m.long ∙ r.homes_are;
        as_many = r.as_many;
        front = get_or-set_other s.words (suc k) 0 n 0 (omega arith) ∙ r.front;
        log = r.log;
        grown = r.grown;
        apart = r.apart;
        placed = λ j y e. at_k j y (ℕ_discrete j k) e word_there;
        stands = λ j o y eo e. subst (λ (z : ℕ). Stands M opening r.history (durable_of M r.parts) z o y) (sym (total_same (λ (u : View P B). faults_of u j) s.views id v w m.at (ap (λ (l : List ℕ). get_or l j 0) m.faults))) (r.stands j o y eo e);
        each = λ i u e. ⊎_elim (λ (t : (i ≡ id) × (w ≡ u)). subst (λ (z : ℕ × View P B). Knows M opening homes' (put r.holder k hv) r.parts r.history z.0 z.1) (λ q. (sym t.0 q, t.1 q)) m.mine)
            (λ (t : (i ≢ id) × (get_elem? s.views i ≡ some u)). moves_other r k hv homes' m.same i u (λ y. m.alone i u y t.0 t.1) (r.each i u t.1)) (at_set s.views id i w u e);
        held = moves_held r id k n hv v w homes' x m;
        shares = total_same (λ (u : View P B). u.share) s.views id v w m.at m.share ∙ r.shares;
        numbers = λ q. total_same (λ (u : View P B). times q u.own) s.views id v w m.at (ap (times q) m.own) ∙ r.numbers q;
        bits = λ kept i q p b e d. bits_stay s.words (suc k) n (length r.parts) p (omega arith) (r.bits kept i q p b e d);
        known_bits = λ i q p u e d. bits_stay s.words (suc k) n (length r.parts) p (omega arith) (bits_known s r id v w m.at m.bits i q p u e d);
        no_other_bits = λ p is. no_others_on opening s.views id p v w m.at (λ q e. ap (λ (l : List ℕ). get_elem? l q) m.bits ∙ e) (r.no_other_bits p (bits_stood s.words (suc k) n (length r.parts) p (omega arith) is));
      }
    where
      at_k : (j : ℕ) (y : P) → Dec (j ≡ k) → get_elem? r.parts j ≡ some y → suc k < length s.words → Placed (put r.holder k hv j) (get_or (set s.words (suc k) n) (suc j) 0) (get_elem? homes' j) y
      at_k j y (yes is) e far = let x_is : x ≡ y = some-injective x y (sym m.is ∙ subst (λ (z : ℕ). get_elem? r.parts z ≡ some y) is e) in
          subst (λ (z : ℕ × P). Placed (put r.holder k hv z.0) (get_or (set s.words (suc k) n) (suc z.0) 0) (get_elem? homes' z.0) z.1) (λ q. (sym is q, x_is q))
          (subst (λ (q : ℕ × ℕ). Placed q.0 q.1 (get_elem? homes' k) x) (λ i. (sym (put_here r.holder k hv) i, sym (get_or-set_same s.words (suc k) n 0 far) i)) m.placed)
      at_k j y (no ne) e far = subst (λ (q : ℕ × ℕ × maybe.Option (maybe.Option (Option P))). Placed q.0 q.1 q.2 y)
          (λ i. (sym (put_else r.holder k hv j ne) i, sym (get_or-set_other s.words (suc k) (suc j) n 0 (λ h. ne (omega arith))) i, sym (m.same j ne) i)) (r.placed j y e)

  pub moved_history : {extra : ℕ} {opening : Opening P B} {s : St} (r : Rule M extra opening s) (id k n hv : ℕ) (v w : View P B) (homes' : Homes) (x : P) (m : Moves r id k n hv v w homes' x) → (moved r id k n hv v w homes' x m).history ≡ r.history
  unfolding moved
  moved_history r id k n hv v w homes' x m = refl

  -- the part k is claimed
  seen_prefix : (h : List B) (k : ℕ) (v : View P B) → IsPrefix v.seen h → IsPrefix (seen_at M k h v.seen) h
  seen_prefix h zero v pre = whole_prefix h
  seen_prefix h (suc k) v pre = pre

  stable_below : {extra : ℕ} {opening : Opening P B} (s : St) (r : Rule M extra opening s) (k : ℕ) (x : P) (v : View P B) → get_elem? r.parts k ≡ some x → v.stable ≤ durable_of M r.parts → stable_at M k x v.stable ≤ durable_of M r.parts
  stable_below s r zero x v is le = let d = is_log s r x is in omega arith
  stable_below s r (suc k) x v is le = le

  claimed : {extra : ℕ} {opening : Opening P B} (s : St) (r : Rule M extra opening s) (id k : ℕ) (v : View P B) → get_elem? s.views id ≡ some v → 0 < v.share → v.away ≡ 0 → (x : P) → get_elem? r.parts k ≡ some x → get_or s.words (suc k) 0 ≡ 0
      → Moves r id k 1 (suc id) v (taking M k r.history x v) (set s.homes k none) x
  claimed {extra} {opening} s r id k v at some_share idle x is zero_word =
      let free = free_at s r k x is zero_word in
      let old = r.each id v at in record {
        at = at;
        is = is;
        long = length-set s.homes k none;
        same = λ j n. set_else s.homes k j none n;
        placed = ((λ e. absurd (omega arith)), (λ _. omega arith));
        alone = λ i u y _ e has. nobody s r k free.0 i u y e has;
        share = refl;
        own = refl;
        faults = refl;
        bits = refl;
        turns_else = λ j n. at_put_else None v.turns k j (Some x) n;
        holds_it = λ i e. (omega arith, at_put_here None v.turns k (Some x));
        mine = record {
          seen = seen_prefix r.history k v old.seen;
          whole = whole_at k;
          durable = durable_at k;
          olds = old.olds;
          opening_is = old.opening_is;
          stable = stable_below s r k x v is old.stable;
          marks = old.marks;
          stops = old.stops;
          turns = λ j y e. turns_at j y (ℕ_discrete j k) e;
          idle = λ none_left. absurd (omega arith);
        };
      }
    where
      whole_at : (q : ℕ) (y : P) → turn_of (taking M q r.history x v) 0 ≡ Some y → seen_at M q r.history v.seen ≡ r.history
      whole_at zero y e = refl
      whole_at (suc q) y e = (r.each id v at).whole y (sym (at_put_else None v.turns (suc q) 0 (Some x) (λ h. omega arith)) ∙ e)

      durable_at : (q : ℕ) (y : P) → turn_of (taking M q r.history x v) 0 ≡ Some y → stable_at M q x v.stable ≡ M.durable y
      durable_at zero y e = ap M.durable (Some-same x y (sym (at_put_here None v.turns zero (Some x)) ∙ e))
      durable_at (suc q) y e = (r.each id v at).durable y (sym (at_put_else None v.turns (suc q) 0 (Some x) (λ h. omega arith)) ∙ e)

      turns_at : (j : ℕ) (y : P) → Dec (j ≡ k) → turn_of (taking M k r.history x v) j ≡ Some y → Holds (set s.homes k none) (put r.holder k (suc id)) r.parts id (suc k) j y
      turns_at j y (yes same) e = let x_is : x ≡ y = Some-same x y (sym (at_put_here None v.turns k (Some x)) ∙ subst (λ (z : ℕ). turn_of (taking M k r.history x v) z ≡ Some y) same e) in
          subst (λ (z : ℕ × P). Holds (set s.homes k none) (put r.holder k (suc id)) r.parts id (suc k) z.0 z.1) (λ q. (sym same q, x_is q)) (put_here r.holder k (suc id), is, λ off. absurd (off refl))
      turns_at j y (no n) e = let h = of_turn s r id v at j y (sym (at_put_else None v.turns k j (Some x) n) ∙ e) in (put_else r.holder k (suc id) j n ∙ h.0, h.1, λ _. set_else s.homes k j none n ∙ h.2 (λ off. absurd (omega arith)))

  pub claims : (extra : ℕ) (opening : Opening P B) (slots id k : ℕ) (v : View P B) (c : List (ℕ × Option P)) → k < slots → 0 < v.share → v.away ≡ 0
      → Allows (Rule M extra opening) slots id (v, c) (suc k) (λ n. either (eqb n 0) 1 n) (TellsTaken M (step slots (suc k) 0 1 none) (v, c))
  claims extra opening slots id k v c near some_share idle s r wide at _ = go (ℕ_discrete (get_or s.words (suc k) 0) 0)
    where
      n : ℕ
      n = get_or s.words (suc k) 0

      Goal : Type 0
      Goal = (w : View P B) × (a : Act (Option P)) × Valid s.homes c a × Rule M extra opening (stepped s (suc k) (either (eqb n 0) 1 n) id c w a) × TellsTaken M (step slots (suc k) 0 1 none) (v, c) n (w, carried_after c a)

      tells : (x : P) → get_elem? r.parts k ≡ some x → (e : n ≡ 0) → TookAt M k r.history v x (taking M k r.history x v)
      tells x is e = let m = claimed s r id k v at some_share idle x is e in let r' = moved r id k 1 (suc id) v (taking M k r.history x v) (set s.homes k none) x m in let old = r.each id v at in record {
        goes_on = old.seen;
        sees = subst (λ h. Sees M h (taking M k r.history x v)) (moved_history r id k 1 (suc id) v (taking M k r.history x v) (set s.homes k none) x m)
            (sees record { words = set s.words (suc k) 1; homes = set s.homes k none; views = set s.views id (taking M k r.history x v) } r' id (taking M k r.history x v) (set_here s.views id (taking M k r.history x v) (inside s.views id v at)));
        marks = old.marks k x is;
        stops = λ q stop. old.stops k q x is stop;
        stable = λ zero_k. let l = is_log s r x (subst (λ (z : ℕ). get_elem? r.parts z ≡ some x) zero_k is) in let below = old.stable in omega arith;
      }

      go : Dec (n ≡ 0) → Goal
      go (yes e) = let part = there r.parts k (omega (arith, r.homes_are)) in let x = part.0 in let w = taking M k r.history x v in (
        w,
        takes k (Some x),
        (free_at s r k x part.1 e).1,
        subst (λ b. Rule M extra opening (stepped s (suc k) (either b 1 n) id c w (takes k (Some x)))) (sym (eq-eqb n 0 e)) (moved r id k 1 (suc id) v w (set s.homes k none) x (claimed s r id k v at some_share idle x part.1 e)),
        ((λ _. (k, refl, (x, r.history, refl, refl, tells x part.1 e))), (λ ne. absurd (ne e))),
      )
      go (no ne) = (
        v,
        keeps,
        tt,
        subst (λ b. Rule M extra opening (stepped s (suc k) (either b 1 n) id c v keeps)) (sym (ne_eqb n 0 ne)) (unchanged s r id (suc k) v at),
        ((λ e. absurd (ne e)), (λ _. refl)),
      )

  -- a slot moves while its part stays with the pass
  slides : {extra : ℕ} {opening : Opening P B} (s : St) (r : Rule M extra opening s) (id k a : ℕ) (v : View P B) (h : maybe.Option (Option P)) (x : P) → get_elem? s.views id ≡ some v → turn_of v k ≡ Some x
      → (a ≢ suc k → h ≡ some None) → ((j : ℕ) → j ≢ k → a ≢ suc j → v.away ≢ suc j)
      → Moves r id k 1 (suc id) v (record v { away = a }) (set s.homes k h) x
  slides {extra} {opening} s r id k a v h x at has home away_else = let held = of_turn s r id v at k x has in let old = r.each id v at in let near = inside r.parts k x held.1 in record {
    at = at;
    is = held.1;
    long = length-set s.homes k h;
    same = λ j n. set_else s.homes k j h n;
    placed = ((λ e. absurd (omega arith)), (λ _. omega arith));
    alone = alone_with s r k id held.0;
    share = refl;
    own = refl;
    faults = refl;
    bits = refl;
    turns_else = λ j n. refl;
    holds_it = λ i e. (omega arith, has);
    mine = record {
      seen = old.seen;
      whole = old.whole;
      durable = old.durable;
      olds = old.olds;
      opening_is = old.opening_is;
      stable = old.stable;
      marks = old.marks;
      stops = old.stops;
      turns = λ j y e. turns_at near j y (ℕ_discrete j k) e;
      idle = old.idle;
    };
  }
    where
      turns_at : k < length r.parts → (j : ℕ) (y : P) → Dec (j ≡ k) → turn_of v j ≡ Some y → Holds (set s.homes k h) (put r.holder k (suc id)) r.parts id a j y
      turns_at near j y (yes same) e = let x_is : x ≡ y = Some-same x y (sym has ∙ subst (λ (z : ℕ). turn_of v z ≡ Some y) same e) in
          subst (λ (z : ℕ × P). Holds (set s.homes k h) (put r.holder k (suc id)) r.parts id a z.0 z.1) (λ q. (sym same q, x_is q))
          (put_here r.holder k (suc id), (of_turn s r id v at k x has).1, λ off. set_here s.homes k h (omega (arith, r.homes_are)) ∙ ap some (home off))
      turns_at near j y (no n) e = let t = of_turn s r id v at j y e in (put_else r.holder k (suc id) j n ∙ t.0, t.1, λ off. set_else s.homes k j h n ∙ t.2 (away_else j n off))

  homes_it : (extra : ℕ) (opening : Opening P B) (slots id k : ℕ) (v : View P B) (x : P) → v.away ≡ suc k → turn_of v k ≡ Some x
      → Allows (Rule M extra opening) slots id (v, (k, None) ∷ []) (suc k) (λ _. 1) (λ _ m'. TellsSlotHome M (step slots (suc k) 1 0 none) (v, (k, None) ∷ []) 1 m')
  homes_it extra opening slots id k v x out has s r wide at _ = (
    record v { away = 0 },
    gives,
    tt,
    moved r id k 1 (suc id) v (record v { away = 0 }) (set s.homes k (some None)) x (slides s r id k 0 v (some None) x at has (λ _. refl) (λ j n _ e. n (omega arith))),
    refl,
  )

  -- the slot of a part that the seat holds goes home empty
  pub goes_home : (extra : ℕ) (opening : Opening P B) (slots id k : ℕ) (me : MePB) (v : View P B) (x : P) → me ≡ (v, (k, None) ∷ []) → v.away ≡ suc k → turn_of v k ≡ Some x
      → Allows (Rule M extra opening) slots id me (suc k) (λ _. 1) (λ _ m'. TellsSlotHome M (step slots (suc k) 1 0 none) me 1 m')
  goes_home extra opening slots id k me v x is out has = subst (λ (m : MePB). Allows (Rule M extra opening) slots id m (suc k) (λ _. 1) (λ _ m'. TellsSlotHome M (step slots (suc k) 1 0 none) m 1 m')) (sym is) (homes_it extra opening slots id k v x out has)

  -- the empty slot of a part that the seat holds comes out
  pub fetches : (extra : ℕ) (opening : Opening P B) (slots id k : ℕ) (v : View P B) (c : List (ℕ × Option P)) (x : P) → v.away ≡ 0 → turn_of v k ≡ Some x
      → Allows (Rule M extra opening) slots id (v, c) (suc k) (λ _. 1) (λ _ m'. TellsSlotOut M (step slots (suc k) 1 0 none) (v, c) 1 m')
  fetches extra opening slots id k v c x idle has s r wide at _ = (
    record v { away = suc k },
    takes k None,
    (of_turn s r id v at k x has).2 (λ e. absurd (omega arith)),
    moved r id k 1 (suc id) v (record v { away = suc k }) (set s.homes k none) x (slides s r id k (suc k) v none x at has (λ off. absurd (off refl)) (λ j n _ e. absurd (omega arith))),
    (k, refl, refl),
  )

  given_back : {extra : ℕ} {opening : Opening P B} (s : St) (r : Rule M extra opening s) (id k : ℕ) (v : View P B) (x : P) → get_elem? s.views id ≡ some v → v.away ≡ suc k → turn_of v k ≡ Some x
      → Moves r id k 0 0 v (without k v) (set s.homes k (some (Some x))) x
  given_back {extra} {opening} s r id k v x at out has = let held = of_turn s r id v at k x has in let old = r.each id v at in let near = inside r.parts k x held.1 in record {
    at = at;
    is = held.1;
    long = length-set s.homes k (some (Some x));
    same = λ j n. set_else s.homes k j (some (Some x)) n;
    placed = ((λ _. (refl, set_here s.homes k (some (Some x)) (omega (arith, r.homes_are)))), (λ e. absurd (omega arith)));
    alone = alone_with s r k id held.0;
    share = refl;
    own = refl;
    faults = refl;
    bits = refl;
    turns_else = λ j n. at_put_else None v.turns k j None n;
    holds_it = λ i e. absurd (omega arith);
    mine = record {
      seen = old.seen;
      whole = whole_at k;
      durable = durable_at k;
      olds = old.olds;
      opening_is = old.opening_is;
      stable = old.stable;
      marks = old.marks;
      stops = old.stops;
      turns = λ j y e. turns_at j y (ℕ_discrete j k) e;
      idle = λ none_left. absurd (has_share s r id v at k x has none_left);
    };
  }
    where
      whole_at : (q : ℕ) (y : P) → turn_of (without q v) 0 ≡ Some y → v.seen ≡ r.history
      whole_at zero y e = absurd (Some-None y (sym e ∙ at_put_here None v.turns zero None))
      whole_at (suc q) y e = (r.each id v at).whole y (sym (at_put_else None v.turns (suc q) 0 None (λ h. omega arith)) ∙ e)

      durable_at : (q : ℕ) (y : P) → turn_of (without q v) 0 ≡ Some y → v.stable ≡ M.durable y
      durable_at zero y e = absurd (Some-None y (sym e ∙ at_put_here None v.turns zero None))
      durable_at (suc q) y e = (r.each id v at).durable y (sym (at_put_else None v.turns (suc q) 0 None (λ h. omega arith)) ∙ e)

      turns_at : (j : ℕ) (y : P) → Dec (j ≡ k) → turn_of (without k v) j ≡ Some y → Holds (set s.homes k (some (Some x))) (put r.holder k 0) r.parts id 0 j y
      turns_at j y (yes same) e = absurd (Some-None y (sym (subst (λ (z : ℕ). turn_of (without k v) z ≡ Some y) same e) ∙ at_put_here None v.turns k None))
      turns_at j y (no n) e = let t = of_turn s r id v at j y (sym (at_put_else None v.turns k j None n) ∙ e) in (put_else r.holder k 0 j n ∙ t.0, t.1, λ _. set_else s.homes k j (some (Some x)) n ∙ t.2 (λ off. n (omega arith)))

  gives_it : (extra : ℕ) (opening : Opening P B) (slots id k : ℕ) (v : View P B) (x : P) → v.away ≡ suc k → turn_of v k ≡ Some x
      → Allows (Rule M extra opening) slots id (v, (k, Some x) ∷ []) (suc k) (λ _. 0) (λ _ m'. TellsGiven M (step slots (suc k) 0 0 none) (v, (k, Some x) ∷ []) 0 m')
  gives_it extra opening slots id k v x out has s r wide at _ = (
    without k v,
    gives,
    tt,
    moved r id k 0 0 v (without k v) (set s.homes k (some (Some x))) x (given_back s r id k v x at out has),
    (k, refl, refl),
  )

  -- a part goes home as the pass has it
  pub goes_back : (extra : ℕ) (opening : Opening P B) (slots id k : ℕ) (me : MePB) (v : View P B) (x : P) → me ≡ (v, (k, Some x) ∷ []) → v.away ≡ suc k → turn_of v k ≡ Some x
      → Allows (Rule M extra opening) slots id me (suc k) (λ _. 0) (λ _ m'. TellsGiven M (step slots (suc k) 0 0 none) me 0 m')
  goes_back extra opening slots id k me v x is out has = subst (λ (m : MePB). Allows (Rule M extra opening) slots id m (suc k) (λ _. 0) (λ _ m'. TellsGiven M (step slots (suc k) 0 0 none) m 0 m')) (sym is) (gives_it extra opening slots id k v x out has)

  -- what was taken is the same once its slot is home
  pub takes_home : (k : ℕ) (h : List B) (v w u : View P B) (x y : P) → TookAt M k h v x w → x ≡ y → w ≡ taking M k h x v → v.away ≡ 0 → u ≡ record w { away = 0 } → Takes M k v y u
  takes_home k h v w u x y t same w_is idle u_is = record {
    history = h;
    is = u_is ∙ (λ i. record (w_is i) { away = 0 }) ∙ (λ i. record (holding M k h x v) { away = sym idle i }) ∙ (λ i. holding M k h (same i) v);
    goes_on = t.goes_on;
    sees = subst (λ (z : View P B). Sees M h z) (sym u_is) record {
      seen = t.sees.seen;
      begins = t.sees.begins;
      sounds = t.sees.sounds;
      covers = t.sees.covers;
      log = t.sees.log;
      front = t.sees.front;
      durable = t.sees.durable;
      stable = t.sees.stable;
      durable_is = t.sees.durable_is;
      withins = t.sees.withins;
      sole = t.sees.sole;
    };
    mark = subst (λ (z : P). mark_of v k ≤ M.mark z) same t.marks;
    stop = λ n e. ap M.stop (sym same) ∙ t.stops n e;
  }

head_is : {A : Type 0} (x y : A) (l m : List A) → x ∷ l ≡ y ∷ m → x ≡ y
head_is x y l m e = cc

pub same_head : {A : Type 0} (k : ℕ) (x y : A) (l l1 l2 : List (ℕ × Option A)) (o : Option A) → l ≡ (k, Some x) ∷ l1 → l ≡ (k, o) ∷ l2 → o ≡ Some y → x ≡ y
same_head k x y l l1 l2 o a b c = let e = head_is (k, Some x) (k, o) l1 l2 (sym a ∙ b) in Some-same x y ((λ i. (e i).1) ∙ c)
