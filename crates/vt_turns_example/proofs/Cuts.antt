-- Which part a number names.
use Rattle.std.proofs.Common.{◌≡◌, ◌≢◌, ℕ, zero, suc, ◌<◌, ◌≤◌, length, List, [], ◌∷◌, sym, ap, refl, subst, arith, ◌∙◌, Bool, true, false, ◌&&◌, eqb, eq-eqb}
use Rattle.std.specs.Prelude.{Some, None}
use Rattle.std.proofs.lemmas.Bool.Decides.{nat_tests}
use Rattle.std.specs.Ordering.{nat_cmp}
use Rattle.std.specs.BTreeMap.{is_at}
use Rattle.std.specs.Map.{lookup}
use mathlib.Core.Option.{some, some-injective, some-ne-none}
use native.Mathlib.Decide.{dec_le}
use lib.ListN.{get_elem?}
use Rattle.vt_turns.specs.declared.view.Opening.{Opening}
use Rattle.vt_turns.specs.Views.{turn_of}
use Rattle.vt_turns.specs.Calls.{CanOpen, Takes}
use Rattle.vt_turns.proofs.Lists.{at_put_here}
use Rattle.vt_turns_example.specs.declared.part.Block.{Block}
use Rattle.vt_turns_example.specs.declared.part.Log.{Log as TheLog}
use Rattle.vt_turns_example.specs.declared.part.Shard.{Shard as TheShard}
use Rattle.vt_turns_example.specs.declared.part.Part.{Part}
use Rattle.vt_turns_example.specs.declared.part.Part.TheVariants.{Log, Shard}
use Rattle.vt_turns_example.specs.Parts.{part_means, covers, covers_key, sound_for, is_cut, is_range}
use Rattle.vt_turns_example.specs.Stores.{TheView}

abbrev pub at_key : ℕ → Block
at_key key = record { key = key; value = 0 }

-- the parts of a cut
abbrev pub Cut : ℕ → List Part → Type 0
Cut cut parts = (l : TheLog) × (a : TheShard) × (b : TheShard) × (parts ≡ Log l ∷ Shard a ∷ Shard b ∷ []) × (a.low ≡ 0) × (a.high ≡ cut) × (b.low ≡ cut) × (b.high ≡ 18446744073709551615)

both_true : (a b : Bool) → a && b ≡ true → (a ≡ true) × (b ≡ true)
both_true true b e = (refl, e)
both_true false b e = absurd (cc)

tested : (a b : ℕ) → eqb a b ≡ true → a ≡ b
tested a b e = grind (arith, nat_tests)

range_is : (low high : ℕ) (s : TheShard) → is_range low high (Shard s) ≡ true → (s.low ≡ low) × (s.high ≡ high)
range_is low high s e = let t = both_true (eqb s.low low) (eqb s.high high) e in (tested s.low low t.0, tested s.high high t.1)

pub cut_of : (cut : ℕ) (parts : List Part) → is_cut cut parts ≡ true → Cut cut parts
cut_of cut [] e = absurd (cc)
cut_of cut (x ∷ []) e = absurd (cc)
cut_of cut (x ∷ y ∷ []) e = absurd (cc)
cut_of cut (Shard s ∷ y ∷ z ∷ []) e = absurd (cc)
cut_of cut (Log l ∷ Log m ∷ z ∷ []) e = absurd (cc)
cut_of cut (Log l ∷ Shard a ∷ Log m ∷ []) e = absurd (let t = both_true (is_range 0 cut (Shard a)) false e in let f = t.1 in cc)
cut_of cut (Log l ∷ Shard a ∷ Shard b ∷ []) e =
    let t = both_true (is_range 0 cut (Shard a)) (is_range cut 18446744073709551615 (Shard b)) e in
    let one = range_is 0 cut a t.0 in
    let two = range_is cut 18446744073709551615 b t.1 in
    (l, a, b, refl, one.0, one.1, two.0, two.1)
cut_of cut (x ∷ y ∷ z ∷ w ∷ rest) e = absurd (cc)

past_end : (s : TheShard) → covers_key s s.high ≡ false
past_end s = grind (arith, nat_tests)

pub not_shard : (l : TheLog) (s : TheShard) → ((b : Block) → covers (Shard s) b ≡ covers (Log l) b) → ⊥
not_shard l s same = let e = same (at_key s.high) in let p = past_end s in cc

pub not_log : (l : TheLog) (s : TheShard) → ((b : Block) → covers (Log l) b ≡ covers (Shard s) b) → ⊥
not_log l s same = let e = same (at_key s.high) in let p = past_end s in cc

-- the shard at the number of a key
pub routed : (cut key n : ℕ) (parts : List Part) → (key < cut → n ≡ 1) → (cut ≤ key → n ≡ 2) → key < 18446744073709551615 → is_cut cut parts ≡ true
    → (s : TheShard) × (get_elem? parts n ≡ some (Shard s)) × (covers_key s key ≡ true) × (0 < n) × (n < 3)
routed cut key n parts low high small is = go (dec_le cut key)
  where
    c : Cut cut parts
    c = cut_of cut parts is

    at : (k : ℕ) → get_elem? parts k ≡ get_elem? (Log c.0 ∷ Shard c.1 ∷ Shard c.2 ∷ []) k
    at k = ap (λ (l : List Part). get_elem? l k) c.3

    go : Dec (cut ≤ key) → (s : TheShard) × (get_elem? parts n ≡ some (Shard s)) × (covers_key s key ≡ true) × (0 < n) × (n < 3)
    go (yes le) = let is = high le in let a = c.6 in let b = c.7 in (c.2, subst (λ (k : ℕ). get_elem? parts k ≡ some (Shard c.2)) (sym is) (at 2), grind (arith, nat_tests), omega arith, omega arith)
    go (no not) = let is : n ≡ 1 = low (omega arith) in let a = c.4 in let b = c.5 in (c.1, subst (λ (k : ℕ). get_elem? parts k ≡ some (Shard c.1)) (sym is) (at 1), grind (arith, nat_tests), omega arith, omega arith)

-- what was taken covers what was there
pub took_covers : (ops : Opening Part Block) (v w : TheView) (k : ℕ) (x o : Part) → v.opening ≡ ops → 0 < v.share → Takes part_means k v x w → get_elem? ops.parts k ≡ some o → (b : Block) → covers x b ≡ covers o b
took_covers ops v w k x o ops_is share t at b =
    t.sees.covers (subst (λ (u : TheView). 0 < u.share) (sym t.is) share) k o x
    (subst (λ (u : TheView). get_elem? u.opening.parts k ≡ some o) (sym t.is) (subst (λ (l : Opening Part Block). get_elem? l.parts k ≡ some o) (sym ops_is) at))
    (subst (λ (u : TheView). turn_of u k ≡ Some x) (sym t.is) (at_put_here None v.turns k (Some x))) b

-- the first part is the log
pub log_at : (cut : ℕ) (parts : List Part) → is_cut cut parts ≡ true → (l : TheLog) × (get_elem? parts 0 ≡ some (Log l))
log_at cut parts is = let c = cut_of cut parts is in (c.0, ap (λ (l : List Part). get_elem? l 0) c.3)

-- an empty store is cut
pub is_cut_of : (cut : ℕ) (parts : List Part) (l : TheLog) (a b : TheShard) → parts ≡ Log l ∷ Shard a ∷ Shard b ∷ [] → a.low ≡ 0 → a.high ≡ cut → b.low ≡ cut → b.high ≡ 18446744073709551615 → is_cut cut parts ≡ true
is_cut_of cut parts l a b is a_low a_high b_low b_high = ap (is_cut cut) is ∙ both (is_range 0 cut (Shard a)) (is_range cut 18446744073709551615 (Shard b)) (both (eqb a.low 0) (eqb a.high cut) (eq-eqb a.low 0 a_low) (eq-eqb a.high cut a_high)) (both (eqb b.low cut) (eqb b.high 18446744073709551615) (eq-eqb b.low cut b_low) (eq-eqb b.high 18446744073709551615 b_high))
  where
    both : (p q : Bool) → p ≡ true → q ≡ true → p && q ≡ true
    both p q d e = cc

-- with what an empty store is opened
pub can_open : (parts : List Part) (l : TheLog) (a b : TheShard) → parts ≡ Log l ∷ Shard a ∷ Shard b ∷ [] → l.blocks.items ≡ [] → a.numbers.entries ≡ [] → b.numbers.entries ≡ [] → a.high ≡ b.low
    → CanOpen part_means record { parts = parts; history = []; bits = 0 ∷ 0 ∷ []; kept = true }
can_open parts l a b is none a_none b_none cut = subst (λ (ps : List Part). CanOpen part_means record { parts = ps; history = []; bits = 0 ∷ 0 ∷ []; kept = true }) (sym is) record {
  some_log = omega arith;
  front = ap length none;
  apart = apart;
  sound = sound;
  within = λ k x e. tt;
  bits_set = λ kept i k p c e. absurd (some-ne-none c (sym e));
}
  where
    ps : List Part
    ps = Log l ∷ Shard a ∷ Shard b ∷ []

    one_side : (key : ℕ) → covers_key a key ≡ true → covers_key b key ≡ false
    one_side key e = let c = cut in grind (arith, nat_tests)

    other_side : (key : ℕ) → covers_key b key ≡ true → covers_key a key ≡ false
    other_side key e = let c = cut in grind (arith, nat_tests)

    apart : (j k : ℕ) (x y : Part) (c : Block) → 0 < j → 0 < k → j ≢ k → get_elem? ps j ≡ some x → get_elem? ps k ≡ some y → covers x c ≡ true → covers y c ≡ false
    apart zero k x y c above above' ne at at' inside = absurd (omega arith)
    apart (suc j) zero x y c above above' ne at at' inside = absurd (omega arith)
    apart (suc zero) (suc zero) x y c above above' ne at at' inside = absurd (ne refl)
    apart (suc zero) (suc (suc zero)) x y c above above' ne at at' inside = ap (λ (z : Part). covers z c) (sym (some-injective (Shard b) y at')) ∙ one_side c.key (ap (λ (z : Part). covers z c) (some-injective (Shard a) x at) ∙ inside)
    apart (suc zero) (suc (suc (suc k))) x y c above above' ne at at' inside = absurd (some-ne-none y (sym at'))
    apart (suc (suc zero)) (suc zero) x y c above above' ne at at' inside = ap (λ (z : Part). covers z c) (sym (some-injective (Shard a) y at')) ∙ other_side c.key (ap (λ (z : Part). covers z c) (some-injective (Shard b) x at) ∙ inside)
    apart (suc (suc zero)) (suc (suc zero)) x y c above above' ne at at' inside = absurd (ne refl)
    apart (suc (suc zero)) (suc (suc (suc k))) x y c above above' ne at at' inside = absurd (some-ne-none y (sym at'))
    apart (suc (suc (suc j))) (suc k) x y c above above' ne at at' inside = absurd (some-ne-none x (sym at))

    empty : (s : TheShard) → s.numbers.entries ≡ [] → sound_for true [] (Shard s)
    empty s e = λ _ key _. ap (λ es. lookup (is_at (nat_cmp key)) es) e

    sound : (k : ℕ) (x : Part) → get_elem? ps k ≡ some x → sound_for true [] x
    sound zero x at = subst (λ (z : Part). sound_for true [] z) (some-injective (Log l) x at) (λ _. none)
    sound (suc zero) x at = subst (λ (z : Part). sound_for true [] z) (some-injective (Shard a) x at) (empty a a_none)
    sound (suc (suc zero)) x at = subst (λ (z : Part). sound_for true [] z) (some-injective (Shard b) x at) (empty b b_none)
    sound (suc (suc (suc k))) x at = absurd (some-ne-none x (sym at))
