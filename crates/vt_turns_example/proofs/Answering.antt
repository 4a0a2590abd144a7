-- What an answer says of the history.
use Rattle.std.proofs.Common.{◌≡◌, ◌≢◌, ℕ, zero, suc, ◌+◌, ◌<◌, eqb, eq-eqb, ne_eqb, List, [], ◌∷◌, ◌++◌, length, take, get_or, sym, refl, ap, ◌∙◌, subst, arith, Bool, true, false, ◌==◌, if◌then◌else◌, append-nil, length-append}
use Rattle.std.specs.Prelude.{Option, Some, None}
use Rattle.std.proofs.lemmas.List.{take_all}
use Rattle.std.proofs.lemmas.Bool.Decides.{nat_tests}
use mathlib.Core.Option.{some, some-injective, some-ne-none}
use mathlib.Core.List.{IsPrefix}
use lib.ListN.{get_elem?}
use Rattle.atomic_table.proofs.Lists.{at_last}
use Rattle.vt_turns.proofs.Lists.{prefix_length, longer_prefix}
use Rattle.vt_turns_example.specs.declared.part.Block.{Block}
use Rattle.vt_turns_example.specs.declared.link.Ask.TheVariants.{Write, Look}
use Rattle.vt_turns_example.specs.declared.link.Said.{Said}
use Rattle.vt_turns_example.specs.declared.link.Said.TheVariants.{Added, Held, Collision, NoMemory, Absent}
use Rattle.vt_turns_example.specs.Blocks.{held_value, number_from}
use Rattle.vt_turns.specs.Steps.{Loads}
use Rattle.vt_turns.specs.Calls.{FindsUnset}
use Rattle.vt_turns_example.specs.Parts.{part_means, bit_place}
use Rattle.vt_turns_example.specs.Talk.{AnswersAsk, Adds}
use Rattle.vt_turns_example.specs.Stores.{TheView, Answered, compared_values}

abbrev Opt : Type 0
Opt = Option ℕ

new_if : (t : Bool) (x : ℕ) (rest more : Opt) (m : ℕ) → (if t then Some x else rest) ≡ None → (rest ≡ None → more ≡ Some m) → (if t then Some x else more) ≡ Some m
new_if true x rest more m e f = absurd (cc)
new_if false x rest more m e f = f e

-- a new key has the next number
pub number_new : (n : ℕ) (h : List Block) (b : Block) → number_from n h b.key ≡ None → number_from n (h ++ b ∷ []) b.key ≡ Some (n + length h)
number_new n [] b none = ap (λ (t : Bool). if t then Some n else None) (eq-eqb b.key b.key refl) ∙ ap Some (omega arith)
number_new n (c ∷ cs) b none = new_if (c.key == b.key) n (number_from (suc n) cs b.key) (number_from (suc n) (cs ++ b ∷ []) b.key) (n + length (c ∷ cs)) none (λ e. number_new (suc n) cs b e ∙ ap Some (omega arith))

Found : List Block → ℕ → ℕ → Opt → Type 0
Found h m n o = (b : Block) × (k : ℕ) × (n ≡ m + k) × (get_elem? h k ≡ some b) × (o ≡ Some b.value)

found_if : (t : Bool) (b : Block) (bs : List Block) (m n : ℕ) (rest more : Opt) → (if t then Some m else rest) ≡ Some n → (rest ≡ Some n → Found bs (suc m) n more) → Found (b ∷ bs) m n (if t then Some b.value else more)
unfolding Found
found_if true b bs m n rest more e f = let same : m ≡ n = cc in (b, 0, omega arith, refl, refl)
found_if false b bs m n rest more e f = let r = f e in (r.0, suc r.1, let q = r.2 in omega arith, r.3, r.4)

found_at : (h : List Block) (m n key : ℕ) → number_from m h key ≡ Some n → (b : Block) × (k : ℕ) × (n ≡ m + k) × (get_elem? h k ≡ some b) × (held_value h key ≡ Some b.value)
unfolding Found
found_at [] m n key found = absurd (cc)
found_at (b ∷ bs) m n key found = found_if (b.key == key) b bs m n (number_from (suc m) bs key) (held_value bs key) found (λ e. found_at bs (suc m) n key e)

-- the block of a number that was found
pub number_held : (h : List Block) (n key : ℕ) → number_from 0 h key ≡ Some n → (b : Block) × (get_elem? h n ≡ some b) × (held_value h key ≡ Some b.value)
number_held h n key found = let r = found_at h 0 n key found in (r.0, let e = r.2 in subst (λ (i : ℕ). get_elem? h i ≡ some r.0) (omega arith) r.3, r.4)

none_if : (t : Bool) (m n : ℕ) (rest more : Opt) → (if t then Some m else rest) ≡ None → (rest ≡ None → more ≡ None) → (if t then Some n else more) ≡ None
none_if true m n rest more e f = absurd (cc)
none_if false m n rest more e f = f e

pub number_none : (h : List Block) (m key : ℕ) → number_from m h key ≡ None → held_value h key ≡ None
number_none [] m key none = refl
number_none (b ∷ bs) m key none = none_if (b.key == key) m b.value (number_from (suc m) bs key) (held_value bs key) none (number_none bs (suc m) key)

-- no block with another bit has the key
pub held_none : (h : List Block) (key : ℕ) → ((i : ℕ) (b : Block) → get_elem? h i ≡ some b → b.key ≢ key) → held_value h key ≡ None
held_none [] key none = refl
held_none (b ∷ bs) key none = ap (λ (t : Bool). if t then Some b.value else held_value bs key) (ne_eqb b.key key (none 0 b refl)) ∙ held_none bs key (λ i c e. none (suc i) c e)

first_part : (h m : List Block) → take (length h) (h ++ m) ≡ h
first_part [] m = take_all 0 [] (omega arith)
first_part (b ∷ bs) m = ap (λ l. b ∷ l) (first_part bs m)

-- nothing is added by an answer of the whole history
pub answers_all : (v w : TheView) (ask : _) (said : Said) (at : ℕ) → IsPrefix v.seen w.seen → w.own ≡ v.own → at ≡ length w.seen → AnswersAsk ask said w.seen → Adds ask said at w.seen [] [] → Answered v ask said at w
answers_all v w ask said at pre own long answers adds = record {
  since = let le = prefix_length v.seen w.seen pre in omega arith;
  within = omega arith;
  goes_on = pre;
  answers = subst (λ h. AnswersAsk ask said h) (sym (take_all at w.seen (omega arith))) answers;
  added = [];
  own = own ∙ sym (append-nil v.own);
  adds = adds;
}

tested : (a b : ℕ) → eqb a b ≡ true → a ≡ b
tested a b e = grind (arith, nat_tests)

compared_answers : (b : Block) (x : ℕ) (h : List Block) (t : Bool) → eqb x b.value ≡ t → held_value h b.key ≡ Some x → AnswersAsk (Write b) (if t then Held else Collision) h
compared_answers b x h true e is = is ∙ ap Some (tested x b.value e)
compared_answers b x h false e is = (x, is, λ same. let f = eq-eqb x b.value same in cc)

compared_adds : (b : Block) (at : ℕ) (h : List Block) (t : Bool) → Adds (Write b) (if t then Held else Collision) at h [] []
compared_adds b at h true = refl
compared_adds b at h false = refl

-- a write of a key that has a value
pub wrote_held : (v w : TheView) (b : Block) (x at : ℕ) (said : Said) → IsPrefix v.seen w.seen → w.own ≡ v.own → at ≡ length w.seen → held_value w.seen b.key ≡ Some x → said ≡ compared_values x b.value → Answered v (Write b) said at w
wrote_held v w b x at said pre own long is said_is = subst (λ (s : Said). Answered v (Write b) s at w) (sym said_is)
    (answers_all v w (Write b) (compared_values x b.value) at pre own long (compared_answers b x w.seen (eqb x b.value) refl is) (compared_adds b at w.seen (eqb x b.value)))

-- a write that finds no memory
pub wrote_nothing : (v w : TheView) (b : Block) (at : ℕ) (said : Said) → said ≡ NoMemory → IsPrefix v.seen w.seen → w.own ≡ v.own → at ≡ length w.seen → Answered v (Write b) said at w
wrote_nothing v w b at said said_is pre own long = subst (λ (s : Said). Answered v (Write b) s at w) (sym said_is) (answers_all v w (Write b) NoMemory at pre own long tt refl)

-- a write that adds a block
pub wrote_new : (v w : TheView) (h : List Block) (b : Block) (at : ℕ) (said : Said) → said ≡ Added → IsPrefix v.seen h → at ≡ length h → held_value h b.key ≡ None → w.seen ≡ h ++ b ∷ [] → w.own ≡ v.own ++ length h ∷ [] → Answered v (Write b) said at w
wrote_new v w h b at said said_is pre long none seen own = subst (λ (s : Said). Answered v (Write b) s at w) (sym said_is) record {
  since = let le = prefix_length v.seen h pre in omega arith;
  within = let e : length w.seen ≡ length (h ++ b ∷ []) = ap length seen in omega (arith, length-append h (b ∷ []));
  goes_on = subst (λ s. IsPrefix v.seen s) (sym seen) (longer_prefix v.seen h (b ∷ []) pre);
  answers = ap (λ s. held_value s b.key) (ap (take at) seen ∙ ap (λ (n : ℕ). take n (h ++ b ∷ [])) long ∙ first_part h (b ∷ [])) ∙ none;
  added = at ∷ [];
  own = own ∙ ap (λ (n : ℕ). v.own ++ n ∷ []) (sym long);
  adds = (refl, ap (λ s. get_elem? s at) seen ∙ at_last h b at (sym long));
}

only_place : (q p k : ℕ) → get_elem? (q ∷ []) k ≡ some p → q ≡ p
only_place q p zero e = some-injective q p e
only_place q p (suc k) e = absurd (some-ne-none p (sym e))

-- a look that finds the key's bit unset
pub looked_absent : (v u w : TheView) (key at place : ℕ) → v.opening.kept ≡ true → 0 < v.share → place ≡ bit_place key → Loads part_means v at u → FindsUnset part_means (place ∷ []) u w → Answered v (Look key) Absent at w
looked_absent v u w key at place kept share place_is l f = answers_all v w (Look key) Absent at
    (subst (λ h. IsPrefix v.seen h) (sym seen) l.goes_on)
    (ap (λ (z : TheView). z.own) f.view ∙ ap (λ (z : TheView). z.own) l.is)
    (sym l.length_is ∙ ap length (sym seen))
    (held_none w.seen key (λ i b e same. f.lacks.none (ap (λ (z : TheView). z.opening.kept) l.is ∙ kept) (subst (λ (z : TheView). 0 < z.share) (sym l.is) share) i 0 b (ap (λ (z : TheView). get_elem? z.seen i) (sym f.view) ∙ e)
    (ap (λ (q : ℕ). some q) (ap bit_place same ∙ sym place_is ∙ only_place place f.place f.number f.is))))
    refl
  where
    seen : w.seen ≡ l.history
    seen = ap (λ (z : TheView). z.seen) f.view ∙ ap (λ (z : TheView). z.seen) l.is

pub at_get : (l : List Block) (k : ℕ) (b d : Block) → get_elem? l k ≡ some b → b ≡ get_or l k d
at_get [] k b d e = absurd (some-ne-none b (sym e))
at_get (x ∷ xs) zero b d e = sym (some-injective x b e)
at_get (x ∷ xs) (suc k) b d e = at_get xs k b d e
