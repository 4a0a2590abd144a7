-- What a write has stored is held from then on.
use Rattle.std.proofs.Common.{◌≡◌, ℕ, zero, suc, ◌<◌, ◌≤◌, ◌==◌, ◌⊎◌, ◌&&◌, not, nat_lt, nat_le, cond, Bool, true, false, List, [], ◌∷◌, ◌++◌, length, take, drop, Option, Some, None, refl, sym, ◌∙◌, ap, subst, arith, inl, inr, add-one}
use Rattle.std.specs.Prelude.{find, is_some, slice_get}
use Rattle.std.specs.List.{list_any}
use Rattle.std.specs.Option.{option_map, option_or}
use Rattle.std.specs.Str.{bytes_eq}
use Rattle.std.proofs.lemmas.Bool.Decides.{Decides-eqb}
use Rattle.std.proofs.lemmas.Slice.Eq.{bytes_eq-Decides}
use Rattle.std.proofs.lemmas.List.{take-append-drop, take-take}
use Rattle.std.proofs.lemmas.List.Folds.{find-append}
use Rattle.vt_base.specs.Kind.{is_kind}
use Rattle.vt_base.specs.declared.TheConstants.{MAX_BLOCK}
use Rattle.vt_base.specs.declared.why.Why.{Why}
use Rattle.vt_base.specs.declared.why.Why.TheVariants.{BadType, TooBig, Collision, IndexFull, ArenasFull}
use Rattle.vt_base.specs.Protocol.{Operation, write, r_write}
use Rattle.vt_model.specs.declared.TheConstants.{BUCKET_ROOM}
use Rattle.vt_model.specs.History.{Accepted, History, held, has_key}
use Rattle.vt_model.specs.Places.{Setup, next_arena, crowd, bucket_of, bucket_count}
use Rattle.vt_model.specs.Answer.{Outcome, answer, answer_to_write, collides, with_added, replies, refuses, adds}
use Rattle.vt_model.proofs.Lists.{both_false}
use Rattle.vt_session.specs.Turns.{Turn, told, served, failed}
use Rattle.vt_session.specs.Answered.{IsAddedAt, number_after, AnsweredBy}

-- ---- one write

-- the first block is found, and has these bytes, or it isn't found
found_first : (same kinds equal : Bool) (x e : Accepted) (rest : Option Accepted)
    → (same && not equal) ≡ false
    → cond (same && kinds) (Some x) rest ≡ Some e → ((x ≡ e) × (equal ≡ true)) ⊎ (rest ≡ Some e)
found_first true true true x e rest other found = inl (cc, refl)
found_first true true false x e rest other found = absurd (cc)
found_first true false equal x e rest other found = inr found
found_first false kinds equal x e rest other found = inr found

-- what has this key, where nothing collides
found_same : (score : List ℕ → List ℕ) (s bytes : List ℕ) (kind : ℕ) (h : History) (e : Accepted)
    → list_any (λ e. bytes_eq (score e.block.bytes) s && not (bytes_eq e.block.bytes bytes))
    h ≡ false
    → find (has_key score s kind) h ≡ Some e → e.block.bytes ≡ bytes
found_same score s bytes kind [] e none found = absurd (cc)
found_same score s bytes kind (x ∷ h) e none found =
    let rest = both_false _ _ none in
    elim (found_first (bytes_eq (score x.block.bytes) s) (x.block.kind == kind)
    (bytes_eq x.block.bytes bytes) x e (find (has_key score s kind) h) rest.0 found) [
      | inl p ↦ ap (λ (e : Accepted). e.block.bytes) (sym p.0)
          ∙ (bytes_eq-Decides x.block.bytes bytes).0 p.1
      | inr f ↦ found_same score s bytes kind h e rest.1 f
    ]

abbrev bytes_of : Accepted → List ℕ
bytes_of e = e.block.bytes

found_bytes : (score : List ℕ
    → List ℕ) (s bytes : List ℕ) (kind : ℕ) (h : History) (o : Option Accepted)
    → list_any (λ e. bytes_eq (score e.block.bytes) s && not (bytes_eq e.block.bytes bytes))
    h ≡ false
    → find (has_key score s kind) h ≡ o → is_some (option_map bytes_of o) ≡ true
    → option_map bytes_of o ≡ Some bytes
found_bytes score s bytes kind h None none at some = absurd (cc)
found_bytes score s bytes kind h (Some e) none at some =
    ap Some (found_same score s bytes kind h e none at)

module _ (score : List ℕ → List ℕ) (c : Setup) (h : History) (kind : ℕ) (bytes : List ℕ) where
  held_same : collides score h bytes ≡ false → is_some (held score h (score bytes) kind) ≡ true
      → held score h (score bytes) kind ≡ Some bytes
  held_same free some =
      let test = both_false _ _ free in
      let found = find (has_key score (score bytes) kind) h in
      let is : held score h (score bytes) kind ≡ option_map bytes_of found =
      ap (λ b. cond b (Some []) (option_map bytes_of found)) test.0 in
      is ∙ found_bytes score (score bytes) bytes kind h found test.1 refl (sym (ap is_some is)
      ∙ some)

  not_empty : 0 < length bytes → (length bytes == 0) ≡ true → ⊥
  not_empty some t = let none : length bytes ≡ 0 = (Decides-eqb (length bytes) 0).0 t in omega arith

  -- where the bytes were stored and nothing was added, they were held
  record Holds (o : Outcome) : Type 0 where
    is : o.reply ≡ r_write (score bytes) → o.added ≡ None
        → held score h (score bytes) kind ≡ Some bytes

  by_test : (b : Bool) (x y : Outcome) → (b ≡ true → Holds x) → (b ≡ false → Holds y)
      → Holds (cond b x y)
  by_test true x y f g = f refl
  by_test false x y f g = g refl

  refused : (why : Why) → Holds (refuses why)
  refused why = record { is = λ reply none. absurd (cc) }

  adding : (o : Option ℕ) → Holds (adds (score bytes) kind bytes o)
  adding None = refused ArenasFull
  adding (Some arena) = record { is = λ reply none. absurd (cc) }

  unadded : 0 < length bytes → Holds (answer_to_write score c h kind bytes)
  unadded some =
      let s = score bytes in
      let room = adds s kind bytes (next_arena c h (length bytes)) in
      let full = nat_le BUCKET_ROOM
      (crowd score (bucket_count c) h (bucket_of (bucket_count c) s)) in
      let fresh = cond full (refuses IndexFull) room in
      let known = is_some (held score h s kind) in
      let free = cond known (replies (r_write s)) fresh in
      let full_len = cond (collides score h bytes) (refuses Collision) free in
      let short = cond (length bytes == 0) (replies (r_write (score []))) full_len in
      let typed = cond (nat_lt MAX_BLOCK (length bytes)) (refuses TooBig) short in
      by_test (not (is_kind kind)) (refuses BadType) typed (λ t. refused BadType) (λ t.
      by_test (nat_lt MAX_BLOCK (length bytes)) (refuses TooBig) short (λ t. refused TooBig) (λ t.
      by_test (length bytes == 0) (replies (r_write (score []))) full_len
      (λ t. absurd (not_empty some t)) (λ t.
      by_test (collides score h bytes) (refuses Collision) free (λ t. refused Collision) (λ alone.
      by_test known (replies (r_write s)) fresh
      (λ t. record { is = λ reply none. held_same alone t }) (λ t.
      by_test full (refuses IndexFull) room (λ t. refused IndexFull)
      (λ t. adding (next_arena c h (length bytes))))))))

found_longer : (o more : Option Accepted) (b : List ℕ) → option_map bytes_of o ≡ Some b
    → option_map bytes_of (option_or o more) ≡ Some b
found_longer None more b is = absurd (cc)
found_longer (Some e) more b is = is

held_longer : (score : List ℕ → List ℕ) (h more : History) (s : List ℕ) (kind : ℕ) (b : List ℕ)
    → held score h s kind ≡ Some b
    → held score (h ++ more) s kind ≡ Some b
held_longer score h more s kind b is =
    let p : Accepted → Bool = has_key score s kind in
    elim (bytes_eq s (score [])) as
    (λ t. cond t (Some []) (option_map bytes_of (find p h)) ≡ Some b
    → cond t (Some []) (option_map bytes_of (find p (h ++ more))) ≡ Some b) [
      | true ↦ λ e. e
      | false ↦ λ e. ap (option_map bytes_of) (find-append p h more)
          ∙ found_longer (find p h) (find p more) b e
    ] is

-- ---- in a list of turns

get_take : {X : Type 0} (xs : List X) (n : ℕ) (x : X) → slice_get xs n ≡ Some x
    → take (suc n) xs ≡ take n xs ++ x ∷ []
get_take [] n x h = absurd (cc)
get_take (a ∷ xs) zero x h = let same : a ≡ x = cc in ap (λ y. y ∷ []) same
get_take (a ∷ xs) (suc n) x h = ap (λ l. a ∷ l) (get_take xs n x h)

number_rises : (n : ℕ) (o : Option Accepted) → n ≤ number_after n o
number_rises n None = omega arith
number_rises n (Some e) = omega arith

added_front : (h : History) (n : ℕ) (o : Option Accepted) → IsAddedAt h n o
    → with_added (take n h) o ≡ take (number_after n o) h
added_front h n None stands = refl
added_front h n (Some e) stands = sym (get_take h n e stands) ∙ ap (λ k. take k h) (sym (add-one n))

module _ (score : List ℕ → List ℕ) (c : Setup)
    (held_once_added : (h : History) (m : Operation) (e : Accepted)
    → (answer score c h m).added ≡ Some e
    → held score (h ++ e ∷ []) (score e.block.bytes) e.block.kind ≡ Some e.block.bytes)
    (brought : (h : History) (m : Operation) (e : Accepted) → (answer score c h m).added ≡ Some e
    → m ≡ write e.block.kind e.block.bytes) where
  stored : (h : History) (kind : ℕ) (bytes : List ℕ) (o : Option Accepted) → 0 < length bytes
      → (answer score c h (write kind bytes)).reply ≡ r_write (score bytes)
      → (answer score c h (write kind bytes)).added ≡ o
      → held score (with_added h o) (score bytes) kind ≡ Some bytes
  stored h kind bytes None some reply added = (unadded score c h kind bytes some).is reply added
  stored h kind bytes (Some e) some reply added =
      let same : write kind bytes ≡ write e.block.kind e.block.bytes =
      brought h (write kind bytes) e added in
      let kinds : kind ≡ e.block.kind = cc in
      let blocks : bytes ≡ e.block.bytes = cc in
      let P : ℕ → List ℕ → Type 0 = λ k b. held score (h ++ e ∷ []) (score b) k ≡ Some b in
      subst (λ k. P k bytes) (sym kinds)
      (subst (P e.block.kind) (sym blocks) (held_once_added h (write kind bytes) e added))

  turns_behind : (h : History) (low high : ℕ) (front behind : List Turn)
      → AnsweredBy score c h low high (front ++ behind)
      → (n : ℕ) × (low ≤ n) × AnsweredBy score c h n high behind
  turns_behind h low high [] behind x = (low, omega arith, x)
  turns_behind h low high (told tag reply ∷ front) behind x = turns_behind h low high front behind x
  turns_behind h low high (served tag operation n outcome ∷ front) behind x =
      let r = turns_behind h (number_after n outcome.added) high front behind x.4 in
      (r.0, omega (arith, x.0, r.1, number_rises n outcome.added), r.2)
  turns_behind h low high (failed tag operation n cause ∷ front) behind x =
      let r = turns_behind h n high front behind x.3 in
      (r.0, omega (arith, x.0, r.1), r.2)

  pub written_held : (h : History) (low high : ℕ) (front between behind : List Turn) (tag tag' : ℕ)
      (kind : ℕ) (bytes : List ℕ) (m : ℕ) (stored : Outcome)
      (operation : Operation) (n : ℕ) (outcome : Outcome)
      → AnsweredBy score c h low high
      (front ++ served tag (write kind bytes) m stored ∷
      (between ++ served tag' operation n outcome ∷ behind))
      → 0 < length bytes → stored.reply ≡ r_write (score bytes)
      → held score (take n h) (score bytes) kind ≡ Some bytes
  written_held h low high front between behind tag tag' kind bytes m outcome' operation n outcome x
      some reply =
      let y = turns_behind h low high front
      (served tag (write kind bytes) m outcome' ∷
      (between ++ served tag' operation n outcome ∷ behind)) x in
      let z = turns_behind h (number_after m outcome'.added) high between
      (served tag' operation n outcome ∷ behind) y.2.4 in
      let k = number_after m outcome'.added in
      let is : outcome' ≡ answer score c (take m h) (write kind bytes) = y.2.2 in
      let first = stored (take m h) kind bytes outcome'.added some
      (ap (λ (o : Outcome). o.reply) (sym is) ∙ reply)
      (ap (λ (o : Outcome). o.added) (sym is)) in
      let front_held : held score (take k h) (score bytes) kind ≡ Some bytes =
      subst (λ l. held score l (score bytes) kind ≡ Some bytes)
      (added_front h m outcome'.added y.2.3) first in
      let parts : take n h ≡ take k h ++ drop k (take n h) =
      sym (take-append-drop k (take n h))
      ∙ ap (λ l. l ++ drop k (take n h)) (take-take k n h (omega (arith, z.1, z.2.0))) in
      subst (λ l. held score l (score bytes) kind ≡ Some bytes) (sym parts)
      (held_longer score (take k h) (drop k (take n h)) (score bytes) kind bytes front_held)
