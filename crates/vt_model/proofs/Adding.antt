-- What an answer adds keeps a history legal.
use Rattle.std.proofs.Common.{◌≡◌, ◌≢◌, ℕ, suc, ◌+◌, ◌-◌, ◌<◌, ◌≤◌, ◌==◌, nat_le, Bool, true, false, cond, List, [], ◌∷◌, ◌++◌, length, get_or, Option, Some, None, refl, sym, ◌∙◌, ap, subst, arith, ◌⊎◌, inl, inr, not, ◌&&◌}
use Rattle.std.specs.Prelude.{map, filter, slice_get, IsTrue}
use Rattle.std.specs.List.{AllPairs}
use Rattle.std.specs.Str.{bytes_eq}
use Rattle.std.proofs.lemmas.Bool.{not-false, true≢false, cases_eq, cases_lt}
use Rattle.std.proofs.lemmas.Bool.Decides.{nat_tests, Decides-eqb}
use Rattle.std.proofs.lemmas.Slice.Eq.{bytes_eq-Decides}
use Rattle.std.proofs.lemmas.List.{append-nil}
use Rattle.std.proofs.lemmas.List.Elements.{All-push}
use Rattle.std.proofs.lemmas.List.Quantifiers.{all_pairs_push}
use Rattle.std.proofs.lemmas.List.Sums.{sum_by_push}
use Rattle.std.proofs.lemmas.Option.{slice_get-get_or}
use Rattle.vt_base.specs.Protocol.{Operation}
use Rattle.vt_model.specs.declared.TheConstants.{BUCKET_ROOM}
use Rattle.vt_model.specs.History.{History, Accepted, IsBlock, has_key}
use Rattle.vt_model.specs.Places.{Setup, fits, lengths_in, last_arena, closes, takes, current_arena, next_arena, crowd, bucket_of, bucket_count}
use Rattle.vt_model.specs.Answer.{answer, with_added}
use Rattle.vt_model.specs.Legal.{IsLegal, HasOtherKey, NoCollision}
use Rattle.vt_model.proofs.Lists.{test_false, and_true, both_true, right_false, both_false, All-from_list_any, list_any-from_find}
use Rattle.vt_model.proofs.Prefixes.{lengths_in-append}
use Rattle.vt_model.proofs.Held.{find_none}
use Rattle.vt_model.proofs.Added.{MayAdd, adds_when}

abbrev len_of : Accepted → ℕ
len_of e = length e.block.bytes

-- the last block's arena
pub last_arena_is : (a : ℕ) (h : History) (e : Accepted) → slice_get h (length h - 1) ≡ Some e
    → last_arena a h ≡ e.arena
last_arena_is a [] e at = absurd (cc)
last_arena_is a (x ∷ []) e at = cc
last_arena_is a (x ∷ y ∷ more) e at =
    let next : length (x ∷ y ∷ more) - 1 ≡ suc (length (y ∷ more) - 1) = omega arith in
    last_arena_is x.arena (y ∷ more) e (sym (ap (slice_get (x ∷ y ∷ more)) next) ∙ at)

-- no block of the list is in the arena
lengths_in-none : (a : ℕ) (h : History)
    → ((k : ℕ) (d : Accepted) → k < length h → (get_or h k d).arena < a) → lengths_in a h ≡ []
lengths_in-none a [] below = refl
lengths_in-none a (e ∷ es) below =
    let first : e.arena < a = below 0 e (omega arith) in
    let other = test_false _ (Decides-eqb e.arena a).0 (λ q. omega (arith, first, q)) in
    let rest = filter (λ (e : Accepted). e.arena == a) es in
    ap (λ b. map len_of (cond b (e ∷ rest) rest)) other
    ∙ lengths_in-none a es (λ k d lt. below (suc k) d (omega (arith, lt)))

pub lengths_in-this : (e : Accepted) → lengths_in e.arena (e ∷ []) ≡ length e.block.bytes ∷ []
lengths_in-this e = ap (λ b. map len_of (cond b (e ∷ []) [])) ((Decides-eqb e.arena e.arena).1 refl)

lengths_in-other : (a : ℕ) (e : Accepted) → e.arena ≢ a → lengths_in a (e ∷ []) ≡ []
lengths_in-other a e other =
    ap (λ b. map len_of (cond b (e ∷ []) [])) (test_false _ (Decides-eqb e.arena a).0 other)

-- ---- arenas

module _ (c : Setup) (h : History) (rising : AllPairs (λ a b. a.arena ≤ b.arena) h) where
  -- no block stands behind the arena that is being filled
  pub below_current : (k : ℕ) (d : Accepted) → k < length h → (get_or h k d).arena ≤ current_arena c h
  below_current k d lt =
      let last = last_arena_is 0 h (get_or h (length h - 1) d) (slice_get-get_or h (length h - 1) d (omega arith)) in
      let end : last_arena 0 h ≤ current_arena c h = omega arith in
      elim (cases_lt k (length h - 1)) [
        | inl before ↦
            let within : length h - 1 < length h = omega arith in
            omega (arith, rising k (length h - 1) d before within, last, end)
        | inr after ↦
            let same : k ≡ length h - 1 = omega arith in
            omega (arith, ap (λ i. (get_or h i d).arena) same, last, end)
      ]

chosen : (b d : Bool) (a arena : ℕ) → cond b (Some a) (cond d (Some (a + 1)) None) ≡ Some arena
    → ((arena ≡ a) × (b ≡ true)) ⊎ ((arena ≡ a + 1) × (d ≡ true))
chosen true d a arena h = inl (cc, refl)
chosen false true a arena h = inr (cc, refl)
chosen false false a arena h = absurd (cc)

next_or_current : (c : Setup) (h : History) (n arena : ℕ) → next_arena c h n ≡ Some arena
    → ((arena ≡ current_arena c h) × IsTrue (fits c arena (lengths_in arena h ++ n ∷ [])))
    ⊎ ((arena ≡ current_arena c h + 1) × IsTrue (fits c arena (n ∷ [])))
next_or_current c h n arena is =
    let a = current_arena c h in
    elim (chosen (takes c a (lengths_in a h ++ n ∷ [])) (closes c a && fits c (a + 1) (n ∷ [])) a arena is) [
      | inl here ↦
          let room = both_true _ _ here.1 in
          inl (here.0, subst (λ x. IsTrue (fits c x (lengths_in x h ++ n ∷ []))) (sym here.0) room.1)
      | inr after ↦
          let room = both_true _ _ after.1 in
          inr (after.0, subst (λ x. IsTrue (fits c x (n ∷ []))) (sym after.0) room.1)
    ]

-- the block's arena has room for it too
room_there : (c : Setup) (h : History) (e : Accepted) → AllPairs (λ a b. a.arena ≤ b.arena) h
    → next_arena c h (length e.block.bytes) ≡ Some e.arena
    → IsTrue (fits c e.arena (lengths_in e.arena h ++ length e.block.bytes ∷ []))
room_there c h e rising next = elim (next_or_current c h (length e.block.bytes) e.arena next) [
  | inl here ↦ here.1
  | inr after ↦
      let none : lengths_in e.arena h ≡ [] =
      lengths_in-none e.arena h
      (λ k d lt. omega (arith, below_current c h rising k d lt, after.0)) in
      subst (λ ns. IsTrue (fits c e.arena (ns ++ length e.block.bytes ∷ []))) (sym none) after.1
]

room_after : (c : Setup) (h : History) (e : Accepted) → AllPairs (λ a b. a.arena ≤ b.arena) h
    → ((a : ℕ) → IsTrue (fits c a (lengths_in a h)))
    → next_arena c h (length e.block.bytes) ≡ Some e.arena
    → (a : ℕ) → IsTrue (fits c a (lengths_in a (h ++ e ∷ [])))
room_after c h e rising room next a =
    let Fits : ℕ → List ℕ → Type 0 = λ a ns. IsTrue (fits c a ns) in
    let more : (a : ℕ) (ns : List ℕ) → lengths_in a (e ∷ []) ≡ ns
    → lengths_in a h ++ ns ≡ lengths_in a (h ++ e ∷ []) =
    λ a ns is. ap (λ ns. lengths_in a h ++ ns) (sym is)
    ∙ sym (lengths_in-append a h (e ∷ [])) in
    elim (cases_eq e.arena a) [
      | inl same ↦ subst (λ a. Fits a (lengths_in a (h ++ e ∷ []))) same
          (subst (Fits e.arena) (more e.arena (length e.block.bytes ∷ []) (lengths_in-this e))
          (room_there c h e rising next))
      | inr other ↦ subst (Fits a)
          (sym (append-nil (lengths_in a h)) ∙ more a [] (lengths_in-other a e other)) (room a)
    ]

-- ---- buckets

crowd_after : (score : List ℕ → List ℕ) (n : ℕ) (h : History) (e : Accepted)
    → ((b : ℕ) → crowd score n h b ≤ BUCKET_ROOM)
    → nat_le BUCKET_ROOM (crowd score n h (bucket_of n (score e.block.bytes))) ≡ false
    → (b : ℕ) → crowd score n (h ++ e ∷ []) b ≤ BUCKET_ROOM
crowd_after score n h e before space b =
    let own = bucket_of n (score e.block.bytes) in
    let count =
    sum_by_push (λ (e : Accepted). cond (bucket_of n (score e.block.bytes) == b) 1 0) h e in
    let few : crowd score n h own < BUCKET_ROOM = grind (arith, nat_tests, space) in
    let bit : Bool → ℕ = λ t. cond t 1 0 in
    elim (cases_eq own b) [
      | inl same ↦
          let one : bit (own == b) ≤ 1 = grind (arith, nat_tests) in
          omega (arith, count, one, few, ap (crowd score n h) same)
      | inr other ↦
          let none : bit (own == b) ≡ 0 = ap bit (test_false _ (Decides-eqb own b).0 other) in
          omega (arith, count, none, before b)
    ]

-- ---- all of it

module _ (score : List ℕ → List ℕ) (c : Setup) (h : History) where
  legal_after : (e : Accepted) → IsLegal score c h → MayAdd score c h e
      → IsLegal score c (h ++ e ∷ [])
  legal_after e legal may =
      let s = score e.block.bytes in
      let free = both_false _ _ may.free in
      let p = has_key score s e.block.kind in
      let found = find_none score h s e.block.kind free.0 may.fresh in
      let none = All-from_list_any p h (list_any-from_find p h found) in
      let same_score : (x : Accepted) → score x.block.bytes ≡ s
      → bytes_eq (score x.block.bytes) s ≡ true =
      λ x. (bytes_eq-Decides (score x.block.bytes) s).1 in
      let clashes : Accepted → Bool =
      λ x. bytes_eq (score x.block.bytes) s && not (bytes_eq x.block.bytes e.block.bytes) in
      let clash = All-from_list_any clashes h free.1 in
      record {
        blocks = All-push (λ x. IsBlock x.block) h e legal.blocks
            (record {
              kind = may.kind;
              some = grind (arith, nat_tests, may.some);
              most = grind (arith, nat_tests, may.most);
            });
        keys = all_pairs_push (HasOtherKey score) h e legal.keys (λ k d lt kind_is score_is.
            true≢false
            (sym (and_true _ _ (same_score (get_or h k d) score_is)
            ((Decides-eqb (get_or h k d).block.kind e.block.kind).1 kind_is)) ∙ none k d lt));
        scores = all_pairs_push (NoCollision score) h e legal.scores (λ k d lt score_is.
            (bytes_eq-Decides (get_or h k d).block.bytes e.block.bytes).0
            (not-false _ (right_false _ _ (same_score (get_or h k d) score_is) (clash k d lt))));
        nonzero = All-push (λ x. score x.block.bytes ≢ score []) h e legal.nonzero
            (λ same. true≢false (sym ((bytes_eq-Decides s (score [])).1 same) ∙ free.0));
        arenas = all_pairs_push (λ a b. a.arena ≤ b.arena) h e legal.arenas (λ k d lt.
            elim (next_or_current c h (length e.block.bytes) e.arena may.room) [
              | inl here ↦ omega (arith, below_current c h legal.arenas k d lt, here.0)
              | inr after ↦ omega (arith, below_current c h legal.arenas k d lt, after.0)
            ]);
        room = room_after c h e legal.arenas legal.room may.room;
        buckets = crowd_after score (bucket_count c) h e legal.buckets may.space;
      }

  keeps : (m : Operation) → IsLegal score c h → (o : Option Accepted)
      → (answer score c h m).added ≡ o
      → IsLegal score c (with_added h o)
  keeps m legal None is = legal
  keeps m legal (Some e) is = legal_after e legal (adds_when score c h m e is).may

  pub IsLegal-with_added : (m : Operation) → IsLegal score c h
      → IsLegal score c (with_added h (answer score c h m).added)
  IsLegal-with_added m legal = keeps m legal (answer score c h m).added refl
