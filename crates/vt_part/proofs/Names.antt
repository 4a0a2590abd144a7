-- Names, and the zeros that fill them up.
use Rattle.std.proofs.Common.{◌≡◌, ◌≢◌, ⊎_elim, ℕ, zero, suc, ◌+◌, ◌-◌, ◌<◌, ◌≤◌, List, ◌∷◌, ◌++◌, length, take, drop, get_or, replicate, refl, sym, ◌∙◌, ap, arith, sub-one, drop-cons, length-append, length-take, take-append-drop}
use Rattle.std.proofs.lemmas.List.{length-replicate, get_or_append_left, get_or-append_right, get_or-replicate, get_or-take, take_at, drop_all}
use Rattle.std.proofs.lemmas.Bool.{cases_lt}
use Rattle.vt_base.specs.Filled.{filled}
use Rattle.vt_part.specs.Table.{HasNoFill}

pub length-filled : (n : ℕ) (bytes : List ℕ) → length bytes ≤ n → length (filled n bytes) ≡ n
length-filled n bytes most =
    omega (
      arith,
      length-append bytes (replicate (n - length bytes) 0),
      length-replicate {A = ℕ}
          (n - length bytes) 0,
    )

-- behind a name there are zeros
zero_behind : (n : ℕ) (name : List ℕ) (i : ℕ) → length name ≤ i → i < n
    → get_or (filled n name) i 0 ≡ 0
zero_behind n name i behind within =
    get_or-append_right name (replicate (n - length name) 0) (length name) i 0 refl behind
    ∙ get_or-replicate (n - length name) (i - length name) 0 0 (omega arith)

-- so a name that doesn't end with zero is no shorter than one that fills up to the same
no_shorter : (n : ℕ) (a b : List ℕ) → length b ≤ n → HasNoFill b → filled n a ≡ filled n b
    → length b ≤ length a
no_shorter n a b most end same = ⊎_elim shorter (λ (h : length b ≤ length a). h) (cases_lt
    (length a) (length b))
  where
    shorter : length a < length b → length b ≤ length a
    shorter less =
        let last : ℕ = length b - 1 in
        absurd (end (omega arith) (
        sym (get_or_append_left b (replicate (n - length b) 0) 0 last (omega arith))
        ∙ ap (λ (l : List ℕ). get_or l last 0) (sym same)
        ∙ zero_behind n a last (omega arith) (omega arith)))

-- a field has one name
pub name_unique : (n : ℕ) (a b : List ℕ) → length a ≤ n → length b ≤ n → HasNoFill a
    → HasNoFill b → filled n a ≡ filled n b → a ≡ b
name_unique n a b a_most b_most a_end b_end same =
    let a_long : length b ≤ length a = no_shorter n a b b_most b_end same in
    let b_long : length a ≤ length b = no_shorter n b a a_most a_end (sym same) in
    sym (take_at a (replicate (n - length a) 0) (length a) refl)
    ∙ ap (λ (l : List ℕ). take (length a) l) same
    ∙ take_at b (replicate (n - length b) 0) (length a) (omega arith)

-- a field that ends with zeros from place n on
module _ (len : ℕ) (field : List ℕ) (whole : length field ≡ len) where
  -- one zero more
  pub more_zeros : (n m : ℕ) → m ≡ n + 1 → m ≤ len → get_or field n 0 ≡ 0
      → drop m field ≡ replicate (len - m) 0
      → drop n field ≡ replicate (len - n) 0
  more_zeros n m next within is_zero zeros =
      let after : suc n ≡ m = omega arith in
      let one_more : suc (len - m) ≡ len - n = omega arith in
      drop-cons field n 0 (omega arith)
      ∙ (λ i. is_zero i ∷ drop (after i) field)
      ∙ ap (λ (l : List ℕ). 0 ∷ l) zeros
      ∙ ap (λ (k : ℕ). replicate k 0) one_more

  -- it is the name before them, filled up
  pub field_filled : (n : ℕ) → n ≤ len → drop n field ≡ replicate (len - n) 0
      → field ≡ filled len (take n field)
  field_filled n within zeros =
      let before : n ≡ length (take n field) = omega (arith, length-take n field) in
      sym (take-append-drop n field)
      ∙ ap (λ (l : List ℕ). take n field ++ l) zeros
      ∙ ap (λ (k : ℕ). take n field ++ replicate (len - k) 0) before

  -- and the name has none where it doesn't end with one
  pub field_end : (n : ℕ) → n ≤ len → (0 < n → get_or field (n - 1) 0 ≢ 0)
      → HasNoFill (take n field)
  field_end n within last some is_zero =
      let before : length (take n field) ≡ n = omega (arith, length-take n field) in
      let some_bytes : 0 < n = omega (arith, before, some) in
      last some_bytes (
      sym (get_or-take n field (n - 1) 0 (omega arith))
      ∙ ap (λ (k : ℕ). get_or (take n field) (k - 1) 0) (sym before)
      ∙ is_zero)

  -- any field is a name, filled up
  pub record Named : Type 0 where
    pub name_len : ℕ
    pub within : name_len ≤ len
    pub fills : field ≡ filled len (take name_len field)
    pub ends : HasNoFill (take name_len field)

  named_from : (n : ℕ) → n ≤ len → drop n field ≡ replicate (len - n) 0 → Named
  named_from zero within zeros = record {
    name_len = 0;
    within = within;
    fills = field_filled 0 within zeros;
    ends = field_end 0 within (λ none. absurd (omega (arith, none)));
  }
  named_from (suc n) within zeros = ⊎_elim
      (λ (none : get_or field n 0 < 1). named_from n (omega arith)
      (more_zeros n (suc n) (omega arith) within (omega arith) zeros))
      (λ (some : 1 ≤ get_or field n 0). record {
        name_len = suc n;
        within = within;
        fills = field_filled (suc n) within zeros;
        ends = field_end (suc n) within
            (λ _ is_zero. absurd (omega (arith, some, rw sub-one at is_zero)));
      })
      (cases_lt (get_or field n 0) 1)

  pub named : Named
  named =
      let none : 0 ≡ len - len = omega arith in
      named_from len (omega arith) (drop_all len field (omega arith)
      ∙ ap (λ (k : ℕ). replicate k 0) none)
