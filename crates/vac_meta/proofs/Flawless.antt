-- What may stand in a record has no flaw: the tests go on behind it.
use Rattle.std.proofs.Common.{◌≡◌, ℕ, ◌+◌, ◌<◌, ◌≤◌, ◌^◌, ◌==◌, true, false, Option, Some, None, List, [], ◌∷◌, ◌++◌, length, drop, refl, ◌∙◌, ap, arith, length-append, drop_at}
use Rattle.std.specs.Prelude.{nat_lt, slice_index, position}
use Rattle.std.specs.Option.{option_or}
use Rattle.std.proofs.lemmas.Bool.{le-ltb, ne_eqb}
use Rattle.vac_meta.specs.declared.TheConstants.{MAX_NAME}
use Rattle.vac_meta.specs.declared.error.MetaErr.{MetaErr}
use Rattle.vac_meta.specs.Flaws.{string_len, string_in, behind_string, flaw_of_name, flaw_of_numbers, flaw_of_owner, flaw_from_uid, flaw_from_kind, first_flaw}
use Rattle.vac_meta.specs.Records.{IsItemName, string, is_next, is_barred}
use Rattle.vac_meta.proofs.Strings.{len_is, text_is, behind_is, long}

module _ (bytes text rest : List ℕ) (is : bytes ≡ string text ++ rest) where
  -- a name that may stand here
  module _ (last : Option (List ℕ)) (at : ℕ) (name : IsItemName text) (next : is_next last text ≡ true)
    where
      short : length text < 2 ^ 16
      short = let most : length text ≤ 255 = name.most in omega arith

      name_is_good : flaw_of_name last at bytes ≡ None
      name_is_good =
          let most : length text ≤ 255 = name.most in
          let len = len_is bytes text rest short is in
          let there : nat_lt (length bytes) 2 ≡ false =
          le-ltb (length bytes) 2 (omega (arith, long bytes text rest short is)) in
          let some : (string_len bytes == 0) ≡ false =
          ne_eqb (string_len bytes) 0 (λ e. omega (arith, e, len, name.some)) in
          let few : nat_lt MAX_NAME (string_len bytes) ≡ false =
          le-ltb MAX_NAME (string_len bytes) (omega (arith, len)) in
          let whole : nat_lt (length bytes) (2 + string_len bytes) ≡ false =
          le-ltb (length bytes) (2 + string_len bytes)
          (omega (arith, len, long bytes text rest short is)) in
          let plain : position is_barred (string_in bytes) ≡ None =
          ap (position is_barred) (text_is bytes text rest short is) ∙ name.plain in
          let above : is_next last (string_in bytes) ≡ true =
          ap (is_next last) (text_is bytes text rest short is) ∙ next in
          rw (there, some, few, plain, whole, above) refl

      pub behind_name : first_flaw last at bytes ≡ flaw_from_kind (at + 2 + length text) rest
      behind_name =
          ap (λ (o : Option MetaErr). option_or o
          (flaw_from_kind (at + 2 + string_len bytes) (behind_string bytes))) name_is_good
          ∙ ap (λ (n : ℕ). flaw_from_kind (at + 2 + n) (behind_string bytes))
          (len_is bytes text rest short is)
          ∙ ap (flaw_from_kind (at + 2 + length text)) (behind_is bytes text rest short is)

  -- a uid or a gid
  module _ (at : ℕ) (most : length text ≤ MAX_NAME) where
    short_owner : length text < 2 ^ 16
    short_owner = let few : length text ≤ 255 = most in omega arith

    pub owner_is_good : flaw_of_owner at bytes ≡ None
    owner_is_good =
        let few : length text ≤ 255 = most in
        let len = len_is bytes text rest short_owner is in
        let there : nat_lt (length bytes) 2 ≡ false =
        le-ltb (length bytes) 2 (omega (arith, long bytes text rest short_owner is)) in
        let fits : nat_lt MAX_NAME (string_len bytes) ≡ false =
        le-ltb MAX_NAME (string_len bytes) (omega (arith, len)) in
        let whole : nat_lt (length bytes) (2 + string_len bytes) ≡ false =
        le-ltb (length bytes) (2 + string_len bytes)
        (omega (arith, len, long bytes text rest short_owner is)) in
        rw (there, fits, whole) refl

    pub behind_uid : flaw_from_uid at bytes ≡ flaw_of_owner (at + 2 + length text) rest
    behind_uid =
        ap (λ (o : Option MetaErr). option_or o
        (flaw_of_owner (at + 2 + string_len bytes) (behind_string bytes))) owner_is_good
        ∙ ap (λ (n : ℕ). flaw_of_owner (at + 2 + n) (behind_string bytes))
        (len_is bytes text rest short_owner is)
        ∙ ap (flaw_of_owner (at + 2 + length text)) (behind_is bytes text rest short_owner is)

-- the kind and the numbers
numbers_are_good : (at : ℕ) (numbers rest : List ℕ) → length numbers ≡ 21
    → slice_index numbers 0 ≤ 1 → flaw_of_numbers at (numbers ++ rest) ≡ None
numbers_are_good at [] rest len kind = absurd (omega arith)
numbers_are_good at (k ∷ numbers) rest len kind =
    let low : nat_lt 1 k ≡ false = le-ltb 1 k kind in
    let some : (length (k ∷ numbers ++ rest) == 0) ≡ false =
    ne_eqb (length (k ∷ numbers ++ rest)) 0 (λ e. omega (arith, e)) in
    let whole : nat_lt (length (k ∷ numbers ++ rest)) 21 ≡ false =
    le-ltb (length (k ∷ numbers ++ rest)) 21 (omega (arith, length-append numbers rest, len)) in
    rw (some, low, whole) refl

pub behind_numbers : (at : ℕ) (bytes numbers rest : List ℕ) → bytes ≡ numbers ++ rest
    → length numbers ≡ 21 → slice_index numbers 0 ≤ 1
    → flaw_from_kind at bytes ≡ flaw_from_uid (at + 21) rest
behind_numbers at bytes numbers rest is len kind =
    ap (flaw_from_kind at) is
    ∙ ap (λ (o : Option MetaErr). option_or o (flaw_from_uid (at + 21) (drop 21 (numbers ++ rest))))
    (numbers_are_good at numbers rest len kind)
    ∙ ap (flaw_from_uid (at + 21)) (drop_at numbers rest 21 len)

-- ---- where the tests stop

pub stops_at_numbers : (at : ℕ) (bytes : List ℕ) (e : MetaErr)
    → flaw_of_numbers at bytes ≡ Some e → flaw_from_kind at bytes ≡ Some e
stops_at_numbers at bytes e flaw =
    ap (λ (o : Option MetaErr). option_or o (flaw_from_uid (at + 21) (drop 21 bytes))) flaw

pub stops_at_uid : (at : ℕ) (bytes : List ℕ) (e : MetaErr)
    → flaw_of_owner at bytes ≡ Some e → flaw_from_uid at bytes ≡ Some e
stops_at_uid at bytes e flaw =
    ap (λ (o : Option MetaErr). option_or o
    (flaw_of_owner (at + 2 + string_len bytes) (behind_string bytes))) flaw
