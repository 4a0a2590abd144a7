-- Bytes that are read in parts, one behind another.
use Rattle.std.proofs.Common.{◌≡◌, ℕ, ◌+◌, ◌-◌, ◌<◌, inl, inr, Result, Ok, Err, List, ◌++◌, length, get_or, refl, sym, ◌∙◌, ap, subst, arith, length-append, add_assoc}
use Rattle.std.proofs.lemmas.Bool.{cases_lt}
use Rattle.std.proofs.lemmas.List.{get_or_append_left, get_or-append_right}
use Rattle.vt_tree.specs.declared.error.TreeErr.{TreeErr}
use Rattle.vt_tree.specs.declared.error.TreeErr.TheVariants as errs
use Rattle.vt_tree.specs.declared.plain.ContentError.{ContentError}
use Rattle.vt_tree.specs.declared.plain.ContentError.TheVariants.{Absent, BadBlock}
use Rattle.vt_tree.specs.Content.{AreGiven, FirstTrouble}
use Rattle.vt_tree.specs.Reading.{GivesBytes}

module _ (byte : ℕ → Result ℕ ContentError) (at : ℕ) where
  -- bytes, and others behind them
  pub given_more : (xs ys : List ℕ) → AreGiven byte at xs → AreGiven byte (at + length xs) ys
      → AreGiven byte at (xs ++ ys)
  given_more xs ys first then i within = elim (cases_lt i (length xs)) [
    | inl before ↦ first i before ∙ ap (λ (b : ℕ). Ok b) (sym (get_or_append_left xs ys 0 i before))
    | inr behind ↦
        let j : ℕ = i - length xs in
        let place : at + i ≡ at + length xs + j = omega arith in
        let short : j < length ys = omega (arith, length-append xs ys) in
        ap byte place ∙ then j short
        ∙ ap (λ (b : ℕ). Ok b) (sym (get_or-append_right xs ys (length xs) i 0 refl behind))
  ]

  -- bytes, and the first trouble behind them
  pub trouble_behind : (xs : List ℕ) (len : ℕ) (trouble : ContentError) → AreGiven byte at xs
      → FirstTrouble byte (at + length xs) len trouble
      → FirstTrouble byte at (length xs + len) trouble
  trouble_behind xs len trouble first later = record {
    place = length xs + later.place;
    within = omega (arith, later.within);
    has = ap byte (sym (add_assoc at (length xs) later.place)) ∙ later.has;
    before = λ k below. elim (cases_lt k (length xs)) [
      | inl before ↦ (get_or xs k 0, first k before)
      | inr behind ↦
          let j : ℕ = k - length xs in
          let place : at + k ≡ at + length xs + j = omega arith in
          let found = later.before j (omega arith) in
          (found.0, ap byte place ∙ found.1)
    ];
  }

  pub trouble_of_more : (len more : ℕ) (trouble : ContentError) → FirstTrouble byte at len trouble
      → FirstTrouble byte at (len + more) trouble
  trouble_of_more len more trouble first = record {
    place = first.place;
    within = omega (arith, first.within);
    has = first.has;
    before = first.before;
  }

-- what is read where another function gives the same
module _ (f g : ℕ → Result ℕ ContentError) (a b len : ℕ)
    (same : (i : ℕ) → i < len → f (a + i) ≡ g (b + i)) where
  trouble_there : (trouble : ContentError) → FirstTrouble g b len trouble
      → FirstTrouble f a len trouble
  trouble_there trouble first = record {
    place = first.place;
    within = first.within;
    has = same first.place first.within ∙ first.has;
    before = λ k below.
        let found = first.before k below in
        (found.0, same k (omega (arith, first.within)) ∙ found.1);
  }

  pub gives_there : (result : Result (List ℕ) TreeErr) → GivesBytes g b len result
      → GivesBytes f a len result
  gives_there (Ok bytes) given =
      (given.0, λ i within. same i (omega (arith, given.0)) ∙ given.1 i within)
  gives_there (Err (errs.Block err)) given = λ refused. trouble_there Absent (given refused)
  gives_there (Err errs.SourceFault) given = tt
  gives_there (Err (errs.BadEntry bad)) given = tt
  gives_there (Err (errs.BadBlock depth size)) given = trouble_there (BadBlock depth size) given
  gives_there (Err errs.TooLong) given = tt
  gives_there (Err errs.NoMemory) given = tt

-- one part was read, and then a second one
abbrev pub behind : List ℕ → Result (List ℕ) TreeErr → Result (List ℕ) TreeErr
behind xs (Ok ys) = Ok (xs ++ ys)
behind xs (Err err) = Err err

pub gives_more : (byte : ℕ → Result ℕ ContentError) (at n m : ℕ) (xs : List ℕ)
    (result : Result (List ℕ) TreeErr) → length xs ≡ n → AreGiven byte at xs
    → GivesBytes byte (at + n) m result → GivesBytes byte at (n + m) (behind xs result)
gives_more byte at n m xs (Ok ys) len first then = (
  omega (arith, length-append xs ys, then.0),
  given_more byte at xs ys first (subst (λ (k : ℕ). AreGiven byte (at + k) ys) (sym len) then.1),
)
gives_more byte at n m xs (Err (errs.Block err)) len first then = λ refused.
    subst (λ (k : ℕ). FirstTrouble byte at (k + m) Absent) len
    (trouble_behind byte at xs m Absent first
    (subst (λ (k : ℕ). FirstTrouble byte (at + k) m Absent) (sym len) (then refused)))
gives_more byte at n m xs (Err errs.SourceFault) len first then = tt
gives_more byte at n m xs (Err (errs.BadEntry bad)) len first then = tt
gives_more byte at n m xs (Err (errs.BadBlock depth size)) len first then =
    subst (λ (k : ℕ). FirstTrouble byte at (k + m) (BadBlock depth size)) len
    (trouble_behind byte at xs m (BadBlock depth size) first
    (subst (λ (k : ℕ). FirstTrouble byte (at + k) m (BadBlock depth size)) (sym len) then))
gives_more byte at n m xs (Err errs.TooLong) len first then = tt
gives_more byte at n m xs (Err errs.NoMemory) len first then = tt

-- a first part that was given up is where the whole was
pub gives_no_more : (byte : ℕ → Result ℕ ContentError) (at n m : ℕ) (err : TreeErr)
    → GivesBytes byte at n (Err err) → GivesBytes byte at (n + m) (Err err)
gives_no_more byte at n m (errs.Block err) given = λ refused.
    trouble_of_more byte at n m Absent (given refused)
gives_no_more byte at n m errs.SourceFault given = tt
gives_no_more byte at n m (errs.BadEntry bad) given = tt
gives_no_more byte at n m (errs.BadBlock depth size) given =
    trouble_of_more byte at n m (BadBlock depth size) given
gives_no_more byte at n m errs.TooLong given = tt
gives_no_more byte at n m errs.NoMemory given = tt
