-- Parts of a file of bytes, and what a write leaves of them.
use Rattle.std.proofs.Common.{◌≡◌, ◌⊎◌, inl, inr, ⊎_elim, ℕ, ◌+◌, ◌-◌, ◌*◌, ◌%◌, ◌<◌, ◌≤◌, List, ◌++◌, length, take, drop, get_or, refl, sym, ◌∙◌, ap, subst, arith, append_assoc, length-append, length-drop, length-take, length-take-le}
use Rattle.std.proofs.lemmas.List.{ext_get_or, get_or-take, get_or-drop, get_or_append_left, get_or-append_right, take_at, drop_at}
use Rattle.std.proofs.lemmas.Bool.{cases_lt}
use Rattle.std.proofs.lemmas.Nat.{mul-mod_first}
use Rattle.vt_base.specs.Bytes.{AreBytes}
use Rattle.vt_disk.specs.Disk.{Touches, IsAligned, SameBut, part, with_bytes}

-- What a write between two sector bounds touches lies between them.
pub touches_within : (low high start n i : ℕ) → IsAligned low → IsAligned high → low ≤ start
    → start + n ≤ high → Touches start n i → (low ≤ i) × (i < high)
unfolding Touches
touches_within low high start n i low_aligned high_aligned above below touched =
    (omega arith, omega arith)

-- what is written is touched
pub touches_written : (start n i : ℕ) → start ≤ i → i < start + n → Touches start n i
unfolding Touches
touches_written start n i above below = (above, below)

-- a byte is touched or not
pub touches_cases : (start n i : ℕ) → Touches start n i ⊎ ¬ Touches start n i
unfolding Touches
touches_cases start n i = ⊎_elim
    (λ below. inr (λ here. omega arith))
    (λ above. ⊎_elim (λ within. inl (above, within)) (λ behind. inr (λ here. omega arith))
    (cases_lt i (start + n)))
    (cases_lt i start)

module _ (P : ℕ → Type 0) where
  pub same_refl : (file : List ℕ) → SameBut P file file
  same_refl file = record { same_length = refl; others = λ i free. refl }

  pub same_then : (a b c : List ℕ) → SameBut P a b → SameBut P b c → SameBut P a c
  same_then a b c first second = record {
    same_length = second.same_length ∙ first.same_length;
    others = λ i free. second.others i free ∙ first.others i free;
  }

  pub same_wider : (Q : ℕ → Type 0) → ((i : ℕ) → P i → Q i) → (old new : List ℕ) → SameBut P old new
      → SameBut Q old new
  same_wider Q wider old new same = record {
    same_length = same.same_length;
    others = λ i free. same.others i (λ here. free (wider i here));
  }

  -- a part that stays
  pub part_same : (start n : ℕ) (old new : List ℕ) → SameBut P old new
      → ((i : ℕ) → start ≤ i → i < start + n → ¬ P i) → part start n new ≡ part start n old
  part_same start n old new same free =
      ext_get_or 0 (part start n new) (part start n old)
      (simp (length-take, length-drop) (omega (arith, same.same_length)))
      (λ i below.
      let short : i < n = omega (arith, below, length-take n (drop start new)) in
      get_or-take n (drop start new) i 0 short
      ∙ get_or-drop start new i 0
      ∙ same.others (start + i) (free (start + i) (omega arith) (omega arith))
      ∙ sym (get_or-drop start old i 0)
      ∙ sym (get_or-take n (drop start old) i 0 short))

module _ {A : Type 0} (start : ℕ) (chunk file : List A)
    (fits : start + length chunk ≤ length file) where
  front_length : length (take start file) ≡ start
  front_length = length-take-le start file (omega arith)

  both_length : length (take start file ++ chunk) ≡ start + length chunk
  both_length = length-append (take start file) chunk ∙ omega (arith, front_length)

  pub length-with_bytes : length (with_bytes start chunk file) ≡ length file
  length-with_bytes = omega (
    arith,
    length-append (take start file ++ chunk)
        (drop (start + length chunk) file),
    both_length,
    length-drop (start + length chunk) file,
  )

  -- what was written is there
  pub part-with_bytes : part start (length chunk) (with_bytes start chunk file) ≡ chunk
  part-with_bytes =
      ap (λ (l : List A). take (length chunk) l)
      (ap (λ (l : List A). drop start l)
      (append_assoc (take start file) chunk (drop (start + length chunk) file))
      ∙ drop_at (take start file) (chunk ++ drop (start + length chunk) file) start
      front_length)
      ∙ take_at chunk (drop (start + length chunk) file) (length chunk) refl

  module _ (d : A) where
    -- the bytes before it
    pub with_bytes_below : (i : ℕ) → i < start → get_or (with_bytes start chunk file) i d
        ≡ get_or file i d
    with_bytes_below i below =
        get_or_append_left (take start file ++ chunk) (drop (start + length chunk) file) d i
        (omega (arith, both_length))
        ∙ get_or_append_left (take start file) chunk d i (omega (arith, front_length))
        ∙ get_or-take start file i d below

    -- the bytes behind it
    pub with_bytes_above : (i : ℕ) → start + length chunk ≤ i
        → get_or (with_bytes start chunk file) i d ≡ get_or file i d
    with_bytes_above i above =
        get_or-append_right (take start file ++ chunk) (drop (start + length chunk) file)
        (start + length chunk) i d both_length above
        ∙ get_or-drop (start + length chunk) file (i - (start + length chunk)) d
        ∙ ap (λ (k : ℕ). get_or file k d) (omega arith)

    -- the bytes that were written
    pub with_bytes_within : (i : ℕ) → start ≤ i → i < start + length chunk
        → get_or (with_bytes start chunk file) i d ≡ get_or chunk (i - start) d
    with_bytes_within i above within =
        get_or_append_left (take start file ++ chunk) (drop (start + length chunk) file) d i
        (omega (arith, both_length))
        ∙ get_or-append_right (take start file) chunk start i d front_length above

module _ (start : ℕ) (chunk file : List ℕ) (fits : start + length chunk ≤ length file) where
  -- a write changes what it touches alone
  pub same_but_written : SameBut (Touches start (length chunk)) file (with_bytes start chunk file)
  same_but_written = record {
    same_length = length-with_bytes start chunk file fits;
    others = λ i free. ⊎_elim
        (λ below. with_bytes_below start chunk file fits 0 i below)
        (λ above. ⊎_elim
        (λ within. absurd (free (touches_written start (length chunk) i above within)))
        (λ behind. with_bytes_above start chunk file fits 0 i behind)
        (cases_lt i (start + length chunk)))
        (cases_lt i start);
  }

  -- bytes over bytes are bytes
  pub bytes_with_bytes : AreBytes file → AreBytes chunk → AreBytes (with_bytes start chunk file)
  bytes_with_bytes file_fits chunk_fits i = ⊎_elim
      (λ below. subst (λ b. b < 256) (sym (with_bytes_below start chunk file fits 0 i below))
      (file_fits i))
      (λ above. ⊎_elim
      (λ within. subst (λ b. b < 256)
      (sym (with_bytes_within start chunk file fits 0 i above within)) (chunk_fits (i - start)))
      (λ behind. subst (λ b. b < 256) (sym (with_bytes_above start chunk file fits 0 i behind))
      (file_fits i))
      (cases_lt i (start + length chunk)))
      (cases_lt i start)

-- sector bounds
pub aligned_sum : (a b : ℕ) → IsAligned a → IsAligned b → IsAligned (a + b)
aligned_sum a b a_aligned b_aligned = omega arith

pub aligned_product : (a k : ℕ) → IsAligned a → IsAligned (a * k)
aligned_product a k a_aligned = sym (mul-mod_first a k 512)
    ∙ ap (λ (x : ℕ). (x * k) % 512) a_aligned ∙ omega arith
