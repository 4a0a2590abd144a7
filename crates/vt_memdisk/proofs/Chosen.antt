-- What a list of choices makes of the pending bytes.
use Rattle.std.proofs.Common.{◌≡◌, ℕ, zero, suc, ◌+◌, ◌<◌, Bool, true, false, cond, List, [], ◌∷◌, ◌++◌, length, get_or, set, take, drop, refl, sym, ◌∙◌, ap, arith, append_assoc}
use Rattle.std.proofs.lemmas.List.{take_more_set, drop_more, drop-set-lt, drop-drop}
use Rattle.std.proofs.lemmas.Bool.{cond_both, cond-true, ltb-true, lt-ltb}
use Rattle.std.proofs.Math.Dec.{ltb, eqb}
use Rattle.vt_base.specs.Bytes.{AreBytes, AreBytes-none, AreBytes-cons}
use Rattle.vt_memdisk.specs.Cells.{chosen, chosen_byte, first_choice, byte_after, IsCombination}

module _ (pending : List Bool) (synced content choice : List ℕ) (i : ℕ)
    (in_pending : i < length pending) (in_synced : i < length synced)
    (in_content : i < length content) where
  -- one place more
  pub chosen_more : (next : ℕ) (b : ℕ) → b
      ≡ byte_after (get_or pending i false) (get_or synced i 0) (get_or content i 0)
      (drop next choice)
      → (rest : List ℕ) → rest ≡ cond (get_or pending i false) (drop 1 (drop next choice))
      (drop next choice)
      → take (i + 1) (set content i b) ++ chosen (drop (i + 1) pending) (drop (i + 1) synced)
      (drop (i + 1) (set content i b)) rest
      ≡ take i content ++ chosen (drop i pending) (drop i synced) (drop i content)
      (drop next choice)
  chosen_more next b is rest left =
      let behind : drop (i + 1) (set content i b)
      ≡ drop (i + 1) content = drop-set-lt (i + 1) content i b (omega arith) in
      ap (λ (l : List ℕ). l ++ chosen (drop (i + 1) pending) (drop (i + 1) synced)
      (drop (i + 1) (set content i b)) rest) (take_more_set content i b in_content)
      ∙ append_assoc (take i content) (b ∷ [])
      (chosen (drop (i + 1) pending) (drop (i + 1) synced)
      (drop (i + 1) (set content i b)) rest)
      ∙ ap (λ (l : List ℕ). take i content ++ l)
      ((λ k. is k ∷ chosen (drop (i + 1) pending) (drop (i + 1) synced) (behind k) (left k))
      ∙ sym (λ k. chosen (drop_more pending i false in_pending k) (drop_more synced i 0 in_synced k)
      (drop_more content i 0 in_content k) (drop next choice)))

-- the place of the next choice
pub choices_left : (p : Bool) (next : ℕ) (choice : List ℕ) → drop (cond p (next + 1) next) choice
    ≡ cond p (drop 1 (drop next choice)) (drop next choice)
choices_left true next choice = sym (drop-drop 1 next choice)
choices_left false next choice = refl

chosen_byte_fits : (choice s w : ℕ) → s < 256 → w < 256 → chosen_byte choice s w < 256
chosen_byte_fits choice s w s_fits w_fits =
    cond_both (ltb choice 256) choice (cond (eqb choice 257) w s) (λ b. b < 256)
    (λ small. ltb-true choice 256 small)
    (λ large. cond_both (eqb choice 257) w s (λ b. b < 256) (λ _. w_fits) (λ _. s_fits))

pub chosen_fits : (pending : List Bool) (synced written choice : List ℕ) → AreBytes synced
    → AreBytes written → AreBytes (chosen pending synced written choice)
chosen_fits [] synced written choice s_fits w_fits i = omega arith
chosen_fits (p ∷ pending) [] written choice s_fits w_fits i = omega arith
chosen_fits (p ∷ pending) (s ∷ synced) [] choice s_fits w_fits i = omega arith
chosen_fits (p ∷ pending) (s ∷ synced) (w ∷ written) choice s_fits w_fits zero =
    cond_both p (chosen_byte (first_choice choice) s w) s (λ b. b < 256)
    (λ _. chosen_byte_fits (first_choice choice) s w (s_fits zero) (w_fits zero))
    (λ _. s_fits zero)
chosen_fits (p ∷ pending) (s ∷ synced) (w ∷ written) choice s_fits w_fits (suc i) =
    chosen_fits pending synced written (cond p (drop 1 choice) choice) (λ k. s_fits (suc k))
    (λ k. w_fits (suc k)) i

pub chosen_settled : (pending : List Bool) (synced written choice : List ℕ) → length pending
    ≡ length synced → length written ≡ length synced
    → (i : ℕ) → get_or pending i false ≡ false → get_or (chosen pending synced written choice) i 0
    ≡ get_or synced i 0
chosen_settled [] [] written choice p_length w_length i free = refl
chosen_settled [] (s ∷ synced) written choice p_length w_length i free = absurd
    (omega (arith, p_length))
chosen_settled (p ∷ pending) [] written choice p_length w_length i free = absurd
    (omega (arith, p_length))
chosen_settled (p ∷ pending) (s ∷ synced) [] choice p_length w_length i free = absurd
    (omega (arith, w_length))
chosen_settled (p ∷ pending) (s ∷ synced) (w ∷ written) choice p_length w_length zero free =
    ap (λ (b : Bool). cond b (chosen_byte (first_choice choice) s w) s) free
chosen_settled (p ∷ pending) (s ∷ synced) (w ∷ written) choice p_length w_length (suc i) free =
    chosen_settled pending synced written (cond p (drop 1 choice) choice) (omega (arith, p_length))
    (omega (arith, w_length)) i free

-- the bytes of c at the pending places
taken : List Bool → List ℕ → List ℕ
taken [] c = []
taken (p ∷ pending) [] = []
taken (p ∷ pending) (x ∷ c) = cond p (x ∷ taken pending c) (taken pending c)

rest : (s x : ℕ) (synced c : List ℕ) (p : Bool) (pending : List Bool)
    → IsCombination (s ∷ synced) (p ∷ pending) (x ∷ c) → IsCombination synced pending c
rest s x synced c p pending is = record {
  fits = λ i. is.fits (suc i);
  same_length = omega (arith, is.same_length);
  settled = λ i free. is.settled (suc i) free;
}

-- each image is made by a choice
chosen-taken : (pending : List Bool) (synced written c : List ℕ) → length pending ≡ length synced
    → length written ≡ length synced → IsCombination synced pending c
    → chosen pending synced written (taken pending c) ≡ c
unfolding taken
chosen-taken [] synced written [] p_length w_length is = refl
chosen-taken [] synced written (x ∷ c) p_length w_length is = absurd
    (omega (arith, p_length, is.same_length))
chosen-taken (p ∷ pending) [] written c p_length w_length is = absurd (omega (arith, p_length))
chosen-taken (p ∷ pending) (s ∷ synced) [] c p_length w_length is = absurd (omega (arith, w_length))
chosen-taken (p ∷ pending) (s ∷ synced) (w ∷ written) [] p_length w_length is = absurd
    (omega (arith, is.same_length))
chosen-taken (true ∷ pending) (s ∷ synced) (w ∷ written) (x ∷ c) p_length w_length is =
    let head : chosen_byte x s w ≡ x = cond-true (ltb x 256) x (cond (eqb x 257) w s)
    (lt-ltb x 256 (is.fits zero)) in
    (λ k. head k ∷ chosen-taken pending synced written c (omega (arith, p_length))
    (omega (arith, w_length)) (rest s x synced c true pending is) k)
chosen-taken (false ∷ pending) (s ∷ synced) (w ∷ written) (x ∷ c) p_length w_length is =
    (λ k. sym (is.settled zero refl) k ∷ chosen-taken pending synced written c
    (omega (arith, p_length)) (omega (arith, w_length)) (rest s x synced c false pending is) k)

-- the bytes at the pending places are bytes
taken_fits : (pending : List Bool) (c : List ℕ) → AreBytes c → AreBytes (taken pending c)
unfolding taken
taken_fits [] c fits = AreBytes-none
taken_fits (p ∷ pending) [] fits = AreBytes-none
taken_fits (true ∷ pending) (x ∷ c) fits = AreBytes-cons x (taken pending c) (fits 0)
    (taken_fits pending c (λ i. fits (suc i)))
taken_fits (false ∷ pending) (x ∷ c) fits = taken_fits pending c (λ i. fits (suc i))

pub each_image_chosen : (pending : List Bool) (synced written c : List ℕ) → length pending
    ≡ length synced → length written ≡ length synced → IsCombination synced pending c
    → (choice : List ℕ) × AreBytes choice × (chosen pending synced written choice ≡ c)
each_image_chosen pending synced written c p_length w_length is = (
  taken pending c,
  taken_fits pending c is.fits,
  chosen-taken pending synced written c p_length
      w_length is,
)
