-- The store in memory has no archive.
use Rattle.std.proofs.Common.{◌≡◌, ⊎_elim, inl, inr, ℕ, Bool, true, false, cond, List, [], length, get_or, Some, None, Ok, Err, refl, ap, arith}
use Rattle.std.specs.Str.{bytes_eq}
use Rattle.std.proofs.lemmas.Slice.Eq.{bytes_eq-Decides}
use Rattle.vt_base.specs.Protocol.{RMessage, read, r_read, r_error, why_words}
use Rattle.vt_base.specs.declared.TheConstants.{MAX_BLOCK}
use Rattle.vt_base.specs.declared.why.Why.{Why}
use Rattle.vt_base.specs.declared.why.Why.TheVariants as whys
use Rattle.vt_model.specs.Answer.{lends}
use Rattle.vt_handler.specs.Serving.{answered}
use Rattle.run_base.specs.declared.error.CommandError.TheVariants.{BadArchive}
use Rattle.run_base.specs.Blocks.{AnswersOfEmptyStore, refusal_for}
use Rattle.run_archives.specs.Vacfs.{IsUnmade}

abbrev first : List ℕ → ℕ
first text = get_or text 0 0

-- another reason has another text
absent : (why : Why) → why_words why ≡ why_words whys.Absent → why ≡ whys.Absent
absent whys.Absent is = refl
absent whys.BadType is = let no : 8 ≡ 13 = ap length is in absurd (omega (arith, no))
absent whys.TooBig is = let no : 98 ≡ 110 = ap first is in absurd (omega (arith, no))
absent whys.TooSmall is = let no : 15 ≡ 13 = ap length is in absurd (omega (arith, no))
absent whys.Collision is = let no : 15 ≡ 13 = ap length is in absurd (omega (arith, no))
absent whys.IndexFull is = let no : 10 ≡ 13 = ap length is in absurd (omega (arith, no))
absent whys.ArenasFull is = let no : 11 ≡ 13 = ap length is in absurd (omega (arith, no))
absent whys.DiskFault is = let no : 10 ≡ 13 = ap length is in absurd (omega (arith, no))
absent (whys.Stopped call) is = let no : 115 ≡ 110 = ap first is in absurd (omega (arith, no))
absent (whys.Damaged site want found) is =
    let no : 98 ≡ 110 = ap first is in absurd (omega (arith, no))
absent whys.NoMemory is = let no : 9 ≡ 13 = ap length is in absurd (omega (arith, no))

module _ (score_of : List ℕ → List ℕ) (s : List ℕ) where
  -- the reply, by whether the score is that of no bytes
  abbrev reply_by : Bool → RMessage
  reply_by b = (lends MAX_BLOCK (cond b (Some []) None)).reply

  pub empty_unmade : (block : List ℕ)
      → AnswersOfEmptyStore score_of (read s 1 MAX_BLOCK) (answered (λ (bytes : List ℕ). r_read bytes) (Ok block))
      → IsUnmade score_of s (Err (BadArchive 0))
  empty_unmade block it = ⊎_elim (of (bytes_eq s (score_of [])) refl) (λ no. absurd (cc)) it
    where
      of : (b : Bool) → bytes_eq s (score_of []) ≡ b → r_read block ≡ reply_by b
          → IsUnmade score_of s (Err (BadArchive 0))
      of true same is = inr (inl ((bytes_eq-Decides s (score_of [])).0 same, refl))
      of false other is = absurd (cc)

  pub refused_unmade : (why : Why)
      → AnswersOfEmptyStore score_of (read s 1 MAX_BLOCK) (answered (λ (bytes : List ℕ). r_read bytes) (Err why))
      → IsUnmade score_of s (Err (refusal_for why))
  refused_unmade why it = ⊎_elim
      (of (bytes_eq s (score_of [])) refl)
      (λ memory. let is : why ≡ whys.NoMemory = cc in inl (ap (λ (w : Why). Err (refusal_for w)) is)) it
    where
      of : (b : Bool) → bytes_eq s (score_of []) ≡ b → r_error (why_words why) ≡ reply_by b
          → IsUnmade score_of s (Err (refusal_for why))
      of true same is = absurd (cc)
      of false other is =
          let texts : why_words why ≡ why_words whys.Absent = cc in
          inr (inr (
            λ same. let no = (bytes_eq-Decides s (score_of [])).1 same in cc,
            ap (λ (w : Why). Err (refusal_for w)) (absent why texts),
          ))
