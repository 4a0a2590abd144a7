-- Counts of failed calls of the log's disks and of a section's.
use Rattle.std.proofs.Common.{◌≡◌, ◌⊎◌, inl, inr, ℕ, List, true, false, subst}
use Rattle.std.specs.Prelude.{Bool, MatchBool, OnOk, OnErr, Result, Ok, Err}
use Rattle.vt_base.specs.Faults.{HasRisen}
use Rattle.vt_isect.specs.Faults.{is_section_fault}
use Rattle.vt_isect.specs.declared.error.ShardErr.{ShardErr}
use Rattle.vt_isect.specs.declared.error.ShardErr.TheVariants.{Fault}
use Rattle.vt_log.specs.Faults.{OneHasRisen}

-- the counts of the log's disks before and after, and that of the section's
abbrev pub RoseEither : (logs logs' : List ℕ) → (one one' : ℕ) → Type 0
RoseEither logs logs' one one' = (OneHasRisen logs logs' × (one' ≡ one)) ⊎ ((logs' ≡ logs) × HasRisen one one')

abbrev pub BothStay : (logs logs' : List ℕ) → (one one' : ℕ) → Type 0
BothStay logs logs' one one' = (logs' ≡ logs) × (one' ≡ one)

-- a call of the log failed or not, and the section has made none that failed
pub log_counts : (b : Bool) (logs logs' : List ℕ) (one one' : ℕ) → one' ≡ one → MatchBool b (OneHasRisen logs logs') (logs' ≡ logs)
    → MatchBool b (RoseEither logs logs' one one') (BothStay logs logs' one one')
log_counts true logs logs' one one' same rose = inl (rose, same)
log_counts false logs logs' one one' same stays = (stays, same)

-- and the other way
pub section_counts : (b : Bool) (logs logs' : List ℕ) (one one' : ℕ) → logs' ≡ logs → MatchBool b (HasRisen one one') (one' ≡ one)
    → MatchBool b (RoseEither logs logs' one one') (BothStay logs logs' one one')
section_counts true logs logs' one one' same rose = inr (same, rose)
section_counts false logs logs' one one' same stays = (same, stays)

-- the section's call failed
pub section_rose : (bad : ShardErr) (old new : ℕ) → bad ≡ Fault → MatchBool (is_section_fault bad) (HasRisen old new) (new ≡ old) → HasRisen old new
section_rose bad old new is counts = subst (λ (b : ShardErr). MatchBool (is_section_fault b) (HasRisen old new) (new ≡ old)) is counts

-- ---- answers

pub on_ok : {T E P Q : Type 0} (r : Result T E) → (P → Q) → OnOk r P → OnOk r Q
on_ok (Ok x) f p = f p
on_ok (Err e) f p = tt

pub on_err : {T E P Q : Type 0} (r : Result T E) → (P → Q) → OnErr r P → OnErr r Q
on_err (Ok x) f p = tt
on_err (Err e) f p = f p
