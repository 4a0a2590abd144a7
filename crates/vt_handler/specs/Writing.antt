-- Replies on their way out.
use Rattle.std.specs.Prelude.{◌≡◌, ◌++◌, ℕ, List, Result, Ok, Err}
use Rattle.vt_base.specs.declared.why.Failed.{Failed}

-- Bytes went out, and with those that still wait they are what waited before and what was said;
-- where a write failed, they begin it.
abbrev pub WritesOut : {T : Type 0} → Result T Failed
    → (written waiting written' waiting' said : List ℕ) → Type 0
WritesOut (Ok done) written waiting written' waiting' said =
    (out : List ℕ) × (written' ≡ written ++ out) × (out ++ waiting' ≡ waiting ++ said)
WritesOut (Err failed) written waiting written' waiting' said =
    (out : List ℕ) × (written' ≡ written ++ out)
    × ((unsaid : List ℕ) × (out ++ unsaid ≡ waiting ++ said))
