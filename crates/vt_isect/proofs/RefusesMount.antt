-- A section that is there is found.
use Rattle.std.proofs.Common.{◌≡◌, ◌⊎◌, ⊎_elim, ℕ, ◌≤◌, Bool, true, false, if◌then◌else◌, List, ◌++◌, drop, Some, None, sym, ◌∙◌, ap, subst, arith, take-append-drop}
use Rattle.std.specs.Prelude.{nat_lt}
use Rattle.std.proofs.lemmas.Bool.{cases_Bool}
use borrow.Author.Tests.{ltb-true}
use Rattle.vt_isect.specs.declared.error.SectBad.{SectBad}
use Rattle.vt_isect.specs.declared.error.SectBad.TheVariants.{Fault, TooSmall, NoMemory}
use Rattle.vt_isect.specs.declared.head.Head.{Head}
use Rattle.vt_isect.specs.Faults.{first_bad_section, RefusesSectionMount}
use Rattle.vt_isect.specs.Head.{section_head_bytes, IsHeadFrame}

-- the frame of a head passes each test
passes : (name : List ℕ) (head : Head) (rest : List ℕ) (len : ℕ) → 41472 ≤ len
    → first_bad_section len (section_head_bytes name head ++ rest) ≡ None
passes name head rest len room = ⊎_elim
    (λ (low : nat_lt len 41472 ≡ true).
    absurd (let less = ltb-true len 41472 low in omega (arith, room, less)))
    (λ (high : nat_lt len 41472 ≡ false).
    ap (λ (b : Bool). if b then Some (TooSmall len 41472) else None) high)
    (cases_Bool (nat_lt len 41472))

head_passes : (name : List ℕ) (head : Head) (frame : List ℕ) (len : ℕ) → 41472 ≤ len
    → IsHeadFrame name head frame → first_bad_section len frame ≡ None
head_passes name head frame len room is =
    let whole : section_head_bytes name head ++ drop 91 frame ≡ frame =
    ap (λ (l : List ℕ). l ++ drop 91 frame) (sym is.spelling) ∙ take-append-drop 91 frame in
    subst (λ (f : List ℕ). first_bad_section len f ≡ None) whole
    (passes name head (drop 91 frame) len room)

-- so that only a call that fails, or memory, is a reason to refuse it
pub only_calls_fail : (name : List ℕ) (head : Head) (frame : List ℕ) (len : ℕ) (bad : SectBad)
    → 41472 ≤ len → IsHeadFrame name head frame → RefusesSectionMount len frame bad
    → (bad ≡ Fault) ⊎ (bad ≡ NoMemory)
only_calls_fail name head frame len bad room is refuses = ⊎_elim
    (λ (first : first_bad_section len frame ≡ Some bad).
    absurd (none (sym (head_passes name head frame len room is) ∙ first)))
    (λ it. it.1)
    refuses
  where
    none : None ≡ Some bad → ⊥
    none e = cc
