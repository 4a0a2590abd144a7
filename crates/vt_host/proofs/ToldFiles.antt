-- What files by name tell.
use Rattle.std.proofs.Common.{◌≡◌, ℕ, Bool, true, false, ◌&&◌, List, length, take, min, refl, ◌∙◌, ap}
use Rattle.std.proofs.Math.Nat.{min_comm}
use Rattle.std.proofs.lemmas.Bool.{and_parts}
use Rattle.std.proofs.lemmas.List.{take_min}
use Rattle.std.specs.Prelude.{Option, Some, Result, Ok, Err, IfOk, IsTrue}
use Rattle.vt_disk.specs.Disk.{part}
use Rattle.vt_host.specs.ToldFiles.{FrontOf, content_told}
use Rattle.vt_host.specs.Untold.{untold}

-- the front of a file, up to a bound
pub front_of : (bytes : List ℕ) (len bound : ℕ) → len ≡ length bytes
    → take (min len bound) bytes ≡ take bound bytes
front_of bytes len bound same = ap (λ (k : ℕ). take k bytes)
    (ap (λ (k : ℕ). min k bound) same ∙ min_comm (length bytes) bound) ∙ take_min bound bytes

-- what was read of a file that was opened and measured is the front of what stands there
pub front_read : (stood : Option (List ℕ)) (opened measured read buf : List ℕ) (len bound : ℕ)
    → stood ≡ Some opened → measured ≡ opened → len ≡ length measured → read ≡ measured
    → buf ≡ part 0 (min len bound) read → FrontOf stood bound buf
front_read stood opened measured read buf len bound stands same long again is = (
  opened,
  stands,
  is
      ∙ ap (λ (l : List ℕ). part 0 (min len bound) l) (again ∙ same)
      ∙ front_of opened len bound (long ∙ ap (λ (l : List ℕ). length l) same),
)

told_is : (t : Bool) (stood : Option (List ℕ)) → IsTrue t → content_told t stood ≡ stood
told_is true stood tells = refl
told_is false stood tells = untold tells

-- what was read is the front of what stands there, where that is told
pub content_read : {E : Type 0} (tells still : Bool) (r : Result (List ℕ) E)
    (stood : Option (List ℕ)) (bound : ℕ)
    → IfOk r (λ bytes. IsTrue tells → IsTrue still → FrontOf stood bound bytes)
    → IfOk r (λ bytes. IsTrue (tells && still)
    → FrontOf (content_told (tells && still) stood) bound bytes)
content_read tells still (Ok bytes) stood bound read = λ t.
    let both = and_parts tells still t in
    let front = read both.0 both.1 in
    (front.0, told_is (tells && still) stood t ∙ front.1, front.2)
content_read tells still (Err e) stood bound read = tt
