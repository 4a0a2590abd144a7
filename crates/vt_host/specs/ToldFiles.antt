-- What files by name tell.
use Rattle.std.specs.Prelude.{◌≡◌, ℕ, Bool, true, false, List, Option, Some, None, take}

-- the bytes are those of the file that stands there, up to a bound
abbrev pub FrontOf : (stood : Option (List ℕ)) (bound : ℕ) (bytes : List ℕ) → Type 0
FrontOf stood bound bytes = (file : List ℕ) × (stood ≡ Some file) × (bytes ≡ take bound file)

-- what stands under a name, where it is told
abbrev pub content_told : (tells : Bool) → Option (List ℕ) → Option (List ℕ)
content_told false stood = None
content_told true stood = stood
