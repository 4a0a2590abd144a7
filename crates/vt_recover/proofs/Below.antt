-- Laws of the layers below.
use Rattle.std.proofs.Common.{◌≡◌, ℕ, ◌<◌, List, length}
use Rattle.std.specs.Prelude.{◌↔◌}
use Rattle.vt_bloom.specs.Bits.{Filter, HasBitsOf, MarksScore}
use Rattle.vt_model.specs.Places.{LiesIn, section_of_bucket}

-- laws of the layers below
abbrev pub HaveRanges : Type 0
HaveRanges = (sections : List ℕ) (i bucket : ℕ) → i < length sections → (section_of_bucket sections bucket ≡ i) ↔ LiesIn sections i bucket

abbrev pub MarkedStay : Type 0
MarkedStay = (old new : Filter) (score other : List ℕ) → MarksScore old score new → HasBitsOf old other → HasBitsOf new other

abbrev pub AreMarked : Type 0
AreMarked = (old new : Filter) (score : List ℕ) → MarksScore old score new → HasBitsOf new score
