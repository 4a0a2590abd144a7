-- What mounting finds.
use Rattle.std.proofs.Common.{◌≡◌, ◌⊎◌, ⊎_elim, ℕ, ◌≤◌, true, false, None, List, length, refl, sym, ap, subst, arith}
use Rattle.std.specs.Prelude.{nat_lt, ◌==◌, ◌||◌}
use Rattle.std.proofs.lemmas.Bool.Decides.{nat_tests}
use Rattle.vt_bloom.specs.declared.error.BloomError.{BloomError}
use Rattle.vt_bloom.specs.declared.error.BloomError.TheVariants.{Fault, NoMemory}
use Rattle.vt_bloom.specs.Faults.{first_bad_filter, RefusesFilterMount}
use Rattle.vt_bloom.specs.Frame.{Saved, IsFilterFrame, HasSaved, m_in, k_in, current_of}
use Rattle.vt_bloom.specs.Size.{filter_len, IsLargest}
use Rattle.vt_bloom.proofs.Frames.{size_unique}
use Rattle.vt_bloom.proofs.Powers.{filter_len-mono}

-- the tests of a filter's frame
frame_passes : (saved : Saved) (frame : List ℕ) → IsFilterFrame saved frame
    → first_bad_filter saved.filter.m frame ≡ None
frame_passes saved frame is =
    let counts = is.filter.counts in
    let is_m : (m_in frame == saved.filter.m) ≡ true = let h = is.m in grind (arith, nat_tests) in
    let is_k : (k_in frame == 0 || nat_lt 32 (k_in frame)) ≡ false =
    let h = is.k in grind (arith, nat_tests) in
    rw (is.magic, is.version, is_m, is_k) refl

-- a device with a filter isn't refused for what stands on it
pub refused_saved : (saved : Saved) (file : List ℕ) (size : ℕ) (bad : BloomError)
    → length file ≡ size → HasSaved saved file → RefusesFilterMount file size bad
    → (bad ≡ Fault) ⊎ (bad ≡ NoMemory)
refused_saved saved file size bad whole is refuses = ⊎_elim
    (λ short.
    let least : filter_len 16 ≤ filter_len saved.filter.m =
    filter_len-mono 16 saved.filter.m is.largest.least in
    absurd (omega (arith, short.0, whole, is.largest.fits, least)))
    (λ others. ⊎_elim
    (λ now. now.1)
    (λ tested.
    let same : tested.0 ≡ saved.filter.m =
    size_unique (length file) tested.0 saved.filter.m (subst (λ (n : ℕ). IsLargest n tested.0)
    (sym whole) tested.1) is.largest in
    absurd (cc (
      ap (λ (m : ℕ). first_bad_filter m (current_of m file)) same,
      tested.2,
      frame_passes saved
          (current_of saved.filter.m file) is.frame,
    )))
    others)
    refuses
