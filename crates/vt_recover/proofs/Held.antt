-- Devices that hold what they held, and which of them failed.
use Rattle.std.proofs.Common.{◌≡◌, ◌≢◌, ℕ, zero, suc, List, ◌∷◌, refl, arith, ◌+◌, ◌++◌, length, sym, ◌∙◌, ap}
use Rattle.std.specs.Prelude.{slice_index}
use Rattle.std.specs.List.{AllZip}
use Rattle.vt_base.specs.Faults.{HasRisen}
use Rattle.vt_base.specs.declared.mount.MountBad.{MountBad}
use Rattle.vt_base.specs.declared.mount.MountBad.TheVariants.{Fault, NotFormatted, TooSmall, DuplicateName, Disagree, Damaged, NoMemory}
use Rattle.vt_disk.specs.Disk.{AreAmong}
use Rattle.vt_disk.specs.Calls.{OnlyReads}
use Rattle.vt_disk.specs.Members.{DiskOf}
use Rattle.vt_log.specs.Answers.{HoldTheSame}
use Rattle.vt_log.specs.Faults.{OneHasRisen}
use Rattle.vt_recover.specs.Refusals.{CountsRefusal}
use Rattle.vt_recover.proofs.Zips.{zip_at, zip_implies, zip_same, zip_self}
use Rattle.std.proofs.lemmas.List.{length-map}
use Rattle.vt_log.proofs.Lists.{slice_get_other}
use Rattle.vt_recover.proofs.Counts.{risen_behind, risen_front}

-- one device holds what it held
pub record IsHeld {D : Type 0} (disk : DiskOf D) (old new : D) : Type 0 where
  pub bytes : disk.bytes new ≡ disk.bytes old
  pub size : disk.size new ≡ disk.size old
  pub images : AreAmong (disk.images new) (disk.images old)

pub held_reads : {D : Type 0} (disk : DiskOf D) (n : ℕ) (old new : D) → OnlyReads disk n old new → IsHeld disk old new
held_reads disk n old new reads = record { bytes = reads.bytes; size = reads.size; images = reads.images }

pub held_still : {D : Type 0} (disk : DiskOf D) (d : D) → IsHeld disk d d
held_still disk d = record { bytes = refl; size = refl; images = λ c it. it }

pub hold_zip : {D : Type 0} (disk : DiskOf D) (old new : List D) → AllZip (IsHeld disk) old new → HoldTheSame disk old new
hold_zip {D} disk old new it = record {
  bytes_are = zip_same disk.bytes disk.bytes old new (zip_implies (IsHeld disk) (λ x y. disk.bytes y ≡ disk.bytes x) old new (λ x y h. h.bytes) it);
  sizes_are = zip_same disk.size disk.size old new (zip_implies (IsHeld disk) (λ x y. disk.size y ≡ disk.size x) old new (λ x y h. h.size) it);
  images_are = λ i before after here there. (zip_at (IsHeld disk) old new i before after it here there).images;
}

pub hold_still : {D : Type 0} (disk : DiskOf D) (ds : List D) → HoldTheSame disk ds ds
hold_still disk ds = hold_zip disk ds ds (zip_self (IsHeld disk) ds (held_still disk))

-- ---- counts of failed calls

-- the first of some counts rose
pub risen_first : (a b : ℕ) (more : List ℕ) → HasRisen a b → OneHasRisen (a ∷ more) (b ∷ more)
risen_first a b more rose = record {
  many = refl;
  which = 0;
  within = omega arith;
  rose = rose;
  others = λ i. other_at i;
}
  where
    other_at : (i : ℕ) → i ≢ 0 → slice_index (b ∷ more) i ≡ slice_index (a ∷ more) i
    other_at zero other = absurd (other refl)
    other_at (suc i) other = refl

pub counts_in : (bad : MountBad) (old new more less : List ℕ) → (OneHasRisen old new → OneHasRisen less more) → (new ≡ old → more ≡ less) → CountsRefusal bad old new → CountsRefusal bad less more
counts_in Fault old new more less risen stays it = risen it
counts_in (NotFormatted part) old new more less risen stays it = stays it
counts_in (TooSmall part len need) old new more less risen stays it = stays it
counts_in (DuplicateName first second) old new more less risen stays it = stays it
counts_in (Disagree part field found want) old new more less risen stays it = stays it
counts_in (Damaged site want found) old new more less risen stays it = stays it
counts_in NoMemory old new more less risen stays it = stays it

-- counts of some of the devices
pub counts_less : (bad : MountBad) (less old new : List ℕ) → CountsRefusal bad old new → CountsRefusal bad (less ++ old) (less ++ new)
counts_less bad less old new it = counts_in bad old new (less ++ new) (less ++ old) (risen_behind less old new) (λ e. ap (λ (l : List ℕ). less ++ l) e) it

pub counts_more : (bad : MountBad) (more old new : List ℕ) → CountsRefusal bad old new → CountsRefusal bad (old ++ more) (new ++ more)
counts_more bad more old new it = counts_in bad old new (new ++ more) (old ++ more) (risen_front old new more) (λ e. ap (λ (l : List ℕ). l ++ more) e) it

pub held_many : {D : Type 0} (disk : DiskOf D) (old new : List D) → HoldTheSame disk old new → length new ≡ length old
held_many disk old new it = sym (length-map new disk.size) ∙ ap length it.sizes_are ∙ length-map old disk.size

pub held_twice : {D : Type 0} (disk : DiskOf D) (a b c : List D) → HoldTheSame disk a b → HoldTheSame disk b c → HoldTheSame disk a c
held_twice disk a b c ab bc = record {
  bytes_are = bc.bytes_are ∙ ab.bytes_are;
  sizes_are = bc.sizes_are ∙ ab.sizes_are;
  images_are = λ i before after here there.
      let d = slice_get_other b c i after (held_many disk b c bc) there in
      λ file it. ab.images_are i before d.0 here d.1 file (bc.images_are i d.0 after d.1 there file it);
}
