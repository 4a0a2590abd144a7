-- Why a store isn't found or isn't in use is told by two values that differ.
use Rattle.std.proofs.Common.{◌≡◌, ◌≢◌, ⊎_elim, inl, inr, ℕ, ◌+◌, List, [], length, Some, Err, sym, ◌∙◌, ap, subst, arith}
use Rattle.std.specs.Prelude.{slice_index, sum}
use Rattle.std.proofs.lemmas.List.{length-map}
use Rattle.std.proofs.lemmas.List.Sums.{sum_by-take-le}
use Rattle.vt_base.specs.declared.mount.MountBad.{MountBad}
use Rattle.vt_base.specs.declared.mount.MountField.{MountField}
use Rattle.vt_recover.specs.declared.devices.Devices.{Devices}
use Rattle.vt_core.specs.Files.{PerDevice}
use Rattle.vt_core.specs.Mounting.{devices_in, tables_in}
use Rattle.vt_recover.specs.Opening.{IsFoundSection}
use Rattle.vt_core.specs.Opening.{TestsHeads, buckets_in_each}
use Rattle.vt_core.specs.Refusals.{IsRefusedMount, PassesOrRefuses, wrong_head}
use Rattle.vt_recover.specs.Refusals.{SectionIsRefused}
use Rattle.vt_recover.proofs.Lists.{index_map}
use Rattle.vt_recover.proofs.Zips.{zip_beside}
use Rattle.vt_disk.specs.Members.{DiskOf}
use Rattle.vt_isect.specs.Section.{SectionState}
use Rattle.vt_log.specs.Log.{LogState}
use Rattle.vt_model.specs.Places.{Setup, first_bucket}
use Rattle.vt_part.specs.Parts.{disk_of}
use Rattle.vt_part.specs.Table.{Table}
use Rattle.vt_mount_errors.specs.MountErrors.{NamesTwo}
use Rattle.vt_maintain.specs.Opened.{AreOpened, RefusesOpening, RefusesUse}

-- what the law says that is called
abbrev pub StoreNamesTwo : {D : Type 0} → DiskOf D → Type 0
StoreNamesTwo {D} disk = (score : List ℕ → List ℕ) (tables : List Table) (devices : PerDevice D)
    (c : Setup) (bad : MountBad) → IsRefusedMount score disk tables devices c bad → NamesTwo bad

-- more than a limit isn't the limit
passes_two : (field : MountField) (limit first : ℕ) (counts : List ℕ) (bad : MountBad)
    → PassesOrRefuses field limit first counts (Err bad) → NamesTwo bad
passes_two field limit first counts bad it =
    let above : sum counts ≢ limit = λ same.
    absurd (omega (arith, it.1.past, same, sum_by-take-le (λ (n : ℕ). n) counts (it.0 + 1))) in
    subst NamesTwo (sym it.2) above

module _ {D : Type 0} (disk : DiskOf D) (store : StoreNamesTwo disk) (devices : Devices D) where
  -- the setup of these sections
  abbrev setup : List (SectionState D) → Setup
  setup sections = record { arenas = []; versions = []; base = 0; sections = buckets_in_each sections }

  abbrev IsCause : Setup → MountBad → Type 0
  IsCause c bad = IsRefusedMount (λ (block : List ℕ). block) disk (tables_in devices)
      (devices_in devices) c bad

  by_store : (c : Setup) (bad : MountBad) → IsCause c bad → NamesTwo bad
  by_store c bad cause = store (λ block. block) (tables_in devices) (devices_in devices) c bad cause

  many : length (devices_in devices).partitions ≡ length devices.parts.items
  many = length-map devices.parts.items (λ part. disk_of part)

  pub opening_two : (bad : MountBad) → RefusesOpening disk devices bad → NamesTwo bad
  opening_two bad it = ⊎_elim
      (λ memory. by_store (setup []) bad (inr (inl memory)))
      (λ rest. ⊎_elim
      (λ arenas. passes_two _ _ _ _ bad arenas)
      (λ rest. ⊎_elim
      (λ log. by_store (setup []) bad (inr (inr (inl log))))
      (λ rest. ⊎_elim
      (λ section. by_store (setup []) bad (inr (inr (inr (inl
      (subst (λ (n : ℕ). SectionIsRefused disk n devices.sections.items bad) (sym many) section))))))
      (λ buckets. passes_two _ _ _ _ bad buckets.2)
      rest) rest) rest) it

  heads_two : (score : List ℕ → List ℕ) (log : LogState D) (sections : List (SectionState D))
      (bad : MountBad) → AreOpened score disk devices log sections
      → TestsHeads {U = Unit {0}} (length devices.parts.items) sections (Err bad) → NamesTwo bad
  heads_two score log sections bad opened it =
      let s = it.1 in
      let counts = buckets_in_each sections in
      let d = zip_beside (IsFoundSection disk) devices.sections.items sections it.0 s opened.sections_are
      it.2 in
      let count : slice_index counts it.0 ≡ s.buckets =
      index_map (λ t. t.buckets) sections it.0 s it.2 in
      let at : length (devices_in devices).partitions + it.0
      ≡ length devices.parts.items + it.0 = ap (λ (n : ℕ). n + it.0) many in
      let wrong : wrong_head (length (devices_in devices).partitions + it.0)
      (first_bucket counts it.0) (slice_index counts it.0) (sum counts) s.head ≡ Some bad =
      ap (λ (p : ℕ). wrong_head p (first_bucket counts it.0) (slice_index counts it.0) (sum counts)
      s.head) at
      ∙ ap (λ (n : ℕ). wrong_head (length devices.parts.items + it.0) (first_bucket counts it.0) n
      (sum counts) s.head) count
      ∙ it.3 in
      by_store (setup sections) bad (inr (inr (inr (inr (inr (inr (inl (record {
        i = it.0;
        head = s.head;
        read = record { device = d.0; at = d.1; read = λ tells. (s.name, d.2.head tells) };
        wrong = wrong;
      }))))))))

  pub use_two : (score : List ℕ → List ℕ) (bad : MountBad) → RefusesUse score disk devices bad
      → NamesTwo bad
  use_two score bad it = ⊎_elim (opening_two bad)
      (λ heads. heads_two score heads.0 heads.1 bad heads.2 heads.3) it
