-- What opening the sections and the filter leaves of their devices.
use Rattle.std.proofs.Common.{◌≡◌, ℕ, suc, Bool, true, false, List, [], ◌∷◌, ◌++◌, length, map, reverse, take, drop, Option, Some, None, refl, sym, ◌∙◌, ap, subst, arith}
use Rattle.std.specs.Prelude.{slice_get, MatchBool}
use Rattle.std.specs.List.{AllZip}
use Rattle.std.proofs.lemmas.List.{append-nil, drop_all, map-append, reverse-append, reverse-reverse, take_all}
use Rattle.vt_base.specs.Faults.{HasRisen}
use Rattle.vt_bloom.specs.declared.error.BloomError.{BloomError}
use Rattle.vt_bloom.specs.declared.error.BloomError.TheVariants as bloom_error
use Rattle.vt_bloom.specs.Faults.{is_filter_fault}
use Rattle.vt_disk.specs.Calls.{OnlyReads}
use Rattle.vt_disk.specs.Members.{DiskOf}
use Rattle.vt_isect.specs.declared.error.SectBad.{SectBad}
use Rattle.vt_isect.specs.declared.error.SectBad.TheVariants as sect_bad
use Rattle.vt_isect.specs.Faults.{refuses_by_fault}
use Rattle.vt_isect.specs.Section.{SectionState}
use Rattle.vt_log.specs.Answers.{HoldTheSame}
use Rattle.vt_log.specs.Faults.{OneHasRisen}
use Rattle.vt_shard.specs.Shard.{ShardState}
use Rattle.vt_recover.specs.Opening.{IsFoundSection, IsShardMade}
use Rattle.vt_recover.specs.Refusals.{CountsRefusal}
use Rattle.vt_mount_errors.specs.MountErrors.{of_filter, of_section}
use Rattle.vt_recover.proofs.Held.{IsHeld, held_reads, held_still, hold_zip, risen_first}
use Rattle.vt_recover.proofs.Opened.{IsSplitAt, split_at}
use Rattle.vt_recover.proofs.Zips.{zip_append, zip_implies, zip_length, zip_map, zip_same, zip_self}
use Rattle.vt_recover.proofs.Counts.{risen_behind}

-- ---- lists

pub no_items : {X : Type 0} (xs : List X) → length xs ≡ 0 → xs ≡ []
no_items [] none = refl
no_items (x ∷ xs) none = absurd (omega (arith, none))

-- a vector whose items were all written again
pub items_after : {X : Type 0} (len : ℕ) (old new : List X) → len ≡ length old → length new ≡ length old → take len (new ++ drop (length new) old) ≡ new
items_after {X} len old new is many =
    let whole : new ++ drop (length new) old ≡ new = ap (λ (l : List X). new ++ l) (drop_all (length new) old (omega (arith, many))) ∙ append-nil new in
    ap (take len) whole ∙ take_all len new (omega (arith, is, many))

-- nothing else is a clone of `None`
pub only_none : (P : Option ℕ → Type 0) → ((x : ℕ) → P (Some x) → ⊥) → (y : Option ℕ) → P y → y ≡ None
only_none P never None it = refl
only_none P never (Some x) it = absurd (never x it)

pub at_seam : {X : Type 0} (xs : List X) (x : X) (ys : List X) → slice_get (xs ++ x ∷ ys) (length xs) ≡ Some x
at_seam [] x ys = refl
at_seam (y ∷ xs) x ys = let e : length (y ∷ xs) ≡ suc (length xs) = omega arith in ap (slice_get (y ∷ (xs ++ x ∷ ys))) e ∙ at_seam xs x ys

-- ---- counts of faults

lift : (b : Bool) (x y : ℕ) (old new : List ℕ) → (HasRisen x y → OneHasRisen old new) → (y ≡ x → new ≡ old) → MatchBool b (HasRisen x y) (y ≡ x) → MatchBool b (OneHasRisen old new) (new ≡ old)
lift true x y old new risen same it = risen it
lift false x y old new risen same it = same it

section_counts : (part : ℕ) (bad : SectBad) (old new : List ℕ) → MatchBool (refuses_by_fault bad) (OneHasRisen old new) (new ≡ old) → CountsRefusal (of_section part bad) old new
section_counts part sect_bad.Fault old new it = it
section_counts part (sect_bad.TooSmall len need) old new it = it
section_counts part sect_bad.NotFormatted old new it = it
section_counts part (sect_bad.Torn field found want) old new it = it
section_counts part sect_bad.NoMemory old new it = it

filter_counts : (part : ℕ) (bad : BloomError) (old new : List ℕ) → MatchBool (is_filter_fault bad) (OneHasRisen old new) (new ≡ old) → CountsRefusal (of_filter part bad) old new
filter_counts part bloom_error.Fault old new it = it
filter_counts part (bloom_error.TooSmall len need) old new it = it
filter_counts part bloom_error.NotFormatted old new it = it
filter_counts part (bloom_error.Torn field found want) old new it = it
filter_counts part bloom_error.NoMemory old new it = it

pub one_filter : (part : ℕ) (bad : BloomError) (old new : ℕ) → MatchBool (is_filter_fault bad) (HasRisen old new) (new ≡ old) → CountsRefusal (of_filter part bad) (old ∷ []) (new ∷ [])
one_filter part bad old new it =
    filter_counts part bad (old ∷ []) (new ∷ []) (lift (is_filter_fault bad) old new (old ∷ []) (new ∷ []) (λ rose. risen_first old new [] rose) (λ e. ap (λ (n : ℕ). n ∷ []) e) it)

-- ---- the sections

pub opened_held : {D : Type 0} (disk : DiskOf D) (devices : List D) (sections : List (SectionState D)) → AllZip (IsFoundSection disk) devices sections
    → AllZip (IsHeld disk) devices (map (λ s. s.disk) sections)
opened_held disk devices sections opens = zip_map (IsHeld disk) (λ s. s.disk) devices sections
    (zip_implies (IsFoundSection disk) (λ d s. IsHeld disk d s.disk) devices sections (λ d s it. held_reads disk 3 d s.disk it.reads) opens)

pub opened_faults : {D : Type 0} (disk : DiskOf D) (devices : List D) (sections : List (SectionState D)) → AllZip (IsFoundSection disk) devices sections
    → map disk.faults (map (λ s. s.disk) sections) ≡ map disk.faults devices
opened_faults disk devices sections opens = zip_same disk.faults disk.faults devices (map (λ s. s.disk) sections)
    (zip_map (λ d e. disk.faults e ≡ disk.faults d) (λ s. s.disk) devices sections
    (zip_implies (IsFoundSection disk) (λ d s. disk.faults s.disk ≡ disk.faults d) devices sections (λ d s it. it.faults) opens))

module _ {D : Type 0} (disk : DiskOf D) (all : List D) (sections : List (SectionState D)) (left rest : List D) (device after : D) (is : left ≡ rest ++ device ∷ [])
    (it : IsSplitAt (IsFoundSection disk) all sections left) where
  pub comes_next : slice_get all (length sections) ≡ Some device
  comes_next =
      let many : length sections ≡ length it.done = zip_length (IsFoundSection disk) it.done sections it.zip in
      ap (slice_get all) many ∙ ap (λ (l : List D). slice_get l (length it.done)) (split_at (IsFoundSection disk) all sections left rest device is it) ∙ at_seam it.done device (reverse rest)

  -- what is handed back
  back_is : (back waiting : List D) → waiting ≡ rest ++ after ∷ [] → back ≡ map (λ s. s.disk) sections ++ reverse waiting → back ≡ map (λ s. s.disk) sections ++ after ∷ reverse rest
  back_is back waiting w b = b ∙ ap (λ (l : List D). map (λ s. s.disk) sections ++ reverse l) w ∙ ap (λ (l : List D). map (λ s. s.disk) sections ++ l) (reverse-append rest (after ∷ []))

  pub back_held : (back waiting : List D) → waiting ≡ rest ++ after ∷ [] → back ≡ map (λ s. s.disk) sections ++ reverse waiting → OnlyReads disk 3 device after → HoldTheSame disk all back
  back_held back waiting w b reads = subst (λ (l : List D). HoldTheSame disk all l) (sym (back_is back waiting w b))
      (subst (λ (l : List D). HoldTheSame disk l (map (λ s. s.disk) sections ++ after ∷ reverse rest)) (sym (split_at (IsFoundSection disk) all sections left rest device is it))
      (hold_zip disk (it.done ++ device ∷ reverse rest) (map (λ s. s.disk) sections ++ after ∷ reverse rest)
      (zip_append (IsHeld disk) it.done (device ∷ reverse rest) (map (λ s. s.disk) sections) (after ∷ reverse rest) (opened_held disk it.done sections it.zip)
      (held_reads disk 3 device after reads, zip_self (IsHeld disk) (reverse rest) (held_still disk)))))

  pub back_counts : (part : ℕ) (bad : SectBad) (back waiting : List D) → waiting ≡ rest ++ after ∷ [] → back ≡ map (λ s. s.disk) sections ++ reverse waiting
      → MatchBool (refuses_by_fault bad) (HasRisen (disk.faults device) (disk.faults after)) (disk.faults after ≡ disk.faults device)
      → CountsRefusal (of_section part bad) (map disk.faults all) (map disk.faults back)
  back_counts part bad back waiting w b cause =
      let f = disk.faults in
      let less = map f it.done in
      let more = map f (reverse rest) in
      let old : less ++ f device ∷ more ≡ map f all =
      sym (map-append f it.done (device ∷ reverse rest)) ∙ ap (map f) (sym (split_at (IsFoundSection disk) all sections left rest device is it)) in
      let new : less ++ f after ∷ more ≡ map f back =
      ap (λ (l : List ℕ). l ++ f after ∷ more) (sym (opened_faults disk it.done sections it.zip)) ∙ sym (map-append f (map (λ s. s.disk) sections) (after ∷ reverse rest))
      ∙ ap (map f) (sym (back_is back waiting w b)) in
      let both : MatchBool (refuses_by_fault bad) (OneHasRisen (less ++ f device ∷ more) (less ++ f after ∷ more)) (less ++ f after ∷ more ≡ less ++ f device ∷ more) =
      lift (refuses_by_fault bad) (f device) (f after) (less ++ f device ∷ more) (less ++ f after ∷ more)
      (λ rose. risen_behind less (f device ∷ more) (f after ∷ more) (risen_first (f device) (f after) more rose)) (λ e. ap (λ (n : ℕ). less ++ n ∷ more) e) cause in
      subst (λ (l : List ℕ). CountsRefusal (of_section part bad) l (map f back)) old
      (subst (λ (l : List ℕ). CountsRefusal (of_section part bad) (less ++ f device ∷ more) l) new
      (section_counts part bad (less ++ f device ∷ more) (less ++ f after ∷ more) both))

-- ---- the shards

pub comes_after : {X Y : Type 0} (R : X → Y → Type 0) (all : List X) (made : List Y) (left rest : List X) (x : X) → left ≡ rest ++ x ∷ [] → IsSplitAt R all made left
    → slice_get all (length made) ≡ Some x
comes_after {X} R all made left rest x is it =
    let many : length made ≡ length it.done = zip_length R it.done made it.zip in
    ap (slice_get all) many ∙ ap (λ (l : List X). slice_get l (length it.done)) (split_at R all made left rest x is it) ∙ at_seam it.done x (reverse rest)

-- the shards that are made of sections have their disks
pub made_disks : {D : Type 0} (disk : DiskOf D) (lumps clean : ℕ) (sections : List (SectionState D)) (made : List (ShardState D)) → AllZip (IsShardMade disk lumps clean) sections made
    → map (λ s. s.section.disk) made ≡ map (λ s. s.disk) sections
made_disks {D} disk lumps clean sections made it = zip_same (λ s. s.disk) (λ s. s.section.disk) sections made
    (zip_implies (IsShardMade disk lumps clean) (λ t s. s.section.disk ≡ t.disk) sections made (λ t s m. ap (λ (z : ShardState D). z.section.disk) m.is) it)

-- want of memory hands back the devices of those that are made, and of the others
pub made_back : {D : Type 0} (disk : DiskOf D) (lumps clean : ℕ) (all : List (SectionState D)) (made : List (ShardState D)) (left rest : List (SectionState D)) (section : SectionState D)
    → left ≡ rest ++ section ∷ [] → IsSplitAt (IsShardMade disk lumps clean) all made left → (again : List (SectionState D)) → again ≡ rest ++ section ∷ []
    → (turned : List (SectionState D)) → turned ≡ reverse again → (room : List D) → room ≡ [] → (unpacked : List D) → unpacked ≡ room ++ reverse (map (λ s. s.disk) turned)
    → (back : List D) → back ≡ map (λ s. s.section.disk) made ++ reverse unpacked → back ≡ map (λ s. s.disk) all
made_back {D} disk lumps clean all made left rest section is it again same turned turn room empty unpacked un back b =
    let f : SectionState D → D = λ s. s.disk in
    let first : map (λ s. s.section.disk) made ≡ map f it.done = made_disks disk lumps clean it.done made it.zip in
    let others : reverse unpacked ≡ map f turned =
    ap reverse un ∙ ap (λ (l : List D). reverse (l ++ reverse (map f turned))) empty ∙ reverse-reverse (map f turned) in
    let next : map f turned ≡ map f (reverse (rest ++ section ∷ [])) = ap (map f) (turn ∙ ap reverse same) in
    let whole : all ≡ it.done ++ reverse (rest ++ section ∷ []) = it.split ∙ ap (λ (l : List (SectionState D)). it.done ++ reverse l) is in
    b ∙ ap (λ (l : List D). l ++ reverse unpacked) first ∙ ap (λ (l : List D). map f it.done ++ l) (others ∙ next) ∙ sym (map-append f it.done (reverse (rest ++ section ∷ []))) ∙ ap (map f) (sym whole)
