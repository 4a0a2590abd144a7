-- What stands beside the log of a store, or why it is refused.
use Rattle.std.proofs.Common.{◌≡◌, ◌⊎◌, ⊎_elim, inl, inr, ◌+◌, ℕ, Bool, true, false, List, [], ◌++◌, length, map, reverse, Option, Some, None, Err, refl, sym, ◌∙◌, ap, subst, append-nil, eqb}
use Rattle.std.specs.Prelude.{sum, ⊤}
use Rattle.std.specs.Option.{option_to_list}
use Rattle.std.proofs.lemmas.List.{map-append}
use Rattle.vt_base.specs.declared.mount.MountBad.{MountBad}
use Rattle.vt_base.specs.declared.mount.MountBad.TheVariants.{Disagree, NoMemory}
use Rattle.vt_base.specs.declared.mount.MountField.TheVariants.{Count, First, State, Total}
use Rattle.vt_bloom.specs.Bloom.{BloomState}
use Rattle.vt_disk.specs.Members.{DiskOf}
use Rattle.vt_isect.specs.declared.head.Head.{Head}
use Rattle.vt_isect.specs.Section.{SectionState}
use Rattle.vt_log.specs.Answers.{HoldTheSame}
use Rattle.vt_model.specs.Places.{first_bucket}
use Rattle.vt_core.specs.Files.{all_of}
use Rattle.vt_core.specs.Opening.{AreHeld, RefusesBeside, TestsParts, buckets_in_each, with_log}
use Rattle.vt_recover.specs.Refusals.{CountsRefusal, FilterIsRefused, SectionIsRefused}
use Rattle.vt_core.specs.Refusals.{wrong_head}
use Rattle.vt_core.proofs.Beside.{chosen}
use Rattle.vt_recover.proofs.Held.{hold_still, counts_less, counts_more}

-- a test tells no fault
abbrev TellsNone : Option MountBad → Type 0
TellsNone None = ⊤
TellsNone (Some bad) = (old : List ℕ) → CountsRefusal bad old old

none_chosen : (a b c d : Bool) (x y z w : MountBad) → TellsNone (Some x) → TellsNone (Some y) → TellsNone (Some z) → TellsNone (Some w) → TellsNone (chosen a b c d x y z w)
none_chosen false b c d x y z w ex ey ez ew = ex
none_chosen true false c d x y z w ex ey ez ew = ey
none_chosen true true false d x y z w ex ey ez ew = ez
none_chosen true true true false x y z w ex ey ez ew = ew
none_chosen true true true true x y z w ex ey ez ew = tt

wrong_tells : (part first count total : ℕ) (head : Head) → TellsNone (wrong_head part first count total head)
wrong_tells part first count total head =
    none_chosen (eqb head.state 1) (eqb head.first first) (eqb head.count count) (eqb head.total total)
    (Disagree part State head.state 1) (Disagree part First head.first first) (Disagree part Count head.count count) (Disagree part Total head.total total)
    (λ l. refl) (λ l. refl) (λ l. refl) (λ l. refl)

pub tests_counts : {D : Type 0} (part : ℕ) (sections : List (SectionState D)) (bloom : Option (BloomState D)) (len : ℕ) (bad : MountBad) → TestsParts {U = ⊤} part sections bloom len (Err bad)
    → (old : List ℕ) → CountsRefusal bad old old
tests_counts part sections bloom len bad it old = ⊎_elim
    (λ limits. subst (λ (b : MountBad). CountsRefusal b old old) (sym limits.2) refl)
    (λ rest. ⊎_elim
    (λ heads.
    let s = heads.1 in
    let told : TellsNone (Some bad) =
    subst TellsNone heads.3 (wrong_tells (part + heads.0) (first_bucket (buckets_in_each sections) heads.0) s.buckets (sum (buckets_in_each sections)) s.head) in
    told old)
    (λ marks. subst (λ (b : MountBad). CountsRefusal b old old) (sym marks.4) refl)
    rest)
    it

module _ {D : Type 0} (disk : DiskOf D) (devices : List D) (filter : Option D) where
  -- ---- the sections are refused

  pub sections_refused : (part len : ℕ) (bad : MountBad) → (bad ≡ NoMemory) ⊎ SectionIsRefused disk part devices bad → RefusesBeside disk part len devices filter bad
  sections_refused part len bad it = ⊎_elim (λ memory. inl memory) (λ refused. inr (inl refused)) it

  pub filter_refused : (part len at : ℕ) (bad : MountBad) → at ≡ part + length devices → (bad ≡ NoMemory) ⊎ FilterIsRefused disk at (option_to_list filter) bad → RefusesBeside disk part len devices filter bad
  filter_refused part len at bad is it = ⊎_elim (λ memory. inl memory)
      (λ refused. inr (inr (inl (subst (λ (p : ℕ). FilterIsRefused disk p (option_to_list filter) bad) is refused)))) it

  pub both_held : (sections : List D) (rest : Option D) → HoldTheSame disk devices sections → HoldTheSame disk (option_to_list filter) (option_to_list rest)
      → AreHeld disk (with_log [] devices filter) (with_log [] sections rest)
  both_held sections rest one other = record { partitions = hold_still disk []; sections = one; filter = other }

  -- the devices of the sections, closed
  pub closed_is : (sections : List (SectionState D)) (room back : List D) → room ≡ [] → back ≡ map (λ s. s.disk) sections ++ reverse room → back ≡ map (λ s. s.disk) sections
  closed_is sections room back empty is = is ∙ ap (λ (l : List D). map (λ s. s.disk) sections ++ reverse l) empty ∙ append-nil (map (λ s. s.disk) sections)

  pub counts_sections : (bad : MountBad) (sections : List D) → CountsRefusal bad (map disk.faults devices) (map disk.faults sections)
      → CountsRefusal bad (map disk.faults (all_of (with_log [] devices filter))) (map disk.faults (all_of (with_log [] sections filter)))
  counts_sections bad sections it =
      let f = disk.faults in
      let o = option_to_list filter in
      subst (λ (l : List ℕ). CountsRefusal bad l (map f (sections ++ o))) (sym (map-append f devices o))
      (subst (λ (l : List ℕ). CountsRefusal bad (map f devices ++ map f o) l) (sym (map-append f sections o)) (counts_more bad (map f o) (map f devices) (map f sections) it))

  pub counts_filter : (bad : MountBad) (sections : List D) (rest : Option D) → map disk.faults sections ≡ map disk.faults devices → CountsRefusal bad (map disk.faults (option_to_list filter)) (map disk.faults (option_to_list rest))
      → CountsRefusal bad (map disk.faults (all_of (with_log [] devices filter))) (map disk.faults (all_of (with_log [] sections rest)))
  counts_filter bad sections rest same it =
      let f = disk.faults in
      let o = option_to_list filter in
      let r = option_to_list rest in
      let new : map f devices ++ map f r ≡ map f (sections ++ r) = ap (λ (l : List ℕ). l ++ map f r) (sym same) ∙ sym (map-append f sections r) in
      subst (λ (l : List ℕ). CountsRefusal bad l (map f (sections ++ r))) (sym (map-append f devices o))
      (subst (λ (l : List ℕ). CountsRefusal bad (map f devices ++ map f o) l) new (counts_less bad (map f devices) (map f o) (map f r) it))

  pub counts_none : (sections : List D) (rest : Option D) → map disk.faults sections ≡ map disk.faults devices → map disk.faults (option_to_list rest) ≡ map disk.faults (option_to_list filter)
      → map disk.faults (all_of (with_log [] sections rest)) ≡ map disk.faults (all_of (with_log [] devices filter))
  counts_none sections rest one other =
      let f = disk.faults in
      map-append f sections (option_to_list rest) ∙ ap (λ (l : List ℕ). l ++ map f (option_to_list rest)) one ∙ ap (λ (l : List ℕ). map f devices ++ l) other
      ∙ sym (map-append f devices (option_to_list filter))
