-- A refusal to mount names two values that differ.
use Rattle.std.proofs.Common.{◌≡◌, ◌≢◌, ⊎_elim, ◌+◌, ◌<◌, ℕ, List, map, Some, None, sym, ◌∙◌, subst, arith}
use Rattle.std.specs.Prelude.{not, ◌==◌, sum}
use Rattle.std.proofs.lemmas.List.Sums.{sum_by-take-le}
use Rattle.vt_base.specs.declared.mount.MountBad.{MountBad}
use Rattle.vt_base.specs.declared.mount.MountBad.TheVariants.{Disagree}
use Rattle.vt_base.specs.declared.mount.MountField.{MountField}
use Rattle.vt_base.specs.declared.mount.MountField.TheVariants.{Arenas, Buckets, Count, Crowd, First, Mark, State, Total}
use Rattle.vt_bloom.specs.declared.error.BloomError.{BloomError}
use Rattle.vt_bloom.specs.Faults.{NamesFilterCause}
use Rattle.vt_disk.specs.Members.{DiskOf}
use Rattle.vt_isect.specs.declared.error.SectBad.{SectBad}
use Rattle.vt_isect.specs.declared.head.Head.{Head}
use Rattle.vt_isect.specs.Faults.{NamesSectionCause}
use Rattle.vt_log.specs.declared.error.LogBad.{LogBad}
use Rattle.vt_log.specs.Faults.{RefusesLogMount}
use Rattle.vt_model.specs.Places.{Setup, bucket_count, first_bucket}
use Rattle.vt_part.specs.declared.layout.ArenaRegion.{ArenaRegion}
use Rattle.vt_part.specs.Table.{Table}
use Rattle.vt_mount_errors.specs.MountErrors.{NamesTwo, of_filter, of_log, of_section}
use Rattle.vt_mount_errors.proofs.LogRefused.{if_some, not_equal}
use Rattle.vt_core.specs.Files.{PerDevice}
use Rattle.vt_core.specs.Refusals.{IsFirstPast, IsRefusedMount, section_part, wrong_head}
use Rattle.vt_recover.specs.Sections.{section_buckets}
use Rattle.vt_core.proofs.LogMount.{count_same}

-- what the law says that is called
abbrev pub LogNamesTwo : Type 0
LogNamesTwo = (names : List (List ℕ)) (layout : List ArenaRegion) (fields : List (List ℕ)) (why : LogBad) → RefusesLogMount names layout fields why → NamesTwo (of_log layout why)

abbrev pub SectionNamesTwo : Type 0
SectionNamesTwo = (part size : ℕ) (why : SectBad) → NamesSectionCause size why → NamesTwo (of_section part why)

abbrev pub FilterNamesTwo : Type 0
FilterNamesTwo = (part size : ℕ) (why : BloomError) → NamesFilterCause size why → NamesTwo (of_filter part why)

-- two values of one field
two_of : (bad : MountBad) (part : ℕ) (field : MountField) (found want : ℕ) → bad ≡ Disagree part field found want → found ≢ want → NamesTwo bad
two_of bad part field found want is differ = subst NamesTwo (sym is) differ

above : (found want : ℕ) → want < found → found ≢ want
above found want less same = absurd (omega (arith, less, same))

past : (limit : ℕ) (counts : List ℕ) (i : ℕ) → IsFirstPast limit counts i → sum counts ≢ limit
past limit counts i it same = absurd (omega (arith, it.past, same, sum_by-take-le (λ n. n) counts (i + 1)))

head_two : (part first count total : ℕ) (head : Head) (bad : MountBad) → wrong_head part first count total head ≡ Some bad → NamesTwo bad
head_two part first count total head bad is = ⊎_elim
    (λ a. two_of bad part State head.state 1 a.1 (not_equal head.state 1 a.0))
    (λ rest. ⊎_elim
    (λ a. two_of bad part First head.first first a.1 (not_equal head.first first a.0))
    (λ rest. ⊎_elim
    (λ a. two_of bad part Count head.count count a.1 (not_equal head.count count a.0))
    (λ rest. ⊎_elim
    (λ a. two_of bad part Total head.total total a.1 (not_equal head.total total a.0))
    (λ none. absurd (cc))
    (if_some (not (head.total == total)) (Disagree part Total head.total total) bad None rest))
    (if_some (not (head.count == count)) (Disagree part Count head.count count) bad _ rest))
    (if_some (not (head.first == first)) (Disagree part First head.first first) bad _ rest))
    (if_some (not (head.state == 1)) (Disagree part State head.state 1) bad _ is)

pub refused_two : {D : Type 0} (disk : DiskOf D) → LogNamesTwo → SectionNamesTwo → FilterNamesTwo
    → (score : List ℕ → List ℕ) (tables : List Table) (devices : PerDevice D) (c : Setup) (bad : MountBad) → IsRefusedMount score disk tables devices c bad → NamesTwo bad
refused_two {D} disk log section filter score tables devices c bad it = ⊎_elim
    (λ fault. subst NamesTwo (sym fault) tt)
    (λ rest. ⊎_elim
    (λ memory. subst NamesTwo (sym memory) tt)
    (λ rest. ⊎_elim
    (λ a. subst NamesTwo (sym a.bad_is) (log _ _ a.fields a.why a.refuses))
    (λ rest. ⊎_elim
    (λ a. subst NamesTwo (sym a.bad_is) (section _ (disk.size a.device) a.why a.names))
    (λ rest. ⊎_elim
    (λ a. subst NamesTwo (sym a.bad_is) (filter _ (disk.size a.device) a.why a.names))
    (λ rest. ⊎_elim
    (λ limits. ⊎_elim
    (λ a. two_of bad a.0 Arenas _ 4096 a.2 (λ same. past 4096 (map (λ t. t.count) tables) a.0 a.1 (count_same tables ∙ same)))
    (λ a. two_of bad (section_part devices a.0) Buckets (bucket_count c) 1048576 a.2 (past 1048576 c.sections a.0 a.1))
    limits)
    (λ rest. ⊎_elim
    (λ a. head_two (section_part devices a.i) (first_bucket c.sections a.i) (section_buckets c a.i) (bucket_count c) a.head bad a.wrong)
    (λ rest. ⊎_elim
    (λ a. two_of bad a.part Mark a.mark _ a.bad_is (above a.mark _ a.above))
    (λ late. ⊎_elim
    (λ a. two_of bad (section_part devices a.i) Crowd a.found _ a.bad_is (above a.found _ a.above))
    (λ a. subst NamesTwo (sym a.bad_is) a.differ)
    late.1)
    rest)
    rest)
    rest)
    rest)
    rest)
    rest)
    rest)
    it
