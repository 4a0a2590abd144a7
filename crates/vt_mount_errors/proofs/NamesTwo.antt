-- A part's refusal is told with two values that differ.
use Rattle.std.proofs.Common.{◌≡◌, ◌≢◌, ⊎_elim, ℕ, ◌<◌, false, List, refl, sym, ◌∙◌, subst, arith}
use Rattle.vt_arena.specs.declared.error.ArenaBad.{ArenaBad}
use Rattle.vt_arena.specs.declared.error.ArenaBad.TheVariants as arena_bad
use Rattle.vt_bloom.specs.declared.error.BloomError.{BloomError}
use Rattle.vt_bloom.specs.declared.error.BloomError.TheVariants as bloom_error
use Rattle.vt_bloom.specs.declared.error.Field.{Field as BloomField}
use Rattle.vt_bloom.specs.declared.error.Field.TheVariants as bloom_field
use Rattle.vt_bloom.specs.Faults as bloom
use Rattle.vt_isect.specs.declared.error.SectBad.{SectBad}
use Rattle.vt_isect.specs.declared.error.SectBad.TheVariants as sect_bad
use Rattle.vt_isect.specs.Faults as isect
use Rattle.vt_log.specs.declared.error.LogBad.{LogBad}
use Rattle.vt_log.specs.declared.error.LogBad.TheVariants as log_bad
use Rattle.vt_log.specs.Faults.{RefusesLogMount}
use Rattle.vt_part.specs.declared.error.Field.{Field as PartField}
use Rattle.vt_part.specs.declared.error.Field.TheVariants as part_field
use Rattle.vt_part.specs.declared.error.PartBad.{PartBad}
use Rattle.vt_part.specs.declared.error.PartBad.TheVariants as part_bad
use Rattle.vt_part.specs.declared.layout.ArenaRegion.{ArenaRegion}
use Rattle.vt_part.specs.Faults as part
use Rattle.vt_part.specs.Table.{IsArenaSize}
use Rattle.vt_mount_errors.specs.MountErrors.{NamesTwo, of_arena, of_filter, of_log, of_part, of_section, partition_of}
use Rattle.vt_mount_errors.proofs.LogRefused.{NamesArena, log_differs}

-- values that can't stand in a field aren't those that are wanted
pub part_differs : (field : PartField) (found want : ℕ) → part.Differs field found want → found ≢ want
part_differs part_field.Version found want it same = it.0 (same ∙ it.1)
part_differs part_field.ArenaSize found want it same =
    it.0 (subst IsArenaSize (sym (same ∙ it.1)) refl)
part_differs part_field.Count found want it same = absurd (omega (arith, it.0, same, it.1))

pub bloom_differs : (field : BloomField) (found want len : ℕ) → bloom.Differs field found want len → found ≢ want
bloom_differs bloom_field.Version found want len it same = it.0 (same ∙ it.1)
bloom_differs bloom_field.M found want len it same = it.0 same
bloom_differs bloom_field.K found want len it same = ⊎_elim
    (λ (none : found ≡ 0). absurd (omega (arith, none, same, it.1)))
    (λ (many : 32 < found). absurd (omega (arith, many, same, it.1)))
    it.0

pub of_part_two : (number size : ℕ) (why : PartBad) → part.NamesPartCause size why → NamesTwo (of_part number why)
of_part_two number size part_bad.Fault it = tt
of_part_two number size (part_bad.TooSmall len need) it = omega (arith, it.0, it.1)
of_part_two number size part_bad.NotFormatted it = tt
of_part_two number size (part_bad.Torn field found want) it = part_differs field found want it.1
of_part_two number size (part_bad.DuplicateName first second) it = absurd it
of_part_two number size part_bad.NoMemory it = absurd it

pub of_section_two : (number size : ℕ) (why : SectBad) → isect.NamesSectionCause size why → NamesTwo (of_section number why)
of_section_two number size sect_bad.Fault it = tt
of_section_two number size (sect_bad.TooSmall len need) it = omega (arith, it.0, it.1, it.2)
of_section_two number size sect_bad.NotFormatted it = tt
of_section_two number size (sect_bad.Torn field found want) it = λ same. it.1 (same ∙ it.2)
of_section_two number size sect_bad.NoMemory it = tt

pub of_filter_two : (number size : ℕ) (why : BloomError) → bloom.NamesFilterCause size why → NamesTwo (of_filter number why)
of_filter_two number size bloom_error.Fault it = tt
of_filter_two number size (bloom_error.TooSmall len need) it = omega (arith, it.0, it.1, it.2)
of_filter_two number size bloom_error.NotFormatted it = tt
of_filter_two number size (bloom_error.Torn field found want) it = bloom_differs field found want size it.1
of_filter_two number size bloom_error.NoMemory it = tt

of_arena_two : (number : ℕ) (why : ArenaBad) → NamesArena why → NamesTwo (of_arena number why)
of_arena_two number arena_bad.Fault it = absurd it
of_arena_two number arena_bad.NotFormatted it = tt
of_arena_two number (arena_bad.Torn field found want) it = it
of_arena_two number arena_bad.NoMemory it = absurd it

pub of_log_two : (names : List (List ℕ)) (layout : List ArenaRegion) (fields : List (List ℕ)) (why : LogBad) → RefusesLogMount names layout fields why → NamesTwo (of_log layout why)
of_log_two names layout fields (log_bad.Part (part_bad.DuplicateName first second)) it = it.namesakes.order
of_log_two names layout fields (log_bad.Part part_bad.Fault) it = absurd it
of_log_two names layout fields (log_bad.Part (part_bad.TooSmall len need)) it = absurd it
of_log_two names layout fields (log_bad.Part part_bad.NotFormatted) it = absurd it
of_log_two names layout fields (log_bad.Part (part_bad.Torn field found want)) it = absurd it
of_log_two names layout fields (log_bad.Part part_bad.NoMemory) it = absurd it
of_log_two names layout fields (log_bad.Arena i why) it = of_arena_two (partition_of layout i) why (log_differs false 0 layout fields (log_bad.Arena i why) it.1)
of_log_two names layout fields (log_bad.Order i clumps) it = log_differs false 0 layout fields (log_bad.Order i clumps) it.1
of_log_two names layout fields log_bad.Fault it = tt
of_log_two names layout fields log_bad.NoMemory it = tt
