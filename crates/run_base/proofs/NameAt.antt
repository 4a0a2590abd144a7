-- The file of the partition with a number, of those that a configuration names.
use Rattle.std.proofs.Common.{◌≡◌, ◌⊎◌, ⊎_elim, ℕ, suc, zero, ◌+◌, ◌<◌, List, Option, Some, None, length, refl, ◌∙◌, ap, arith}
use Rattle.std.specs.Prelude.{slice_get}
use Rattle.std.specs.Option.{option_map_or}
use Rattle.std.proofs.lemmas.Option.{slice_get_within}
use Rattle.vt_conf.specs.declared.conf.Conf.{Conf}
use Rattle.vt_conf.specs.declared.conf.PartFile.{PartFile}
use Rattle.vt_format.specs.Index.{files_behind, files_in_order, listed}
use Rattle.vt_log.proofs.Lists.{slice_get_left, slice_get_right}
use Rattle.run_base.specs.Configurations.{name_at}

none_there : (filter : Option PartFile) (k : ℕ) → (filter ≡ None) ⊎ (0 < k) → slice_get (listed filter) k ≡ None
none_there None k why = refl
none_there (Some named) zero why = ⊎_elim (λ none. absurd (cc)) (λ some. absurd (omega (arith, some))) why
none_there (Some named) (suc k) why = refl

module _ (file : List ℕ) (conf : Conf) (part : ℕ) where
  found : (o : Option PartFile) → slice_get (files_in_order conf) part ≡ o → name_at file (files_in_order conf) part ≡ option_map_or (λ named. named.name) o file
  found o is = ap (λ (x : Option PartFile). option_map_or (λ named. named.name) x file) is

  behind : (at : ℕ) → part ≡ length conf.arenas.items + at → slice_get (files_in_order conf) part ≡ slice_get (files_behind conf) at
  behind at is = ap (slice_get (files_in_order conf)) is ∙ slice_get_right conf.arenas.items (files_behind conf) at

  pub of_arenas : (named : PartFile) → slice_get conf.arenas.items part ≡ Some named → name_at file (files_in_order conf) part ≡ named.name
  of_arenas named is = found (Some named)
      (slice_get_left conf.arenas.items (files_behind conf) part (slice_get_within conf.arenas.items part named is) ∙ is)

  pub of_section : (at : ℕ) (named : PartFile) → part ≡ length conf.arenas.items + at → slice_get conf.sections.items at ≡ Some named
      → name_at file (files_in_order conf) part ≡ named.name
  of_section at named place is = found (Some named) (behind at place
      ∙ slice_get_left conf.sections.items (listed conf.filter) at (slice_get_within conf.sections.items at named is) ∙ is)

  last : (k : ℕ) → part ≡ length conf.arenas.items + (length conf.sections.items + k)
      → slice_get (files_in_order conf) part ≡ slice_get (listed conf.filter) k
  last k place = behind (length conf.sections.items + k) place ∙ slice_get_right conf.sections.items (listed conf.filter) k

  pub of_filter : (named : PartFile) → part ≡ length conf.arenas.items + length conf.sections.items → conf.filter ≡ Some named
      → name_at file (files_in_order conf) part ≡ named.name
  of_filter named place is = found (Some named) (last 0 (omega (arith, place)) ∙ ap (λ (o : Option PartFile). slice_get (listed o) 0) is)

  pub of_none : (k : ℕ) → part ≡ length conf.arenas.items + (length conf.sections.items + k) → (conf.filter ≡ None) ⊎ (0 < k)
      → name_at file (files_in_order conf) part ≡ file
  of_none k place why = found None (last k place ∙ none_there conf.filter k why)
