-- What opening finds where other partitions were handed out meanwhile.
use Rattle.std.proofs.Common.{◌≡◌, inl, inr, ⊎_elim, ℕ, ◌+◌, List, [], ◌∷◌, ◌++◌, Option, Some, None}
use Rattle.vt_base.specs.declared.mount.MountBad.{MountBad}
use Rattle.vt_conf.specs.declared.conf.Conf.{Conf}
use Rattle.vt_conf.specs.declared.conf.PartFile.{PartFile}
use Rattle.vt_disk.specs.Members.{DiskOf}
use Rattle.vt_isect.specs.Layout.{buckets_in}
use Rattle.vt_part.specs.Table.{Table}
use Rattle.vt_partitions.specs.Parts.{Standing, there}
use Rattle.vt_format.specs.Opening.{FindsArenas, FindsFilter, FindsLog, FindsSections}

module _ {D : Type 0} (disk : DiskOf D) (s s' : List ℕ → Standing D) (keep : (n : List ℕ) (d : D) → s n ≡ there d → s' n ≡ there d) where
  pub finds_filter : (filter : Option PartFile) (number : ℕ) (found : Option MountBad) → FindsFilter disk s filter number found
      → FindsFilter disk s' filter number found
  finds_filter None number found it = it
  finds_filter (Some file) number found it = (it.0, keep file.name it.0 it.1, it.2)

  pub finds_sections : (filter : Option PartFile) (number before : ℕ) (files : List PartFile) (found : Option MountBad)
      → FindsSections disk s filter number before files found → FindsSections disk s' filter number before files found
  finds_sections filter number before [] found it = finds_filter filter number found it
  finds_sections filter number before (file ∷ files) found it = (
    it.0,
    keep file.name it.0 it.1,
    ⊎_elim (λ refused. inl refused)
        (λ goes. inr (goes.0, goes.1, finds_sections filter (number + 1) (before + buckets_in (disk.size it.0)) files found goes.2)) it.2,
  )

  pub finds_log : (conf : Conf) (tables : List Table) (contents : List (List ℕ)) (found : Option MountBad)
      → FindsLog disk s conf tables contents found → FindsLog disk s' conf tables contents found
  finds_log conf tables contents found it = (
    it.0,
    it.1,
    ⊎_elim (λ refused. inl refused)
        (λ goes. inr (goes.0, goes.1, finds_sections conf.filter _ 0 conf.sections.items found goes.2)) it.2,
  )

  pub finds_arenas : (conf : Conf) (tables : List Table) (contents : List (List ℕ)) (files : List PartFile) (found : Option MountBad)
      → FindsArenas disk s conf tables contents files found → FindsArenas disk s' conf tables contents files found
  finds_arenas conf tables contents [] found it = finds_log conf tables contents found it
  finds_arenas conf tables contents (file ∷ files) found it = (
    it.0,
    keep file.name it.0 it.1,
    ⊎_elim (λ refused. inl refused) (λ goes. inr (goes.0, goes.1, goes.2, finds_arenas conf (tables ++ goes.0 ∷ []) (contents ++ disk.bytes it.0 ∷ []) files found goes.3)) it.2,
  )
