-- What `fmtindex` leaves under the names of a configuration.
use Rattle.std.proofs.Common.{◌≡◌, ⊎_elim, inl, ◌+◌, ◌<◌, ◌≤◌, ℕ, zero, suc, List, [], ◌∷◌, ◌++◌, length, map, Option, Some, None, Ok, refl, sym, ◌∙◌, ap, subst, arith, append_assoc, length-append}
use Rattle.std.specs.Prelude.{All, Bool, if◌then◌else◌, nat_lt, slice_get, sum}
use Rattle.std.specs.List.{AllZip, Contains}
use Rattle.std.specs.Option.{option_to_list}
use Rattle.std.proofs.lemmas.List.{append-nil, map-append}
use Rattle.std.proofs.lemmas.List.Elements.{Contains-append_left, Contains-append_right}
use Rattle.std.proofs.lemmas.List.Sums.{sum_by-append, sum_by-cons}
use borrow.Author.Tests.{ltb-false}
use Rattle.vt_base.specs.declared.mount.MountBad.{MountBad}
use Rattle.vt_conf.specs.declared.conf.Conf.{Conf}
use Rattle.vt_conf.specs.declared.conf.PartFile.{PartFile}
use Rattle.vt_disk.specs.Members.{DiskOf}
use Rattle.vt_model.specs.Places.{Setup, bucket_count}
use Rattle.vt_part.specs.Laws.{IsUnambiguous}
use Rattle.vt_part.specs.Table.{IsPartition, Table}
use Rattle.vt_partitions.specs.Parts.{Standing, StaysThere, there}
use Rattle.vt_isect.specs.declared.TheConstants.{LEAST_LEN}
use Rattle.vt_isect.specs.declared.error.SectBad.{SectBad}
use Rattle.vt_isect.specs.Layout.{IsSection, buckets_in}
use Rattle.vt_log.specs.Answers.{HoldTheSame}
use Rattle.vt_log.specs.Logs.{arena_count}
use Rattle.vt_format.specs.declared.index.Index.{Index}
use Rattle.vt_format.specs.declared.TheConstants.{MAX_ARENAS, MAX_BUCKETS}
use Rattle.vt_format.specs.Index.{ArePutToUse, IsPartLeft, LeavesThere}
use Rattle.vt_format.specs.Opening.{FindsArenas, FindsLog, FindsSections, RefusesArenaPart, RefusesSection, section_bad}
use Rattle.vt_format.specs.Usage.{head_in}
use Rattle.vt_core.specs.Files.{PerDevice}
use Rattle.vt_core.specs.Mounting.{IsSetupOf, KeepsLimits}
use Rattle.vt_core.specs.Stands.{ArePartitions}
use Rattle.vt_open.specs.Names.{AreUnder, StandUnder, files_of}
use Rattle.vt_open.proofs.Held.{IsHeld, hold_zip, zip_hold}
use Rattle.vt_open.proofs.Lists.{has_first, has_later, zip_left, zip_right}
use Rattle.vt_empty.specs.Devices.{AreFormatted, HasNewIndex, setup_on}
use Rattle.vt_empty.specs.Formatted.{AreEmptyLogs, AreUnfilled, IsUnset}
use Rattle.vt_empty.specs.Indexed.{HaveOwnNames, IsNameOf, PutsToUse}
use Rattle.vt_empty.proofs.Nothing.{counts_of}

module _ {D : Type 0} where
  one_there : (s : Standing D) (d e : D) → s ≡ there d → s ≡ there e → d ≡ e
  one_there s d e these those = let both : there d ≡ there e = sym these ∙ those in cc

  -- the devices of each kind
  pub under_partitions : (s : List ℕ → Standing D) (conf : Conf) (devices : PerDevice D) → AreUnder s conf devices → StandUnder s conf.arenas.items devices.partitions
  under_partitions s conf devices under =
      let R : PartFile → D → Type 0 = λ f d. s f.name ≡ there d in
      let shape = under.shape in
      let p = shape.partitions in
      let t = shape.sections in
      let files = files_of conf in
      let both : length (devices.partitions ++ devices.sections) ≡ length (files.partitions ++ files.sections) =
      omega (arith, p, t, length-append devices.partitions devices.sections, length-append files.partitions files.sections) in
      zip_left R files.partitions files.sections devices.partitions devices.sections p
      (zip_left R (files.partitions ++ files.sections) files.filter (devices.partitions ++ devices.sections) devices.filter both under.under)

  pub under_sections : (s : List ℕ → Standing D) (conf : Conf) (devices : PerDevice D) → AreUnder s conf devices → StandUnder s conf.sections.items devices.sections
  under_sections s conf devices under =
      let R : PartFile → D → Type 0 = λ f d. s f.name ≡ there d in
      let shape = under.shape in
      let p = shape.partitions in
      let t = shape.sections in
      let files = files_of conf in
      let both : length (devices.partitions ++ devices.sections) ≡ length (files.partitions ++ files.sections) =
      omega (arith, p, t, length-append devices.partitions devices.sections, length-append files.partitions files.sections) in
      zip_right R files.partitions files.sections devices.partitions devices.sections p
      (zip_left R (files.partitions ++ files.sections) files.filter (devices.partitions ++ devices.sections) devices.filter both under.under)

  pub under_filter : (s : List ℕ → Standing D) (conf : Conf) (devices : PerDevice D) → AreUnder s conf devices → StandUnder s (option_to_list conf.filter) devices.filter
  under_filter s conf devices under =
      let R : PartFile → D → Type 0 = λ f d. s f.name ≡ there d in
      let shape = under.shape in
      let p = shape.partitions in
      let t = shape.sections in
      let files = files_of conf in
      let both : length (devices.partitions ++ devices.sections) ≡ length (files.partitions ++ files.sections) =
      omega (arith, p, t, length-append devices.partitions devices.sections, length-append files.partitions files.sections) in
      zip_right R (files.partitions ++ files.sections) files.filter (devices.partitions ++ devices.sections) devices.filter both under.under

module _ {D : Type 0} (disk : DiskOf D) where
  -- what stays under names
  pub held_under : (old new : List ℕ → Standing D) (files : List PartFile) (ds es : List D) → StandUnder old files ds → StandUnder new files es
      → ((name : List ℕ) → IsNameOf files name → StaysThere disk (old name) (new name)) → AllZip (IsHeld disk) ds es
  held_under old new [] [] [] these those stay = tt
  held_under old new [] [] (e ∷ es) these those stay = absurd those
  held_under old new [] (d ∷ ds) es these those stay = absurd these
  held_under old new (f ∷ files) [] es these those stay = absurd these
  held_under old new (f ∷ files) (d ∷ ds) [] these those stay = absurd those
  held_under old new (f ∷ files) (d ∷ ds) (e ∷ es) these those stay =
      let here : StaysThere disk (there d) (there e) =
      subst (λ (x : Standing D). StaysThere disk (there d) x) those.0
      (subst (λ (x : Standing D). StaysThere disk x (new f.name)) these.0 (stay f.name (has_first f.name (map (λ (g : PartFile). g.name) files)))) in (
        record { size = here.0; bytes = here.1; images = here.2 },
        held_under old new files ds es these.1 those.1 (λ name has. stay name (has_later f.name (map (λ (g : PartFile). g.name) files) name has)),
      )

  -- sections that were put to use
  pub unfilled_under : (it : Index) (old new : List ℕ → Standing D) (files : List PartFile) (es : List D) (first total : ℕ) → StandUnder new files es
      → ((name : List ℕ) → LeavesThere disk (Ok it) (old name) (new name)) → ArePutToUse disk old new first total files → AreUnfilled disk first total es
  unfilled_under it old new [] [] first total those leaves used = used
  unfilled_under it old new [] (e ∷ es) first total those leaves used = absurd those
  unfilled_under it old new (f ∷ files) [] first total those leaves used = absurd those
  unfilled_under it old new (f ∷ files) (e ∷ es) first total those leaves used =
      let count = used.0 in
      let put = used.1 in
      let same : put.after ≡ e = one_there (new f.name) put.after e put.is those.0 in
      let left : IsPartLeft disk (Ok it) put.before put.after =
      subst (λ (x : Standing D). LeavesThere disk (Ok it) (there put.before) x) put.is
      (subst (λ (x : Standing D). LeavesThere disk (Ok it) x (new f.name)) put.was (leaves f.name)) in
      let size : disk.size put.before ≡ disk.size e = sym left.size ∙ ap disk.size same in
      let many : count ≡ buckets_in (disk.size e) = put.buckets ∙ ap (λ (n : ℕ). buckets_in n) size in (
        record {
          name = put.name;
          images = λ c is.
              subst (λ (n : ℕ). IsSection put.name (head_in 1 first n total) n (λ k. []) c) many
              (put.images c (subst (λ (d : D). disk.images d c) (sym same) is));
        },
        subst (λ (n : ℕ). AreUnfilled disk (first + n) total es) many (unfilled_under it old new files es (first + count) total those.1 leaves used.2),
      )

  pub counts_kept : (it : Index) (old new : List ℕ → Standing D) (files : List PartFile) (ds es : List D) → StandUnder old files ds → StandUnder new files es
      → ((name : List ℕ) → LeavesThere disk (Ok it) (old name) (new name)) → counts_of disk es ≡ counts_of disk ds
  counts_kept it old new [] [] [] these those leaves = refl
  counts_kept it old new [] [] (e ∷ es) these those leaves = absurd those
  counts_kept it old new [] (d ∷ ds) es these those leaves = absurd these
  counts_kept it old new (f ∷ files) [] es these those leaves = absurd these
  counts_kept it old new (f ∷ files) (d ∷ ds) [] these those leaves = absurd those
  counts_kept it old new (f ∷ files) (d ∷ ds) (e ∷ es) these those leaves =
      let left : IsPartLeft disk (Ok it) d e =
      subst (λ (x : Standing D). LeavesThere disk (Ok it) (there d) x) those.0
      (subst (λ (x : Standing D). LeavesThere disk (Ok it) x (new f.name)) these.0 (leaves f.name)) in
      let here : buckets_in (disk.size e) ≡ buckets_in (disk.size d) = ap (λ (n : ℕ). buckets_in n) left.size in
      let rest = counts_kept it old new files ds es these.1 those.1 leaves in
      cc

  pub has_new_index : (conf : Conf) (before after : List ℕ → Standing D) (old new : PerDevice D) (it : Index) → AreUnder before conf old → AreUnder after conf new
      → HaveOwnNames conf → PutsToUse disk conf before after it → HasNewIndex disk old new
  has_new_index conf before after old new it these those apart puts =
      let names : List PartFile → List (List ℕ) = λ files. map (λ (g : PartFile). g.name) files in
      let filter = option_to_list conf.filter in
      let joined : names (conf.arenas.items ++ filter) ≡ names conf.arenas.items ++ names filter = map-append (λ (g : PartFile). g.name) conf.arenas.items filter in
      record {
        partitions = hold_zip disk old.partitions new.partitions (held_under before after conf.arenas.items old.partitions new.partitions
            (under_partitions before conf old these) (under_partitions after conf new those)
            (λ name has. puts.stays name (λ section. apart name section (subst (λ (ns : List (List ℕ)). Contains ns name) (sym joined)
            (Contains-append_left (names conf.arenas.items) (names filter) name has)))));
        total = it.buckets;
        sections = unfilled_under it before after conf.sections.items new.sections 0 it.buckets (under_sections after conf new those) puts.back puts.used;
        filter = inl (hold_zip disk old.filter new.filter (held_under before after filter old.filter new.filter
            (under_filter before conf old these) (under_filter after conf new those)
            (λ name has. puts.stays name (λ section. apart name section (subst (λ (ns : List (List ℕ)). Contains ns name) (sym joined)
            (Contains-append_right (names conf.arenas.items) (names filter) name has))))));
      }

  -- ---- what was found

  arenas_found : IsUnambiguous → (conf : Conf) (s : List ℕ → Standing D) (ts : List Table) (bs : List (List ℕ)) (files : List PartFile) (ds : List D) (us : List Table)
      → StandUnder s files ds → AllZip (λ (t : Table) (d : D). IsPartition t (disk.bytes d)) us ds → arena_count ts ≤ MAX_ARENAS
      → FindsArenas disk s conf ts bs files None
      → (arena_count (ts ++ us) ≤ MAX_ARENAS) × ((cs : List (List ℕ)) × FindsLog disk s conf (ts ++ us) cs None)
  arenas_found one conf s ts bs [] [] [] stand are few found =
      let same : ts ++ [] ≡ ts = append-nil ts in
      (subst (λ (x : List Table). arena_count x ≤ MAX_ARENAS) (sym same) few, (bs, subst (λ (x : List Table). FindsLog disk s conf x bs None) (sym same) found))
  arenas_found one conf s ts bs [] [] (u ∷ us) stand are few found = absurd are
  arenas_found one conf s ts bs [] (d ∷ ds) us stand are few found = absurd stand
  arenas_found one conf s ts bs (f ∷ files) [] us stand are few found = absurd stand
  arenas_found one conf s ts bs (f ∷ files) (d ∷ ds) [] stand are few found = absurd are
  arenas_found one conf s ts bs (f ∷ files) (d ∷ ds) (u ∷ us) stand are few found = ⊎_elim
      (λ (refused : (bad : MountBad) × RefusesArenaPart disk (length ts) (arena_count ts) found.0 bad × (None ≡ Some bad)). absurd (let no = refused.2 in cc))
      (λ (passed : (t : Table) × IsPartition t (disk.bytes found.0) × (arena_count ts + t.count ≤ MAX_ARENAS)
      × FindsArenas disk s conf (ts ++ t ∷ []) (bs ++ disk.bytes found.0 ∷ []) files None).
      let same : found.0 ≡ d = one_there (s f.name) found.0 d found.1 stand.0 in
      let table : passed.0 ≡ u = one passed.0 u (disk.bytes d) (subst (λ (x : D). IsPartition passed.0 (disk.bytes x)) same passed.1) are.0 in
      let more : arena_count (ts ++ passed.0 ∷ []) ≤ MAX_ARENAS = omega (arith, sum_by-append (λ (t : Table). t.count) ts (passed.0 ∷ []), passed.2) in
      let rest = arenas_found one conf s (ts ++ passed.0 ∷ []) (bs ++ disk.bytes found.0 ∷ []) files ds us stand.1 are.1 more passed.3 in
      let joined : (ts ++ passed.0 ∷ []) ++ us ≡ ts ++ u ∷ us = append_assoc ts (passed.0 ∷ []) us ∙ ap (λ (t : Table). ts ++ t ∷ us) table in
      (subst (λ (x : List Table). arena_count x ≤ MAX_ARENAS) joined rest.0, (rest.1.0, subst (λ (x : List Table). FindsLog disk s conf x rest.1.0 None) joined rest.1.1)))
      found.2

  not_refused : (b : Bool) (bad : SectBad) (rest : Option SectBad) → (if b then Some bad else rest) ≡ None → b ≡ Bool.false
  not_refused Bool.true bad rest is = absurd (cc)
  not_refused Bool.false bad rest is = refl

  some_bucket : (d : D) → section_bad disk d ≡ None → 0 < buckets_in (disk.size d)
  some_bucket d good =
      let long : LEAST_LEN ≤ disk.size d = ltb-false (disk.size d) LEAST_LEN (not_refused (nat_lt (disk.size d) LEAST_LEN) _ _ good) in
      omega arith

  all_more : (n : ℕ) (ns : List ℕ) → 0 < n → All (λ k. 0 < k) ns → All (λ k. 0 < k) (n ∷ ns)
  all_more n ns some all zero d within = some
  all_more n ns some all (suc k) d within = let less : k < length ns = omega (arith, within) in all k d less

  sections_found : (conf : Conf) (s : List ℕ → Standing D) (number first : ℕ) (files : List PartFile) (ds : List D) → StandUnder s files ds → first ≤ MAX_BUCKETS
      → FindsSections disk s conf.filter number first files None → (first + sum (counts_of disk ds) ≤ MAX_BUCKETS) × All (λ n. 0 < n) (counts_of disk ds)
  sections_found conf s number first [] [] stand few found = (omega (arith, few), λ k d within. absurd (omega (arith, within)))
  sections_found conf s number first [] (d ∷ ds) stand few found = absurd stand
  sections_found conf s number first (f ∷ files) [] stand few found = absurd stand
  sections_found conf s number first (f ∷ files) (d ∷ ds) stand few found = ⊎_elim
      (λ (refused : (bad : MountBad) × RefusesSection disk number first found.0 bad × (None ≡ Some bad)). absurd (let no = refused.2 in cc))
      (λ (passed : (section_bad disk found.0 ≡ None) × (first + buckets_in (disk.size found.0) ≤ MAX_BUCKETS)
      × FindsSections disk s conf.filter (number + 1) (first + buckets_in (disk.size found.0)) files None).
      let same : found.0 ≡ d = one_there (s f.name) found.0 d found.1 stand.0 in
      let n = buckets_in (disk.size d) in
      let good : section_bad disk d ≡ None = subst (λ (x : D). section_bad disk x ≡ None) same passed.0 in
      let most : first + n ≤ MAX_BUCKETS = subst (λ (x : D). first + buckets_in (disk.size x) ≤ MAX_BUCKETS) same passed.1 in
      let later : FindsSections disk s conf.filter (number + 1) (first + n) files None =
      subst (λ (x : D). FindsSections disk s conf.filter (number + 1) (first + buckets_in (disk.size x)) files None) same passed.2 in
      let rest = sections_found conf s (number + 1) (first + n) files ds stand.1 most later in
      let sums : sum (n ∷ counts_of disk ds) ≡ n + sum (counts_of disk ds) = sum_by-cons (λ x. x) n (counts_of disk ds) in
      let sums_most : first + n + sum (counts_of disk ds) ≤ MAX_BUCKETS = rest.0 in
      (omega (arith, sums, sums_most), all_more n (counts_of disk ds) (some_bucket d good) rest.1))
      found.2

  partitions_zip : (tables : List Table) (ds : List D) → length (map disk.bytes ds) ≡ length tables
      → ((i : ℕ) (t : Table) (file : List ℕ) → slice_get tables i ≡ Some t → slice_get (map disk.bytes ds) i ≡ Some file → IsPartition t file)
      → AllZip (λ (t : Table) (d : D). IsPartition t (disk.bytes d)) tables ds
  partitions_zip [] [] many each = tt
  partitions_zip [] (d ∷ ds) many each = absurd (omega (arith, many))
  partitions_zip (t ∷ ts) [] many each = absurd (omega (arith, many))
  partitions_zip (t ∷ ts) (d ∷ ds) many each =
      let few : length (map disk.bytes ds) ≡ length ts = omega (arith, many) in
      (each 0 t (disk.bytes d) refl refl, partitions_zip ts ds few (λ i. each (suc i)))

  pub keeps_limits : IsUnambiguous → (conf : Conf) (before after : List ℕ → Standing D) (old new : PerDevice D) (it : Index) (tables : List Table) (c : Setup)
      → AreUnder before conf old → AreUnder after conf new → PutsToUse disk conf before after it
      → ArePartitions tables (map disk.bytes old.partitions) → IsSetupOf disk tables new c → KeepsLimits tables c
  keeps_limits one conf before after old new it tables c these those puts are setup =
      let partitions = partitions_zip tables old.partitions are.many are.each in
      let arenas = arenas_found one conf before [] [] conf.arenas.items old.partitions tables (under_partitions before conf old these) partitions (omega arith) puts.found in
      let log = arenas.1.1 in
      let counts : c.sections ≡ counts_of disk old.sections = setup.sections
      ∙ counts_kept it before after conf.sections.items old.sections new.sections (under_sections before conf old these) (under_sections after conf new those) puts.back in
      ⊎_elim
      (λ refused. absurd (let no = refused.2 in cc))
      (λ passed.
      let sections = sections_found conf before (length tables) 0 conf.sections.items old.sections (under_sections before conf old these) (omega arith) passed.2 in
      let few = sections.0 in
      let total : bucket_count c ≡ sum (counts_of disk old.sections) = ap (λ (ns : List ℕ). sum ns) counts in
      record {
        arenas = arenas.0;
        buckets = omega (arith, few, total);
        sections = subst (λ (ns : List ℕ). All (λ n. 0 < n) ns) (sym counts) sections.1;
        names = passed.0;
      })
      log.2

  -- ---- what was formatted

  empties_kept : (tables : List Table) (ds es : List D) → AreEmptyLogs disk tables ds → AllZip (IsHeld disk) ds es → AreEmptyLogs disk tables es
  empties_kept [] [] [] empties held = tt
  empties_kept [] [] (e ∷ es) empties held = absurd held
  empties_kept [] (d ∷ ds) es empties held = absurd empties
  empties_kept (t ∷ ts) [] es empties held = absurd empties
  empties_kept (t ∷ ts) (d ∷ ds) [] empties held = absurd held
  empties_kept (t ∷ ts) (d ∷ ds) (e ∷ es) empties held =
      (λ c is. empties.0 c (held.0.images c is), empties_kept ts ds es empties.1 held.1)

  partitions_read : ((d : D) → disk.images d (disk.bytes d)) → (tables : List Table) (ds : List D) → AreEmptyLogs disk tables ds → ArePartitions tables (map disk.bytes ds)
  partitions_read own tables ds empties = record { many = many tables ds empties; each = each tables ds empties }
    where
      many : (ts : List Table) (ds : List D) → AreEmptyLogs disk ts ds → length (map disk.bytes ds) ≡ length ts
      many [] [] empties = refl
      many [] (d ∷ ds) empties = absurd empties
      many (t ∷ ts) [] empties = absurd empties
      many (t ∷ ts) (d ∷ ds) empties = let few = many ts ds empties.1 in omega (arith, few)

      each : (ts : List Table) (ds : List D) → AreEmptyLogs disk ts ds → (i : ℕ) (t : Table) (file : List ℕ) → slice_get ts i ≡ Some t → slice_get (map disk.bytes ds) i ≡ Some file → IsPartition t file
      each [] ds empties i t file at also = absurd (cc)
      each (u ∷ ts) [] empties i t file at also = absurd empties
      each (u ∷ ts) (d ∷ ds) empties zero t file at also =
          let table : u ≡ t = cc in let bytes : disk.bytes d ≡ file = cc in
          subst (λ (x : Table). IsPartition x file) table (subst (λ (x : List ℕ). IsPartition u x) bytes (empties.0 (disk.bytes d) (own d)).partition)
      each (u ∷ ts) (d ∷ ds) empties (suc i) t file at also = each ts ds empties.1 i t file at also

  all_kept : (ds es : List D) → All (IsUnset disk) ds → AllZip (IsHeld disk) ds es → All (IsUnset disk) es
  all_kept ds [] unset held k d within = absurd (omega (arith, within))
  all_kept [] (e ∷ es) unset held k d within = absurd held
  all_kept (x ∷ ds) (e ∷ es) unset held zero d within =
      let some : 0 < length (x ∷ ds) = omega arith in
      let was : IsUnset disk x = unset 0 x some in
      record { m = was.m; k = was.k; images = λ c is. was.images c (held.0.images c is) }
  all_kept (x ∷ ds) (e ∷ es) unset held (suc k) d within =
      let less : k < length es = omega (arith, within) in
      all_kept ds es (λ i y inside. unset (suc i) y (omega (arith, inside))) held.1 k d less

  pub formatted : (conf : Conf) (before after : List ℕ → Standing D) (old new : PerDevice D) (it : Index) (tables : List Table) → AreUnder before conf old → AreUnder after conf new
      → HaveOwnNames conf → AreEmptyLogs disk tables old.partitions → All (IsUnset disk) old.filter → PutsToUse disk conf before after it → AreFormatted disk tables new
  formatted conf before after old new it tables these those apart empties unset puts =
      let index = has_new_index conf before after old new it these those apart puts in
      record {
        partitions = empties_kept tables old.partitions new.partitions empties (zip_hold disk old.partitions new.partitions index.partitions);
        total = index.total;
        sections = index.sections;
        filter = ⊎_elim
            (λ (held : HoldTheSame disk old.filter new.filter). all_kept old.filter new.filter unset (zip_hold disk old.filter new.filter held))
            (λ (none : All (IsUnset disk) new.filter). none)
            index.filter;
      }

  pub limits_kept : IsUnambiguous → ((d : D) → disk.images d (disk.bytes d)) → (conf : Conf) (before after : List ℕ → Standing D) (old new : PerDevice D) (it : Index) (tables : List Table)
      → AreUnder before conf old → AreUnder after conf new → AreEmptyLogs disk tables old.partitions → PutsToUse disk conf before after it → KeepsLimits tables (setup_on disk tables new)
  limits_kept one own conf before after old new it tables these those empties puts =
      keeps_limits one conf before after old new it tables (setup_on disk tables new) these those puts (partitions_read own tables old.partitions empties)
      (record { arenas = refl; sections = refl })
