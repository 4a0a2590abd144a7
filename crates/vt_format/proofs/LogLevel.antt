-- What is done where the log of all partitions of arenas is found, or isn't.
use Rattle.std.proofs.Common.{◌≡◌, ◌⊎◌, inl, inr, ⊎_elim, ℕ, ◌+◌, ◌<◌, List, [], ◌∷◌, Option, Some, None, Ok, Err, Result, length, map, option_map, refl, sym, ◌∙◌, ap, subst, arith, false}
use Rattle.std.specs.Prelude.{IfErr, IsTrue, MatchBool, slice_index}
use Rattle.std.proofs.lemmas.List.{length-map}
use Rattle.std.proofs.lemmas.Option.{get_or_from_slice_get, slice_get-map}
use Rattle.vt_base.specs.Faults.{HasRisen}
use Rattle.vt_base.specs.declared.mount.MountBad.{MountBad}
use Rattle.vt_conf.specs.declared.conf.Conf.{Conf}
use Rattle.vt_disk.specs.Members.{DiskOf}
use Rattle.vt_log.specs.declared.error.LogBad.{LogBad}
use Rattle.vt_log.specs.declared.error.LogBad.TheVariants as log_bad
use Rattle.vt_log.specs.Answers.{HoldTheSame}
use Rattle.vt_log.specs.Faults.{AreReadAt, OneHasRisen, RefusesLogMount, first_bad_log, is_log_fault}
use Rattle.vt_log.specs.Log.{disks_of}
use Rattle.vt_log.proofs.Lists.{map_long, map_there, slice_get_there}
use Rattle.vt_arena.specs.declared.error.ArenaBad.{ArenaBad}
use Rattle.vt_arena.specs.declared.error.ArenaBad.TheVariants as arena_bad
use Rattle.vt_isect.specs.Section.{SectionState}
use Rattle.vt_part.specs.declared.error.PartBad.TheVariants as part_bad
use Rattle.vt_part.specs.declared.part.Part.{Part}
use Rattle.vt_part.specs.Layout.{AreDistinct, layout_of}
use Rattle.vt_part.specs.Parts.{names_of, table_of, tables_of}
use Rattle.vt_part.specs.Table.{Table}
use Rattle.vt_partitions.specs.Parts.{Standing}
use Rattle.vt_format.specs.declared.index.Index.{Index}
use Rattle.vt_format.specs.declared.index.IndexError.{IndexError}
use Rattle.vt_format.specs.declared.index.IndexError.TheVariants.{Fault, Refused, Stopped}
use Rattle.vt_format.specs.Index.{AreArenasLeft, IndexFails, FindsFault, IndexesArenas, IndexesSections, HasNoFault, IsStoppedAmong, StopsIndex, files_behind}
use Rattle.vt_format.specs.Opening.{FindsLog, FindsSections, IsRefusalByTest, index_error}
use Rattle.vt_mount_errors.specs.MountErrors.{of_log}
use Rattle.vt_format.proofs.Levels.{answers}
use Rattle.vt_mount_errors.proofs.LogRefused.{NamesArena, log_differs}
use Rattle.vt_format.proofs.SectionLevel.{leaves_same, stays_same}

names_are : {D : Type 0} (ps : List (Part D)) → names_of ps ≡ map (λ (t : Table). t.name) (tables_of ps)
names_are [] = refl
names_are (p ∷ ps) = ap (λ (l : List (List ℕ)). (table_of p).name ∷ l) (names_are ps)

-- what is held the same is left
holds_left : {D : Type 0} (disk : DiskOf D) (r : Result Index IndexError) (olds news : List D) → HoldTheSame disk olds news
    → (HasNoFault r → map disk.faults news ≡ map disk.faults olds) → AreArenasLeft disk r olds news
holds_left disk r olds news same quiet = record {
  many = map_long disk.size olds news same.sizes_are;
  each = λ i a b at_a at_b. (
    (
      map_there disk.size olds news i a b same.sizes_are at_a at_b,
      map_there disk.bytes olds news i a b same.bytes_are at_a at_b,
      same.images_are i a b at_a at_b,
    ),
    λ yes. map_there disk.faults olds news i a b (quiet yes) at_a at_b,
  );
}

-- one of the counts rose
one_rose : {D : Type 0} (disk : DiskOf D) (olds news : List D) → OneHasRisen (map disk.faults olds) (map disk.faults news)
    → FindsFault disk olds news (Fault None)
one_rose {D = D} disk olds news it =
    let within : it.which < length olds = omega (arith, it.within, length-map olds disk.faults) in
    let as_many : length news ≡ length olds = sym (length-map news disk.faults) ∙ it.many ∙ length-map olds disk.faults in
    let old = slice_get_there olds it.which within in
    let new = slice_get_there news it.which (omega (arith, within, as_many)) in
    let old_is : slice_index (map disk.faults olds) it.which ≡ disk.faults old.0 =
    get_or_from_slice_get (map disk.faults olds) it.which (disk.faults old.0) 0 (slice_get-map disk.faults olds it.which ∙ ap (option_map disk.faults) old.1) in
    let new_is : slice_index (map disk.faults news) it.which ≡ disk.faults new.0 =
    get_or_from_slice_get (map disk.faults news) it.which (disk.faults new.0) 0 (slice_get-map disk.faults news it.which ∙ ap (option_map disk.faults) new.1) in (
      it.which,
      old.0,
      new.0,
      old.1,
      new.1,
      subst (λ (n : ℕ). HasRisen n (disk.faults new.0)) old_is (subst (λ (n : ℕ). HasRisen (slice_index (map disk.faults olds) it.which) n) new_is it.rose),
    )

module _ {D : Type 0} (disk : DiskOf D) (told_is : Type 0) (conf : Conf) (s0 : List ℕ → Standing D) (f0 : ℕ) (ps qs : List (Part D))
    (same : HoldTheSame disk (disks_of ps) (disks_of qs)) where
  -- the log is found, and the sections are indexed behind it
  module _ (s1 : List ℕ → Standing D) (f1 : ℕ) (ns : List (SectionState D)) (r : Result Index IndexError) (all : length ps ≡ length conf.arenas.items)
      (quiet : map disk.faults (disks_of qs) ≡ map disk.faults (disks_of ps))
      (fields : List (List ℕ)) (are : IsTrue disk.tells → AreReadAt (layout_of (tables_of ps)) (map disk.bytes (disks_of ps)) fields)
      (distinct : AreDistinct (names_of ps)) (passed : first_bad_log false 0 (layout_of (tables_of ps)) fields ≡ None)
      (inner : IndexesSections disk told_is conf conf.sections.items s0 s1 f0 f1 [] ns r) where
    number : length conf.arenas.items + 0 ≡ length ps
    number = omega (arith, all)

    finds : IsTrue disk.tells → (found : Option MountBad)
        → FindsSections disk s0 conf.filter (length conf.arenas.items + 0) 0 conf.sections.items found
        → FindsLog disk s0 conf (tables_of ps) (map disk.bytes (disks_of ps)) found
    finds tells found behind = (
      fields,
      are tells,
      inr (
        subst AreDistinct (names_are ps) distinct,
        passed,
        subst (λ (k : ℕ). FindsSections disk s0 conf.filter k 0 conf.sections.items found)
            (number ∙ sym (length-map ps (λ (part : Part D). table_of part))) behind,
      ),
    )

    cause : (x : Result Index IndexError)
        → IfErr x (λ bad. ((f1 ≡ f0) × IsStoppedAmong (length conf.arenas.items) 0 bad)
        ⊎ IndexFails disk told_is (length conf.arenas.items + 0) (files_behind conf) s0 s1 f0 f1 bad)
        → IfErr x (λ bad. ((f1 ≡ f0) × FindsFault disk (disks_of ps) (disks_of qs) bad)
        ⊎ IndexFails disk told_is (length ps) (files_behind conf) s0 s1 f0 f1 bad)
    cause (Ok index) why = tt
    cause (Err bad) why = ⊎_elim
        (λ here. absurd (nobody bad here.1))
        (λ behind. inr (subst (λ (k : ℕ). IndexFails disk told_is k (files_behind conf) s0 s1 f0 f1 bad) number behind))
        why
      where
        nobody : (b : IndexError) → IsStoppedAmong (length conf.arenas.items) 0 b → ⊥
        nobody (Fault part) it = it
        nobody (Refused b) it = it
        nobody (Stopped part) it = absurd (omega (arith, it.0, it.1))

    stopped : (x : Result Index IndexError) → IfErr x (λ bad. told_is → IsTrue disk.tells
        → StopsIndex disk s0 s1 0 inner.total (length conf.arenas.items + 0) conf.sections.items bad)
        → IfErr x (λ bad. told_is → IsTrue disk.tells → StopsIndex disk s0 s1 0 inner.total (length conf.arenas.items) conf.sections.items bad)
    stopped (Ok index) behind = tt
    stopped (Err bad) behind = λ yes tells.
        let same : length conf.arenas.items + 0 ≡ length conf.arenas.items = omega arith in
        subst (λ (k : ℕ). StopsIndex disk s0 s1 0 inner.total k conf.sections.items bad) same (behind yes tells)

    pub log_found : IndexesArenas disk told_is conf [] s0 s1 f0 f1 ps qs r
    log_found = record {
      used = inner.used;
      total = inner.total;
      stopped = stopped r inner.stopped;
      sections = inner.sections;
      found = λ yes tells. answers (FindsSections disk s0 conf.filter (length conf.arenas.items + 0) 0 conf.sections.items)
          (FindsLog disk s0 conf (tables_of ps) (map disk.bytes (disks_of ps))) (finds tells) r (inner.found yes tells);
      differs = inner.differs;
      cause = cause r inner.cause;
      none = inner.none;
      back = inner.back;
      stays = inner.stays;
      left = holds_left disk r (disks_of ps) (disks_of qs) same (λ yes. quiet);
    }

  -- it isn't
  module _ (fields : List (List ℕ)) (are : IsTrue disk.tells → AreReadAt (layout_of (tables_of ps)) (map disk.bytes (disks_of ps)) fields) where
    refused_with : (why : LogBad) (bad : MountBad) → RefusesLogMount (names_of ps) (layout_of (tables_of ps)) fields why
        → bad ≡ of_log (layout_of (tables_of ps)) why → IsRefusalByTest bad → map disk.faults (disks_of qs) ≡ map disk.faults (disks_of ps)
        → IndexesArenas disk told_is conf [] s0 s0 f0 f0 ps qs (Err (Refused bad))
    refused_with why bad refused is names quiet = record {
      used = tt;
      total = 0;
      stopped = λ yes tells. tt;
      sections = tt;
      found = λ yes tells. inr (
        fields,
        are tells,
        inl (why, subst (λ (ns : List (List ℕ)). RefusesLogMount ns (layout_of (tables_of ps)) fields why) (names_are ps) refused, ap Some is),
      );
      differs = names;
      cause = inr refl;
      none = tt;
      back = λ yes n. leaves_same disk (Err (Refused bad)) (s0 n);
      stays = λ yes n no. stays_same disk (s0 n);
      left = holds_left disk (Err (Refused bad)) (disks_of ps) (disks_of qs) same (λ yes. quiet);
    }

    arena_refused : (i : ℕ) (why : ArenaBad) → RefusesLogMount (names_of ps) (layout_of (tables_of ps)) fields (log_bad.Arena i why) → NamesArena why
        → map disk.faults (disks_of qs) ≡ map disk.faults (disks_of ps)
        → IndexesArenas disk told_is conf [] s0 s0 f0 f0 ps qs (Err (index_error None (of_log (layout_of (tables_of ps)) (log_bad.Arena i why))))
    arena_refused i arena_bad.Fault refused names quiet = absurd names
    arena_refused i arena_bad.NotFormatted refused names quiet = refused_with (log_bad.Arena i arena_bad.NotFormatted) _ refused refl tt quiet
    arena_refused i (arena_bad.Torn field found want) refused names quiet =
        refused_with (log_bad.Arena i (arena_bad.Torn field found want)) _ refused refl names quiet
    arena_refused i arena_bad.NoMemory refused names quiet = absurd names

    pub log_refused : (why : LogBad) → RefusesLogMount (names_of ps) (layout_of (tables_of ps)) fields why
        → MatchBool (is_log_fault why) (OneHasRisen (map disk.faults (disks_of ps)) (map disk.faults (disks_of qs)))
        (map disk.faults (disks_of qs) ≡ map disk.faults (disks_of ps))
        → IndexesArenas disk told_is conf [] s0 s0 f0 f0 ps qs (Err (index_error None (of_log (layout_of (tables_of ps)) why)))
    log_refused (log_bad.Part (part_bad.DuplicateName i j)) refused quiet =
        refused_with (log_bad.Part (part_bad.DuplicateName i j)) _ refused refl refused.namesakes.order quiet
    log_refused (log_bad.Part part_bad.Fault) refused quiet = absurd refused
    log_refused (log_bad.Part (part_bad.TooSmall len need)) refused quiet = absurd refused
    log_refused (log_bad.Part part_bad.NotFormatted) refused quiet = absurd refused
    log_refused (log_bad.Part (part_bad.Torn field found want)) refused quiet = absurd refused
    log_refused (log_bad.Part part_bad.NoMemory) refused quiet = absurd refused
    log_refused (log_bad.Arena i why) refused quiet =
        arena_refused i why refused (log_differs false 0 (layout_of (tables_of ps)) fields (log_bad.Arena i why) refused.1) quiet
    log_refused (log_bad.Order i clumps) refused quiet =
        refused_with (log_bad.Order i clumps) _ refused refl
        (log_differs false 0 (layout_of (tables_of ps)) fields (log_bad.Order i clumps) refused.1) quiet
    log_refused log_bad.Fault refused rose = record {
      used = tt;
      total = 0;
      stopped = λ yes tells. tt;
      sections = tt;
      found = λ yes tells. tt;
      differs = tt;
      cause = inl (refl, one_rose disk (disks_of ps) (disks_of qs) rose);
      none = tt;
      back = λ yes n. leaves_same disk (Err (Fault None)) (s0 n);
      stays = λ yes n no. stays_same disk (s0 n);
      left = holds_left disk (Err (Fault None)) (disks_of ps) (disks_of qs) same (λ no. absurd no);
    }
    log_refused log_bad.NoMemory refused quiet = refused_with log_bad.NoMemory _ refused refl tt quiet
