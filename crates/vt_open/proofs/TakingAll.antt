-- The partitions of some files, one after another, and of all files of a configuration.
use Rattle.std.proofs.Common.{◌≡◌, ⊎_elim, inl, inr, ◌+◌, ◌<◌, ◌≤◌, ℕ, zero, suc, List, [], ◌∷◌, ◌++◌, length, map, take, drop, Some, refl, sym, ◌∙◌, ap, subst, arith, append_assoc, length-append}
use Rattle.std.specs.Prelude.{slice_get}
use Rattle.std.specs.List.{All, AllByRecursion, AllZip}
use Rattle.std.specs.Option.{option_to_list}
use Rattle.std.proofs.lemmas.List.{take_all}
use Rattle.std.proofs.lemmas.List.Elements.{All-from_recursion, All-nil}
use Rattle.vt_base.specs.declared.mount.MountBad.TheVariants.{NoMemory}
use Rattle.vt_conf.specs.declared.conf.Conf.{Conf}
use Rattle.vt_conf.specs.declared.conf.PartFile.{PartFile}
use Rattle.vt_disk.specs.Members.{DiskOf}
use Rattle.vt_log.specs.Answers.{HoldTheSame}
use Rattle.vt_log.specs.Log.{disks_of}
use Rattle.vt_part.specs.declared.part.Part.{Part}
use Rattle.vt_part.specs.Parts.{disk_of, table_of}
use Rattle.vt_recover.specs.declared.devices.Devices.{Devices}
use Rattle.vt_core.specs.Files.{all_of}
use Rattle.vt_open.specs.declared.error.OpenError.{OpenError}
use Rattle.vt_open.specs.declared.error.OpenError.TheVariants.{Missing, Refused}
use Rattle.vt_open.specs.Names.{files_of}
use Rattle.vt_open.specs.Taking.{AreHandedBack, AreTaken, AreTakenArenas, HasTable, IsMountedPart, IsTakingCause, RefusesTaking, TableIsRefused}
use Rattle.vt_open.specs.TakingAll.{AreAllTaken}
use Rattle.vt_open.proofs.Held.{IsHeld, held_reads, hold_zip}
use Rattle.vt_open.proofs.Lists.{zip_append, zip_length}
use Rattle.vt_open.proofs.Refusing.{refuses_behind, refuses_more}
use Rattle.vt_open.proofs.Taken.{Stands, taken_more, taken_none}

-- the first files, the next one, and those behind it
take_next : (files : List PartFile) (n : ℕ) (f : PartFile) → slice_get files n ≡ Some f → take (n + 1) files ≡ take n files ++ f ∷ []
take_next [] n f at = absurd (cc)
take_next (g ∷ files) zero f at = let same : g ≡ f = cc in ap (λ (x : PartFile). x ∷ []) same
take_next (g ∷ files) (suc n) f at =
    let e : suc n + 1 ≡ suc (n + 1) = omega arith in
    ap (λ (k : ℕ). take k (g ∷ files)) e ∙ ap (λ (l : List PartFile). g ∷ l) (take_next files n f at)

take_drop : (files : List PartFile) (n : ℕ) → files ≡ take n files ++ drop n files
take_drop [] zero = refl
take_drop [] (suc n) = refl
take_drop (f ∷ files) zero = refl
take_drop (f ∷ files) (suc n) = ap (λ (l : List PartFile). f ∷ l) (take_drop files n)

take_long : (files : List PartFile) (n : ℕ) (f : PartFile) → slice_get files n ≡ Some f → length (take n files) ≡ n
take_long [] n f at = absurd (cc)
take_long (g ∷ files) zero f at = refl
take_long (g ∷ files) (suc n) f at = let rest = take_long files n f at in omega (arith, rest)

within_of : (files : List PartFile) (n : ℕ) (f : PartFile) → slice_get files n ≡ Some f → n < length files
within_of [] n f at = absurd (cc)
within_of (g ∷ files) zero f at = omega arith
within_of (g ∷ files) (suc n) f at = let rest = within_of files n f at in omega (arith, rest)

module _ {D : Type 0} (disk : DiskOf D) where
  -- ---- tables that were read

  pub mounted_held : (handed : List D) (arenas : List (Part D)) → AllZip (IsMountedPart disk) handed arenas → HoldTheSame disk handed (disks_of arenas)
  mounted_held handed arenas it = hold_zip disk handed (disks_of arenas) (each handed arenas it)
    where
      each : (handed : List D) (arenas : List (Part D)) → AllZip (IsMountedPart disk) handed arenas → AllZip (IsHeld disk) handed (disks_of arenas)
      each [] [] it = tt
      each [] (p ∷ arenas) it = absurd it
      each (d ∷ handed) [] it = absurd it
      each (d ∷ handed) (p ∷ arenas) it = (held_reads disk 1 d (disk_of p) it.0.reads, each handed arenas it.1)

  pub mounted_faults : (handed : List D) (arenas : List (Part D)) → AllZip (IsMountedPart disk) handed arenas → map disk.faults (disks_of arenas) ≡ map disk.faults handed
  mounted_faults [] [] it = refl
  mounted_faults [] (p ∷ arenas) it = absurd it
  mounted_faults (d ∷ handed) [] it = absurd it
  mounted_faults (d ∷ handed) (p ∷ arenas) it =
      let here = it.0.faults_are in
      let rest = mounted_faults handed arenas it.1 in
      cc

  pub mounted_tables : (handed : List D) (arenas : List (Part D)) → AllZip (IsMountedPart disk) handed arenas → All (HasTable disk) handed
  mounted_tables handed arenas it = All-from_recursion (HasTable disk) handed (each handed arenas it)
    where
      each : (handed : List D) (arenas : List (Part D)) → AllZip (IsMountedPart disk) handed arenas → AllByRecursion (HasTable disk) handed
      each [] arenas it = tt
      each (d ∷ handed) [] it = absurd it
      each (d ∷ handed) (p ∷ arenas) it = ((λ tells. (table_of p, it.0.partition tells)), each handed arenas it.1)

  module _ (told : Type 0) where
    -- more of them may be of arenas, where none is handed out behind them
    refuses_wide : (first n m : ℕ) (files : List PartFile) (old new : Stands D) (f f' : ℕ) (bad : OpenError) → n ≤ m → length files ≤ n → RefusesTaking disk told first n files old new f f' bad
        → RefusesTaking disk told first m files old new f f' bad
    refuses_wide first n m files old new f f' bad le all it = record {
      handed = it.handed;
      back = it.back;
      are = it.are;
      held = it.held;
      cause = wide bad it.cause;
    }
      where
        wide : (bad : OpenError) → IsTakingCause disk first n (length files) f f' it.handed it.back bad → IsTakingCause disk first m (length files) f f' it.handed it.back bad
        wide (Missing part) (at, few, rose, same, tables) =
            let here : take n it.handed ≡ it.handed = take_all n it.handed (omega (arith, few, all)) in
            let there : take m it.handed ≡ it.handed = take_all m it.handed (omega (arith, few, all, le)) in
            (at, few, rose, same, subst (λ (l : List D). All (HasTable disk) l) (here ∙ sym there) tables)
        wide (Refused why) (same, count, cause) = (
          same,
          count,
          ⊎_elim
              (λ (none : why ≡ NoMemory). inl none)
              (λ (table : TableIsRefused disk first n it.handed why). inr (record {
                i = table.i;
                last = table.last;
                within = let w = table.within in omega (arith, w, le);
                before = table.before;
                device = table.device;
                at = table.at;
                why = table.why;
                bad_is = table.bad_is;
                names = table.names;
                refuses = table.refuses;
              })) cause,
        )

    -- ---- one more file

    pub next_taken : (files : List PartFile) (n : ℕ) (f : PartFile) (old mid new : Stands D) (ds : List D) (d : D) → slice_get files n ≡ Some f → AreTaken told (take n files) old mid ds
        → AreTaken told (f ∷ []) mid new (d ∷ []) → AreTaken told (take (n + 1) files) old new (ds ++ d ∷ [])
    next_taken files n f old mid new ds d at one two =
        subst (λ (l : List PartFile). AreTaken told l old new (ds ++ d ∷ [])) (sym (take_next files n f at)) (taken_more told (take n files) (f ∷ []) old mid new ds (d ∷ []) one two)

    pub next_taken_arena : (files : List PartFile) (n : ℕ) (f : PartFile) (old mid new : Stands D) (arenas : List (Part D)) (p : Part D) → slice_get files n ≡ Some f
        → AreTakenArenas disk told (take n files) old mid arenas → AreTakenArenas disk told (f ∷ []) mid new (p ∷ []) → AreTakenArenas disk told (take (n + 1) files) old new (arenas ++ p ∷ [])
    next_taken_arena files n f old mid new arenas p at one two = record {
      handed = one.handed ++ two.handed;
      taken = subst (λ (l : List PartFile). AreTaken told l old new (one.handed ++ two.handed)) (sym (take_next files n f at))
          (taken_more told (take n files) (f ∷ []) old mid new one.handed two.handed one.taken two.taken);
      mounted = zip_append (IsMountedPart disk) one.handed two.handed arenas (p ∷ []) one.mounted two.mounted;
    }

    pub many_taken : (files : List PartFile) (old new : Stands D) (arenas : List (Part D)) → AreTakenArenas disk told files old new arenas → length arenas ≡ length files
    many_taken files old new arenas it = let m = it.taken.many in zip_length (IsMountedPart disk) it.handed arenas it.mounted ∙ m

    pub arenas_start : (files : List PartFile) (s : Stands D) → AreTakenArenas disk told (take 0 files) s s []
    arenas_start files s = record { handed = []; taken = taken_none told s; mounted = tt }

    -- the next one isn't handed out, and those before it are back
    pub next_refused : (first : ℕ) (files : List PartFile) (n : ℕ) (f : PartFile) (old mid late new : Stands D) (ds : List D) (f0 f1 f2 f3 : ℕ) (bad : OpenError) → slice_get files n ≡ Some f
        → AreTaken told (take n files) old mid ds → RefusesTaking disk told (first + n) 0 (f ∷ []) mid late f1 f2 bad → AreHandedBack told (take n files) late new ds → f1 ≡ f0 → f3 ≡ f2
        → RefusesTaking disk told first 0 files old new f0 f3 bad
    next_refused first files n f old mid late new ds f0 f1 f2 f3 bad at taken refused given same01 same23 =
        let long = take_long files n f at in
        let number : first + n ≡ first + length (take n files) = omega (arith, long) in
        let here : RefusesTaking disk told (first + length (take n files)) 0 (f ∷ []) mid late f1 f2 bad = subst (λ (k : ℕ). RefusesTaking disk told k 0 (f ∷ []) mid late f1 f2 bad) number refused in
        let front = refuses_behind disk told first 0 0 (take n files) (f ∷ []) old mid late new ds ds f0 f1 f2 f3 taken given (still ds) refl (omega arith) (All-nil (HasTable disk)) (inr refl) same01 same23 bad here in
        let whole : (take n files ++ f ∷ []) ++ drop (n + 1) files ≡ files =
        ap (λ (l : List PartFile). l ++ drop (n + 1) files) (sym (take_next files n f at)) ∙ sym (take_drop files (n + 1)) in
        subst (λ (l : List PartFile). RefusesTaking disk told first 0 l old new f0 f3 bad) whole (refuses_more disk told first 0 (take n files ++ f ∷ []) (drop (n + 1) files) old new f0 f3 bad front)
      where
        each : (ds : List D) → AllZip (IsHeld disk) ds ds
        each [] = tt
        each (d ∷ ds) = (record { bytes = refl; size = refl; images = λ c image. image }, each ds)

        still : (ds : List D) → HoldTheSame disk ds ds
        still ds = hold_zip disk ds ds (each ds)

    pub next_refused_arena : (files : List PartFile) (n : ℕ) (f : PartFile) (old mid late new : Stands D) (arenas : List (Part D)) (f0 f1 f2 f3 : ℕ) (bad : OpenError) → slice_get files n ≡ Some f
        → AreTakenArenas disk told (take n files) old mid arenas → RefusesTaking disk told n 1 (f ∷ []) mid late f1 f2 bad → AreHandedBack told (take n files) late new (disks_of arenas) → f1 ≡ f0 → f3 ≡ f2
        → RefusesTaking disk told 0 (length files) files old new f0 f3 bad
    next_refused_arena files n f old mid late new arenas f0 f1 f2 f3 bad at taken refused given same01 same23 =
        let long = take_long files n f at in
        let within = within_of files n f at in
        let number : n ≡ 0 + length (take n files) = omega (arith, long) in
        let here : RefusesTaking disk told (0 + length (take n files)) 1 (f ∷ []) mid late f1 f2 bad = subst (λ (k : ℕ). RefusesTaking disk told k 1 (f ∷ []) mid late f1 f2 bad) number refused in
        let tables : All (HasTable disk) (take n taken.handed) =
        let m = taken.taken.many in
        subst (λ (l : List D). All (HasTable disk) l) (sym (take_all n taken.handed (omega (arith, long, m)))) (mounted_tables taken.handed arenas taken.mounted) in
        let front = refuses_behind disk told 0 n 1 (take n files) (f ∷ []) old mid late new taken.handed (disks_of arenas) f0 f1 f2 f3 taken.taken given
        (mounted_held taken.handed arenas taken.mounted) (mounted_faults taken.handed arenas taken.mounted) (omega (arith, long)) tables (inl (sym long)) same01 same23 bad here in
        let wide = refuses_wide 0 (n + 1) (length files) (take n files ++ f ∷ []) old new f0 f3 bad (omega (arith, within)) (omega (arith, long, length-append (take n files) (f ∷ []))) front in
        let whole : (take n files ++ f ∷ []) ++ drop (n + 1) files ≡ files =
        ap (λ (l : List PartFile). l ++ drop (n + 1) files) (sym (take_next files n f at)) ∙ sym (take_drop files (n + 1)) in
        subst (λ (l : List PartFile). RefusesTaking disk told 0 (length files) l old new f0 f3 bad) whole
        (refuses_more disk told 0 (length files) (take n files ++ f ∷ []) (drop (n + 1) files) old new f0 f3 bad wide)

    -- ---- the files of a configuration

    module _ (conf : Conf) where
      abbrev as_ : List PartFile
      as_ = conf.arenas.items

      abbrev ss : List PartFile
      ss = conf.sections.items

      abbrev fs : List PartFile
      fs = option_to_list conf.filter

      -- arenas' partitions weren't all handed out
      pub arenas_refused : (old new : Stands D) (f f' : ℕ) (bad : OpenError) → RefusesTaking disk told 0 (length as_) as_ old new f f' bad
          → RefusesTaking disk told 0 (length as_) (all_of (files_of conf)) old new f f' bad
      arenas_refused old new f f' bad it =
          refuses_more disk told 0 (length as_) (as_ ++ ss) fs old new f f' bad (refuses_more disk told 0 (length as_) as_ ss old new f f' bad it)

      -- what comes behind them isn't
      behind_arenas : (more : List PartFile) (old mid late new : Stands D) (arenas : List (Part D)) (f0 f1 f2 f3 : ℕ) (bad : OpenError) → AreTakenArenas disk told as_ old mid arenas
          → RefusesTaking disk told (length as_) 0 more mid late f1 f2 bad → AreHandedBack told as_ late new (disks_of arenas) → f1 ≡ f0 → f3 ≡ f2
          → RefusesTaking disk told 0 (length as_) (as_ ++ more) old new f0 f3 bad
      behind_arenas more old mid late new arenas f0 f1 f2 f3 bad taken refused given same01 same23 =
          let m = taken.taken.many in
          let tables : All (HasTable disk) (take (length as_) taken.handed) =
          subst (λ (l : List D). All (HasTable disk) l) (sym (take_all (length as_) taken.handed (omega (arith, m)))) (mounted_tables taken.handed arenas taken.mounted) in
          let here : RefusesTaking disk told (0 + length as_) 0 more mid late f1 f2 bad = subst (λ (k : ℕ). RefusesTaking disk told k 0 more mid late f1 f2 bad) (omega arith) refused in
          let all = refuses_behind disk told 0 (length as_) 0 as_ more old mid late new taken.handed (disks_of arenas) f0 f1 f2 f3 taken.taken given
          (mounted_held taken.handed arenas taken.mounted) (mounted_faults taken.handed arenas taken.mounted) (omega arith) tables (inl refl) same01 same23 bad here in
          subst (λ (k : ℕ). RefusesTaking disk told 0 k (as_ ++ more) old new f0 f3 bad) (omega arith) all

      pub sections_refused : (old mid late new : Stands D) (arenas : List (Part D)) (f0 f1 f2 f3 : ℕ) (bad : OpenError) → AreTakenArenas disk told as_ old mid arenas
          → RefusesTaking disk told (length as_) 0 ss mid late f1 f2 bad → AreHandedBack told as_ late new (disks_of arenas) → f1 ≡ f0 → f3 ≡ f2
          → RefusesTaking disk told 0 (length as_) (all_of (files_of conf)) old new f0 f3 bad
      sections_refused old mid late new arenas f0 f1 f2 f3 bad taken refused given same01 same23 =
          refuses_more disk told 0 (length as_) (as_ ++ ss) fs old new f0 f3 bad (behind_arenas ss old mid late new arenas f0 f1 f2 f3 bad taken refused given same01 same23)

      pub filter_refused : (old mid1 mid2 late1 late2 new : Stands D) (arenas : List (Part D)) (sections : List D) (f0 f1 f2 f3 f4 f5 : ℕ) (bad : OpenError) → AreTakenArenas disk told as_ old mid1 arenas
          → AreTaken told ss mid1 mid2 sections → RefusesTaking disk told (length as_ + length ss) 0 fs mid2 late1 f2 f3 bad → AreHandedBack told ss late1 late2 sections → AreHandedBack told as_ late2 new (disks_of arenas)
          → f1 ≡ f0 → f2 ≡ f1 → f4 ≡ f3 → f5 ≡ f4
          → RefusesTaking disk told 0 (length as_) (all_of (files_of conf)) old new f0 f5 bad
      filter_refused old mid1 mid2 late1 late2 new arenas sections f0 f1 f2 f3 f4 f5 bad taken more refused given also s01 s12 s34 s45 =
          let inner = refuses_behind disk told (length as_) 0 0 ss fs mid1 mid2 late1 late2 sections sections f1 f2 f3 f4 more given (still sections) refl (omega arith) (All-nil (HasTable disk)) (inr refl) s12 s34 bad refused in
          subst (λ (l : List PartFile). RefusesTaking disk told 0 (length as_) l old new f0 f5 bad) (sym (append_assoc as_ ss fs))
          (behind_arenas (ss ++ fs) old mid1 late2 new arenas f0 f1 f4 f5 bad taken inner also s01 s45)
        where
          each : (ds : List D) → AllZip (IsHeld disk) ds ds
          each [] = tt
          each (d ∷ ds) = (record { bytes = refl; size = refl; images = λ c image. image }, each ds)

          still : (ds : List D) → HoldTheSame disk ds ds
          still ds = hold_zip disk ds ds (each ds)

      pub all_taken : (old mid1 mid2 new : Stands D) (devices : Devices D) → AreTakenArenas disk told as_ old mid1 devices.parts.items → AreTaken told ss mid1 mid2 devices.sections.items
          → AreTaken told fs mid2 new (option_to_list devices.filter) → AreAllTaken disk told conf old new devices
      all_taken old mid1 mid2 new devices one two three = record {
        handed = record { partitions = one.handed; sections = devices.sections.items; filter = option_to_list devices.filter };
        shape = record { partitions = one.taken.many; sections = two.many; filter = three.many };
        taken = taken_more told (as_ ++ ss) fs old mid2 new (one.handed ++ devices.sections.items) (option_to_list devices.filter)
            (taken_more told as_ ss old mid1 mid2 one.handed devices.sections.items one.taken two) three;
        mounted = one.mounted;
        sections = refl;
        filter = refl;
      }
