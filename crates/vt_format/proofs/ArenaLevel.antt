-- What is done of the partitions of arenas of a configuration, level by level.
use Rattle.std.proofs.Common.{◌≡◌, ◌≢◌, ◌⊎◌, inl, inr, ⊎_elim, ℕ, ◌+◌, List, [], ◌∷◌, ◌++◌, Option, Some, Ok, Err, Result, length, map, refl, sym, ◌∙◌, ap, subst, arith, length-append}
use Rattle.std.specs.Prelude.{IfErr, IfOk, IsTrue, OnOk}
use Rattle.std.proofs.lemmas.List.{map-append, length-map}
use Rattle.std.proofs.lemmas.Option.{same_Some}
use Rattle.vt_base.specs.Faults.{HasRisen}
use Rattle.vt_base.specs.declared.mount.MountBad.{MountBad}
use Rattle.vt_base.specs.declared.mount.MountBad.TheVariants.{NoMemory}
use Rattle.vt_conf.specs.declared.conf.Conf.{Conf}
use Rattle.vt_conf.specs.declared.conf.PartFile.{PartFile}
use Rattle.vt_disk.specs.Calls.{OnlyReads}
use Rattle.vt_disk.specs.Members.{DiskOf}
use Rattle.vt_log.specs.Log.{disks_of}
use Rattle.vt_log.specs.Logs.{arena_count}
use Rattle.vt_part.specs.declared.part.Part.{Part}
use Rattle.vt_part.specs.Parts.{disk_of, table_of, tables_of}
use Rattle.vt_part.specs.Table.{Table}
use Rattle.vt_partitions.specs.Parts.{Standing, there, StaysThere}
use Rattle.vt_format.specs.declared.index.Index.{Index}
use Rattle.vt_format.specs.declared.index.IndexError.{IndexError}
use Rattle.vt_format.specs.declared.index.IndexError.TheVariants.{Fault, Refused, Stopped}
use Rattle.vt_format.specs.Index.{AreArenasLeft, ArePutToUse, IndexFails, FindsFault, IndexesArenas, IsPartLeft, HasNoFault, StopsIndex, LeavesThere, files_behind}
use Rattle.vt_format.specs.Opening.{FindsArenas, IsOpenedAs, RefusesArenaPart, RefusesDisk}
use Rattle.vt_format.proofs.ArenaLevels.{as_many, disks_more, finds_among, front_left, last_left, left_part, stays_part}
use Rattle.vt_format.proofs.Failing.{failed_here, later, missing_here}
use Rattle.vt_format.proofs.Finding.{finds_arenas}
use Rattle.vt_format.proofs.Levels.{answers, leaves_becomes, put_rest, stays_read, stopped_still}
use Rattle.vt_format.proofs.Rounds.{Round, again, new_is, old_is, round}
use Rattle.vt_format.proofs.SectionLevel.{all_stay, leaves_failed, read_leaves, read_stays, stays_same}

-- disks that weren't called
pub left_same : {D : Type 0} (disk : DiskOf D) (r : Result Index IndexError) (ds : List D) → AreArenasLeft disk r ds ds
left_same {D = D} disk r ds = record {
  many = refl;
  each = λ i a b at_a at_b.
      let same : a ≡ b = same_Some a b (sym at_a ∙ at_b) in (
        subst (λ (x : D). StaysThere disk (there a) (there x)) same (stays_same disk (there a)),
        λ quiet. ap disk.faults (sym same),
      );
}

module _ {D : Type 0} (disk : DiskOf D) (told : Type 0) (conf : Conf) (file : PartFile) (rest : List PartFile) (s0 : List ℕ → Standing D) (f0 : ℕ)
    (ps : List (Part D)) (number : ℕ) (number_is : number ≡ length ps) where
  -- the partition isn't handed out
  pub arenas_missing : (s1 : List ℕ → Standing D) (f1 : ℕ) → (told → StaysThere disk (s0 file.name) (s1 file.name))
      → (told → (n : List ℕ) → n ≢ file.name → s1 n ≡ s0 n) → HasRisen f0 f1
      → IndexesArenas disk told conf (file ∷ rest) s0 s1 f0 f1 ps ps (Err (Fault (Some number)))
  arenas_missing s1 f1 here others rose = record {
    used = tt;
    total = 0;
    stopped = λ yes tells. tt;
    sections = tt;
    found = λ yes tells. tt;
    differs = tt;
    cause = inr (inl (rose, missing_here told (length ps) file (rest ++ files_behind conf) s0 s1 others number number_is));
    none = tt;
    back = λ yes n. leaves_failed disk (Some number) (s0 n) (s1 n) (all_stay disk file.name s0 s1 (here yes) (others yes) n);
    stays = λ yes n no. all_stay disk file.name s0 s1 (here yes) (others yes) n;
    left = left_same disk (Err (Fault (Some number))) (disks_of ps);
  }

  module _ (s1 s3 : List ℕ → Standing D) (f1 f3 : ℕ) (first : f1 ≡ f0) (last : f3 ≡ f1) (d e : D) (it : told → Round file.name s0 s1 s1 s3 d e) where
    -- it is refused
    pub arenas_refused_here : (bad : IndexError) → OnlyReads disk 1 d e
        → RefusesDisk disk number (RefusesArenaPart disk number (arena_count (tables_of ps)) d) bad d e
        → IndexesArenas disk told conf (file ∷ rest) s0 s3 f0 f3 ps ps (Err bad)
    arenas_refused_here (Fault part) reads refused = record {
      used = tt;
      total = 0;
      stopped = λ yes tells. tt;
      sections = tt;
      found = λ yes tells. tt;
      differs = tt;
      cause = inr (subst (λ (p : Option ℕ). IndexFails disk told (length ps) ((file ∷ rest) ++ files_behind conf) s0 s3 f0 f3 (Fault p))
          (sym refused.0)
          (inr (
            last ∙ first,
            failed_here disk told (length ps) file (rest ++ files_behind conf) s0 s3 d e refused.1 (λ yes. (it yes).was)
                (λ yes. (it yes).back (it yes).now) number number_is,
          )));
      none = tt;
      back = λ yes n. read_leaves disk file.name s0 s1 s3 d e (it yes) (stays_read disk 1 d e reads) (Err (Fault part)) (λ no. absurd no) n;
      stays = λ yes n no. read_stays disk file.name s0 s1 s3 d e (it yes) (stays_read disk 1 d e reads) n;
      left = left_same disk (Err (Fault part)) (disks_of ps);
    }
    arenas_refused_here (Refused bad) reads refused = record {
      used = tt;
      total = 0;
      stopped = λ yes tells. tt;
      sections = tt;
      found = λ yes tells. ⊎_elim (λ memory. inl memory) (λ why. inr (
        d,
        (it yes).was,
        inl (bad, subst (λ (k : ℕ). RefusesArenaPart disk k (arena_count (tables_of ps)) d bad) (number_is ∙ tables_many) why, refl),
      )) (refused.2 tells);
      differs = refused.0;
      cause = inr (last ∙ first);
      none = tt;
      back = λ yes n. read_leaves disk file.name s0 s1 s3 d e (it yes) (stays_read disk 1 d e reads) (Err (Refused bad)) (λ quiet. refused.1) n;
      stays = λ yes n no. read_stays disk file.name s0 s1 s3 d e (it yes) (stays_read disk 1 d e reads) n;
      left = left_same disk (Err (Refused bad)) (disks_of ps);
    }
      where
        tables_many : length ps ≡ length (tables_of ps)
        tables_many = sym (length-map ps (λ (part : Part D). table_of part))
    arenas_refused_here (Stopped part) reads refused = absurd refused

    -- there is no memory for it
    pub arenas_left_out : (p : Part D) → IsOpenedAs disk (arena_count (tables_of ps)) d p → e ≡ disk_of p
        → IndexesArenas disk told conf (file ∷ rest) s0 s3 f0 f3 ps ps (Err (Refused NoMemory))
    arenas_left_out p opened same = record {
      used = tt;
      total = 0;
      stopped = λ yes tells. tt;
      sections = tt;
      found = λ yes tells. inl refl;
      differs = tt;
      cause = inr (last ∙ first);
      none = tt;
      back = λ yes n. read_leaves disk file.name s0 s1 s3 d e (it yes) stays_e (Err (Refused NoMemory))
          (λ quiet. ap disk.faults same ∙ opened.faults) n;
      stays = λ yes n no. read_stays disk file.name s0 s1 s3 d e (it yes) stays_e n;
      left = left_same disk (Err (Refused NoMemory)) (disks_of ps);
    }
      where
        stays_e : StaysThere disk (there d) (there e)
        stays_e = subst (λ (x : D). StaysThere disk (there d) (there x)) (sym same) (stays_read disk 1 d (disk_of p) opened.reads)

  -- it is opened, and the others behind it
  module _ (s1 s2 s3 : List ℕ → Standing D) (f1 f2 f3 : ℕ) (first : f1 ≡ f0) (last : f3 ≡ f2) (d e : D) (it : told → Round file.name s0 s1 s2 s3 d e)
      (p q : Part D) (qs : List (Part D)) (opened : IsOpenedAs disk (arena_count (tables_of ps)) d p) (e_is : e ≡ disk_of q)
      (r : Result Index IndexError)
      (inner : IndexesArenas disk told conf rest s1 s2 f1 f2 (ps ++ p ∷ []) (qs ++ q ∷ []) r) where
    many : length (ps ++ p ∷ []) ≡ length ps + 1
    many = length-append ps (p ∷ [])

    lefts : AreArenasLeft disk r (disks_of ps ++ disk_of p ∷ []) (disks_of qs ++ disk_of q ∷ [])
    lefts = subst (λ (ds : List D). AreArenasLeft disk r ds (disks_of qs ++ disk_of q ∷ [])) (disks_more ps p)
        (subst (λ (ds : List D). AreArenasLeft disk r (disks_of (ps ++ p ∷ [])) ds) (disks_more qs q) inner.left)

    as_many_parts : length (disks_of qs) ≡ length (disks_of ps)
    as_many_parts = as_many disk r (disks_of ps) (disks_of qs) (disk_of p) (disk_of q) lefts

    own : StaysThere disk (there (disk_of p)) (there (disk_of q)) × (HasNoFault r → disk.faults (disk_of q) ≡ disk.faults (disk_of p))
    own = last_left disk r (disks_of ps) (disks_of qs) (disk_of p) (disk_of q) lefts

    stays_e : StaysThere disk (there d) (there e)
    stays_e = subst (λ (x : D). StaysThere disk (there d) (there x)) (sym e_is) (stays_part disk (arena_count (tables_of ps)) d p q opened own.0)

    left_e : IsPartLeft disk r d e
    left_e = subst (λ (x : D). IsPartLeft disk r d x) (sym e_is) (left_part disk (arena_count (tables_of ps)) d p q opened r own.0 own.1)

    is_there : told → s3 file.name ≡ there e
    is_there tells = again file.name s0 s1 s2 s3 d e (it tells) (LeavesThere disk r) (leaves_becomes disk r) (inner.back tells file.name)

    was_there : told → (n : List ℕ) (a : D) → s1 n ≡ there a → s0 n ≡ there a
    was_there tells = old_is file.name s0 s1 s2 s3 d e (it tells)

    becomes_there : told → (n : List ℕ) (a b : D) → s1 n ≡ there a → s2 n ≡ there b → s3 n ≡ there b
    becomes_there tells = new_is file.name s0 s1 s2 s3 d e (it tells)

    pub arenas_behind : IndexesArenas disk told conf (file ∷ rest) s0 s3 f0 f3 ps qs r
    arenas_behind = record {
      used = used r inner.used;
      total = inner.total;
      stopped = stopped r inner.stopped;
      sections = inner.sections;
      found = λ yes tells. answers (FindsArenas disk s1 conf (tables_of (ps ++ p ∷ [])) (map disk.bytes (disks_of (ps ++ p ∷ []))) rest)
          (FindsArenas disk s0 conf (tables_of ps) (map disk.bytes (disks_of ps)) (file ∷ rest)) (finds yes tells) r (inner.found yes tells);
      differs = inner.differs;
      cause = cause r inner.cause;
      none = none r inner.none;
      back = λ yes name. round file.name s0 s1 s2 s3 d e (it yes) (LeavesThere disk r) (is_there yes) left_e name (λ no. inner.back yes name);
      stays = λ yes name no. round file.name s0 s1 s2 s3 d e (it yes) (StaysThere disk) (is_there yes) stays_e name (λ other. inner.stays yes name no);
      left = front_left disk r (disks_of ps) (disks_of qs) (disk_of p) (disk_of q) lefts;
    }
      where
        used : (r : Result Index IndexError) → IfOk r (λ (it : Index). told → IsTrue disk.tells → ArePutToUse disk s1 s2 0 it.buckets conf.sections.items)
            → IfOk r (λ (it : Index). told → IsTrue disk.tells → ArePutToUse disk s0 s3 0 it.buckets conf.sections.items)
        used (Err bad) behind = tt
        used (Ok index) behind = λ yes tells.
            put_rest disk s0 s1 s2 s3 (was_there yes) (becomes_there yes) 0 index.buckets conf.sections.items (behind yes tells)

        stopped : (r : Result Index IndexError) → IfErr r (λ bad. told → IsTrue disk.tells
            → StopsIndex disk s1 s2 0 inner.total (length conf.arenas.items) conf.sections.items bad)
            → IfErr r (λ bad. told → IsTrue disk.tells → StopsIndex disk s0 s3 0 inner.total (length conf.arenas.items) conf.sections.items bad)
        stopped (Ok index) behind = tt
        stopped (Err bad) behind = λ yes tells. stopped_still disk s0 s1 s2 s3 (was_there yes) (becomes_there yes) 0 inner.total (length conf.arenas.items)
            conf.sections.items bad (behind yes tells)

        tables : tables_of (ps ++ p ∷ []) ≡ tables_of ps ++ table_of p ∷ []
        tables = map-append (λ (part : Part D). table_of part) ps (p ∷ [])

        contents : map disk.bytes (disks_of (ps ++ p ∷ [])) ≡ map disk.bytes (disks_of ps) ++ disk.bytes d ∷ []
        contents = ap (λ (ds : List D). map disk.bytes ds) (disks_more ps p) ∙ map-append disk.bytes (disks_of ps) (disk_of p ∷ [])
            ∙ ap (λ (bytes : List ℕ). map disk.bytes (disks_of ps) ++ bytes ∷ []) opened.reads.bytes

        finds : told → IsTrue disk.tells → (found : Option MountBad)
            → FindsArenas disk s1 conf (tables_of (ps ++ p ∷ [])) (map disk.bytes (disks_of (ps ++ p ∷ []))) rest found
            → FindsArenas disk s0 conf (tables_of ps) (map disk.bytes (disks_of ps)) (file ∷ rest) found
        finds known tells found behind = (
          d,
          (it known).was,
          inr (
            table_of p,
            opened.partition tells,
            opened.few,
            finds_arenas disk s1 s0 (was_there known) conf (tables_of ps ++ table_of p ∷ []) (map disk.bytes (disks_of ps) ++ disk.bytes d ∷ []) rest found
                (subst (λ (ts : List Table). FindsArenas disk s1 conf ts (map disk.bytes (disks_of ps) ++ disk.bytes d ∷ []) rest found) tables
                (subst (λ (cs : List (List ℕ)). FindsArenas disk s1 conf (tables_of (ps ++ p ∷ [])) cs rest found) contents behind)),
          ),
        )

        none : (r : Result Index IndexError) → OnOk r (f2 ≡ f1) → OnOk r (f3 ≡ f0)
        none (Ok index) same = last ∙ same ∙ first
        none (Err bad) same = tt

        cause : (r : Result Index IndexError)
            → IfErr r (λ bad. ((f2 ≡ f1) × FindsFault disk (disks_of (ps ++ p ∷ [])) (disks_of (qs ++ q ∷ [])) bad)
            ⊎ IndexFails disk told (length (ps ++ p ∷ [])) (rest ++ files_behind conf) s1 s2 f1 f2 bad)
            → IfErr r (λ bad. ((f3 ≡ f0) × FindsFault disk (disks_of ps) (disks_of qs) bad)
            ⊎ IndexFails disk told (length ps) ((file ∷ rest) ++ files_behind conf) s0 s3 f0 f3 bad)
        cause (Ok index) why = tt
        cause (Err bad) why = ⊎_elim
            (λ here. ⊎_elim
            (λ before. inl (last ∙ here.0 ∙ first, before))
            (λ this. inr (subst (λ (b : IndexError). IndexFails disk told (length ps) ((file ∷ rest) ++ files_behind conf) s0 s3 f0 f3 b) (sym this.0) (
              last ∙ here.0 ∙ first,
              number,
              failed_here disk told (length ps) file (rest ++ files_behind conf) s0 s3 d (disk_of q)
                  (subst (λ (k : ℕ). HasRisen k (disk.faults (disk_of q))) opened.faults this.1)
                  (λ yes. (it yes).was) (λ yes. is_there yes ∙ ap there e_is) number number_is,
            )))
            (finds_among disk (disks_of ps) (disks_of qs) (disk_of p) (disk_of q)
            as_many_parts bad
            (subst (λ (ds : List D). FindsFault disk ds (disks_of qs ++ disk_of q ∷ []) bad) (disks_more ps p)
            (subst (λ (ds : List D). FindsFault disk (disks_of (ps ++ p ∷ [])) ds bad) (disks_more qs q) here.1))))
            (λ behind. inr (later disk told (length ps) file (rest ++ files_behind conf) s0 s1 s2 s3 d e it bad f0 f1 f2 f3 first last
            (subst (λ (k : ℕ). IndexFails disk told k (rest ++ files_behind conf) s1 s2 f1 f2 bad) many behind)))
            why
