-- What is done of the sections and the filter of a configuration, level by level.
use Rattle.std.proofs.Common.{◌≡◌, ◌≢◌, ◌⊎◌, inl, inr, ⊎_elim, ℕ, suc, ◌+◌, List, [], ◌∷◌, ◌++◌, Option, Some, Ok, Err, Result, length, refl, sym, ◌∙◌, ap, subst, arith, length-append}
use Rattle.std.specs.Prelude.{IfErr, IfOk, IsTrue, OnOk}
use Rattle.std.proofs.lemmas.List.Sums.{sum_by-append}
use Rattle.vt_base.specs.Faults.{HasRisen}
use Rattle.vt_base.specs.declared.mount.MountBad.{MountBad}
use Rattle.vt_base.specs.declared.mount.MountBad.TheVariants.{NoMemory}
use Rattle.vt_conf.specs.declared.conf.Conf.{Conf}
use Rattle.vt_conf.specs.declared.conf.PartFile.{PartFile}
use Rattle.vt_disk.specs.Calls.{OnlyReads}
use Rattle.vt_disk.specs.Members.{DiskOf}
use Rattle.vt_isect.specs.Section.{SectionState}
use Rattle.vt_partitions.specs.Parts.{Standing, nothing, lent, there, StaysThere}
use Rattle.vt_format.specs.declared.index.Index.{Index}
use Rattle.vt_format.specs.declared.index.IndexError.{IndexError}
use Rattle.vt_format.specs.declared.index.IndexError.TheVariants.{Fault, Refused, Stopped}
use Rattle.vt_format.specs.Index.{ArePutToUse, IndexFails, IndexesSections, IsPartLeft, HasNoFault, IsStoppedAmong, LeavesOpened, StopsSection, StopsSections, StopsIndex, LeavesThere, PutsSectionToUse, listed}
use Rattle.vt_format.specs.Opening.{FindsSections, IsOpenedSection, RefusesDisk, RefusesSection}
use Rattle.vt_format.specs.Usage.{total_buckets}
use Rattle.vt_format.proofs.Failing.{failed_here, later, missing_here}
use Rattle.vt_format.proofs.Finding.{finds_sections}
use Rattle.vt_format.proofs.Levels.{answers, leaves_becomes, leaves_section, left_one, put, put_rest, stays_read, stopped_among, stopped_here, stopped_rest}
use Rattle.vt_format.proofs.Opened.{LeavesOne, split}
use Rattle.vt_format.proofs.Rounds.{Round, again, new_is, old_is, round, same_or_not}

-- ---- what isn't worked on

pub leaves_same : {D : Type 0} (disk : DiskOf D) (r : Result Index IndexError) (x : Standing D) → LeavesThere disk r x x
leaves_same disk r nothing = refl
leaves_same disk r lent = refl
leaves_same disk r (there a) = record {
  size = refl;
  unwritten = λ yes. (refl, refl, λ c left. left);
  quiet = λ yes. refl;
}

pub stays_same : {D : Type 0} (disk : DiskOf D) (x : Standing D) → StaysThere disk x x
stays_same disk nothing = refl
stays_same disk lent = refl
stays_same disk (there a) = (refl, refl, λ c left. left)

-- what a call that fails leaves
pub leaves_failed : {D : Type 0} (disk : DiskOf D) (part : Option ℕ) (x y : Standing D) → StaysThere disk x y → LeavesThere disk (Err (Fault part)) x y
leaves_failed disk part nothing y it = it
leaves_failed disk part lent y it = it
leaves_failed disk part (there a) nothing it = it
leaves_failed disk part (there a) lent it = it
leaves_failed disk part (there a) (there b) it = record {
  size = it.0;
  unwritten = λ yes. it;
  quiet = λ no. absurd no;
}

-- it isn't handed out
module _ {D : Type 0} (disk : DiskOf D) (f : List ℕ) (s0 s1 : List ℕ → Standing D) (here : StaysThere disk (s0 f) (s1 f))
    (others : (n : List ℕ) → n ≢ f → s1 n ≡ s0 n) where
  pub all_stay : (n : List ℕ) → StaysThere disk (s0 n) (s1 n)
  all_stay n = ⊎_elim
      (λ (same : n ≡ f). subst (λ (m : List ℕ). StaysThere disk (s0 m) (s1 m)) (sym same) here)
      (λ (no : n ≢ f). subst (λ (x : Standing D). StaysThere disk (s0 n) x) (sym (others n no)) (stays_same disk (s0 n)))
      (same_or_not n f)

-- it is read, and taken back, and nothing else is done
module _ {D : Type 0} (disk : DiskOf D) (f : List ℕ) (s0 s1 s3 : List ℕ → Standing D) (d e : D) (it : Round f s0 s1 s1 s3 d e)
    (stays : StaysThere disk (there d) (there e)) where
  is_again : s3 f ≡ there e
  is_again = it.back it.now

  pub read_stays : (n : List ℕ) → StaysThere disk (s0 n) (s3 n)
  read_stays n = round f s0 s1 s1 s3 d e it (StaysThere disk) is_again stays n (λ no. stays_same disk (s1 n))

  pub read_leaves : (r : Result Index IndexError) → (HasNoFault r → disk.faults e ≡ disk.faults d) → (n : List ℕ) → LeavesThere disk r (s0 n) (s3 n)
  read_leaves r quiet n =
      let left : IsPartLeft disk r d e = record { size = stays.0; unwritten = λ yes. stays; quiet = quiet } in
      round f s0 s1 s1 s3 d e it (LeavesThere disk r) is_again left n (λ no. leaves_same disk r (s1 n))

-- ---- sections

module _ {D : Type 0} (disk : DiskOf D) (told : Type 0) (conf : Conf) (file : PartFile) (rest : List PartFile) (number : ℕ)
    (s0 : List ℕ → Standing D) (f0 : ℕ) (os : List (SectionState D)) (number_is : number ≡ length conf.arenas.items + length os) where
  -- the section isn't handed out
  pub section_missing : (s1 : List ℕ → Standing D) (f1 : ℕ) → (told → StaysThere disk (s0 file.name) (s1 file.name))
      → (told → (n : List ℕ) → n ≢ file.name → s1 n ≡ s0 n) → HasRisen f0 f1
      → IndexesSections disk told conf (file ∷ rest) s0 s1 f0 f1 os os (Err (Fault (Some number)))
  section_missing s1 f1 here others rose = record {
    used = tt;
    total = 0;
    stopped = λ yes tells. tt;
    sections = tt;
    found = λ yes tells. tt;
    differs = tt;
    cause = inr (inl (rose, missing_here told (length conf.arenas.items + length os) file (rest ++ listed conf.filter) s0 s1 others number number_is));
    none = tt;
    back = λ yes n. leaves_failed disk (Some number) (s0 n) (s1 n) (all_stay disk file.name s0 s1 (here yes) (others yes) n);
    stays = λ yes n no. all_stay disk file.name s0 s1 (here yes) (others yes) n;
    left = refl;
  }

  module _ (s1 s3 : List ℕ → Standing D) (f1 f3 : ℕ) (first : f1 ≡ f0) (last : f3 ≡ f1) (d e : D) (it : told → Round file.name s0 s1 s1 s3 d e) where
    -- it is refused
    pub section_refused_here : (bad : IndexError) → OnlyReads disk 3 d e
        → RefusesDisk disk number (RefusesSection disk number (total_buckets os) d) bad d e
        → IndexesSections disk told conf (file ∷ rest) s0 s3 f0 f3 os os (Err bad)
    section_refused_here (Fault part) reads refused = record {
      used = tt;
      total = 0;
      stopped = λ yes tells. tt;
      sections = tt;
      found = λ yes tells. tt;
      differs = tt;
      cause = inr (subst (λ (p : Option ℕ). IndexFails disk told (length conf.arenas.items + length os) ((file ∷ rest) ++ listed conf.filter) s0 s3 f0 f3 (Fault p))
          (sym refused.0)
          (inr (
            last ∙ first,
            failed_here disk told (length conf.arenas.items + length os) file (rest ++ listed conf.filter) s0 s3 d e refused.1 (λ yes. (it yes).was)
                (λ yes. (it yes).back (it yes).now) number number_is,
          )));
      none = tt;
      back = λ yes n. read_leaves disk file.name s0 s1 s3 d e (it yes) (stays_read disk 3 d e reads) (Err (Fault part)) (λ no. absurd no) n;
      stays = λ yes n no. read_stays disk file.name s0 s1 s3 d e (it yes) (stays_read disk 3 d e reads) n;
      left = refl;
    }
    section_refused_here (Refused bad) reads refused = record {
      used = tt;
      total = 0;
      stopped = λ yes tells. tt;
      sections = tt;
      found = λ yes tells. ⊎_elim (λ memory. inl memory) (λ why. inr (
        d,
        (it yes).was,
        inl (bad, subst (λ (k : ℕ). RefusesSection disk k (total_buckets os) d bad) number_is why, refl),
      )) (refused.2 tells);
      differs = refused.0;
      cause = inr (last ∙ first);
      none = tt;
      back = λ yes n. read_leaves disk file.name s0 s1 s3 d e (it yes) (stays_read disk 3 d e reads) (Err (Refused bad)) (λ quiet. refused.1) n;
      stays = λ yes n no. read_stays disk file.name s0 s1 s3 d e (it yes) (stays_read disk 3 d e reads) n;
      left = refl;
    }
    section_refused_here (Stopped part) reads refused = absurd refused

    -- there is no memory for it
    pub section_left_out : (o : SectionState D) → IsOpenedSection disk (total_buckets os) d o → e ≡ o.disk
        → IndexesSections disk told conf (file ∷ rest) s0 s3 f0 f3 os os (Err (Refused NoMemory))
    section_left_out o opened same = record {
      used = tt;
      total = 0;
      stopped = λ yes tells. tt;
      sections = tt;
      found = λ yes tells. inl refl;
      differs = tt;
      cause = inr (last ∙ first);
      none = tt;
      back = λ yes n. read_leaves disk file.name s0 s1 s3 d e (it yes) stays_e (Err (Refused NoMemory))
          (λ quiet. ap disk.faults same ∙ opened.faults) n;
      stays = λ yes n no. read_stays disk file.name s0 s1 s3 d e (it yes) stays_e n;
      left = refl;
    }
      where
        stays_e : StaysThere disk (there d) (there e)
        stays_e = subst (λ (x : D). StaysThere disk (there d) (there x)) (sym same) (stays_read disk 3 d o.disk opened.reads)

  -- it is opened, and the others behind it
  module _ (s1 s2 s3 : List ℕ → Standing D) (f1 f2 f3 : ℕ) (first : f1 ≡ f0) (last : f3 ≡ f2) (d e : D) (it : told → Round file.name s0 s1 s2 s3 d e)
      (o n : SectionState D) (ns : List (SectionState D)) (opened : IsOpenedSection disk (total_buckets os) d o) (e_is : e ≡ n.disk)
      (r : Result Index IndexError)
      (inner : IndexesSections disk told conf rest s1 s2 f1 f2 (os ++ o ∷ []) (ns ++ n ∷ []) r) where
    many : length conf.arenas.items + length (os ++ o ∷ []) ≡ length conf.arenas.items + length os + 1
    many = omega (arith, length-append os (o ∷ []))

    buckets : total_buckets (os ++ o ∷ []) ≡ total_buckets os + o.buckets
    buckets = omega (arith, sum_by-append (λ (section : SectionState D). section.buckets) os (o ∷ []))

    parts : LeavesOpened disk (length conf.arenas.items) inner.total r os ns
        × LeavesOne disk (length conf.arenas.items) inner.total r (length os) (total_buckets os) o n
    parts = split disk os ns o n (length conf.arenas.items) inner.total r inner.left

    left_e : IsPartLeft disk r d e
    left_e = subst (λ (x : D). IsPartLeft disk r d x) (sym e_is) (left_one disk (length conf.arenas.items) inner.total os d o n opened r parts.1)

    is_there : told → s3 file.name ≡ there e
    is_there tells = again file.name s0 s1 s2 s3 d e (it tells) (LeavesThere disk r) (leaves_becomes disk r) (inner.back tells file.name)

    was_there : told → (n : List ℕ) (a : D) → s1 n ≡ there a → s0 n ≡ there a
    was_there tells = old_is file.name s0 s1 s2 s3 d e (it tells)

    becomes_there : told → (n : List ℕ) (a b : D) → s1 n ≡ there a → s2 n ≡ there b → s3 n ≡ there b
    becomes_there tells = new_is file.name s0 s1 s2 s3 d e (it tells)

    pub section_behind : IndexesSections disk told conf (file ∷ rest) s0 s3 f0 f3 os ns r
    section_behind = record {
      used = used r inner.used parts.1;
      total = inner.total;
      stopped = stopped r inner.stopped parts.1;
      sections = inner.sections;
      found = λ yes tells. answers (FindsSections disk s1 conf.filter (length conf.arenas.items + length (os ++ o ∷ [])) (total_buckets (os ++ o ∷ [])) rest)
          (FindsSections disk s0 conf.filter (length conf.arenas.items + length os) (total_buckets os) (file ∷ rest)) (finds yes tells) r (inner.found yes tells);
      differs = inner.differs;
      cause = cause r inner.cause parts.1;
      none = none r inner.none;
      back = λ yes name. round file.name s0 s1 s2 s3 d e (it yes) (LeavesThere disk r) (is_there yes) left_e name (λ no. inner.back yes name);
      stays = λ yes name no.
          subst (λ (x : Standing D). StaysThere disk (s0 name) x) (sym ((it yes).taken name (λ same. no (0, omega arith, sym same))))
          (subst (λ (x : Standing D). StaysThere disk x (s2 name)) ((it yes).handed name (λ same. no (0, omega arith, sym same)))
          (inner.stays yes name (λ among. no (suc among.0, omega (arith, among.1), among.2))));
      left = parts.0;
    }
      where
        used : (r : Result Index IndexError)
            → IfOk r (λ (it : Index). told → IsTrue disk.tells → ArePutToUse disk s1 s2 (total_buckets (os ++ o ∷ [])) it.buckets rest)
            → LeavesOne disk (length conf.arenas.items) inner.total r (length os) (total_buckets os) o n
            → IfOk r (λ (it : Index). told → IsTrue disk.tells → ArePutToUse disk s0 s3 (total_buckets os) it.buckets (file ∷ rest))
        used (Err bad) behind one = tt
        used (Ok index) behind one = λ yes tells. (
          o.buckets,
          subst (λ (x : Standing D). PutsSectionToUse disk (total_buckets os) o.buckets index.buckets x (s3 file.name)) (sym (it yes).was)
              (subst (λ (x : Standing D). PutsSectionToUse disk (total_buckets os) o.buckets index.buckets (there d) x) (ap there (sym e_is) ∙ sym (is_there yes))
              (put disk (length conf.arenas.items) inner.total os d o n opened index.buckets tells one)),
          subst (λ (k : ℕ). ArePutToUse disk s0 s3 k index.buckets rest) buckets
              (put_rest disk s0 s1 s2 s3 (was_there yes) (becomes_there yes) (total_buckets (os ++ o ∷ [])) index.buckets rest (behind yes tells)),
        )

        stopped : (r : Result Index IndexError)
            → IfErr r (λ bad. told → IsTrue disk.tells → StopsIndex disk s1 s2 (total_buckets (os ++ o ∷ [])) inner.total
            (length conf.arenas.items + length (os ++ o ∷ [])) rest bad)
            → LeavesOne disk (length conf.arenas.items) inner.total r (length os) (total_buckets os) o n
            → IfErr r (λ bad. told → IsTrue disk.tells → StopsIndex disk s0 s3 (total_buckets os) inner.total
            (length conf.arenas.items + length os) (file ∷ rest) bad)
        stopped (Ok index) behind one = tt
        stopped (Err (Fault part)) behind one = λ yes tells. tt
        stopped (Err (Refused bad)) behind one = λ yes tells. tt
        stopped (Err (Stopped part)) behind one = λ yes tells. (
          o.buckets,
          subst (λ (x : Standing D). StopsSection disk (total_buckets os) o.buckets inner.total (length conf.arenas.items + length os) part x (s3 file.name))
              (sym (it yes).was)
              (subst (λ (x : Standing D). StopsSection disk (total_buckets os) o.buckets inner.total (length conf.arenas.items + length os) part (there d) x)
              (ap there (sym e_is) ∙ sym (is_there yes))
              (leaves_section disk (length conf.arenas.items) inner.total os d o n opened part tells one)),
          stopped_rest disk s0 s1 s2 s3 (was_there yes) (becomes_there yes) (total_buckets os + o.buckets) inner.total (length conf.arenas.items + length os + 1) part
              rest
              (subst (λ (k : ℕ). StopsSections disk s1 s2 k inner.total (length conf.arenas.items + length os + 1) part rest) buckets
              (subst (λ (k : ℕ). StopsSections disk s1 s2 (total_buckets (os ++ o ∷ [])) inner.total k part rest) many (behind yes tells))),
        )

        finds : told → IsTrue disk.tells → (found : Option MountBad)
            → FindsSections disk s1 conf.filter (length conf.arenas.items + length (os ++ o ∷ [])) (total_buckets (os ++ o ∷ [])) rest found
            → FindsSections disk s0 conf.filter (length conf.arenas.items + length os) (total_buckets os) (file ∷ rest) found
        finds known tells found behind = (
          d,
          (it known).was,
          inr (
            opened.accepted tells,
            omega (arith, opened.few, opened.buckets),
            subst (λ (k : ℕ). FindsSections disk s0 conf.filter (length conf.arenas.items + length os + 1) k rest found)
                (buckets ∙ ap (λ (k : ℕ). total_buckets os + k) opened.buckets)
                (subst (λ (k : ℕ). FindsSections disk s0 conf.filter k (total_buckets (os ++ o ∷ [])) rest found) many
                (finds_sections disk s1 s0 (was_there known) conf.filter (length conf.arenas.items + length (os ++ o ∷ [])) (total_buckets (os ++ o ∷ [])) rest found behind)),
          ),
        )

        none : (r : Result Index IndexError) → OnOk r (f2 ≡ f1) → OnOk r (f3 ≡ f0)
        none (Ok index) same = last ∙ same ∙ first
        none (Err bad) same = tt

        cause : (r : Result Index IndexError)
            → IfErr r (λ bad. ((f2 ≡ f1) × IsStoppedAmong (length conf.arenas.items) (length (os ++ o ∷ [])) bad)
            ⊎ IndexFails disk told (length conf.arenas.items + length (os ++ o ∷ [])) (rest ++ listed conf.filter) s1 s2 f1 f2 bad)
            → LeavesOne disk (length conf.arenas.items) inner.total r (length os) (total_buckets os) o n
            → IfErr r (λ bad. ((f3 ≡ f0) × IsStoppedAmong (length conf.arenas.items) (length os) bad)
            ⊎ IndexFails disk told (length conf.arenas.items + length os) ((file ∷ rest) ++ listed conf.filter) s0 s3 f0 f3 bad)
        cause (Ok index) why one = tt
        cause (Err bad) why one = ⊎_elim
            (λ here. ⊎_elim
            (λ before. inl (last ∙ here.0 ∙ first, before))
            (λ this. inr (subst (λ (b : IndexError). IndexFails disk told (length conf.arenas.items + length os) ((file ∷ rest) ++ listed conf.filter) s0 s3 f0 f3 b)
            (sym this.1) (
              last ∙ here.0 ∙ first,
              stopped_here disk (length conf.arenas.items) inner.total os d o n opened this.0 told file (rest ++ listed conf.filter) s0 s3
                  (subst (λ (b : IndexError). LeavesOne disk (length conf.arenas.items) inner.total (Err b) (length os) (total_buckets os) o n) this.1 one) this.2
                  (λ yes. (it yes).was) (λ yes. is_there yes ∙ ap there e_is),
            )))
            (stopped_among (length conf.arenas.items) (length os) bad
            (subst (λ (k : ℕ). IsStoppedAmong (length conf.arenas.items) k bad) (length-append os (o ∷ [])) here.1)))
            (λ behind. inr (later disk told (length conf.arenas.items + length os) file (rest ++ listed conf.filter) s0 s1 s2 s3
            d e it bad f0 f1 f2 f3 first last
            (subst (λ (k : ℕ). IndexFails disk told k (rest ++ listed conf.filter) s1 s2 f1 f2 bad) many behind)))
            why
