-- What is done of the filter of a configuration, and of the sections that are open.
use Rattle.std.proofs.Common.{◌≡◌, ◌≢◌, ◌⊎◌, inl, inr, ⊎_elim, ℕ, ◌+◌, List, [], ◌∷◌, Option, Some, None, Ok, Err, Result, length, refl, sym, ◌∙◌, ap, subst, arith}
use Rattle.std.specs.Prelude.{IfErr, IfOk, IsTrue, OnOk}
use Rattle.vt_base.specs.Faults.{HasRisen}
use Rattle.vt_base.specs.declared.mount.MountBad.{MountBad}
use Rattle.vt_bloom.specs.Frame.{Saved, HasSaved}
use Rattle.vt_conf.specs.declared.conf.Conf.{Conf}
use Rattle.vt_conf.specs.declared.conf.PartFile.{PartFile}
use Rattle.vt_disk.specs.Calls.{OnlyReads}
use Rattle.vt_disk.specs.Members.{DiskOf}
use Rattle.vt_isect.specs.Section.{SectionState}
use Rattle.vt_partitions.specs.Parts.{Standing, StaysThere}
use Rattle.vt_format.specs.declared.index.Index.{Index}
use Rattle.vt_format.specs.declared.index.IndexError.{IndexError}
use Rattle.vt_format.specs.declared.index.IndexError.TheVariants.{Fault, Refused, Stopped}
use Rattle.vt_format.specs.Index.{AnswersFor, IndexFails, IndexesSections, IsStoppedAmong, LeavesOpened, StopsIndex, listed}
use Rattle.vt_format.specs.Opening.{FindsFilter, NamesCause, RefusesDisk, RefusesFilter}
use Rattle.vt_format.specs.Usage.{total_buckets}
use Rattle.vt_format.proofs.Failing.{failed_here, missing_here}
use Rattle.vt_format.proofs.Levels.{stays_read}
use Rattle.vt_format.proofs.Rounds.{Round}
use Rattle.vt_format.proofs.SectionLevel.{all_stay, leaves_failed, leaves_same, read_leaves, read_stays, stays_same}

-- what is found is answered, where nothing is refused
none_found : (P : Option MountBad → Type 0) → P None → (behind count : ℕ) → (r : Result Index IndexError)
    → IfErr r (IsStoppedAmong behind count) → AnswersFor P r
none_found P none behind count (Ok it) stopped = none
none_found P none behind count (Err (Fault part)) stopped = absurd stopped
none_found P none behind count (Err (Refused bad)) stopped = absurd stopped
none_found P none behind count (Err (Stopped part)) stopped = none

differs_none : (behind count : ℕ) → (r : Result Index IndexError) → IfErr r (IsStoppedAmong behind count) → IfErr r NamesCause
differs_none behind count (Ok it) stopped = tt
differs_none behind count (Err (Fault part)) stopped = absurd stopped
differs_none behind count (Err (Refused bad)) stopped = absurd stopped
differs_none behind count (Err (Stopped part)) stopped = tt

module _ {D : Type 0} (disk : DiskOf D) (told : Type 0) (conf : Conf) (number : ℕ) (s0 : List ℕ → Standing D) (f0 : ℕ)
    (os : List (SectionState D)) (number_is : number ≡ length conf.arenas.items + length os) where
  -- the open sections are put to use
  module _ (ns : List (SectionState D)) (r : Result Index IndexError) (all : length os ≡ length conf.sections.items)
      (total : IfOk r (λ it. it.buckets ≡ total_buckets os)) (count : IfOk r (λ it. it.sections ≡ length os))
      (stopped : IfErr r (IsStoppedAmong (length conf.arenas.items) (length os)))
      (left : LeavesOpened disk (length conf.arenas.items) (total_buckets os) r os ns) where
    sections : (x : Result Index IndexError) → IfOk x (λ it. it.sections ≡ length os) → IfOk x (λ it. it.sections ≡ length conf.sections.items)
    sections (Ok it) same = same ∙ all
    sections (Err bad) same = tt

    totals : (x : Result Index IndexError) → IfOk x (λ it. it.buckets ≡ total_buckets os)
        → IfOk x (λ it. told → IsTrue disk.tells → it.buckets ≡ total_buckets os)
    totals (Ok it) same = λ yes tells. same
    totals (Err bad) same = tt

    causes : (x : Result Index IndexError) (f3 : ℕ) (s3 : List ℕ → Standing D) → f3 ≡ f0 → IfErr x (IsStoppedAmong (length conf.arenas.items) (length os))
        → IfErr x (λ bad. ((f3 ≡ f0) × IsStoppedAmong (length conf.arenas.items) (length os) bad)
        ⊎ IndexFails disk told (length conf.arenas.items + length os) (listed conf.filter) s0 s3 f0 f3 bad)
    causes (Ok it) f3 s3 same why = tt
    causes (Err bad) f3 s3 same why = inl (same, why)

    stops : (x : Result Index IndexError) (old new : List ℕ → Standing D) → IfErr x (λ bad. told → IsTrue disk.tells
        → StopsIndex disk old new (total_buckets os) (total_buckets os) (length conf.arenas.items + length os) [] bad)
    stops (Ok it) old new = tt
    stops (Err (Fault part)) old new = λ yes tells. tt
    stops (Err (Refused bad)) old new = λ yes tells. tt
    stops (Err (Stopped part)) old new = λ yes tells. refl

    nones : (x : Result Index IndexError) (f3 : ℕ) → f3 ≡ f0 → OnOk x (f3 ≡ f0)
    nones (Ok it) f3 same = same
    nones (Err bad) f3 same = tt

    pub filter_none : conf.filter ≡ None → IndexesSections disk told conf [] s0 s0 f0 f0 os ns r
    filter_none none_is = record {
      used = totals r total;
      total = total_buckets os;
      stopped = stops r s0 s0;
      sections = sections r count;
      found = λ yes tells. none_found (λ found. FindsFilter disk s0 conf.filter (length conf.arenas.items + length os) found)
          (subst (λ (o : Option PartFile). FindsFilter disk s0 o (length conf.arenas.items + length os) None) (sym none_is) refl)
          (length conf.arenas.items) (length os) r stopped;
      differs = differs_none (length conf.arenas.items) (length os) r stopped;
      cause = causes r f0 s0 refl stopped;
      none = nones r f0 refl;
      back = λ yes n. leaves_same disk r (s0 n);
      stays = λ yes n no. stays_same disk (s0 n);
      left = left;
    }

    -- behind the filter, which is handed back
    pub filter_behind : (file : PartFile) (s1 s3 : List ℕ → Standing D) (f1 f3 : ℕ) (d e : D) → conf.filter ≡ Some file → f1 ≡ f0 → f3 ≡ f1
        → (told → Round file.name s0 s1 s1 s3 d e) → OnlyReads disk 3 d e → disk.faults e ≡ disk.faults d
        → (IsTrue disk.tells → (saved : Saved) × HasSaved saved (disk.bytes d))
        → IndexesSections disk told conf [] s0 s3 f0 f3 os ns r
    filter_behind file s1 s3 f1 f3 d e is first last it reads faults saved = record {
      used = totals r total;
      total = total_buckets os;
      stopped = stops r s0 s3;
      sections = sections r count;
      found = λ yes tells. none_found (λ found. FindsFilter disk s0 conf.filter (length conf.arenas.items + length os) found)
          (subst (λ (o : Option PartFile). FindsFilter disk s0 o (length conf.arenas.items + length os) None) (sym is)
          (d, (it yes).was, inr ((saved tells).0, (saved tells).1, refl)))
          (length conf.arenas.items) (length os) r stopped;
      differs = differs_none (length conf.arenas.items) (length os) r stopped;
      cause = causes r f3 s3 (last ∙ first) stopped;
      none = nones r f3 (last ∙ first);
      back = λ yes n. read_leaves disk file.name s0 s1 s3 d e (it yes) (stays_read disk 3 d e reads) r (λ quiet. faults) n;
      stays = λ yes n no. read_stays disk file.name s0 s1 s3 d e (it yes) (stays_read disk 3 d e reads) n;
      left = left;
    }

  -- the filter isn't handed out
  pub filter_missing : (file : PartFile) (s1 : List ℕ → Standing D) (f1 : ℕ) → conf.filter ≡ Some file
      → (told → StaysThere disk (s0 file.name) (s1 file.name)) → (told → (n : List ℕ) → n ≢ file.name → s1 n ≡ s0 n) → HasRisen f0 f1
      → IndexesSections disk told conf [] s0 s1 f0 f1 os os (Err (Fault (Some number)))
  filter_missing file s1 f1 is here others rose = record {
    used = tt;
    total = 0;
    stopped = λ yes tells. tt;
    sections = tt;
    found = λ yes tells. tt;
    differs = tt;
    cause = inr (subst (λ (o : Option PartFile). IndexFails disk told (length conf.arenas.items + length os) (listed o) s0 s1 f0 f1 (Fault (Some number)))
        (sym is)
        (inl (rose, missing_here told (length conf.arenas.items + length os) file [] s0 s1 others number number_is)));
    none = tt;
    back = λ yes n. leaves_failed disk (Some number) (s0 n) (s1 n) (all_stay disk file.name s0 s1 (here yes) (others yes) n);
    stays = λ yes n no. all_stay disk file.name s0 s1 (here yes) (others yes) n;
    left = refl;
  }

  -- it is refused
  module _ (file : PartFile) (s1 s3 : List ℕ → Standing D) (f1 f3 : ℕ) (first : f1 ≡ f0) (last : f3 ≡ f1) (d e : D) (is : conf.filter ≡ Some file)
      (it : told → Round file.name s0 s1 s1 s3 d e) where
    pub filter_refused_here : (bad : IndexError) → OnlyReads disk 3 d e → RefusesDisk disk number (RefusesFilter disk number d) bad d e
        → IndexesSections disk told conf [] s0 s3 f0 f3 os os (Err bad)
    filter_refused_here (Fault part) reads refused = record {
      used = tt;
      total = 0;
      stopped = λ yes tells. tt;
      sections = tt;
      found = λ yes tells. tt;
      differs = tt;
      cause = inr (subst (λ (o : Option PartFile). IndexFails disk told (length conf.arenas.items + length os) (listed o) s0 s3 f0 f3 (Fault part)) (sym is)
          (subst (λ (p : Option ℕ). IndexFails disk told (length conf.arenas.items + length os) (file ∷ []) s0 s3 f0 f3 (Fault p)) (sym refused.0)
          (inr (
            last ∙ first,
            failed_here disk told (length conf.arenas.items + length os) file [] s0 s3 d e refused.1 (λ yes. (it yes).was)
                (λ yes. (it yes).back (it yes).now) number number_is,
          ))));
      none = tt;
      back = λ yes n. read_leaves disk file.name s0 s1 s3 d e (it yes) (stays_read disk 3 d e reads) (Err (Fault part)) (λ no. absurd no) n;
      stays = λ yes n no. read_stays disk file.name s0 s1 s3 d e (it yes) (stays_read disk 3 d e reads) n;
      left = refl;
    }
    filter_refused_here (Refused bad) reads refused = record {
      used = tt;
      total = 0;
      stopped = λ yes tells. tt;
      sections = tt;
      found = λ yes tells. ⊎_elim (λ memory. inl memory) (λ why. inr
          (subst (λ (o : Option PartFile). FindsFilter disk s0 o (length conf.arenas.items + length os) (Some bad)) (sym is)
          (d, (it yes).was, inl (bad, subst (λ (k : ℕ). RefusesFilter disk k d bad) number_is why, refl)))) (refused.2 tells);
      differs = refused.0;
      cause = inr (last ∙ first);
      none = tt;
      back = λ yes n. read_leaves disk file.name s0 s1 s3 d e (it yes) (stays_read disk 3 d e reads) (Err (Refused bad)) (λ quiet. refused.1) n;
      stays = λ yes n no. read_stays disk file.name s0 s1 s3 d e (it yes) (stays_read disk 3 d e reads) n;
      left = refl;
    }
    filter_refused_here (Stopped part) reads refused = absurd refused
