-- What becomes of the devices on which an index was rebuilt, or arenas were checked.
use Rattle.std.proofs.Common.{◌≡◌, ◌⊎◌, ⊎_elim, inl, ℕ, ◌+◌, ◌*◌, ◌≤◌, Bool, true, false, List, ◌++◌, length, map, Option, Ok, Err, refl, sym, ◌∙◌, ap, subst, arith}
use Rattle.std.specs.Prelude.{IsTrue, MatchBool, sum, sum_by}
use Rattle.std.specs.List.{All}
use Rattle.std.specs.Option.{option_to_list}
use Rattle.std.proofs.lemmas.List.{length-map}
use Rattle.vt_arena.specs.declared.head.Found.{Found}
use Rattle.vt_check.specs.declared.checking.CheckErr.{CheckErr}
use Rattle.vt_check.specs.declared.checking.Report.{Report}
use Rattle.vt_check.specs.Checking.{AreReports, AreTold, HasItsHeads, is_check_fault}
use Rattle.vt_recover.specs.declared.devices.Devices.{Devices}
use Rattle.vt_core.specs.Files.{PerDevice, all_of}
use Rattle.vt_core.specs.Mounting.{devices_in, tables_in}
use Rattle.vt_core.specs.Opening.{AreHeld, IsLogFound, with_log}
use Rattle.vt_recover.specs.Opening.{IsFoundSection}
use Rattle.vt_core.proofs.Calls.{map_all}
use Rattle.vt_recover.proofs.Counts.{risen_behind, risen_front}
use Rattle.vt_recover.proofs.Held.{hold_still}
use Rattle.vt_core.proofs.Beside.{all_from}
use Rattle.vt_recover.proofs.Zips.{zip_beside, zip_length}
use Rattle.vt_disk.specs.Calls.{IsSynced}
use Rattle.vt_disk.specs.Members.{DiskOf}
use Rattle.vt_isect.specs.Section.{SectionState}
use Rattle.vt_log.specs.Answers.{HoldTheSame, OnlyReadsLog}
use Rattle.vt_log.specs.Faults.{AreReadAt, CountsFaults, IsMountedBy, OneHasRisen}
use Rattle.vt_log.specs.Log.{LogState, disks_of, front, queued}
use Rattle.vt_log.specs.Mounting.{reads_to_find_all}
use Rattle.vt_log.specs.Queue.{QueueState}
use Rattle.vt_log.proofs.AreFound.{hold_then, settled_held}
use Rattle.vt_model.specs.History.{History}
use Rattle.vt_part.specs.Layout.{layout_of}
use Rattle.vt_part.specs.Parts.{disk_of}
use Rattle.vt_part.specs.declared.layout.ArenaRegion.{ArenaRegion}
use Rattle.vt_rebuild.specs.declared.error.RebuildBad.{RebuildBad}
use Rattle.vt_rebuild.specs.declared.error.RebuildBad.TheVariants.{IndexFull}
use Rattle.vt_rebuild.specs.Building.{CountsAll, IsRefusedFor, NamesDamage, disks_under}
use Rattle.vt_rebuild.specs.Filling.{FitsBuckets}
use Rattle.vt_rebuild.specs.Rebuilt.{AreHalfRebuilt, AreRebuilt, HasHistory, IsOpened as IsOpenedSection, counts_of, setup_with}
use Rattle.vt_rebuild.specs.Walking.{KeepsLog, is_rebuild_fault}
use Rattle.vt_maintain.specs.Checking.{ChecksOn}
use Rattle.vt_maintain.specs.Devices.{CountsOneFault, KeepsBlocks, device_faults}
use Rattle.vt_maintain.specs.Opened.{AreInUse, AreOpened}
use Rattle.vt_maintain.specs.Rebuilding.{RebuildsOn, StopsOn}
use Rattle.vt_maintain.proofs.Backs.{sections_held, sections_quiet}

-- ---- counts of failed calls

-- of the log's disks or of the sections one failed, and no other device did
rises : (b : Bool) (p p' s s' f : List ℕ)
    → MatchBool b ((OneHasRisen p p' × (s' ≡ s)) ⊎ ((p' ≡ p) × OneHasRisen s s'))
    ((p' ≡ p) × (s' ≡ s)) → CountsOneFault b ((p ++ s) ++ f) ((p' ++ s') ++ f)
rises true p p' s s' f it = risen_front (p ++ s) (p' ++ s') f (⊎_elim
    (λ log. subst (λ (z : List ℕ). OneHasRisen (p ++ s) (p' ++ z)) (sym log.1)
    (risen_front p p' s log.0))
    (λ section. subst (λ (z : List ℕ). OneHasRisen (p ++ s) (z ++ s')) (sym section.0)
    (risen_behind p s s' section.1))
    it)
rises false p p' s s' f it =
    let parts = it.0 in
    let sections = it.1 in
    cc

module _ {D : Type 0} (score : List ℕ → List ℕ) (disk : DiskOf D) (devices : Devices D)
    (log : LogState D) (olds : List (SectionState D))
    (opened : AreOpened score disk devices log olds) where
  abbrev f : D → ℕ
  f = disk.faults

  abbrev before : List D
  before = disks_of devices.parts.items

  found : IsLogFound score disk before devices.sections.items devices.filter log
  found = opened.log_is.found

  -- the counts, where those of the log and of the sections are known
  counts : (b : Bool) (log' : List D) (news : List D) (back : Devices D)
      → devices_in back ≡ with_log log' news devices.filter
      → MatchBool b ((OneHasRisen (map f log.disks) (map f log')
      × (map f news ≡ map f (disks_under olds)))
      ⊎ ((map f log' ≡ map f log.disks) × OneHasRisen (map f (disks_under olds)) (map f news)))
      ((map f log' ≡ map f log.disks) × (map f news ≡ map f (disks_under olds)))
      → CountsOneFault b (device_faults disk devices) (device_faults disk back)
  counts b log' news back is it =
      let rest = map f (option_to_list devices.filter) in
      let told : CountsOneFault b ((map f log.disks ++ map f (disks_under olds)) ++ rest)
      ((map f log' ++ map f news) ++ rest) =
      rises b (map f log.disks) (map f log') (map f (disks_under olds)) (map f news) rest it in
      let parts : map f log.disks ≡ map f before = found.faults in
      let sections : map f (disks_under olds) ≡ map f devices.sections.items =
      sections_quiet disk devices.sections.items olds opened.sections_are in
      let old : (map f log.disks ++ map f (disks_under olds)) ++ rest ≡ device_faults disk devices =
      ap (λ (l : List ℕ). (l ++ map f (disks_under olds)) ++ rest) parts
      ∙ ap (λ (l : List ℕ). (map f before ++ l) ++ rest) sections
      ∙ sym (map_all f (devices_in devices)) in
      let new : (map f log' ++ map f news) ++ rest ≡ device_faults disk back =
      sym (map_all f (with_log log' news devices.filter))
      ∙ ap (λ (p : PerDevice D). map f (all_of p)) (sym is) in
      subst (λ (l : List ℕ). CountsOneFault b l (device_faults disk back)) old
      (subst (λ (l : List ℕ). CountsOneFault b ((map f log.disks ++ map f (disks_under olds)) ++ rest)
      l) new told)

  -- the log's partitions are back
  held_parts : (log' : List D) (back : Devices D) → HoldTheSame disk log.disks log'
      → disks_of back.parts.items ≡ log' → HoldTheSame disk before (disks_of back.parts.items)
  held_parts log' back held is = subst (λ (l : List D). HoldTheSame disk before l) (sym is)
      (hold_then disk before log.disks log' found.held held)

  same_tables : (log' : LogState D) (back : Devices D) → log' ≡ record log { disks = log'.disks }
      → tables_in back ≡ log'.tables → tables_in back ≡ tables_in devices
  same_tables log' back same are =
      are ∙ ap (λ (l : LogState D). l.tables) same ∙ opened.log_is.tables

  -- nothing is queued yet, and each section is at rest
  pub none_queued : queued log ≡ 0
  none_queued = ap (λ (q : QueueState). length q.places) found.mounted.queue

  front_is : front log ≡ log.durable
  front_is = omega (arith, none_queued)

  pub at_rest : All (IsOpenedSection disk) olds
  at_rest = all_from (IsOpenedSection disk) olds (λ i s at.
      let d = zip_beside (IsFoundSection disk) devices.sections.items olds i s opened.sections_are at in
      record { rest = ap (λ (t : SectionState D). t.phase) d.2.fresh; sound = d.2.holds })

  -- ---- an index that was rebuilt

  module _ (log' : LogState D) (news : List (SectionState D)) (back : Devices D)
      (keeps : KeepsLog score disk log log') (many : length news ≡ length olds)
      (is : devices_in back ≡ with_log log'.disks (disks_under news) devices.filter)
      (are : tables_in back ≡ log'.tables) (filter : back.filter ≡ devices.filter) where
    parts_are : disks_of back.parts.items ≡ log'.disks
    parts_are = ap (λ (p : PerDevice D). p.partitions) is

    sections_are : back.sections.items ≡ disks_under news
    sections_are = ap (λ (p : PerDevice D). p.sections) is

    keeps_blocks : KeepsBlocks disk devices back
    keeps_blocks = record {
      tables = same_tables log' back keeps.same are;
      partitions = held_parts log'.disks back keeps.disks parts_are;
      settled = subst (All (IsSynced disk)) (sym parts_are)
          (settled_held disk log.disks log'.disks keeps.disks found.settled);
      sections = ap length sections_are ∙ length-map news (λ s. s.disk) ∙ many
          ∙ zip_length (IsFoundSection disk) devices.sections.items olds opened.sections_are;
      filter = filter;
    }

    pub rebuilds : (blocks : ℕ) → ((h : History) → HasHistory score disk log h
        → AreRebuilt score disk (setup_with log olds) h olds news)
        → ((h : History) → HasHistory score disk log h
        → FitsBuckets score (sum (counts_of olds)) h)
        → blocks ≡ front log → CountsAll {T = ℕ} disk (Ok blocks) log log' olds news
        → RebuildsOn score disk blocks devices back
    rebuilds blocks rebuilt room blocks_are quiet = record {
      log = log;
      olds = olds;
      opened = opened;
      news = news;
      rebuilt = rebuilt;
      room = room;
      blocks_are = blocks_are ∙ front_is;
      sections = sections_are;
      keeps = keeps_blocks;
      quiet = counts false log'.disks (disks_under news) back is quiet;
    }

    pub stops : (bad : RebuildBad) → ((h : History) → HasHistory score disk log h
        → AreHalfRebuilt score disk (setup_with log olds) h olds news)
        → ((h : History) (n : ℕ) → HasHistory score disk log h → bad ≡ IndexFull n → news ≡ olds)
        → ((h : History) → HasHistory score disk log h
        → IsRefusedFor score (sum (counts_of olds)) h bad)
        → NamesDamage bad → CountsAll {T = ℕ} disk (Err bad) log log' olds news
        → StopsOn score disk bad devices back
    stops bad left unwritten why damage told = record {
      log = log;
      olds = olds;
      opened = opened;
      news = news;
      left = left;
      unwritten = unwritten;
      why = why;
      damage = damage;
      sections = sections_are;
      keeps = keeps_blocks;
      counts = counts (is_rebuild_fault bad) log'.disks (disks_under news) back is told;
    }

  -- ---- arenas that were checked

  heads_are : IsTrue disk.tells → HasItsHeads disk log
  heads_are tells =
      let layout : layout_of log.tables ≡ log.layout = sym found.layout in
      record {
        names = map (λ t. t.name) log.tables;
        fields = found.read.fields;
        mounted = subst (λ (l : List ArenaRegion). IsMountedBy (map (λ t. t.name) log.tables) l
            found.read.fields log) layout found.read.mounted;
        fields_are = subst (λ (l : List ArenaRegion). AreReadAt l (map disk.bytes log.disks)
            found.read.fields) layout
            (subst (λ (files : List (List ℕ)). AreReadAt (layout_of log.tables) files
            found.read.fields) (sym found.held.bytes_are) (found.read.read tells));
      }

  module _ (in_use : AreInUse devices olds) (log' : LogState D) (back : Devices D)
      (reads : OnlyReadsLog score disk (2 * sum_by (λ (found : Found). found.head.clumps) log.heads)
      log log')
      (is : devices_in back ≡ with_log log'.disks (disks_under olds) devices.filter)
      (are : tables_in back ≡ log'.tables) (filter : back.filter ≡ devices.filter) where
    checked_parts : disks_of back.parts.items ≡ log'.disks
    checked_parts = ap (λ (p : PerDevice D). p.partitions) is

    all_held : AreHeld disk (devices_in devices) (devices_in back)
    all_held = record {
      partitions = held_parts log'.disks back reads.disks checked_parts;
      sections = subst (λ (p : PerDevice D). HoldTheSame disk devices.sections.items p.sections)
          (sym is) (sections_held disk devices.sections.items olds opened.sections_are);
      filter = subst (λ (o : Option D). HoldTheSame disk (option_to_list devices.filter)
          (option_to_list o)) (sym filter) (hold_still disk (option_to_list devices.filter));
    }

    few_calls : IsTrue disk.tells → sum_by disk.calls (disks_of back.parts.items)
        ≤ sum_by disk.calls before + length devices.parts.items
        + reads_to_find_all (layout_of log.tables) opened.log_is.found.read.fields
        + 2 * log.durable
    few_calls tells =
        let back_are : sum_by disk.calls (disks_of back.parts.items) ≡ sum_by disk.calls log'.disks =
        ap (sum_by disk.calls) checked_parts in
        let many : length before ≡ length devices.parts.items =
        length-map devices.parts.items (λ part. disk_of part) in
        omega (
          arith,
          back_are,
          reads.calls tells,
          opened.log_is.found.calls tells,
          many,
          found.mounted.durable,
        )

    log_counts : (b : Bool) → MatchBool b (OneHasRisen (map f log.disks) (map f log'.disks))
        (map f log'.disks ≡ map f log.disks)
        → CountsOneFault b (device_faults disk devices) (device_faults disk back)
    log_counts true it = counts true log'.disks (disks_under olds) back is (inl (it, refl))
    log_counts false it = counts false log'.disks (disks_under olds) back is (it, refl)

    pub checks : (report : Report) → AreReports log report.arenas.items
        → (IsTrue disk.tells → HasItsHeads disk log
        → AreTold score disk log report.arenas.items)
        → CountsFaults {T = Report} disk is_check_fault (Ok report) log.disks log'.disks
        → ChecksOn score disk (Ok report) devices back
    checks report reports told quiet = record {
      log = log;
      sections = olds;
      opened = opened;
      in_use = in_use;
      reports = reports;
      told = λ tells. told tells (heads_are tells);
      tables = same_tables log' back reads.same are;
      held = all_held;
      filter = filter;
      calls = few_calls;
      counts = log_counts false quiet;
    }

    pub ends : (bad : CheckErr)
        → CountsFaults {T = Report} disk is_check_fault (Err bad) log.disks log'.disks
        → ChecksOn score disk (Err bad) devices back
    ends bad told = record {
      log = log;
      sections = olds;
      opened = opened;
      in_use = in_use;
      reports = tt;
      told = tt;
      tables = same_tables log' back reads.same are;
      held = all_held;
      filter = filter;
      calls = few_calls;
      counts = log_counts (is_check_fault bad) told;
    }
