-- One disk of a log is lent to a call that reads an arena.
use Rattle.std.proofs.Common.{◌≡◌, ℕ, ◌+◌, ◌<◌, ◌≤◌, List, length, get_or, map, set, refl, sym, ◌∙◌, ap, subst, arith, Some, Ok, Err, Result, IfOk}
use Rattle.std.specs.Prelude.{slice_get, sum_by}
use Rattle.std.proofs.lemmas.Bool.Decides.{nat_tests}
use Rattle.std.proofs.lemmas.List.{get_or_default, set-get_or}
use Rattle.std.proofs.lemmas.Option.{slice_get_read, get_or_from_slice_get, same_Some}
use Rattle.vt_disk.specs.Members.{DiskOf}
use Rattle.vt_disk.specs.Calls.{MadeCalls, OnlyReads as OnlyReadsDisk}
use Rattle.vt_arena.specs.declared.error.ReadBad.{ReadBad}
use Rattle.vt_clump.specs.declared.reading.Clump.{Clump}
use Rattle.vt_clump.specs.Clumps.{IsClumpRead}
use Rattle.vt_clump.specs.Spelling.{Stored, IsStoredBlock}
use Rattle.vt_arena.specs.Reading.{reads_for}
use Rattle.vt_arena.specs.Sound.{IsRegion}
use Rattle.vt_part.specs.declared.layout.ArenaRegion.{ArenaRegion}
use Rattle.vt_part.specs.declared.part.Part.{Part}
use Rattle.vt_part.specs.Parts.{disk_of, tables_of}
use Rattle.vt_log.specs.Answers.{OnlyReadsLog, Spares}
use Rattle.vt_log.specs.Log.{LogState}
use Rattle.vt_log.specs.Sound.{IsArenaAt}
use Rattle.vt_log.specs.Whole.{IsOnDisk, IsWholeLog}
use Rattle.vt_log.proofs.Disks.{spares_set, calls_set}
use Rattle.vt_log.proofs.HoldTheSame.{IsReadOnly, read_only, with_disk, part_there}
use Rattle.vt_log.proofs.Lists.{at_slice}

-- a disk of which no call was made
pub none_read : {D : Type 0} (disk : DiskOf D) (d : D) → OnlyReadsDisk disk 0 d d
none_read disk d = record { bytes = refl; images = λ c left. left; size = refl; calls = λ told. omega arith }

-- an arena stands on this disk, and another disk is there after so many reads
pub record IsLent {D : Type 0} (score_of : List ℕ → List ℕ) (disk : DiskOf D) (most arena : ℕ) (r : ArenaRegion) (d e : D) (m k : LogState D) : Type 0 where
  pub only : IsReadOnly score_of disk r.part d e m k
  pub layout : slice_get m.layout arena ≡ Some r
  pub r_one : (q : ArenaRegion) → slice_get m.layout arena ≡ Some q → r ≡ q
  pub region : IsRegion r.region (disk.size d)
  pub disk_one : (q : ArenaRegion) (device : D) → IsArenaAt m arena q device → d ≡ device
  pub spares : (q : ArenaRegion) → slice_get m.layout arena ≡ Some q → Spares q.part m.disks k.disks
  pub reads : OnlyReadsLog score_of disk most m k

pub lent : {D : Type 0} (score_of : List ℕ → List ℕ) (disk : DiskOf D) (most : ℕ) (ps : List (Part D)) (arena : ℕ) (r dr : ArenaRegion) (p : Part D) (e : D)
    (l m : LogState D) → IsWholeLog disk l → l ≡ m → l.disks ≡ map (λ part. disk_of part) ps → l.tables ≡ tables_of ps → arena < length m.layout → r ≡ get_or l.layout arena dr → p ≡ get_or ps r.part p
    → OnlyReadsDisk disk most (disk_of p) e → IsLent score_of disk most arena r (disk_of p) e m (with_disk ps r.part p e l)
lent {D = D} score_of disk most ps arena r dr p e l m whole view disks tables within r_is p_is reads = record {
  only = only;
  layout = slice_get_read m.layout (length m.layout) arena r refl within (r_is ∙ get_or_default l.layout arena dr r inside ∙ ap (λ (x : LogState D). get_or x.layout arena r) view);
  r_one = same;
  region = subst (λ (d : D). IsRegion r.region (disk.size d))
      (same_Some on.device (disk_of p) (sym on.has ∙ ap (λ (x : LogState D). slice_get x.disks r.part) view ∙ only.was)) on.region;
  disk_one = λ q device at. same_Some (disk_of p) device (sym only.was ∙ ap (λ (x : ArenaRegion). slice_get m.disks x.part) (same q at.arena) ∙ at.disk_is);
  spares = λ q at. subst (λ (x : ArenaRegion). Spares x.part m.disks (with_disk ps r.part p e l).disks) (same q at)
      (subst (λ (ds : List D). Spares r.part m.disks ds) (sym only.disks_are) (spares_set m.disks r.part e));
  reads = record {
    same = only.same;
    sound = only.sound;
    disks = only.hold;
    calls = λ told. subst (λ (ds : List D). sum_by disk.calls ds ≤ sum_by disk.calls m.disks + most) (sym only.disks_are)
        (calls_set disk.calls m.disks r.part (disk_of p) e most only.was (reads.calls told));
  };
}
  where
    inside : arena < length l.layout
    inside = subst (λ (x : LogState D). arena < length x.layout) (sym view) within

    below : r.part < length ps
    below = part_there disk ps l arena r dr whole disks inside r_is

    on : IsOnDisk disk l.disks r
    on = at_slice (IsOnDisk disk l.disks) l.layout arena r whole.regions (slice_get_read l.layout (length l.layout) arena r refl inside (r_is ∙ get_or_default l.layout arena dr r inside))

    only : IsReadOnly score_of disk r.part (disk_of p) e m (with_disk ps r.part p e l)
    only = read_only score_of disk most ps r.part p e l m view disks tables (slice_get_read ps (length ps) r.part p refl below p_is) reads

    same : (q : ArenaRegion) → slice_get m.layout arena ≡ Some q → r ≡ q
    same q at = r_is ∙ ap (λ (x : LogState D). get_or x.layout arena dr) view ∙ get_or_from_slice_get m.layout arena q dr at

-- a clump that is read has a block of 57,344 bytes at most
pub read_whole : (score_of : List ℕ → List ℕ) (result : Result Clump ReadBad)
    → IfOk result (λ clump. (s : Stored) × IsStoredBlock score_of s × IsClumpRead s clump)
    → IfOk result (λ clump. length clump.bytes ≤ 57344)
read_whole score_of (Ok clump) whole =
    omega (arith, ap (λ (b : List ℕ). length b) whole.2.bytes, whole.1)
read_whole score_of (Err bad) whole = tt

-- and it is read by one call where its block has at most as many bytes as was thought
reads_one : (size n : ℕ) → n ≤ size → reads_for size n ≡ 1
reads_one size n few = grind (arith, nat_tests)

pub read_once : {D : Type 0} (score_of : List ℕ → List ℕ) (disk : DiskOf D) (size : ℕ) (d e : D) (m k : LogState D) (result : Result Clump ReadBad)
    → OnlyReadsDisk disk 2 d e → IfOk result (λ clump. MadeCalls disk (reads_for size (length clump.bytes)) d e)
    → (OnlyReadsDisk disk 1 d e → OnlyReadsLog score_of disk 1 m k)
    → IfOk result (λ clump. length clump.bytes ≤ size → OnlyReadsLog score_of disk 1 m k)
read_once score_of disk size d e m k (Ok clump) reads made once = λ few.
    let one : MadeCalls disk 1 d e = subst (λ (n : ℕ). MadeCalls disk n d e) (reads_one size (length clump.bytes) few) made in
    once (record { bytes = reads.bytes; images = reads.images; size = reads.size; calls = λ told. omega (arith, one told) })
read_once score_of disk size d e m k (Err bad) reads made once = tt

-- a disk that is the same leaves the log the same
pub unchanged : {D : Type 0} (score_of : List ℕ → List ℕ) (disk : DiskOf D) (i : ℕ) (d e : D) (m k : LogState D)
    → IsReadOnly score_of disk i d e m k → e ≡ d → k ≡ m
unchanged {D = D} score_of disk i d e m k only same =
    let disks : k.disks ≡ m.disks = only.disks_are ∙ ap (λ (x : D). set m.disks i x) (same ∙ sym (get_or_from_slice_get m.disks i d d only.was)) ∙ set-get_or m.disks i d in
    only.same ∙ ap (λ (ds : List D). record m { disks = ds }) disks
