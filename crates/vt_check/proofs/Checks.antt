-- An arena that is checked, some clumps at a time.
use Rattle.std.proofs.Common.{◌≡◌, ◌∙◌, ℕ, ◌+◌, ◌-◌, ◌*◌, ◌<◌, ◌≤◌, Bool, true, false, cond, Option, None, Some, List, [], ◌∷◌, ◌++◌, length, drop, map, get_or, refl, sym, ap, subst, arith, append-nil, append_assoc, length-append}
use Rattle.std.specs.Prelude.{All, IsTrue, slice_get, sum_by}
use Rattle.std.specs.Option.{option_or}
use Rattle.std.proofs.lemmas.List.{length-map, map-append}
use Rattle.std.proofs.lemmas.Option.{slice_get-get_or, slice_get_within}
use Rattle.vt_arena.specs.declared.head.ArenaHead.{ArenaHead}
use Rattle.vt_arena.specs.Directory.{entry_in_header, walks_headers}
use Rattle.vt_arena.proofs.Layouts.{all_head, all_tail}
use Rattle.vt_disk.specs.Members.{DiskOf}
use Rattle.vt_log.proofs.Lists.{map_there}
use Rattle.vt_log.specs.Answers.{OnlyReadsLog}
use Rattle.vt_log.specs.Log.{LogState}
use Rattle.vt_log.specs.Sound.{IsArenaAt}
use Rattle.vt_part.specs.declared.layout.ArenaRegion.{ArenaRegion}
use Rattle.vt_check.specs.declared.checking.Damage.{Damage}
use Rattle.vt_check.specs.declared.clumps.Cut.{Cut}
use Rattle.vt_check.specs.declared.clumps.Followed.{Followed}
use Rattle.vt_check.specs.Checking.{area_of, bad_clump, clump_damage, clumps_at, clumps_in, end_damage, entries_at, entries_of, first_damage}
use Rattle.vt_check.specs.Following.{HasFollowed, HasOwnEntry, IsWithinWindow, cut_bytes, taken_by_cuts}
use Rattle.vt_check.specs.Reading.{AreNextCuts}
use Rattle.vt_check.proofs.Following.{bad_clump-append, cut_len, taken_few}
use Rattle.vt_check.proofs.Judging.{or_none, sound_passes}
use Rattle.vt_check.proofs.Lists.{hold_none, hold_then}

pub reads_none : {D : Type 0} (score : List ℕ → List ℕ) (disk : DiskOf D) (l : LogState D) → OnlyReadsLog score disk 0 l l
reads_none score disk l = record { same = refl; sound = λ h sound. sound; disks = hold_none disk l.disks; calls = λ tells. omega arith }

pub reads_then : {D : Type 0} (score : List ℕ → List ℕ) (disk : DiskOf D) (m n all : ℕ) (a b c : LogState D) → m + n ≤ all → OnlyReadsLog score disk m a b → OnlyReadsLog score disk n b c
    → OnlyReadsLog score disk all a c
reads_then {D} score disk m n all a b c fits one two = record {
  same = two.same ∙ ap (λ (l : LogState D). record l { disks = c.disks }) one.same;
  sound = λ h sound. two.sound h (one.sound h sound);
  disks = hold_then disk a.disks b.disks c.disks one.disks two.disks;
  calls = λ tells. omega (arith, fits, one.calls tells, two.calls tells);
}

-- an arena stands on the same bytes where disks hold the same
pub stands_same : {D : Type 0} (score : List ℕ → List ℕ) (disk : DiskOf D) (most : ℕ) (a b : LogState D) → OnlyReadsLog score disk most a b
    → (i : ℕ) (r : ArenaRegion) (d : D) → IsArenaAt a i r d → (e : D) × IsArenaAt b i r e × (disk.bytes e ≡ disk.bytes d)
stands_same {D} score disk most a b reads i r d at =
    let long : length b.disks ≡ length a.disks = sym (length-map b.disks disk.bytes) ∙ ap (λ (l : List (List ℕ)). length l) reads.disks.bytes_are ∙ length-map a.disks disk.bytes in
    let below : r.part < length b.disks = omega (arith, long, slice_get_within a.disks r.part d at.disk_is) in
    let e : D = get_or b.disks r.part d in
    let there : slice_get b.disks r.part ≡ Some e = slice_get-get_or b.disks r.part d below in
    (e, record { arena = ap (λ (l : LogState D). slice_get l.layout i) reads.same ∙ at.arena; disk_is = there }, map_there disk.bytes a.disks b.disks r.part d e reads.disks.bytes_are at.disk_is there)

-- the arena's clumps were followed so far
pub record IsChecking {D : Type 0} (score : List ℕ → List ℕ) (disk : DiskOf D) (old now : LogState D) (arena : ℕ) (head : ArenaHead) (f : Followed) : Type 0 where
  pub reads : OnlyReadsLog score disk (2 * f.clumps) old now
  pub faults : map disk.faults now.disks ≡ map disk.faults old.disks
  pub few : f.clumps ≤ head.clumps
  -- each takes no more than the longest clump with the rest of its last sector
  pub wide : f.used ≤ 66084 * f.clumps
  pub clumps : List (List ℕ)
  pub entries : List (List ℕ)
  pub followed : HasFollowed score head.version clumps entries f
  pub clumps_are : (r : ArenaRegion) (d : D) → IsTrue disk.tells → IsArenaAt old arena r d
      → clumps_at head.version r.region head.clumps (disk.bytes d)
      ≡ clumps ++ clumps_in head.version (head.clumps - f.clumps) (drop f.used (area_of r.region (disk.bytes d)))
  pub entries_are : walks_headers head ≡ false → (r : ArenaRegion) (d : D) → IsTrue disk.tells → IsArenaAt old arena r d
      → entries_at r.region 0 head.clumps (disk.bytes d) ≡ entries ++ entries_at r.region f.clumps (head.clumps - f.clumps) (disk.bytes d)
  pub own_are : walks_headers head ≡ true → entries ≡ map entry_in_header clumps

pub begin_check : {D : Type 0} (score : List ℕ → List ℕ) (disk : DiskOf D) (l : LogState D) (arena : ℕ) (head : ArenaHead) (f : Followed)
    → HasFollowed score head.version [] [] f → IsChecking score disk l l arena head f
begin_check {D} score disk l arena head f it =
    let none : f.clumps ≡ 0 = it.count in
    let nothing : f.used ≡ 0 = it.used in
    record {
      reads = subst (λ (n : ℕ). OnlyReadsLog score disk n l l) (omega (arith, none)) (reads_none score disk l);
      faults = refl;
      few = omega (arith, none);
      wide = omega (arith, nothing);
      clumps = [];
      entries = [];
      followed = it;
      clumps_are = λ r d tells at. (λ i. clumps_in head.version (whole i) (drop (sym nothing i) (area_of r.region (disk.bytes d))));
      entries_are = λ off r d tells at. (λ i. entries_at r.region (sym none i) (whole i) (disk.bytes d));
      own_are = λ on. refl;
    }
  where
    whole : head.clumps ≡ head.clumps - f.clumps
    whole = let none : f.clumps ≡ 0 = it.count in omega (arith, none)

-- sound clumps that are cut with their own entries
own_cuts : (score : List ℕ → List ℕ) (window : List ℕ) (cuts : List Cut) → All (IsWithinWindow window) cuts → All (HasOwnEntry window) cuts
    → bad_clump score (map (cut_bytes window) cuts) ≡ None → map (λ cut. cut.entry) cuts ≡ map entry_in_header (map (cut_bytes window) cuts)
own_cuts score window [] within own none = refl
own_cuts score window (x ∷ xs) within own none =
    let parts = or_none (clump_damage score (cut_bytes window x)) (bad_clump score (map (cut_bytes window) xs)) none in
    let len : length (cut_bytes window x) ≡ x.end - x.start = cut_len window x (all_head (IsWithinWindow window) x xs within) in
    let long : 38 ≤ x.end - x.start = omega (arith, len, (sound_passes score (cut_bytes window x) parts.0).long) in
    let first : x.entry ≡ entry_in_header (cut_bytes window x) = all_head (HasOwnEntry window) x xs own long in
    let rest : map (λ (c : Cut). c.entry) xs ≡ map entry_in_header (map (cut_bytes window) xs) =
    own_cuts score window xs (all_tail (IsWithinWindow window) x xs within) (all_tail (HasOwnEntry window) x xs own) parts.1 in
    (λ i. first i ∷ rest i)

module _ {D : Type 0} (score : List ℕ → List ℕ) (disk : DiskOf D) (old now new : LogState D) (arena : ℕ) (head : ArenaHead) (f : Followed)
    (it : IsChecking score disk old now arena head f) (window : List ℕ) (cuts : List Cut) (reads : OnlyReadsLog score disk 2 now new)
    (within : All (IsWithinWindow window) cuts) (own : walks_headers head ≡ true → All (HasOwnEntry window) cuts)
    (next : (r : ArenaRegion) (d : D) → IsTrue disk.tells → IsArenaAt now arena r d → AreNextCuts r.region head (disk.bytes d) f.clumps f.used window cuts) where
  next_at : (r : ArenaRegion) (d : D) → IsTrue disk.tells → IsArenaAt old arena r d → AreNextCuts r.region head (disk.bytes d) f.clumps f.used window cuts
  next_at r d tells at =
      let there = stands_same score disk (2 * f.clumps) old now it.reads arena r d at in
      subst (λ (file : List ℕ). AreNextCuts r.region head file f.clumps f.used window cuts) there.2 (next r there.0 tells there.1)

  clumps_next : (r : ArenaRegion) (d : D) → IsTrue disk.tells → IsArenaAt old arena r d
      → clumps_at head.version r.region head.clumps (disk.bytes d) ≡ (it.clumps ++ map (cut_bytes window) cuts)
      ++ clumps_in head.version (head.clumps - f.clumps - length cuts) (drop (f.used + taken_by_cuts head.version cuts) (area_of r.region (disk.bytes d)))
  clumps_next r d tells at =
      it.clumps_are r d tells at
      ∙ ap (λ (l : List (List ℕ)). it.clumps ++ l) (next_at r d tells at).next
      ∙ sym (append_assoc it.clumps (map (cut_bytes window) cuts)
      (clumps_in head.version (head.clumps - f.clumps - length cuts) (drop (f.used + taken_by_cuts head.version cuts) (area_of r.region (disk.bytes d)))))

  -- they are sound
  pub check_more : (g : Followed) → HasFollowed score head.version (it.clumps ++ map (cut_bytes window) cuts) (it.entries ++ map (λ cut. cut.entry) cuts) g
      → g.clumps ≡ f.clumps + length cuts → g.used ≡ f.used + taken_by_cuts head.version cuts → 0 < length cuts → f.clumps + length cuts ≤ head.clumps
      → map disk.faults new.disks ≡ map disk.faults now.disks → IsChecking score disk old new arena head g
  check_more g followed count used some few faults = record {
    reads = reads_then score disk (2 * f.clumps) 2 (2 * g.clumps) old now new (omega (arith, count, some)) it.reads reads;
    faults = faults ∙ it.faults;
    few = omega (arith, count, few);
    wide = omega (arith, used, count, it.wide, taken_few head.version window cuts within);
    clumps = it.clumps ++ map (cut_bytes window) cuts;
    entries = it.entries ++ map (λ cut. cut.entry) cuts;
    followed = followed;
    clumps_are = λ r d tells at.
        let left : head.clumps - f.clumps - length cuts ≡ head.clumps - g.clumps = omega (arith, count) in
        clumps_next r d tells at
        ∙ (λ i. (it.clumps ++ map (cut_bytes window) cuts) ++ clumps_in head.version (left i) (drop (sym used i) (area_of r.region (disk.bytes d))));
    entries_are = λ off r d tells at.
        let left : head.clumps - f.clumps - length cuts ≡ head.clumps - g.clumps = omega (arith, count) in
        it.entries_are off r d tells at
        ∙ ap (λ (l : List (List ℕ)). it.entries ++ l) ((next_at r d tells at).entries off)
        ∙ sym (append_assoc it.entries (map (λ (c : Cut). c.entry) cuts) (entries_at r.region (f.clumps + length cuts) (head.clumps - f.clumps - length cuts) (disk.bytes d)))
        ∙ (λ i. (it.entries ++ map (λ (c : Cut). c.entry) cuts) ++ entries_at r.region (sym count i) (left i) (disk.bytes d));
    own_are = λ on.
        let sound : bad_clump score (map (cut_bytes window) cuts) ≡ None =
        (or_none (bad_clump score it.clumps) (bad_clump score (map (cut_bytes window) cuts))
        (sym (bad_clump-append score it.clumps (map (cut_bytes window) cuts)) ∙ followed.sound)).1 in
        (λ i. it.own_are on i ++ own_cuts score window cuts within (own on) sound i)
        ∙ sym (map-append entry_in_header it.clumps (map (cut_bytes window) cuts));
  }

  -- one of them isn't
  pub check_stops : (damage : Damage)
      → ((behind : List (List ℕ)) → bad_clump score (it.clumps ++ map (cut_bytes window) cuts ++ behind) ≡ Some damage)
      → (r : ArenaRegion) (d : D) → IsTrue disk.tells → IsArenaAt old arena r d → first_damage score r.region head (disk.bytes d) ≡ Some damage
  check_stops damage bad r d tells at =
      let rest : List (List ℕ) =
      clumps_in head.version (head.clumps - f.clumps - length cuts) (drop (f.used + taken_by_cuts head.version cuts) (area_of r.region (disk.bytes d))) in
      let clumps : List (List ℕ) = clumps_at head.version r.region head.clumps (disk.bytes d) in
      let found : bad_clump score clumps ≡ Some damage =
      ap (λ (l : List (List ℕ)). bad_clump score l) (clumps_next r d tells at) ∙ bad rest in
      ap (λ (o : Option Damage). option_or o (end_damage score head clumps (entries_of r.region head (disk.bytes d) clumps))) found

-- all were followed
pub check_ends : {D : Type 0} (score : List ℕ → List ℕ) (disk : DiskOf D) (old now : LogState D) (arena : ℕ) (head : ArenaHead) (f : Followed)
    (it : IsChecking score disk old now arena head f) → head.clumps ≤ f.clumps → (r : ArenaRegion) (d : D) → IsTrue disk.tells → IsArenaAt old arena r d
    → (clumps_at head.version r.region head.clumps (disk.bytes d) ≡ it.clumps)
    × (entries_of r.region head (disk.bytes d) (clumps_at head.version r.region head.clumps (disk.bytes d)) ≡ it.entries)
check_ends {D} score disk old now arena head f it past r d tells at =
    let none : head.clumps - f.clumps ≡ 0 = omega (arith, past) in
    let clumps : List (List ℕ) = clumps_at head.version r.region head.clumps (disk.bytes d) in
    let same : clumps ≡ it.clumps =
    it.clumps_are r d tells at
    ∙ ap (λ (n : ℕ). it.clumps ++ clumps_in head.version n (drop f.used (area_of r.region (disk.bytes d)))) none ∙ append-nil it.clumps in (
      same,
      (elim (walks_headers head) as (λ t. walks_headers head ≡ t
          → cond t (map entry_in_header clumps) (entries_at r.region 0 head.clumps (disk.bytes d)) ≡ it.entries) [
            | true ↦ λ on. ap (λ (l : List (List ℕ)). map entry_in_header l) same ∙ sym (it.own_are on)
            | false ↦ λ off.
                it.entries_are off r d tells at
                ∙ ap (λ (n : ℕ). it.entries ++ entries_at r.region f.clumps n (disk.bytes d)) none ∙ append-nil it.entries
          ]) refl,
    )
