-- A log that is walked from its end to its beginning.
use Rattle.std.proofs.Common.{◌≡◌, ℕ, List, length, map, Some, get_or, refl, sym, ◌∙◌, ap, subst, arith}
use Rattle.std.specs.Prelude.{slice_get, IsTrue, MatchBool, Ok, Err}
use Rattle.std.proofs.lemmas.List.{length-map}
use Rattle.std.proofs.lemmas.Option.{same_Some, slice_get-get_or, slice_get_within}
use Rattle.vt_base.specs.declared.place.Info.{Info}
use Rattle.vt_disk.specs.Members.{DiskOf}
use Rattle.vt_log.specs.Answers.{HoldTheSame, OnlyReadsLog}
use Rattle.vt_log.specs.Back.{IsTailBehind, IsInfoInLog, IsTailOf, TailState}
use Rattle.vt_log.specs.Faults.{OneHasRisen}
use Rattle.vt_log.specs.Log.{LogState, front, setup_of_log}
use Rattle.vt_log.specs.Sound.{IsSoundLog}
use Rattle.vt_model.specs.History.{History}
use Rattle.vt_model.specs.Places.{Setup}
use Rattle.vt_rebuild.specs.declared.error.RebuildBad.{RebuildBad}
use Rattle.vt_rebuild.specs.Walking.{GivesNext, KeepsLog, is_rebuild_fault}

-- reading leaves where a walk stands
pub behind_stays : {D : Type 0} (l new : LogState D) (h : History) (n : ℕ) (t : TailState) → new ≡ record l { disks = new.disks } → IsTailBehind l h n t → IsTailBehind new h n t
behind_stays {D} l new h n t same it = subst (λ (m : LogState D). IsTailBehind m h n t) (sym same) (record {
  left = it.left;
  most = it.most;
  queue = it.queue;
  index = it.index;
  end = it.end;
  sectors = it.sectors;
  arenas = it.arenas;
})

-- disks that are only read from
hold_none : {D : Type 0} (disk : DiskOf D) (a : List D) → HoldTheSame disk a a
hold_none {D} disk a = record {
  bytes_are = refl;
  sizes_are = refl;
  images_are = λ i x y at there file image. subst (λ (d : D). disk.images d file) (same_Some y x (sym there ∙ at)) image;
}

-- what stands at a place of a list of the same length
beside : {X : Type 0} (a b : List X) (i : ℕ) (x : X) → length a ≡ length b → slice_get a i ≡ Some x → (y : X) × (slice_get b i ≡ Some y)
beside a b i x many at = (get_or b i x, slice_get-get_or b i x (omega (arith, many, slice_get_within a i x at)))

hold_then : {D : Type 0} (disk : DiskOf D) (a b c : List D) → HoldTheSame disk a b → HoldTheSame disk b c → HoldTheSame disk a c
hold_then disk a b c one two = record {
  bytes_are = two.bytes_are ∙ one.bytes_are;
  sizes_are = two.sizes_are ∙ one.sizes_are;
  images_are = λ i x z at there.
      let many : length a ≡ length b = sym (length-map a disk.bytes) ∙ ap length (sym one.bytes_are) ∙ length-map b disk.bytes in
      let y = beside a b i x many at in
      λ file image. one.images_are i x y.0 at y.1 file (two.images_are i y.0 z y.1 there file image);
}

pub keeps_none : {D : Type 0} (score : List ℕ → List ℕ) (disk : DiskOf D) (l : LogState D) → KeepsLog score disk l l
keeps_none score disk l = record { same = refl; sound = λ h sound. sound; disks = hold_none disk l.disks }

pub keeps_then : {D : Type 0} (score : List ℕ → List ℕ) (disk : DiskOf D) (a b c : LogState D) → KeepsLog score disk a b → KeepsLog score disk b c → KeepsLog score disk a c
keeps_then {D} score disk a b c one two = record {
  same = two.same ∙ ap (λ (m : LogState D). record m { disks = c.disks }) one.same;
  sound = λ h sound. two.sound h (one.sound h sound);
  disks = hold_then disk a.disks b.disks c.disks one.disks two.disks;
}

pub keeps_read : {D : Type 0} (score : List ℕ → List ℕ) (disk : DiskOf D) (most : ℕ) (a b : LogState D) → OnlyReadsLog score disk most a b → KeepsLog score disk a b
keeps_read score disk most a b it = record { same = it.same; sound = it.sound; disks = it.disks }

-- so do the versions of its arenas
pub versions_stay : {D : Type 0} (score : List ℕ → List ℕ) (disk : DiskOf D) (c : Setup) (a b : LogState D) → KeepsLog score disk a b
    → c.versions ≡ (setup_of_log a).versions → c.versions ≡ (setup_of_log b).versions
versions_stay {D} score disk c a b keeps versions = subst (λ (m : LogState D). c.versions ≡ (setup_of_log m).versions) (sym keeps.same) versions

-- a walk that came so far, of a log that is only read from
pub record IsWalking {D : Type 0} (score : List ℕ → List ℕ) (disk : DiskOf D) (old now : LogState D) (t : TailState) : Type 0 where
  pub keeps : KeepsLog score disk old now
  pub tail : IsTailOf now t
  pub faults : map disk.faults now.disks ≡ map disk.faults old.disks
  pub behind : (h : History) → IsTrue disk.tells → IsSoundLog score disk old h → IsTailBehind now h t.left t

pub begin_walk : {D : Type 0} (score : List ℕ → List ℕ) (disk : DiskOf D) (l : LogState D) (t : TailState) → IsTailOf l t → t.left ≡ front l
    → ((h : History) → IsSoundLog score disk l h → IsTailBehind l h (length h) t) → IsWalking score disk l l t
begin_walk score disk l t tail all behind = record {
  keeps = keeps_none score disk l;
  tail = tail;
  faults = refl;
  behind = λ h tells sound. subst (λ (n : ℕ). IsTailBehind l h n t) (sym (all ∙ sound.front)) (behind h sound);
}

pub walk_on : {D : Type 0} (score : List ℕ → List ℕ) (disk : DiskOf D) (old now new : LogState D) (t after : TailState) (info : Info)
    → IsWalking score disk old now t → GivesNext score disk (Ok info) now new t after → IsWalking score disk old new after
walk_on {D} score disk old now new t after info was next = record {
  keeps = keeps_then score disk old now new was.keeps (keeps_read score disk 1 now new next.reads);
  tail = next.tail;
  faults = next.faults ∙ was.faults;
  behind = λ h tells sound. behind_stays now new h after.left after next.reads.same
      (next.blocks h tells (was.keeps.sound h sound) (was.behind h tells sound)).1;
}

-- the block that it gives, by its number
pub gives_info : {D : Type 0} (score : List ℕ → List ℕ) (disk : DiskOf D) (old now new : LogState D) (t after : TailState) (info : Info)
    → IsWalking score disk old now t → GivesNext score disk (Ok info) now new t after → (h : History) → IsTrue disk.tells → IsSoundLog score disk old h → IsInfoInLog score now h after.left info
gives_info score disk old now new t after info was next h tells sound = (next.blocks h tells (was.keeps.sound h sound) (was.behind h tells sound)).0

-- it ends early
pub walk_fails : {D : Type 0} (score : List ℕ → List ℕ) (disk : DiskOf D) (old now new : LogState D) (t after : TailState) (bad : RebuildBad)
    → IsWalking score disk old now t → GivesNext score disk (Err bad) now new t after → KeepsLog score disk old new
    × MatchBool (is_rebuild_fault bad) (OneHasRisen (map disk.faults old.disks) (map disk.faults new.disks)) (map disk.faults new.disks ≡ map disk.faults old.disks)
walk_fails score disk old now new t after bad was next = (
  keeps_then score disk old now new was.keeps (keeps_read score disk 1 now new next.reads),
  subst (λ (ns : List ℕ). MatchBool (is_rebuild_fault bad) (OneHasRisen ns (map disk.faults new.disks)) (map disk.faults new.disks ≡ ns)) was.faults next.faults,
)
