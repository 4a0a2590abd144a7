-- Clearing the buckets of a section piece by piece.
use Rattle.std.proofs.Common.{◌≡◌, ℕ, ◌+◌, ◌-◌, ◌*◌, ◌/◌, ◌≤◌, List, [], Some, None, ◌∙◌, ap, arith}
use Rattle.std.proofs.Math.Nat.{mul-le-mul_left}
use Rattle.std.specs.Prelude.{IsTrue}
use Rattle.std.proofs.lemmas.Bool.Decides.{nat_tests}
use Rattle.vt_base.specs.declared.place.Entry.{Entry}
use Rattle.vt_disk.specs.Calls.{MadeCalls}
use Rattle.vt_disk.specs.Members.{DiskOf}
use Rattle.vt_isect.specs.Filling.{with_buckets}
use Rattle.vt_isect.specs.Section.{SectionState}
use Rattle.vt_isect.specs.Sound.{DiskHolds, KnownBuckets, nothing_known}
use Rattle.vt_format.specs.Usage.{cleared}
use Rattle.vt_format.proofs.Heads.{Forgets}

-- how many buckets so many pieces have
abbrev pub up_to : (piece all : ℕ) → ℕ
up_to piece all = all * piece / 16

pub record HasCleared {D : Type 0} (disk : DiskOf D) (piece : ℕ) (old new : SectionState D) : Type 0 where
  pub same : new ≡ record old { disk = new.disk }
  pub holds : IsTrue disk.tells → DiskHolds disk old nothing_known
      → DiskHolds disk new (cleared old.head.first (up_to piece old.buckets))
  pub calls : IsTrue disk.tells → disk.calls new.disk ≤ disk.calls old.disk + (2 * up_to piece old.buckets + piece)
  pub size : disk.size new.disk ≡ disk.size old.disk
  pub faults : disk.faults new.disk ≡ disk.faults old.disk

-- what is cleared in two steps
covers : (first from to n : ℕ) (entries : List Entry) → from ≤ to → cleared first to n ≡ Some entries
    → with_buckets (first + from) (to - from) (Some []) (cleared first from) n ≡ Some entries
covers first from to n entries least is = grind (arith, nat_tests)

more : (piece all : ℕ) → up_to piece all ≤ up_to (piece + 1) all
more piece all =
    let next : piece ≤ piece + 1 = omega arith in
    let mul : all * piece ≤ all * (piece + 1) = mul-le-mul_left all next in
    omega arith

-- What was known of the disk still is, whatever is known of the buckets that are being cleared.
pub still_sound : {D : Type 0} (disk : DiskOf D) (forget : Forgets disk) (piece first count : ℕ) (old u v : SectionState D)
    → HasCleared disk piece old u
    → ((known : KnownBuckets) → IsTrue disk.tells → DiskHolds disk u known → DiskHolds disk v (with_buckets first count None known))
    → IsTrue disk.tells → DiskHolds disk old nothing_known → DiskHolds disk v nothing_known
still_sound disk forget piece first count old u v it others told sound =
    let known : KnownBuckets = cleared old.head.first (up_to piece old.buckets) in
    forget v (with_buckets first count None known) nothing_known (λ n entries is. absurd (cc)) (others known told (it.holds told sound))

pub one_more : {D : Type 0} (disk : DiskOf D) (forget : Forgets disk) (piece : ℕ) (old u v : SectionState D)
    → HasCleared disk piece old u → v ≡ record u { disk = v.disk }
    → ((known : KnownBuckets) → IsTrue disk.tells → DiskHolds disk u known
    → DiskHolds disk v (with_buckets (old.head.first + up_to piece old.buckets) (up_to (piece + 1) old.buckets - up_to piece old.buckets) (Some []) known))
    → MadeCalls disk (2 * (up_to (piece + 1) old.buckets - up_to piece old.buckets) + 1) u.disk v.disk
    → disk.size v.disk ≡ disk.size u.disk → disk.faults v.disk ≡ disk.faults u.disk → HasCleared disk (piece + 1) old v
one_more {D = D} disk forget piece old u v it same clears made size faults = record {
  same = same ∙ ap (λ (t : SectionState D). let changed : SectionState D = record t { disk = v.disk } in changed) it.same;
  holds = λ told sound.
      forget v (with_buckets (old.head.first + up_to piece old.buckets) (up_to (piece + 1) old.buckets - up_to piece old.buckets) (Some [])
      (cleared old.head.first (up_to piece old.buckets))) (cleared old.head.first (up_to (piece + 1) old.buckets))
      (λ n entries is. covers old.head.first (up_to piece old.buckets) (up_to (piece + 1) old.buckets) n entries (more piece old.buckets) is)
      (clears (cleared old.head.first (up_to piece old.buckets)) told (it.holds told sound));
  calls = λ told.
      let grows : up_to piece old.buckets ≤ up_to (piece + 1) old.buckets = more piece old.buckets in
      omega (arith, made told, it.calls told);
  size = size ∙ it.size;
  faults = faults ∙ it.faults;
}
