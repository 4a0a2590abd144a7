-- A shard that is mounted.
use Rattle.std.proofs.Common.{◌≡◌, ℕ, zero, suc, ◌-◌, ◌^◌, ◌<◌, ◌≤◌, List, length, replicate, Some, None, refl, sym, subst, arith}
use Rattle.std.specs.Prelude.{slice_get}
use Rattle.std.proofs.lemmas.List.{take_all}
use Rattle.std.proofs.lemmas.List.Elements.{All-nil}
use Rattle.std.proofs.lemmas.Option.{slice_get_within}
use Rattle.lru.proofs.Splits.{Contains-nil}
use Rattle.vt_base.specs.declared.place.Info.{Info}
use Rattle.vt_disk.specs.Members.{DiskOf}
use Rattle.vt_isect.specs.Agreement.{KnownAgrees}
use Rattle.vt_isect.specs.Section.{SectionState}
use Rattle.vt_isect.specs.Sound.{KnownBuckets, DiskHolds}
use Rattle.vt_isect.specs.declared.head.Head.{Head}
use Rattle.vt_isect.specs.declared.phase.Phase.TheVariants.{Rest}
use Rattle.vt_isect.proofs.IsSoundSection.{idle_sound}
use Rattle.vt_isect.proofs.KnownAgrees.{agrees_idle}
use Rattle.vt_model.specs.History.{History}
use Rattle.vt_model.specs.Places.{Setup}
use Rattle.vt_shard.specs.Shard.{HasScore, IsWell, OnlyMark, mounted_shard}
use Rattle.vt_shard.specs.Sound.{IsSoundFrom}
use Rattle.vt_shard.specs.declared.TheConstants.{ROOM}

-- handing back the entries of the last writeback keeps a disk sound
pub holds_idle : {D : Type 0} (disk : DiskOf D) (t : SectionState D) (known : KnownBuckets) → t.phase ≡ Rest → DiskHolds disk t known
    → DiskHolds disk (record t { entries = None }) known
holds_idle disk t known rest holds =
    idle_sound t known (disk.bytes t.disk) (disk.images t.disk) rest holds

pub mounted_sound : {D : Type 0} (score : List ℕ → List ℕ) (c : Setup) (disk : DiskOf D) (h : History) (section : SectionState D) (known : KnownBuckets)
    (lumps clean : ℕ) → section.phase ≡ Rest → DiskHolds disk section known → KnownAgrees score c h section known
    → section.head.state ≡ 1 → section.next ≡ section.head
    → IsSoundFrom score c disk (mounted_shard section lumps clean) h (length h) (length h)
mounted_sound score c disk h section known lumps clean rest holds agrees live next = record {
  keys = agrees.keys;
  durable_fits = omega arith;
  known = known;
  section = holds_idle disk section known rest holds;
  agrees = subst (λ (g : History). KnownAgrees score c g (record section { entries = None }) known) (sym (take_all (length h) h (omega arith)))
      (agrees_idle score c h section known rest agrees);
  live = live;
  next = subst (λ (x : Head). OnlyMark x section.next) next refl;
  filed = omega arith;
  has = λ n i entries within is le at. let lt = slice_get_within h i at.block at.stands.block in absurd (omega (arith, lt, le));
  dirty = λ info it. absurd (Contains-nil info it);
  unfiled = λ info entries it. absurd (Contains-nil info it);
  clean = λ entry it. absurd (Contains-nil entry it);
  bucket = λ bucket is. absurd (cc);
  lumps = λ key bytes it. absurd (Contains-nil (key, bytes) it);
}

zero_at : (n i : ℕ) → i < n → slice_get {X = ℕ} (replicate n 0) i ≡ Some 0
zero_at zero i lt = absurd (omega (arith, lt))
zero_at (suc n) zero lt = refl
zero_at (suc n) (suc i) lt = zero_at n i (omega (arith, lt))

pub well_mounted : {D : Type 0} (section : SectionState D) (lumps clean capacity : ℕ) → section.phase ≡ Rest → ROOM ≤ capacity
    → IsWell (mounted_shard section lumps clean) (Some capacity) (replicate section.buckets 0)
well_mounted section lumps clean capacity rest room = record {
  room = refl;
  most = omega arith;
  keys = λ i j d lt within. absurd (omega (arith, within));
  in_range = All-nil (λ (x : Info). HasScore (mounted_shard section lumps clean) x.key.score.0);
  numbers = All-nil (λ (x : Info). x.number < 2 ^ 64 - 1);
  counts = λ n within. let low = within.0 in let high = within.1 in zero_at section.buckets (n - section.head.first) (omega (arith, low, high));
  rest = λ at. (refl, refl, room);
  under_way = λ goes. absurd (goes rest);
}
