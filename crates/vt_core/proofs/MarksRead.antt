-- The marks that are read on devices.
use Rattle.std.proofs.Common.{◌≡◌, ⊎_elim, ℕ, List, map, Option, Some, None, sym, ◌∙◌, ap, subst}
use Rattle.std.specs.Prelude.{slice_get, IsTrue}
use Rattle.std.specs.Option.{option_to_list}
use Rattle.std.proofs.lemmas.Option.{same_Some}
use Rattle.vt_bloom.specs.Bloom.{BloomState, IsSoundBloom}
use Rattle.vt_bloom.specs.Frame.{HasSaved, Saved}
use Rattle.vt_bloom.specs.Laws.{HasOneSaved}
use Rattle.vt_disk.specs.Members.{DiskOf}
use Rattle.vt_isect.specs.declared.TheConstants.{FRAME_LEN}
use Rattle.vt_isect.specs.declared.head.Head.{Head}
use Rattle.vt_isect.specs.declared.phase.Phase.TheVariants.{ChangeHead, Rest}
use Rattle.vt_isect.specs.Head.{IsHeadFrame}
use Rattle.vt_isect.specs.Layout.{head_place}
use Rattle.vt_isect.specs.Section.{SectionState}
use Rattle.vt_isect.specs.Sound.{DiskHolds, KnownBuckets, LeavesHead}
use Rattle.vt_model.specs.History.{History}
use Rattle.vt_shard.specs.Shard.{ShardState}
use Rattle.vt_twin.specs.Frames.{current_frame}
use Rattle.vt_core.specs.Core.{CoreState, devices_of}
use Rattle.vt_core.specs.Files.{PerDevice}
use Rattle.vt_core.specs.Mounting.{IsHeadRead, IsMarkRead}
use Rattle.vt_core.specs.Sound.{IsSound}
use Rattle.vt_recover.proofs.Lists.{at_map}

-- what the laws say that are called
abbrev pub HeadsLeft : {D : Type 0} → DiskOf D → Type 0
HeadsLeft {D} disk = (t : SectionState D) (known : KnownBuckets) → DiskHolds disk t known → (file : List ℕ) → disk.images t.disk file
    → (head : Head) × LeavesHead t head × IsHeadFrame t.name head (current_frame head_place FRAME_LEN file)

abbrev pub SavedLeft : {D : Type 0} → DiskOf D → Type 0
SavedLeft {D} disk = (b : BloomState D) (saved coming : Saved) → IsSoundBloom b saved coming (disk.bytes b.disk) (disk.images b.disk) → b.twin.change ≡ None
    → (c : List ℕ) → disk.images b.disk c → HasSaved saved c

abbrev pub HasOneHead : Type 0
HasOneHead = (name other : List ℕ) (head its : Head) (frame : List ℕ) → IsHeadFrame name head frame → IsHeadFrame other its frame → (name ≡ other) × (head ≡ its)

module _ {D : Type 0} (disk : DiskOf D) (tells : IsTrue disk.tells) where
  module _ (read : (d : D) → disk.images d (disk.bytes d)) (score : List ℕ → List ℕ) (k : CoreState D) (h : History) (sound : IsSound score disk k h) where
    pub head_read : HeadsLeft disk → (i : ℕ) (s : ShardState D) → slice_get k.shards i ≡ Some s → s.writeback ≡ None → IsHeadRead disk (devices_of k) i s.section.head
    head_read left i s at none =
        let of = sound.shards i s at in
        let it = left s.section of.known of.section (disk.bytes s.section.disk) (read s.section.disk) in
        let same : it.0 ≡ s.section.head = ⊎_elim
        (λ e. e)
        (λ next. let no : ChangeHead ≡ Rest = sym next.0 ∙ (sound.whole.shards i s at).rest none in absurd (cc))
        it.1 in
        record {
          device = s.section.disk;
          at = at_map (λ s. s.section.disk) k.shards i s at;
          read = λ _. (s.section.name, subst (λ (head : Head). IsHeadFrame s.section.name head (current_frame head_place FRAME_LEN (disk.bytes s.section.disk))) same it.2);
        }

    pub mark_read : SavedLeft disk → (b : BloomState D) → k.bloom ≡ Some b → b.twin.change ≡ None → IsMarkRead disk (devices_of k) b.mark
    mark_read left b is none =
        let of = sound.filter b is in
        record {
          device = b.disk;
          at = ap (λ (o : Option (BloomState D)). slice_get (map (λ b. b.disk) (option_to_list o)) 0) is;
          read = λ _. (of.saved, left b of.saved of.coming of.sound none (disk.bytes b.disk) (read b.disk), sym of.sound.saved_mark);
        }

  pub one_head : HasOneHead → (devices : PerDevice D) (i : ℕ) (head other : Head) → IsHeadRead disk devices i head → IsHeadRead disk devices i other → head ≡ other
  one_head one devices i head other a b =
      let same : b.device ≡ a.device = same_Some b.device a.device (sym b.at ∙ a.at) in
      let x = a.read tells in
      let y = b.read tells in
      (one x.0 y.0 head other (current_frame head_place FRAME_LEN (disk.bytes a.device)) x.1
      (subst (λ (d : D). IsHeadFrame y.0 other (current_frame head_place FRAME_LEN (disk.bytes d))) same y.1)).1

  pub one_mark : HasOneSaved → (devices : PerDevice D) (mark other : ℕ) → IsMarkRead disk devices mark → IsMarkRead disk devices other → mark ≡ other
  one_mark one devices mark other a b =
      let same : b.device ≡ a.device = same_Some b.device a.device (sym b.at ∙ a.at) in
      let x = a.read tells in
      let y = b.read tells in
      x.2 ∙ ap (λ (s : Saved). s.mark) (one x.0 y.0 (disk.bytes a.device) x.1 (subst (λ (d : D). HasSaved y.0 (disk.bytes d)) same y.1)) ∙ sym y.2
