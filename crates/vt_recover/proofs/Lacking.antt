-- Entries that a section lacks, by what was found while a log is read back.
use Rattle.std.proofs.Common.{◌≡◌, ◌≢◌, ℕ, zero, suc, ◌+◌, ◌-◌, ◌<◌, ◌≤◌, List, [], ◌∷◌, ◌++◌, length, map, sym, ◌∙◌, ap, subst, arith, length-append}
use Rattle.std.specs.Prelude.{slice_index, slice_index_or}
use Rattle.std.specs.List.{AllPairs, Contains}
use Rattle.std.proofs.lemmas.List.{length-map}
use Rattle.std.proofs.lemmas.List.Elements.{All-map, All-push}
use Rattle.std.proofs.lemmas.List.Quantifiers.{all_pairs_push}
use Rattle.std.proofs.lemmas.Option.{same_Some, get_or_from_slice_get}
use Rattle.vt_base.specs.declared.key.Key.{Key}
use Rattle.vt_base.specs.declared.place.Entry.{Entry}
use Rattle.vt_base.specs.declared.place.Info.{Info}
use Rattle.vt_bucket.specs.Laws.{IsUnambiguous}
use Rattle.vt_disk.specs.Members.{DiskOf}
use Rattle.vt_icache.specs.Index.{entry_of}
use Rattle.vt_isect.specs.Agreement.{IsEntryOf}
use Rattle.vt_isect.specs.Head.{IsHeadFrame}
use Rattle.vt_isect.specs.Layout.{InRange, IsBucketPlace, IsSection, head_place}
use Rattle.vt_isect.specs.Merging.{HasKey}
use Rattle.vt_isect.specs.declared.TheConstants.{FRAME_LEN}
use Rattle.vt_isect.specs.declared.head.Head.{Head}
use Rattle.vt_model.specs.History.{History}
use Rattle.vt_model.specs.Places.{Setup, bucket_count, bucket_of, section_of_score}
use Rattle.vt_shard.specs.Shard.{ShardState, HasScore, bucket_at}
use Rattle.vt_shard.specs.Sound.{IsSoundFrom}
use Rattle.vt_twin.specs.Frames.{current_frame}
use Rattle.vt_recover.specs.Marks.{LacksIndexEntry, LacksMany}
use Rattle.vt_recover.specs.Recalling.{KeepsSection}
use Rattle.vt_recover.specs.Sections.{IsLive, SectionStandsFor, section_buckets}
use Rattle.vt_recover.specs.TakingBack.{HasEntries, HasNoRoomFor, IsUnwrittenShard, LacksKey}
use Rattle.vt_recover.proofs.Below.{HaveRanges}
use Rattle.vt_recover.proofs.Lists.{at_map}
use Rattle.vt_recover.proofs.PuttingBack.{any_default}
use Rattle.vt_log.proofs.Lists.{slice_get_there}

-- a frame is that of one head
abbrev pub OneHead : Type 0
OneHead = (name other : List ℕ) (head its : Head) (frame : List ℕ) → IsHeadFrame name head frame → IsHeadFrame other its frame → (name ≡ other) × (head ≡ its)

-- a place that isn't 0 is one of the list
within_list : (xs : List ℕ) (i : ℕ) → 0 < slice_index xs i → i < length xs
within_list [] i some = absurd (omega (arith, some))
within_list (x ∷ xs) zero some = omega arith
within_list (x ∷ xs) (suc i) some = omega (arith, within_list xs i some)

-- a key is its score and its type
same_key : (a b : Key) → a.score.0 ≡ b.score.0 → a.kind ≡ b.kind → a ≡ b
same_key a b score kind =
    let one : a ≡ record { score = b.score; kind = a.kind } = ap (λ (s : List ℕ). record { score = record { 0 = s }; kind = a.kind }) score in
    let two : record { score = b.score; kind = a.kind } ≡ b = ap (λ (k : ℕ). record { score = b.score; kind = k }) kind in
    one ∙ two

-- numbers that are apart
apart_map : (xs : List Info) → AllPairs (λ a b. a.number ≢ b.number) xs → AllPairs (λ i j. i ≢ j) (map (λ info. info.number) xs)
apart_map xs apart = λ i j d before within same.
    let f : Info → ℕ = λ info. info.number in
    let a = slice_get_there xs i (omega (arith, before, within, length-map xs f)) in
    let b = slice_get_there xs j (omega (arith, within, length-map xs f)) in
    let first : slice_index_or (map f xs) i d ≡ f a.0 = get_or_from_slice_get (map f xs) i (f a.0) d (at_map f xs i a.0 a.1) in
    let second : slice_index_or (map f xs) j d ≡ f b.0 = get_or_from_slice_get (map f xs) j (f b.0) d (at_map f xs j b.0 b.1) in
    let own : slice_index_or xs i a.0 ≡ a.0 = get_or_from_slice_get xs i a.0 a.0 a.1 in
    let other : slice_index_or xs j a.0 ≡ b.0 = get_or_from_slice_get xs j b.0 a.0 b.1 in
    apart i j a.0 before (omega (arith, within, length-map xs f)) (ap f own ∙ sym first ∙ same ∙ second ∙ sym (ap f other))

module _ {D : Type 0} (ranges : HaveRanges) (one_head : OneHead) (one_frame : IsUnambiguous) (score : List ℕ → List ℕ) (c : Setup) (h : History) (i : ℕ) (file : List ℕ) (before : ShardState D)
    (live : IsLive c i before.section.head) (buckets : before.section.buckets ≡ section_buckets c i) (stands : SectionStandsFor score c h i file)
    (entries : ℕ → List Entry) (has : HasEntries entries file before) where
  -- a section that the file is has the shard's place
  same_first : (name : List ℕ) (head : Head) (es : ℕ → List Entry) → IsSection name head (section_buckets c i) es file → head.first ≡ before.section.head.first
  same_first name head es is =
      let same : head ≡ stands.section.head = (one_head name stands.name head stands.section.head (current_frame head_place FRAME_LEN file) is.head_frame stands.section.is.head_frame).1 in
      ap (λ (x : Head). x.first) same ∙ ap (λ (x : Head). x.first) stands.section.at_place ∙ stands.live.first ∙ sym live.first

  -- and these entries
  same_entries : (name : List ℕ) (head : Head) (es : ℕ → List Entry) → IsSection name head (section_buckets c i) es file → (n : ℕ) → InRange before.section.head before.section.buckets n → es n ≡ entries n
  same_entries name head es is n range =
      let first : head.first ≡ before.section.head.first = same_first name head es is in
      let it = is.bucket n (omega (arith, range.0, first), omega (arith, range.1, first, buckets)) in
      let place : IsBucketPlace (n - before.section.head.first) it.0 = subst (λ (m : ℕ). IsBucketPlace (n - m) it.0) first it.1 in
      (one_frame n n (es n) (entries n) (current_frame it.0 FRAME_LEN file) it.2 (has n it.0 range place)).1

  -- the section of a score that the shard has
  belongs : (s : List ℕ) → HasScore before s → section_of_score c s ≡ i
  belongs s own =
      let some : 0 < slice_index c.sections i = omega (arith, own.0, own.1, buckets) in
      let total : bucket_of before.section.head.total s ≡ bucket_of (bucket_count c) s = ap (λ (n : ℕ). bucket_of n s) live.total in
      (ranges c.sections i (bucket_of (bucket_count c) s) (within_list c.sections i some)).1
      (omega (arith, own.0, live.first, total), omega (arith, own.1, live.first, total, buckets))

  pub lacks_entry : (info : Info) → IsEntryOf score c h info.number (entry_of info) → HasScore before info.key.score.0 → LacksKey entries before info.key → LacksIndexEntry score c h i file info.number
  lacks_entry info it own lacks =
      let s : List ℕ = score it.block.block.bytes in
      let is : info.key.score.0 ≡ s = it.score_is in
      record {
        block = it.block;
        at = it.stands.block;
        belongs = belongs s (subst (λ (x : List ℕ). HasScore before x) is own);
        lacks = λ name head es section found.
            let b : ℕ = bucket_of (bucket_count c) s in
            let bucket : bucket_at before info.key.score.0 ≡ b = ap (λ (x : List ℕ). bucket_at before x) is ∙ ap (λ (n : ℕ). bucket_of n s) live.total in
            let range : InRange before.section.head before.section.buckets b = subst (λ (n : ℕ). InRange before.section.head before.section.buckets n) bucket own in
            let same : es b ≡ entries b = same_entries name head es section b range in
            let there : Contains (entries (bucket_at before info.key.score.0)) found.0 =
            subst (λ (n : ℕ). Contains (entries n) found.0) (sym bucket) (subst (λ (l : List Entry). Contains l found.0) same found.1) in
            let block : found.2.block ≡ it.block = same_Some found.2.block it.block (sym found.2.stands.block ∙ it.stands.block) in
            let key_score : found.0.key.score.0 ≡ info.key.score.0 = found.2.score_is ∙ ap (λ e. score e.block.bytes) block ∙ sym is in
            let key_kind : found.0.key.kind ≡ info.key.kind = found.2.kind_is ∙ ap (λ e. e.block.kind) block ∙ sym it.kind_is in
            let key : found.0.key ≡ info.key = same_key found.0.key info.key key_score key_kind in
            lacks (found.0, there, key);
      }

  -- too many are lacking
  pub lacks_many : (disk : DiskOf D) (mid : ShardState D) (info : Info) → KeepsSection disk before mid → IsSoundFrom score c disk mid h (length h) (info.number + 1)
      → IsEntryOf score c h info.number (entry_of info) → IsUnwrittenShard disk entries file (info.number + 1) mid → HasNoRoomFor entries info.key mid → LacksMany score c h i file
  lacks_many disk mid info keeps sound it un full =
      let f : Info → ℕ = λ x. x.number in
      let dirty : List Info = mid.index.dirty in
      let head : mid.section.head ≡ before.section.head = keeps.head in
      let back : (s : List ℕ) → HasScore mid s → HasScore before s = λ s own.
      subst (λ (x : Head). InRange x before.section.buckets (bucket_of x.total s)) head (subst (λ (b : ℕ). InRange mid.section.head b (bucket_of mid.section.head.total s)) keeps.buckets own) in
      let lack : (key : Key) → LacksKey entries mid key → LacksKey entries before key = λ key lacks.
      subst (λ (x : Head). HasKey (Contains (entries (bucket_of x.total key.score.0))) key → ⊥) head lacks in
      record {
        numbers = map f dirty ++ info.number ∷ [];
        apart = all_pairs_push (λ a b. a ≢ b) (map f dirty) info.number (apart_map dirty un.apart) (λ k d below same.
            let x = slice_get_there dirty k (omega (arith, below, length-map dirty f)) in
            let there : slice_index_or (map f dirty) k d ≡ f x.0 = get_or_from_slice_get (map f dirty) k (f x.0) d (at_map f dirty k x.0 x.1) in
            let least : info.number + 1 ≤ f x.0 = un.least x.0 (k, omega (arith, below, length-map dirty f), get_or_from_slice_get dirty k x.0 x.0 x.1) in
            omega (arith, there, least, same));
        many = omega (arith, length-append (map f dirty) (info.number ∷ []), length-map dirty f, full.full);
        each = All-push (LacksIndexEntry score c h i file) (map f dirty) info.number
            (All-map (LacksIndexEntry score c h i file) f dirty (λ k d below.
            let x : Info = slice_index_or dirty k d in
            let in_list : Contains dirty x = (k, below, any_default dirty k x d below) in
            lacks_entry x (sound.dirty x in_list) (back x.key.score.0 (un.own x in_list)) (lack x.key (un.lacks x in_list))))
            (lacks_entry info it (back info.key.score.0 full.own) (lack info.key full.lacks));
      }
