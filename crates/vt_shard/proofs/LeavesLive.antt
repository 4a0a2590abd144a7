-- What a crash leaves of a shard, and what the layers above lean on between its calls.
use Rattle.std.proofs.Common.{◌≡◌, ◌⊎◌, inl, ⊎_elim, ℕ, ◌+◌, ◌<◌, ◌≤◌, List, [], ◌∷◌, ◌++◌, length, take, drop, Some, Result, refl, sym, ◌∙◌, ap, subst, arith, length-append}
use Rattle.std.specs.Prelude.{slice_get}
use Rattle.std.specs.List.{AllPairs, Contains}
use Rattle.std.proofs.lemmas.Bool.{cases_lt}
use Rattle.std.proofs.lemmas.List.{take-append-drop, take-append-le, take_all}
use Rattle.std.proofs.lemmas.Option.{slice_get_within}
use Rattle.vt_base.specs.declared.place.Entry.{Entry}
use Rattle.vt_icache.specs.Index.{entry_of}
use Rattle.vt_isect.specs.Agreement.{IsEntryOf, HasBlock, IsInBucket, IsMarkCovered, NoOthers, AgreesWith, KnownAgrees, LeavesAgreeing}
use Rattle.vt_isect.specs.Layout.{InRange, IsSection}
use Rattle.vt_isect.specs.Section.{SectionState, IsTodo}
use Rattle.vt_isect.specs.Sound.{KnownBuckets}
use Rattle.vt_isect.specs.Writeback.{SectionAdvances}
use Rattle.vt_isect.specs.declared.error.ShardErr.{ShardErr}
use Rattle.vt_isect.specs.declared.head.Head.{Head}
use Rattle.vt_isect.proofs.AgreesWith.{leaves_agree}
use Rattle.vt_isect.proofs.Histories.{known_longer}
use Rattle.vt_isect.proofs.LeavesSection.{leaves}
use Rattle.vt_model.specs.History.{History, Accepted, HasScoreAt}
use Rattle.vt_model.specs.Legal.{HasOtherKey}
use Rattle.vt_model.specs.Places.{Setup, bucket_of, bucket_count}
use Rattle.vt_disk.specs.Members.{DiskOf}
use Rattle.vt_twin.specs.declared.step.Step.{Step}
use Rattle.vt_shard.specs.Shard.{ShardState, HasScore, OnlyMark}
use Rattle.vt_shard.specs.Sound.{IsSoundShard, IsSoundFrom, IsLiveSection, LeavesLive}
use Rattle.vt_shard.proofs.Blocks.{entry_longer, has_longer, lump_longer, bucket_before, keys_of_front, front_of_front, entry_of_front, bucket_in_front}
use Rattle.vt_shard.proofs.IsSoundFrom.{no_more, from_other}
use Rattle.vt_shard.proofs.KeepsPlace.{Stays, stays, state_same}

-- what is known agrees with the first n blocks, for each n from the durable ones on
pub agrees_further : {D : Type 0} (score : List ℕ → List ℕ) (c : Setup) (h : History) (t : SectionState D) (known : KnownBuckets) (durable n : ℕ)
    → AllPairs (HasOtherKey score) h → durable ≤ n
    → KnownAgrees score c (take durable h) t known → KnownAgrees score c (take n h) t known
agrees_further score c h t known durable n keys le agrees =
    let front : take durable (take n h) ≡ take durable h = front_of_front h durable n le in
    let is : take durable h ++ drop durable (take n h) ≡ take n h =
    ap (λ (l : History). l ++ drop durable (take n h)) (sym front) ∙ take-append-drop durable (take n h) in
    subst (λ (g : History). KnownAgrees score c g t known) is
    (known_longer score c (take durable h) (drop durable (take n h)) t known
    (subst (λ (g : History). AllPairs (HasOtherKey score) g) (sym is) (keys_of_front score c h n keys)) agrees)

-- what is left of a section in use, of which only the mark changes, is one
pub live_from : {D : Type 0} (score : List ℕ → List ℕ) (c : Setup) (h : History) (t : SectionState D) (known : KnownBuckets)
    → t.head.state ≡ 1 → OnlyMark t.head t.next
    → (file : List ℕ) → LeavesAgreeing score c h t known file → IsLiveSection score c h t.name t.buckets t.head file
live_from score c h t known live next file left =
    let only : OnlyMark t.head left.0.0 = ⊎_elim
    (λ (is : left.0.0 ≡ t.head). subst (λ (x : Head). OnlyMark t.head x) (sym is) refl)
    (λ way. subst (λ (x : Head). OnlyMark t.head x) (sym way.2) next)
    left.0.3 in
    let state : left.0.0.state ≡ 1 = ap (λ (x : Head). x.state) only ∙ live in
    record {
      head = left.0.0;
      entries = left.0.1;
      is = left.0.2;
      live = state;
      at_place = only;
      agrees = left.1 state;
    }

module _ {D : Type 0} (score : List ℕ → List ℕ) (c : Setup) (disk : DiskOf D) (t : ShardState D) (h : History) (durable from : ℕ)
    (s : IsSoundFrom score c disk t h durable from) where
  pub file_agrees : (n : ℕ) → durable ≤ n → (file : List ℕ) → disk.images t.section.disk file → LeavesLive score c (take n h) t file
  file_agrees n le file left =
      let agrees = agrees_further score c h t.section s.known durable n s.keys le s.agrees in
      let it = leaves t.section s.known _ _ s.section file left agrees.whole agrees.same_first in
      live_from score c (take n h) t.section s.known s.live s.next file
      (it, leaves_agree score c (take n h) t.section s.known agrees file it)

  -- what is known agrees with the whole history too
  pub agrees_whole : KnownAgrees score c h t.section s.known
  agrees_whole = subst (λ (g : History). KnownAgrees score c g t.section s.known) (take_all (length h) h (omega arith))
      (agrees_further score c h t.section s.known durable (length h) s.keys s.durable_fits s.agrees)

  -- what is left within a step of a writeback
  pub step_live : (n : ℕ) (result : Result Step ShardErr) (v : SectionState D) (steps : SectionAdvances result t.section v) (knows : KnownBuckets) (file : List ℕ)
      → LeavesAgreeing score c (take n h) t.section s.known file ⊎ LeavesAgreeing score c (take n h) v knows file
      → LeavesLive score c (take n h) t file
  step_live n result v steps knows file = ⊎_elim
      (λ (left : LeavesAgreeing score c (take n h) t.section s.known file).
      live_from score c (take n h) t.section s.known s.live s.next file left)
      (λ (left : LeavesAgreeing score c (take n h) v knows file).
      let same : Stays t.section v = stays t.section v result s.next steps in
      let live = live_from score c (take n h) v knows (state_same t.section v same ∙ s.live) same.next file left in
      let head = live.head in
      record {
        head = head;
        entries = live.entries;
        is = subst (λ (name : List ℕ). IsSection name head t.section.buckets live.entries file) same.name
            (subst (λ (b : ℕ). IsSection v.name head b live.entries file) same.buckets live.is);
        live = live.live;
        at_place = live.at_place ∙ ap (λ (x : Head). record x { mark = head.mark }) same.head;
        agrees = subst (λ (b : ℕ). AgreesWith score c (take n h) b head live.entries) same.buckets live.agrees;
      })

  pub more_durable : (more : ℕ) → durable ≤ more → more ≤ length h → IsSoundFrom score c disk t h more from
  more_durable more le fits = record {
    keys = s.keys;
    durable_fits = fits;
    known = s.known;
    section = s.section;
    agrees = agrees_further score c h t.section s.known durable more s.keys le s.agrees;
    live = s.live;
    next = s.next;
    filed = (let was = s.filed in omega (arith, was, le));
    has = s.has;
    dirty = s.dirty;
    unfiled = s.unfiled;
    clean = s.clean;
    bucket = s.bucket;
    lumps = s.lumps;
  }

  -- the block of another shard isn't in a bucket of this one
  not_here : (g : History) (n i : ℕ) (st : List ℕ) → HasScoreAt score g i st → ¬ HasScore t st
      → InRange t.section.head t.section.buckets n → IsInBucket score c g n i → ⊥
  not_here g n i st has other within at =
      let same : at.block ≡ has.block = one at.block has.block (sym at.stands.block ∙ has.stands) in
      let bucket : bucket_of t.section.head.total st ≡ n =
      ap (λ (k : ℕ). bucket_of k st) s.agrees.total
      ∙ ap (bucket_of (bucket_count c)) (sym has.score_is ∙ ap (λ (b : Accepted). score b.block.bytes) (sym same))
      ∙ at.bucket_is in
      other (subst (λ (k : ℕ). InRange t.section.head t.section.buckets k) (sym bucket) within)
    where
      one : (x y : Accepted) → Some x ≡ Some y → x ≡ y
      one x y e = cc

  pub other_added : (block : Accepted) → AllPairs (HasOtherKey score) (h ++ block ∷ []) → ¬ HasScore t (score block.block.bytes)
      → IsSoundFrom score c disk t (h ++ block ∷ []) durable from
  other_added block keys other =
      let g : History = h ++ block ∷ [] in
      let front : take durable g ≡ take durable h = take-append-le durable h (block ∷ []) s.durable_fits in
      let len : length g ≡ length h + 1 = length-append h (block ∷ []) in
      record {
        keys = keys;
        durable_fits = omega (arith, s.durable_fits, len);
        known = s.known;
        section = s.section;
        agrees = subst (λ (f : History). KnownAgrees score c f t.section s.known) (sym front) s.agrees;
        live = s.live;
        next = s.next;
        filed = s.filed;
        has = λ n j entries within is le at. ⊎_elim
            (λ (lt : j < length h). has_longer score c h (block ∷ []) _ j (s.has n j entries within is le (bucket_before score c h (block ∷ []) n j lt at)))
            (λ (ge : length h ≤ j).
            let in_it = slice_get_within g j at.block at.stands.block in
            let same : length h ≡ j = omega (arith, ge, in_it, len) in
            let last : HasScoreAt score g j (score block.block.bytes) = record {
              block = block;
              stands = subst (λ (k : ℕ). slice_get g k ≡ Some block) same (at_end h block);
              score_is = refl;
            } in
            absurd (not_here g n j (score block.block.bytes) last other within at))
            (cases_lt j (length h));
        dirty = λ info it. entry_longer score c h (block ∷ []) info.number (entry_of info) (s.dirty info it);
        unfiled = s.unfiled;
        clean = s.clean;
        bucket = s.bucket;
        lumps = λ key bytes it. lump_longer score c h (block ∷ []) key bytes (s.lumps key bytes it);
      }
    where
      at_end : (h : History) (block : Accepted) → slice_get (h ++ block ∷ []) (length h) ≡ Some block
      at_end [] block = refl
      at_end (x ∷ xs) block = at_end xs block

  pub other_lacks_nothing : (i : ℕ) (st : List ℕ) → i + 1 ≡ from → HasScoreAt score h i st → ¬ HasScore t st
      → IsSoundFrom score c disk t h durable i
  other_lacks_nothing i st next has other = no_more score c disk t h durable from s i next
      (λ n entries within is at. absurd (not_here h n i st has other within at))

  pub none_lacks_more : (more : ℕ) → from ≤ more → IsSoundFrom score c disk t h durable more
  none_lacks_more more le = from_other score c disk t h durable from s more
      (λ n i entries within is low lt at. absurd (omega (arith, low, lt, le)))

  -- each block below the mark has its entry
  pub none_lacks : from ≤ t.section.head.mark → IsSoundShard score c disk t h durable
  none_lacks le = from_other score c disk t h durable from s 0 (λ n j entries within is low lt at.
      let cover = s.agrees.filed s.live in
      let fits = cover.fits in
      let it = cover.has n j entries within is (omega (arith, lt, le)) (bucket_in_front score c h durable n j (omega (arith, lt, le, fits)) at) in
      ⊎_elim
      (λ (has : Contains entries it.0). (it.0, inl has, entry_of_front score c h durable j it.0 it.2))
      (λ (no : NoOthers it.0). absurd no)
      it.1)

-- ---- which arena was the first unsealed one

module _ (score : List ℕ → List ℕ) (c : Setup) (base : ℕ) where
  abbrev its : Setup
  its = record c { base = base }

  entry_its : (h : History) (i : ℕ) (entry : Entry) → IsEntryOf score c h i entry → IsEntryOf score its h i entry
  entry_its h i entry is = record {
    block = is.block;
    spot = is.spot;
    stands = record { block = is.stands.block; place = is.stands.place };
    score_is = is.score_is;
    kind_is = is.kind_is;
    size_is = is.size_is;
    arena_is = is.arena_is;
    offset_is = is.offset_is;
  }

  bucket_back : (h : History) (n i : ℕ) → IsInBucket score its h n i → IsInBucket score c h n i
  bucket_back h n i at = record {
    block = at.block;
    spot = at.spot;
    stands = record { block = at.stands.block; place = at.stands.place };
    bucket_is = at.bucket_is;
  }

  has_its : (h : History) (entries : Entry → Type 0) (i : ℕ) → HasBlock score c h entries i → HasBlock score its h entries i
  has_its h entries i has = (has.0, has.1, entry_its h i has.0 has.2)

  covered_its : {D : Type 0} (h : History) (t : SectionState D) (known : KnownBuckets) (others : Entry → Type 0) (mark : ℕ)
      → IsMarkCovered score c h t known others mark → IsMarkCovered score its h t known others mark
  covered_its h t known others mark cover = record {
    fits = cover.fits;
    has = λ n i entries within is lt at. has_its h _ i (cover.has n i entries within is lt (bucket_back h n i at));
  }

  known_its : {D : Type 0} (h : History) (t : SectionState D) (known : KnownBuckets) → KnownAgrees score c h t known → KnownAgrees score its h t known
  known_its h t known agrees = record {
    keys = agrees.keys;
    total = agrees.total;
    same_first = agrees.same_first;
    same_total = agrees.same_total;
    whole = agrees.whole;
    blocks = λ n entries entry within is has.
        let it = agrees.blocks n entries entry within is has in ((it.0.0, entry_its h it.0.0 entry it.0.1), it.1);
    todo = λ entry way. let it = agrees.todo entry way in (it.0, entry_its h it.0 entry it.1);
    filed = λ live. covered_its h t known NoOthers t.head.mark (agrees.filed live);
    coming = λ live. covered_its h t known (IsTodo t) t.next.mark (agrees.coming live);
  }

  pub base_free : {D : Type 0} (disk : DiskOf D) (t : ShardState D) (h : History) (durable from : ℕ)
      → IsSoundFrom score c disk t h durable from → IsSoundFrom score its disk t h durable from
  base_free disk t h durable from s = record {
    keys = s.keys;
    durable_fits = s.durable_fits;
    known = s.known;
    section = s.section;
    agrees = known_its (take durable h) t.section s.known s.agrees;
    live = s.live;
    next = s.next;
    filed = s.filed;
    has = λ n j entries within is le at. has_its h _ j (s.has n j entries within is le (bucket_back h n j at));
    dirty = λ info it. entry_its h info.number (entry_of info) (s.dirty info it);
    unfiled = s.unfiled;
    clean = s.clean;
    bucket = s.bucket;
    lumps = s.lumps;
  }
