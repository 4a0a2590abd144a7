-- What agrees with a history agrees with each longer one.
use Rattle.std.proofs.Common.{ℕ, ◌<◌, List, ◌++◌, length, arith, length-append, ◌∙◌, sym}
use Rattle.std.specs.List.{AllPairs, Contains}
use Rattle.std.proofs.lemmas.Option.{slice_get_within}
use Rattle.vt_base.specs.declared.place.Entry.{Entry}
use Rattle.vt_model.specs.History.{History, Accepted}
use Rattle.vt_model.specs.Legal.{HasOtherKey}
use Rattle.vt_model.specs.Places.{Setup, Spot, StandsAt}
use Rattle.vt_model.proofs.Spots.{slice_get-append, place_of-append}
use Rattle.vt_isect.specs.declared.head.Head.{Head}
use Rattle.vt_isect.specs.Agreement.{IsEntryOf, IsEntryOfBlock, HasBlock, IsInBucket, AgreesWith, IsMarkCovered, NoOthers, KnownAgrees}
use Rattle.vt_isect.specs.Section.{SectionState, IsTodo}
use Rattle.vt_isect.specs.Sound.{KnownBuckets}

module _ (score : List ℕ → List ℕ) (c : Setup) (h more : History) where
  -- a block of the front stands where it stood
  stands_longer : (i : ℕ) (e : Accepted) (s : Spot) → StandsAt c h i e s
      → StandsAt c (h ++ more) i e s
  stands_longer i e s at =
      let lt = slice_get_within h i e at.block in
      record {
        block = slice_get-append h more i lt ∙ at.block;
        place = place_of-append c h more i lt ∙ at.place;
      }

  stands_before : (i : ℕ) (e : Accepted) (s : Spot) → i < length h → StandsAt c (h ++ more) i e s
      → StandsAt c h i e s
  stands_before i e s lt at = record {
    block = sym (slice_get-append h more i lt) ∙ at.block;
    place = sym (place_of-append c h more i lt) ∙ at.place;
  }

  entry_longer : (i : ℕ) (entry : Entry) → IsEntryOf score c h i entry
      → IsEntryOf score c (h ++ more) i entry
  entry_longer i entry is = record {
    block = is.block;
    spot = is.spot;
    stands = stands_longer i is.block is.spot is.stands;
    score_is = is.score_is;
    kind_is = is.kind_is;
    size_is = is.size_is;
    arena_is = is.arena_is;
    offset_is = is.offset_is;
  }

  pub entry_before : (i : ℕ) (entry : Entry) → i < length h → IsEntryOf score c (h ++ more) i entry
      → IsEntryOf score c h i entry
  entry_before i entry lt is = record {
    block = is.block;
    spot = is.spot;
    stands = stands_before i is.block is.spot lt is.stands;
    score_is = is.score_is;
    kind_is = is.kind_is;
    size_is = is.size_is;
    arena_is = is.arena_is;
    offset_is = is.offset_is;
  }

  pub of_block_longer : (entry : Entry) → IsEntryOfBlock score c h entry
      → IsEntryOfBlock score c (h ++ more) entry
  of_block_longer entry is = (is.0, entry_longer is.0 entry is.1)

  has_longer : (entries : Entry → Type 0) (i : ℕ) → HasBlock score c h entries i
      → HasBlock score c (h ++ more) entries i
  has_longer entries i has = (has.0, has.1, entry_longer i has.0 has.2)

  bucket_before : (n i : ℕ) → i < length h → IsInBucket score c (h ++ more) n i
      → IsInBucket score c h n i
  bucket_before n i lt in_it = record {
    block = in_it.block;
    spot = in_it.spot;
    stands = stands_before i in_it.block in_it.spot lt in_it.stands;
    bucket_is = in_it.bucket_is;
  }

  pub covered_longer : {D : Type 0} (t : SectionState D) (known : KnownBuckets) (others : Entry → Type 0)
      (mark : ℕ) → IsMarkCovered score c h t known others mark
      → IsMarkCovered score c (h ++ more) t known others mark
  covered_longer t known others mark cover = record {
    fits = omega (arith, cover.fits, length-append h more);
    has = λ n i entries within is below in_it.
        let lt : i < length h = omega (arith, below, cover.fits) in
        has_longer _ i (cover.has n i entries within is below (bucket_before n i lt in_it));
  }

  pub known_longer : {D : Type 0} (t : SectionState D) (known : KnownBuckets)
      → AllPairs (HasOtherKey score) (h ++ more) → KnownAgrees score c h t known
      → KnownAgrees score c (h ++ more) t known
  known_longer t known keys agrees = record {
    keys = keys;
    total = agrees.total;
    same_first = agrees.same_first;
    same_total = agrees.same_total;
    whole = agrees.whole;
    blocks = λ n entries entry within is has.
        let it = agrees.blocks n entries entry within is has in (of_block_longer entry it.0, it.1);
    todo = λ entry way. of_block_longer entry (agrees.todo entry way);
    filed = λ live. covered_longer t known NoOthers t.head.mark (agrees.filed live);
    coming = λ live. covered_longer t known (IsTodo t) t.next.mark (agrees.coming live);
  }

  pub agrees_longer : (buckets : ℕ) (head : Head) (entries : ℕ → List Entry)
      → AllPairs (HasOtherKey score) (h ++ more) → AgreesWith score c h buckets head entries
      → AgreesWith score c (h ++ more) buckets head entries
  agrees_longer buckets head entries keys agrees = record {
    keys = keys;
    total = agrees.total;
    blocks = λ n entry within has.
        let it = agrees.blocks n entry within has in (of_block_longer entry it.0, it.1);
    ascending = agrees.ascending;
    filed = λ n i within below in_it.
        let lt : i < length h = omega (arith, below, agrees.mark_fits) in
        has_longer (Contains (entries n)) i
        (agrees.filed n i within below (bucket_before n i lt in_it));
    mark_fits = omega (arith, agrees.mark_fits, length-append h more);
  }
