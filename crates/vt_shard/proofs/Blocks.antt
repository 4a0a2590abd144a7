-- Blocks of a history, of its front and of a longer one.
use Rattle.std.proofs.Common.{◌≡◌, ℕ, zero, suc, ◌<◌, ◌≤◌, List, [], ◌∷◌, ◌++◌, length, take, drop, Some, refl, sym, ◌∙◌, ap, subst, arith}
use Rattle.std.specs.Prelude.{slice_get}
use Rattle.std.specs.List.{AllPairs}
use Rattle.std.proofs.lemmas.List.{take-append-drop}
use Rattle.std.proofs.lemmas.Option.{slice_get_within}
use Rattle.vt_base.specs.declared.key.Key.{Key}
use Rattle.vt_base.specs.declared.place.Entry.{Entry}
use Rattle.vt_model.specs.History.{History, Accepted, HasScoreAt}
use Rattle.vt_model.specs.Legal.{HasOtherKey}
use Rattle.vt_model.specs.Places.{Setup, Spot, StandsAt, offset_behind, lengths_in, bucket_of, bucket_count}
use Rattle.vt_model.proofs.Lists.{AllPairs-front}
use Rattle.vt_model.proofs.Spots.{slice_get-append, place_of-append}
use Rattle.vt_isect.specs.Agreement.{IsEntryOf, IsEntryOfBlock, HasBlock, IsInBucket}
use Rattle.vt_isect.proofs.Crowd.{one_entry}
use Rattle.vt_shard.specs.Search.{HasKeyOf, IsLumpOf}

some_same : {X : Type 0} (a b : X) → Some a ≡ Some b → a ≡ b
some_same a b e = cc

module _ (score : List ℕ → List ℕ) (c : Setup) (h more : History) where
  stands_longer : (i : ℕ) (e : Accepted) (s : Spot) → StandsAt c h i e s → StandsAt c (h ++ more) i e s
  stands_longer i e s at =
      let lt = slice_get_within h i e at.block in
      record {
        block = slice_get-append h more i lt ∙ at.block;
        place = place_of-append c h more i lt ∙ at.place;
      }

  stands_before : (i : ℕ) (e : Accepted) (s : Spot) → i < length h → StandsAt c (h ++ more) i e s → StandsAt c h i e s
  stands_before i e s lt at = record {
    block = sym (slice_get-append h more i lt) ∙ at.block;
    place = sym (place_of-append c h more i lt) ∙ at.place;
  }

  pub entry_longer : (i : ℕ) (entry : Entry) → IsEntryOf score c h i entry → IsEntryOf score c (h ++ more) i entry
  entry_longer i entry is = record {
    block = is.block;
    spot = is.spot;
    stands = stands_longer i is.block is.spot is.stands;
    score_is = is.score_is;
    kind_is = is.kind_is;
    size_is = is.size_is;
    arena_is = is.arena_is;
    offset_is = is.offset_is;
  }

  pub entry_before : (i : ℕ) (entry : Entry) → i < length h → IsEntryOf score c (h ++ more) i entry → IsEntryOf score c h i entry
  entry_before i entry lt is = record {
    block = is.block;
    spot = is.spot;
    stands = stands_before i is.block is.spot lt is.stands;
    score_is = is.score_is;
    kind_is = is.kind_is;
    size_is = is.size_is;
    arena_is = is.arena_is;
    offset_is = is.offset_is;
  }

  pub bucket_before : (n i : ℕ) → i < length h → IsInBucket score c (h ++ more) n i → IsInBucket score c h n i
  bucket_before n i lt at = record {
    block = at.block;
    spot = at.spot;
    stands = stands_before i at.block at.spot lt at.stands;
    bucket_is = at.bucket_is;
  }

  pub bucket_longer : (n i : ℕ) → IsInBucket score c h n i → IsInBucket score c (h ++ more) n i
  bucket_longer n i at = record {
    block = at.block;
    spot = at.spot;
    stands = stands_longer i at.block at.spot at.stands;
    bucket_is = at.bucket_is;
  }

  pub has_longer : (entries : Entry → Type 0) (i : ℕ) → HasBlock score c h entries i → HasBlock score c (h ++ more) entries i
  has_longer entries i has = (has.0, has.1, entry_longer i has.0 has.2)

  pub lump_longer : (key : Key) (bytes : List ℕ) → IsLumpOf score h key bytes → IsLumpOf score (h ++ more) key bytes
  lump_longer key bytes is = (
    is.0,
    record {
      block = is.1.block;
      stands = slice_get-append h more is.0 (slice_get_within h is.0 is.1.block is.1.stands) ∙ is.1.stands;
      score_is = is.1.score_is;
      kind_is = is.1.kind_is;
    },
    is.2,
  )

-- the same of the first blocks of a history
module _ (score : List ℕ → List ℕ) (c : Setup) (h : History) (n : ℕ) where
  whole : take n h ++ drop n h ≡ h
  whole = take-append-drop n h

  pub entry_of_front : (i : ℕ) (entry : Entry) → IsEntryOf score c (take n h) i entry → IsEntryOf score c h i entry
  entry_of_front i entry is = subst (λ (g : History). IsEntryOf score c g i entry) whole (entry_longer score c (take n h) (drop n h) i entry is)

  pub of_block_of_front : (entry : Entry) → IsEntryOfBlock score c (take n h) entry → IsEntryOfBlock score c h entry
  of_block_of_front entry is = (is.0, entry_of_front is.0 entry is.1)

  pub entry_in_front : (i : ℕ) (entry : Entry) → i < length (take n h) → IsEntryOf score c h i entry → IsEntryOf score c (take n h) i entry
  entry_in_front i entry lt is = entry_before score c (take n h) (drop n h) i entry lt (subst (λ (g : History). IsEntryOf score c g i entry) (sym whole) is)

  pub bucket_in_front : (b i : ℕ) → i < length (take n h) → IsInBucket score c h b i → IsInBucket score c (take n h) b i
  bucket_in_front b i lt at = bucket_before score c (take n h) (drop n h) b i lt (subst (λ (g : History). IsInBucket score c g b i) (sym whole) at)

  pub bucket_of_front : (b i : ℕ) → IsInBucket score c (take n h) b i → IsInBucket score c h b i
  bucket_of_front b i at = subst (λ (g : History). IsInBucket score c g b i) whole (bucket_longer score c (take n h) (drop n h) b i at)

  pub keys_of_front : AllPairs (HasOtherKey score) h → AllPairs (HasOtherKey score) (take n h)
  keys_of_front keys = AllPairs-front (HasOtherKey score) (take n h) (drop n h) (subst (λ (g : History). AllPairs (HasOtherKey score) g) (sym whole) keys)

-- a front is the front of each longer one
pub front_of_front : (h : History) (m n : ℕ) → m ≤ n → take m (take n h) ≡ take m h
front_of_front h zero n le = refl
front_of_front [] (suc m) zero le = refl
front_of_front [] (suc m) (suc n) le = refl
front_of_front (x ∷ xs) (suc m) zero le = absurd (omega (arith, le))
front_of_front (x ∷ xs) (suc m) (suc n) le = ap (λ (l : History). x ∷ l) (front_of_front xs m n (omega (arith, le)))

-- where a block stands
pub spot_of : (c : Setup) (h : History) (i : ℕ) (e : Accepted) → slice_get h i ≡ Some e
    → (s : Spot) × StandsAt c h i e s
spot_of c h i e at =
    let s : Spot = record { arena = e.arena; offset = offset_behind c e.arena (lengths_in e.arena (take i h)) } in
    (s, record { block = at; place = rw at })

-- the block that has a key is in the key's bucket
pub in_bucket_of : (score : List ℕ → List ℕ) (c : Setup) (h : History) (i : ℕ) (s : List ℕ) → HasScoreAt score h i s
    → IsInBucket score c h (bucket_of (bucket_count c) s) i
in_bucket_of score c h i s has =
    let spot = spot_of c h i has.block has.stands in
    record {
      block = has.block;
      spot = spot.0;
      stands = spot.1;
      bucket_is = ap (bucket_of (bucket_count c)) has.score_is;
    }

-- the entry of a block has the block's key
pub key_of : (score : List ℕ → List ℕ) (c : Setup) (h : History) (i : ℕ) (key : Key) (entry : Entry)
    → HasKeyOf score h i key → IsEntryOf score c h i entry → entry.key ≡ key
key_of score c h i key entry has is =
    let same : is.block ≡ has.block = some_same is.block has.block (sym is.stands.block ∙ has.stands) in
    let scores : entry.key.score.0 ≡ key.score.0 = is.score_is ∙ ap (λ (b : Accepted). score b.block.bytes) same ∙ has.score_is in
    let kinds : entry.key.kind ≡ key.kind = is.kind_is ∙ ap (λ (b : Accepted). b.block.kind) same ∙ has.kind_is in
    λ k. record { score = record { 0 = scores k }; kind = kinds k }

pub score_of : (score : List ℕ → List ℕ) (c : Setup) (h : History) (i : ℕ) (s : List ℕ) (entry : Entry)
    → HasScoreAt score h i s → IsEntryOf score c h i entry → entry.key.score.0 ≡ s
score_of score c h i s entry has is =
    let same : is.block ≡ has.block = some_same is.block has.block (sym is.stands.block ∙ has.stands) in
    is.score_is ∙ ap (λ (b : Accepted). score b.block.bytes) same ∙ has.score_is

-- an entry of a key is that of the block that has it
pub its_entry : (score : List ℕ → List ℕ) (c : Setup) (h : History) → AllPairs (HasOtherKey score) h
    → (i : ℕ) (key : Key) (entry : Entry) → HasKeyOf score h i key → IsEntryOfBlock score c h entry → entry.key ≡ key
    → IsEntryOf score c h i entry
its_entry score c h keys i key entry has of is =
    let spot = spot_of c h i has.block has.stands in
    let own : Entry = record { key = key; size = length has.block.block.bytes; place = record { arena = spot.0.arena; offset = spot.0.offset } } in
    let its : IsEntryOf score c h i own = record {
      block = has.block;
      spot = spot.0;
      stands = spot.1;
      score_is = sym has.score_is;
      kind_is = sym has.kind_is;
      size_is = refl;
      arena_is = refl;
      offset_is = refl;
    } in
    let same = one_entry score c h of.0 i entry own keys of.1 its is in
    subst (λ (k : ℕ). IsEntryOf score c h k entry) same.0 of.1

-- an entry of a block is of the block's bucket
pub its_bucket : (score : List ℕ → List ℕ) (c : Setup) (h : History) (n i : ℕ) (entry : Entry) → IsEntryOf score c h i entry
    → IsInBucket score c h n i → bucket_of (bucket_count c) entry.key.score.0 ≡ n
its_bucket score c h n i entry of at =
    let same : of.block ≡ at.block = some_same of.block at.block (sym of.stands.block ∙ at.stands.block) in
    ap (bucket_of (bucket_count c)) (of.score_is ∙ ap (λ (a : Accepted). score a.block.bytes) same) ∙ at.bucket_is
