-- A bucket that is made of the entries of its blocks.
use Rattle.std.proofs.Common.{◌≡◌, ◌≢◌, ⊎_elim, inr, ℕ, ◌+◌, ◌<◌, ◌≤◌, List, [], ◌∷◌, length, take, sym, ◌∙◌, ap, subst, arith, get_or, get_or-take, length-take}
use Rattle.std.specs.Prelude.{IfOk, OnErr, MatchResult, Result, Ok, Err}
use Rattle.vt_bucket.specs.declared.Bucket.{Bucket}
use Rattle.vt_bucket.specs.declared.holding.Full.{Full}
use Rattle.vt_bucket.specs.Buckets.{bucket_entries}
use Rattle.std.specs.List.{All, AllPairs, Contains}
use Rattle.std.proofs.lemmas.List.Elements.{Contains-append_cases}
use Rattle.std.proofs.lemmas.List.Kept.{AllPairs-cons}
use Rattle.std.proofs.lemmas.Option.{same_Some}
use Rattle.vt_base.specs.Key.{key_cmp}
use Rattle.vt_base.specs.declared.key.Key.{Key}
use Rattle.vt_base.specs.declared.place.Entry.{Entry}
use Rattle.vt_bucket.specs.Order.{IsAscending}
use Rattle.vt_bucket.proofs.Keys.{not_below_itself}
use Rattle.vt_isect.specs.Agreement.{IsEntryOf, IsEntryOfBlock}
use Rattle.vt_isect.specs.Merging.{Merges}
use Rattle.vt_model.specs.declared.TheConstants.{BUCKET_ROOM}
use Rattle.vt_model.specs.History.{Accepted, History}
use Rattle.vt_model.specs.Legal.{HasOtherKey}
use Rattle.vt_model.specs.Places.{Setup, bucket_count, bucket_of, crowd}
use Rattle.vt_rebuild.specs.Gathering.{CanIndex, HasGathered, HasItsBlocks}

none_in : {X : Type 0} (x : X) → Contains [] x → ⊥
none_in x has = omega (arith, has.1)

one_in : {X : Type 0} (y x : X) → Contains (y ∷ []) x → x ≡ y
one_in y x (k, within, is) = let first : k ≡ 0 = omega (arith, within) in sym is ∙ ap (λ (i : ℕ). get_or (y ∷ []) i x) first

-- what is among the first ones is among all
pub of_first : {X : Type 0} (i : ℕ) (xs : List X) (x : X) → Contains (take i xs) x → Contains xs x
of_first i xs x (k, within, is) =
    (k, omega (arith, within, length-take i xs), sym (get_or-take i xs k x (omega (arith, within, length-take i xs))) ∙ is)

-- the bucket's entries are those of the run
pub of_run : (run : List Entry) (new : List Entry) (entry : Entry) → Merges [] (Contains run) new → Contains new entry → Contains run entry
of_run run new entry it has = ⊎_elim (λ of. of) (λ old. absurd (none_in entry old.0)) (it.from entry has)

-- keys that ascend are different
pub are_distinct : (entries : List Entry) → IsAscending entries → AllPairs (λ a b. a.key ≢ b.key) entries
are_distinct entries up = λ i j d low high same.
    not_below_itself (get_or entries j d).key (ap (λ (k : Key). key_cmp k (get_or entries j d).key) (sym same) ∙ up i j d low high)

-- one more than a bucket has room for
pub has_more : (run mid : List Entry) (y : Entry) (i : ℕ) → Contains run y → Merges [] (Contains (take i run)) mid → IsAscending mid → length mid ≡ BUCKET_ROOM
    → All (λ other. other.key ≢ y.key) mid
    → (more : List Entry) × (length more ≡ BUCKET_ROOM + 1) × AllPairs (λ a b. a.key ≢ b.key) more × ((entry : Entry) → Contains more entry → Contains run entry)
has_more run mid y i here merged up full others = (
  y ∷ mid,
  omega (arith, full),
  AllPairs-cons (λ a b. a.key ≢ b.key) y mid (λ k d within same. others k d within (sym same)) (are_distinct mid up),
  λ entry has. ⊎_elim
      (λ (is : Contains (y ∷ []) entry). subst (λ (e : Entry). Contains run e) (sym (one_in y entry is)) here)
      (λ (was : Contains mid entry). of_first i run entry (of_run (take i run) mid entry merged was))
      (Contains-append_cases (y ∷ []) mid entry has),
)

-- ---- what it has of a history

module _ (score : List ℕ → List ℕ) (c : Setup) (h : History) (total first end number : ℕ) (entries run : List Entry)
    (can : CanIndex score c h total) (gathered : HasGathered score c h first end 0 entries)
    (own : (entry : Entry) → Contains run entry → Contains entries entry × (bucket_of total entry.key.score.0 ≡ number))
    (all : (entry : Entry) → Contains entries entry → bucket_of total entry.key.score.0 ≡ number → Contains run entry) where
  own_bucket : (entry : Entry) → Contains run entry → IsEntryOfBlock score c h entry × (bucket_of (bucket_count c) entry.key.score.0 ≡ number)
  own_bucket entry has =
      let it = own entry has in
      (gathered.own entry it.0, ap (λ (n : ℕ). bucket_of n entry.key.score.0) can.buckets ∙ it.1)

  pub has_blocks : ((i j : ℕ) (a b : Entry) → AllPairs (HasOtherKey score) h → IsEntryOf score c h i a → IsEntryOf score c h j b → a.key ≡ b.key → (i ≡ j) × (a ≡ b))
      → (new : List Entry) → Merges [] (Contains run) new → first ≤ number → number < end → HasItsBlocks score c h number new
  has_blocks one new merged least below = record {
    own = λ entry has. own_bucket entry (of_run run new entry merged has);
    all = λ i belongs.
        let it = gathered.all number i (omega arith) least below belongs in
        let same : it.2.block ≡ belongs.block = same_Some it.2.block belongs.block (sym it.2.stands.block ∙ belongs.stands.block) in
        let bucket : bucket_of total it.0.key.score.0 ≡ number =
        ap (λ (n : ℕ). bucket_of n it.0.key.score.0) (sym can.buckets) ∙ ap (bucket_of (bucket_count c)) (it.2.score_is ∙ ap (λ (e : Accepted). score e.block.bytes) same) ∙ belongs.bucket_is in
        let kept = merged.keeps it.0 (inr (all it.0 it.1 bucket)) in
        let of = (own_bucket kept.0 (of_run run new kept.0 merged kept.1)).0 in
        let is : it.0 ≡ kept.0 = (one i of.0 it.0 kept.0 can.keys it.2 of.1 (sym kept.2)).1 in
        (it.0, subst (λ (e : Entry). Contains new e) (sym is) kept.1, it.2);
  }

  pub too_many : ((es : List Entry) → AllPairs (λ a b. a.key ≢ b.key) es
      → ((entry : Entry) → Contains es entry → IsEntryOfBlock score c h entry × (bucket_of (bucket_count c) entry.key.score.0 ≡ number))
      → length es ≤ crowd score (bucket_count c) h number)
      → (more : List Entry) × (length more ≡ BUCKET_ROOM + 1) × AllPairs (λ a b. a.key ≢ b.key) more × ((entry : Entry) → Contains more entry → Contains run entry)
      → BUCKET_ROOM < crowd score total h number
  too_many most more =
      let few = most more.0 more.2 (λ entry has. own_bucket entry (more.3 entry has)) in
      let same : crowd score (bucket_count c) h number ≡ crowd score total h number = ap (λ (n : ℕ). crowd score n h number) can.buckets in
      omega (arith, few, same, more.1)

  -- both answers
  pub bucket_answers : ((i j : ℕ) (a b : Entry) → AllPairs (HasOtherKey score) h → IsEntryOf score c h i a → IsEntryOf score c h j b → a.key ≡ b.key → (i ≡ j) × (a ≡ b))
      → ((es : List Entry) → AllPairs (λ a b. a.key ≢ b.key) es
      → ((entry : Entry) → Contains es entry → IsEntryOfBlock score c h entry × (bucket_of (bucket_count c) entry.key.score.0 ≡ number))
      → length es ≤ crowd score (bucket_count c) h number)
      → first ≤ number → number < end → (r : Result Bucket Full) → IfOk r (λ bucket. Merges [] (Contains run) (bucket_entries bucket))
      → OnErr r ((more : List Entry) × (length more ≡ BUCKET_ROOM + 1) × AllPairs (λ a b. a.key ≢ b.key) more × ((entry : Entry) → Contains more entry → Contains run entry))
      → MatchResult r (λ bucket. HasItsBlocks score c h number (bucket_entries bucket)) (λ _. BUCKET_ROOM < crowd score total h number)
  bucket_answers one most least below (Ok bucket) merged full = has_blocks one (bucket_entries bucket) merged least below
  bucket_answers one most least below (Err refused) merged full = too_many most full
