-- Blocks that are counted by their buckets, from the last to the first.
use Rattle.std.proofs.Common.{◌≡◌, ◌≢◌, ⊎_elim, ℕ, zero, suc, ◌+◌, ◌-◌, ◌^◌, ◌<◌, ◌≤◌, List, [], ◌∷◌, length, drop, true, false, sym, ◌∙◌, ap, arith, get_or, set, cond, eqb, replicate, Some, get_or-set_same, get_or-set_other}
use Rattle.std.specs.Prelude.{slice_get, slice_index, min, Bool}
use Rattle.std.proofs.lemmas.List.{drop_all, get_or-replicate}
use Rattle.std.proofs.lemmas.List.Sums.{sum_by-cons}
use Rattle.std.proofs.lemmas.Bool.Decides.{eqb_tells}
use Rattle.vt_model.specs.History.{Accepted, History}
use Rattle.vt_model.specs.Places.{bucket_of, crowd}
use Rattle.vt_model.specs.declared.TheConstants.{BUCKET_ROOM}
use Rattle.vt_rebuild.specs.Filling.{FitsBuckets}
use Rattle.vt_rebuild.specs.Rebuilt.{IsFirstFull}
use Rattle.vt_rebuild.specs.Walking.{AreCounted}

-- what stands from a place on
pub drop_at : {X : Type 0} (xs : List X) (m : ℕ) (x : X) → slice_get xs m ≡ Some x → drop m xs ≡ x ∷ drop (m + 1) xs
drop_at [] m x at = absurd (cc)
drop_at {X} (y ∷ ys) zero x at = let same : y ≡ x = cc in ap (λ (z : X). z ∷ ys) same
drop_at {X} (y ∷ ys) (suc m) x at =
    let behind : suc m + 1 ≡ suc (m + 1) = omega arith in
    drop_at ys m x at ∙ ap (λ (k : ℕ). x ∷ drop k (y ∷ ys)) (sym behind)

-- a bucket's crowd with one block more
crowd_cons : (score : List ℕ → List ℕ) (total : ℕ) (e : Accepted) (es : History) (n : ℕ)
    → crowd score total (e ∷ es) n ≡ cond (eqb (bucket_of total (score e.block.bytes)) n) 1 0 + crowd score total es n
crowd_cons score total e es n = sum_by-cons (λ (x : Accepted). cond (eqb (bucket_of total (score x.block.bytes)) n) 1 0) e es

crowd_same : (score : List ℕ → List ℕ) (total : ℕ) (e : Accepted) (es : History) (n : ℕ) → bucket_of total (score e.block.bytes) ≡ n
    → crowd score total (e ∷ es) n ≡ crowd score total es n + 1
crowd_same score total e es n is =
    let here : eqb (bucket_of total (score e.block.bytes)) n ≡ true = ⊎_elim (λ yes. yes.0) (λ no. absurd (no.1 is)) (eqb_tells (bucket_of total (score e.block.bytes)) n) in
    let one : crowd score total (e ∷ es) n ≡ 1 + crowd score total es n =
    crowd_cons score total e es n ∙ ap (λ (b : Bool). cond b 1 0 + crowd score total es n) here in
    omega (arith, one)

crowd_other : (score : List ℕ → List ℕ) (total : ℕ) (e : Accepted) (es : History) (n : ℕ) → bucket_of total (score e.block.bytes) ≢ n
    → crowd score total (e ∷ es) n ≡ crowd score total es n
crowd_other score total e es n other =
    let here : eqb (bucket_of total (score e.block.bytes)) n ≡ false = ⊎_elim (λ yes. absurd (other yes.1)) (λ no. no.0) (eqb_tells (bucket_of total (score e.block.bytes)) n) in
    let none : crowd score total (e ∷ es) n ≡ 0 + crowd score total es n =
    crowd_cons score total e es n ∙ ap (λ (b : Bool). cond b 1 0 + crowd score total es n) here in
    omega (arith, none)

-- nothing is counted of no blocks
pub none_counted : (score : List ℕ → List ℕ) (total : ℕ) (h : History) (m : ℕ) → length h ≤ m → AreCounted score total (drop m h) (replicate total 0)
none_counted score total h m past = λ n within.
    let none : crowd score total (drop m h) n ≡ 0 = ap (λ (es : History). crowd score total es n) (drop_all m h past) in
    get_or-replicate total n 0 0 within ∙ ap (λ (k : ℕ). min k (2 ^ 16 - 1)) (sym none)

pub counted_more : (score : List ℕ → List ℕ) (total : ℕ) (h : History) (m b : ℕ) (e : Accepted) (counts : List ℕ) → slice_get h m ≡ Some e
    → bucket_of total (score e.block.bytes) ≡ b → length counts ≡ total → b < total → AreCounted score total (drop (m + 1) h) counts
    → AreCounted score total (drop m h) (set counts b (min (get_or counts b 0 + 1) (2 ^ 16 - 1)))
counted_more score total h m b e counts at is many within before = λ n below.
    let all : crowd score total (drop m h) n ≡ crowd score total (e ∷ drop (m + 1) h) n = ap (λ (es : History). crowd score total es n) (drop_at h m e at) in
    ⊎_elim
    (λ yes.
    let here : n ≡ b = yes.1 in
    let one : crowd score total (e ∷ drop (m + 1) h) n ≡ crowd score total (drop (m + 1) h) n + 1 = crowd_same score total e (drop (m + 1) h) n (is ∙ sym here) in
    let was : get_or counts b 0 ≡ min (crowd score total (drop (m + 1) h) n) (2 ^ 16 - 1) = ap (λ (k : ℕ). get_or counts k 0) (sym here) ∙ before n below in
    let now : get_or (set counts b (min (get_or counts b 0 + 1) (2 ^ 16 - 1))) n 0 ≡ min (get_or counts b 0 + 1) (2 ^ 16 - 1) =
    ap (λ (k : ℕ). get_or (set counts b (min (get_or counts b 0 + 1) (2 ^ 16 - 1))) k 0) here
    ∙ get_or-set_same counts b (min (get_or counts b 0 + 1) (2 ^ 16 - 1)) 0 (omega (arith, many, within)) in
    omega (arith, now, was, one, all))
    (λ no.
    let other : bucket_of total (score e.block.bytes) ≢ n = λ same. no.1 (sym same ∙ is) in
    let same : crowd score total (e ∷ drop (m + 1) h) n ≡ crowd score total (drop (m + 1) h) n = crowd_other score total e (drop (m + 1) h) n other in
    let was : get_or counts n 0 ≡ min (crowd score total (drop (m + 1) h) n) (2 ^ 16 - 1) = before n below in
    let now : get_or (set counts b (min (get_or counts b 0 + 1) (2 ^ 16 - 1))) n 0 ≡ get_or counts n 0 =
    get_or-set_other counts b n (min (get_or counts b 0 + 1) (2 ^ 16 - 1)) 0 no.1 in
    omega (arith, now, was, same, all))
    (eqb_tells n b)

-- ---- what the counts tell

-- the first count above what a bucket has room for is that of the first bucket with too many blocks
pub first_full_is : (score : List ℕ → List ℕ) (total : ℕ) (h : History) (counts : List ℕ) (n : ℕ) → AreCounted score total h counts → length counts ≡ total
    → n < length counts → BUCKET_ROOM < slice_index counts n → ((m : ℕ) → m < n → slice_index counts m ≤ BUCKET_ROOM) → IsFirstFull score total h n
first_full_is score total h counts n counted many within above before = record {
  within = omega (arith, within, many);
  full = omega (arith, above, counted n (omega (arith, within, many)));
  before = λ m below. omega (arith, before m below, counted m (omega (arith, below, within, many)));
}

-- where no count is, none has
pub all_fit : (score : List ℕ → List ℕ) (total : ℕ) (h : History) (counts : List ℕ) → AreCounted score total h counts → length counts ≡ total
    → ((n : ℕ) → n < length counts → slice_index counts n ≤ BUCKET_ROOM) → FitsBuckets score total h
all_fit score total h counts counted many few = λ n below. omega (arith, few n (omega (arith, below, many)), counted n below)
