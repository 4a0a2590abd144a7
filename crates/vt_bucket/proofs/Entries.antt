-- Lists of entries in order, with one more or with one replaced.
use Rattle.std.proofs.Common.{◌≡◌, ◌≢◌, ◌⊎◌, inl, inr, ⊎_elim, ℕ, ◌+◌, ◌-◌, ◌<◌, ◌≤◌, List, [], ◌∷◌, ◌++◌, length, get_or, take, drop, set, refl, sym, ap, ◌∙◌, subst, arith, length-set, length-take, length-drop, length-append}
use Rattle.std.specs.Prelude.{insert}
use Rattle.std.specs.List.{Contains}
use Rattle.std.proofs.Math.Seq.{take-set-lt}
use borrow.Rule.Slice.PartMut.{put_mid}
use Rattle.std.specs.declared.cmp.Ordering.TheVariants.{Less}
use Rattle.std.proofs.lemmas.Bool.{cases_lt, cases_eq, cases_order}
use Rattle.std.proofs.lemmas.List.{get_or-set_same, get_or-set_other, take_at, drop_at, take-set-le, take-take, drop-append-le}
use Rattle.std.proofs.lemmas.Grind.{take-set_at}
use Rattle.std.proofs.lemmas.Slice.{between_is, take-put_mid}
use Rattle.std.proofs.lemmas.List.Edits.{length-insert, get_or-insert_below, get_or-insert_at, get_or-insert_above}
use Rattle.vt_base.specs.declared.place.Entry.{Entry}
use Rattle.vt_base.specs.declared.key.Key.{Key}
use Rattle.vt_bucket.specs.Buckets.{PutsEntry}
use Rattle.vt_bucket.specs.Order.{IsBelow, IsAscending}
use Rattle.vt_base.specs.Key.{key_cmp}
use Rattle.vt_bucket.proofs.Keys.{absent_at, not_below_itself}

below_by_keys : (a b x y : Entry) → a.key ≡ x.key → b.key ≡ y.key → IsBelow x y → IsBelow a b
below_by_keys a b x y p q h = (λ i. key_cmp (p i) (q i)) ∙ h

-- entries in order have other keys
pub other_keys : (xs : List Entry) → IsAscending xs → (i j : ℕ) (d : Entry) → i < length xs → j < length xs → (get_or xs i d).key ≡ (get_or xs j d).key → i ≡ j
other_keys xs up i j d i_in j_in same = ⊎_elim
    (λ (e : i ≡ j). e)
    (λ rest. ⊎_elim
    (λ (low : i < j). absurd (not_below_itself (get_or xs j d).key (sym (ap (λ (k : Key). key_cmp k (get_or xs j d).key) same) ∙ up i j d low j_in)))
    (λ (high : j < i). absurd (not_below_itself (get_or xs j d).key (sym (ap (λ (k : Key). key_cmp (get_or xs j d).key k) same) ∙ up j i d high i_in)))
    rest)
    (cases_order i j)

module _ (xs : List Entry) (up : IsAscending xs) (at : ℕ) (y : Entry) where
  module _ (within : at < length xs) (found : (d : Entry) → (get_or xs at d).key ≡ y.key) where
    key_set : (k : ℕ) (d : Entry) → k < length xs → (get_or (set xs at y) k d).key ≡ (get_or xs k d).key
    key_set k d in_list = ⊎_elim
        (λ (here : k ≡ at).
        ap (λ (j : ℕ). (get_or (set xs at y) j d).key) here ∙ ap (λ (e : Entry). e.key) (get_or-set_same xs at y d within)
        ∙ sym (found d) ∙ ap (λ (j : ℕ). (get_or xs j d).key) (sym here))
        (λ (there : k ≡ at → ⊥). ap (λ (e : Entry). e.key) (get_or-set_other xs at k y d there))
        (cases_eq k at)

    pub ascending_set : IsAscending (set xs at y)
    ascending_set i j d low high =
        let j_in : j < length xs = omega (arith, high, length-set xs at y) in
        below_by_keys (get_or (set xs at y) i d) (get_or (set xs at y) j d) (get_or xs i d) (get_or xs j d)
        (key_set i d (omega arith)) (key_set j d j_in) (up i j d low j_in)

    pub put_set : PutsEntry xs y (set xs at y)
    put_set other = (into, from)
      where
        into : Contains (set xs at y) other → (other ≡ y) ⊎ (Contains xs other × (other.key ≢ y.key))
        into has =
            let k = has.0 in
            let k_in : k < length xs = omega (arith, has.1, length-set xs at y) in
            ⊎_elim
            (λ (here : k ≡ at). inl (sym has.2 ∙ ap (λ (j : ℕ). get_or (set xs at y) j other) here ∙ get_or-set_same xs at y other within))
            (λ (there : k ≡ at → ⊥).
            let is : get_or xs k other ≡ other = sym (get_or-set_other xs at k y other there) ∙ has.2 in
            inr ((k, k_in, is), λ same. there (other_keys xs up k at other k_in within (ap (λ (e : Entry). e.key) is ∙ same ∙ sym (found other)))))
            (cases_eq k at)

        from : (other ≡ y) ⊎ (Contains xs other × (other.key ≢ y.key)) → Contains (set xs at y) other
        from either = ⊎_elim
            (λ (same : other ≡ y). (at, omega (arith, within, length-set xs at y), get_or-set_same xs at y other within ∙ sym same))
            (λ (has : Contains xs other × (other.key ≢ y.key)).
            let there : has.0.0 ≡ at → ⊥ = λ here. has.1 (ap (λ (e : Entry). e.key) (sym has.0.2) ∙ ap (λ (j : ℕ). (get_or xs j other).key) here ∙ found other) in
            (has.0.0, omega (arith, has.0.1, length-set xs at y), get_or-set_other xs at has.0.0 y other there ∙ has.0.2))
            either

  module _ (within : at ≤ length xs) (below : (k : ℕ) (d : Entry) → k < at → key_cmp (get_or xs k d).key y.key ≡ Less)
      (above : (k : ℕ) (d : Entry) → at ≤ k → k < length xs → key_cmp y.key (get_or xs k d).key ≡ Less) where
    -- what stands at a place then
    abbrev Stands : ℕ → Entry → Type 0
    Stands k d = ((k < at) × (get_or (insert xs at y) k d ≡ get_or xs k d))
        ⊎ (((k ≡ at) × (get_or (insert xs at y) k d ≡ y))
        ⊎ ((at < k) × (get_or (insert xs at y) k d ≡ get_or xs (k - 1) d)))

    stands : (k : ℕ) (d : Entry) → Stands k d
    stands k d = ⊎_elim
        (λ (here : k ≡ at). inr (inl (here, ap (λ (j : ℕ). get_or (insert xs at y) j d) here ∙ get_or-insert_at xs at y d within)))
        (λ rest. ⊎_elim
        (λ (low : k < at). inl (low, get_or-insert_below xs at y d k low within))
        (λ (high : at < k).
        let back : k ≡ k - 1 + 1 = omega arith in
        inr (inr (high, ap (λ (j : ℕ). get_or (insert xs at y) j d) back ∙ get_or-insert_above xs at y d (k - 1) (omega arith) within)))
        rest)
        (cases_order k at)

    by_places : (a b x z : Entry) → a ≡ x → b ≡ z → IsBelow x z → IsBelow a b
    by_places a b x z p q h = (λ i. key_cmp (p i).key (q i).key) ∙ h

    pub ascending_insert : IsAscending (insert xs at y)
    ascending_insert i j d low high =
        let a = get_or (insert xs at y) i d in
        let b = get_or (insert xs at y) j d in
        let j_in : j < length xs + 1 = omega (arith, high, length-insert xs at y within) in
        ⊎_elim
        (λ one. ⊎_elim
        (λ two. by_places a b (get_or xs i d) (get_or xs j d) one.1 two.1 (up i j d low (omega (arith, two.0))))
        (λ rest. ⊎_elim
        (λ two. by_places a b (get_or xs i d) y one.1 two.1 (below i d one.0))
        (λ two. by_places a b (get_or xs i d) (get_or xs (j - 1) d) one.1 two.1 (up i (j - 1) d (omega (arith, one.0, two.0)) (omega (arith, two.0))))
        rest) (stands j d))
        (λ others. ⊎_elim
        (λ one. ⊎_elim
        (λ two. absurd (omega (arith, one.0, two.0)))
        (λ rest. ⊎_elim
        (λ two. absurd (omega (arith, one.0, two.0)))
        (λ two. by_places a b y (get_or xs (j - 1) d) one.1 two.1 (above (j - 1) d (omega (arith, two.0)) (omega (arith, two.0))))
        rest) (stands j d))
        (λ one. ⊎_elim
        (λ two. absurd (omega (arith, one.0, two.0)))
        (λ rest. ⊎_elim
        (λ two. absurd (omega (arith, one.0, two.0)))
        (λ two. by_places a b (get_or xs (i - 1) d) (get_or xs (j - 1) d) one.1 two.1 (up (i - 1) (j - 1) d (omega (arith, one.0)) (omega (arith, two.0))))
        rest) (stands j d))
        others)
        (stands i d)

    absent : (k : ℕ) (d : Entry) → k < length xs → (get_or xs k d).key ≡ y.key → ⊥
    absent = absent_at xs y.key at below above

    pub put_insert : PutsEntry xs y (insert xs at y)
    put_insert other = (into, from)
      where
        long : length (insert xs at y) ≡ length xs + 1
        long = length-insert xs at y within

        old : (k : ℕ) → k < length xs → get_or xs k other ≡ other → (other ≡ y) ⊎ (Contains xs other × (other.key ≢ y.key))
        old k k_in is = inr ((k, k_in, is), λ same. absent k other k_in (ap (λ (e : Entry). e.key) is ∙ same))

        into : Contains (insert xs at y) other → (other ≡ y) ⊎ (Contains xs other × (other.key ≢ y.key))
        into has =
            let k = has.0 in
            ⊎_elim
            (λ one. old k (omega (arith, one.0)) (sym one.1 ∙ has.2))
            (λ rest. ⊎_elim
            (λ one. inl (sym has.2 ∙ one.1))
            (λ one. old (k - 1) (omega (arith, one.0, has.1, long)) (sym one.1 ∙ has.2))
            rest)
            (stands k other)

        from : (other ≡ y) ⊎ (Contains xs other × (other.key ≢ y.key)) → Contains (insert xs at y) other
        from either = ⊎_elim
            (λ (same : other ≡ y). (at, omega (arith, long), get_or-insert_at xs at y other within ∙ sym same))
            (λ (has : Contains xs other × (other.key ≢ y.key)). ⊎_elim
            (λ (low : has.0.0 < at). (has.0.0, omega (arith, has.0.1, long), get_or-insert_below xs at y other has.0.0 low within ∙ has.0.2))
            (λ (high : at ≤ has.0.0). (has.0.0 + 1, omega (arith, has.0.1, long), get_or-insert_above xs at y other has.0.0 high within ∙ has.0.2))
            (cases_lt has.0.0 at))
            either

-- an entry put in the place of one with its key, in a table whose first `len` are entries
pub table_set : (table seen : List Entry) (len at : ℕ) (y : Entry) → seen ≡ take len table → IsAscending (take len table) → at < length seen
    → ((d : Entry) → (get_or seen at d).key ≡ y.key) → IsAscending (take len (set table at y)) × PutsEntry (take len table) y (take len (set table at y))
table_set table seen len at y is up within found =
    let xs = take len table in
    let at_len : at < len = omega (arith, ap length is, length-take len table, within) in
    let in_list : at < length xs = omega (arith, within, ap length is) in
    let same : (d : Entry) → (get_or xs at d).key ≡ y.key = λ d. ap (λ (l : List Entry). (get_or l at d).key) (sym is) ∙ found d in
    let new : take len (set table at y) ≡ set xs at y = take-set-lt len table at y at_len in
    (subst IsAscending (sym new) (ascending_set xs up at y in_list same), subst (PutsEntry xs y) (sym new) (put_set xs up at y in_list same))

-- a new entry put in
pub put_new : (xs seen new : List Entry) → IsAscending xs → (at : ℕ) (y : Entry) → seen ≡ xs → new ≡ insert xs at y → at ≤ length seen
    → ((k : ℕ) (d : Entry) → k < at → key_cmp (get_or seen k d).key y.key ≡ Less)
    → ((k : ℕ) (d : Entry) → at ≤ k → k < length seen → key_cmp y.key (get_or seen k d).key ≡ Less)
    → IsAscending new × PutsEntry xs y new
put_new xs seen new up at y seen_is is within below above =
    let in_list : at ≤ length xs = omega (arith, within, ap length seen_is) in
    let low : (k : ℕ) (d : Entry) → k < at → key_cmp (get_or xs k d).key y.key ≡ Less =
    λ k d before. ap (λ (l : List Entry). key_cmp (get_or l k d).key y.key) (sym seen_is) ∙ below k d before in
    let high : (k : ℕ) (d : Entry) → at ≤ k → k < length xs → key_cmp y.key (get_or xs k d).key ≡ Less =
    λ k d after k_in. ap (λ (l : List Entry). key_cmp y.key (get_or l k d).key) (sym seen_is) ∙ above k d after (omega (arith, ap length seen_is)) in
    (subst IsAscending (sym is) (ascending_insert xs up at y in_list low high), subst (PutsEntry xs y) (sym is) (put_insert xs up at y in_list low high))

-- no entry has a key that isn't found
pub none_has : (xs seen : List Entry) (at : ℕ) (x : Key) → seen ≡ xs
    → ((k : ℕ) (d : Entry) → k < at → key_cmp (get_or seen k d).key x ≡ Less)
    → ((k : ℕ) (d : Entry) → at ≤ k → k < length seen → key_cmp x (get_or seen k d).key ≡ Less)
    → (k : ℕ) (d : Entry) → k < length xs → (get_or xs k d).key ≡ x → ⊥
none_has xs seen at x is below above k d within same =
    absent_at seen x at below above k d (omega (arith, within, ap length is)) (ap (λ (l : List Entry). (get_or l k d).key) is ∙ same)

-- a write behind the first `len`, and a turn by one of the part from a place to there
pub turned_in : (xs part ys : List Entry) (len at : ℕ) (y : Entry) → at ≤ len → len < length xs → part ≡ take (len + 1 - at) (drop at (set xs len y))
    → ys ≡ drop (length part - 1) part ++ take (length part - 1) part
    → take (len + 1) (put_mid at (len + 1 - at) (set xs len y) ys) ≡ insert (take len xs) at y
turned_in xs part ys len at y place room is turned_is =
    let behind : List Entry = drop at (take len xs) in
    let len_xs : length (take len xs) ≡ len = omega (arith, length-take len xs) in
    let len_behind : length behind ≡ len - at = omega (arith, length-drop at (take len xs), len_xs) in
    let part_is : part ≡ behind ++ y ∷ [] =
    is ∙ between_is (set xs len y) at (len + 1)
    ∙ ap (λ (l : List Entry). drop at l) (take-set_at xs len (len + 1) y refl room) ∙ drop-append-le at (take len xs) (y ∷ []) (omega (arith, len_xs)) in
    let count : length part - 1 ≡ length behind = omega (arith, ap length part_is, length-append behind (y ∷ [])) in
    let ys_is : ys ≡ y ∷ behind =
    turned_is ∙ (λ i. drop (count i) (part_is i) ++ take (count i) (part_is i))
    ∙ (λ i. drop_at behind (y ∷ []) (length behind) refl i ++ take_at behind (y ∷ []) (length behind) refl i) in
    let long : len + 1 ≡ at + length ys = omega (arith, ap length ys_is, len_behind) in
    take-put_mid at (len + 1 - at) (set xs len y) ys (len + 1) long (omega (arith, length-set xs len y))
    ∙ (λ i. take-set-le at xs len y place i ++ ys_is i)
    ∙ ap (λ (l : List Entry). l ++ y ∷ behind) (sym (take-take at len xs place))
