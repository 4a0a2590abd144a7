-- Listings of items: their order, and the tests of them.
use Rattle.std.proofs.Common.{◌≡◌, ℕ, ◌+◌, ◌||◌, Bool, true, false, cond, Option, Some, None, List, [], ◌∷◌, ◌++◌, length, filter, refl, sym, ◌∙◌, ap, arith, inl, inr, nat_cmp, is_lt, length-append}
use Rattle.std.specs.Prelude.{⊤, nat_lt, sum_by}
use Rattle.std.specs.Cmp.{IsStrictWeakOrder}
use Rattle.std.specs.Cmp.Lexicographic.{slice_cmp}
use Rattle.std.specs.List.Sorted.{ties, IsSortedBy, IsStableBy}
use Rattle.std.proofs.lemmas.Bool.{cases_Bool}
use Rattle.std.proofs.lemmas.Cmp.{nat_list_cmp_total}
use Rattle.std.proofs.lemmas.List.Sorted.{ranks_by}
use Rattle.std.proofs.lemmas.List.Sums.{sum_by-cons}
use Rattle.vt_out.specs.declared.folder_item.Facts.{Facts}
use Rattle.vt_out.specs.declared.folder_item.Item.{Item}
use Rattle.vt_out.specs.declared.folder_item.ItemKind.TheVariants as kinds
use Rattle.vt_out.specs.FolderItems.{Items, none, file, folder, other, listed_item, listing_of}
use Rattle.vac_meta.specs.declared.TheConstants.{MAX_NAME}
use Rattle.vac_meta.specs.declared.record.Record.{Record}
use Rattle.vac_meta.specs.declared.record.RecordKind.TheVariants.{File, Folder}
use Rattle.vac_meta.specs.Records.{all_spelled, record_bytes, string, number_fields}
use Rattle.vac_model.specs.Archives.{item_record, records_of}
use Rattle.vac_model.specs.Kept.{placed, in_order, kept, cut_mode, numbered, count}
use Rattle.vac_model.specs.Limits.{is_bad_behind, first_bad_item, unfit_name, unfit_listing}
use Rattle.vac_model.proofs.InOrder.{NotBefore, AreOrdered, are_ordered}
use Rattle.vac_write.specs.Listing.{has_bad_owner, record_len, metadata_len}
use Rattle.vac_write.proofs.Sorting.{filter-kept, filter-dropped, NoneBelow, Rises, rises_sorted, no_third, same_sorted}

-- ---- their order

abbrev pub below : Item → Item → Bool
below x y = is_lt (slice_cmp nat_cmp x.name y.name)

pub below_orders : IsStrictWeakOrder below
below_orders = ranks_by nat_list_cmp_total (λ (x : Item). x.name)

past : (x item front : Item) (placed others : List Item) → below front item ≡ true
    → filter (ties below x) placed ≡ filter (ties below x) (item ∷ others)
    → filter (ties below x) (front ∷ placed) ≡ filter (ties below x) (item ∷ (front ∷ others))
past x item front placed others less same =
    let p : Item → Bool = ties below x in
    elim (cases_Bool (p front)) [
      | inr without ↦
          filter-dropped p front placed without ∙ same
          ∙ ap (λ (l : List Item). cond (p item) (item ∷ l) l)
          (sym (filter-dropped p front others without))
      | inl with ↦ elim (cases_Bool (p item)) [
        | inl both ↦ absurd (no_third below below_orders x front item less with both)
        | inr only ↦
            filter-kept p front placed with
            ∙ ap (λ (l : List Item). front ∷ l) (same ∙ filter-dropped p item others only)
            ∙ sym (filter-dropped p item (front ∷ others) only
            ∙ filter-kept p front others with)
      ]
    ]

-- an item goes behind those that are below it, and ties with none of them
placed_ties : (x item : Item) (put : Items Facts → Items Facts) (items : Items Facts)
    → ((rest : Items Facts) → listing_of (put rest) ≡ item ∷ listing_of rest)
    → filter (ties below x) (listing_of (placed item.name put items))
    ≡ filter (ties below x) (item ∷ listing_of items)
placed_ties x item put none puts = ap (filter (ties below x)) (puts none)
placed_ties x item put (file about bytes others) puts =
    elim (cases_Bool (is_lt (slice_cmp nat_cmp about.name item.name))) [
      | inl less ↦
          rw less (past x item (listed_item about kinds.File)
          (listing_of (placed item.name put others)) (listing_of others) less
          (placed_ties x item put others puts))
      | inr not ↦ rw not (ap (filter (ties below x)) (puts (file about bytes others)))
    ]
placed_ties x item put (folder about inside others) puts =
    elim (cases_Bool (is_lt (slice_cmp nat_cmp about.name item.name))) [
      | inl less ↦
          rw less (past x item (listed_item about kinds.Folder)
          (listing_of (placed item.name put others)) (listing_of others) less
          (placed_ties x item put others puts))
      | inr not ↦ rw not (ap (filter (ties below x)) (puts (folder about inside others)))
    ]
placed_ties x item put (other about others) puts =
    elim (cases_Bool (is_lt (slice_cmp nat_cmp about.name item.name))) [
      | inl less ↦
          rw less (past x item (listed_item about kinds.Other)
          (listing_of (placed item.name put others)) (listing_of others) less
          (placed_ties x item put others puts))
      | inr not ↦ rw not (ap (filter (ties below x)) (puts (other about others)))
    ]

more : (p : Item → Bool) (item : Item) (a b : List Item) → filter p a ≡ filter p b
    → filter p (item ∷ a) ≡ filter p (item ∷ b)
more p item a b same = ap (λ (l : List Item). cond (p item) (item ∷ l) l) same

pub ordered_ties : (x : Item) (seen : Items Facts)
    → filter (ties below x) (listing_of (in_order seen)) ≡ filter (ties below x) (listing_of seen)
ordered_ties x none = refl
ordered_ties x (file about bytes others) =
    placed_ties x (listed_item about kinds.File) (file about bytes) (in_order others) (λ rest. refl)
    ∙ more (ties below x) (listed_item about kinds.File) (listing_of (in_order others))
    (listing_of others) (ordered_ties x others)
ordered_ties x (folder about inside others) =
    placed_ties x (listed_item about kinds.Folder) (folder about (in_order inside)) (in_order others)
    (λ rest. refl)
    ∙ more (ties below x) (listed_item about kinds.Folder) (listing_of (in_order others))
    (listing_of others) (ordered_ties x others)
ordered_ties x (other about others) =
    placed_ties x (listed_item about kinds.Other) (other about) (in_order others) (λ rest. refl)
    ∙ more (ties below x) (listed_item about kinds.Other) (listing_of (in_order others))
    (listing_of others) (ordered_ties x others)

-- no name is below this one, if there is one
abbrev NoneBehind : (last : Option (List ℕ)) → List Item → Type 0
NoneBehind None items = ⊤
NoneBehind (Some last) [] = ⊤
NoneBehind (Some last) (item ∷ items) =
    (is_lt (slice_cmp nat_cmp item.name last) ≡ false) × NoneBehind (Some last) items

none_behind : (last : Option (List ℕ)) → NoneBehind last []
none_behind None = tt
none_behind (Some last) = tt

pub names_order : IsStrictWeakOrder (λ (a b : List ℕ). is_lt (slice_cmp nat_cmp a b))
names_order = ranks_by nat_list_cmp_total (λ (a : List ℕ). a)

-- none is below a name that isn't above that one
none_below_lower : (a b : List ℕ) (items : List Item) → is_lt (slice_cmp nat_cmp b a) ≡ false
    → NoneBehind (Some b) items → NoneBehind (Some a) items
none_below_lower a b [] low behind = tt
none_below_lower a b (item ∷ items) low behind =
    (names_order.chain item.name b a behind.0 low, none_below_lower a b items low behind.1)

as_items : (first : Item) (items : List Item) → NoneBehind (Some first.name) items
    → NoneBelow below below_orders first items
as_items first [] behind = tt
as_items first (item ∷ items) behind = (behind.0, as_items first items behind.1)

further : (last : Option (List ℕ)) (item : Item) (others : List Item)
    → NotBefore last item.name
    → Rises below below_orders others × NoneBehind (Some item.name) others
    → Rises below below_orders (item ∷ others) × NoneBehind last (item ∷ others)
further None item others first rest = ((as_items item others rest.1, rest.0), tt)
further (Some last) item others first rest = (
  (as_items item others rest.1, rest.0),
  (first, none_below_lower last item.name others first rest.1),
)

-- no item is below one before it
rises_behind : (last : Option (List ℕ)) (seen : Items Facts) → AreOrdered last seen
    → Rises below below_orders (listing_of seen) × NoneBehind last (listing_of seen)
rises_behind last none ordered = (tt, none_behind last)
rises_behind last (file about bytes others) ordered =
    further last (listed_item about kinds.File) (listing_of others) ordered.0
    (rises_behind (Some about.name) others ordered.1)
rises_behind last (folder about inside others) ordered =
    further last (listed_item about kinds.Folder) (listing_of others) ordered.0
    (rises_behind (Some about.name) others ordered.2)
rises_behind last (other about others) ordered =
    further last (listed_item about kinds.Other) (listing_of others) ordered.0
    (rises_behind (Some about.name) others ordered.1)

pub rises_in_order : (seen : Items Facts) → Rises below below_orders (listing_of (in_order seen))
rises_in_order seen = (rises_behind None (in_order seen) (are_ordered seen)).0

-- a listing that is sorted, where equal names stay as they were, is that of the items in order
pub sorted_listing : (seen : Items Facts) (sorted : List Item) → IsSortedBy below sorted
    → IsStableBy below (listing_of seen) sorted → sorted ≡ listing_of (in_order seen)
sorted_listing seen sorted rises stable =
    same_sorted below below_orders sorted (listing_of (in_order seen))
    (rises_sorted below below_orders sorted rises) (rises_in_order seen)
    (λ x. stable x ∙ sym (ordered_ties x seen))

-- ---- the tests of them

abbrev pub first_bad_in : (last : Option (List ℕ)) → List Item → Option (List ℕ)
first_bad_in last [] = None
first_bad_in last (item ∷ items) =
    cond (is_bad_behind last item.name || has_bad_owner item) (Some item.name)
    (first_bad_in (Some item.name) items)

pub bad_here : (last : Option (List ℕ)) (item : Item) (items : List Item)
    → (is_bad_behind last item.name || has_bad_owner item) ≡ true
    → first_bad_in last (item ∷ items) ≡ Some item.name
bad_here last item items bad =
    ap (λ (t : Bool). cond t (Some item.name) (first_bad_in (Some item.name) items)) bad

any_assoc : (a b c : Bool) → ((a || b) || c) ≡ (a || (b || c))
any_assoc true b c = refl
any_assoc false b c = refl

any_false : (a : Bool) → a ≡ (a || false)
any_false true = refl
any_false false = refl

pub bad_listed : (last : Option (List ℕ)) (seen : Items Facts)
    → first_bad_item last seen ≡ first_bad_in last (listing_of seen)
bad_listed last none = refl
bad_listed last (file about bytes others) =
    λ i. cond (any_assoc (is_bad_behind last about.name) (nat_lt MAX_NAME (length about.uid))
    (nat_lt MAX_NAME (length about.gid)) i) (Some about.name)
    (bad_listed (Some about.name) others i)
bad_listed last (folder about inside others) =
    λ i. cond (any_assoc (is_bad_behind last about.name) (nat_lt MAX_NAME (length about.uid))
    (nat_lt MAX_NAME (length about.gid)) i) (Some about.name)
    (bad_listed (Some about.name) others i)
bad_listed last (other about others) =
    λ i. cond (any_false (is_bad_behind last about.name) i) (Some about.name)
    (bad_listed (Some about.name) others i)

pub spelled_len : (r : Record)
    → length (record_bytes r) ≡ 27 + length r.name + length r.uid + length r.gid
spelled_len r =
    omega (
      arith,
      length-append r.name (number_fields r ++ (string r.uid ++ string r.gid)),
      length-append r.uid (string r.gid),
    )

pub len_listed : (n i : ℕ) (seen : Items Facts)
    → length (all_spelled (records_of i (numbered n (kept seen))))
    ≡ sum_by record_len (listing_of seen)
len_listed n i none = refl
len_listed n i (file about bytes others) =
    let r = item_record (record { facts = cut_mode about; qid = n }) File i in
    omega (
      arith,
      spelled_len r,
      length-append (record_bytes r)
          (all_spelled (records_of (i + 1) (numbered (n + 1) (kept others)))),
      len_listed (n + 1) (i + 1) others,
      sum_by-cons record_len (listed_item about kinds.File) (listing_of others),
    )
len_listed n i (folder about inside others) =
    let r = item_record (record { facts = cut_mode about; qid = n }) Folder i in
    let m : ℕ = n + 1 + count (kept inside) in
    omega (
      arith,
      spelled_len r,
      length-append (record_bytes r) (all_spelled (records_of (i + 2) (numbered m (kept others)))),
      len_listed m (i + 2) others,
      sum_by-cons record_len (listed_item about kinds.Folder) (listing_of others),
    )
len_listed n i (other about others) =
    omega (
      arith,
      len_listed n i others,
      sum_by-cons record_len (listed_item about kinds.Other) (listing_of others),
    )

-- what makes a listing unfit depends on what is listed alone
pub same_listing : (path : List ℕ) (a b : Items Facts) → listing_of a ≡ listing_of b
    → unfit_listing path a ≡ unfit_listing path b
same_listing path a b same =
    let bad : first_bad_item None a ≡ first_bad_item None b =
    bad_listed None a ∙ ap (first_bad_in None) same ∙ sym (bad_listed None b) in
    let len : metadata_len a ≡ metadata_len b =
    len_listed 1 0 a ∙ ap (sum_by record_len) same ∙ sym (len_listed 1 0 b) in
    λ i. unfit_name path (bad i) (len i)
