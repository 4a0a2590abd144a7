-- What was found in a folder fits its archive, where all that was listed does.
use Rattle.std.proofs.Common.{◌≡◌, ◌⊎◌, ℕ, ◌≤◌, ◌||◌, Bool, false, cond, Option, Some, None, List, ◌++◌, length, refl, sym, ◌∙◌, ap, subst, arith, inl, inr}
use Rattle.std.specs.Prelude.{⊤, nat_lt, sum_by}
use Rattle.std.proofs.lemmas.Bool.{le-ltb}
use Rattle.std.proofs.lemmas.List.Sums.{sum_by-cons}
use Rattle.vt_out.specs.declared.folder_item.Facts.{Facts}
use Rattle.vt_out.specs.declared.folder_item.Item.{Item}
use Rattle.vt_out.specs.declared.folder_item.ItemKind.TheVariants as kinds
use Rattle.vt_out.specs.FolderItems.{Items, listed_item, listing_of}
use Rattle.vac_meta.specs.declared.TheConstants.{MAX_NAME}
use Rattle.vac_meta.specs.Records.{all_spelled}
use Rattle.vac_model.specs.declared.TheConstants.{MAX_METADATA}
use Rattle.vac_model.specs.Archives.{item_entries, records_of}
use Rattle.vac_model.specs.Limits.{is_bad_name, is_bad_behind, is_bad, first_bad_item, too_long, unfit_name, unfit_listing}
use Rattle.vac_model.proofs.Names.{Below, below_below}
use Rattle.vac_write.specs.Listing.{AreListed, metadata_len, record_len}
use Rattle.vac_write.specs.Tried.{Tried, no_more, read, listed, passed, unread, unlisted, whole, found}
use Rattle.vac_write.specs.Walking.{archived_from}
use Rattle.vac_write.proofs.Fits.{few_entries, good_name, short_name, short_streams}
use Rattle.vac_write.proofs.Listed.{len_listed}
use Rattle.vac_write.proofs.Wholes.{Above, Climb, apart, neither, no_bad, passes}

-- ---- names

-- the first name is the second, or below it
abbrev IsUnder : (a last : Option (List ℕ)) → Type 0
IsUnder None last = ⊤
IsUnder (Some a) None = ⊥
IsUnder (Some a) (Some last) = (a ≡ last) ⊎ Below a last

above_both : (a last : Option (List ℕ)) (name : List ℕ) → IsUnder a last → Above last name
    → Above a name
above_both None last name under above = tt
above_both (Some a) None name under above = absurd under
above_both (Some a) (Some last) name (inl same) above =
    subst (λ (n : List ℕ). Below n name) (sym same) above
above_both (Some a) (Some last) name (inr below) above = below_below a last name below above

under_next : (a last : Option (List ℕ)) (name : List ℕ) → IsUnder a last → Above last name
    → IsUnder a (Some name)
under_next None last name under above = tt
under_next (Some a) last name under above = inr (above_both (Some a) last name under above)

good_behind : (a : Option (List ℕ)) (name : List ℕ) → is_bad_name name ≡ false → Above a name
    → is_bad_behind a name ≡ false
good_behind None name good above = good
good_behind (Some a) name good above = (λ i. good i || apart a name above i)

good_item : (a last : Option (List ℕ)) (about : Facts) → is_bad last about ≡ false
    → Above a about.name → is_bad a about ≡ false
good_item a last about good above =
    let outer = neither (is_bad_behind last about.name || nat_lt MAX_NAME (length about.uid))
    (nat_lt MAX_NAME (length about.gid)) good in
    let inner = neither (is_bad_behind last about.name) (nat_lt MAX_NAME (length about.uid)) outer.0
    in
    let name = good_behind a about.name (good_name last about.name inner.0) above in
    (λ i. (name i || inner.1 i) || outer.1 i)

good_found : (a last : Option (List ℕ)) (tried : Tried) → IsUnder a last
    → Climb last (listing_of (whole tried)) → first_bad_item last (whole tried) ≡ None
    → first_bad_item a (found tried) ≡ None
good_found a last no_more under climb fit = refl
good_found a last (read about bytes others) under climb fit =
    let here = passes (is_bad last about) about.name
    (first_bad_item (Some about.name) (whole others)) fit in
    ap (λ (t : Bool). cond t (Some about.name) (first_bad_item (Some about.name) (found others)))
    (good_item a last about here.0 (above_both a last about.name under climb.0))
    ∙ good_found (Some about.name) (Some about.name) others (inl refl) climb.1 here.1
good_found a last (listed about inside others) under climb fit =
    let here = passes (is_bad last about) about.name
    (first_bad_item (Some about.name) (whole others)) fit in
    ap (λ (t : Bool). cond t (Some about.name) (first_bad_item (Some about.name) (found others)))
    (good_item a last about here.0 (above_both a last about.name under climb.0))
    ∙ good_found (Some about.name) (Some about.name) others (inl refl) climb.1 here.1
good_found a last (passed about others) under climb fit =
    let here = passes (is_bad_behind last about.name) about.name
    (first_bad_item (Some about.name) (whole others)) fit in
    ap (λ (t : Bool). cond t (Some about.name) (first_bad_item (Some about.name) (found others)))
    (good_behind a about.name (good_name last about.name here.0)
    (above_both a last about.name under climb.0))
    ∙ good_found (Some about.name) (Some about.name) others (inl refl) climb.1 here.1
good_found a last (unread about bytes begun others) under climb fit =
    let here = passes (is_bad last about) about.name
    (first_bad_item (Some about.name) (whole others)) fit in
    good_found a (Some about.name) others (under_next a last about.name under climb.0) climb.1
    here.1
good_found a last (unlisted about inside others) under climb fit =
    let here = passes (is_bad last about) about.name
    (first_bad_item (Some about.name) (whole others)) fit in
    good_found a (Some about.name) others (under_next a last about.name under climb.0) climb.1
    here.1

-- ---- how long the metadata is

fewer : (tried : Tried)
    → sum_by record_len (listing_of (found tried)) ≤ sum_by record_len (listing_of (whole tried))
fewer no_more = omega arith
fewer (read about bytes others) = omega (
  arith,
  fewer others,
  sum_by-cons record_len (listed_item about kinds.File) (listing_of (found others)),
  sum_by-cons record_len (listed_item about kinds.File) (listing_of (whole others)),
)
fewer (listed about inside others) = omega (
  arith,
  fewer others,
  sum_by-cons record_len (listed_item about kinds.Folder) (listing_of (found others)),
  sum_by-cons record_len (listed_item about kinds.Folder) (listing_of (whole others)),
)
fewer (passed about others) = omega (
  arith,
  fewer others,
  sum_by-cons record_len (listed_item about kinds.Other) (listing_of (found others)),
  sum_by-cons record_len (listed_item about kinds.Other) (listing_of (whole others)),
)
fewer (unread about bytes begun others) = omega (
  arith,
  fewer others,
  sum_by-cons record_len (listed_item about kinds.File) (listing_of (whole others)),
)
fewer (unlisted about inside others) = omega (
  arith,
  fewer others,
  sum_by-cons record_len (listed_item about kinds.Folder) (listing_of (whole others)),
)

-- ---- both

pub found_fits : (path : List ℕ) (tried : Tried) → Climb None (listing_of (whole tried))
    → unfit_listing path (whole tried) ≡ None → unfit_listing path (found tried) ≡ None
found_fits path tried climb fit =
    let bad = no_bad path (first_bad_item None (whole tried)) (metadata_len (whole tried)) fit in
    let most = short_name path (first_bad_item None (whole tried)) (metadata_len (whole tried)) fit
    in
    let fine = good_found None None tried tt climb bad in
    let short : metadata_len (found tried) ≤ MAX_METADATA = omega (
      arith,
      most,
      fewer tried,
      len_listed 1 0 (found tried),
      len_listed 1 0 (whole tried),
    ) in
    (λ i. unfit_name path (fine i) (metadata_len (found tried)))
    ∙ ap (λ (t : Bool). cond t (Some too_long) None)
    (le-ltb MAX_METADATA (metadata_len (found tried)) short)

-- ---- its streams

pub short_found : (score_of : List ℕ → List ℕ) (bsize i n : ℕ) (tells : Bool)
    (held : Items Facts) (path : List (List ℕ)) (items : List Item) (done : Tried)
    (left : List Item) → AreListed tells held path items → items ≡ listing_of (whole done) ++ left
    → (length (item_entries score_of bsize (archived_from n done)) ≤ MAX_METADATA)
    × (length (all_spelled (records_of i (archived_from n done))) ≤ MAX_METADATA)
short_found score_of bsize i n tells held path items done left there split =
    let both = short_streams score_of bsize i n tells held path items (whole done) left there split
    in
    let len : length (all_spelled (records_of i (archived_from n done))) ≤ MAX_METADATA =
    omega (
      arith,
      both.1,
      fewer done,
      len_listed n i (found done),
      len_listed n i (whole done),
    ) in
    (omega (arith, len, few_entries score_of bsize i (archived_from n done)), len)
