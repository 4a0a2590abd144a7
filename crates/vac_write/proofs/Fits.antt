-- The items of a folder that was listed fit its archive.
use Rattle.std.proofs.Common.{◌≡◌, ℕ, ◌+◌, ◌*◌, ◌≤◌, ◌||◌, Bool, false, Option, Some, None, List, [], ◌∷◌, ◌++◌, length, sym, ◌∙◌, ap, arith, length-append}
use Rattle.std.specs.Prelude.{nat_lt, sum_by}
use Rattle.std.proofs.lemmas.Bool.{ltb-false}
use Rattle.std.proofs.lemmas.List.Sums.{sum_by-append}
use Rattle.vt_out.specs.declared.folder_item.Facts.{Facts}
use Rattle.vt_out.specs.declared.folder_item.Item.{Item}
use Rattle.vt_out.specs.declared.folder_item.ItemKind.{ItemKind}
use Rattle.vt_out.specs.declared.folder_item.ItemKind.TheVariants as kinds
use Rattle.vt_out.specs.FolderItems.{Items, none, file, folder, other, listing_of}
use Rattle.vac_meta.specs.declared.TheConstants.{MAX_NAME}
use Rattle.vac_meta.specs.declared.record.Record.{Record}
use Rattle.vac_meta.specs.declared.record.RecordKind.TheVariants.{File, Folder}
use Rattle.vac_meta.specs.Records.{IsItemName, all_spelled, record_bytes}
use Rattle.vac_model.specs.declared.TheConstants.{MAX_METADATA}
use Rattle.vac_model.specs.Archives.{item_record, records_of, item_entries}
use Rattle.vac_model.specs.Kept.{Numbered, in_order, kept, numbered}
use Rattle.vac_model.specs.Limits.{is_bad_name, is_bad_behind, first_bad_item, too_long, unfit_name}
use Rattle.vac_model.proofs.Archivable.{a_name}
use Rattle.vac_write.specs.Listing.{AreListed, FitsArchivedItem, IfKept, if_kept, has_bad_owner, record_len, metadata_len, joined_path}
use Rattle.vac_write.proofs.Listed.{bad_listed, first_bad_in, len_listed, spelled_len}
use Rattle.vac_write.proofs.Wholes.{neither, passes, no_bad}

fits_kind : (item : Item) (k : ItemKind)
    → if_kept k (nat_lt MAX_NAME (length item.uid) || nat_lt MAX_NAME (length item.gid)) false
    ≡ false
    → IsItemName item.name → IfKept k (FitsArchivedItem item)
fits_kind item kinds.File good name =
    let two = neither (nat_lt MAX_NAME (length item.uid)) (nat_lt MAX_NAME (length item.gid)) good
    in
    record {
      name = name;
      uid = ltb-false MAX_NAME (length item.uid) two.0;
      gid = ltb-false MAX_NAME (length item.gid) two.1;
    }
fits_kind item kinds.Folder good name =
    let two = neither (nat_lt MAX_NAME (length item.uid)) (nat_lt MAX_NAME (length item.gid)) good
    in
    record {
      name = name;
      uid = ltb-false MAX_NAME (length item.uid) two.0;
      gid = ltb-false MAX_NAME (length item.gid) two.1;
    }
fits_kind item kinds.Other good name = tt

pub good_name : (last : Option (List ℕ)) (name : List ℕ) → is_bad_behind last name ≡ false
    → is_bad_name name ≡ false
good_name None name good = good
good_name (Some last) name good = (neither (is_bad_name name) _ good).0

fits_at : (last : Option (List ℕ)) (before : List Item) (item : Item) (behind : List Item)
    → first_bad_in last (before ++ item ∷ behind) ≡ None → IfKept item.kind (FitsArchivedItem item)
fits_at last [] item behind good =
    let here = passes (is_bad_behind last item.name || has_bad_owner item) item.name
    (first_bad_in (Some item.name) behind) good in
    let two = neither (is_bad_behind last item.name) (has_bad_owner item) here.0 in
    fits_kind item item.kind two.1 (a_name item.name (good_name last item.name two.0))
fits_at last (x ∷ before) item behind good =
    fits_at (Some x.name) before item behind
    (passes (is_bad_behind last x.name || has_bad_owner x) x.name
    (first_bad_in (Some x.name) (before ++ item ∷ behind)) good).1

-- each file or folder that was listed has a record
pub fits_item : (tells : Bool) (held : Items Facts) (path : List (List ℕ))
    (items before : List Item) (item : Item) (behind : List Item)
    → AreListed tells held path items → items ≡ before ++ item ∷ behind
    → IfKept item.kind (FitsArchivedItem item)
fits_item tells held path items before item behind listed split =
    let s : Items Facts = in_order listed.seen in
    fits_at None before item behind
    (ap (first_bad_in None) (sym split ∙ listed.ordered) ∙ sym (bad_listed None s)
    ∙ no_bad (joined_path path) (first_bad_item None s) (metadata_len s) listed.fit)

-- ---- how long its streams are

pub short_name : (path : List ℕ) (bad : Option (List ℕ)) (len : ℕ) → unfit_name path bad len ≡ None
    → len ≤ MAX_METADATA
short_name path (Some name) len fit = let never : ⊥ = cc in absurd never
short_name path None len fit =
    ltb-false MAX_METADATA len (passes (nat_lt MAX_METADATA len) too_long None fit).0

pub few_entries : (score_of : List ℕ → List ℕ) (bsize i : ℕ) (items : Items Numbered)
    → 13 * length (item_entries score_of bsize items) ≤ length (all_spelled (records_of i items))
few_entries score_of bsize i none = omega arith
few_entries score_of bsize i (file about bytes others) =
    let r : Record = item_record about File i in
    omega (
      arith,
      spelled_len r,
      length-append (record_bytes r) (all_spelled (records_of (i + 1) others)),
      few_entries score_of bsize (i + 1) others,
    )
few_entries score_of bsize i (folder about inside others) =
    let r : Record = item_record about Folder i in
    omega (
      arith,
      spelled_len r,
      length-append (record_bytes r) (all_spelled (records_of (i + 2) others)),
      few_entries score_of bsize (i + 2) others,
    )
few_entries score_of bsize i (other about others) = few_entries score_of bsize i others

pub short_streams : (score_of : List ℕ → List ℕ) (bsize i n : ℕ) (tells : Bool)
    (held : Items Facts) (path : List (List ℕ)) (items : List Item) (done : Items Facts)
    (left : List Item) → AreListed tells held path items → items ≡ listing_of done ++ left
    → (length (item_entries score_of bsize (numbered n (kept done))) ≤ MAX_METADATA)
    × (length (all_spelled (records_of i (numbered n (kept done)))) ≤ MAX_METADATA)
short_streams score_of bsize i n tells held path items done left listed split =
    let s : Items Facts = in_order listed.seen in
    let most = short_name (joined_path path) (first_bad_item None s) (metadata_len s) listed.fit in
    let all : sum_by record_len (listing_of s)
    ≡ sum_by record_len (listing_of done) + sum_by record_len left =
    ap (sum_by record_len) (sym listed.ordered ∙ split)
    ∙ sum_by-append record_len (listing_of done) left in
    let len : length (all_spelled (records_of i (numbered n (kept done)))) ≤ MAX_METADATA =
    omega (arith, most, all, len_listed 1 0 s, len_listed n i done) in
    (omega (arith, len, few_entries score_of bsize i (numbered n (kept done))), len)
