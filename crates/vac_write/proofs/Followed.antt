-- Items that stand behind others.
use Rattle.std.proofs.Common.{◌≡◌, ℕ, ◌+◌, Bool, true, false, cond, Option, Some, None, List, ◌∷◌, ◌++◌, length, refl, sym, ◌∙◌, ap, arith, append_assoc}
use Rattle.std.specs.Prelude.{nat_lt, nat_le}
use Rattle.std.specs.Option.{option_or}
use Rattle.vt_out.specs.declared.folder_item.Facts.{Facts}
use Rattle.vt_out.specs.declared.folder_item.Item.{Item}
use Rattle.vt_out.specs.declared.folder_item.ItemKind.TheVariants as kinds
use Rattle.vt_out.specs.FolderItems.{Items, none, file, folder, other, listed_item, listing_of}
use Rattle.vt_model.specs.History.{Block}
use Rattle.vt_tree.specs.declared.entry.Entry.{Entry}
use Rattle.vt_tree.specs.Streams.{stream_of, entry_of_stream}
use Rattle.vac_meta.specs.declared.record.Record.{Record}
use Rattle.vac_meta.specs.declared.record.RecordKind.TheVariants.{File, Folder}
use Rattle.vac_model.specs.declared.TheConstants.{MAX_FILE, MAX_NESTING}
use Rattle.vac_model.specs.Archives.{file_shape, item_record, records_of, item_entries, directory_entry, metadata_entry, blocks_of, folder_blocks}
use Rattle.vac_model.specs.Kept.{Numbered, kept, cut_mode, count, numbered, path_to, left_out}
use Rattle.vac_model.specs.Limits.{Unfit, too_long, too_deep, unfit_listing, unfit_inside, HaveTimes}

abbrev pub followed : {A : Type 0} → Items A → Items A → Items A
followed none b = b
followed (file about bytes others) b = file about bytes (followed others b)
followed (folder about inside others) b = folder about inside (followed others b)
followed (other about others) b = other about (followed others b)

pub followed_none : {A : Type 0} (a : Items A) → followed a none ≡ a
followed_none none = refl
followed_none (file about bytes others) = ap (file about bytes) (followed_none others)
followed_none (folder about inside others) = ap (folder about inside) (followed_none others)
followed_none (other about others) = ap (other about) (followed_none others)

pub listing_followed : (a b : Items Facts)
    → listing_of (followed a b) ≡ listing_of a ++ listing_of b
listing_followed none b = refl
listing_followed (file about bytes others) b =
    ap (λ (l : List Item). listed_item about kinds.File ∷ l) (listing_followed others b)
listing_followed (folder about inside others) b =
    ap (λ (l : List Item). listed_item about kinds.Folder ∷ l) (listing_followed others b)
listing_followed (other about others) b =
    ap (λ (l : List Item). listed_item about kinds.Other ∷ l) (listing_followed others b)

-- ---- what is kept, and its numbers

pub kept_followed : (a b : Items Facts) → kept (followed a b) ≡ followed (kept a) (kept b)
kept_followed none b = refl
kept_followed (file about bytes others) b =
    ap (file (cut_mode about) bytes) (kept_followed others b)
kept_followed (folder about inside others) b =
    ap (folder (cut_mode about) (kept inside)) (kept_followed others b)
kept_followed (other about others) b = kept_followed others b

pub same_count : (n : ℕ) (items : Items Facts) → count (numbered n items) ≡ count items
same_count n none = refl
same_count n (file about bytes others) = omega (arith, same_count (n + 1) others)
same_count n (folder about inside others) =
    omega (arith, same_count (n + 1) inside, same_count (n + 1 + count inside) others)
same_count n (other about others) = same_count n others

pub count_followed : {A : Type 0} (a b : Items A) → count (followed a b) ≡ count a + count b
count_followed none b = omega arith
count_followed (file about bytes others) b = omega (arith, count_followed others b)
count_followed (folder about inside others) b = omega (arith, count_followed others b)
count_followed (other about others) b = count_followed others b

pub numbered_followed : (n : ℕ) (a b : Items Facts)
    → numbered n (followed a b) ≡ followed (numbered n a) (numbered (n + count a) b)
numbered_followed n none b = ap (λ (k : ℕ). numbered k b) (omega arith)
numbered_followed n (file about bytes others) b =
    ap (file (record { facts = about; qid = n }) bytes)
    (numbered_followed (n + 1) others b
    ∙ ap (λ (k : ℕ). followed (numbered (n + 1) others) (numbered k b)) (omega arith))
numbered_followed n (folder about inside others) b =
    ap (folder (record { facts = about; qid = n }) (numbered (n + 1) inside))
    (numbered_followed (n + 1 + count inside) others b
    ∙ ap (λ (k : ℕ). followed (numbered (n + 1 + count inside) others) (numbered k b))
    (omega arith))
numbered_followed n (other about others) b = numbered_followed n others b

-- items that are kept, numbered from n on, and others behind them
pub archived_followed : (n : ℕ) (a b : Items Facts)
    → numbered n (kept (followed a b))
    ≡ followed (numbered n (kept a)) (numbered (n + count (numbered n (kept a))) (kept b))
archived_followed n a b =
    ap (numbered n) (kept_followed a b)
    ∙ numbered_followed n (kept a) (kept b)
    ∙ ap (λ (k : ℕ). followed (numbered n (kept a)) (numbered (n + k) (kept b)))
    (sym (same_count n (kept a)))

-- ---- entries, records and blocks

module _ (score_of : List ℕ → List ℕ) (bsize : ℕ) where
  pub entries_followed : (a b : Items Numbered)
      → item_entries score_of bsize (followed a b)
      ≡ item_entries score_of bsize a ++ item_entries score_of bsize b
  entries_followed none b = refl
  entries_followed (file about bytes others) b =
      ap (λ (l : List Entry). entry_of_stream score_of (file_shape bsize) bytes ∷ l)
      (entries_followed others b)
  entries_followed (folder about inside others) b =
      ap (λ (l : List Entry). directory_entry score_of bsize (item_entries score_of bsize inside)
      ∷ (metadata_entry score_of bsize inside ∷ l)) (entries_followed others b)
  entries_followed (other about others) b = entries_followed others b

  pub records_followed : (n : ℕ) (a b : Items Numbered)
      → records_of n (followed a b)
      ≡ records_of n a ++ records_of (n + length (item_entries score_of bsize a)) b
  records_followed n none b = ap (λ (k : ℕ). records_of k b) (omega arith)
  records_followed n (file about bytes others) b =
      ap (λ (l : List Record). item_record about File n ∷ l)
      (records_followed (n + 1) others b
      ∙ ap (λ (k : ℕ). records_of (n + 1) others ++ records_of k b) (omega arith))
  records_followed n (folder about inside others) b =
      ap (λ (l : List Record). item_record about Folder n ∷ l)
      (records_followed (n + 2) others b
      ∙ ap (λ (k : ℕ). records_of (n + 2) others ++ records_of k b) (omega arith))
  records_followed n (other about others) b = records_followed n others b

  pub blocks_followed : (a b : Items Numbered)
      → blocks_of score_of bsize (followed a b)
      ≡ blocks_of score_of bsize a ++ blocks_of score_of bsize b
  blocks_followed none b = refl
  blocks_followed (file about bytes others) b =
      ap (λ (l : List Block). (stream_of score_of (file_shape bsize) bytes).blocks ++ l)
      (blocks_followed others b)
      ∙ sym (append_assoc (stream_of score_of (file_shape bsize) bytes).blocks
      (blocks_of score_of bsize others) (blocks_of score_of bsize b))
  blocks_followed (folder about inside others) b =
      ap (λ (l : List Block). blocks_of score_of bsize inside
      ++ folder_blocks score_of bsize inside ++ l) (blocks_followed others b)
      ∙ sym (append_assoc
      (blocks_of score_of bsize inside ++ folder_blocks score_of bsize inside)
      (blocks_of score_of bsize others) (blocks_of score_of bsize b))
  blocks_followed (other about others) b = blocks_followed others b

-- ---- what is left out, and what is unfit

pub left_followed : (path : List ℕ) (a b : Items Facts)
    → left_out path (followed a b) ≡ left_out path a ++ left_out path b
left_followed path none b = refl
left_followed path (file about bytes others) b = left_followed path others b
left_followed path (folder about inside others) b =
    ap (λ (l : List (List ℕ)). left_out (path_to path about.name) inside ++ l)
    (left_followed path others b)
    ∙ sym (append_assoc (left_out (path_to path about.name) inside) (left_out path others)
    (left_out path b))
left_followed path (other about others) b =
    ap (λ (l : List (List ℕ)). path_to path about.name ∷ l) (left_followed path others b)

or_assoc : {A : Type 0} (a b c : Option A)
    → option_or a (option_or b c) ≡ option_or (option_or a b) c
or_assoc None b c = refl
or_assoc (Some x) b c = refl

if_or : {A : Type 0} (t : Bool) (x : A) (a b : Option A)
    → cond t (Some x) (option_or a b) ≡ option_or (cond t (Some x) a) b
if_or true x a b = refl
if_or false x a b = refl

pub unfit_followed : (depth : ℕ) (path : List ℕ) (a b : Items Facts)
    → unfit_inside depth path (followed a b)
    ≡ option_or (unfit_inside depth path a) (unfit_inside depth path b)
unfit_followed depth path none b = refl
unfit_followed depth path (file about bytes others) b =
    ap (λ (o : Option Unfit). cond (nat_lt MAX_FILE (length bytes)) (Some too_long) o)
    (unfit_followed depth path others b)
    ∙ if_or (nat_lt MAX_FILE (length bytes)) too_long (unfit_inside depth path others)
    (unfit_inside depth path b)
unfit_followed depth path (folder about inside others) b =
    let below = path_to path about.name in
    let here = cond (nat_le MAX_NESTING depth) (Some (too_deep below))
    (option_or (unfit_listing below inside) (unfit_inside (depth + 1) below inside)) in
    ap (λ (o : Option Unfit). option_or here o) (unfit_followed depth path others b)
    ∙ or_assoc here (unfit_inside depth path others) (unfit_inside depth path b)
unfit_followed depth path (other about others) b = unfit_followed depth path others b

pub times_followed : (a b : Items Facts) → HaveTimes a → HaveTimes b → HaveTimes (followed a b)
times_followed none b first then = then
times_followed (file about bytes others) b first then =
    (first.0, times_followed others b first.1 then)
times_followed (folder about inside others) b first then =
    (first.0, first.1, times_followed others b first.2 then)
times_followed (other about others) b first then = times_followed others b first then
