-- Calls of a folder that fail, of what it lists and of what it doesn't.
use Rattle.std.proofs.Common.{◌≡◌, ◌≢◌, ⊎_elim, ℕ, Bool, true, false, IsTrue, Some, None, List, [], ◌∷◌, ◌++◌, refl, sym, ◌∙◌, ap, subst}
use Rattle.std.specs.Option.{option_map}
use Rattle.std.specs.Str.{bytes_eq}
use Rattle.std.proofs.lemmas.Bool.{false≢true}
use Rattle.std.proofs.lemmas.Slice.Eq.{bytes_eq-Decides}
use Rattle.vt_out.specs.declared.folder_item.Facts.{Facts}
use Rattle.vt_out.specs.declared.folder_item.Item.{Item}
use Rattle.vt_out.specs.declared.folder_item.ItemKind.{ItemKind}
use Rattle.vt_out.specs.declared.folder_item.ItemKind.TheVariants as kinds
use Rattle.vt_out.specs.declared.files.OutErr.{OutErr}
use Rattle.vt_out.specs.declared.files.OutErr.TheVariants as outs
use Rattle.vt_out.specs.FolderItems.{FailingPaths, Items, ListMayFail, ReadMayFail, none, file, folder, other, listed_item, listing_of, bytes_of, inside_of, folder_at, file_at}
use Rattle.vac_model.specs.Kept.{in_order}
use Rattle.vac_write.specs.declared.error.VacErr.{VacErr}
use Rattle.vac_write.specs.declared.error.VacErr.TheVariants.{FolderFault}
use Rattle.vac_write.specs.Archiving.{of_call}
use Rattle.vac_write.specs.Listing.{AreListed, IsNotListed, StandsAt}
use Rattle.vac_write.proofs.Found.{bytes_in_order, file_found, folder_found, inside_in_order}
use Rattle.vac_write.proofs.Wholes.{passes}

-- ---- a call fails

-- ..at a path at which something stands
pub read_fails : (failing : FailingPaths) (held : Items Facts) (path : List (List ℕ))
    → ReadMayFail failing held path → file_at path held ≢ None → IsTrue (failing.read path)
read_fails failing held path why stands = ⊎_elim
    (λ (may : IsTrue (failing.read path)). may)
    (λ (absent : file_at path held ≡ None). absurd (stands absent)) why

pub list_fails : (failing : FailingPaths) (held : Items Facts) (path : List (List ℕ))
    → ListMayFail failing held path → folder_at path held ≢ None → IsTrue (failing.list path)
list_fails failing held path why stands = ⊎_elim
    (λ (may : IsTrue (failing.list path)). may)
    (λ (absent : folder_at path held ≡ None). absurd (stands absent)) why

-- the folder itself always stands there
pub top_fails : (failing : FailingPaths) (held : Items Facts) → ListMayFail failing held []
    → IsTrue (failing.list [])
top_fails failing held why = list_fails failing held [] why
    (λ absent. let two : Some held ≡ None = absent in let never : ⊥ = cc in never)

-- a folder that is listed in another, and isn't listed since a call has failed
pub unlisted_fails : (tells : Bool) (held : Items Facts) (failing : FailingPaths)
    (path : List (List ℕ)) (err : VacErr) (k : ItemKind) → k ≡ kinds.Folder
    → IsNotListed tells held failing path err → err ≡ FolderFault
    → (IsTrue tells → StandsAt held path k) → IsTrue tells → IsTrue (failing.list path)
unlisted_fails tells held failing path err k kind why fault stands told =
    list_fails failing held path (subst (IsNotListed tells held failing path) fault why told)
    (subst (StandsAt held path) kind (stands told))

-- what a listing that fails is answered with
pub call_failed : (tells : Bool) (held : Items Facts) (failing : FailingPaths)
    (path : List (List ℕ)) (err : OutErr)
    → (err ≡ outs.Failed → IsTrue tells → ListMayFail failing held path)
    → IsNotListed tells held failing path (of_call err)
call_failed tells held failing path outs.Failed why = why refl
call_failed tells held failing path outs.NoMemory why = tt

-- ---- what is listed stands there

file_listed : (items : Items Facts) (before : List Item) (item : Item) (behind : List Item)
    → item.kind ≡ kinds.File → listing_of items ≡ before ++ item ∷ behind
    → bytes_of item.name items ≡ None → ⊥
file_listed none [] item behind kind lists absent =
    let e : [] ≡ item ∷ behind = lists in let never : ⊥ = cc in never
file_listed none (x ∷ before) item behind kind lists absent =
    let e : [] ≡ x ∷ (before ++ item ∷ behind) = lists in let never : ⊥ = cc in never
file_listed (file about bytes others) [] item behind kind lists absent =
    let e : listed_item about kinds.File ∷ listing_of others ≡ item ∷ behind = lists in
    let head : listed_item about kinds.File ≡ item = cc in
    let named : about.name ≡ item.name = ap (λ (i : Item). i.name) head in
    let differ = (passes (bytes_eq about.name item.name) bytes (bytes_of item.name others)
    absent).0 in
    false≢true (sym differ ∙ (bytes_eq-Decides about.name item.name).1 named)
file_listed (file about bytes others) (x ∷ before) item behind kind lists absent =
    let e : listed_item about kinds.File ∷ listing_of others ≡ x ∷ (before ++ item ∷ behind) =
    lists in
    let tail : listing_of others ≡ before ++ item ∷ behind = cc in
    file_listed others before item behind kind tail
    (passes (bytes_eq about.name item.name) bytes (bytes_of item.name others) absent).1
file_listed (folder about inside others) [] item behind kind lists absent =
    let e : listed_item about kinds.Folder ∷ listing_of others ≡ item ∷ behind = lists in
    let head : listed_item about kinds.Folder ≡ item = cc in
    let two : kinds.Folder ≡ kinds.File = ap (λ (i : Item). i.kind) head ∙ kind in
    let never : ⊥ = cc in never
file_listed (folder about inside others) (x ∷ before) item behind kind lists absent =
    let e : listed_item about kinds.Folder ∷ listing_of others ≡ x ∷ (before ++ item ∷ behind) =
    lists in
    let tail : listing_of others ≡ before ++ item ∷ behind = cc in
    file_listed others before item behind kind tail absent
file_listed (other about others) [] item behind kind lists absent =
    let e : listed_item about kinds.Other ∷ listing_of others ≡ item ∷ behind = lists in
    let head : listed_item about kinds.Other ≡ item = cc in
    let two : kinds.Other ≡ kinds.File = ap (λ (i : Item). i.kind) head ∙ kind in
    let never : ⊥ = cc in never
file_listed (other about others) (x ∷ before) item behind kind lists absent =
    let e : listed_item about kinds.Other ∷ listing_of others ≡ x ∷ (before ++ item ∷ behind) =
    lists in
    let tail : listing_of others ≡ before ++ item ∷ behind = cc in
    file_listed others before item behind kind tail absent

folder_listed : (items : Items Facts) (before : List Item) (item : Item) (behind : List Item)
    → item.kind ≡ kinds.Folder → listing_of items ≡ before ++ item ∷ behind
    → inside_of item.name items ≡ None → ⊥
folder_listed none [] item behind kind lists absent =
    let e : [] ≡ item ∷ behind = lists in let never : ⊥ = cc in never
folder_listed none (x ∷ before) item behind kind lists absent =
    let e : [] ≡ x ∷ (before ++ item ∷ behind) = lists in let never : ⊥ = cc in never
folder_listed (file about bytes others) [] item behind kind lists absent =
    let e : listed_item about kinds.File ∷ listing_of others ≡ item ∷ behind = lists in
    let head : listed_item about kinds.File ≡ item = cc in
    let two : kinds.File ≡ kinds.Folder = ap (λ (i : Item). i.kind) head ∙ kind in
    let never : ⊥ = cc in never
folder_listed (file about bytes others) (x ∷ before) item behind kind lists absent =
    let e : listed_item about kinds.File ∷ listing_of others ≡ x ∷ (before ++ item ∷ behind) =
    lists in
    let tail : listing_of others ≡ before ++ item ∷ behind = cc in
    folder_listed others before item behind kind tail absent
folder_listed (folder about inside others) [] item behind kind lists absent =
    let e : listed_item about kinds.Folder ∷ listing_of others ≡ item ∷ behind = lists in
    let head : listed_item about kinds.Folder ≡ item = cc in
    let named : about.name ≡ item.name = ap (λ (i : Item). i.name) head in
    let differ = (passes (bytes_eq about.name item.name) inside (inside_of item.name others)
    absent).0 in
    false≢true (sym differ ∙ (bytes_eq-Decides about.name item.name).1 named)
folder_listed (folder about inside others) (x ∷ before) item behind kind lists absent =
    let e : listed_item about kinds.Folder ∷ listing_of others ≡ x ∷ (before ++ item ∷ behind) =
    lists in
    let tail : listing_of others ≡ before ++ item ∷ behind = cc in
    folder_listed others before item behind kind tail
    (passes (bytes_eq about.name item.name) inside (inside_of item.name others) absent).1
folder_listed (other about others) [] item behind kind lists absent =
    let e : listed_item about kinds.Other ∷ listing_of others ≡ item ∷ behind = lists in
    let head : listed_item about kinds.Other ≡ item = cc in
    let two : kinds.Other ≡ kinds.Folder = ap (λ (i : Item). i.kind) head ∙ kind in
    let never : ⊥ = cc in never
folder_listed (other about others) (x ∷ before) item behind kind lists absent =
    let e : listed_item about kinds.Other ∷ listing_of others ≡ x ∷ (before ++ item ∷ behind) =
    lists in
    let tail : listing_of others ≡ before ++ item ∷ behind = cc in
    folder_listed others before item behind kind tail absent

stands_as : (held : Items Facts) (path : List (List ℕ)) (seen : Items Facts) (before : List Item)
    (item : Item) (behind : List Item) (k : ItemKind) → item.kind ≡ k
    → folder_at path held ≡ Some seen
    → listing_of (in_order seen) ≡ before ++ item ∷ behind
    → StandsAt held (path ++ item.name ∷ []) k
stands_as held path seen before item behind kinds.File kind there lists = λ absent.
    file_listed (in_order seen) before item behind kind lists
    (bytes_in_order item.name seen ∙ sym (file_found path item.name held seen there) ∙ absent)
stands_as held path seen before item behind kinds.Folder kind there lists = λ absent.
    folder_listed (in_order seen) before item behind kind lists
    (inside_in_order item.name seen
    ∙ ap (option_map in_order) (sym (folder_found path item.name held seen there) ∙ absent))
stands_as held path seen before item behind kinds.Other kind there lists = tt

pub listed_stands : (tells : Bool) (held : Items Facts) (path : List (List ℕ))
    (items before : List Item) (item : Item) (behind : List Item)
    → AreListed tells held path items → items ≡ before ++ item ∷ behind → IsTrue tells
    → StandsAt held (path ++ item.name ∷ []) item.kind
listed_stands tells held path items before item behind listed split told =
    stands_as held path listed.seen before item behind item.kind refl (listed.is told)
    (sym listed.ordered ∙ split)
