-- The first of items in memory, before the others.
use Rattle.std.proofs.Common.{◌≡◌, ℕ, Bool, true, false, cond, Option, Some, None, List, [], ◌∷◌, ◌++◌, refl, sym, ◌∙◌, ap, subst}
use Rattle.std.proofs.lemmas.List.{append_assoc}
use Rattle.std.specs.Option.{option_or}
use Rattle.std.specs.Str.{bytes_eq}
use Rattle.vt_out.specs.declared.folder_item.Item.{Item}
use Rattle.vt_out.specs.declared.mem_folder.MemItem.{MemItem}
use Rattle.vt_out.specs.declared.mem_folder.MemItem.TheOpen.{MemItem-F, File, Folder, Other}
use Rattle.vt_out.specs.declared.mem_folder.MemItem.TheFolds.{fold-MemItem, fold_out-MemItem}
use Rattle.vt_out.specs.declared.folder_item.Facts.{Facts}
use Rattle.vt_out.specs.FolderItems.{Items, none, listing_of, inside_of, bytes_of}
use Rattle.vt_out.specs.FolderMemory.{put_all, put_item, items_in_memory}

-- how an item is put before others
abbrev Put : Type 0
Put = Items Facts → Items Facts

-- what holds of each layer holds of each item
of_layers : (P : Put → Type 0) → ((f : MemItem-F Put) → P (put_item f)) → (x : MemItem)
    → P (fold-MemItem Put put_item x)
of_layers P each x = subst P (sym (fold_out-MemItem Put put_item x)) (each _)

-- a list begins with what its first item is listed as
listed_first : (f : MemItem-F Put) (others : Items Facts)
    → listing_of (put_item f others) ≡ listing_of (put_item f none) ++ listing_of others
listed_first (File about content) others = refl
listed_first (Folder about inside) others = refl
listed_first (Other about) others = refl

pub first_listed : (x : MemItem) (xs : List MemItem)
    → listing_of (items_in_memory (x ∷ xs)) ≡ listing_of (items_in_memory (x ∷ [])) ++ listing_of (items_in_memory xs)
first_listed x xs =
    of_layers
    (λ put. listing_of (put (items_in_memory xs)) ≡ listing_of (put none) ++ listing_of (items_in_memory xs))
    (λ f. listed_first f (items_in_memory xs)) x

either : {A : Type 0} (b : Bool) (x : A) (o : Option A)
    → cond b (Some x) o ≡ option_or (cond b (Some x) None) o
either b x o = elim b as (λ t. cond t (Some x) o ≡ option_or (cond t (Some x) None) o) [
  | true ↦ refl
  | false ↦ refl
]

-- the first item is looked at before the others
inside_first : (name : List ℕ) (f : MemItem-F Put) (others : Items Facts)
    → inside_of name (put_item f others)
    ≡ option_or (inside_of name (put_item f none)) (inside_of name others)
inside_first name (File about content) others = refl
inside_first name (Folder about inside) others =
    either (bytes_eq about.name name) (put_all inside.items) (inside_of name others)
inside_first name (Other about) others = refl

pub first_inside : (name : List ℕ) (x : MemItem) (xs : List MemItem)
    → inside_of name (items_in_memory (x ∷ xs))
    ≡ option_or (inside_of name (items_in_memory (x ∷ []))) (inside_of name (items_in_memory xs))
first_inside name x xs =
    of_layers
    (λ put. inside_of name (put (items_in_memory xs))
    ≡ option_or (inside_of name (put none)) (inside_of name (items_in_memory xs)))
    (λ f. inside_first name f (items_in_memory xs)) x

bytes_first : (name : List ℕ) (f : MemItem-F Put) (others : Items Facts)
    → bytes_of name (put_item f others)
    ≡ option_or (bytes_of name (put_item f none)) (bytes_of name others)
bytes_first name (File about content) others =
    either (bytes_eq about.name name) content.bytes.items (bytes_of name others)
bytes_first name (Folder about inside) others = refl
bytes_first name (Other about) others = refl

pub first_bytes : (name : List ℕ) (x : MemItem) (xs : List MemItem)
    → bytes_of name (items_in_memory (x ∷ xs))
    ≡ option_or (bytes_of name (items_in_memory (x ∷ []))) (bytes_of name (items_in_memory xs))
first_bytes name x xs =
    of_layers
    (λ put. bytes_of name (put (items_in_memory xs))
    ≡ option_or (bytes_of name (put none)) (bytes_of name (items_in_memory xs)))
    (λ f. bytes_first name f (items_in_memory xs)) x

-- the last of items stands at the end of their list
pub last_listed : (xs : List MemItem) (x : MemItem)
    → listing_of (items_in_memory (xs ++ x ∷ []))
    ≡ listing_of (items_in_memory xs) ++ listing_of (items_in_memory (x ∷ []))
last_listed [] x = refl
last_listed (y ∷ xs) x =
    first_listed y (xs ++ x ∷ [])
    ∙ ap (λ (l : List Item). listing_of (items_in_memory (y ∷ [])) ++ l) (last_listed xs x)
    ∙ sym (append_assoc (listing_of (items_in_memory (y ∷ []))) (listing_of (items_in_memory xs))
    (listing_of (items_in_memory (x ∷ []))))
    ∙ ap (λ (l : List Item). l ++ listing_of (items_in_memory (x ∷ []))) (sym (first_listed y xs))
