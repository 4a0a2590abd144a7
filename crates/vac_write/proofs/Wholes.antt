-- Items of a folder that were archived, and the folder whose items in order they are.
use Rattle.std.proofs.Common.{◌≡◌, ℕ, ◌||◌, Bool, true, false, cond, IsTrue, Option, Some, None, List, [], ◌∷◌, ◌++◌, refl, sym, ◌∙◌, ap, subst, inl, inr}
use Rattle.std.specs.Prelude.{⊤}
use Rattle.std.specs.Option.{option_map}
use Rattle.std.specs.Str.{bytes_eq}
use Rattle.std.proofs.lemmas.Bool.{cases_Bool, false≢true}
use Rattle.std.proofs.lemmas.Slice.Eq.{bytes_eq-Decides}
use Rattle.vt_base.specs.Bytes.{AreBytes-none}
use Rattle.vt_out.specs.declared.folder_item.Facts.{Facts}
use Rattle.vt_out.specs.declared.folder_item.Item.{Item}
use Rattle.vt_out.specs.declared.folder_item.ItemKind.{ItemKind}
use Rattle.vt_out.specs.declared.folder_item.ItemKind.TheVariants as kinds
use Rattle.vt_out.specs.FolderItems.{Items, none, file, folder, other, listed_item, listing_of, bytes_of, inside_of, folder_at, file_at}
use Rattle.vac_model.specs.Kept.{placed, in_order}
use Rattle.vac_model.specs.Limits.{is_bad_name, is_bad_behind, first_bad_item, unfit_name, unfit_listing}
use Rattle.vac_model.proofs.InOrder.{NotBefore, AreOrdered, are_ordered}
use Rattle.vac_model.proofs.Names.{Below, below_below, not_both, above_other}
use Rattle.vac_write.specs.Files.{IsWholeFile}
use Rattle.vac_write.specs.Listing.{IsSeenAt, AreListed, has_bad_owner, metadata_len, joined_path}
use Rattle.vac_write.specs.Walking.{IsWholeFolder, AreItemsAt}
use Rattle.vac_write.proofs.Followed.{followed, listing_followed}
use Rattle.vac_write.proofs.Found.{folder_found, file_found, bytes_in_order, inside_in_order}
use Rattle.vac_write.proofs.Listed.{bad_listed, first_bad_in, same_listing}

-- ---- names that rise

-- a name is above this one, if there is one
abbrev pub Above : (last : Option (List ℕ)) → (name : List ℕ) → Type 0
Above None name = ⊤
Above (Some last) name = Below last name

-- each name is above the one before it
abbrev pub Climb : (last : Option (List ℕ)) → List Item → Type 0
Climb last [] = ⊤
Climb last (item ∷ items) = Above last item.name × Climb (Some item.name) items

-- no name is below the one before it
abbrev Stands : (last : Option (List ℕ)) → List Item → Type 0
Stands last [] = ⊤
Stands last (item ∷ items) = NotBefore last item.name × Stands (Some item.name) items

stands_in_order : (last : Option (List ℕ)) (seen : Items Facts) → AreOrdered last seen
    → Stands last (listing_of seen)
stands_in_order last none ordered = tt
stands_in_order last (file about bytes others) ordered =
    (ordered.0, stands_in_order (Some about.name) others ordered.1)
stands_in_order last (folder about inside others) ordered =
    (ordered.0, stands_in_order (Some about.name) others ordered.2)
stands_in_order last (other about others) ordered =
    (ordered.0, stands_in_order (Some about.name) others ordered.1)

pub neither : (a b : Bool) → (a || b) ≡ false → (a ≡ false) × (b ≡ false)
neither true b e = absurd (false≢true (sym e))
neither false b e = (refl, e)

pub passes : {A : Type 0} (t : Bool) (a : A) (rest : Option A) → cond t (Some a) rest ≡ None
    → (t ≡ false) × (rest ≡ None)
passes true a rest e = let never : ⊥ = cc in absurd never
passes false a rest e = (refl, e)

above_last : (last : Option (List ℕ)) (name : List ℕ) → is_bad_behind last name ≡ false
    → NotBefore last name → Above last name
above_last None name good order = tt
above_last (Some last) name good order =
    above_other last name order (neither (is_bad_name name) (bytes_eq last name) good).1

climb : (last : Option (List ℕ)) (items : List Item) → first_bad_in last items ≡ None
    → Stands last items → Climb last items
climb last [] good order = tt
climb last (item ∷ items) good order =
    let here = passes (is_bad_behind last item.name || has_bad_owner item) item.name
    (first_bad_in (Some item.name) items) good in
    let name = (neither (is_bad_behind last item.name) (has_bad_owner item) here.0).0 in (
      above_last last item.name name order.0,
      climb (Some item.name) items here.1 order.1,
    )

pub no_bad : (path : List ℕ) (bad : Option (List ℕ)) (len : ℕ) → unfit_name path bad len ≡ None
    → bad ≡ None
no_bad path (Some name) len fit = let never : ⊥ = cc in absurd never
no_bad path None len fit = refl

-- the items of a folder that was listed climb
pub listed_climb : (tells : Bool) (held : Items Facts) (path : List (List ℕ))
    (items : List Item) → AreListed tells held path items → Climb None items
listed_climb tells held path items listed =
    let s : Items Facts = in_order listed.seen in
    subst (Climb None) (sym listed.ordered) (climb None (listing_of s)
    (sym (bad_listed None s)
    ∙ no_bad (joined_path path) (first_bad_item None s) (metadata_len s) listed.fit)
    (stands_in_order None s (are_ordered listed.seen)))

-- what is found behind a name is above it
bytes_above : (last n : List ℕ) (items : Items Facts) (b : List ℕ)
    → Climb (Some last) (listing_of items) → bytes_of n items ≡ Some b → Below last n
bytes_above last n none b rise found = let never : ⊥ = cc in absurd never
bytes_above last n (file about bytes others) b rise found =
    elim (cases_Bool (bytes_eq about.name n)) [
      | inl same ↦
          subst (λ (x : List ℕ). Below last x) ((bytes_eq-Decides about.name n).0 same) rise.0
      | inr differ ↦
          below_below last about.name n rise.0
          (bytes_above about.name n others b rise.1 (rw differ at found))
    ]
bytes_above last n (folder about inside others) b rise found =
    below_below last about.name n rise.0 (bytes_above about.name n others b rise.1 found)
bytes_above last n (other about others) b rise found =
    below_below last about.name n rise.0 (bytes_above about.name n others b rise.1 found)

inside_above : (last n : List ℕ) (items : Items Facts) (i : Items Facts)
    → Climb (Some last) (listing_of items) → inside_of n items ≡ Some i → Below last n
inside_above last n none i rise found = let never : ⊥ = cc in absurd never
inside_above last n (file about bytes others) i rise found =
    below_below last about.name n rise.0 (inside_above about.name n others i rise.1 found)
inside_above last n (folder about inside others) i rise found =
    elim (cases_Bool (bytes_eq about.name n)) [
      | inl same ↦
          subst (λ (x : List ℕ). Below last x) ((bytes_eq-Decides about.name n).0 same) rise.0
      | inr differ ↦
          below_below last about.name n rise.0
          (inside_above about.name n others i rise.1 (rw differ at found))
    ]
inside_above last n (other about others) i rise found =
    below_below last about.name n rise.0 (inside_above about.name n others i rise.1 found)

pub apart : (a n : List ℕ) → Below a n → bytes_eq a n ≡ false
apart a n below = elim (cases_Bool (bytes_eq a n)) [
  | inr differ ↦ differ
  | inl same ↦
      let is : a ≡ n = (bytes_eq-Decides a n).0 same in
      let itself : Below n n = subst (λ (x : List ℕ). Below x n) is below in
      absurd (false≢true (sym (not_both n n itself) ∙ itself))
]

itself : (a : List ℕ) → bytes_eq a a ≡ true
itself a = (bytes_eq-Decides a a).1 refl

-- what is known of an item that is listed
abbrev pub facts_of : Item → Facts
facts_of item = record {
  name = item.name;
  mode = item.mode;
  mtime = item.mtime;
  uid = item.uid;
  gid = item.gid;
}

-- ---- a folder that tells what it holds

-- items in order whose first are listed as these are, and are these
pub record Goes (x done : Items Facts) (left : List Item) : Type 0 where
  pub rest : Items Facts
  pub is : x ≡ followed done rest
  pub lists : listing_of rest ≡ left

module _ (held : Items Facts) (path : List (List ℕ)) (all : Items Facts)
    (files : (n b bytes : List ℕ) → bytes_of n all ≡ Some b
    → IsWholeFile true held (path ++ n ∷ []) bytes → b ≡ bytes)
    (folders : (n : List ℕ) (i inside : Items Facts) → inside_of n all ≡ Some i
    → IsWholeFolder true held (path ++ n ∷ []) inside → i ≡ inside) where
  -- what is found among these is found among all
  record Looks (items : Items Facts) : Type 0 where
    pub bytes : (n b : List ℕ) → bytes_of n items ≡ Some b → bytes_of n all ≡ Some b
    pub inside : (n : List ℕ) (i : Items Facts) → inside_of n items ≡ Some i
        → inside_of n all ≡ Some i

  looks_behind_file : (about : Facts) (b : List ℕ) (others : Items Facts)
      → Climb (Some about.name) (listing_of others) → Looks (file about b others) → Looks others
  looks_behind_file about b others rise looks = record {
    bytes = λ n c found. looks.bytes n c
        (rw (apart about.name n (bytes_above about.name n others c rise found)) found);
    inside = λ n i found. looks.inside n i found;
  }

  looks_behind_folder : (about : Facts) (inside others : Items Facts)
      → Climb (Some about.name) (listing_of others) → Looks (folder about inside others)
      → Looks others
  looks_behind_folder about inside others rise looks = record {
    bytes = λ n c found. looks.bytes n c found;
    inside = λ n i found. looks.inside n i
        (rw (apart about.name n (inside_above about.name n others i rise found)) found);
  }

  looks_behind_other : (about : Facts) (others : Items Facts) → Looks (other about others)
      → Looks others
  looks_behind_other about others looks = record {
    bytes = λ n c found. looks.bytes n c found;
    inside = λ n i found. looks.inside n i found;
  }

  same_front : (last : Option (List ℕ)) (x done : Items Facts) (left : List Item)
      → listing_of x ≡ listing_of done ++ left → Climb last (listing_of x) → Looks x
      → AreItemsAt true held path done → Goes x done left
  same_front last x none left is rise looks are = record {
    rest = x;
    is = refl;
    lists = is;
  }
  same_front last none (file about bytes others) left is rise looks are =
      let e : [] ≡ listed_item about kinds.File ∷ (listing_of others ++ left) = is in
      let never : ⊥ = cc in absurd never
  same_front last none (folder about inside others) left is rise looks are =
      let e : [] ≡ listed_item about kinds.Folder ∷ (listing_of others ++ left) = is in
      let never : ⊥ = cc in absurd never
  same_front last none (other about others) left is rise looks are =
      let e : [] ≡ listed_item about kinds.Other ∷ (listing_of others ++ left) = is in
      let never : ⊥ = cc in absurd never
  same_front last (file a b x) (file about bytes others) left is rise looks are =
      let e : listed_item a kinds.File ∷ listing_of x
      ≡ listed_item about kinds.File ∷ (listing_of others ++ left) = is in
      let head : listed_item a kinds.File ≡ listed_item about kinds.File = cc in
      let tail : listing_of x ≡ listing_of others ++ left = cc in
      let same : a ≡ about = ap facts_of head in
      let here : cond (bytes_eq a.name a.name) (Some b) (bytes_of a.name x) ≡ Some b =
      ap (λ (t : Bool). cond t (Some b) (bytes_of a.name x)) (itself a.name) in
      let bytes_are : b ≡ bytes =
      files a.name b bytes (looks.bytes a.name b here)
      (subst (λ (f : Facts). IsWholeFile true held (path ++ f.name ∷ []) bytes) (sym same) are.0)
      in
      let more = same_front (Some a.name) x others left tail rise.1
      (looks_behind_file a b x rise.1 looks) are.1 in
      record {
        rest = more.rest;
        is = λ k. file (same k) (bytes_are k) (more.is k);
        lists = more.lists;
      }
  same_front last (file a b x) (folder about inside others) left is rise looks are =
      let e : listed_item a kinds.File ∷ listing_of x
      ≡ listed_item about kinds.Folder ∷ (listing_of others ++ left) = is in
      let head : listed_item a kinds.File ≡ listed_item about kinds.Folder = cc in
      let kind : kinds.File ≡ kinds.Folder = ap (λ (item : Item). item.kind) head in
      let never : ⊥ = cc in absurd never
  same_front last (file a b x) (other about others) left is rise looks are =
      let e : listed_item a kinds.File ∷ listing_of x
      ≡ listed_item about kinds.Other ∷ (listing_of others ++ left) = is in
      let head : listed_item a kinds.File ≡ listed_item about kinds.Other = cc in
      let kind : kinds.File ≡ kinds.Other = ap (λ (item : Item). item.kind) head in
      let never : ⊥ = cc in absurd never
  same_front last (folder a i x) (file about bytes others) left is rise looks are =
      let e : listed_item a kinds.Folder ∷ listing_of x
      ≡ listed_item about kinds.File ∷ (listing_of others ++ left) = is in
      let head : listed_item a kinds.Folder ≡ listed_item about kinds.File = cc in
      let kind : kinds.Folder ≡ kinds.File = ap (λ (item : Item). item.kind) head in
      let never : ⊥ = cc in absurd never
  same_front last (folder a i x) (folder about inside others) left is rise looks are =
      let e : listed_item a kinds.Folder ∷ listing_of x
      ≡ listed_item about kinds.Folder ∷ (listing_of others ++ left) = is in
      let head : listed_item a kinds.Folder ≡ listed_item about kinds.Folder = cc in
      let tail : listing_of x ≡ listing_of others ++ left = cc in
      let same : a ≡ about = ap facts_of head in
      let here : cond (bytes_eq a.name a.name) (Some i) (inside_of a.name x) ≡ Some i =
      ap (λ (t : Bool). cond t (Some i) (inside_of a.name x)) (itself a.name) in
      let inside_is : i ≡ inside =
      folders a.name i inside (looks.inside a.name i here)
      (subst (λ (f : Facts). IsWholeFolder true held (path ++ f.name ∷ []) inside) (sym same)
      are.0) in
      let more = same_front (Some a.name) x others left tail rise.1
      (looks_behind_folder a i x rise.1 looks) are.1 in
      record {
        rest = more.rest;
        is = λ k. folder (same k) (inside_is k) (more.is k);
        lists = more.lists;
      }
  same_front last (folder a i x) (other about others) left is rise looks are =
      let e : listed_item a kinds.Folder ∷ listing_of x
      ≡ listed_item about kinds.Other ∷ (listing_of others ++ left) = is in
      let head : listed_item a kinds.Folder ≡ listed_item about kinds.Other = cc in
      let kind : kinds.Folder ≡ kinds.Other = ap (λ (item : Item). item.kind) head in
      let never : ⊥ = cc in absurd never
  same_front last (other a x) (file about bytes others) left is rise looks are =
      let e : listed_item a kinds.Other ∷ listing_of x
      ≡ listed_item about kinds.File ∷ (listing_of others ++ left) = is in
      let head : listed_item a kinds.Other ≡ listed_item about kinds.File = cc in
      let kind : kinds.Other ≡ kinds.File = ap (λ (item : Item). item.kind) head in
      let never : ⊥ = cc in absurd never
  same_front last (other a x) (folder about inside others) left is rise looks are =
      let e : listed_item a kinds.Other ∷ listing_of x
      ≡ listed_item about kinds.Folder ∷ (listing_of others ++ left) = is in
      let head : listed_item a kinds.Other ≡ listed_item about kinds.Folder = cc in
      let kind : kinds.Other ≡ kinds.Folder = ap (λ (item : Item). item.kind) head in
      let never : ⊥ = cc in absurd never
  same_front last (other a x) (other about others) left is rise looks are =
      let e : listed_item a kinds.Other ∷ listing_of x
      ≡ listed_item about kinds.Other ∷ (listing_of others ++ left) = is in
      let head : listed_item a kinds.Other ≡ listed_item about kinds.Other = cc in
      let tail : listing_of x ≡ listing_of others ++ left = cc in
      let same : a ≡ about = ap facts_of head in
      let more = same_front (Some a.name) x others left tail rise.1
      (looks_behind_other a x looks) are in
      record {
        rest = more.rest;
        is = λ k. other (same k) (more.is k);
        lists = more.lists;
      }

-- ---- a folder that tells nothing

place_first : (name : List ℕ) (put : Items Facts → Items Facts) (items : Items Facts)
    → Climb (Some name) (listing_of items) → placed name put items ≡ put items
place_first name put none rise = refl
place_first name put (file about bytes others) rise = rw (not_both name about.name rise.0) refl
place_first name put (folder about inside others) rise =
    rw (not_both name about.name rise.0) refl
place_first name put (other about others) rise = rw (not_both name about.name rise.0) refl

module _ (held : Items Facts) (path : List (List ℕ)) where
  order_of : (last : Option (List ℕ)) (x : Items Facts) → Climb last (listing_of x)
      → AreItemsAt false held path x → (seen : Items Facts) × (in_order seen ≡ x)
  order_of last none rise are = (none, refl)
  order_of last (file about bytes others) rise are =
      let more = order_of (Some about.name) others rise.1 are.1 in (
        file about bytes more.0,
        ap (placed about.name (file about bytes)) more.1
            ∙ place_first about.name (file about bytes) others rise.1,
      )
  order_of last (folder about inside others) rise are =
      let more = order_of (Some about.name) others rise.1 are.1 in (
        folder about are.0.seen more.0,
        (λ i. placed about.name (folder about (sym are.0.ordered i)) (more.1 i))
            ∙ place_first about.name (folder about inside) others rise.1,
      )
  order_of last (other about others) rise are =
      let more = order_of (Some about.name) others rise.1 are in (
        other about more.0,
        ap (placed about.name (other about)) more.1
            ∙ place_first about.name (other about) others rise.1,
      )

  -- items that weren't read
  put_as : ItemKind → Facts → Items Facts → Items Facts
  put_as kinds.File about others = file about [] others
  put_as kinds.Folder about others = folder about none others
  put_as kinds.Other about others = other about others

  pub unread : List Item → Items Facts
  unread [] = none
  unread (item ∷ items) = put_as item.kind (facts_of item) (unread items)

  put_lists : (k : ItemKind) (about : Facts) (others : Items Facts)
      → listing_of (put_as k about others) ≡ listed_item about k ∷ listing_of others
  unfolding put_as
  put_lists kinds.File about others = refl
  put_lists kinds.Folder about others = refl
  put_lists kinds.Other about others = refl

  pub unread_lists : (items : List Item) → listing_of (unread items) ≡ items
  unfolding unread
  unread_lists [] = refl
  unread_lists (item ∷ items) =
      put_lists item.kind (facts_of item) (unread items)
      ∙ ap (λ (l : List Item). item ∷ l) (unread_lists items)

  put_are : (k : ItemKind) (about : Facts) (others : Items Facts)
      → AreItemsAt false held path others → AreItemsAt false held path (put_as k about others)
  unfolding put_as
  put_are kinds.File about others are = (
    record {
      are = AreBytes-none;
      is = λ told. absurd (false≢true told);
    },
    are,
  )
  put_are kinds.Folder about others are = (
    record {
      seen = none;
      is = λ told. absurd (false≢true told);
      ordered = refl;
    },
    are,
  )
  put_are kinds.Other about others are = are

  unread_are : (items : List Item) → AreItemsAt false held path (unread items)
  unfolding unread
  unread_are [] = tt
  unread_are (item ∷ items) =
      put_are item.kind (facts_of item) (unread items) (unread_are items)

-- ---- either

pub are_followed : (tells : Bool) (held : Items Facts) (path : List (List ℕ)) (a b : Items Facts)
    → AreItemsAt tells held path a → AreItemsAt tells held path b
    → AreItemsAt tells held path (followed a b)
are_followed tells held path none b first then = then
are_followed tells held path (file about bytes others) b first then =
    (first.0, are_followed tells held path others b first.1 then)
are_followed tells held path (folder about inside others) b first then =
    (first.0, are_followed tells held path others b first.1 then)
are_followed tells held path (other about others) b first then =
    are_followed tells held path others b first then

-- they are those of what it holds then too, if it tells that it holds the same
pub are_as : (tells : Bool) (then held : Items Facts) (path : List (List ℕ)) (part : Items Facts)
    → (IsTrue tells → then ≡ held) → AreItemsAt tells then path part
    → AreItemsAt tells held path part
are_as tells then held path none same are = tt
are_as tells then held path (file about bytes others) same are = (
  record {
    are = are.0.are;
    is = λ telling whole found. are.0.is telling whole
        (ap (file_at (path ++ about.name ∷ [])) (same telling) ∙ found);
  },
  are_as tells then held path others same are.1,
)
are_as tells then held path (folder about inside others) same are = (
  record {
    seen = are.0.seen;
    is = λ telling whole found. are.0.is telling whole
        (ap (folder_at (path ++ about.name ∷ [])) (same telling) ∙ found);
    ordered = are.0.ordered;
  },
  are_as tells then held path others same are.1,
)
are_as tells then held path (other about others) same are =
    are_as tells then held path others same are

-- the folder at a path, whose items in order begin with those that were archived
pub record Whole (tells : Bool) (held : Items Facts) (path : List (List ℕ)) (done : Items Facts)
    (left : List Item) : Type 0 where
  pub seen : Items Facts
  pub is : IsSeenAt tells held path seen
  pub rest : Items Facts
  pub ordered : in_order seen ≡ followed done rest
  pub lists : listing_of rest ≡ left
  pub fit : unfit_listing (joined_path path) (in_order seen) ≡ None

pub whole_of : (tells : Bool) (held : Items Facts) (path : List (List ℕ)) (items : List Item)
    (done : Items Facts) (left : List Item) → AreListed tells held path items
    → items ≡ listing_of done ++ left → AreItemsAt tells held path done
    → Whole tells held path done left
whole_of true held path items done left listed split are = record {
  seen = listed.seen;
  is = λ telling whole found. let two : Some whole ≡ Some listed.seen = sym found ∙ there in cc;
  rest = goes.rest;
  ordered = goes.is;
  lists = goes.lists;
  fit = listed.fit;
}
  where
    there : folder_at path held ≡ Some listed.seen
    there = listed.is refl

    all : Items Facts
    all = in_order listed.seen

    goes : Goes (in_order listed.seen) done left
    goes = same_front held path (in_order listed.seen)
        (λ n b bytes found w. w.is refl b (file_found path n held listed.seen there
        ∙ sym (bytes_in_order n listed.seen) ∙ found))
        (λ n i inside found w. of n i inside (inside_of n listed.seen) refl found w) None
        (in_order listed.seen) done left (sym listed.ordered ∙ split)
        (subst (Climb None) listed.ordered (listed_climb true held path items listed))
        (record {
          bytes = λ n b found. found;
          inside = λ n i found. found;
        }) are
      where
        of : (n : List ℕ) (i inside : Items Facts) (o : Option (Items Facts))
            → inside_of n listed.seen ≡ o → inside_of n (in_order listed.seen) ≡ Some i
            → IsWholeFolder true held (path ++ n ∷ []) inside → i ≡ inside
        of n i inside None is found w =
            let none_there : None ≡ Some i =
            ap (option_map in_order) (sym is) ∙ sym (inside_in_order n listed.seen) ∙ found in
            let never : ⊥ = cc in absurd never
        of n i inside (Some held_inside) is found w =
            let one : Some (in_order held_inside) ≡ Some i =
            ap (option_map in_order) (sym is) ∙ sym (inside_in_order n listed.seen) ∙ found in
            let same : in_order held_inside ≡ i = cc in
            sym same
            ∙ ap in_order (w.is refl held_inside
            (folder_found path n held listed.seen there ∙ is))
            ∙ sym w.ordered
whole_of false held path items done left listed split are = record {
  seen = order.0;
  is = λ telling. absurd (false≢true telling);
  rest = unread held path left;
  ordered = order.1;
  lists = unread_lists held path left;
  fit = same_listing (joined_path path) (in_order order.0) (in_order listed.seen)
      (ap listing_of order.1 ∙ sym all ∙ listed.ordered) ∙ listed.fit;
}
  where
    all : items ≡ listing_of (followed done (unread held path left))
    all =
        split
        ∙ ap (λ (l : List Item). listing_of done ++ l) (sym (unread_lists held path left))
        ∙ sym (listing_followed done (unread held path left))

    order : (seen : Items Facts) × (in_order seen ≡ followed done (unread held path left))
    order = order_of held path None (followed done (unread held path left))
        (subst (Climb None) all (listed_climb false held path items listed))
        (are_followed false held path done (unread held path left) are
        (unread_are held path left))
