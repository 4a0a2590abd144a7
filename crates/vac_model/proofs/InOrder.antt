-- Items in the order of their names.
use Rattle.std.proofs.Common.{Option, Some, None, List, ℕ, inl, inr}
use Rattle.std.specs.Prelude.{⊤}
use Rattle.std.specs.Ordering.{nat_cmp, is_lt}
use Rattle.std.specs.Cmp.Lexicographic.{slice_cmp}
use Rattle.std.proofs.lemmas.Bool.{cases_Bool}
use Rattle.vt_out.specs.declared.folder_item.Facts.{Facts}
use Rattle.vt_out.specs.FolderItems.{Items, none, file, folder, other}
use Rattle.vac_model.specs.Kept.{placed, in_order}
use Rattle.vac_model.proofs.Names.{NotBelow, not_both}

-- a name isn't below this one, if there is one
abbrev pub NotBefore : (last : Option (List ℕ)) → (name : List ℕ) → Type 0
NotBefore None name = ⊤
NotBefore (Some last) name = NotBelow name last

-- no name is below the one before it, in any folder
abbrev pub AreOrdered : (last : Option (List ℕ)) → Items Facts → Type 0
AreOrdered last none = ⊤
AreOrdered last (file about bytes others) =
    NotBefore last about.name × AreOrdered (Some about.name) others
AreOrdered last (folder about inside others) =
    NotBefore last about.name × AreOrdered None inside × AreOrdered (Some about.name) others
AreOrdered last (other about others) =
    NotBefore last about.name × AreOrdered (Some about.name) others

-- what puts an item of this name before others
abbrev PutsNamed : (name : List ℕ) → (put : Items Facts → Items Facts) → Type 0
PutsNamed name put = (last : Option (List ℕ)) (rest : Items Facts) → NotBefore last name
    → AreOrdered (Some name) rest → AreOrdered last (put rest)

placed_ordered : (name : List ℕ) (put : Items Facts → Items Facts) (last : Option (List ℕ))
    (items : Items Facts) → PutsNamed name put → NotBefore last name → AreOrdered last items
    → AreOrdered last (placed name put items)
placed_ordered name put last none puts first ordered = puts last none first tt
placed_ordered name put last (file about bytes others) puts first ordered =
    elim (cases_Bool (is_lt (slice_cmp nat_cmp about.name name))) [
      | inl less ↦
          rw less (
            ordered.0,
            placed_ordered name put (Some about.name) others puts (not_both about.name name less)
                ordered.1,
          )
      | inr not ↦ rw not (puts last (file about bytes others) first (not, ordered.1))
    ]
placed_ordered name put last (folder about inside others) puts first ordered =
    elim (cases_Bool (is_lt (slice_cmp nat_cmp about.name name))) [
      | inl less ↦
          rw less (
            ordered.0,
            ordered.1,
            placed_ordered name put (Some about.name) others puts (not_both about.name name less)
                ordered.2,
          )
      | inr not ↦
          rw not (puts last (folder about inside others) first (not, ordered.1, ordered.2))
    ]
placed_ordered name put last (other about others) puts first ordered =
    elim (cases_Bool (is_lt (slice_cmp nat_cmp about.name name))) [
      | inl less ↦
          rw less (
            ordered.0,
            placed_ordered name put (Some about.name) others puts (not_both about.name name less)
                ordered.1,
          )
      | inr not ↦ rw not (puts last (other about others) first (not, ordered.1))
    ]

pub are_ordered : (items : Items Facts) → AreOrdered None (in_order items)
are_ordered none = tt
are_ordered (file about bytes others) =
    placed_ordered about.name (file about bytes) None (in_order others)
    (λ last rest first ordered. (first, ordered)) tt (are_ordered others)
are_ordered (folder about inside others) =
    let within = are_ordered inside in
    placed_ordered about.name (folder about (in_order inside)) None (in_order others)
    (λ last rest first ordered. (first, within, ordered)) tt (are_ordered others)
are_ordered (other about others) =
    placed_ordered about.name (other about) None (in_order others)
    (λ last rest first ordered. (first, ordered)) tt (are_ordered others)
