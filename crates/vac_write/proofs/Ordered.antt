-- A listing that was sorted.
use Rattle.std.proofs.Common.{◌≡◌, Bool, true, false, ℕ, IsTrue, Some, List, sym, subst, refl}
use Rattle.std.specs.List.Sorted.{IsSortedBy, IsStableBy}
use Rattle.std.proofs.lemmas.Bool.{false≢true}
use Rattle.vt_out.specs.declared.folder_item.Facts.{Facts}
use Rattle.vt_out.specs.declared.folder_item.Item.{Item}
use Rattle.vt_out.specs.FolderItems.{Items, listing_of, folder_at}
use Rattle.vac_model.specs.Kept.{in_order}
use Rattle.vac_write.proofs.Listed.{below, sorted_listing}
use Rattle.vac_write.proofs.Wholes.{unread, unread_lists}

-- the items of a folder in order, which is the one at this path, if that is told
pub record AreOrdered (tells : Bool) (held : Items Facts) (path : List (List ℕ))
    (sorted : List Item) : Type 0 where
  pub seen : Items Facts
  pub is : IsTrue tells → folder_at path held ≡ Some seen
  pub ordered : sorted ≡ listing_of (in_order seen)

pub ordered_of : (tells : Bool) (held : Items Facts) (path : List (List ℕ))
    (items sorted : List Item)
    → (IsTrue tells → (seen : Items Facts) × (folder_at path held ≡ Some seen)
    × (items ≡ listing_of seen))
    → IsSortedBy below sorted → IsStableBy below items sorted
    → AreOrdered tells held path sorted
ordered_of true held path items sorted listed rises stable =
    let l = listed refl in
    record {
      seen = l.0;
      is = λ told. l.1;
      ordered = sorted_listing l.0 sorted rises
          (subst (λ (xs : List Item). IsStableBy below xs sorted) l.2 stable);
    }
ordered_of false held path items sorted listed rises stable =
    let seen : Items Facts = unread held path items in
    record {
      seen = seen;
      is = λ told. absurd (false≢true told);
      ordered = sorted_listing seen sorted rises
          (subst (λ (xs : List Item). IsStableBy below xs sorted)
          (sym (unread_lists held path items)) stable);
    }
