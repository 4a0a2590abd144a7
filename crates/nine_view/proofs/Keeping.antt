-- What holds of all fids, when one is set or goes.
use Rattle.std.proofs.Common.{◌≡◌, ◌==◌, ℕ, Some, List, [], ◌∷◌, refl, sym, ◌∙◌, ap, subst, inl, inr, eq-eqb, eqb-true}
use Rattle.std.specs.List.{All, AllByRecursion}
use Rattle.std.proofs.lemmas.Bool.{cases_Bool}
use Rattle.vt_tree.specs.Maps.{BlockMap}
use Rattle.vac_read.specs.declared.kept.KeptFolder.{KeptFolder}
use Rattle.vac_read.specs.declared.last_way.WayBlock.{WayBlock}
use Rattle.vac_read.specs.declared.node.Node.{Node}
use Rattle.vac_read.specs.Kept.{IsRightKept}
use Rattle.vac_read.specs.LastWay.{IsRightWay}
use Rattle.vac_read.specs.Nodes.{AreNodeEntries, FitsToldItem}
use Rattle.nine_view.specs.declared.fid.Fid.{Fid}
use Rattle.nine_view.specs.Files.{FitsMessage}
use Rattle.nine_view.specs.Kept.{IsKeptView, IsKeptFid}
use Rattle.nine_view.specs.Known.{ViewState, IsRightView, IsRightFid, along, fid_at, keeping, with_fid, without_fid}

module _ (P : Fid → Type 0) (fid : ℕ) where
  pub all_with : (f : Fid) (fids : List (ℕ × Fid)) → AllByRecursion (λ e. P e.1) fids → P f
      → AllByRecursion (λ e. P e.1) (with_fid fid f fids)
  all_with f [] all is = (is, tt)
  all_with f (e ∷ fids) all is = elim (cases_Bool (e.0 == fid)) [
    | inl a ↦ rw a (is, all.1)
    | inr a ↦ rw a (all.0, all_with f fids all.1 is)
  ]

  pub all_without : (fids : List (ℕ × Fid)) → AllByRecursion (λ e. P e.1) fids
      → AllByRecursion (λ e. P e.1) (without_fid fid fids)
  all_without [] all = tt
  all_without (e ∷ fids) all = elim (cases_Bool (e.0 == fid)) [
    | inl a ↦ rw a all.1
    | inr a ↦ rw a (all.0, all_without fids all.1)
  ]

  pub one_at : (f : Fid) (fids : List (ℕ × Fid)) → AllByRecursion (λ e. P e.1) fids
      → fid_at fid fids ≡ Some f → P f
  one_at f [] all at = absurd (cc)
  one_at f (e ∷ fids) all at = elim (cases_Bool (e.0 == fid)) [
    | inl a ↦ let here = rw a at at in
        let same : e.1 ≡ f = cc in subst P same all.0
    | inr a ↦ one_at f fids all.1 (rw a at at)
  ]

module _ (fid : ℕ) where
  -- what was set is there
  pub at_with : (f : Fid) (fids : List (ℕ × Fid)) → fid_at fid (with_fid fid f fids) ≡ Some f
  at_with f [] = rw (eq-eqb fid fid refl) refl
  at_with f (e ∷ fids) = elim (cases_Bool (e.0 == fid)) [
    | inl a ↦ rw (a, eq-eqb fid fid refl) refl
    | inr a ↦ rw (a, a) (at_with f fids)
  ]

  -- the last that was set counts
  pub with_with : (f g : Fid) (fids : List (ℕ × Fid))
      → with_fid fid g (with_fid fid f fids) ≡ with_fid fid g fids
  with_with f g [] = rw (eq-eqb fid fid refl) refl
  with_with f g (e ∷ fids) = elim (cases_Bool (e.0 == fid)) [
    | inl a ↦ rw (a, eq-eqb fid fid refl) refl
    | inr a ↦ rw (a, a) (ap (λ l. e ∷ l) (with_with f g fids))
  ]

  -- setting what is there changes nothing
  pub with_same : (f : Fid) (fids : List (ℕ × Fid)) → fid_at fid fids ≡ Some f
      → with_fid fid f fids ≡ fids
  with_same f [] at = absurd (cc)
  with_same f (e ∷ fids) at = elim (cases_Bool (e.0 == fid)) [
    | inl a ↦ rw a (let here = rw a at at in
        let number : e.0 ≡ fid = eqb-true e.0 fid a in
        let same : e.1 ≡ f = cc in
        ap (λ n. (n, f) ∷ fids) (sym number) ∙ ap (λ g. (e.0, g) ∷ fids) (sym same))
    | inr a ↦ rw a (ap (λ l. e ∷ l) (with_same f fids (rw a at at)))
  ]

-- ---- all that a view keeps

pub kept_with : (known : ViewState) (fid : ℕ) (f : Fid) → IsKeptView known → IsKeptFid f
    → IsKeptView (record known { fids = with_fid fid f known.fids })
kept_with known fid f kept is = record {
  top = kept.top;
  msize = kept.msize;
  fids = all_with IsKeptFid fid f known.fids kept.fids is;
}

pub kept_without : (known : ViewState) (fid : ℕ) → IsKeptView known
    → IsKeptView (record known { fids = without_fid fid known.fids })
kept_without known fid kept = record {
  top = kept.top;
  msize = kept.msize;
  fids = all_without IsKeptFid fid known.fids kept.fids;
}

pub kept_fid : (known : ViewState) (fid : ℕ) (f : Fid) → IsKeptView known
    → fid_at fid known.fids ≡ Some f → IsKeptFid f
kept_fid known fid f kept at = one_at IsKeptFid fid f known.fids kept.fids at

-- it stands for an archive as before

pub right_with : (map : BlockMap) (known : ViewState) (fid : ℕ) (f : Fid) → IsRightView map known
    → IsRightFid map known.top f
    → IsRightView map (record known { fids = with_fid fid f known.fids })
right_with map known fid f right is = record {
  fids = all_with (λ (g : Fid). IsRightFid map known.top g) fid f known.fids right.fids is;
  kept = right.kept;
  way = right.way;
}

pub right_without : (map : BlockMap) (known : ViewState) (fid : ℕ) → IsRightView map known
    → IsRightView map (record known { fids = without_fid fid known.fids })
right_without map known fid right = record {
  fids = all_without (λ (g : Fid). IsRightFid map known.top g) fid known.fids right.fids;
  kept = right.kept;
  way = right.way;
}

pub right_fid : (map : BlockMap) (known : ViewState) (fid : ℕ) (f : Fid) → IsRightView map known
    → fid_at fid known.fids ≡ Some f → IsRightFid map known.top f
right_fid map known fid f right at =
    one_at (λ (g : Fid). IsRightFid map known.top g) fid f known.fids right.fids at

-- another folder is kept
pub right_keeping : (map : BlockMap) (known : ViewState) (kept : List KeptFolder)
    → IsRightView map known → IsRightKept map kept → IsRightView map (keeping kept known)
right_keeping map known kept right is = record { fids = right.fids; kept = is; way = right.way }

-- other blocks are kept of the way of the last read
pub right_along : (map : BlockMap) (known : ViewState) (way : List WayBlock)
    → IsRightView map known → IsRightWay map way → IsRightView map (along way known)
right_along map known way right is = record { fids = right.fids; kept = right.kept; way = is }

pub kept_keeping : (known : ViewState) (kept : List KeptFolder) → IsKeptView known
    → IsKeptView (keeping kept known)
kept_keeping known kept is = record { top = is.top; msize = is.msize; fids = is.fids }

-- ---- what is told of files

pub told_all : (nodes : List Node) → All (λ (n : Node). AreNodeEntries n.stored) nodes
    → All (λ (n : Node). FitsToldItem n.item) nodes → All FitsMessage nodes
told_all nodes entries items k d within =
    record { item = items k d within; entries = entries k d within }
