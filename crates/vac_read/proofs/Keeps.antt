-- Folders that are kept, when one is looked into or one more is kept.
use Rattle.std.proofs.Common.{◌≡◌, ◌+◌, ◌<◌, ◌≤◌, ◌⊎◌, ℕ, zero, suc, List, [], ◌∷◌, ◌++◌, length, get_or, set, length-set, refl, sym, ◌∙◌, ap, subst, inl, inr, arith, ⊎_elim}
use Rattle.std.specs.List.{AllByRecursion}
use Rattle.std.proofs.lemmas.Bool.{cases_Bool}
use Rattle.vt_tree.specs.Content.{size_of}
use Rattle.vt_tree.specs.Maps.{BlockMap}
use Rattle.vt_tree.specs.declared.entry.Entry.{Entry}
use Rattle.vac_model.specs.Trees.{AreFolder}
use Rattle.vac_read.specs.declared.directory.Directory.{Directory}
use Rattle.vac_read.specs.declared.kept.KeptFolder.{KeptFolder}
use Rattle.vac_read.specs.declared.node.Stored.{Stored}
use Rattle.vac_read.specs.declared.node.Stored.TheVariants as stored
use Rattle.vac_read.specs.Folders.{KeepsLeaf}
use Rattle.vac_read.specs.declared.TheConstants.{MAX_KEPT}
use Rattle.vac_read.specs.Nodes.{IsDirectory}
use Rattle.vac_read.specs.Kept.{IsKeptAt, IsKeptFolder, IsKeptOf, IsRightFolder, IsRightKept, AreKept, HasRoom, KeepsStored, StaysKept, all_cost, kept_cost, stored_cost}

-- ---- lists

module _ {X : Type 0} where
  pub all_at : (P : X → Type 0) (xs : List X) (at : ℕ) (d : X) → AllByRecursion P xs
      → at < length xs → P (get_or xs at d)
  all_at P [] at d all within = absurd (omega arith)
  all_at P (x ∷ xs) zero d all within = all.0
  all_at P (x ∷ xs) (suc at) d all within = all_at P xs at d all.1 (omega arith)

  pub all_set : (P : X → Type 0) (xs : List X) (at : ℕ) (y : X) → AllByRecursion P xs → P y
      → AllByRecursion P (set xs at y)
  all_set P [] at y all is = tt
  all_set P (x ∷ xs) zero y all is = (is, all.1)
  all_set P (x ∷ xs) (suc at) y all is = (all.0, all_set P xs at y all.1 is)

  pub all_push : (P : X → Type 0) (xs : List X) (y : X) → AllByRecursion P xs → P y
      → AllByRecursion P (xs ++ y ∷ [])
  all_push P [] y all is = (is, tt)
  all_push P (x ∷ xs) y all is = (all.0, all_push P xs y all.1 is)

pub same_item : {X : Type 0} (xs : List X) (at : ℕ) (x d : X) → at < length xs
    → x ≡ get_or xs at x → get_or xs at d ≡ x
same_item [] at x d within is = absurd (omega arith)
same_item (y ∷ xs) zero x d within is = sym is
same_item (y ∷ xs) (suc at) x d within is = same_item xs at x d (omega arith) is

-- ---- where a folder is kept

module _ (entries metadata : Entry) where
  pub at_within : (folders : List KeptFolder) (at : ℕ) → IsKeptAt entries metadata folders at
      → at < length folders
  at_within [] at it = absurd it
  at_within (k ∷ folders) zero it = omega arith
  at_within (k ∷ folders) (suc at) it =
      let below = at_within folders at it in omega arith

  pub at_item : (folders : List KeptFolder) (at : ℕ) (d : KeptFolder)
      → IsKeptAt entries metadata folders at → IsKeptOf entries metadata (get_or folders at d)
  at_item [] at d it = absurd it
  at_item (k ∷ folders) zero d it = it
  at_item (k ∷ folders) (suc at) d it = at_item folders at d it

  pub at_from : (folders : List KeptFolder) (at : ℕ) (d : KeptFolder) → at < length folders
      → IsKeptOf entries metadata (get_or folders at d) → IsKeptAt entries metadata folders at
  at_from [] at d within is = absurd (omega arith)
  at_from (k ∷ folders) zero d within is = is
  at_from (k ∷ folders) (suc at) d within is = at_from folders at d (omega arith) is

  -- another folder's leaf is no matter, and where it is this one it stays this one
  pub at_each : (folders : List KeptFolder) (at place : ℕ) (new d : KeptFolder)
      → (IsKeptOf entries metadata (get_or folders at d) → IsKeptOf entries metadata new)
      → IsKeptAt entries metadata folders place
      → IsKeptAt entries metadata (set folders at new) place
  at_each [] at place new d still it = it
  at_each (k ∷ folders) zero zero new d still it = still it
  at_each (k ∷ folders) zero (suc place) new d still it = it
  at_each (k ∷ folders) (suc at) zero new d still it = it
  at_each (k ∷ folders) (suc at) (suc place) new d still it =
      at_each folders at place new d still it

  pub at_front : (folders more : List KeptFolder) (place : ℕ)
      → IsKeptAt entries metadata folders place → IsKeptAt entries metadata (folders ++ more) place
  at_front [] more place it = absurd it
  at_front (k ∷ folders) more zero it = it
  at_front (k ∷ folders) more (suc place) it = at_front folders more place it

  pub at_push : (folders : List KeptFolder) (new : KeptFolder) → IsKeptOf entries metadata new
      → IsKeptAt entries metadata (folders ++ new ∷ []) (length folders)
  at_push [] new is = is
  at_push (k ∷ folders) new is = at_push folders new is

-- ---- what they count

pub cost_set : (xs : List KeptFolder) (at : ℕ) (y d : KeptFolder) → at < length xs
    → kept_cost y ≡ kept_cost (get_or xs at d) → all_cost (set xs at y) ≡ all_cost xs
cost_set [] at y d within same = absurd (omega arith)
cost_set (x ∷ xs) zero y d within same = ap (λ (n : ℕ). n + all_cost xs) same
cost_set (x ∷ xs) (suc at) y d within same =
    ap (λ (n : ℕ). kept_cost x + n) (cost_set xs at y d (omega arith) same)

pub cost_push : (xs : List KeptFolder) (y : KeptFolder)
    → all_cost (xs ++ y ∷ []) ≡ all_cost xs + kept_cost y
cost_push [] y = omega arith
cost_push (x ∷ xs) y = omega (arith, cost_push xs y)

pub size_le : (e : Entry) → size_of e ≤ e.size
size_le e = elim (cases_Bool e.active) [
  | inl a ↦ rw a (omega arith)
  | inr a ↦ rw a (omega arith)
]

-- ---- one that was looked into

module _ (folders : List KeptFolder) (at : ℕ) (new : KeptFolder) (d : KeptFolder)
    (within : at < length folders)
    (same : new ≡ record (get_or folders at d) { directory = new.directory })
    (stream : new.directory.stream ≡ (get_or folders at d).directory.stream)
  where
    -- it is another leaf that is kept
    abbrev leafed : Directory → KeptFolder
    leafed directory = record (get_or folders at d) { directory = directory }

    pub still_kept : AreKept folders → AreKept (set folders at new)
    still_kept are =
        let one = all_at IsKeptFolder folders at d are.each within in
        let kept : IsKeptFolder (leafed new.directory) = record {
          stream = subst (λ (e : Entry). IsDirectory e) (sym stream) one.stream;
          metadata = one.metadata;
          are_records = one.are_records;
          short = one.short;
          most = one.most;
        } in
        record {
          each = all_set IsKeptFolder folders at new are.each
              (subst (λ (k : KeptFolder). IsKeptFolder k) (sym same) kept);
          most = subst (λ (n : ℕ). n ≤ MAX_KEPT)
              (sym (cost_set folders at new d within (ap (λ (k : KeptFolder). kept_cost k) same)))
              are.most;
        }

    pub same_cost : all_cost (set folders at new) ≡ all_cost folders
    same_cost = cost_set folders at new d within (ap (λ (k : KeptFolder). kept_cost k) same)

    pub still_at : (entries metadata : Entry) (place : ℕ) → IsKeptAt entries metadata folders place
        → IsKeptAt entries metadata (set folders at new) place
    still_at entries metadata place it =
        at_each entries metadata folders at place new d
        (λ was. record {
          stream = stream ∙ was.stream;
          metadata_is = ap (λ (k : KeptFolder). k.metadata) same ∙ was.metadata_is;
        }) it

    pub still_right : (map : BlockMap) → IsRightKept map folders → KeepsLeaf map new.directory
        → IsRightKept map (set folders at new)
    still_right map right leaf =
        let one = all_at (IsRightFolder map) folders at d right within in
        let is : IsRightFolder map (leafed new.directory) = record {
          are = subst (λ (e : Entry). AreFolder map e (get_or folders at d).metadata
              (get_or folders at d).records) (sym stream) one.are;
          leaf = leaf;
        } in
        all_set (IsRightFolder map) folders at new right
        (subst (λ (k : KeptFolder). IsRightFolder map k) (sym same) is)

-- ---- what stays

pub all_stored : (old new : List KeptFolder)
    → ((entries metadata : Entry) (place : ℕ) → IsKeptAt entries metadata old place
    → IsKeptAt entries metadata new place) → (other : Stored) → KeepsStored other old
    → KeepsStored other new
all_stored old new still (stored.File e) it = tt
all_stored old new still (stored.Folder entries metadata) it =
    (it.0, still entries metadata it.0 it.1)

-- nothing was kept, and nothing let go
pub stays_same : (s : Stored) (folders : List KeptFolder) → StaysKept s folders folders
stays_same s folders = record {
  stays = λ room other it. it;
  again = λ it. omega arith;
  costs = omega arith;
}

-- all was let go where the folder, which wasn't kept, has no room
pub stays_room : (s : Stored) (old new : List KeptFolder) → (KeepsStored s old → ⊥)
    → (all_cost old + stored_cost s ≤ MAX_KEPT → new ≡ old) → (new ≡ old) ⊎ (new ≡ [])
    → StaysKept s old new
stays_room s old new none same left = record {
  stays = λ room other it. subst (KeepsStored other) (sym (same (there room))) it;
  again = λ it. absurd (none it);
  costs = ⊎_elim
      (λ (is : new ≡ old). let e = ap (λ (l : List KeptFolder). all_cost l) is in omega (arith, e))
      (λ (is : new ≡ []). let e = ap (λ (l : List KeptFolder). all_cost l) is in omega (arith, e))
      left;
}
  where
    there : HasRoom s old → all_cost old + stored_cost s ≤ MAX_KEPT
    there (inl it) = absurd (none it)
    there (inr room) = room

-- and it is kept then behind what is left
pub stays_push : (s : Stored) (old mid new : List KeptFolder) (k : KeptFolder)
    → (KeepsStored s old → ⊥) → StaysKept s old mid → new ≡ mid ++ k ∷ []
    → all_cost mid ≤ all_cost old → kept_cost k ≡ stored_cost s → StaysKept s old new
stays_push s old mid new k none left is fewer cost = record {
  stays = λ room other it. subst (KeepsStored other) (sym is)
      (all_stored mid (mid ++ k ∷ []) (λ e m place. at_front e m mid (k ∷ []) place) other
      (left.stays room other it));
  again = λ it. absurd (none it);
  costs =
      let all = ap (λ (l : List KeptFolder). all_cost l) is ∙ cost_push mid k in
      omega (arith, all, fewer, cost);
}

-- another leaf of one of them is kept
pub stays_leaf : (s : Stored) (old mid new : List KeptFolder) → StaysKept s old mid
    → ((entries metadata : Entry) (place : ℕ) → IsKeptAt entries metadata mid place
    → IsKeptAt entries metadata new place) → all_cost new ≡ all_cost mid → StaysKept s old new
stays_leaf s old mid new was still cost = record {
  stays = λ room other it. all_stored mid new still other (was.stays room other it);
  again = λ it. let a = was.again it in omega (arith, a, cost);
  costs = let c = was.costs in omega (arith, c, cost);
}
