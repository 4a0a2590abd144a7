-- How many blocks a walk asks for at most, and of which folders the records are kept behind it.
use Rattle.std.specs.Prelude.{ℕ, ◌≡◌, ◌≢◌, ◌+◌, ◌⊎◌, true, false, Option, None, Result, Ok, Err, List, [], ◌∷◌}
use Rattle.std.specs.Str.{bytes_eq}
use Rattle.vt_tree.specs.Maps.{BlockMap}
use Rattle.vac_read.specs.declared.error.VacBad.{VacBad}
use Rattle.vac_read.specs.declared.kept.KeptFolder.{KeptFolder}
use Rattle.vac_read.specs.declared.node.Stored.{Stored}
use Rattle.vac_read.specs.Asking.{FindAsks}
use Rattle.vac_read.specs.Kept.{KeepsStored, StaysKept}
use Rattle.nine_view.specs.declared.place.Place.{Place}
use Rattle.nine_view.specs.declared.request_error.RequestError.{RequestError}
use Rattle.nine_view.specs.Walks.{StepsTo, dots}

-- One name is looked for in what is stored so, where this was kept of folders, and this is behind it: so many blocks
-- at most; and for the folder above none, and nothing else is kept.
pub record StepAsks (zero_score : List ℕ) (map : BlockMap) (s : Stored) (name : List ℕ)
    (old new : List KeptFolder) (n : ℕ) : Type 0 where
  pub few : FindAsks zero_score s old map n
  pub stays : StaysKept s old new
  pub up : bytes_eq name dots ≡ true → (n ≡ 0) × (new ≡ old)

-- the folder in which the name was looked for is kept
abbrev pub KeepsSearched : Stored → (name : List ℕ) → List KeptFolder → Type 0
KeepsSearched s name kept = bytes_eq name dots ≡ false → KeepsStored s kept

-- These names are looked for, one after another, from a place that was reached, or wasn't: so many blocks at most in
-- all, those for each by what is kept then. Where it failed, it may have ended behind any of the names.
abbrev pub WalkAsks : (zero_score : List ℕ) → BlockMap → (failure : Option VacBad)
    → (old new : List KeptFolder) → Result Place RequestError → (names : List (List ℕ)) → (n : ℕ)
    → Type 0
WalkAsks zero_score map failure old new (Err why) names n = (n ≡ 0) × (new ≡ old)
WalkAsks zero_score map failure old new (Ok at) [] n = (n ≡ 0) × (new ≡ old)
WalkAsks zero_score map failure old new (Ok at) (name ∷ names) n =
    ((failure ≢ None) × StepAsks zero_score map at.node.stored name old new n)
    ⊎ ((mid : List KeptFolder) × (next : Result Place RequestError) × (here : ℕ) × (later : ℕ)
    × StepAsks zero_score map at.node.stored name old mid here
    × KeepsSearched at.node.stored name mid × StepsTo map at name next
    × WalkAsks zero_score map failure mid new next names later × (n ≡ here + later))
