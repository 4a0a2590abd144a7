-- How many blocks were asked for on a walk, one name further.
use Rattle.std.proofs.Common.{◌≡◌, ◌+◌, ℕ, Option, Some, None, Result, Ok, Err, List, [], ◌∷◌, ◌++◌, true, false, refl, sym, ◌∙◌, subst, inl, inr, arith}
use Rattle.std.specs.Str.{bytes_eq}
use Rattle.vt_tree.specs.Maps.{BlockMap}
use Rattle.vac_read.specs.declared.error.VacBad.{VacBad}
use Rattle.vac_read.specs.declared.kept.KeptFolder.{KeptFolder}
use Rattle.vac_read.specs.declared.node.Stored.{Stored}
use Rattle.vac_read.specs.declared.node.Stored.TheVariants as stored
use Rattle.vac_read.specs.Asking.{FindAsks}
use Rattle.vac_read.specs.Kept.{StaysKept}
use Rattle.vac_read.proofs.Keeps.{stays_same}
use Rattle.nine_view.specs.declared.place.Place.{Place}
use Rattle.nine_view.specs.declared.request_error.RequestError.{RequestError}
use Rattle.nine_view.specs.Asking.{KeepsSearched, StepAsks, WalkAsks}
use Rattle.nine_view.specs.Files.{is_folder}
use Rattle.nine_view.specs.Walks.{StepsTo, dots}

module _ (zero_score : List ℕ) (map : BlockMap) where
  -- all the names were looked for, and this is where they lead
  abbrev pub Went : (old new : List KeptFolder) → Result Place RequestError
      → (names : List (List ℕ)) → (end : Result Place RequestError) → (n : ℕ) → Type 0
  Went old new (Err why) names end n = (n ≡ 0) × (new ≡ old) × (end ≡ Err why)
  Went old new (Ok at) [] end n = (n ≡ 0) × (new ≡ old) × (end ≡ Ok at)
  Went old new (Ok at) (name ∷ names) end n =
      (mid : List KeptFolder) × (next : Result Place RequestError) × (here : ℕ) × (later : ℕ)
      × StepAsks zero_score map at.node.stored name old mid here
      × KeepsSearched at.node.stored name mid × StepsTo map at name next
      × Went mid new next names end later × (n ≡ here + later)

  -- no name was looked for
  pub no_step : (s : Stored) (name : List ℕ) (kept : List KeptFolder)
      → StepAsks zero_score map s name kept kept 0
  no_step s name kept = record {
    few = record { most = omega arith; again = λ was. omega arith };
    stays = stays_same s kept;
    up = λ above. (refl, refl);
  }

  pub went_none : (kept : List KeptFolder) (from : Result Place RequestError)
      → Went kept kept from [] from 0
  went_none kept (Ok at) = (refl, refl, refl)
  went_none kept (Err why) = (refl, refl, refl)

  -- one name further
  pub went_more : (front : List (List ℕ)) (old mid new : List KeptFolder)
      (from : Result Place RequestError) (at : Place) (name : List ℕ)
      (next : Result Place RequestError) (n here : ℕ) → Went old mid from front (Ok at) n
      → StepAsks zero_score map at.node.stored name mid new here
      → KeepsSearched at.node.stored name new → StepsTo map at name next
      → Went old new from (front ++ name ∷ []) next (n + here)
  went_more front old mid new (Err why) at name next n here went step keeps steps =
      let never : Ok at ≡ Err why = went.2 in absurd (cc)
  went_more [] old mid new (Ok p) at name next n here went step keeps steps =
      let end : Ok at ≡ Ok p = went.2 in
      let same : at ≡ p = cc in (
        new,
        next,
        here,
        0,
        subst (λ (k : List KeptFolder). StepAsks zero_score map p.node.stored name k new here) went.1
            (subst (λ (x : Place). StepAsks zero_score map x.node.stored name mid new here) same step),
        subst (λ (x : Place). KeepsSearched x.node.stored name new) same keeps,
        subst (λ (x : Place). StepsTo map x name next) same steps,
        went_none new next,
        (let none = went.0 in omega (arith, none)),
      )
  went_more (word ∷ front) old mid new (Ok p) at name next n here
      (between, onward, first, later, one, kept, goes, rest, is) step keeps steps = (
        between,
        onward,
        first,
        later + here,
        one,
        kept,
        goes,
        went_more front between mid new onward at name next later here rest step keeps steps,
        omega (arith, is),
      )

  -- it failed at the next name, or behind it
  pub went_failed : (front more : List (List ℕ)) (old mid new : List KeptFolder)
      (from : Result Place RequestError) (at : Place) (name : List ℕ) (bad : VacBad) (n here : ℕ)
      → Went old mid from front (Ok at) n
      → StepAsks zero_score map at.node.stored name mid new here
      → WalkAsks zero_score map (Some bad) old new from (front ++ name ∷ more) (n + here)
  went_failed front more old mid new (Err why) at name bad n here went step =
      let never : Ok at ≡ Err why = went.2 in absurd (cc)
  went_failed [] more old mid new (Ok p) at name bad n here went step =
      let end : Ok at ≡ Ok p = went.2 in
      let same : at ≡ p = cc in
      let count : here ≡ n + here = let none = went.0 in omega (arith, none) in
      inl (
        λ is. cc,
        subst (λ (k : ℕ). StepAsks zero_score map p.node.stored name old new k) count
            (subst (λ (k : List KeptFolder). StepAsks zero_score map p.node.stored name k new here)
            went.1
            (subst (λ (x : Place). StepAsks zero_score map x.node.stored name mid new here) same
            step)),
      )
  went_failed (word ∷ front) more old mid new (Ok p) at name bad n here
      (between, onward, first, later, one, kept, goes, rest, is) step = inr (
        between,
        onward,
        first,
        later + here,
        one,
        kept,
        goes,
        went_failed front more between mid new onward at name bad later here rest step,
        omega (arith, is),
      )

  -- where a name leads nowhere, those behind it aren't looked for
  pub went_no_further : (front more : List (List ℕ)) (old new : List KeptFolder)
      (from : Result Place RequestError) (why : RequestError) (n : ℕ)
      → Went old new from front (Err why) n → Went old new from (front ++ more) (Err why) n
  went_no_further front more old new (Err other) why n went = went
  went_no_further [] more old new (Ok p) why n went =
      let never : Err why ≡ Ok p = went.2 in absurd (cc)
  went_no_further (word ∷ front) more old new (Ok p) why n
      (between, onward, first, later, one, kept, goes, rest, is) = (
        between,
        onward,
        first,
        later,
        one,
        kept,
        goes,
        went_no_further front more between new onward why later rest,
        is,
      )

  -- where they lead is no matter
  pub went_asks : (names : List (List ℕ)) (failure : Option VacBad) (old new : List KeptFolder)
      (from end : Result Place RequestError) (n : ℕ) → Went old new from names end n
      → WalkAsks zero_score map failure old new from names n
  went_asks names failure old new (Err why) end n went = (went.0, went.1)
  went_asks [] failure old new (Ok p) end n went = (went.0, went.1)
  went_asks (name ∷ names) failure old new (Ok p) end n
      (between, onward, first, later, one, kept, goes, rest, is) = inr (
        between,
        onward,
        first,
        later,
        one,
        kept,
        goes,
        went_asks names failure between new onward end later rest,
        is,
      )

  -- it failed behind all of them
  pub failed_behind : (names : List (List ℕ)) (bad : VacBad) (old new : List KeptFolder)
      (from : Result Place RequestError) (n : ℕ)
      → WalkAsks zero_score map None old new from names n
      → WalkAsks zero_score map (Some bad) old new from names n
  failed_behind names bad old new (Err why) n asks = asks
  failed_behind [] bad old new (Ok p) n asks = asks
  failed_behind (name ∷ names) bad old new (Ok p) n (inl (some, one)) = absurd (some refl)
  failed_behind (name ∷ names) bad old new (Ok p) n
      (inr (between, onward, first, later, one, kept, goes, rest, is)) = inr (
        between,
        onward,
        first,
        later,
        one,
        kept,
        goes,
        failed_behind names bad between new onward later rest,
        is,
      )

  -- or before the first
  pub failed_before : (names : List (List ℕ)) (bad : VacBad) (kept : List KeptFolder) (at : Place)
      → WalkAsks zero_score map (Some bad) kept kept (Ok at) names 0
  failed_before [] bad kept at = (refl, refl)
  failed_before (name ∷ names) bad kept at = inl (λ is. cc, no_step at.node.stored name kept)

-- in a file nothing is kept
pub file_keeps : (s : Stored) (name : List ℕ) (kept : List KeptFolder) → is_folder s ≡ false
    → KeepsSearched s name kept
file_keeps (stored.File e) name kept file = λ other. tt
file_keeps (stored.Folder entries metadata) name kept file =
    let never : true ≡ false = file in absurd (cc)

-- for the folder above nothing is looked for
pub up_keeps : (s : Stored) (name : List ℕ) (kept : List KeptFolder) → bytes_eq name dots ≡ true
    → KeepsSearched s name kept
up_keeps s name kept up = λ other. let never : true ≡ false = sym up ∙ other in absurd (cc)

-- a name was looked for
pub one_step : (zero_score : List ℕ) (map : BlockMap) (s : Stored) (name : List ℕ)
    (old new : List KeptFolder) (n : ℕ) → bytes_eq name dots ≡ false
    → FindAsks zero_score s old map n → StaysKept s old new
    → StepAsks zero_score map s name old new n
one_step zero_score map s name old new n other few stays = record {
  few = few;
  stays = stays;
  up = λ up. let never : true ≡ false = sym up ∙ other in absurd (cc);
}
