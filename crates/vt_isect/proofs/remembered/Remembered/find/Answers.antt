use Rattle.std.proofs.Common.{◌≡◌, ℕ, List, Option, Some, sym, ◌∙◌, ap}
use Rattle.std.specs.Prelude.{slice_get, slice_set}
use Rattle.std.proofs.lemmas.List.{set-get_or}
use Rattle.std.proofs.lemmas.Option.{get_or_from_slice_get}
use Rattle.vt_isect.proofs.remembered.Remembered.find.Goals as goal

-- what is there is put there
set_same : (xs : List (Option ℕ)) (k : ℕ) (v : Option ℕ) → slice_get xs k ≡ Some v → xs ≡ slice_set xs k v
set_same xs k v at = sym (set-get_or xs k v) ∙ ap (λ (o : Option ℕ). slice_set xs k o) (get_or_from_slice_get xs k v v at)

pub returns-in-Some-clause-remembers : goal.returns-in-Some-clause-remembers
returns-in-Some-clause-remembers g c = set_same _ c.args.bucket (Some c.in-Some.number) (c.get.ensures.number ∙ ap (λ (o : Option ℕ). Some o) c.in-Some.is)

pub returns-in-Some-clause-named : goal.returns-in-Some-clause-named
returns-in-Some-clause-named g c buckets was told =
    sym (was.named c.args.bucket c.in-Some.number c.args.place told (c.get.ensures.number ∙ ap (λ (o : Option ℕ). Some o) c.in-Some.is) c.requires.place)
