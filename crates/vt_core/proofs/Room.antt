-- The memory for handing the devices of shards back.
use Rattle.std.proofs.Common.{◌≡◌, ℕ, zero, suc, List, [], ◌∷◌, length, Some, Vec, sym, ◌∙◌, ap, subst}
use Rattle.std.proofs.lemmas.Option.{same_Some}
use Rattle.std.specs.Prelude.{slice_get, slice_set}
use Rattle.vt_core.specs.Files.{PerDevice}
use Rattle.vt_recover.specs.Opening.{HasRoomForDevices}
use Rattle.vt_recover.proofs.Places.{length-set}

-- it is enough for the shards with one that has changed
pub room_stays : {X D Z : Type 0} (xs : List X) (i : ℕ) (x : X) (room : Vec D Z) → HasRoomForDevices (length xs) room → HasRoomForDevices (length (slice_set xs i x)) room
room_stays xs i x room has = subst (λ n. HasRoomForDevices n room) (sym (length-set xs i x)) has

-- what stands at a place is put there again
pub set_same : {X : Type 0} (xs : List X) (i : ℕ) (x : X) → slice_get xs i ≡ Some x → slice_set xs i x ≡ xs
set_same [] i x at = absurd (cc)
set_same (y ∷ xs) zero x at = ap (λ z. z ∷ xs) (sym (same_Some y x at))
set_same (y ∷ xs) (suc i) x at = ap (λ zs. y ∷ zs) (set_same xs i x at)

pub same_devices : {D : Type 0} (old new : PerDevice D) → old.partitions ≡ new.partitions → old.sections ≡ new.sections → old.filter ≡ new.filter → old ≡ new
same_devices {D} old new p s f =
    let first : old ≡ record old { partitions = new.partitions } = ap (λ (xs : List D). record old { partitions = xs }) p in
    let second : record old { partitions = new.partitions } ≡ record new { filter = old.filter } = ap (λ (xs : List D). record { partitions = new.partitions; sections = xs; filter = old.filter }) s in
    first ∙ second ∙ ap (λ (xs : List D). record new { filter = xs }) f
