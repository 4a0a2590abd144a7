-- The memory for handing devices back.
use Rattle.std.proofs.Common.{◌≡◌, ℕ, List, [], ◌∷◌, ◌++◌, map, reverse, sym, ◌∙◌, ap, append_assoc, ◌<◌, ◌≤◌, ◌+◌, arith}
use Rattle.std.proofs.lemmas.List.{map-append, reverse-append}
use Rattle.vt_isect.specs.declared.TheConstants.{LEAST_LEN}
use Rattle.vt_isect.specs.Layout.{buckets_in}

-- the last of some is closed: its device goes behind those that are there, before the others' from the last on
pub unpacks_last : {X D : Type 0} (device : X → D) (xs rest : List X) (x : X) (devices : List D) → xs ≡ rest ++ x ∷ []
    → (devices ++ device x ∷ []) ++ reverse (map device rest) ≡ devices ++ reverse (map device xs)
unpacks_last device xs rest x devices is =
    append_assoc devices (device x ∷ []) (reverse (map device rest))
    ∙ ap (λ ds. devices ++ ds) (sym (ap (λ ys. reverse (map device ys)) is
    ∙ ap reverse (map-append device rest (x ∷ [])) ∙ reverse-append (map device rest) (device x ∷ [])))

-- the last of some is closed: its device goes before those behind it
pub closes_last : {X D : Type 0} (device : X → D) (xs rest : List X) (x : X) (waiting : List D) → xs ≡ rest ++ x ∷ []
    → map device rest ++ reverse (waiting ++ device x ∷ []) ≡ map device xs ++ reverse waiting
closes_last device xs rest x waiting is =
    ap (λ ds. map device rest ++ ds) (reverse-append waiting (device x ∷ []))
    ∙ sym (append_assoc (map device rest) (device x ∷ []) (reverse waiting))
    ∙ ap (λ ds. ds ++ reverse waiting) (sym (map-append device rest (x ∷ [])) ∙ ap (map device) (sym is))

pub room_some : (size : ℕ) → LEAST_LEN ≤ size → 0 < buckets_in size
room_some size room = omega (arith, room)
