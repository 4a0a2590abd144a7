-- What came in front of a message, or inside it, and how the connection ends there.
use Rattle.std.proofs.Common.{◌≡◌, ◌≢◌, ◌+◌, ◌-◌, ◌<◌, ◌≤◌, ◌++◌, ℕ, true, false, Err, List, [], ◌∷◌, length, refl, inl, inr, arith, length-append}
use Rattle.nine_view.specs.declared.serving.Ended.{Ended}
use Rattle.nine_view.specs.declared.serving.Ended.TheVariants.{Closed, Cut, Malformed, Spent, ReadFault, WriteFault, NoMemory}
use Rattle.nine_view.specs.Hearing.{StopsSo}
use Rattle.nine_view.specs.Serving.{EndsSo, IsCutOff, message_size}

nothing : (came : List ℕ) → length came ≡ 0 → came ≡ []
nothing [] none = refl
nothing (b ∷ came) none = absurd (omega arith)

something : (came : List ℕ) → 0 < length came → came ≢ []
something [] some = λ is. omega arith
something (b ∷ came) some = λ is. cc

-- before the size field was whole
pub ends_in_front : (ended : Ended) (limit taken taken' : ℕ) (came : List ℕ)
    → taken' ≡ taken + length came → StopsSo (Err ended) false (length came) 4 taken'
    → EndsSo ended limit taken came
ends_in_front Closed limit taken taken' came is stops =
    let none = nothing came stops.1 in
    let few = stops.3 in
    (none, omega arith)
ends_in_front Cut limit taken taken' came is stops =
    let few = stops.1 in
    let open_yet = stops.2 in
    let some : 0 < length came =
    elim stops.0 [ inl inside ↦ absurd (cc) | inr some ↦ some ] in
    (something came some, inl few, omega arith)
ends_in_front (Malformed at) limit taken taken' came is stops = absurd stops
ends_in_front Spent limit taken taken' came is stops =
    let few = stops.0 in
    let all = stops.1 in
    (inl few, omega arith)
ends_in_front ReadFault limit taken taken' came is stops =
    let few = stops.0 in
    let open_yet = stops.1 in
    (inl few, omega arith)
ends_in_front WriteFault limit taken taken' came is stops = absurd stops
ends_in_front NoMemory limit taken taken' came is stops = absurd stops

pub size_in_front : (front came : List ℕ) → length front ≡ 4
    → message_size (front ++ came) ≡ message_size front
size_in_front [] came four = absurd (omega arith)
size_in_front (a ∷ []) came four = absurd (omega arith)
size_in_front (a ∷ b ∷ []) came four = absurd (omega arith)
size_in_front (a ∷ b ∷ c ∷ []) came four = absurd (omega arith)
size_in_front (a ∷ b ∷ c ∷ d ∷ []) came four = refl
size_in_front (a ∷ b ∷ c ∷ d ∷ e ∷ front) came four = absurd (omega arith)

cut_inside : (limit : ℕ) (front came : List ℕ) → length front ≡ 4 → 7 ≤ message_size front
    → message_size front ≤ limit → 4 + length came < message_size front → IsCutOff limit (front ++ came)
cut_inside limit front came four least most few =
    let same = size_in_front front came four in
    let long = length-append front came in
    inr (omega arith, omega arith, omega arith)

-- behind a size field that a message may have
pub ends_inside : (ended : Ended) (limit taken taken' : ℕ) (front came : List ℕ)
    → length front ≡ 4 → 7 ≤ message_size front → message_size front ≤ limit
    → taken' ≡ taken + 4 + length came
    → StopsSo (Err ended) true (length came) (message_size front - 4) taken'
    → EndsSo ended limit taken (front ++ came)
ends_inside Closed limit taken taken' front came four least most is stops =
    let outside = stops.0 in absurd (cc)
ends_inside Cut limit taken taken' front came four least most is stops =
    let few = stops.1 in
    let open_yet = stops.2 in
    let long = length-append front came in (
      something (front ++ came) (omega arith),
      cut_inside limit front came four least most (omega arith),
      omega arith,
    )
ends_inside (Malformed at) limit taken taken' front came four least most is stops = absurd stops
ends_inside Spent limit taken taken' front came four least most is stops =
    let few = stops.0 in
    let all = stops.1 in
    let long = length-append front came in
    (cut_inside limit front came four least most (omega arith), omega arith)
ends_inside ReadFault limit taken taken' front came four least most is stops =
    let few = stops.0 in
    let open_yet = stops.1 in
    let long = length-append front came in
    (cut_inside limit front came four least most (omega arith), omega arith)
ends_inside WriteFault limit taken taken' front came four least most is stops = absurd stops
ends_inside NoMemory limit taken taken' front came four least most is stops = absurd stops
