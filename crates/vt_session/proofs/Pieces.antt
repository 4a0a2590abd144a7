-- Where writing stops.
use Rattle.std.proofs.Common.{◌≡◌, ℕ, ◌≤◌, List, [], ◌∷◌, ◌++◌, length, refl, sym, ◌∙◌, ap, arith, inl, inr, append-nil, append_assoc}
use Rattle.std.specs.Prelude.{map}
use Rattle.std.specs.List.{flat_map}
use Rattle.std.proofs.lemmas.Bool.{cases_lt}
use Rattle.vt_session.specs.Turns.{Turn, spelled_turn, server_line, output_of, said_pieces}
use Rattle.vt_session.specs.Talk.{EndsInLast}

-- of two ways to cut a list, the one with the shorter front
shorter : (a b x y : List ℕ) → length a ≤ length b → a ++ x ≡ b ++ y
    → (rest : List ℕ) × (b ≡ a ++ rest) × (x ≡ rest ++ y)
shorter [] b x y le h = (b, refl, h)
shorter (p ∷ a) [] x y le h = absurd (omega arith)
shorter (p ∷ a) (q ∷ b) x y le h =
    let same : p ≡ q = cc in
    let tail : a ++ x ≡ b ++ y = cc in
    let r = shorter a b x y (omega arith) tail in
    let rest : b ≡ a ++ r.0 = r.1 in
    (r.0, cc, r.2)

cut_from : (piece : List ℕ) (turns : List Turn) (output unsaid : List ℕ)
    → piece ++ flat_map spelled_turn turns ≡ output ++ unsaid
    → (front : List Turn) × (behind : List Turn) × (turns ≡ front ++ behind)
    × EndsInLast (piece ∷ map spelled_turn front) output
cut_from piece [] output unsaid h = ([], [], refl, (unsaid, sym (append-nil piece) ∙ h))
cut_from piece (t ∷ turns) output unsaid h = elim (cases_lt (length piece) (length output)) [
  | inr short ↦
      let r = shorter output piece unsaid (flat_map spelled_turn (t ∷ turns)) short (sym h) in
      ([], t ∷ turns, refl, (r.0, r.1))
  | inl long ↦
      let r = shorter piece output (flat_map spelled_turn (t ∷ turns)) unsaid
      (omega (arith, long)) h in
      let more = cut_from (spelled_turn t) turns r.0 unsaid r.2 in
      (t ∷ more.0, more.1, ap (λ l. t ∷ l) more.2, (r.0, r.1, more.3))
]

pub turns_cut : (turns : List Turn) (output unsaid : List ℕ) → output_of turns ≡ output ++ unsaid
    → (front : List Turn) × (behind : List Turn) × (turns ≡ front ++ behind)
    × EndsInLast (said_pieces front) output
turns_cut turns output unsaid h = cut_from server_line turns output unsaid h

reply_cut : (piece : List ℕ) (turns : List Turn) (t : Turn) (said unsaid : List ℕ)
    → spelled_turn t ≡ said ++ unsaid
    → EndsInLast (piece ∷ map spelled_turn (turns ++ t ∷ []))
    (piece ++ flat_map spelled_turn turns ++ said)
reply_cut piece [] t said unsaid h = (said, ap (λ l. l ++ said) (append-nil piece), (unsaid, h))
reply_cut piece (u ∷ turns) t said unsaid h =
    let rest = flat_map spelled_turn (u ∷ turns) in
    (rest ++ said, append_assoc piece rest said, reply_cut (spelled_turn u) turns t said unsaid h)

pub last_cut : (turns : List Turn) (t : Turn) (said unsaid : List ℕ)
    → spelled_turn t ≡ said ++ unsaid
    → EndsInLast (said_pieces (turns ++ t ∷ [])) (output_of turns ++ said)
last_cut turns t said unsaid h = reply_cut server_line turns t said unsaid h
