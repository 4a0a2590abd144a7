-- What goes over a link, step by step.
use Rattle.std.proofs.Common.{◌≡◌, ℕ, ◌+◌, ◌≤◌, List, [], ◌++◌, length, take, refl, sym, ◌∙◌, ap, append_assoc, append-nil}
use Rattle.std.proofs.Math.Seq.{take-append-add}
use Rattle.std.proofs.lemmas.List.{length-take-le, take-append-le}
use Rattle.vt_client.specs.Exchanges.{Traffic, MovesBytes, traffic_of}
use Rattle.vt_client.specs.Members.{LinkOf}

pub Moves-none : (t : Traffic) → MovesBytes t t [] []
Moves-none t = record {
  sent = sym (append-nil t.sent);
  came = sym (append-nil t.came);
  left = refl;
}

pub Moves-append : (a b c : Traffic) (o p x y : List ℕ) → MovesBytes a b o x → MovesBytes b c p y
    → MovesBytes a c (o ++ p) (x ++ y)
Moves-append a b c o p x y first later = record {
  sent = later.sent ∙ ap (λ (l : List ℕ). l ++ p) first.sent ∙ append_assoc a.sent o p;
  came = later.came ∙ ap (λ (l : List ℕ). l ++ y) first.came ∙ append_assoc a.came x y;
  left = first.left ∙ ap (λ (l : List ℕ). x ++ l) later.left ∙ sym (append_assoc x y c.left);
}

-- these bytes came in
pub Moves-in : {L : Type 0} (link : LinkOf L) (l l' : L) (bytes : List ℕ)
    → link.left l ≡ bytes ++ link.left l' → link.given l' ≡ link.given l ++ bytes
    → link.written l' ≡ link.written l → MovesBytes (traffic_of link l) (traffic_of link l') [] bytes
Moves-in link l l' bytes left came sent = record {
  sent = sent ∙ sym (append-nil (link.written l));
  came = came;
  left = left;
}

-- these went out
pub Moves-out : {L : Type 0} (link : LinkOf L) (l l' : L) (bytes : List ℕ)
    → link.written l' ≡ link.written l ++ bytes → link.given l' ≡ link.given l
    → link.left l' ≡ link.left l → MovesBytes (traffic_of link l) (traffic_of link l') bytes []
Moves-out link l l' bytes sent came left = record {
  sent = sent;
  came = came ∙ sym (append-nil (link.given l));
  left = sym left;
}

-- nothing came in
pub Moves-still : {L : Type 0} (link : LinkOf L) (t : Traffic) (l l' : L) (out taken : List ℕ)
    → MovesBytes t (traffic_of link l) out taken → link.left l' ≡ link.left l
    → link.given l' ≡ link.given l → link.written l' ≡ link.written l
    → MovesBytes t (traffic_of link l') out taken
Moves-still link t l l' out taken m left came sent = record {
  sent = sent ∙ m.sent;
  came = came ∙ m.came;
  left = m.left ∙ ap (λ (b : List ℕ). taken ++ b) (sym left);
}

-- ---- into a buffer

-- the front of a buffer, and what was moved behind it
pub taken_behind : (n more : ℕ) (buf part behind : List ℕ) → n ≤ length buf → more ≤ length part
    → take (n + more) (take n buf ++ (part ++ behind)) ≡ take n buf ++ take more part
taken_behind n more buf part behind within few =
    ap (λ (k : ℕ). take (k + more) (take n buf ++ (part ++ behind)))
    (sym (length-take-le n buf within))
    ∙ take-append-add (take n buf) (part ++ behind) more
    ∙ ap (λ (l : List ℕ). take n buf ++ l) (take-append-le more part behind few)

-- a front of these went out
pub Moves-part : {L : Type 0} (link : LinkOf L) (l l' : L) (piece out : List ℕ) → piece ≡ out
    → (n : ℕ) × (link.written l' ≡ link.written l ++ take n piece)
    → link.given l' ≡ link.given l → link.left l' ≡ link.left l
    → (n : ℕ) × MovesBytes (traffic_of link l) (traffic_of link l') (take n out) []
Moves-part link l l' piece out is (n, sent) came left = (
  n,
  Moves-out link l l' (take n out)
      (sent ∙ ap (λ (p : List ℕ). link.written l ++ take n p) is) came left,
)
