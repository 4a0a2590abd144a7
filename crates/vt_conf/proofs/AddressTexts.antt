-- The parts of an address are told apart by their bytes.
use Rattle.std.proofs.Common.{◌≡◌, ◌≢◌, ℕ, suc, ◌+◌, ◌^◌, ◌<◌, ◌≤◌, ⊎_elim, Bool, true, false, cond, List, ◌∷◌, ◌++◌, Option, Some, None, Bor, length, get_or, take, drop, decimal, refl, sym, ◌∙◌, ap, subst, arith, add-one, length-append, drop-cons, codes}
use Rattle.std.specs.Prelude.{◌==◌, not, nat_lt}
use Rattle.std.specs.Int.{IsInRange}
use Rattle.std.specs.List.{All, position, position_or_len}
use Rattle.std.proofs.Math.ListN.{get_or-append}
use Rattle.std.proofs.Math.Seq.{get_or-append_seam}
use Rattle.std.proofs.lemmas.Bool.{cases_Bool, cases_lt, eqb-true, eqb-false}
use Rattle.std.proofs.lemmas.Bool.Decides.{nat_tests}
use Rattle.std.proofs.lemmas.List.{take_at, drop_at, take-append-drop, drop-drop, length-take-le, get_or-take, get_or_default}
use Rattle.std.proofs.lemmas.List.Sums.{prefix_len_is}
use Rattle.std.proofs.lemmas.List.Quantifiers.{position-Some}
use Rattle.std.specs.Bool.{OnTrue, OnFalse}
use Rattle.std.specs.Option.{is_some, IfSome, IsSomeAnd}
use Rattle.std.specs.Str.{bytes_eq}
use Rattle.std.proofs.lemmas.Slice.Eq.{bytes_eq-Decides}
use Rattle.vt_conf.specs.declared.address.Address.{Address}
use Rattle.vt_conf.specs.Addresses.{IsHost, IsPort, SpellsParts, SpellsAddress}
use Rattle.std.proofs.lemmas.Option.{same_Some}
use Rattle.vt_conf.proofs.NumberTexts.{digits_of_decimal}

abbrev is_mark : ℕ → Bool
is_mark b = b == 33

plain_is : (b : ℕ) → b ≢ 33 → not (is_mark b) ≡ true
plain_is b other = ⊎_elim
    (λ (e : is_mark b ≡ true). absurd (other (eqb-true b 33 e)))
    (λ (e : is_mark b ≡ false). ap not e)
    (cases_Bool (is_mark b))

-- a host without marks ends at the first one
mark_is : (host port : List ℕ) → All (λ b. b ≢ 33) host → position_or_len is_mark (host ++ 33 ∷ port) ≡ length host
mark_is host port plain =
    prefix_len_is (λ b. not (is_mark b)) (host ++ 33 ∷ port) (length host) 0
    (omega (arith, length-append host (33 ∷ port)))
    (λ k below. ap (λ b. not (is_mark b)) (get_or-append host (33 ∷ port) 0 k below) ∙ plain_is (get_or host k 0) (plain k 0 below))
    (λ _. ap (λ b. not (is_mark b)) (get_or-append_seam host 33 port 0))

pub host_ends : (host port : List ℕ) → All (λ b. b ≢ 33) host → position is_mark (host ++ 33 ∷ port) ≡ Some (length host)
host_ends host port plain =
    let at : position_or_len is_mark (host ++ 33 ∷ port) ≡ length host = mark_is host port plain in
    let below : nat_lt (length host) (length (host ++ 33 ∷ port)) ≡ true =
    let h : length host < length (host ++ 33 ∷ port) = omega (arith, length-append host (33 ∷ port)) in grind (arith, nat_tests) in
    ap (λ (n : ℕ). cond (nat_lt n (length (host ++ 33 ∷ port))) (Some n) None) at
    ∙ ap (λ (b : Bool). cond b (Some (length host)) None) below

-- what is cut at the first mark
pub record IsCut (rest : List ℕ) (n : ℕ) : Type 0 where
  pub within : n < length rest
  pub plain : All (λ b. b ≢ 33) (take n rest)
  pub joined : rest ≡ take n rest ++ 33 ∷ drop (n + 1) rest

pub cut_at_mark : (rest : List ℕ) (n : ℕ) → position is_mark rest ≡ Some n → IsCut rest n
cut_at_mark rest n at =
    let found = position-Some is_mark rest n 0 at in
    let within : n < length rest = found.0 in
    let mark : get_or rest n 0 ≡ 33 = eqb-true (get_or rest n 0) 33 found.1 in
    record {
      within = within;
      plain = λ k d below.
          let low : k < n = omega (arith, length-take-le n rest (omega arith), below) in
          λ is. let no : is_mark (get_or rest k 0) ≡ false = found.2 k low in
          let len : k < length rest = omega arith in
          let yes : get_or rest k 0 ≡ 33 = get_or_default rest k 0 d len ∙ sym (get_or-take n rest k d low) ∙ is in
          let wrong : is_mark (get_or rest k 0) ≡ true = ap is_mark yes in
          let both : true ≡ false = sym wrong ∙ no in cc;
      joined = sym (take-append-drop n rest) ∙ ap (λ (l : List ℕ). take n rest ++ l) (drop-cons rest n 0 within ∙ ap (λ (b : ℕ). b ∷ drop (suc n) rest) mark ∙ ap (λ (k : ℕ). 33 ∷ drop k rest) (sym (add-one n)));
    }

-- a port that is a number isn't `venti`
pub venti_is_no_number : (n : ℕ) → n < 2 ^ 16 → codes "venti" ≡ decimal n → ⊥
venti_is_no_number n fits is =
    let digits = digits_of_decimal n (omega arith) in
    let first : IsInRange 48 57 (get_or (decimal n) 0 0) = digits.1 0 digits.0 in
    let v : 118 ≡ get_or (decimal n) 0 0 = ap (λ (t : List ℕ). get_or t 0 0) is in
    omega (arith, first.0, first.1, v)

-- where a host ends, what stands before it and behind it
pub record EndsAt (host port_text rest : List ℕ) (n : ℕ) : Type 0 where
  pub len : n ≡ length host
  pub front : take n rest ≡ host
  pub back : drop n rest ≡ 33 ∷ port_text

pub ends_at : (host port_text rest : List ℕ) (n : ℕ) → All (λ b. b ≢ 33) host → rest ≡ host ++ 33 ∷ port_text
    → position is_mark rest ≡ Some n → EndsAt host port_text rest n
ends_at host port_text rest n plain is at =
    let len : n ≡ length host = same_Some n (length host) (sym at ∙ ap (position is_mark) is ∙ host_ends host port_text plain) in
    record {
      len = len;
      front = ap (take n) is ∙ take_at host (33 ∷ port_text) n (sym len);
      back = ap (drop n) is ∙ drop_at host (33 ∷ port_text) n (sym len);
    }

pub no_end : (host port_text rest : List ℕ) → All (λ b. b ≢ 33) host → rest ≡ host ++ 33 ∷ port_text
    → position is_mark rest ≡ None → ⊥
no_end host port_text rest plain is none =
    let some = host_ends host port_text plain in
    let same : position is_mark rest ≡ Some (length host) = ap (position is_mark) is ∙ some in
    cc

-- parts of an address are an address
pub address_of_parts : (host : List ℕ) (port : ℕ) (text : List ℕ) → SpellsParts host port text
    → (address : Address) × SpellsAddress address text
address_of_parts host port text parts = ⊎_elim
    (λ (every : bytes_eq host (codes "*") ≡ true).
    (record { host = None; port = port }, record { host_text = host; host_is = (bytes_eq-Decides host (codes "*")).0 every; parts = parts }))
    (λ (other : bytes_eq host (codes "*") ≡ false). (
      record { host = Some host; port = port },
      record {
        host_text = host;
        host_is = (refl, λ is. let yes : bytes_eq host (codes "*") ≡ true = (bytes_eq-Decides host (codes "*")).1 is in let no : true ≡ false = sym yes ∙ other in cc);
        parts = parts;
      },
    ))
    (cases_Bool (bytes_eq host (codes "*")))

pub yes_address : (text : List ℕ) (o : Option (Bor (List ℕ) × ℕ)) (r : Bool) → r ≡ is_some o
    → IfSome o (λ parts. SpellsParts parts.0.now parts.1 text) → OnTrue r ((a : Address) × SpellsAddress a text)
yes_address text (Some parts) true is spelled = address_of_parts parts.0.now parts.1 text spelled
yes_address text (Some parts) false is spelled = tt
yes_address text None true is spelled = absurd (let no : true ≡ false = is in cc)
yes_address text None false is spelled = tt

pub no_address : (text : List ℕ) (o : Option (Bor (List ℕ) × ℕ)) (r : Bool) → r ≡ is_some o
    → ((host : List ℕ) (port : ℕ) → SpellsParts host port text → IsSomeAnd o (λ parts. (parts.0.now ≡ host) × (parts.1 ≡ port)))
    → OnFalse r ((a : Address) → ¬ (SpellsAddress a text))
no_address text (Some parts) true is only = tt
no_address text (Some parts) false is only = absurd (let no : false ≡ true = is in cc)
no_address text None true is only = tt
no_address text None false is only = λ a spells. only spells.host_text a.port spells.parts

-- a text names one host
same_host : (a b : Option (List ℕ)) (text : List ℕ) → IsHost a text → IsHost b text → a ≡ b
same_host None None text one other = refl
same_host None (Some name) text one other = absurd (other.1 (sym other.0 ∙ one))
same_host (Some name) None text one other = absurd (one.1 (sym one.0 ∙ other))
same_host (Some name) (Some name') text one other = ap Some (sym one.0 ∙ other.0)

pub same_address : (host : Option (List ℕ)) (port : ℕ) (found : List ℕ) (a : Address) (text : List ℕ)
    → (s : SpellsAddress a text) → IsHost host found → found ≡ s.host_text → port ≡ a.port
    → Some (record { host = host; port = port }) ≡ Some a
same_address host port found a text s named is at =
    let hosts : host ≡ a.host = same_host host a.host s.host_text (subst (IsHost host) is named) s.host_is in
    ap (λ (h : Option (List ℕ)). Some (record { host = h; port = port })) hosts
    ∙ ap (λ (p : ℕ). Some (record { host = a.host; port = p })) at

pub drop-drop_more : (rest : List ℕ) (n : ℕ) → drop 1 (drop n rest) ≡ drop (n + 1) rest
drop-drop_more rest n = drop-drop 1 n rest

-- what was cut apart is an address
pub parts_of : (text rest host : List ℕ) (n port : ℕ) → text ≡ codes "tcp!" ++ rest → IsCut rest n → host ≡ take n rest
    → IsPort port (drop (n + 1) rest) → (length host == 0) ≡ false → SpellsParts host port text
parts_of text rest host n port is cut front named full = record {
  some = ⊎_elim (λ (h : 0 < length host). h) (λ (h : length host ≤ 0). absurd (eqb-false (length host) 0 full (omega arith))) (cases_lt 0 (length host));
  plain = subst (All (λ b. b ≢ 33)) (sym front) cut.plain;
  port_text = drop (n + 1) rest;
  port_is = named;
  spelled = is ∙ ap (λ (l : List ℕ). codes "tcp!" ++ l) (cut.joined ∙ ap (λ (h : List ℕ). h ++ 33 ∷ drop (n + 1) rest) (sym front));
}
