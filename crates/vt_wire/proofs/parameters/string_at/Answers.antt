use Rattle.std.proofs.Common.{◌≡◌, ◌≤◌, ◌≢◌, ◌-◌, ◌∙◌, length, take, drop, sym, ap, subst, arith}
use Rattle.std.specs.List.{All}
use Rattle.std.proofs.lemmas.Bool.Decides.{Decides-eqb}
use Rattle.std.proofs.lemmas.List.{take_rest}
use Rattle.byteorder.specs.Endian.{big_number}
use Rattle.vt_wire.proofs.Forms.{string_value}
use Rattle.vt_wire.proofs.parameters.string_at.Goals as goal
use Rattle.vt_wire.proofs.parameters.string_at.Goals.{then-text-gt-MAX_STRING-via-then-text-gt-MAX_STRING, then-text-gt-MAX_STRING-via-else-text-gt-MAX_STRING+then-contains}

pub returns-then-text-gt-MAX_STRING-clause-none : goal.returns-then-text-gt-MAX_STRING-clause-none
returns-then-text-gt-MAX_STRING-clause-none c =
    λ rest x.
    let bytes = c.args.bytes.now in
    let value : x.0 ≡ take (big_number 2 bytes) (drop 2 bytes) = string_value bytes x.0 rest (λ i. omega (arith, c.type_inv.bytes i)) x.1 x.2 in
    let read : c.from.result ≡ big_number 2 bytes = c.from.ensures ∙ c.u16_at.ensures in
    let same : c.in-Some.text.now ≡ x.0 =
    c.in-Some.ensures.cases.1 ∙ ap (λ n. take n (take (length bytes - 2) (drop 2 bytes))) read ∙ ap (take (big_number 2 bytes)) (take_rest bytes 2) ∙ sym value in
    elim c.then-text-gt-MAX_STRING.branch [
      | then-text-gt-MAX_STRING-via-then-text-gt-MAX_STRING w ↦ let short : length x.0 ≤ 1024 = x.1.short in omega (arith, ap length same)
      | then-text-gt-MAX_STRING-via-else-text-gt-MAX_STRING+then-contains w ↦
          let found = w.if-contains.ensures.cases in
          let all = subst (All (λ b. b ≢ 0)) (sym same) x.1.nonzero in
          all found.0 0 found.1 ((Decides-eqb _ 0).0 (found.2 0))
    ]
