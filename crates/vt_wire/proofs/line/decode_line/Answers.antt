use Rattle.std.proofs.Common.{◌≡◌, ◌∙◌, ◌==◌, Some, None, take, length, min, sym, ap, arith}
use Rattle.std.specs.List.{position}
use Rattle.std.proofs.lemmas.List.{take_min}
use Rattle.std.proofs.lemmas.Bool.Decides.{nat_tests}
use Rattle.vt_wire.specs.Lines.{line_at}
use Rattle.vt_wire.proofs.line.decode_line.Goals as goal

pub returns-in-Some : goal.returns-in-Some
returns-in-Some c =
    let bytes = c.args.bytes.now in
    let len : c.min.result ≡ min 1024 (length bytes) = omega arith in
    let front : take c.min.result bytes ≡ take 1024 bytes = ap (λ n. take n bytes) len ∙ take_min 1024 bytes in
    let at : position (λ b. b == 10) (take 1024 bytes) ≡ Some c.in-Some.end = ap (position (λ b. b == 10)) (sym front) ∙ sym c.newline.ensures ∙ c.in-Some.is in
    c.judge.ensures ∙ ap (line_at bytes) (sym at)

pub returns-in-None : goal.returns-in-None
returns-in-None c =
    let bytes = c.args.bytes.now in
    let len : c.min.result ≡ min 1024 (length bytes) = omega arith in
    let front : take c.min.result bytes ≡ take 1024 bytes = ap (λ n. take n bytes) len ∙ take_min 1024 bytes in
    let at : position (λ b. b == 10) (take 1024 bytes) ≡ None = ap (position (λ b. b == 10)) (sym front) ∙ sym c.newline.ensures ∙ c.in-None.is in
    grind (arith, nat_tests) ∙ ap (line_at bytes) (sym at)

pub returns-in-None-2 : goal.returns-in-None-2
returns-in-None-2 c =
    let bytes = c.args.bytes.now in
    let len : c.min.result ≡ min 1024 (length bytes) = omega arith in
    let front : take c.min.result bytes ≡ take 1024 bytes = ap (λ n. take n bytes) len ∙ take_min 1024 bytes in
    let at : position (λ b. b == 10) (take 1024 bytes) ≡ None = ap (position (λ b. b == 10)) (sym front) ∙ sym c.newline.ensures ∙ c.in-None.is in
    grind (arith, nat_tests) ∙ ap (line_at bytes) (sym at)
