use Rattle.std.proofs.Common.{◌≡◌, ◌∙◌, true, false, sym, ap, take, drop, get_or}
use Rattle.std.specs.List.{list_any}
use Rattle.std.proofs.lemmas.List.{take_rest}
use Rattle.vt_wire.specs.Lines.{cut_at_colons, is_02}
use Rattle.vt_wire.proofs.Versions.{found_02, last_02, next_02, only_02}
use Rattle.vt_wire.proofs.line.offers_02.Goals as goal

pub returns-then-eq : goal.returns-then-eq
returns-then-eq c =
    let rest = c.loop-end.rest.now in
    let is : is_02 (take c.in-Some.end rest) ≡ true = ap is_02 (sym c.split_at.ensures.front) ∙ sym c.eq.ensures ∙ c.if-eq.true in
    sym (found_02 rest c.in-Some.end (sym c.in-Some.ensures.place) is) ∙ c.loop-end.invariant

pub returns-then-behind-eq45 : goal.returns-then-behind-eq45
returns-then-behind-eq45 c =
    let rest = c.loop-end.rest.now in
    let is : is_02 (take c.in-Some.end rest) ≡ false = ap is_02 (sym c.split_at.ensures.front) ∙ sym c.eq.ensures ∙ c.if-eq.false in
    let dash : get_or (drop c.in-Some.end rest) 0 0 ≡ 45 = ap (λ l. get_or l 0 0) (sym c.split_at.ensures.back) ∙ c.if-behind-eq45.true in
    sym (last_02 rest c.in-Some.end (sym c.in-Some.ensures.place) is dash) ∙ c.loop-end.invariant

pub loop-end-preserved : goal.loop-end-preserved
loop-end-preserved c =
    let rest = c.loop-end.rest.now in
    let behind = c.split_at.result.1.now in
    let is : is_02 (take c.in-Some.end rest) ≡ false = ap is_02 (sym c.split_at.ensures.front) ∙ sym c.eq.ensures ∙ c.if-eq.false in
    ap (λ l. list_any is_02 (cut_at_colons l)) (take_rest behind 1 ∙ ap (drop 1) c.split_at.ensures.back)
    ∙ sym (next_02 rest c.in-Some.end (sym c.in-Some.ensures.place) is (λ dash. c.if-behind-eq45.false (ap (λ l. get_or l 0 0) c.split_at.ensures.back ∙ dash)))
    ∙ c.loop-end.invariant

pub returns : goal.returns
returns c =
    c.eq-2.ensures ∙ sym (only_02 c.loop-end.rest.now (sym c.version_end.ensures.place ∙ c.in_default.is)) ∙ c.loop-end.invariant
