use Rattle.std.proofs.Common.{◌≡◌, ℕ, List, Some, None, ◌∷◌, ◌++◌, ◌+◌, ◌-◌, length, take, drop, arith, ap, subst, sym, ◌∙◌, codes}
use Rattle.std.proofs.lemmas.Bool.Decides.{Decides-eqb}
use Rattle.std.proofs.lemmas.List.{take_rest, append_cancel_left}
use Rattle.std.proofs.lemmas.Slice.Eq.{strip_prefix_is}
use Rattle.std.proofs.lemmas.Bool.{eqb-true}
use Rattle.std.proofs.lemmas.Option.{same_Some}
use Rattle.vt_conf.specs.Addresses.{IsPort}
use Rattle.vt_conf.proofs.AddressTexts.{EndsAt, ends_at, no_end, cut_at_mark, drop-drop_more, parts_of}
use Rattle.vt_conf.proofs.address.split_address.Goals as goal

pub returns-in_err-rest-clause-only : goal.returns-in_err-rest-clause-only
returns-in_err-rest-clause-only c host port s =
    absurd (strip_prefix_is Decides-eqb c.args.text.now (codes "tcp!") None c.in_err-rest.ensures.cases (host ++ 33 ∷ s.port_text) s.spelled)

behind : (text rest host port_text : List ℕ) → text ≡ codes "tcp!" ++ rest → text ≡ codes "tcp!" ++ (host ++ 33 ∷ port_text)
    → rest ≡ host ++ 33 ∷ port_text
behind text rest host port_text is spelled = append_cancel_left (codes "tcp!") rest (host ++ 33 ∷ port_text) (sym is ∙ spelled)

pub returns-in_err-host_len-clause-only : goal.returns-in_err-host_len-clause-only
returns-in_err-host_len-clause-only c host port s =
    let rest = c.in_ok-rest.rest.now in
    let is = strip_prefix_is Decides-eqb c.args.text.now (codes "tcp!") (Some c.in_ok-rest.rest) c.in_ok-rest.ensures.cases in
    absurd (no_end host s.port_text rest s.plain (behind c.args.text.now rest host s.port_text is s.spelled)
    (sym c.host_len.ensures.place ∙ c.in_err-host_len.was))

pub returns-then-is_empty-clause-only : goal.returns-then-is_empty-clause-only
returns-then-is_empty-clause-only c host port s =
    let rest = c.in_ok-rest.rest.now in
    let is = strip_prefix_is Decides-eqb c.args.text.now (codes "tcp!") (Some c.in_ok-rest.rest) c.in_ok-rest.ensures.cases in
    let at = ends_at host s.port_text rest c.in_ok-host_len.field-0 s.plain (behind c.args.text.now rest host s.port_text is s.spelled)
    (sym c.host_len.ensures.place ∙ c.in_ok-host_len.was) in
    let none : length c.split_at.result.0.now ≡ 0 = eqb-true _ _ (sym c.is_empty.ensures ∙ c.if-is_empty.true) in
    omega (arith, s.some, none, ap length c.split_at.ensures.front, ap length at.front)

-- the port's text is what stands behind the mark
port_text_is : (host port_text rest back : List ℕ) (n : ℕ) → EndsAt host port_text rest n → back ≡ drop n rest
    → take (length back - 1) (drop 1 back) ≡ port_text
port_text_is host port_text rest back n at is = take_rest back 1 ∙ ap (drop 1) (is ∙ at.back)

pub returns-in_err-port_of-clause-only : goal.returns-in_err-port_of-clause-only
returns-in_err-port_of-clause-only c host port s =
    let rest = c.in_ok-rest.rest.now in
    let is = strip_prefix_is Decides-eqb c.args.text.now (codes "tcp!") (Some c.in_ok-rest.rest) c.in_ok-rest.ensures.cases in
    let at = ends_at host s.port_text rest c.in_ok-host_len.field-0 s.plain (behind c.args.text.now rest host s.port_text is s.spelled)
    (sym c.host_len.ensures.place ∙ c.in_ok-host_len.was) in
    let found = c.port_of.ensures.only port (subst (IsPort port) (sym (port_text_is host s.port_text rest c.split_at.result.1.now c.in_ok-host_len.field-0 at c.split_at.ensures.back)) s.port_is) in
    absurd (let no : None ≡ Some port = sym c.in_err-port_of.was ∙ found in cc)

pub returns-clause-parts : goal.returns-clause-parts
returns-clause-parts c =
    let rest = c.in_ok-rest.rest.now in
    let n = c.in_ok-host_len.field-0 in
    let back = c.split_at.result.1.now in
    let is = strip_prefix_is Decides-eqb c.args.text.now (codes "tcp!") (Some c.in_ok-rest.rest) c.in_ok-rest.ensures.cases in
    let cut = cut_at_mark rest n (sym c.host_len.ensures.place ∙ c.in_ok-host_len.was) in
    let port : IsPort c.in_ok-port_of.field-0 (take (length back - 1) (drop 1 back)) = c.in_ok-port_of.ensures.port in
    let text_is : take (length back - 1) (drop 1 back) ≡ drop (n + 1) rest =
    take_rest back 1 ∙ ap (drop 1) c.split_at.ensures.back ∙ drop-drop_more rest n in
    parts_of c.args.text.now rest c.split_at.result.0.now n c.in_ok-port_of.field-0 is cut c.split_at.ensures.front
    (subst (IsPort c.in_ok-port_of.field-0) text_is port) (sym c.is_empty.ensures ∙ c.if-is_empty.false)

pub returns-clause-only : goal.returns-clause-only
returns-clause-only c host port s =
    let rest = c.in_ok-rest.rest.now in
    let is = strip_prefix_is Decides-eqb c.args.text.now (codes "tcp!") (Some c.in_ok-rest.rest) c.in_ok-rest.ensures.cases in
    let at = ends_at host s.port_text rest c.in_ok-host_len.field-0 s.plain (behind c.args.text.now rest host s.port_text is s.spelled)
    (sym c.host_len.ensures.place ∙ c.in_ok-host_len.was) in
    let found = c.port_of.ensures.only port (subst (IsPort port) (sym (port_text_is host s.port_text rest c.split_at.result.1.now c.in_ok-host_len.field-0 at c.split_at.ensures.back)) s.port_is) in
    (c.split_at.ensures.front ∙ at.front, same_Some c.in_ok-port_of.field-0 port (sym c.in_ok-port_of.was ∙ found))
