-- what was read is the whole file, or the front of a longer one
use Rattle.std.proofs.Common.{◌<◌, ◌≤◌, ℕ, List, Some, inl, inr, length, refl, sym, ◌∙◌, ap, subst, arith}
use Rattle.vt_conf.specs.Configuration.{IsFirstCause}
use Rattle.vt_conf.specs.Parsing.{IsBad}
use Rattle.run_base.proofs.WholeFile.{too_long, whole}
use Rattle.run_base.proofs.configuration.read_conf.Goals as goal

pub returns-then-as_slice-gt-MAX_CONF-clause-refused : goal.returns-then-as_slice-gt-MAX_CONF-clause-refused
returns-then-as_slice-gt-MAX_CONF-clause-refused g c = (
  c.in-Ok.ensures.cause,
  λ tells.
      let told = c.in-Ok.ensures.content tells in (
        told.0,
        told.1,
        inl (
          too_long 65536 told.0 c.in-Ok.text told.2
              (subst (λ (t : List ℕ). 65536 < length t) c.as_slice.ensures c.if-as_slice-gt-MAX_CONF.true),
          refl,
          refl,
        ),
      ),
)

pub returns-in-Ok-parse_conf-clause-said : goal.returns-in-Ok-parse_conf-clause-said
returns-in-Ok-parse_conf-clause-said g c = record {
  text = c.as_slice-2.result.now;
  says = c.in-Ok-parse_conf.ensures.conf;
  content = λ tells.
      let told = c.in-Ok.ensures.content tells in
      let short : length c.in-Ok.text ≤ 65536 = omega (arith, c.if-as_slice-gt-MAX_CONF.false, ap length c.as_slice.ensures) in
      told.1 ∙ ap Some (sym (whole 65536 told.0 c.in-Ok.text told.2 short) ∙ sym c.as_slice-2.ensures);
  quiet = c.in-Ok.ensures.cause;
}

pub returns-in-Err-Bad-clause-refused : goal.returns-in-Err-Bad-clause-refused
returns-in-Err-Bad-clause-refused g c = (
  c.in-Ok.ensures.cause,
  λ tells.
      let told = c.in-Ok.ensures.content tells in
      let short : length c.in-Ok.text ≤ 65536 = omega (arith, c.if-as_slice-gt-MAX_CONF.false, ap length c.as_slice.ensures) in
      let is = whole 65536 told.0 c.in-Ok.text told.2 short in (
        told.0,
        told.1,
        inr (
          omega (arith, short, ap length is),
          subst (λ (t : List ℕ). IsFirstCause t c.in-Err-Bad.bad.line c.in-Err-Bad.bad.why) (c.as_slice-2.ensures ∙ is)
              (subst (IsBad (IsFirstCause c.as_slice-2.result.now)) c.in-Err-Bad.field-0-is c.in-Err-Bad.ensures.bad),
        ),
      ),
)
