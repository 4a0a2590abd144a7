-- a word that spells no address names the file of a configuration
use Rattle.std.proofs.Common.{◌≡◌, ◌∙◌, inl, ℕ, List, Some, None, Option, Err, rules, sym, subst}
use Rattle.vt_conf.specs.declared.address.Address.{Address}
use Rattle.vt_conf.specs.Addresses.{SpellsAddress}
use Rattle.run_base.specs.Places.{SpellsNone}
use Rattle.run_base.proofs.place.store_at.Goals as goal

-- an address that it spells would have been found
none_spelled : (text word : List ℕ) (found : Option Address) → text ≡ word → found ≡ None
    → ((a : Address) → SpellsAddress a text → found ≡ Some a) → SpellsNone word
none_spelled text word found same none only address spells =
    let some : None ≡ Some address = sym none
    ∙ only address (subst (SpellsAddress address) (sym same) spells) in
    absurd (let never : ⊥ = cc in never)

pub returns-in_ok-conf-in-Ok-None-clause-found : goal.returns-in_ok-conf-in-Ok-None-clause-found
returns-in_ok-conf-in-Ok-None-clause-found g c = (
  none_spelled c.as_slice.result.now c.args.word.now c.in-Ok-None.field-0 c.as_slice.ensures
      c.in-Ok-None.field-0-is c.in-Ok-None.ensures.only,
  c.in_ok-conf-in-Ok-None.ensures.said,
)

pub returns-in_err-conf-in-Ok-None-clause-none : goal.returns-in_err-conf-in-Ok-None-clause-none
returns-in_err-conf-in-Ok-None-clause-none g c =
    let failure = c.in_err-conf-in-Ok-None.field-0.0 in
    let is : c.from_residual.result ≡ Err failure = search rules in
    rw is (inl (
      none_spelled c.as_slice.result.now c.args.word.now c.in-Ok-None.field-0 c.as_slice.ensures
          c.in-Ok-None.field-0-is c.in-Ok-None.ensures.only,
      c.in_err-conf-in-Ok-None.ensures.refused,
    ))
