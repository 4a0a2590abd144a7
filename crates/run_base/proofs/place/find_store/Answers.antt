-- the name of the store in memory, or that of another place
use Rattle.std.proofs.Common.{◌≡◌, ◌≢◌, ◌∙◌, ℕ, List, Err, true, false, rules, sym, subst}
use Rattle.std.specs.Str.{bytes_eq}
use Rattle.run_base.specs.Places.{in_memory}
use Rattle.run_base.proofs.place.find_store.Goals as goal

-- a word that isn't that name
not_memory : (word : List ℕ) → bytes_eq word in_memory ≡ false → word ≢ in_memory
not_memory word other is =
    let no : bytes_eq in_memory in_memory ≡ false =
    subst (λ (w : List ℕ). bytes_eq w in_memory ≡ false) is other in
    let wrong : true ≡ false = no in
    absurd (let never : ⊥ = cc in never)

pub returns-clause-found : goal.returns-clause-found
returns-clause-found g c = (
  not_memory c.args.word.now (sym c.is_in_memory.ensures ∙ c.if-is_in_memory.false),
  c.in_ok-at.ensures.found,
)

pub returns-in_err-at-clause-none : goal.returns-in_err-at-clause-none
returns-in_err-at-clause-none g c =
    let failure = c.in_err-at.field-0.0 in
    let is : c.from_residual.result ≡ Err failure = search rules in
    rw is (
      not_memory c.args.word.now (sym c.is_in_memory.ensures ∙ c.if-is_in_memory.false),
      c.in_err-at.ensures.none,
    )
