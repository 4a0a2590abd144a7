use Rattle.std.proofs.Common.{◌≡◌, ⊎_elim, ◌<◌, ◌≤◌, ℕ, Option, None, Some, false, refl, sym, ap, subst, ◌∙◌, true≢false, arith}
use Rattle.std.specs.Prelude.{IfSome, is_some}
use Rattle.std.proofs.lemmas.Bool.{cases_lt}
use Rattle.vt_base.specs.Kind.{is_kind}
use Rattle.vt_base.specs.declared.key.Key.{Key}
use Rattle.vt_base.specs.declared.place.Entry.{Entry}
use Rattle.vt_base.specs.declared.score.Score.{Score}
use Rattle.vt_icache.specs.Index.{IndexState, IsCached, cached_entry}
use Rattle.vt_icache.proofs.Found.{kept_kind, kind_bounds, found_is_kept, kept_is_found}
use Rattle.vt_icache.proofs.cache.IndexCache.find_score.Goals as goal
use Rattle.vt_icache.proofs.cache.IndexCache.find_score.Goals.{in-Some+else-is_some, in_default}

-- of a score and a kind there is one key
one_key : (entry : Entry) (score : Score) (kind n : ℕ) → entry.key.score.0 ≡ score.0 → entry.key.kind ≡ n → kind ≡ n
    → entry.key ≡ record { score = score; kind = kind }
one_key entry score kind n scores kinds is =
    let same : entry.key.kind ≡ kind = kinds ∙ sym is in
    λ i. record { score = record { 0 = scores i }; kind = same i }

pub loop-number-init : goal.loop-number-init
loop-number-init c = λ entry kept small scores.
    let it = kind_bounds entry.key.kind (kept_kind _ c.self.invariant entry (subst (λ (s : IndexState). IsCached s entry) (sym c.self.view_is) kept)) in
    omega (arith, it.0, small)

found_at : (key : Key) (s : IndexState) (o : Option Entry) → o ≡ cached_entry key s → IfSome o (λ entry. entry.key ≡ key)
    → IfSome o (λ entry. IsCached s entry × (entry.key.score.0 ≡ key.score.0))
found_at key s None is own = tt
found_at key s (Some entry) is own = (found_is_kept key s entry (sym is), ap (λ (k : Key). k.score.0) own)

pub returns-then-is_some-clause-found : goal.returns-then-is_some-clause-found
returns-then-is_some-clause-found c =
    found_at (record { score = c.args.score.now; kind = c.in-Some.kind }) c.args.self.now c.get-found.result
    c.get-found.ensures.found c.get-found.ensures.key

none_of : (o : Option Entry) → is_some o ≡ false → o ≡ None
none_of None is = refl
none_of (Some entry) is = absurd (true≢false is)

pub loop-number-preserved : goal.loop-number-preserved
loop-number-preserved c = λ entry kept small scores.
    let kind = kept_kind _ c.self.invariant entry (subst (λ (s : IndexState). IsCached s entry) (sym c.self.view_is) kept) in
    ⊎_elim
    (λ (lt : entry.key.kind < c.loop-number.number). c.loop-number.invariant entry kept lt scores)
    (λ (ge : c.loop-number.number ≤ entry.key.kind).
    let same : entry.key.kind ≡ c.loop-number.number = omega (arith, ge, small) in
    elim c.match-from_wire.branch [
      | in-Some+else-is_some w ↦
          let none : w.get-found.result ≡ None = none_of w.get-found.result (sym w.is_some.ensures ∙ w.if-is_some.false) in
          kept_is_found (record { score = c.args.score.now; kind = w.in-Some.kind }) c.args.self.now entry
          (one_key entry c.args.score.now w.in-Some.kind c.loop-number.number scores same w.in-Some.ensures.found)
          kept (sym w.get-found.ensures.found ∙ none)
      | in_default w ↦
          let no : is_kind c.loop-number.number ≡ false = sym w.in_default.ensures.variant in
          true≢false (sym kind ∙ ap is_kind same ∙ no)
    ])
    (cases_lt entry.key.kind c.loop-number.number)

pub returns-clause-none : goal.returns-clause-none
returns-clause-none c = λ entry kept scores.
    let it = kind_bounds entry.key.kind (kept_kind _ c.self.invariant entry (subst (λ (s : IndexState). IsCached s entry) (sym c.self.view_is) kept)) in
    c.loop-number.invariant entry kept (omega (arith, it.1)) scores
