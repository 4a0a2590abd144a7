use Rattle.std.proofs.Common.{sym, subst, ◌∙◌}
use Rattle.std.specs.Prelude.{IsSome}
use Rattle.vt_lumps.specs.Lumps.{LumpsState, cached_bytes}
use Rattle.vt_lumps.proofs.lumps.Lumps.keep.Goals as goal

pub returns-clause-succeeds : goal.returns-clause-succeeds
returns-clause-succeeds c = λ kept.
    c.is_ok.ensures.value
    ∙ c.put.ensures.succeeds (subst (λ (s : LumpsState). IsSome (cached_bytes c.args.key s)) (sym c.self.view_is) kept)
