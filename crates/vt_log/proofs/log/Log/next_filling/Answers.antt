-- What fits is small, since a region is.
use Rattle.std.proofs.Common.{◌≡◌, List, length, sym, ◌∙◌, subst, ap, refl, arith}
use Rattle.std.proofs.lemmas.Option.{slice_get_read}
use Rattle.vt_log.specs.Whole.{IsWholeLog}
use Rattle.vt_log.specs.Log.{LogState}
use Rattle.vt_arena.specs.declared.head.Found.{Found}
use Rattle.vt_log.proofs.Fill.{fits_small, next_none, next_past, next_some}
use Rattle.vt_log.proofs.log.Log.next_filling.Goals as goal

pub returns-then-fits-clause-small : goal.returns-then-fits-clause-small
returns-then-fits-clause-small g c =
    fits_small _ _ c.self.inside.filling c.args.n (subst (IsWholeLog _) c.self.view_is c.self.invariant) (sym c.fits.ensures ∙ c.if-fits.true)

pub returns-then-fits-2-clause-small : goal.returns-then-fits-2-clause-small
returns-then-fits-2-clause-small g c =
    fits_small _ _ c.of-next.result c.args.n (subst (IsWholeLog _) c.self.view_is c.self.invariant) (sym c.fits-2.ensures ∙ c.if-fits-2.true)

pub returns-else-fits-2-clause-next : goal.returns-else-fits-2-clause-next
returns-else-fits-2-clause-next g c =
    let index = c.in_ok-arena.ensures in
    let read = c.in_ok-found.ensures in
    let heads : c.deref.result.now ≡ c.args.self.now.heads = c.deref.ensures.value ∙ ap (λ (l : LogState _). l.heads) c.self.view_is in
    sym (next_none c.args.self.now c.self.inside.filling c.of-next.result c.args.n c.in_ok-arena.arena c.in_ok-found.found.now
    (sym (ap (λ (l : LogState _). l.filling) c.self.view_is)) (sym index.1) (sym c.fits.ensures ∙ c.if-fits.false)
    (rw (← heads) (slice_get_read _ _ _ _ refl read.lookup.3.0 read.lookup.1))
    c.of-next.ensures (sym c.fits-2.ensures ∙ c.if-fits-2.false))

pub returns-in_err-found-clause-next : goal.returns-in_err-found-clause-next
returns-in_err-found-clause-next g c =
    let heads : c.deref.result.now ≡ c.args.self.now.heads = c.deref.ensures.value ∙ ap (λ (l : LogState _). l.heads) c.self.view_is in
    let index = c.in_ok-arena.ensures in
    rw c.from_residual-in_err-found.ensures
    (sym (next_past _ c.args.self.now c.self.inside.filling c.args.n c.in_ok-arena.arena (subst (IsWholeLog _) c.self.view_is c.self.invariant)
    (sym (ap (λ (l : LogState _). l.filling) c.self.view_is)) (sym index.1) (sym c.fits.ensures ∙ c.if-fits.false)
    (omega (arith, c.in_err-found.ensures.lookup, ap (λ (hs : List Found). length hs) heads))))

pub returns-then-fits-2-clause-next : goal.returns-then-fits-2-clause-next
returns-then-fits-2-clause-next g c =
    let index = c.in_ok-arena.ensures in
    let read = c.in_ok-found.ensures in
    let heads : c.deref.result.now ≡ c.args.self.now.heads = c.deref.ensures.value ∙ ap (λ (l : LogState _). l.heads) c.self.view_is in
    sym (next_some c.args.self.now c.self.inside.filling c.of-next.result c.args.n c.in_ok-arena.arena c.in_ok-found.found.now
    (sym (ap (λ (l : LogState _). l.filling) c.self.view_is)) (sym index.1) (sym c.fits.ensures ∙ c.if-fits.false)
    (λ second. c.if-version-eq-SECTOR_VERSION.false (c.version.ensures ∙ second))
    (rw (← heads) (slice_get_read _ _ _ _ refl read.lookup.3.0 read.lookup.1))
    c.of-next.ensures (sym c.fits-2.ensures ∙ c.if-fits-2.true))
