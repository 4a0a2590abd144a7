use Rattle.std.proofs.Common.{◌≡◌, inl, inr, true, false, List, [], ◌∷◌, ◌++◌, Some, None, Ok, Err, Result, refl, ◌∙◌, ap, subst, append_assoc}
use Rattle.std.specs.Prelude.{IsTrue, OnErr}
use Rattle.vt_host.specs.Calls.{FileCall, locked, synced}
use Rattle.vt_host.specs.Opening.{GrowsFile, StopsShort}
use Rattle.vt_host.proofs.disk.lock_and_grow.Goals as goal

on_err : {T E : Type 0} (r : Result T E) (P : Type 0) → P → OnErr r P
on_err (Ok x) P p = tt
on_err (Err e) P p = p

pub returns-in_err-len-clause-failed : goal.returns-in_err-len-clause-failed
returns-in_err-len-clause-failed g c =
    let made = g.F.FileCalls.made in
    let fact : IsTrue g.F.FileCalls.tells → (x : List FileCall) × (made c.grow.new.file ≡ made c.args.file.now ++ x) × StopsShort c.args.grow_to x =
    λ tells.
    let grown = c.in_err-len.ensures.calls tells in (
      locked true ∷ grown.0,
      grown.1 ∙ ap (λ (l : List FileCall). l ++ grown.0) (c.in_ok-lock.ensures.noted tells) ∙ append_assoc (made c.args.file.now) (locked true ∷ []) grown.0,
      inr (inl (grown.0, subst (λ w. GrowsFile w grown.0 None) c.unwrap_or.ensures grown.2, refl)),
    ) in
    on_err c.from_residual-in_err-len.result
    (IsTrue g.F.FileCalls.tells → (x : List FileCall) × (made c.grow.new.file ≡ made c.args.file.now ++ x) × StopsShort c.args.grow_to x) fact

pub returns-in_err-sync-clause-failed : goal.returns-in_err-sync-clause-failed
returns-in_err-sync-clause-failed g c =
    let made = g.F.FileCalls.made in
    let fact : IsTrue g.F.FileCalls.tells → (x : List FileCall) × (made c.sync.new.self ≡ made c.args.file.now ++ x) × StopsShort c.args.grow_to x =
    λ tells.
    let grown = c.in_ok-len.ensures.calls tells in
    let old = made c.args.file.now in
    let last : List FileCall = synced false ∷ [] in (
      locked true ∷ (grown.0 ++ last),
      c.in_err-sync.ensures.noted tells ∙ ap (λ (l : List FileCall). l ++ last) (grown.1 ∙ ap (λ (l : List FileCall). l ++ grown.0) (c.in_ok-lock.ensures.noted tells) ∙ append_assoc old (locked true ∷ []) grown.0)
          ∙ append_assoc old (locked true ∷ grown.0) last,
      inr (inr (grown.0, c.in_ok-len.len, subst (λ w. GrowsFile w grown.0 (Some c.in_ok-len.len)) c.unwrap_or.ensures grown.2, refl)),
    ) in
    on_err c.from_residual-in_err-sync.result
    (IsTrue g.F.FileCalls.tells → (x : List FileCall) × (made c.sync.new.self ≡ made c.args.file.now ++ x) × StopsShort c.args.grow_to x) fact
