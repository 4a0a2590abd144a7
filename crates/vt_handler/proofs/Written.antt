-- What was written and what waits, call by call.
use Rattle.std.proofs.Common.{◌≡◌, List, [], ◌++◌, ℕ, take, drop, Result, Ok, Err, refl, sym, ◌∙◌, ap, append-nil, append_assoc}
use Rattle.std.specs.Prelude.{OnOk, OnErr}
use Rattle.std.proofs.lemmas.List.{take-append-drop}
use Rattle.vt_base.specs.declared.why.Failed.{Failed}
use Rattle.vt_out.specs.Streams.{AppendsPrefix}
use Rattle.vt_handler.specs.Writing.{WritesOut}

-- all that waits was put, or a front of it
pub put_writes : {T P : Type 0} (r : Result T Failed) (written waiting written' : List ℕ)
    → OnOk r (P → written' ≡ written ++ waiting) → OnErr r (P → AppendsPrefix written written' waiting) → P → WritesOut r written waiting written' [] []
put_writes (Ok done) written waiting written' ok err p = (waiting, ok p, refl)
put_writes (Err failed) written waiting written' ok err p =
    let n = (err p).0 in (take n waiting, (err p).1, (drop n waiting, take-append-drop n waiting ∙ sym (append-nil waiting)))

-- more waits than before
pub waits_more : {T : Type 0} (done : T) (written waiting waiting' said : List ℕ) → waiting' ≡ waiting ++ said → WritesOut (Ok done) written waiting written waiting' said
waits_more done written waiting waiting' said is = ([], sym (append-nil written), is)

-- one call after another, of which the first went well
pub writes_more : {T U : Type 0} (r : Result U Failed) (done : T) (written waiting written' waiting' said written'' waiting'' more : List ℕ)
    → WritesOut (Ok done) written waiting written' waiting' said → WritesOut r written' waiting' written'' waiting'' more → WritesOut r written waiting written'' waiting'' (said ++ more)
writes_more (Ok end) done written waiting written' waiting' said written'' waiting'' more x y = (
  x.0 ++ y.0,
  y.1 ∙ ap (λ (w : List ℕ). w ++ y.0) x.1 ∙ append_assoc written x.0 y.0,
  append_assoc x.0 y.0 waiting'' ∙ ap (λ (w : List ℕ). x.0 ++ w) y.2 ∙ sym (append_assoc x.0 waiting' more)
      ∙ ap (λ (w : List ℕ). w ++ more) x.2 ∙ append_assoc waiting said more,
)
writes_more (Err failed) done written waiting written' waiting' said written'' waiting'' more x y = (
  x.0 ++ y.0,
  y.1 ∙ ap (λ (w : List ℕ). w ++ y.0) x.1 ∙ append_assoc written x.0 y.0,
  (
    y.2.0,
    append_assoc x.0 y.0 y.2.0 ∙ ap (λ (w : List ℕ). x.0 ++ w) y.2.1 ∙ sym (append_assoc x.0 waiting' more)
        ∙ ap (λ (w : List ℕ). w ++ more) x.2 ∙ append_assoc waiting said more,
  ),
)

-- where a write failed, more is unsaid
pub unsaid_more : (T : Type 0) (failed : Failed) (written waiting written' waiting' waiting'' said : List ℕ) → WritesOut {T = T} (Err failed) written waiting written' waiting' []
    → WritesOut {T = T} (Err failed) written waiting written' waiting'' said
unsaid_more T failed written waiting written' waiting' waiting'' said w = (
  w.0,
  w.1,
  (w.2.0 ++ said, sym (append_assoc w.0 w.2.0 said) ∙ ap (λ (l : List ℕ). l ++ said) (w.2.1 ∙ append-nil waiting)),
)
