-- A line behind what was said before it, or a front of both.
use Rattle.std.proofs.Common.{◌≡◌, ◌⊎◌, ◌++◌, ◌∙◌, ⊎_elim, inl, inr, ap, sym, subst, append_assoc, append-nil, List, [], ℕ, Result, Ok, Err}
use Rattle.std.specs.Prelude.{IsTrue, OnErr, OnOk}
use Rattle.vt_base.specs.Faults.{HasCause, HasRisen}
use Rattle.vt_base.specs.declared.why.Failed.{Failed}
use Rattle.vt_out.specs.Streams.{AppendsPrefix}
use Rattle.run_base.specs.Change.{Attempts, sink_change}
use Rattle.run_base.specs.Members.{SinkOf}
use Rattle.run_base.specs.Said.{Said}
use Rattle.run_base.proofs.Puts.{front_behind}

module _ {F : Type 0} (sink : SinkOf F) (old mid new : F) (preface line : List ℕ) where
  pub said_before : (said : Result (Unit {0}) Failed) → Said said (sink_change sink old mid) preface
      → OnOk said (Attempts (sink_change sink mid new) line) → OnErr said (new ≡ mid)
      → Attempts (sink_change sink old new) (preface ++ line)
  said_before (Ok done) x goes same tells = ⊎_elim
      (λ whole. inl (whole ∙ ap (λ (w : List ℕ). w ++ line) (x.0 tells)
      ∙ append_assoc (sink.written old) preface line))
      (λ part.
      let front = front_behind (sink.written old) preface line [] (sink.written new)
      (subst (λ (w : List ℕ). AppendsPrefix w (sink.written new) line) (x.0 tells) part.0) in
      inr (
        subst (λ (l : List ℕ). AppendsPrefix (sink.written old) (sink.written new) (preface ++ l))
            (append-nil line) front,
        subst (λ (n : ℕ). HasRisen n (sink.faults new)) x.1 part.1,
      ))
      (goes tells)
  said_before (Err failed) x goes same tells =
      let front = front_behind (sink.written old) [] preface line (sink.written mid)
      (subst (λ (w : List ℕ). AppendsPrefix w (sink.written mid) preface)
      (sym (append-nil (sink.written old))) (x.0 tells)) in
      subst (λ (f : F). (sink.written f ≡ sink.written old ++ (preface ++ line))
      ⊎ (AppendsPrefix (sink.written old) (sink.written f) (preface ++ line)
      × HasRisen (sink.faults old) (sink.faults f))) (sym same) (inr (front, x.1))

-- what a call said of what it wrote
module _ {F : Type 0} (sink : SinkOf F) (old new : F) (text : List ℕ) where
  pub said_as : (said : Result (Unit {0}) Failed)
      → OnOk said (IsTrue sink.tells → sink.written new ≡ sink.written old ++ text)
      → OnErr said (IsTrue sink.tells → AppendsPrefix (sink.written old) (sink.written new) text)
      → HasCause said (sink.faults old) (sink.faults new)
      → Said said (sink_change sink old new) text
  said_as (Ok done) whole part cause = (whole, cause)
  said_as (Err failed) whole part cause = (part, cause)

  -- nothing
  pub unsaid : old ≡ new → Said (Ok tt) (sink_change sink old new) []
  unsaid same = (
    λ tells. ap sink.written (sym same) ∙ sym (append-nil (sink.written old)),
    ap sink.faults (sym same),
  )
