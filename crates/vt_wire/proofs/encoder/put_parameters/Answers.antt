use Rattle.std.proofs.Common.{◌≡◌, ◌∷◌, [], ◌++◌, take, ◌∙◌, sym, subst, append_assoc}
use Rattle.std.specs.Prelude.{codes}
use Rattle.vt_wire.specs.Fields.{string}
use Rattle.vt_wire.specs.Messages.{reply_parameters}
use Rattle.vt_wire.specs.Views.{reply_of}
use Rattle.vt_wire.proofs.encoder.put_parameters.Goals as goal

pub returns-in-Hello-clause-written : goal.returns-in-Hello-clause-written
returns-in-Hello-clause-written c =
    let front = take c.args.at c.args.buf.now in
    let sid : take c.put_string-at.result c.put_string-at.new.buf ≡ front ++ string (codes "anonymous") = c.put_string-at.ensures.written in
    let both : take c.put.result c.put.new.buf ≡ (front ++ string (codes "anonymous")) ++ (0 ∷ 0 ∷ []) = cc in
    subst (λ r. take c.put.result c.put.new.buf ≡ front ++ reply_parameters (reply_of r)) (sym c.in-Hello.is)
    (both ∙ append_assoc front (string (codes "anonymous")) (0 ∷ 0 ∷ []))
