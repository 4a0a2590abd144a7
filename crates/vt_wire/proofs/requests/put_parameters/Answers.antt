use Rattle.std.proofs.Common.{◌≡◌, ◌+◌, ◌∷◌, [], ◌++◌, ℕ, List, take, ◌∙◌, sym, ap, subst, append_assoc, arith, length}
use Rattle.std.specs.Prelude.{codes}
use Rattle.vt_wire.specs.Fields.{string}
use Rattle.vt_wire.specs.Messages.{request_parameters}
use Rattle.vt_wire.specs.Views.{message_of}
use Rattle.vt_wire.proofs.Buffers.{drop_further}
use Rattle.vt_wire.proofs.requests.put_parameters.Goals as goal

-- three fields, one behind another
three : (a b c front x y z : List ℕ) → a ≡ front ++ x → b ≡ a ++ y → c ≡ b ++ z
    → c ≡ front ++ (x ++ (y ++ z))
three a b c front x y z one two last =
    last ∙ ap (λ (l : List ℕ). l ++ z) (two ∙ ap (λ (l : List ℕ). l ++ y) one)
    ∙ append_assoc (front ++ x) y z ∙ append_assoc front x (y ++ z)

pub returns-in-Hello-clause-written : goal.returns-in-Hello-clause-written
returns-in-Hello-clause-written c =
    let front = take c.args.at c.args.buf.now in
    subst (λ r. take c.put.result c.put.new.buf ≡ front ++ request_parameters (message_of r))
    (sym c.in-Hello.is)
    (three _ _ _ front (string c.in-Hello.version.now) (string (codes "anonymous")) (0 ∷ 0 ∷ 0 ∷ [])
    c.put_string-at.ensures.written c.put_string-at-in-Hello.ensures.written
    (ap (λ (n : ℕ). take n c.put.new.buf) c.put.ensures.end ∙ c.put.ensures.written))

pub returns-in-Hello-clause-behind : goal.returns-in-Hello-clause-behind
returns-in-Hello-clause-behind c =
    let one = c.put_string-at.new.buf in
    let two = c.put_string-at-in-Hello.new.buf in
    drop_further (c.put_string-at-in-Hello.result + 3) c.put.result c.put.new.buf two
    c.put.ensures.behind (omega arith)
    ∙ drop_further c.put_string-at-in-Hello.result c.put.result two one
    c.put_string-at-in-Hello.ensures.behind (omega arith)
    ∙ drop_further c.put_string-at.result c.put.result one c.args.buf.now
    c.put_string-at.ensures.behind (omega arith)

pub returns-in-Read-clause-behind : goal.returns-in-Read-clause-behind
returns-in-Read-clause-behind c =
    let one = c.put-at.new.buf in
    let two = c.put-at-in-Read.new.buf in
    drop_further (c.put-at-in-Read.result + 2) c.put_u16.result c.put_u16.new.buf two
    c.put_u16.ensures.behind (omega arith)
    ∙ drop_further (c.put-at.result + 2) c.put_u16.result two one
    c.put-at-in-Read.ensures.behind (omega arith)
    ∙ drop_further (c.args.at + length c.in-Read.score.0) c.put_u16.result one c.args.buf.now
    c.put-at.ensures.behind (omega arith)

pub returns-in-Write-clause-behind : goal.returns-in-Write-clause-behind
returns-in-Write-clause-behind c =
    let one = c.put-at-in-Write.new.buf in
    drop_further (c.put-at-in-Write.result + length c.in-Write.bytes.now) c.put-in-Write.result
    c.put-in-Write.new.buf one c.put-in-Write.ensures.behind (omega arith)
    ∙ drop_further (c.args.at + 4) c.put-in-Write.result one c.args.buf.now
    c.put-at-in-Write.ensures.behind (omega arith)
