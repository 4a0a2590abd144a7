-- a path as it is, or in quotes
use Rattle.std.proofs.Common.{◌≡◌, ◌++◌, Bool, true, false, cond, List, ℕ, IsTrue, sym, ◌∙◌, ap, subst}
use Rattle.std.specs.Prelude.{OnErr, OnOk}
use Rattle.vt_out.specs.Streams.{AppendsPrefix}
use Rattle.run_archives.specs.Skipped.{in_quotes, quoted, wants_quotes}
use Rattle.run_archives.proofs.skipped.put_path.Goals as goal

quoted_as : (path : List ℕ) (t : Bool) → wants_quotes path ≡ t
    → cond t (in_quotes path) path ≡ quoted path
quoted_as path t is = ap (λ (b : Bool). cond b (in_quotes path) path) (sym is)

pub returns-then-wants_quotes-clause-appended : goal.returns-then-wants_quotes-clause-appended
returns-then-wants_quotes-clause-appended g c =
    let written = g.F.Sink.written in
    subst (λ (l : List ℕ). OnOk c.put_quoted.result (IsTrue g.F.Sink.tells
    → written c.put_quoted.new.sink ≡ written c.args.sink.now ++ l))
    (quoted_as c.args.path.now true (sym c.wants_quotes.ensures ∙ c.if-wants_quotes.true))
    c.put_quoted.ensures.appended

pub returns-then-wants_quotes-clause-failed : goal.returns-then-wants_quotes-clause-failed
returns-then-wants_quotes-clause-failed g c =
    let written = g.F.Sink.written in
    subst (λ (l : List ℕ). OnErr c.put_quoted.result (IsTrue g.F.Sink.tells
    → AppendsPrefix (written c.args.sink.now) (written c.put_quoted.new.sink) l))
    (quoted_as c.args.path.now true (sym c.wants_quotes.ensures ∙ c.if-wants_quotes.true))
    c.put_quoted.ensures.failed

pub returns-else-wants_quotes-clause-appended : goal.returns-else-wants_quotes-clause-appended
returns-else-wants_quotes-clause-appended g c =
    let written = g.F.Sink.written in
    subst (λ (l : List ℕ). OnOk c.put.result (IsTrue g.F.Sink.tells
    → written c.put.new.self ≡ written c.args.sink.now ++ l))
    (quoted_as c.args.path.now false (sym c.wants_quotes.ensures ∙ c.if-wants_quotes.false))
    c.put.ensures.appended

pub returns-else-wants_quotes-clause-failed : goal.returns-else-wants_quotes-clause-failed
returns-else-wants_quotes-clause-failed g c =
    let written = g.F.Sink.written in
    subst (λ (l : List ℕ). OnErr c.put.result (IsTrue g.F.Sink.tells
    → AppendsPrefix (written c.args.sink.now) (written c.put.new.self) l))
    (quoted_as c.args.path.now false (sym c.wants_quotes.ensures ∙ c.if-wants_quotes.false))
    c.put.ensures.failed
