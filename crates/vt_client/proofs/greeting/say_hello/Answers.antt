use Rattle.std.proofs.Common.{◌≡◌, inl, inr, Err, List, [], ◌++◌, take, refl, sym, ◌∙◌, subst}
use Rattle.std.specs.Prelude.{IfErr}
use Rattle.std.proofs.lemmas.Result.{err_from_is_err_and}
use Rattle.vt_client.specs.Exchanges.{MovesBytes, traffic_of}
use Rattle.vt_client.specs.Greetings.{Greets, MayEndGreeting, client_line, welcome}
use Rattle.vt_client.proofs.Asking.{answered, mild}
use Rattle.vt_client.proofs.Beginning.{begins, greets_to_line, of_exchange, of_line, of_welcome}
use Rattle.vt_client.proofs.Moving.{Moves-out, Moves-part}
use Rattle.vt_client.proofs.greeting.say_hello.Goals as goal

pub returns-in_default-clause-greets : goal.returns-in_default-clause-greets
returns-in_default-clause-greets g c = λ score_of told.
    inl (Moves-part g.L.Link c.args.link.now c.put.new.self client_line client_line refl
    (c.in_default.ensures.failed told) (c.in_default.ensures.given told)
    (c.in_default.ensures.left told))

pub returns-in_err-take_line-clause-greets : goal.returns-in_err-take_line-clause-greets
returns-in_err-take_line-clause-greets g c = λ score_of told.
    let why = c.in_err-take_line.field-0.0 in
    let p = err_from_is_err_and c.from_residual.result c.from_residual.ensures.1 in
    let is : c.from_residual.result ≡ Err why = rw (p.1, p.2) refl in
    greets_to_line (traffic_of g.L.Link c.args.link.now) (traffic_of g.L.Link c.put.new.self)
    (traffic_of g.L.Link c.take_line.new.link)
    (Moves-out g.L.Link c.args.link.now c.put.new.self client_line (c.in-Ok.ensures.appended told)
    (c.in-Ok.ensures.given told) (c.in-Ok.ensures.left told))
    score_of why c.from_residual.result is c.in_err-take_line.ensures.about
    (c.in_err-take_line.ensures.taken told)

pub returns-in_err-len-clause-greets : goal.returns-in_err-len-clause-greets
returns-in_err-len-clause-greets g c = λ score_of told.
    let why = c.in_err-len.field-0.0 in
    let result = c.from_residual-in_err-len.result in
    let p = err_from_is_err_and result c.from_residual-in_err-len.ensures.1 in
    let is : result ≡ Err why = rw (p.1, p.2) refl in
    let before = traffic_of g.L.Link c.args.link.now in
    let between = traffic_of g.L.Link c.take_line.new.link in
    let after = traffic_of g.L.Link c.exchange.new.link in
    subst (Greets score_of before after) (sym is)
    (inr (
      between,
      begins before (traffic_of g.L.Link c.put.new.self) between
          (Moves-out g.L.Link c.args.link.now c.put.new.self client_line
          (c.in-Ok.ensures.appended told) (c.in-Ok.ensures.given told)
          (c.in-Ok.ensures.left told))
          (c.in_ok-take_line.ensures.taken told),
      inr (c.in_err-len.ensures.exchanged told),
    ))

pub returns-clause-greets : goal.returns-clause-greets
returns-clause-greets g c = λ score_of told.
    let before = traffic_of g.L.Link c.args.link.now in
    let between = traffic_of g.L.Link c.take_line.new.link in
    let after = traffic_of g.L.Link c.exchange.new.link in
    inr (
      between,
      begins before (traffic_of g.L.Link c.put.new.self) between
          (Moves-out g.L.Link c.args.link.now c.put.new.self client_line
          (c.in-Ok.ensures.appended told) (c.in-Ok.ensures.given told)
          (c.in-Ok.ensures.left told))
          (c.in_ok-take_line.ensures.taken told),
      answered score_of 0 welcome between after (take c.in_ok-len.len c.exchange.new.buf)
          c.welcome_in.result c.in_ok-len.ensures.frame (c.in_ok-len.ensures.exchanged told)
          (c.welcome_in.ensures score_of),
    )

pub returns-clause-sides : goal.returns-clause-sides
returns-clause-sides g c =
    (mild g.L.Link (λ bytes. bytes) welcome c.args.link.now c.exchange.new.link 0
    (take c.in_ok-len.len c.exchange.new.buf) c.welcome_in.result
    (c.welcome_in.ensures (λ bytes. bytes))
    (c.in_ok-len.ensures.sides.reads ∙ c.in_ok-take_line.ensures.sides.reads
    ∙ c.in-Ok.ensures.read_faults)
    (c.in_ok-len.ensures.sides.writes ∙ c.in_ok-take_line.ensures.sides.writes
    ∙ c.in-Ok.ensures.cause)).sides

pub returns-in_err-take_line-clause-about : goal.returns-in_err-take_line-clause-about
returns-in_err-take_line-clause-about g c =
    let why = c.in_err-take_line.field-0.0 in
    let p = err_from_is_err_and c.from_residual.result c.from_residual.ensures.1 in
    let is : c.from_residual.result ≡ Err why = rw (p.1, p.2) refl in
    subst (λ r. IfErr r MayEndGreeting) (sym is) (of_line why c.in_err-take_line.ensures.about)

pub returns-in_err-len-clause-about : goal.returns-in_err-len-clause-about
returns-in_err-len-clause-about g c =
    let why = c.in_err-len.field-0.0 in
    let result = c.from_residual-in_err-len.result in
    let p = err_from_is_err_and result c.from_residual-in_err-len.ensures.1 in
    let is : result ≡ Err why = rw (p.1, p.2) refl in
    subst (λ r. IfErr r MayEndGreeting) (sym is) (of_exchange why c.in_err-len.ensures.about)

pub returns-clause-about : goal.returns-clause-about
returns-clause-about g c =
    let it = mild g.L.Link (λ bytes. bytes) welcome c.args.link.now c.exchange.new.link 0
    (take c.in_ok-len.len c.exchange.new.buf) c.welcome_in.result
    (c.welcome_in.ensures (λ bytes. bytes))
    (c.in_ok-len.ensures.sides.reads ∙ c.in_ok-take_line.ensures.sides.reads
    ∙ c.in-Ok.ensures.read_faults)
    (c.in_ok-len.ensures.sides.writes ∙ c.in_ok-take_line.ensures.sides.writes
    ∙ c.in-Ok.ensures.cause) in
    of_welcome c.welcome_in.result it.refuses it.unspent
