use Rattle.std.proofs.Common.{◌≡◌, ◌≢◌, ℕ, ◌+◌, ◌<◌, ◌≤◌, Err, List, [], ◌∷◌, ◌++◌, length, take, refl, sym, subst, ◌∙◌, arith, length-take}
use Rattle.std.specs.List.{All}
use Rattle.std.proofs.lemmas.List.{take_more_set}
use Rattle.std.proofs.lemmas.List.Elements.{All-append, All-cons, All-nil}
use Rattle.std.proofs.lemmas.Result.{err_from_is_err_and}
use Rattle.vt_client.specs.Exchanges.{MovesBytes, traffic_of}
use Rattle.vt_client.proofs.Lines.{stops_in_line}
use Rattle.vt_client.proofs.Moving.{Moves-append}
use Rattle.vt_client.proofs.greeting.take_to_newline.Goals as goal

pub returns-in_err-byte-clause-taken : goal.returns-in_err-byte-clause-taken
returns-in_err-byte-clause-taken g c = λ told.
    let front = take c.loop-n.n c.loop-n.buf in
    let why = c.in_err-byte.field-0.0 in
    let p = err_from_is_err_and c.from_residual.result c.from_residual.ensures.1 in
    let is : c.from_residual.result ≡ Err why = rw (p.1, p.2) refl in
    let so = c.loop-n.invariant in
    stops_in_line (traffic_of g.L.Link c.args.link.now) (traffic_of g.L.Link c.loop-n.link)
    (traffic_of g.L.Link c.take_byte.new.link) front c.loop-n.buf why c.from_residual.result is
    so.plain (omega (arith, length-take c.loop-n.n c.loop-n.buf, so.within)) (so.moves told)
    (c.in_err-byte.ensures.taken told)

pub returns-in_err-byte-2-clause-taken : goal.returns-in_err-byte-2-clause-taken
returns-in_err-byte-2-clause-taken g c = λ told.
    let front = take c.loop-n.n c.loop-n.buf in
    let why = c.in_err-byte-2.field-0.0 in
    let result = c.from_residual-in_err-byte-2.result in
    let p = err_from_is_err_and result c.from_residual-in_err-byte-2.ensures.1 in
    let is : result ≡ Err why = rw (p.1, p.2) refl in
    let so = c.loop-n.invariant in
    stops_in_line (traffic_of g.L.Link c.args.link.now) (traffic_of g.L.Link c.loop-n.link)
    (traffic_of g.L.Link c.take_byte-2.new.link) front c.loop-n.buf why result is
    so.plain (omega (arith, length-take c.loop-n.n c.loop-n.buf, so.within)) (so.moves told)
    (c.in_err-byte-2.ensures.taken told)

pub loop-n-preserved : goal.loop-n-preserved
loop-n-preserved g c =
    let so = c.loop-n.invariant in
    let n : ℕ = c.loop-n.n in
    let buf : List ℕ = c.loop-n.buf in
    let byte : ℕ = c.in_ok-byte.byte in
    let front = traffic_of g.L.Link c.args.link.now in
    let here = traffic_of g.L.Link c.loop-n.link in
    let after = traffic_of g.L.Link c.take_byte.new.link in
    let more = sym (take_more_set buf n byte
    (omega (arith, c.loop-n.auto.buf, c.requires, so.within))) in
    record {
      within = omega (arith, c.loop-n-test.true);
      plain = subst (All (λ (b : ℕ). b ≢ 10)) more (All-append (λ (b : ℕ). b ≢ 10) (take n buf)
          (byte ∷ []) so.plain (All-cons (λ (b : ℕ). b ≢ 10) byte [] c.if-byte-eq10.false
          (All-nil (λ (b : ℕ). b ≢ 10))));
      moves = λ told. subst (λ (l : List ℕ). MovesBytes front after [] l) more
          (Moves-append front here after [] [] (take n buf) (byte ∷ []) (so.moves told)
          (c.in_ok-byte.ensures.taken told));
      reads = c.in_ok-byte.ensures.sides.reads ∙ so.reads;
      writes = c.in_ok-byte.ensures.sides.writes ∙ so.writes;
    }
