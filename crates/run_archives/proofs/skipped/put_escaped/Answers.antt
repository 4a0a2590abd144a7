-- the bytes before one that failed, and a front of that
use Rattle.std.proofs.Common.{◌++◌, map, take, List, ℕ, sym, ◌∙◌, ap, subst, append_assoc, get_or}
use Rattle.std.specs.List.{concat}
use Rattle.vt_disk.proofs.Calls.{on_err}
use Rattle.vt_out.specs.Streams.{AppendsPrefix}
use Rattle.run_archives.specs.Skipped.{escaped}
use Rattle.run_base.proofs.Puts.{front_behind, around, one_more}
use Rattle.run_archives.proofs.skipped.put_escaped.Goals as goal

pub returns-in_err-put_byte-clause-failed : goal.returns-in_err-put_byte-clause-failed
returns-in_err-put_byte-clause-failed g c = on_err c.from_residual.result (λ tells.
    let path = c.args.path.now in
    let i = c.loop-byte.byte-index in
    let old = g.F.Sink.written c.args.sink.now in
    let new = g.F.Sink.written c.put_byte.new.sink in
    let before = concat (map escaped (take i path)) in
    let parts = around escaped path i 0 c.loop-byte-test.true in
    let front = subst (λ (w : List ℕ). AppendsPrefix w new (escaped (get_or path i 0)))
    (c.loop-byte.invariant.written tells) (c.in_err-put_byte.ensures.failed tells) in
    subst (AppendsPrefix old new) (sym parts.1)
    (front_behind old before (escaped (get_or path i 0)) parts.0 new front))

pub loop-byte-preserved : goal.loop-byte-preserved
loop-byte-preserved g c =
    let path = c.args.path.now in
    let i = c.loop-byte.byte-index in
    let old = g.F.Sink.written c.args.sink.now in
    let before = concat (map escaped (take i path)) in
    let piece = escaped (get_or path i 0) in
    record {
      written = λ tells.
          c.in_ok-put_byte.ensures.appended tells
          ∙ ap (λ (w : List ℕ). w ++ piece) (c.loop-byte.invariant.written tells)
          ∙ append_assoc old before piece
          ∙ ap (λ (w : List ℕ). old ++ w) (sym (one_more escaped path i 0 c.loop-byte-test.true));
      no_fault = c.in_ok-put_byte.ensures.cause ∙ c.loop-byte.invariant.no_fault;
    }
