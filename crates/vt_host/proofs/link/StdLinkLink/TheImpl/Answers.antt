use Rattle.std.proofs.Common.{◌&&◌, ap}
use Rattle.std.proofs.lemmas.Bool.{and_parts}
use Rattle.std.specs.Prelude.{IsTrue}
use Rattle.vt_host.proofs.Moving as moving
use Rattle.vt_host.proofs.link.StdLinkLink.TheImpl.Goals as goal

-- what the reader tells of a call the link tells, where the writer tells too
pub take-tells : goal.take-tells
take-tells g c =
    let reads = g.R.ReadCalls in
    let writes = g.W.WriteCalls in
    let told = IsTrue (reads.tells && writes.tells) in
    let buf = c.args.buf.now in
    let filled = c.new.buf.now in
    let given = reads.given c.args.self.now.source.input in
    let given' = reads.given c.new.self.now.source.input in
    let left = reads.left c.args.self.now.source.input in
    let left' = reads.left c.new.self.now.source.input in
    let takes = λ (t : told). c.ensures.takes (and_parts reads.tells writes.tells t).0 in
    record {
      fits = c.ensures.fits;
      moved = moving.moved told buf filled given given' left left' c.result takes;
      came = moving.came told buf filled given given' left left' c.result takes;
      end = moving.ends told buf filled given given' left left' c.result takes;
      rest = moving.rest told buf filled given given' left left' c.result takes;
      kept = moving.kept told buf filled given given' left left' c.result takes;
      none = moving.none told buf filled given given' left left' c.result takes;
      untouched = moving.untouched told buf filled given given' left left' c.result takes;
      cause = c.ensures.cause;
      written = λ _. ap (λ s. writes.went s.output) c.ensures.sink;
      write_faults = ap (λ s. s.faults.count) c.ensures.sink;
    }

pub put-tells : goal.put-tells
put-tells g c =
    let reads = g.R.ReadCalls in
    let writes = g.W.WriteCalls in
    let told = IsTrue (reads.tells && writes.tells) in
    let piece = c.args.piece.now in
    let old = writes.went c.args.self.now.sink.output in
    let new = writes.went c.new.self.now.sink.output in
    let puts = λ (t : told). c.ensures.puts (and_parts reads.tells writes.tells t).1 in
    record {
      appended = moving.appended told piece old new c.result puts;
      failed = moving.cut_off told piece old new c.result puts;
      cause = c.ensures.cause;
      given = λ _. ap (λ s. reads.given s.input) c.ensures.source;
      left = λ _. ap (λ s. reads.left s.input) c.ensures.source;
      read_faults = ap (λ s. s.faults.count) c.ensures.source;
    }
