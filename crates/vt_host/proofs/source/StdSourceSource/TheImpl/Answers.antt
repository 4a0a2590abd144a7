use Rattle.std.proofs.Common.{refl}
use Rattle.std.specs.Prelude.{IsTrue}
use Rattle.vt_host.proofs.Moving as moving
use Rattle.vt_host.proofs.source.StdSourceSource.TheImpl.Goals as goal

-- what the reader tells of a call the source tells
pub take-tells : goal.take-tells
take-tells g c =
    let reads = g.R.ReadCalls in
    let told = IsTrue reads.tells in
    let buf = c.args.buf.now in
    let filled = c.new.buf.now in
    let given = reads.given c.args.self.now.input in
    let given' = reads.given c.new.self.now.input in
    let left = reads.left c.args.self.now.input in
    let left' = reads.left c.new.self.now.input in
    let takes = c.ensures.takes in
    record {
      fits = c.ensures.fits;
      moved = moving.moved told buf filled given given' left left' c.result takes;
      came = moving.came told buf filled given given' left left' c.result takes;
      end = moving.ends told buf filled given given' left left' c.result takes;
      rest = moving.rest told buf filled given given' left left' c.result takes;
      kept = moving.kept told buf filled given given' left left' c.result takes;
      none = moving.none told buf filled given given' left left' c.result takes;
      untouched = moving.untouched told buf filled given given' left left' c.result takes;
      cause = c.ensures.cause;
      keeps = refl;
    }
