use Rattle.std.proofs.Common.{refl, arith, ◌<◌, ◌^◌}
use Rattle.nine_wire.specs.Messages.{RMessage, r_version, r_attach, r_flush, r_walk, r_open, r_read, r_clunk, r_stat, r_error, reply_type}
use Rattle.nine_wire.proofs.Framed.{reply_is_short}
use Rattle.nine_wire.proofs.laws.a_reply_is_a_message.Goals as goal

type_fits : (reply : RMessage) → reply_type reply < 2 ^ 8
type_fits (r_version msize version) = omega arith
type_fits (r_attach qid) = omega arith
type_fits (r_error text) = omega arith
type_fits r_flush = omega arith
type_fits (r_walk qids) = omega arith
type_fits (r_open qid iounit) = omega arith
type_fits (r_read bytes) = omega arith
type_fits r_clunk = omega arith
type_fits (r_stat stat) = omega arith

pub returns : goal.returns
returns c tag reply tag_fits fits = record {
  type_fits = type_fits reply;
  tag_fits = tag_fits;
  counted = reply_is_short reply fits;
  is = refl;
}
