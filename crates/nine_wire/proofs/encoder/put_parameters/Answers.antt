use Rattle.std.proofs.Common.{◌+◌, ◌≤◌, length, sym, refl, subst, arith}
use Rattle.std.specs.Prelude.{map}
use Rattle.std.proofs.lemmas.List.{length-map}
use Rattle.nine_wire.specs.declared.message.Reply.{Reply}
use Rattle.nine_wire.specs.Messages.{reply_parameters}
use Rattle.nine_wire.specs.Views.{wire_qid, reply_of}
use Rattle.nine_wire.specs.Writing.{WritesField}
use Rattle.nine_wire.proofs.Framed.{qids_len}
use Rattle.nine_wire.proofs.Writes.{and_then, one_field, sized}
use Rattle.nine_wire.proofs.encoder.put_parameters.Goals as goal

pub put_qids-requires-clause-room : goal.put_qids-requires-clause-room
put_qids-requires-clause-room c =
    let room = subst
    (λ (r : Reply). c.args.at + length (reply_parameters (reply_of r)) ≤ length c.args.buf.now)
    c.in-Walk.is c.requires.room in
    omega (
      arith,
      room,
      qids_len (map wire_qid c.in-Walk.qids.now),
      length-map c.in-Walk.qids.now wire_qid,
    )

pub returns-in-Version : goal.returns-in-Version
returns-in-Version c =
    subst (λ (r : Reply). WritesField c.args.at c.put_string.result c.args.buf.now
    c.put_string.new.buf (reply_parameters (reply_of r))) (sym c.in-Version.is)
    (and_then c.put_u32-at.ensures c.put_string.ensures)

pub returns-in-Open : goal.returns-in-Open
returns-in-Open c =
    subst (λ (r : Reply). WritesField c.args.at c.put_u32.result c.args.buf.now c.put_u32.new.buf
    (reply_parameters (reply_of r))) (sym c.in-Open.is)
    (and_then c.put_qid-at.ensures c.put_u32.ensures)

pub returns-in-Read : goal.returns-in-Read
returns-in-Read c =
    let at = c.put_u32-at-in-Read in
    subst (λ (r : Reply). WritesField c.args.at c.put.result c.args.buf.now c.put.new.buf
    (reply_parameters (reply_of r))) (sym c.in-Read.is)
    (and_then at.ensures (one_field at.result c.put.result (length c.in-Read.bytes.now)
    at.new.buf c.put.new.buf c.in-Read.bytes.now c.put.ensures.end refl c.put.ensures.written
    c.put.ensures.behind))

pub returns-in-Stat : goal.returns-in-Stat
returns-in-Stat c =
    let room = subst
    (λ (r : Reply). c.args.at + length (reply_parameters (reply_of r)) ≤ length c.args.buf.now)
    c.in-Stat.is c.requires.room in
    subst (λ (r : Reply). WritesField c.args.at c.put_stat-end.result c.args.buf.now c.put_u16.new.buf
    (reply_parameters (reply_of r))) (sym c.in-Stat.is)
    (sized c.args.at (omega (arith, room)) c.put_stat-end.ensures c.put_u16.ensures)
