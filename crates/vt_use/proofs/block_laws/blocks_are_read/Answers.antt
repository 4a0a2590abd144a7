-- one operation that only reads
use Rattle.std.proofs.Common.{Ok, false, refl}
use Rattle.vt_core.specs.Core.{setup_of}
use Rattle.vt_use.specs.OneBlock.{asks_block}
use Rattle.vt_use.specs.Stores.{at_time}
use Rattle.vt_use.proofs.Answered.{calls_answered, calls_only}
use Rattle.vt_use.proofs.BlockAsks.{reads_asks}
use Rattle.vt_use.proofs.BlockKept.{read_answered}
use Rattle.vt_use.proofs.block_laws.blocks_are_read.Goals as goal

pub returns : goal.returns
returns g c score kind s result h old new tells sound it =
    let disk = g.D.Disk in
    let exchanges = asks_block kind s result in
    let answers = calls_answered score disk tells exchanges (setup_of old) (at_time 0 old)
    (at_time 0 new) h refl sound it in
    let only = calls_only score disk tells exchanges (at_time 0 old) (at_time 0 new) h sound (tt, tt)
    it in
    let leaves = c.uses_leave.ensures score 0 false exchanges (Ok tt) h old new new
    (reads_asks score disk kind s result old new it) tells only.sound in
    record {
      answers = read_answered score (setup_of old) h kind s result answers.0 new.log.durable answers.2;
      sound = only.sound;
      reads = only.reads;
      keeps = leaves.keeps;
      stands = leaves.stands;
    }
