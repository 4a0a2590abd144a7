-- a block and a sync, and the end behind them
use Rattle.std.proofs.Common.{◌≡◌, Result, length, refl, subst, sym, true}
use Rattle.std.specs.Prelude.{OnOk}
use Rattle.vt_base.specs.Protocol.{write, r_write}
use Rattle.vt_base.specs.declared.score.Score.{Score}
use Rattle.vt_base.specs.declared.why.Why.{Why}
use Rattle.vt_handler.specs.Serving.{answered}
use Rattle.vt_core.specs.Core.{devices_of, setup_of}
use Rattle.vt_core.specs.Mounting.{AllStandFor}
use Rattle.vt_use.specs.Answers.{IsAnswer}
use Rattle.vt_use.specs.Stores.{at_time}
use Rattle.vt_use.proofs.Answered.{calls_answered}
use Rattle.vt_use.specs.Blocks.{written_to}
use Rattle.vt_use.proofs.BlockAsks.{writes_asks}
use Rattle.vt_use.proofs.BlockKept.{answers_so, done_so, puts_so}
use Rattle.vt_use.proofs.block_laws.blocks_are_kept.Goals as goal

pub returns : goal.returns
returns g c score now kind bytes result h old new tells sound it =
    let disk = g.D.Disk in
    let calls = it.puts.0 in
    let left = calls_answered score disk tells calls (setup_of old) (at_time now old)
    (at_time now it.kept) h refl sound it.puts.2 in
    let last = left.0 in
    let so = puts_so score (setup_of old) h kind bytes it.put calls last it.kept.log.durable it.puts.1 left.2 in
    let leaves = c.uses_leave.ensures score now true calls it.closed last old it.kept new
    (writes_asks score disk now kind bytes result old new it) tells left.1 in
    record {
      answers = subst (λ (r : Result Score Why). IsAnswer score (setup_of old) h (write kind bytes)
          (answered (λ (given : Score). r_write given.0) r)) (sym it.result_is)
          (answers_so score (setup_of old) h kind bytes disk it.kept new it.put it.closed so.answers
          it.ends.cause (it.ends.undamaged last tells left.1));
      last = last;
      last_is = so.last_is;
      sound = leaves.sound;
      keeps = leaves.keeps;
      stands = leaves.stands;
      done = subst (λ (r : Result Score Why). OnOk r
          ((last ≡ written_to score (setup_of old) h kind bytes)
          × AllStandFor score disk (setup_of old) old.log.tables (devices_of new) last (length last)))
          (sym it.result_is)
          (done_so score (setup_of old) h kind bytes _ it.put it.closed last so.done
          (λ well. (leaves.done refl well).1));
    }
