-- a use of the store by one operation, which adds nothing
use Rattle.std.proofs.Common.{List, Result, false, subst}
use Rattle.vt_base.specs.declared.why.Why.{Why}
use Rattle.vt_model.specs.History.{History}
use Rattle.vt_use.specs.Answers.{AreModelAnswers}
use Rattle.vt_use.specs.OneBlock.{own_answer}
use Rattle.vt_use.specs.Stores.{Exchange, at_time, store_on}
use Rattle.vt_use.specs.Uses.{LeftInStore}
use Rattle.vt_use.proofs.OneBlocks.{read_asked}
use Rattle.vt_use.proofs.BlockKept.{read_answered, read_stays}
use Rattle.vt_use.proofs.block_laws.stores_are_read.Goals as goal

pub returns : goal.returns
returns g c score tells conf kind s output said added closed old new tables devices setup h log base
    told disk_tells x under is_log =
    let disk = g.D.Disk in
    let place = record setup { base = base } in
    let it = x.does in
    let result = own_answer output said in
    let used = c.stores_are_used.ensures score tells conf 0 false it.exchanges closed old x.during new
    x.opened it.kept x.left tables devices setup h log base told disk_tells x.opens it.asks x.shape
    x.given under is_log in
    let durable = it.kept.log.durable in
    let are = read_asked (store_on score disk) kind s output said it.exchanges (at_time 0 x.opened)
    (at_time 0 it.kept) it.does in
    let answers = subst (λ (l : List Exchange). AreModelAnswers score place log l used.0 durable) are
    used.2 in
    record {
      answers = read_answered score place log kind s result used.0 durable answers;
      kept = it.kept;
      left = subst (λ (r : Result (Unit {0}) Why). LeftInStore score disk conf false r log it.kept
          new tables place log) it.asks.ends.0
          (subst (λ (last : History). LeftInStore score disk conf false closed last it.kept new
          tables place log) (read_stays score place log kind s result used.0 durable answers)
          used.3);
    }
