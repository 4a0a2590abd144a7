-- the word that was read, the store that was found, and what was done with it
use Rattle.std.proofs.Common.{inr}
use Rattle.std.proofs.lemmas.Result.{IfErr-weaker, IfOk-weaker}
use Rattle.run_archives.proofs.commands.vac.archive.Goals as goal

pub returns-clause-stored : goal.returns-clause-stored
returns-clause-stored g c = IfOk-weaker c.archive_at.result _ _ (λ stored stores. record {
  bsize = c.in_ok-bsize.bsize;
  asks = c.in_ok-bsize.ensures.size;
  at = c.in_ok-at.at;
  finds = c.in_ok-at.ensures.found;
  stores = stores;
}) c.archive_at.ensures.stored

pub returns-clause-none : goal.returns-clause-none
returns-clause-none g c = IfErr-weaker c.archive_at.result _ _ (λ failure none. inr (
  c.in_ok-bsize.bsize,
  c.in_ok-bsize.ensures.size,
  inr (c.in_ok-at.at, c.in_ok-at.ensures.found, none),
)) c.archive_at.ensures.none
