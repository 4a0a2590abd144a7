use Rattle.std.proofs.Common.{◌+◌, Result, refl, sym, ◌∙◌, subst}
use Rattle.vt_base.specs.declared.why.Why.{Why}
use Rattle.vt_requests.specs.Ending.{FilesAll}
use Rattle.vt_requests.specs.Working.{FilesEntries, HasFiled}
use Rattle.std.specs.Prelude.{OnOk}
use Rattle.vt_requests.proofs.Ended.{files_are_own, one_shard_more}
use Rattle.vt_requests.proofs.EndsAll.{no_shard}
use Rattle.vt_requests.proofs.WorkDone.{did}
use Rattle.vt_requests.proofs.ending.file_all.Goals as goal

pub loop-shard-init : goal.loop-shard-init
loop-shard-init g c = record { files = no_shard g.S.Scorer.score_of g.D.Disk c.args.core.now; many = refl }

pub loop-shard-preserved : goal.loop-shard-preserved
loop-shard-preserved g c =
    let made = did g.S.Scorer.score_of g.D.Disk (FilesEntries c.loop-shard.shard) (files_are_own c.loop-shard.shard) c.file-filed.result c.loop-shard.core c.file-filed.new.core c.file-filed.ensures.works in
    record {
      files = subst (λ (r : Result (Unit {0}) Why). FilesAll g.S.Scorer.score_of g.D.Disk (c.loop-shard.shard + 1) r c.args.core.now c.file-filed.new.core) (sym c.first_of-all.ensures)
          (one_shard_more g.S.Scorer.score_of g.D.Disk c.loop-shard.shard c.loop-shard.all c.file-filed.result c.args.core.now c.loop-shard.core c.file-filed.new.core c.loop-shard.invariant.files
          c.file-filed.ensures.works
          (λ done is. subst (λ (r : Result (Unit {0}) Why). OnOk r (HasFiled c.loop-shard.shard c.file-filed.new.core)) is c.file-filed.ensures.filed));
      many = made.worked.keeps.store.shards ∙ c.loop-shard.invariant.many;
    }
