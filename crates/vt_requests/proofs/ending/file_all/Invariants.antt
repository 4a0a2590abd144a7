use Rattle.std.proofs.Common.{◌≡◌, length}
use Rattle.vt_requests.specs.Ending.{FilesAll}
use Rattle.vt_requests.proofs.ending.file_all.Given as goal

-- the shards so far were written back
abbrev pub invariant-loop-shard : goal.invariant-loop-shard
invariant-loop-shard g l = record {
  files : FilesAll g.S.Scorer.score_of g.D.Disk l.shard l.all l.initial.core l.core;
  many : length l.core.shards ≡ length l.initial.core.shards;
}
