use Rattle.std.specs.List.{Contains}
use Rattle.vt_isect.proofs.KnownAgrees.{agrees_disk, agrees_idle}
use Rattle.vt_isect.proofs.IsCovered.{covered_at_rest}
use Rattle.vt_isect.proofs.Follows.{covers_more}
use Rattle.vt_isect.proofs.laws.agreement_is_kept.Goals as goal

pub returns-clause-disk : goal.returns-clause-disk
returns-clause-disk g c = λ score setup h t known disk agrees. agrees_disk score setup h t disk known agrees

pub returns-clause-idle : goal.returns-clause-idle
returns-clause-idle g c = λ score setup h t known rest agrees. agrees_idle score setup h t known rest agrees

pub returns-clause-covered : goal.returns-clause-covered
returns-clause-covered g c = λ score setup h t u known entries more mark head buckets grow cover.
    covers_more score setup h t u known (Contains entries) (Contains more) mark head buckets grow cover

pub returns-clause-filed : goal.returns-clause-filed
returns-clause-filed g c = λ score setup h t known mark rest cover.
    covered_at_rest score setup h t known mark rest cover
