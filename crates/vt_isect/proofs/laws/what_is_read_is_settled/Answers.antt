use Rattle.vt_isect.proofs.Fills.{known_reads, settled_sound, reads_beside}
use Rattle.vt_isect.proofs.laws.what_is_read_is_settled.Goals as goal

pub returns-clause-read : goal.returns-clause-read
returns-clause-read g c = λ t known told still sound. known_reads t known _ _ still (g.met.D.Disk.read_is_image _ told) sound

pub returns-clause-settled : goal.returns-clause-settled
returns-clause-settled g c = λ t known knows still told synced sound reads. settled_sound t known knows _ _ still (synced told) sound reads

pub returns-clause-head : goal.returns-clause-head
returns-clause-head g c = λ t u known head buckets same reads.
    rw (head, buckets) (reads_beside t known _ _ same reads)
