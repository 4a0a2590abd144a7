-- the SHA-1 of no bytes, worked out
use Rattle.std.proofs.Common.{refl}
use Rattle.sha1.specs.Sha1.{first_words, schedule, rounds, compress, hash_after, digest_bytes, sha1}
use Rattle.vt_base.proofs.score.Sha1ScorerScorer.zero_score.Goals as goal

pub returns : goal.returns
unfolding first_words schedule rounds compress hash_after digest_bytes sha1
returns c = refl
