-- by what was done, and what of it is told
use Rattle.std.proofs.Common.{ap}
use Rattle.sha1.specs.Sha1.{sha1}
use Rattle.vt_commands.proofs.Seen.{run_tells}
use Rattle.vt_commands.proofs.laws.runs_are_seen.Goals as goal

pub returns : goal.returns
returns g c words status before after holds ran stands = run_tells holds ran
    (c.did_tells.ensures.command sha1 words status _ _ ran)
    (c.did_tells.ensures.complete sha1 words status _ _ ran)
    (λ same. ap g.R.Source.left same)
    (λ same. ap g.K.Sink.written same)
    stands
