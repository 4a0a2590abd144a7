-- the digits of the two lengths
use Rattle.std.proofs.Common.{◌∙◌}
use Rattle.run_base.proofs.complaint.complain_of_len.Goals as goal

pub returns : goal.returns
returns g c tells =
    rw (c.as_bytes.ensures.value ∙ c.format.ensures.text, c.as_bytes-2.ensures.value ∙ c.format-2.ensures.text) at (c.complain.ensures tells)
