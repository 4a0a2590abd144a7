-- the digits of the line, and the text of the cause
use Rattle.std.proofs.Common.{◌∙◌}
use Rattle.run_base.proofs.complaint.complain_of_conf.Goals as goal

pub returns : goal.returns
returns g c tells =
    rw (c.as_bytes.ensures.value ∙ c.format.ensures.text, c.as_bytes-2.ensures.value ∙ c.conf_text.ensures) at (c.complain.ensures tells)
