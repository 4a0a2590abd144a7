-- the digits of the three numbers, and the two words
use Rattle.std.proofs.Common.{◌∙◌}
use Rattle.run_stores.proofs.commands.checkarenas.put_report.Goals as goal

pub returns-clause-appended : goal.returns-clause-appended
returns-clause-appended g c =
    rw (
      c.as_bytes.ensures.value ∙ c.format.ensures.text,
      c.as_bytes-2.ensures.value ∙ c.format-2.ensures.text,
      c.as_bytes-3.ensures.value ∙ c.format-3.ensures.text,
      c.state_text.ensures,
      c.result_text.ensures,
    )
    at c.put_pieces.ensures.appended

pub returns-clause-failed : goal.returns-clause-failed
returns-clause-failed g c =
    rw (
      c.as_bytes.ensures.value ∙ c.format.ensures.text,
      c.as_bytes-2.ensures.value ∙ c.format-2.ensures.text,
      c.as_bytes-3.ensures.value ∙ c.format-3.ensures.text,
      c.state_text.ensures,
      c.result_text.ensures,
    )
    at c.put_pieces.ensures.failed
