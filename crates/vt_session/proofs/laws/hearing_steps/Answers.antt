use Rattle.std.proofs.Common.{refl, arith}
use Rattle.vt_session.proofs.Hearings.{rest_behind}
use Rattle.vt_session.proofs.Parsing.{rest_joined, rest_goodbye, rest_malformed, rest_partial}
use Rattle.vt_session.proofs.laws.hearing_steps.Goals as goal

pub returns-clause-item : goal.returns-clause-item
returns-clause-item c = λ left type tag parameters more item items ended small is means. (
  rest_behind left type tag parameters more item items ended small is means,
  rest_joined left _ more small is type tag parameters item items ended refl means,
)

pub returns-clause-goodbye : goal.returns-clause-goodbye
returns-clause-goodbye c = λ left type tag parameters more small is are means.
    rest_goodbye left _ more small is type tag parameters refl means are

pub returns-clause-malformed : goal.returns-clause-malformed
returns-clause-malformed c = λ left body more short is are.
    rest_malformed left body more (omega arith) is short are

pub returns-clause-partial : goal.returns-clause-partial
returns-clause-partial c = rest_partial
