use Rattle.vt_session.proofs.Numbers.{numbers_within, numbers_rise, numbers_stand}
use Rattle.vt_session.proofs.laws.added_numbers_rise.Goals as goal

pub returns-clause-within : goal.returns-clause-within
returns-clause-within c =
    λ score setup faults h n0 input output turns ended n1 t. numbers_within score setup h n0 n1
    turns t.answered

pub returns-clause-rising : goal.returns-clause-rising
returns-clause-rising c =
    λ score setup faults h n0 input output turns ended n1 t. numbers_rise score setup h n0 n1 turns
    t.answered

pub returns-clause-blocks : goal.returns-clause-blocks
returns-clause-blocks c =
    λ score setup faults h n0 input output turns ended n1 t. numbers_stand score setup h n0 n1
    turns t.answered

pub returns-clause-so_far : goal.returns-clause-so_far
returns-clause-so_far c = λ score setup faults h n0 turns n1 t. (
  numbers_within score setup h n0 n1 turns t.answered,
  numbers_rise score setup h n0 n1 turns t.answered,
  numbers_stand score setup h n0 n1 turns t.answered,
)
