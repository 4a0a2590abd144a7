use Rattle.vt_isect.proofs.Crowd.{blocks_most, blocks_all}
use Rattle.vt_isect.proofs.laws.blocks_are_counted.Goals as goal

pub returns-clause-most : goal.returns-clause-most
returns-clause-most c = λ score setup h n entries apart of. blocks_most score setup h n entries apart of

pub returns-clause-all : goal.returns-clause-all
returns-clause-all c = λ score setup h n entries keys apart of has. blocks_all score setup h n entries apart of keys has
