use Rattle.std.specs.List.{Contains}
use Rattle.vt_isect.proofs.Histories.{entry_before, of_block_longer, covered_longer, known_longer, agrees_longer}
use Rattle.vt_isect.proofs.laws.agreement_grows.Goals as goal

pub returns-clause-entry : goal.returns-clause-entry
returns-clause-entry g c = λ score setup h more entry is. of_block_longer score setup h more entry is

pub returns-clause-covered : goal.returns-clause-covered
returns-clause-covered g c = λ score setup h more t known entries mark cover. covered_longer score setup h more t known (Contains entries) mark cover

pub returns-clause-known : goal.returns-clause-known
returns-clause-known g c = λ score setup h more t known keys agrees. known_longer score setup h more t known keys agrees

pub returns-clause-section : goal.returns-clause-section
returns-clause-section g c = λ score setup h more buckets head entries keys agrees. agrees_longer score setup h more buckets head entries keys agrees

pub returns-clause-beginning : goal.returns-clause-beginning
returns-clause-beginning g c = λ score setup h more i entry lt is. entry_before score setup h more i entry lt is
