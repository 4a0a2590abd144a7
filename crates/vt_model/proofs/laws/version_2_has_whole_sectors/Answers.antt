use Rattle.std.proofs.Common.{arith}
use Rattle.vt_model.proofs.Spots.{on_sector}
use Rattle.vt_model.proofs.laws.version_2_has_whole_sectors.Goals as goal

pub returns : goal.returns
returns c = record {
  clumps = on_sector;
  room = λ n. (omega arith, omega arith, omega arith);
  directory = λ blocks. (omega arith, omega arith, omega arith);
}
