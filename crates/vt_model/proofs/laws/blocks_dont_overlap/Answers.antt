use Rattle.vt_model.proofs.Spots.{behind_head, behind_earlier, right_behind, before_directory}
use Rattle.vt_model.proofs.laws.blocks_dont_overlap.Goals as goal

pub returns : goal.returns
returns c = record {
  head = behind_head;
  behind = behind_earlier;
  right_behind = right_behind;
  directory = λ score c h. before_directory c h score;
}
