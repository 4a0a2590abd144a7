use Rattle.std.proofs.Common.{◌++◌, ap, sym, ◌∙◌, append_assoc}
use Rattle.std.specs.List.{flat_map}
use Rattle.std.proofs.lemmas.List.{map-append}
use Rattle.std.proofs.lemmas.List.Concat.{flat_map-append}
use Rattle.vt_session.specs.Turns.{item_of_turn, spelled_turn, server_line, added_by_turn, added_number, synced_number, cause_of}
use Rattle.vt_session.proofs.laws.turns_tell_in_order.Goals as goal

pub returns : goal.returns
returns c = record {
  items = map-append item_of_turn;
  output = λ turns more.
      ap (λ l. server_line ++ l) (flat_map-append spelled_turn turns more)
      ∙ sym (append_assoc server_line (flat_map spelled_turn turns) (flat_map spelled_turn more));
  added = flat_map-append added_by_turn;
  numbers = flat_map-append added_number;
  synced = flat_map-append synced_number;
  causes = flat_map-append cause_of;
}
