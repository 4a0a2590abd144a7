use Rattle.std.proofs.Common.{◌≡◌, drop, ◌∙◌, arith, length-drop}
use Rattle.std.proofs.lemmas.List.{take_all}
use Rattle.vt_tree.specs.Entries.{entry_in}
use Rattle.vt_tree.proofs.entry.fields.Goals as goal

pub returns : goal.returns
returns c =
    let score : c.copy_from_slice.new.self ≡ drop 20 c.args.bytes.now =
    c.copy_from_slice.ensures.after
    ∙ take_all 20 (drop 20 c.args.bytes.now)
    (omega (arith, length-drop 20 c.args.bytes.now, c.told-bytes)) in
    λ i. record {
      generation = c.u32_at.ensures i;
      psize = c.u16_at.ensures i;
      dsize = c.u16_at-2.ensures i;
      active = (entry_in c.args.bytes.now).active;
      is_dir = (entry_in c.args.bytes.now).is_dir;
      depth = (entry_in c.args.bytes.now).depth;
      size = c.u48_at.ensures.number i;
      score = record { 0 = score i };
    }
