use Rattle.std.proofs.Common.{◌≡◌, ◌+◌, ◌<◌, ◌∙◌, ℕ, List, [], ◌∷◌, ◌++◌, length, take, sym, ap, arith, append-nil}
use Rattle.std.specs.Prelude.{map, slice_index_or}
use Rattle.std.specs.List.{flat_map}
use Rattle.std.proofs.lemmas.Grind.{flat_map-append}
use Rattle.std.proofs.lemmas.List.{take_more, map-append}
use Rattle.byteorder.specs.Endian.{little_bytes}
use Rattle.nine_wire.specs.Messages.{qid_bytes}
use Rattle.nine_wire.specs.declared.stat.Qid.{Qid}
use Rattle.nine_wire.specs.Views.{wire_qid}
use Rattle.nine_wire.proofs.Writes.{and_then, so_spelled}
use Rattle.nine_wire.proofs.encoder.put_qids.Goals as goal

next_qid : (xs : List Qid) (i : ℕ) (d : Qid) → i < length xs
    → flat_map qid_bytes (map wire_qid (take i xs)) ++ qid_bytes (wire_qid (slice_index_or xs i d))
    ≡ flat_map qid_bytes (map wire_qid (take (i + 1) xs))
next_qid xs i d less =
    let q : List ℕ = qid_bytes (wire_qid (slice_index_or xs i d)) in
    ap (λ (l : List ℕ). flat_map qid_bytes (map wire_qid (take i xs)) ++ l) (sym (append-nil q))
    ∙ sym (flat_map-append qid_bytes (map wire_qid (take i xs))
    (wire_qid (slice_index_or xs i d) ∷ []))
    ∙ ap (flat_map qid_bytes) (sym (map-append wire_qid (take i xs) (slice_index_or xs i d ∷ [])))
    ∙ ap (λ (l : List Qid). flat_map qid_bytes (map wire_qid l)) (sym (take_more xs i d less))

pub loop-qid-preserved : goal.loop-qid-preserved
loop-qid-preserved c =
    let inv = c.loop-qid.invariant in
    record {
      place = omega (arith, inv.place, c.put_qid-at.ensures.ends);
      room = omega (arith, inv.room, c.put_qid-at.auto.buf);
      writes = so_spelled (and_then inv.writes c.put_qid-at.ensures)
          (ap (λ (l : List ℕ). little_bytes 2 (length c.args.qids.now) ++ l)
          (next_qid c.args.qids.now c.loop-qid.qid-index _ c.loop-qid-test.true));
    }
