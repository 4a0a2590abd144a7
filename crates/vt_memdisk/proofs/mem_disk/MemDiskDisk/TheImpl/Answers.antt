use Rattle.std.proofs.Common.{◌≡◌, ℕ, length, sym, ◌∙◌, subst, rules}
use Rattle.vt_disk.specs.Disk.{SameBut, Touches}
use Rattle.vt_memdisk.specs.Cells.{IsCombination}
use Rattle.vt_memdisk.proofs.Combinations.{tears, keeps, others_stay}
use Rattle.vt_memdisk.proofs.mem_disk.MemDiskDisk.TheImpl.Goals as goal

-- what a write makes pending is what the model lets a crash change
pub write_at-tells : goal.write_at-tells
write_at-tells g c =
    let s = c.args.self.now.cells in
    let now = c.new.self.now.cells in
    let start : ℕ = c.args.start in
    let lengths : length s.pending.items ≡ length s.synced.items = s.pending_length
    ∙ sym s.synced_length in
    let stays : SameBut (Touches start (length c.args.chunk.now)) s.content.items now.content.items
    =
    others_stay c.result start c.args.chunk.now s.content.items now.content.items c.requires
    c.ensures.written c.ensures.failed in
    record {
      written = search rules;
      others = λ _. stays;
      images = λ file left. tears start
          (length c.args.chunk.now) s.synced.items s.pending.items now.pending.items s.synced_fits
          lengths c.ensures.pending file
          (subst (λ synced. IsCombination synced now.pending.items file) c.ensures.synced left);
      kept = λ file left. subst (λ synced. IsCombination synced now.pending.items file)
          (sym c.ensures.synced)
          (keeps start (length c.args.chunk.now) s.synced.items s.pending.items now.pending.items
          s.synced_fits lengths c.ensures.pending file left);
      size = SameBut.same_length stays;
      calls = λ _. c.ensures.calls;
      cause = c.ensures.cause;
    }
