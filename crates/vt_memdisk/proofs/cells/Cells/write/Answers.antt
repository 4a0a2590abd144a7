use Rattle.std.proofs.Common.{ℕ, List, length, get_or, refl, arith, sym, ◌∙◌, ap, subst}
use Rattle.vt_base.specs.Bytes.{AreBytes}
use Rattle.vt_disk.specs.Disk.{with_bytes}
use Rattle.vt_disk.proofs.Bytes.{bytes_with_bytes}
use Rattle.vt_memdisk.proofs.Combinations.{still_settled}
use Rattle.vt_memdisk.proofs.cells.Cells.write.Goals as goal

pub invariant_of-self-clause-content_fits : goal.invariant_of-self-clause-content_fits
invariant_of-self-clause-content_fits c =
    let marked = c.mark.new.self in
    subst AreBytes (sym c.put.ensures)
    (bytes_with_bytes c.args.start c.args.chunk.now marked.content.items
    (omega (arith, ap (λ v. length v.items) c.mark.ensures.content)) marked.content_fits
    (λ i. omega (arith, c.type_inv.chunk i)))

pub invariant_of-self-clause-settled : goal.invariant_of-self-clause-settled
invariant_of-self-clause-settled c i free =
    let s = c.args.self.now in
    ap (λ (l : List ℕ). get_or l i 0) c.put.ensures
    ∙ ap (λ v. get_or (with_bytes c.args.start c.args.chunk.now v.items) i 0) c.mark.ensures.content
    ∙ still_settled c.args.start (length c.args.chunk.now) s.synced.items s.pending.items
    c.mark.new.self.pending.items s.synced_fits
    (s.pending_length ∙ sym s.synced_length) c.mark.ensures.marks
    s.content.items c.args.chunk.now refl (sym s.synced_length) c.requires s.settled i free
    ∙ ap (λ v. get_or v.items i 0) (sym c.mark.ensures.synced)
