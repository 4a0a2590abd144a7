use Rattle.std.proofs.Common.{◌≤◌, ◌*◌, ◌/◌, ℕ, Bool, false, List, get_or, refl, arith, sym, ◌∙◌, ap, subst}
use Rattle.vt_base.specs.Bytes.{AreBytes}
use Rattle.vt_memdisk.proofs.Settle.{synced_fits, still_same, still_clean}
use Rattle.vt_memdisk.proofs.cells.Cells.settle_last.Goals as goal

pub invariant_of-self-clause-synced_fits : goal.invariant_of-self-clause-synced_fits
invariant_of-self-clause-synced_fits c =
    let s = c.args.self.now in
    subst AreBytes (sym c.copy_range.ensures)
    (synced_fits (c.last-start.result * 512) c.min-n.result s.content.items s.synced.items
    s.pending.items (omega arith) s.synced_length s.pending_length s.content_fits s.synced_fits)

pub invariant_of-self-clause-settled : goal.invariant_of-self-clause-settled
invariant_of-self-clause-settled c i free =
    let s = c.args.self.now in
    still_same (c.last-start.result * 512) c.min-n.result s.content.items s.synced.items
    s.pending.items (omega arith) s.synced_length s.pending_length s.settled i
    (ap (λ (l : List Bool). get_or l i false) (sym c.set_all.ensures) ∙ free)
    ∙ ap (λ (l : List ℕ). get_or l i 0) (sym c.copy_range.ensures)

pub invariant_of-self-clause-clean : goal.invariant_of-self-clause-clean
invariant_of-self-clause-clean c i inside above =
    let s = c.args.self.now in
    ap (λ (l : List Bool). get_or l i false) c.set_all.ensures
    ∙ still_clean (c.last-start.result * 512) c.min-n.result s.content.items s.synced.items
    s.pending.items (omega arith) s.synced_length s.pending_length
    s.dirty.order.items s.dirty.place.items s.dirty.count c.last-start.result s.dirty.inverse
    s.sectors c.requires c.last-start.ensures.in_range c.last-start.ensures.place
    refl (c.min-n.ensures ∙ omega arith) s.clean i inside
    (subst (λ k. k ≤ get_or s.dirty.place.items (i / 512) 0) c.drop_last.ensures.count
    (subst (λ v. c.drop_last.new.self.count ≤ get_or v.items (i / 512) 0) c.drop_last.ensures.place
    above))
