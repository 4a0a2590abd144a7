use Rattle.std.proofs.Common.{ℕ, List, get_or, sym, ◌∙◌, ap, subst}
use Rattle.vt_base.specs.Bytes.{AreBytes}
use Rattle.vt_memdisk.proofs.Chosen.{chosen_fits, chosen_settled}
use Rattle.vt_memdisk.proofs.cells.Cells.choose.Goals as goal

pub invariant_of-self-clause-content_fits : goal.invariant_of-self-clause-content_fits
invariant_of-self-clause-content_fits c =
    let s = c.args.self.now in
    subst AreBytes (sym c.choose.ensures.chosen)
    (chosen_fits s.pending.items s.synced.items s.content.items c.args.choice.now s.synced_fits
    s.content_fits)

pub invariant_of-self-clause-settled : goal.invariant_of-self-clause-settled
invariant_of-self-clause-settled c i free =
    let s = c.args.self.now in
    ap (λ (l : List ℕ). get_or l i 0) c.choose.ensures.chosen
    ∙ chosen_settled s.pending.items s.synced.items s.content.items c.args.choice.now
    (s.pending_length ∙ sym s.synced_length) (sym s.synced_length) i free
