use Rattle.std.proofs.Common.{◌≡◌, ◌/◌, ◌%◌, None, sym, ◌∙◌, ap, subst, arith}
use Rattle.vt_tree.specs.declared.entry.Entry.{Entry}
use Rattle.vt_tree.specs.Entries.{IsTreeEntry, SpellsEntry, entry_in, entry_fault, flags_in}
use Rattle.vt_tree.proofs.EntryBytes.{entry_spelled, entry_fits, entry_ranges, spelled_is_read, not_large, no_fault_said}
use Rattle.vt_tree.proofs.entry.Entry.decode.Goals as goal

pub returns-clause-ok : goal.returns-clause-ok
returns-clause-ok c =
    let bytes = c.args.bytes.now in
    let is : c.fields-entry.result ≡ entry_in bytes = c.fields-entry.ensures in
    let none : entry_fault (entry_in bytes) ≡ None =
    ap entry_fault (sym is) ∙ sym c.fault.ensures
    ∙ no_fault_said c.fault.result c.in_default.not-Some in
    let large : flags_in bytes / 64 % 2 ≡ 0 = not_large (flags_in bytes) c.if-flags-eq1.false in
    subst (λ (e : Entry). IsTreeEntry e × SpellsEntry e bytes) (sym is) (
      record {
        fits = entry_fits bytes c.told-bytes (λ i. omega (arith, c.fits-bytes i));
        ranges = entry_ranges bytes c.told-bytes (λ i. omega (arith, c.fits-bytes i));
        allowed = none;
      },
      entry_spelled bytes c.told-bytes (λ i. omega (arith, c.fits-bytes i)) large,
    )

pub returns-clause-only : goal.returns-clause-only
returns-clause-only c entry is spells =
    c.fields-entry.ensures ∙ (spelled_is_read entry c.args.bytes.now is spells).0
