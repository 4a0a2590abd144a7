use Rattle.std.proofs.Common.{◌++◌, ◌∙◌, ap, List, ℕ}
use Rattle.vac_meta.proofs.Refused.{one_more}
use Rattle.vac_meta.proofs.encoding.encode.Goals as goal

pub returns-clause-spells : goal.returns-clause-spells
returns-clause-spells c =
    λ before spells next.
    let put = c.put_record-len.ensures in
    let old : List ℕ = c.args.metadata.now.items in
    one_more before c.args.item.now old c.extend_from_slice.new.self.items spells
    (record { fits = c.requires; ranges = put.ranges }) next
    (c.in_ok-extend_from_slice.ensures.items ∙ ap (λ (l : List ℕ). old ++ l) put.written)
