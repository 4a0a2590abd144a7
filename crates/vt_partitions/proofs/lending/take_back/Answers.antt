use Rattle.std.proofs.Common.{◌≡◌, ◌≢◌, Option, Some, None, true, get_or, ap, sym, ◌∙◌}
use Rattle.std.specs.List.{position}
use Rattle.vt_partitions.specs.Parts.{nothing, lent, there}
use Rattle.vt_partitions.specs.NamedInMemory.{has_name, standing_in}
use Rattle.vt_partitions.proofs.Standings.{first_at, changed_there, others_stay, none_there}
use Rattle.vt_partitions.proofs.lending.take_back.Goals as goal

pub returns-in-Some-clause-back : goal.returns-in-Some-clause-back
returns-in-Some-clause-back g c out =
    let items = c.args.parts.now.items in
    let name = c.args.name.now in
    let old = c.index_mut-part.result.now in
    let at : position (has_name name) items ≡ Some c.in-Some.place =
    ap (position (has_name name)) (sym c.deref.ensures.value) ∙ sym c.place_of.ensures.place ∙ c.in-Some.is in
    let h = first_at name items c.in-Some.place old at in
    changed_there name items c.in-Some.place (get_or items c.in-Some.place old) (record { name = old.name; disk = Some c.args.disk }) h (ap (has_name name) c.index_mut-part.ensures.value ∙ h.named)

pub returns-in-Some-clause-others : goal.returns-in-Some-clause-others
returns-in-Some-clause-others g c other differs =
    let items = c.args.parts.now.items in
    let name = c.args.name.now in
    let old = c.index_mut-part.result.now in
    let at : position (has_name name) items ≡ Some c.in-Some.place =
    ap (position (has_name name)) (sym c.deref.ensures.value) ∙ sym c.place_of.ensures.place ∙ c.in-Some.is in
    let h = first_at name items c.in-Some.place old at in
    others_stay name other items c.in-Some.place (get_or items c.in-Some.place old) (record { name = old.name; disk = Some c.args.disk }) h (ap (has_name name) c.index_mut-part.ensures.value ∙ h.named) differs

pub returns-in_default-clause-back : goal.returns-in_default-clause-back
returns-in_default-clause-back g c out =
    let items = c.args.parts.now.items in
    let name = c.args.name.now in
    let none = none_there name items
    (ap (position (has_name name)) (sym c.deref.ensures.value) ∙ sym c.place_of.ensures.place ∙ c.in_default.is) in
    absurd (let no = sym none ∙ out in cc)
