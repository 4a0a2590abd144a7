use Rattle.std.proofs.Common.{◌≡◌, ◌≢◌, Option, Some, None, true, get_or, ap, sym, ◌∙◌}
use Rattle.std.specs.List.{position}
use Rattle.std.specs.Prelude.{IsTrue}
use Rattle.vt_partitions.specs.Parts.{nothing, lent, there}
use Rattle.vt_partitions.specs.NamedInMemory.{has_name, standing_in, standing_of}
use Rattle.vt_partitions.proofs.Standings.{first_at, found_there, changed_there, others_stay, none_there, hands_new, grows_new, hands_there, lent_new, others_new}
use Rattle.vt_partitions.proofs.lending.lend.Goals as goal

pub returns-in_default-clause-grown : goal.returns-in_default-clause-grown
returns-in_default-clause-grown g c =
    grows_new g.D.Disk c.args.grow_to c.in_ok-grow_to.field-0 c.lend_new.result c.in_ok-grow_to.was c.lend_new.ensures.size

pub returns-in_default-clause-found : goal.returns-in_default-clause-found
returns-in_default-clause-found g c =
    let items = c.args.parts.now.items in
    let name = c.args.name.now in
    let none = none_there name items
    (ap (position (has_name name)) (sym c.deref.ensures.value) ∙ sym c.place_of.ensures.place ∙ c.in_default.is) in
    hands_new g.D.Disk (IsTrue g.D.Disk.tells) (standing_in items name) c.args.grow_to c.in_ok-grow_to.field-0 c.lend_new.result none c.in_ok-grow_to.was c.lend_new.ensures.made

pub returns-in_default-clause-lent : goal.returns-in_default-clause-lent
returns-in_default-clause-lent g c =
    let items = c.args.parts.now.items in
    let name = c.args.name.now in
    let none = none_there name items
    (ap (position (has_name name)) (sym c.deref.ensures.value) ∙ sym c.place_of.ensures.place ∙ c.in_default.is) in
    lent_new name items c.lend_new.new.parts.items c.lend_new.result none c.lend_new.ensures.kept

pub returns-in_default-clause-others : goal.returns-in_default-clause-others
returns-in_default-clause-others g c other differs =
    others_new c.args.name.now other c.args.parts.now.items c.lend_new.new.parts.items c.lend_new.result differs c.lend_new.ensures.kept c.lend_new.ensures.none

pub returns-in-Ok-clause-found : goal.returns-in-Ok-clause-found
returns-in-Ok-clause-found g c =
    let items = c.args.parts.now.items in
    let name = c.args.name.now in
    let old = c.index_mut-part.result.now in
    let at : position (has_name name) items ≡ Some c.in-Some.place =
    ap (position (has_name name)) (sym c.deref.ensures.value) ∙ sym c.place_of.ensures.place ∙ c.in-Some.is in
    let h = first_at name items c.in-Some.place old at in
    let stood : standing_in items name ≡ there c.in_ok-disk.disk =
    found_there name items c.in-Some.place (get_or items c.in-Some.place old) h
    ∙ ap (λ p. standing_of p.disk) (sym c.index_mut-part.ensures.value)
    ∙ ap standing_of (sym c.take.ensures.value ∙ c.in_ok-disk.was) in
    λ told. hands_there g.D.Disk (standing_in items name) c.in_ok-disk.disk c.in-Ok.disk c.args.grow_to stood (c.in-Ok.ensures.ok told)

pub returns-in-Ok-clause-lent : goal.returns-in-Ok-clause-lent
returns-in-Ok-clause-lent g c =
    let items = c.args.parts.now.items in
    let name = c.args.name.now in
    let old = c.index_mut-part.result.now in
    let at : position (has_name name) items ≡ Some c.in-Some.place =
    ap (position (has_name name)) (sym c.deref.ensures.value) ∙ sym c.place_of.ensures.place ∙ c.in-Some.is in
    let h = first_at name items c.in-Some.place old at in
    changed_there name items c.in-Some.place (get_or items c.in-Some.place old) (record { name = old.name; disk = c.take.new.self }) h (ap (has_name name) c.index_mut-part.ensures.value ∙ h.named)
    ∙ ap standing_of c.take.ensures.after

pub returns-in-Ok-clause-others : goal.returns-in-Ok-clause-others
returns-in-Ok-clause-others g c other differs =
    let items = c.args.parts.now.items in
    let name = c.args.name.now in
    let old = c.index_mut-part.result.now in
    let at : position (has_name name) items ≡ Some c.in-Some.place =
    ap (position (has_name name)) (sym c.deref.ensures.value) ∙ sym c.place_of.ensures.place ∙ c.in-Some.is in
    let h = first_at name items c.in-Some.place old at in
    others_stay name other items c.in-Some.place (get_or items c.in-Some.place old) (record { name = old.name; disk = c.take.new.self }) h (ap (has_name name) c.index_mut-part.ensures.value ∙ h.named) differs

pub returns-in-Err-clause-stays : goal.returns-in-Err-clause-stays
returns-in-Err-clause-stays g c =
    let items = c.args.parts.now.items in
    let name = c.args.name.now in
    let old = c.index_mut-part.result.now in
    let at : position (has_name name) items ≡ Some c.in-Some.place =
    ap (position (has_name name)) (sym c.deref.ensures.value) ∙ sym c.place_of.ensures.place ∙ c.in-Some.is in
    let h = first_at name items c.in-Some.place old at in
    let stood : standing_in items name ≡ there c.in_ok-disk.disk =
    found_there name items c.in-Some.place (get_or items c.in-Some.place old) h
    ∙ ap (λ p. standing_of p.disk) (sym c.index_mut-part.ensures.value)
    ∙ ap standing_of (sym c.take.ensures.value ∙ c.in_ok-disk.was) in
    let stands = changed_there name items c.in-Some.place (get_or items c.in-Some.place old) (record { name = old.name; disk = Some c.in-Err.disk }) h (ap (has_name name) c.index_mut-part.ensures.value ∙ h.named) in
    rw (stood, stands) c.in-Err.ensures.err

pub returns-in-Err-clause-others : goal.returns-in-Err-clause-others
returns-in-Err-clause-others g c other differs =
    let items = c.args.parts.now.items in
    let name = c.args.name.now in
    let old = c.index_mut-part.result.now in
    let at : position (has_name name) items ≡ Some c.in-Some.place =
    ap (position (has_name name)) (sym c.deref.ensures.value) ∙ sym c.place_of.ensures.place ∙ c.in-Some.is in
    let h = first_at name items c.in-Some.place old at in
    others_stay name other items c.in-Some.place (get_or items c.in-Some.place old) (record { name = old.name; disk = Some c.in-Err.disk }) h (ap (has_name name) c.index_mut-part.ensures.value ∙ h.named) differs
