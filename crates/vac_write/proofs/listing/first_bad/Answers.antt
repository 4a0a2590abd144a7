use Rattle.std.proofs.Common.{◌≡◌, ◌+◌, ◌||◌, ℕ, Bool, true, false, Some, None, List, ◌∷◌, drop, refl, sym, ◌∙◌, ap}
use Rattle.std.specs.Option.{option_copied}
use Rattle.std.proofs.lemmas.List.{drop_all, drop_more}
use Rattle.vt_out.specs.declared.folder_item.Item.{Item}
use Rattle.vac_model.specs.Limits.{is_bad_behind}
use Rattle.vac_write.specs.Listing.{has_bad_owner}
use Rattle.vac_write.proofs.Listed.{bad_here, bad_listed, first_bad_in}
use Rattle.vac_write.proofs.listing.first_bad.Goals as goal
use Rattle.vac_write.proofs.listing.first_bad.Goals.{then-is_bad_behind-via-then-is_bad_behind, then-is_bad_behind-via-else-is_bad_behind+then-has_bad_owner}

any_true : (t : Bool) → (t || true) ≡ true
any_true true = refl
any_true false = refl

pub returns-then-is_bad_behind : goal.returns-then-is_bad_behind
returns-then-is_bad_behind c seen same =
    let items = c.args.items.now in
    let i = c.loop-item.item-index in
    let item = c.item-item.result in
    let last = option_copied c.loop-item.last in
    let one : c.is_bad_behind.result ≡ is_bad_behind last item.name =
    c.is_bad_behind.ensures ∙ ap (is_bad_behind last) c.as_slice-name.ensures in
    let bad : (is_bad_behind last item.name || has_bad_owner item) ≡ true =
    elim c.then-is_bad_behind.branch [
      | then-is_bad_behind-via-then-is_bad_behind w ↦
          ap (λ (t : Bool). t || has_bad_owner item) (sym one ∙ w.if-is_bad_behind.true)
      | then-is_bad_behind-via-else-is_bad_behind+then-has_bad_owner w ↦
          ap (λ (t : Bool). is_bad_behind last item.name || t)
          (sym w.has_bad_owner.ensures ∙ w.if-has_bad_owner.true)
          ∙ any_true (is_bad_behind last item.name)
    ] in
    let front : drop i items ≡ item ∷ drop (i + 1) items =
    drop_more items i item c.loop-item-test.true
    ∙ ap (λ (x : Item). x ∷ drop (i + 1) items) (sym c.item-item.is) in
    ap (λ (n : List ℕ). Some n) c.as_slice-name.ensures
    ∙ sym (bad_listed None seen ∙ ap (first_bad_in None) (sym same) ∙ c.loop-item.invariant
    ∙ ap (first_bad_in last) front ∙ bad_here last item (drop (i + 1) items) bad)

pub returns : goal.returns
returns c seen same =
    let items = c.args.items.now in
    let last = option_copied c.loop-item.last in
    sym (bad_listed None seen ∙ ap (first_bad_in None) (sym same) ∙ c.loop-item.invariant
    ∙ ap (first_bad_in last) (drop_all c.loop-item.item-index items c.loop-item-test.false))
