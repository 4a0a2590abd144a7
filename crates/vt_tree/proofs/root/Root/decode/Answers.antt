use Rattle.std.proofs.Common.{◌≡◌, drop, sym, ◌∙◌, subst, arith}
use Rattle.std.proofs.lemmas.List.{take_rest}
use Rattle.vt_tree.specs.declared.root.Root.{Root}
use Rattle.vt_tree.specs.Roots.{IsRoot, root_bytes}
use Rattle.vt_tree.proofs.RootBytes.{root_in, root_is, root_spelled, spelled_root_is_read}
use Rattle.vt_tree.proofs.root.Root.decode.Goals as goal

pub returns-clause-ok : goal.returns-clause-ok
returns-clause-ok c =
    let bytes = c.args.bytes.now in
    let prev : c.copy_from_slice-4.new.self ≡ drop 280 bytes =
    c.copy_from_slice-4.ensures.after ∙ take_rest bytes 280 in
    let same : root_in bytes ≡ record {
      name = c.copy_from_slice.new.self;
      kind = c.copy_from_slice-2.new.self;
      score = record { 0 = c.copy_from_slice-3.new.self };
      block_size = c.u16_at-2.result;
      prev = record { 0 = c.copy_from_slice-4.new.self };
    } = λ i. record {
      name = sym c.copy_from_slice.ensures.after i;
      kind = sym c.copy_from_slice-2.ensures.after i;
      score = record { 0 = sym c.copy_from_slice-3.ensures.after i };
      block_size = sym c.u16_at-2.ensures i;
      prev = record { 0 = sym prev i };
    } in
    subst (λ (r : Root). IsRoot r × (bytes ≡ root_bytes r)) same (
      root_is bytes c.if-bytes-ne-ROOT_LEN.false (λ i. omega (arith, c.type_inv.bytes i)),
      root_spelled bytes c.if-bytes-ne-ROOT_LEN.false (λ i. omega (arith, c.type_inv.bytes i))
          (sym c.u16_at.ensures ∙ c.if-u16_at-ne2.false),
    )

pub returns-clause-only : goal.returns-clause-only
returns-clause-only c root is spells =
    let bytes = c.args.bytes.now in
    let prev : c.copy_from_slice-4.new.self ≡ drop 280 bytes =
    c.copy_from_slice-4.ensures.after ∙ take_rest bytes 280 in
    let read : root_in bytes ≡ root = (spelled_root_is_read root bytes is spells).0 in
    let same : ◌≡◌ {A = Root} (record {
      name = c.copy_from_slice.new.self;
      kind = c.copy_from_slice-2.new.self;
      score = record { 0 = c.copy_from_slice-3.new.self };
      block_size = c.u16_at-2.result;
      prev = record { 0 = c.copy_from_slice-4.new.self };
    }) (root_in bytes) = λ i. record {
      name = c.copy_from_slice.ensures.after i;
      kind = c.copy_from_slice-2.ensures.after i;
      score = record { 0 = c.copy_from_slice-3.ensures.after i };
      block_size = c.u16_at-2.ensures i;
      prev = record { 0 = prev i };
    } in
    same ∙ read
