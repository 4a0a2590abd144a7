use Rattle.std.proofs.Common.{◌≡◌, take, sym, ◌∙◌, arith, rules}
use Rattle.std.specs.Prelude.{codes}
use Rattle.vt_part.proofs.Tables.{head_spells}
use Rattle.vt_part.proofs.head.Head.decode.Goals as goal

pub returns-clause-spelling : goal.returns-clause-spelling
returns-clause-spelling c =
    let magic : take 4 c.args.head.now ≡ codes "VPRT" = search rules in
    head_spells c.args.head.now c.told-head (λ i. omega (arith, c.fits-head i)) magic
    (sym c.u16_at-version.ensures ∙ c.if-version-ne1.false)
    (record {
      name = take c.name_len.result c.copy_from_slice.new.self;
      arena_size = c.u64_at-arena_size.result;
      count = c.u32_at-count.result;
    })
    (sym c.copy_from_slice.ensures.after ∙ c.name_len.ensures.filled)
    (sym c.u64_at-arena_size.ensures) (sym c.u32_at-count.ensures)
