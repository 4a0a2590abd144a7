use Rattle.std.proofs.Common.{◌≡◌, take, arith, rules, nat_eq}
use Rattle.std.specs.Prelude.{codes, slice_index}
use Rattle.vt_arena.proofs.Heads.{flag_reads, head_spells}
use Rattle.vt_arena.proofs.head.ArenaHead.decode.Goals as goal

pub returns-in-Ok-clause-spelling : goal.returns-in-Ok-clause-spelling
returns-in-Ok-clause-spelling c =
    let magic : take 4 c.args.fields.now ≡ codes "VARN" = search rules in
    head_spells c.args.fields.now c.told-fields (λ i. omega (arith, c.fits-fields i)) magic
    (record {
      version = c.u16_at.result;
      number = c.u32_at.result;
      sealed = nat_eq (slice_index c.args.fields.now 10) 1;
      clumps = c.u32_at-2.result;
      used = c.u64_at.result;
      chain = record { 0 = c.copy_from_slice.new.self };
      last = c.last_in.result;
    })
    (record {
      version = c.u16_at.ensures;
      number = c.u32_at.ensures;
      sealed = flag_reads (slice_index c.args.fields.now 10) c.in-Ok.ensures.sealed;
      clumps = c.u32_at-2.ensures;
      used = c.u64_at.ensures;
      chain = search rules;
      last = c.last_in.ensures;
    })
    (omega arith)
