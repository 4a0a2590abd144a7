use Rattle.std.proofs.Common.{◌≡◌, take, refl, sym, ◌∙◌, arith}
use Rattle.std.specs.Prelude.{codes}
use Rattle.std.proofs.lemmas.Slice.Eq.{bytes_eq-Decides}
use Rattle.std.proofs.lemmas.Bool.{not-false}
use Rattle.vt_isect.proofs.Heads.{head_spells}
use Rattle.vt_isect.proofs.head.decode_head.Goals as goal

pub returns-clause-spelling : goal.returns-clause-spelling
returns-clause-spelling c =
    let magic : take 4 c.args.frame.now ≡ codes "VSEC" =
    (bytes_eq-Decides (take 4 c.args.frame.now) (codes "VSEC")).0 (not-false _ (sym c.ne.ensures ∙ c.if-ne.false)) in
    record {
      fits = record {
        state = omega (arith, c.type_inv.frame 6);
        first = c.u32_at.type_inv;
        count = c.u32_at-2.type_inv;
        total = c.u32_at-3.type_inv;
        mark = c.u64_at.type_inv;
      };
      name_len = c.copy_from_slice.auto.self;
      spelling = head_spells c.args.frame.now c.copy_from_slice.new.self _ c.requires.whole (λ i. omega (arith, c.type_inv.frame i)) magic
          (sym c.u16_at-version.ensures ∙ c.if-version-ne1.false) refl
          (sym c.copy_from_slice.ensures.after) c.copy_from_slice.auto.self
          (sym c.u32_at.ensures) (sym c.u32_at-2.ensures) (sym c.u32_at-3.ensures) (sym c.u64_at.ensures);
    }
