use Rattle.std.proofs.Common.{◌≡◌, ⊎_elim, inl, inr, ◌<◌, ◌≤◌, ℕ, sym, ◌∙◌, ap, arith}
use Rattle.vt_base.specs.declared.mount.MountBad.TheVariants.{Disagree}
use Rattle.vt_base.specs.declared.mount.MountField.TheVariants.{M}
use Rattle.vt_bloom.specs.declared.error.BloomError.TheVariants.{Fault}
use Rattle.vt_bloom.specs.Size.{filter_len}
use Rattle.vt_bloom.proofs.Powers.{exponent_unique, filter_len-mono}
use Rattle.vt_mount_errors.specs.MountErrors.{of_filter}
use Rattle.vt_format.proofs.filter.make_filter.Goals as goal

pub returns-in-Ok : goal.returns-in-Ok
returns-in-Ok g c m size = record {
  writes = c.format.ensures.writes m size;
  formatted = record {
    largest = c.in-Ok.ensures.largest m size;
    saved = λ told. c.in-Ok.ensures.saved told m size;
    settled = c.in-Ok.ensures.settled;
  };
  refused = tt;
}

pub returns-in-Err : goal.returns-in-Err
returns-in-Err g c m size =
    let len : ℕ = g.D.Disk.size c.args.disk.now in
    record {
      writes = c.format.ensures.writes m size;
      formatted = tt;
      refused = ⊎_elim
          (λ short.
          let room : filter_len m ≤ len = c.requires.room m size in
          let least : filter_len 16 ≤ filter_len m = filter_len-mono 16 m size.least in
          let less : len < 40960 = short.0 in
          absurd (omega arith))
          (λ rest. ⊎_elim
          (λ torn.
          let same : torn.0 ≡ m = exponent_unique torn.0 m c.args.size torn.2 size in
          inl (
            torn.1,
            torn.3,
            λ equal. torn.4 (same ∙ equal),
            c.of_filter.ensures ∙ ap (of_filter 0) torn.5 ∙ ap (λ (k : ℕ). Disagree 0 M k torn.1) same,
            c.in-Err.ensures.untouched (λ fault. let no = sym torn.5 ∙ fault in absurd (cc)),
          ))
          (λ now. ⊎_elim
          (λ fault. let bad : c.in-Err.bad ≡ Fault = fault in
          inr (inr (c.of_filter.ensures ∙ ap (of_filter 0) bad, rw bad at c.in-Err.ensures.cause)))
          (λ memory. inr (inl (
            c.of_filter.ensures ∙ ap (of_filter 0) memory,
            c.in-Err.ensures.untouched (λ fault. let no = sym memory ∙ fault in absurd (cc)),
          )))
          now.0.1)
          rest)
          c.in-Err.ensures.refused;
    }
