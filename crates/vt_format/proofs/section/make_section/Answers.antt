use Rattle.std.proofs.Common.{◌≡◌, ⊎_elim, inl, inr, ◌∙◌, ap}
use Rattle.vt_isect.specs.declared.error.SectBad.TheVariants.{Fault}
use Rattle.vt_mount_errors.specs.MountErrors.{of_section}
use Rattle.vt_format.proofs.section.make_section.Goals as goal

pub returns-in-Ok : goal.returns-in-Ok
returns-in-Ok g c = record {
  writes = c.format.ensures.writes;
  formatted = record {
    room = c.in-Ok.ensures.room;
    buckets = c.in-Ok.ensures.count;
    head = c.in-Ok.ensures.head_frame;
    settled = c.in-Ok.ensures.settled;
  };
  refused = tt;
}

pub returns-in-Err : goal.returns-in-Err
returns-in-Err g c = record {
  writes = c.format.ensures.writes;
  formatted = tt;
  refused = ⊎_elim
      (λ short. inl (short.0, c.of_section.ensures ∙ ap (of_section 0) short.1, c.format.ensures.untouched short.0))
      (λ failed. let bad : c.in-Err.bad ≡ Fault = failed.1 in
      inr (c.of_section.ensures ∙ ap (of_section 0) bad, rw bad at c.in-Err.ensures.cause))
      c.in-Err.ensures.refused;
}
