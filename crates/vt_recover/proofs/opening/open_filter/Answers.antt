use Rattle.std.proofs.Common.{◌∷◌, [], ⊎_elim, inl, inr, ℕ, map, Option, None, Some, refl, sym, ◌∙◌, ap, subst, arith}
use Rattle.std.specs.Option.{option_to_list}
use Rattle.vt_log.specs.Answers.{HoldTheSame}
use Rattle.vt_bloom.specs.Bits.{Filter}
use Rattle.vt_recover.specs.Opening.{OpensFilter}
use Rattle.vt_mount_errors.specs.MountErrors.{of_filter}
use Rattle.vt_recover.specs.Refusals.{CountsRefusal, FilterIsRefused}
use Rattle.vt_recover.proofs.Held.{held_reads, hold_still, hold_zip}
use Rattle.vt_recover.proofs.OpenWork.{one_filter}
use Rattle.vt_recover.proofs.opening.open_filter.Goals as goal

pub new-requires : goal.new-requires
new-requires g c = record { least = omega arith; most = omega arith; some = omega arith; few = omega arith }

pub returns-in-Ok-clause-opened : goal.returns-in-Ok-clause-opened
returns-in-Ok-clause-opened g c =
    subst (λ (o : Option g.row.D.Denot). OpensFilter g.D.Disk o None c.in-Ok.bits) (sym c.in_default.is)
    (refl, ap (λ (b : Filter). b.m) c.in-Ok.ensures.bits, ap (λ (b : Filter). b.k) c.in-Ok.ensures.bits)

pub returns-in-Ok-clause-held : goal.returns-in-Ok-clause-held
returns-in-Ok-clause-held g c = subst (λ (o : Option g.row.D.Denot). HoldTheSame g.D.Disk (option_to_list o) []) (sym c.in_default.is) (hold_still g.D.Disk [])

pub returns-in-Ok-clause-counts : goal.returns-in-Ok-clause-counts
returns-in-Ok-clause-counts g c = ap (λ (o : Option g.row.D.Denot). map g.D.Disk.faults (option_to_list o)) (sym c.in_default.is)

pub returns-in-Err-clause-refused : goal.returns-in-Err-clause-refused
returns-in-Err-clause-refused g c = inl refl

pub returns-in-Err-clause-found : goal.returns-in-Err-clause-found
returns-in-Err-clause-found g c = λ tells saved. inr refl

pub returns-in-Err-clause-held : goal.returns-in-Err-clause-held
returns-in-Err-clause-held g c = subst (λ (o : Option g.row.D.Denot). HoldTheSame g.D.Disk (option_to_list o) []) (sym c.in_default.is) (hold_still g.D.Disk [])

pub returns-in-Err-clause-counts : goal.returns-in-Err-clause-counts
returns-in-Err-clause-counts g c = ap (λ (o : Option g.row.D.Denot). map g.D.Disk.faults (option_to_list o)) (sym c.in_default.is)

pub returns-in-Ok-mount-clause-opened : goal.returns-in-Ok-mount-clause-opened
returns-in-Ok-mount-clause-opened g c =
    let e = c.in-Ok-mount.ensures in
    subst (λ (o : Option g.row.D.Denot). OpensFilter g.D.Disk o (Some c.in-Ok-mount.bloom) c.in-Ok-mount.bits) (sym c.in-Some.is) (
      c.in-Ok-mount.bloom,
      refl,
      record {
        found = λ tells. e.found tells;
        sound = λ tells coming. e.sound tells coming;
        counts = e.counts;
        next = e.next;
        rest = e.rest;
        goes = e.runs.0;
        runs = e.runs.1;
        reads = e.reads;
        faults = e.cause;
      },
    )

pub returns-in-Ok-mount-clause-held : goal.returns-in-Ok-mount-clause-held
returns-in-Ok-mount-clause-held g c =
    let d = c.in-Some.device in
    let a = c.in-Ok-mount.bloom.disk in
    subst (λ (o : Option g.row.D.Denot). HoldTheSame g.D.Disk (option_to_list o) (a ∷ [])) (sym c.in-Some.is)
    (hold_zip g.D.Disk (d ∷ []) (a ∷ []) (held_reads g.D.Disk 3 d a c.in-Ok-mount.ensures.reads, tt))

pub returns-in-Ok-mount-clause-counts : goal.returns-in-Ok-mount-clause-counts
returns-in-Ok-mount-clause-counts g c =
    let f = g.D.Disk.faults in
    ap (λ (n : ℕ). n ∷ []) c.in-Ok-mount.ensures.cause ∙ ap (λ (o : Option g.row.D.Denot). map f (option_to_list o)) (sym c.in-Some.is)

pub returns-in-Err-mount-clause-refused : goal.returns-in-Err-mount-clause-refused
returns-in-Err-mount-clause-refused g c = inr
    (subst (λ (o : Option g.row.D.Denot). FilterIsRefused g.D.Disk c.args.part (option_to_list o) c.of_filter.result) (sym c.in-Some.is) (record {
      device = c.in-Some.device;
      at = refl;
      why = c.in-Err-mount.bad;
      bad_is = c.of_filter.ensures;
      names = c.in-Err-mount.ensures.differs;
      refuses = c.in-Err-mount.ensures.refused;
    }))

pub returns-in-Err-mount-clause-found : goal.returns-in-Err-mount-clause-found
returns-in-Err-mount-clause-found g c = λ tells saved.
    let s = saved c.in-Some.device c.in-Some.is in
    ⊎_elim (λ e. inl (c.of_filter.ensures ∙ ap (of_filter c.args.part) e)) (λ e. inr (c.of_filter.ensures ∙ ap (of_filter c.args.part) e))
    (c.in-Err-mount.ensures.all_are_found s.0 tells s.1)

pub returns-in-Err-mount-clause-held : goal.returns-in-Err-mount-clause-held
returns-in-Err-mount-clause-held g c =
    let d = c.in-Some.device in
    let a = c.in-Err-mount.device in
    subst (λ (o : Option g.row.D.Denot). HoldTheSame g.D.Disk (option_to_list o) (a ∷ [])) (sym c.in-Some.is)
    (hold_zip g.D.Disk (d ∷ []) (a ∷ []) (held_reads g.D.Disk 3 d a c.in-Err-mount.ensures.reads, tt))

pub returns-in-Err-mount-clause-counts : goal.returns-in-Err-mount-clause-counts
returns-in-Err-mount-clause-counts g c =
    let f = g.D.Disk.faults in
    let d = c.in-Some.device in
    let a = c.in-Err-mount.device in
    subst (λ (o : Option g.row.D.Denot). CountsRefusal c.of_filter.result (map f (option_to_list o)) (f a ∷ [])) (sym c.in-Some.is)
    (subst (λ b. CountsRefusal b (f d ∷ []) (f a ∷ [])) (sym c.of_filter.ensures) (one_filter c.args.part c.in-Err-mount.bad (f d) (f a) c.in-Err-mount.ensures.cause))
