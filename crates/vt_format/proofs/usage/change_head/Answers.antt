use Rattle.std.proofs.Common.{◌≡◌, ⊎_elim, true, false, sym, ◌∙◌, ap}
use Rattle.vt_disk.proofs.Calls.{on_err}
use Rattle.vt_isect.specs.declared.phase.Phase.TheVariants.{Rest, ChangeHead}
use Rattle.vt_format.proofs.Heads.{head_stops, one_step}
use Rattle.vt_format.proofs.usage.change_head.Goals as goal

pub loop-section-preserved : goal.loop-section-preserved
loop-section-preserved g c =
    let it = c.loop-section.invariant in
    ⊎_elim
    (λ way. one_step g.D.Disk c.soundness_is_kept.ensures.forget c.begin_head.new.self c.loop-section.section c.advance.new.self it way.0 way.1
    c.in_ok-advance.field-0 c.in_ok-advance.ensures.steps c.in_ok-advance.ensures.sound c.in_ok-advance.ensures.settled c.in_ok-advance.ensures.left
    (c.advance.ensures.calls it.goes) c.advance.ensures.writes.size c.in_ok-advance.ensures.faults c.advance.ensures.writes.images)
    (λ done. absurd (c.is_changing.ensures.under_way.0 c.loop-section-test.true done.0))
    it.phase

pub returns-clause-changed : goal.returns-clause-changed
returns-clause-changed g c =
    let it = c.loop-section.invariant in
    let same = c.begin_head.ensures.same in
    ⊎_elim
    (λ way. absurd (
    let yes = c.is_changing.ensures.under_way.1 (λ rest. let no : ChangeHead ≡ Rest = sym way.0 ∙ rest in absurd (cc)) in
    let no : true ≡ false = sym yes ∙ c.loop-section-test.false in cc))
    (λ done. record {
      rest = done.0;
      name = it.name ∙ ap (λ t. t.name) same;
      buckets = it.buckets ∙ ap (λ t. t.buckets) same;
      head = done.1 ∙ c.begin_head.ensures.next;
      next = it.next ∙ sym done.1;
      settled = done.2;
      holds = λ told sound. it.holds told (c.begin_head.ensures.sound _ told sound);
      keeps = λ known told first sound.
          it.keeps known told (ap (λ h. h.first) c.begin_head.ensures.next ∙ first ∙ sym (ap (λ t. t.head.first) same))
          (c.begin_head.ensures.sound known told sound);
    })
    it.phase

pub returns-in_err-advance-clause-size : goal.returns-in_err-advance-clause-size
returns-in_err-advance-clause-size g c =
    c.advance.ensures.writes.size ∙ c.loop-section.invariant.size ∙ ap (λ t. g.D.Disk.size t.disk) c.begin_head.ensures.same

pub returns-clause-size : goal.returns-clause-size
returns-clause-size g c = c.loop-section.invariant.size ∙ ap (λ t. g.D.Disk.size t.disk) c.begin_head.ensures.same

pub returns-in_err-advance-clause-stops : goal.returns-in_err-advance-clause-stops
returns-in_err-advance-clause-stops g c =
    let it = c.loop-section.invariant in
    on_err c.from_residual.result
    (⊎_elim
    (λ way. head_stops g.D.Disk c.soundness_is_kept.ensures.forget c.begin_head.new.self c.loop-section.section c.advance.new.self it way.0 way.1
    c.args.section.now c.begin_head.ensures.same c.begin_head.ensures.sound c.args.state c.args.first c.args.total c.begin_head.ensures.next
    c.advance.ensures.writes.images c.in_err-advance.field-0.0 c.in_err-advance.ensures.sound c.in_err-advance.ensures.steps)
    (λ done. absurd (c.is_changing.ensures.under_way.0 c.loop-section-test.true done.0))
    it.phase)
