use Rattle.std.proofs.Common.{◌≡◌, ⊎_elim, ℕ, true, false, sym, ◌∙◌, ap}
use Rattle.std.proofs.lemmas.Result.{err_from_is_err_and}
use Rattle.vt_isect.specs.declared.head.Head.{Head}
use Rattle.vt_isect.specs.declared.phase.Phase.TheVariants.{Rest, ChangeHead}
use Rattle.vt_isect.specs.Section.{SectionState}
use Rattle.vt_rebuild.proofs.HeadWork.{Stops, one_step, stopped_by}
use Rattle.vt_rebuild.proofs.heads.change_head.Goals as goal

pub loop-section-preserved : goal.loop-section-preserved
loop-section-preserved g c =
    let it = c.loop-section.invariant in
    ⊎_elim
    (λ way. one_step g.D.Disk c.soundness_is_kept.ensures.forget c.begin_head.new.self c.loop-section.section c.advance.new.self it way.0 way.1
    c.in_ok-advance.field-0 c.in_ok-advance.ensures.steps c.in_ok-advance.ensures.sound c.in_ok-advance.ensures.settled c.in_ok-advance.ensures.left
    (c.advance.ensures.calls it.goes) c.advance.ensures.writes.size c.in_ok-advance.ensures.faults)
    (λ done. absurd (c.is_changing.ensures.under_way.0 c.loop-section-test.true done.0))
    it.phase

pub returns-clause-changed : goal.returns-clause-changed
returns-clause-changed g c =
    let it = c.loop-section.invariant in
    let same = c.begin_head.ensures.same in
    let h : Head = c.args.head in
    let coming : c.begin_head.new.self.next ≡ h = c.begin_head.ensures.next
    ∙ ap (λ (n : ℕ). record { state = h.state; first = h.first; count = n; total = h.total; mark = h.mark }) (sym c.requires.count) in
    ⊎_elim
    (λ way. absurd (
    let yes = c.is_changing.ensures.under_way.1 (λ rest. let no : ChangeHead ≡ Rest = sym way.0 ∙ rest in absurd (cc)) in
    let no : true ≡ false = sym yes ∙ c.loop-section-test.false in cc))
    (λ done. record {
      rest = done.0;
      head_is = done.1 ∙ coming;
      next_is = it.next ∙ coming;
      settled = done.2;
      holds = λ told sound. it.holds told (c.begin_head.ensures.sound _ told sound);
      keeps = λ known told first sound.
          it.keeps known told (ap (λ (x : Head). x.first) coming ∙ first ∙ sym (ap (λ (t : SectionState g.row.D.Denot). t.head.first) same))
          (c.begin_head.ensures.sound known told sound);
    })
    it.phase

pub returns-clause-same : goal.returns-clause-same
returns-clause-same g c =
    let it = c.loop-section.invariant in
    let same = c.begin_head.ensures.same in
    record {
      name = it.name ∙ ap (λ (t : SectionState g.row.D.Denot). t.name) same;
      buckets = it.buckets ∙ ap (λ (t : SectionState g.row.D.Denot). t.buckets) same;
      size = it.size ∙ ap (λ (t : SectionState g.row.D.Denot). g.D.Disk.size t.disk) same;
    }

pub returns-in_err-advance-clause-stops : goal.returns-in_err-advance-clause-stops
returns-in_err-advance-clause-stops g c =
    let it = c.loop-section.invariant in
    let same = c.begin_head.ensures.same in
    let h : Head = c.args.head in
    let coming : c.begin_head.new.self.next ≡ h = c.begin_head.ensures.next
    ∙ ap (λ (n : ℕ). record { state = h.state; first = h.first; count = n; total = h.total; mark = h.mark }) (sym c.requires.count) in
    let p = err_from_is_err_and c.from_residual.result c.from_residual.ensures.1 in
    rw p.1 (⊎_elim
    (λ way.
    let stop : Stops g.D.Disk c.begin_head.new.self c.advance.new.self =
    stopped_by g.D.Disk c.soundness_is_kept.ensures.forget c.begin_head.new.self c.loop-section.section c.advance.new.self it way.0 way.1
    _ c.in_err-advance.ensures.steps c.in_err-advance.ensures.sound in
    record {
      head_is = stop.head ∙ ap (λ (t : SectionState g.row.D.Denot). t.head) same;
      next_is = stop.next ∙ coming;
      phase = stop.phase;
      keeps = λ known told sound. stop.keeps known told (c.begin_head.ensures.sound known told sound);
    })
    (λ done. absurd (c.is_changing.ensures.under_way.0 c.loop-section-test.true done.0))
    it.phase)

pub returns-in_err-advance-clause-same : goal.returns-in_err-advance-clause-same
returns-in_err-advance-clause-same g c =
    let it = c.loop-section.invariant in
    let same = c.begin_head.ensures.same in
    ⊎_elim
    (λ way.
    let stop : Stops g.D.Disk c.begin_head.new.self c.advance.new.self =
    stopped_by g.D.Disk c.soundness_is_kept.ensures.forget c.begin_head.new.self c.loop-section.section c.advance.new.self it way.0 way.1
    _ c.in_err-advance.ensures.steps c.in_err-advance.ensures.sound in
    record {
      name = stop.name ∙ ap (λ (t : SectionState g.row.D.Denot). t.name) same;
      buckets = stop.buckets ∙ ap (λ (t : SectionState g.row.D.Denot). t.buckets) same;
      size = c.advance.ensures.writes.size ∙ it.size ∙ ap (λ (t : SectionState g.row.D.Denot). g.D.Disk.size t.disk) same;
    })
    (λ done. absurd (c.is_changing.ensures.under_way.0 c.loop-section-test.true done.0))
    it.phase
