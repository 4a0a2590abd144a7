use Rattle.std.proofs.Common.{◌≡◌, ℕ, sym, ap, ◌∙◌, subst}
use Rattle.std.proofs.lemmas.Result.{IfErr-weaker, on_ok_weaker}
use Rattle.vt_isect.specs.Writeback.{FindsDamage, GetsFrame}
use Rattle.vt_isect.proofs.Follows.{same_selector}
use Rattle.vt_isect.proofs.section.Section.make_call.Goals as goal

pub returns-in-ReadFrame-clause-damaged : goal.returns-in-ReadFrame-clause-damaged
returns-in-ReadFrame-clause-damaged g c s =
    IfErr-weaker c.read_frame.result _ _
    (λ bad it other phase.
    let same : c.in-ReadFrame.selector ≡ s = same_selector c.in-ReadFrame.selector s (sym c.in-ReadFrame.is ∙ ap (λ x. x.phase) c.self.view_is ∙ phase) in
    subst (λ (k : ℕ). FindsDamage g.D.Disk k c.args.self.now bad) same (it other))
    c.read_frame.ensures.damaged

pub returns-in-ReadFrame-clause-merged : goal.returns-in-ReadFrame-clause-merged
returns-in-ReadFrame-clause-merged g c s =
    on_ok_weaker c.read_frame.result
    (λ found phase.
    let same : c.in-ReadFrame.selector ≡ s = same_selector c.in-ReadFrame.selector s (sym c.in-ReadFrame.is ∙ ap (λ x. x.phase) c.self.view_is ∙ phase) in
    subst (λ (k : ℕ). GetsFrame g.D.Disk k c.args.self.now c.read_frame.new.self) same found)
    c.read_frame.ensures.merged
