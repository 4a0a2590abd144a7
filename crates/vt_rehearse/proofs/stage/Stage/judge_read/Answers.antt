use Rattle.std.proofs.Common.{◌≡◌, ◌↔◌, ℕ, Bool, IsTrue, List, ◌∙◌, ap, subst}
use Rattle.vt_rehearse.specs.Rehearsal.{IsWordRead}
use Rattle.vt_rehearse.proofs.stage.Stage.judge_read.Goals as goal

pub returns : goal.returns
returns g c =
    let is_right = c.is_read_right-is_right.result in
    let listed : c.deref.result.now ≡ c.args.self.now.listed = c.deref.ensures.value ∙ ap (λ s. s.listed) c.self.view_is in (
      is_right,
      subst (λ (l : List ℕ). IsTrue is_right ↔ ((is_found : Bool) × IsWordRead c.args.word l is_found c.args.said.now)) listed c.is_read_right-is_right.ensures,
      c.compare.ensures,
    )
