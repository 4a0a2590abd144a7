use Rattle.std.proofs.Common.{◌≡◌, ◌↔◌, ℕ, Bool, IsTrue, List, ◌∙◌, ap, subst}
use Rattle.vt_core.specs.Core.{history_len}
use Rattle.vt_rehearse.specs.Rehearsal.{IsWritten}
use Rattle.vt_rehearse.specs.Words.{word_of}
use Rattle.vt_rehearse.proofs.stage.Stage.judge_write.Goals as goal

pub returns : goal.returns
returns g c =
    let score = g.S.Scorer.score_of in
    let word = c.args.word in
    let said = c.args.said.now in
    let before = c.args.before in
    let is_right = c.is_write_right-is_right.result in
    let given = c.deref.result.now in
    let listed : given ≡ c.args.self.now.listed = c.deref.ensures.value ∙ ap (λ s. s.listed) c.self.view_is in
    let own : c.score-own.result.0 ≡ score (word_of word) = c.score-own.ensures ∙ ap score (c.as_slice.ensures ∙ c.new.ensures) in
    let after : c.history_len-after.result ≡ history_len c.args.self.now.core = c.history_len-after.ensures in (
      is_right,
      subst (λ (l : List ℕ). IsTrue is_right ↔ ((is_held : Bool) × IsWritten (score (word_of word)) word l is_held said before (history_len c.args.self.now.core))) listed
          (subst (λ (n : ℕ). IsTrue is_right ↔ ((is_held : Bool) × IsWritten (score (word_of word)) word given is_held said before n)) after
          (subst (λ (s : List ℕ). IsTrue is_right ↔ ((is_held : Bool) × IsWritten s word given is_held said before c.history_len-after.result)) own c.is_write_right-is_right.ensures)),
      c.compare.ensures,
    )
