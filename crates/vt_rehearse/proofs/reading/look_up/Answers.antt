use Rattle.std.proofs.Common.{◌≡◌, ◌≢◌, false, true, sym, ◌∙◌, ap, subst, arith}
use Rattle.vt_base.specs.declared.answer.Said.TheVariants.{Refused}
use Rattle.vt_base.specs.declared.why.Why.TheVariants.{NoMemory}
use Rattle.vt_rehearse.specs.declared.summary.Summary.{Summary}
use Rattle.vt_rehearse.specs.Limits.{AreAtMost}
use Rattle.vt_rehearse.proofs.Limits.{more}
use Rattle.vt_rehearse.proofs.Noting.{looked_up}
use Rattle.vt_rehearse.proofs.reading.look_up.Goals as goal

pub judge_read-requires-clause-most : goal.judge_read-requires-clause-most
judge_read-requires-clause-most g c =
    subst (λ (s : Summary). AreAtMost 18446744073709551360 s) (sym (ap (λ s. s.summary) c.ask_to_read-said.ensures.same))
    (more 9223372036854775808 18446744073709551360 c.args.stage.now.summary (omega arith) c.requires.most)

pub returns-clause-looks : goal.returns-clause-looks
returns-clause-looks g c =
    let said = c.ask_to_read-said.result in
    let other : said ≢ Refused NoMemory = λ is. let no : false ≡ true = sym c.if-ran_out.false ∙ c.ran_out.ensures.1 is in absurd (cc) in
    let read = c.ask_to_read-said.ensures.right other in
    looked_up g.S.Scorer.score_of g.D.Disk c.args.session c.args.word c.args.stage.now c.ask_to_read-said.new.stage c.judge_read.new.self said read.0 c.is_block.result read.1 read.2
    c.ask_to_read-said.ensures.same c.judge_read.ensures c.is_block.ensures
