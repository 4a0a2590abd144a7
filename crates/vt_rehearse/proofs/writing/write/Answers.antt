use Rattle.std.proofs.Common.{◌≡◌, ◌≢◌, ◌+◌, ◌<◌, ℕ, [], ◌∷◌, ◌++◌, List, length, Bool, false, true, sym, ◌∙◌, ap, subst, arith}
use Rattle.std.proofs.lemmas.List.{length-append}
use Rattle.vt_base.specs.declared.answer.Said.TheVariants.{Refused}
use Rattle.vt_base.specs.declared.why.Why.TheVariants.{NoMemory}
use Rattle.vt_rehearse.specs.declared.summary.Summary.{Summary}
use Rattle.vt_rehearse.specs.Counts.{with_compared, with_write}
use Rattle.vt_rehearse.specs.Limits.{AreAtMost}
use Rattle.vt_rehearse.specs.Rehearsal.{listed_after}
use Rattle.vt_rehearse.specs.Stage.{AreAlike, StageState}
use Rattle.vt_rehearse.proofs.Limits.{more, more_compared, more_write}
use Rattle.vt_rehearse.proofs.Noting.{judged_right, told_is, whole_write, writes_word}
use Rattle.vt_rehearse.proofs.Staged.{few_listed}
use Rattle.vt_rehearse.proofs.writing.write.Goals as goal

pub judge_write-requires-clause-most : goal.judge_write-requires-clause-most
judge_write-requires-clause-most g c =
    subst (λ (s : Summary). AreAtMost 18446744073709551360 s) (sym (ap (λ s. s.summary) c.ask_to_write-said.ensures.same))
    (more 9223372036854775808 18446744073709551360 c.args.stage.now.summary (omega arith) c.requires.most)

pub note_write-requires-clause-room : goal.note_write-requires-clause-room
note_write-requires-clause-room g c is_new =
    let score = g.S.Scorer.score_of in
    let disk = g.D.Disk in
    let word = c.args.word in
    let old = c.args.stage.now in
    let mid = c.ask_to_write-said.new.stage in
    let said = c.ask_to_write-said.result in
    let other : said ≢ Refused NoMemory = λ is. let no : false ≡ true = sym c.if-ran_out.false ∙ c.ran_out.ensures.1 is in absurd (cc) in
    let right = c.ask_to_write-said.ensures.right other in
    let told = told_is score disk c.args.session word old mid c.judge_write.new.self said c.history_len-before.result c.history_len-before.ensures c.ask_to_write-said.ensures.same c.judge_write.ensures right.0 right.1 right.2
    c.history_len.result c.history_len.ensures in
    let alike = subst (λ (b : Bool). AreAlike score disk (record mid { listed = listed_after b word old.listed })) (sym told ∙ is_new) right.3 in
    let few = few_listed score disk (record mid { listed = old.listed ++ word ∷ [] }) alike in
    let long = length-append old.listed (word ∷ []) in
    let judged = judged_right score disk c.args.session word old mid c.judge_write.new.self said c.history_len-before.result c.history_len-before.ensures c.ask_to_write-said.ensures.same c.judge_write.ensures right.0 right.1 right.2 in
    subst (λ (l : List ℕ). length l < 64) (sym (ap (λ (s : StageState g.row.D.Denot). s.listed) judged)) (omega (arith, few, long))

pub note_write-requires-clause-most : goal.note_write-requires-clause-most
note_write-requires-clause-most g c =
    let score = g.S.Scorer.score_of in
    let disk = g.D.Disk in
    let word = c.args.word in
    let old = c.args.stage.now in
    let mid = c.ask_to_write-said.new.stage in
    let said = c.ask_to_write-said.result in
    let other : said ≢ Refused NoMemory = λ is. let no : false ≡ true = sym c.if-ran_out.false ∙ c.ran_out.ensures.1 is in absurd (cc) in
    let right = c.ask_to_write-said.ensures.right other in
    let judged = judged_right score disk c.args.session word old mid c.judge_write.new.self said c.history_len-before.result c.history_len-before.ensures c.ask_to_write-said.ensures.same c.judge_write.ensures right.0 right.1 right.2 in
    subst (λ (s : Summary). AreAtMost 18446744073709551360 s) (sym (ap (λ (s : StageState g.row.D.Denot). s.summary) judged))
    (more 9223372036854775809 18446744073709551360 (with_compared true old.summary) (omega arith) (more_compared 9223372036854775808 true old.summary c.requires.most))

pub returns-clause-writes : goal.returns-clause-writes
returns-clause-writes g c =
    let score = g.S.Scorer.score_of in
    let disk = g.D.Disk in
    let word = c.args.word in
    let old = c.args.stage.now in
    let mid = c.ask_to_write-said.new.stage in
    let said = c.ask_to_write-said.result in
    let new = c.note_write.new.self in
    let other : said ≢ Refused NoMemory = λ is. let no : false ≡ true = sym c.if-ran_out.false ∙ c.ran_out.ensures.1 is in absurd (cc) in
    let right = c.ask_to_write-said.ensures.right other in
    let judged = c.judge_write.new.self in
    let told = told_is score disk c.args.session word old mid judged said c.history_len-before.result c.history_len-before.ensures c.ask_to_write-said.ensures.same c.judge_write.ensures right.0 right.1 right.2
    c.history_len.result c.history_len.ensures in
    let noted = subst (λ (b : Bool). new ≡ record judged { listed = listed_after b word judged.listed; summary = with_write b judged.summary }) told c.note_write.ensures in
    writes_word score disk c.args.session word old mid judged said c.history_len-before.result c.history_len-before.ensures c.ask_to_write-said.ensures.same c.judge_write.ensures right.0 right.1 right.2 new noted

pub returns-clause-alike : goal.returns-clause-alike
returns-clause-alike g c =
    let score = g.S.Scorer.score_of in
    let disk = g.D.Disk in
    let word = c.args.word in
    let old = c.args.stage.now in
    let mid = c.ask_to_write-said.new.stage in
    let said = c.ask_to_write-said.result in
    let new = c.note_write.new.self in
    let other : said ≢ Refused NoMemory = λ is. let no : false ≡ true = sym c.if-ran_out.false ∙ c.ran_out.ensures.1 is in absurd (cc) in
    let right = c.ask_to_write-said.ensures.right other in
    let judged = c.judge_write.new.self in
    let told = told_is score disk c.args.session word old mid judged said c.history_len-before.result c.history_len-before.ensures c.ask_to_write-said.ensures.same c.judge_write.ensures right.0 right.1 right.2
    c.history_len.result c.history_len.ensures in
    let noted = subst (λ (b : Bool). new ≡ record judged { listed = listed_after b word judged.listed; summary = with_write b judged.summary }) told c.note_write.ensures in
    let whole = whole_write score disk c.args.session word old mid judged said c.history_len-before.result c.history_len-before.ensures c.ask_to_write-said.ensures.same c.judge_write.ensures right.0 right.1 right.2 new noted in
    subst (λ (s : StageState g.row.D.Denot). AreAlike score disk s) (sym whole)
    (record { history = right.3.history; store = right.3.store; free = right.3.free; list = right.3.list; filled = right.3.filled })

pub returns-clause-grows : goal.returns-clause-grows
returns-clause-grows g c = λ most it.
    let score = g.S.Scorer.score_of in
    let disk = g.D.Disk in
    let word = c.args.word in
    let old = c.args.stage.now in
    let mid = c.ask_to_write-said.new.stage in
    let said = c.ask_to_write-said.result in
    let new = c.note_write.new.self in
    let other : said ≢ Refused NoMemory = λ is. let no : false ≡ true = sym c.if-ran_out.false ∙ c.ran_out.ensures.1 is in absurd (cc) in
    let right = c.ask_to_write-said.ensures.right other in
    let judged = c.judge_write.new.self in
    let told = told_is score disk c.args.session word old mid judged said c.history_len-before.result c.history_len-before.ensures c.ask_to_write-said.ensures.same c.judge_write.ensures right.0 right.1 right.2
    c.history_len.result c.history_len.ensures in
    let noted = subst (λ (b : Bool). new ≡ record judged { listed = listed_after b word judged.listed; summary = with_write b judged.summary }) told c.note_write.ensures in
    let whole = whole_write score disk c.args.session word old mid judged said c.history_len-before.result c.history_len-before.ensures c.ask_to_write-said.ensures.same c.judge_write.ensures right.0 right.1 right.2 new noted in
    subst (λ (s : Summary). AreAtMost (most + 8192) s) (sym (ap (λ (s : StageState g.row.D.Denot). s.summary) whole))
    (more (most + 1 + 3) (most + 8192) (with_write right.0 (with_compared true old.summary)) (omega arith) (more_write right.0 (most + 1) (with_compared true old.summary) (more_compared most true old.summary it)))
