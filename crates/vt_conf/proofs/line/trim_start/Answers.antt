use Rattle.std.proofs.Common.{◌≡◌, ℕ, ◌<◌, List, false, drop, length, get_or, ap, subst, ◌∙◌, sym}
use Rattle.std.proofs.lemmas.List.{take_rest}
use Rattle.vt_conf.specs.Lines.{words_of_line, is_blank}
use Rattle.vt_conf.proofs.LineWords.{words_behind_blanks, starts_plain}
use Rattle.vt_conf.proofs.line.trim_start.Goals as goal

pub returns-clause-words : goal.returns-clause-words
returns-clause-words c =
    let line = c.args.line.now in
    ap words_of_line (take_rest line c.blanks_len.result ∙ ap (λ (k : ℕ). drop k line) c.blanks_len.ensures.value)
    ∙ words_behind_blanks line

pub returns-clause-start : goal.returns-clause-start
returns-clause-start c =
    let line = c.args.line.now in
    let is = take_rest line c.blanks_len.result ∙ ap (λ (k : ℕ). drop k line) c.blanks_len.ensures.value in
    subst (λ (l : List ℕ). 0 < length l → is_blank (get_or l 0 0) ≡ false) (sym is) (starts_plain line)
