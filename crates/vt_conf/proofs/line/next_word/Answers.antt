use Rattle.std.proofs.Common.{◌≡◌, ℕ, ◌∷◌, List, drop, take, ap, ◌∙◌, sym}
use Rattle.std.specs.List.{position_or_len}
use Rattle.vt_conf.specs.Lines.{words_of_line, is_blank}
use Rattle.vt_conf.proofs.LineWords.{first_word, no_words, no_words_in_comment}
use Rattle.vt_conf.proofs.line.next_word.Goals as goal
use Rattle.vt_conf.proofs.line.next_word.Goals.{then-is_empty-via-then-is_empty, then-is_empty-via-else-is_empty+then-line-eq35}

word_and_rest : (line front back : List ℕ) (n : ℕ) → position_or_len is_blank line ≡ n → take n line ≡ front → drop n line ≡ back
    → take (position_or_len is_blank line) line ∷ words_of_line (drop (position_or_len is_blank line) line) ≡ front ∷ words_of_line back
word_and_rest line front back n at is behind =
    ap (λ (k : ℕ). take k line ∷ words_of_line (drop k line)) at ∙ ap (λ (l : List ℕ). l ∷ words_of_line (drop n line)) is
    ∙ ap (λ (l : List ℕ). front ∷ words_of_line l) behind

pub returns-then-is_empty-clause-none : goal.returns-then-is_empty-clause-none
returns-then-is_empty-clause-none c =
    let line = c.trim_start-line.result.now in
    sym c.trim_start-line.ensures.words ∙ elim c.then-is_empty.branch [
      | then-is_empty-via-then-is_empty w ↦ no_words line (sym c.is_empty.ensures ∙ w.if-is_empty.true)
      | then-is_empty-via-else-is_empty+then-line-eq35 w ↦ no_words_in_comment line (sym c.is_empty.ensures ∙ w.if-is_empty.false) w.if-line-eq35.true
    ]

pub returns-clause-word : goal.returns-clause-word
returns-clause-word c =
    let line = c.trim_start-line.result.now in
    let parts = first_word line (sym c.is_empty.ensures ∙ c.if-is_empty.false) c.trim_start-line.ensures.start c.if-line-eq35.false in
    sym c.trim_start-line.ensures.words ∙ parts ∙ word_and_rest line _ _ _ (sym c.word_len.ensures.value)
    (sym c.split_at.ensures.front) (sym c.split_at.ensures.back)
