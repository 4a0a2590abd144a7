use Rattle.std.proofs.Common.{◌≡◌, ℕ, List, drop, Ok, Err, sym, ◌∙◌, ap}
use Rattle.std.proofs.lemmas.List.{take_rest}
use Rattle.hex.specs.Hex.{decode_sized}
use Rattle.vt_base.specs.ScoreText.{front_len}
use Rattle.vt_base.proofs.ScoreTexts.{read_is_spelled, spelled_is_read, not_both}
use Rattle.vt_base.proofs.printed.parse_score.Goals as goal

pub returns-in-Ok-clause-ok : goal.returns-in-Ok-clause-ok
returns-in-Ok-clause-ok c =
    let text = c.args.text.now in
    let start = c.front_len-start.result in
    let got : decode_sized (drop start text) 20 ≡ Ok c.in-Ok.bytes =
    ap (λ (l : List ℕ). decode_sized l 20) (sym (take_rest text start)) ∙ sym c.from_hex.ensures ∙ c.in-Ok.is in
    read_is_spelled text c.in-Ok.bytes
    (ap (λ (k : ℕ). decode_sized (drop k text) 20) (sym c.front_len-start.ensures.value) ∙ got)

pub returns-in-Err-clause-only : goal.returns-in-Err-clause-only
returns-in-Err-clause-only c score spells =
    let text = c.args.text.now in
    let start = c.front_len-start.result in
    let read : decode_sized (drop start text) 20 ≡ Ok score =
    ap (λ (k : ℕ). decode_sized (drop k text) 20) c.front_len-start.ensures.value
    ∙ spelled_is_read score text spells in
    let got : decode_sized (drop start text) 20 ≡ Err c.in-Err.field-0 =
    ap (λ (l : List ℕ). decode_sized l 20) (sym (take_rest text start)) ∙ sym c.from_hex.ensures ∙ c.in-Err.is in
    absurd (not_both (decode_sized (drop start text) 20) score c.in-Err.field-0 read got)
