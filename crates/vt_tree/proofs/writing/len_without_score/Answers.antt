use Rattle.std.proofs.Common.{◌≡◌, ℕ, ◌-◌, inl, inr, List, [], get_or, map, sym, ◌∙◌, ap, arith}
use Rattle.std.specs.Str.{bytes_eq}
use Rattle.std.proofs.lemmas.Bool.{cases_lt}
use Rattle.std.proofs.Math.ListN.{get_or-map}
use Rattle.std.proofs.lemmas.List.{length-map}
use Rattle.vt_base.specs.declared.score.Score.{Score}
use Rattle.vt_tree.proofs.Filling.{end_found}
use Rattle.vt_tree.proofs.writing.len_without_score.Goals as goal

-- the score at a place, of the scores as lists
place : (wanted : List ℕ) (scores : List Score) (k : ℕ)
    → bytes_eq wanted (get_or (map (λ (s : Score). s.0) scores) k [])
    ≡ bytes_eq wanted (get_or scores k (record { 0 = [] })).0
place wanted scores k =
    ap (λ (l : List ℕ). bytes_eq wanted l)
    (get_or-map (λ (s : Score). s.0) scores k (record { 0 = [] }))

pub loop-len-preserved : goal.loop-len-preserved
loop-len-preserved c =
    let len : ℕ = c.loop-len.len in
    let so = c.loop-len.invariant in
    record {
      within = omega (arith, so.within);
      same = λ k from below. elim (cases_lt k len) [
        | inl here ↦
            let last : len - 1 ≡ k = omega arith in
            ap (λ (i : ℕ). bytes_eq c.args.score.now.0
            (get_or (map (λ (s : Score). s.0) c.args.scores.now) i [])) (sym last)
            ∙ place c.args.score.now.0 c.args.scores.now (len - 1)
            ∙ sym c.eq.ensures ∙ c.if-eq.true
        | inr behind ↦ so.same k behind below
      ];
    }

pub returns-else-eq-clause-value : goal.returns-else-eq-clause-value
returns-else-eq-clause-value c =
    let scores = c.args.scores.now in
    let so = c.loop-len.invariant in
    let count = length-map scores (λ (s : Score). s.0) in
    end_found (bytes_eq c.args.score.now.0) (map (λ (s : Score). s.0) scores) c.loop-len.len []
    (omega (arith, count, so.within))
    (λ k from below. so.same k from (omega (arith, count, below)))
    (λ some.
    place c.args.score.now.0 scores (c.loop-len.len - 1) ∙ sym c.eq.ensures ∙ c.if-eq.false)

pub returns-after-loop-len-clause-value : goal.returns-after-loop-len-clause-value
returns-after-loop-len-clause-value c =
    let scores = c.args.scores.now in
    let so = c.loop-len.invariant in
    let count = length-map scores (λ (s : Score). s.0) in
    end_found (bytes_eq c.args.score.now.0) (map (λ (s : Score). s.0) scores) c.loop-len.len []
    (omega (arith, count, so.within))
    (λ k from below. so.same k from (omega (arith, count, below)))
    (λ some. absurd (omega (arith, c.loop-len-test.false)))
