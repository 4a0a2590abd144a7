use Rattle.std.proofs.Common.{◌≡◌, ℕ, List, length, map, take, sym, ◌∙◌, ap, subst, arith}
use Rattle.std.specs.List.{flat_map}
use Rattle.std.specs.Str.{bytes_eq}
use Rattle.std.proofs.lemmas.List.{length-take, take-map}
use Rattle.std.proofs.lemmas.List.Folds.{flat_map-map}
use Rattle.vt_base.specs.declared.score.Score.{Score}
use Rattle.vt_model.specs.History.{Block}
use Rattle.vt_tree.specs.Growing.{PutsBlock}
use Rattle.vt_tree.specs.Streams.{pointer_block, without_end}
use Rattle.vt_tree.proofs.writing.Cut.put_pointers.Goals as goal

pub put-requires-clause-most : goal.put-requires-clause-most
put-requires-clause-most g c =
    omega (
      arith,
      ap length c.deref.ensures.value,
      c.in_ok-bytes.ensures.len,
      length-take c.len_without_score-kept.result c.args.scores.now,
      c.requires.few,
    )

pub returns : goal.returns
returns g c =
    let kept : ℕ = c.len_without_score-kept.result in
    let scores = c.args.scores.now in
    let bytes : c.deref.result.now
    ≡ (pointer_block g.B.Scorer.score_of c.args.depth (map (λ (s : Score). s.0) scores)).bytes =
    c.deref.ensures.value ∙ c.in_ok-bytes.ensures.bytes
    ∙ sym (flat_map-map (λ (s : List ℕ). s) (λ (s : Score). s.0) (take kept scores))
    ∙ ap (flat_map (λ (s : List ℕ). s))
    (sym (take-map (λ (s : Score). s.0) kept scores) ∙ c.len_without_score-kept.ensures.value
    ∙ ap (λ (zero : List ℕ). without_end (bytes_eq zero) (map (λ (s : Score). s.0) scores))
    c.requires.zero) in
    let same : ◌≡◌ {A = Block} (record { kind = c.pointer_kind.result; bytes = c.deref.result.now })
    (pointer_block g.B.Scorer.score_of c.args.depth (map (λ (s : Score). s.0) scores)) =
    λ i. record { kind = c.pointer_kind.ensures i; bytes = bytes i } in
    subst (λ (b : Block). PutsBlock g.B.Blocks.does g.B.Scorer.score_of c.args.blocks.now
    c.put.new.blocks b c.put.result) same c.put.ensures
