use Rattle.std.proofs.Common.{◌≡◌, ◌++◌, ◌*◌, List, ℕ, length, take, drop, ap, ◌∙◌}
use Rattle.std.proofs.lemmas.List.{take_at}
use Rattle.vt_bloom.specs.Bits.{position_of}
use Rattle.vt_bloom.proofs.Marks.{one_more}
use Rattle.vt_bloom.proofs.bits.Bits.mark_bits.Goals as goal

pub loop-i-preserved : goal.loop-i-preserved
loop-i-preserved c =
    let w : List ℕ = c.set.new.words in
    let before : List ℕ = c.loop-i.self-inside.words.items in
    let len : length w ≡ c.loop-i.self-inside.words.len = c.set.auto.words ∙
    c.deref_mut.ensures.len in
    let same : take c.loop-i.self-inside.words.len (w ++ drop (length w) before) ≡ w =
    take_at w (drop (length w) before) c.loop-i.self-inside.words.len len in
    let at : c.position.result ≡ position_of c.self.inside.m c.args.score.now.0 c.loop-i.i =
    c.position.ensures.value ∙ ap (λ (m : ℕ). position_of m c.args.score.now.0 c.loop-i.i)
    c.loop-i.invariant.m in
    record {
      filter = rw same (record {
        counts = c.loop-i.invariant.filter.counts;
        whole = ap (λ (n : ℕ). 64 * n) (c.set.auto.words ∙ ap length c.deref_mut.ensures.value)
            ∙ c.loop-i.invariant.filter.whole;
      });
      m = c.loop-i.invariant.m;
      k = c.loop-i.invariant.k;
      set = rw same (one_more _ before w c.args.score.now.0 c.self.inside.m c.loop-i.i
          c.position.result c.loop-i.invariant.set
          (rw c.deref_mut.ensures.value at c.set.ensures) at);
    }
