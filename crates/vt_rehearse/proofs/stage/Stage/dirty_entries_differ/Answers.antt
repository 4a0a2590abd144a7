-- the store has two shards, and tells it of each
use Rattle.std.proofs.Common.{◌≡◌, ◌≢◌, ℕ, zero, suc, Some, length, ap, subst, arith}
use Rattle.std.proofs.lemmas.Option.{slice_get_within}
use Rattle.std.specs.List.{AllPairs}
use Rattle.std.specs.Prelude.{slice_get}
use Rattle.vt_core.specs.Core.{CoreState}
use Rattle.vt_rehearse.specs.Stage.{StageState}
use Rattle.vt_shard.specs.Shard.{ShardState}
use Rattle.vt_rehearse.proofs.stage.Stage.dirty_entries_differ.Goals as goal

abbrev Differ : {D : Type 0} → CoreState D → (i : ℕ) → Type 0
Differ {D} k i = (s : ShardState D) → slice_get k.shards i ≡ Some s → AllPairs (λ a b. a.key ≢ b.key) s.index.dirty

both_differ : {D : Type 0} (k : CoreState D) → length k.shards ≡ 2 → Differ k 0 → Differ k 1 → (i : ℕ) → Differ k i
both_differ k two first second zero = first
both_differ k two first second (suc zero) = second
both_differ k two first second (suc (suc i)) = λ s at. let lt = slice_get_within k.shards (suc (suc i)) s at in absurd (omega (arith, two, lt))

pub returns : goal.returns
returns g c = λ i s at.
    let same = ap (λ (s : StageState g.row.D.Denot). s.core) c.self.view_is in
    both_differ c.args.self.now.core c.requires
    (subst (λ (k : CoreState g.row.D.Denot). Differ k 0) same c.spare.ensures.apart)
    (subst (λ (k : CoreState g.row.D.Denot). Differ k 1) same c.spare-2.ensures.apart) i s at
