use Rattle.std.proofs.Common.{◌≡◌, ◌+◌, ◌-◌, ◌==◌, ℕ, length, take}
use Rattle.std.specs.Prelude.{slice_index}
use Rattle.std.specs.List.{count_by}
use Rattle.vt_base.specs.declared.place.Entry.{Entry}
use Rattle.vt_isect.specs.Layout.{InRange}
use Rattle.vt_model.specs.Places.{bucket_of}
use Rattle.vt_shard.proofs.writeback.count_off.Given as goal

abbrev pub invariant-loop-entry : goal.invariant-loop-entry
invariant-loop-entry l = (n : ℕ) → InRange l.head (length l.initial.waiting) n
    → slice_index l.waiting (n - l.head.first)
    + count_by (λ (entry : Entry). bucket_of l.head.total entry.key.score.0 == n) (take l.entry-index l.entries)
    ≡ slice_index l.initial.waiting (n - l.head.first)
