use Rattle.std.proofs.Common.{rules}
use Rattle.std.proofs.lemmas.List.Sorted.{IsNonDecreasingBy-from_sort_by_key}
use Rattle.vt_base.specs.declared.place.Entry.{Entry}
use Rattle.vt_model.specs.Places.{bucket_of}
use Rattle.vt_isect.specs.Entries.{turn}
use Rattle.vt_isect.proofs.entries.Entries.order.Goals as goal

pub returns : goal.returns
returns c = rw (← c.self.view_is) (record {
  same = c.sort_unstable_by_key.ensures.permutation;
  room = c.sort_unstable_by_key.ensures.capacity;
  ordered = IsNonDecreasingBy-from_sort_by_key (λ (entry : Entry). turn c.args.behind (bucket_of c.args.total entry.key.score.0)) c.sort_unstable_by_key.new.self.items
      c.sort_unstable_by_key.ensures.sorted (λ a r f' called. search rules);
})
