use Rattle.std.proofs.Common.{◌≡◌, ℕ, ◌+◌, ◌++◌, ◌∷◌, List, [], ◌∙◌, append_assoc, arith}
use Rattle.std.specs.Prelude.{map}
use Rattle.std.specs.List.{range_with_len}
use Rattle.std.proofs.lemmas.List.FromFn.{map-range_with_len_more}
use Rattle.vt_part.specs.declared.layout.ArenaRegion.{ArenaRegion}
use Rattle.vt_part.specs.Layout.{arena_of}
use Rattle.vt_part.specs.Parts.{table_of}
use Rattle.vt_part.proofs.listing.push_arenas.Goals as goal

pub loop-arena-preserved : goal.loop-arena-preserved
loop-arena-preserved g c =
    let start : List ArenaRegion = c.args.arenas.now.items in
    let n : ℕ = c.loop-arena.arena in
    let arena : ℕ → ArenaRegion = arena_of c.args.number (table_of c.args.part.now) in
    let arenas : List ArenaRegion = map arena (range_with_len 0 n) in
    let one_more : map arena (range_with_len 0 (n + 1)) ≡ arenas ++ arena n ∷ [] =
    map-range_with_len_more arena 0 n n (omega arith) in
    let pushed : c.push.new.self.items ≡ (start ++ arenas) ++ arena n ∷ [] =
    ◌∙◌ {A = List ArenaRegion} c.in_ok-push.ensures.items (λ i. c.loop-arena.invariant i
    ++ (record {
      part = c.args.number;
      number = n;
      region = c.region.ensures.region i;
    }) ∷ []) in
    rw one_more (pushed ∙ append_assoc start arenas (arena n ∷ []))
