-- Walking back.
use Rattle.std.proofs.Common.{◌≡◌, ℕ, ◌+◌, ◌<◌, ◌≤◌, min, List, [], ◌∷◌, length, take, map, sym, ap, subst, arith}
use Rattle.std.specs.Prelude.{All, slice_index, sum_by}
use Rattle.std.proofs.lemmas.Option.{slice_get_within}
use Rattle.std.proofs.lemmas.List.Elements.{All-nil, All-append, All-map, All-weaker}
use Rattle.vt_disk.specs.Members.{DiskOf}
use Rattle.vt_model.specs.History.{Accepted, History}
use Rattle.vt_model.specs.Places.{lengths_in}
use Rattle.vt_arena.specs.Layout.{Content}
use Rattle.vt_arena.specs.Places.{block_room}
use Rattle.vt_log.specs.Back.{IsTailBehind}
use Rattle.vt_log.specs.Log.{LogState, front, queued}
use Rattle.vt_log.specs.Logs.{accepted_in, blocks_from}
use Rattle.vt_log.specs.Sound.{IsSoundLog}
use Rattle.vt_log.proofs.Appends.{lengths_none}

-- each block is in one of the arenas
pub blocks_below : (k : ℕ) (contents : List Content) → All (λ e. e.arena < k + length contents) (blocks_from k contents)
blocks_below k [] = All-nil (λ (e : Accepted). e.arena < k + 0)
blocks_below k (a ∷ rest) =
    All-append (λ (e : Accepted). e.arena < k + length (a ∷ rest)) (map (accepted_in k) a.stored) (blocks_from (k + 1) rest)
    (All-map (λ (e : Accepted). e.arena < k + length (a ∷ rest)) (accepted_in k) a.stored (λ i s below. omega arith))
    (All-weaker (λ (e : Accepted). e.arena < k + 1 + length rest) (λ (e : Accepted). e.arena < k + length (a ∷ rest)) (λ e below. omega (arith, below)) (blocks_from (k + 1) rest) (blocks_below (k + 1) rest))

-- a new walk has all blocks before it
pub tail_behind : {D : Type 0} (score_of : List ℕ → List ℕ) (disk : DiskOf D) (l : LogState D) (h : History)
    → IsSoundLog score_of disk l h → IsTailBehind l h (length h) (record { left = front l; queued = queued l; arena = length l.heads; at = record { index = 0; end = 0; sectors = 0 } })
tail_behind score_of disk l h sound =
    let inside : l.durable ≤ length h = omega (arith, sound.front) in
    let few : min (length h) l.durable ≡ l.durable = omega (arith, inside) in
    let below : All (λ (e : Accepted). e.arena < length l.heads) (take (min (length h) l.durable) h) =
    subst (λ (n : ℕ). All (λ (e : Accepted). e.arena < length l.heads) (take n h)) (sym few)
    (subst (All (λ (e : Accepted). e.arena < length l.heads)) (sym sound.committed)
    (All-weaker (λ (e : Accepted). e.arena < 0 + length sound.contents) (λ (e : Accepted). e.arena < length l.heads)
    (λ e less. omega (arith, less, sound.many, sound.whole.many)) (blocks_from 0 sound.contents) (blocks_below 0 sound.contents))) in
    let none : lengths_in (length l.heads) (take (min (length h) l.durable) h) ≡ [] = lengths_none (length l.heads) (take (min (length h) l.durable) h) below in
    record {
      left = sound.front;
      most = omega arith;
      queue = omega (arith, sound.front);
      index = sym (ap (λ (ls : List ℕ). length ls) none);
      end = sym (ap (λ (ls : List ℕ). sum_by (block_room (slice_index l.versions (length l.heads))) ls) none);
      sectors = λ found at. absurd (omega (arith, slice_get_within l.heads (length l.heads) found at));
      arenas = All-weaker (λ (e : Accepted). e.arena < length l.heads) (λ (e : Accepted). e.arena ≤ length l.heads) (λ e less. omega (arith, less)) (take (min (length h) l.durable) h) below;
    }
