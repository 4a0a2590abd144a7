use Rattle.std.proofs.Common.{◌≡◌, ◌+◌, List, [], ◌∷◌, ◌++◌, length, map, reverse, ◌∙◌, ap, arith, length-append}
use Rattle.vt_shard.specs.Shard.{ShardState}
use Rattle.vt_recover.proofs.Room.{closes_last}
use Rattle.vt_recover.proofs.devices.close_shards.Goals as goal

pub loop-shard-preserved : goal.loop-shard-preserved
loop-shard-preserved g c =
    let device : ShardState g.row.D.Denot → g.row.D.Denot = λ s. s.section.disk in
    let shard : ShardState g.row.D.Denot = c.in-Some.shard in
    let before : List g.row.D.Denot = c.loop-shard.waiting.items in
    let after : List g.row.D.Denot = c.push_reserved.new.self.items in
    let rest : List (ShardState g.row.D.Denot) = c.pop.new.self.items in
    let last : c.loop-shard.shards.items ≡ rest ++ shard ∷ [] = c.in-Some.ensures.items in
    let pushed : after ≡ before ++ device shard ∷ [] = c.push_reserved.ensures.items ∙ ap (λ (d : g.row.D.Denot). before ++ d ∷ []) c.into_devices.ensures in
    let longer : length after ≡ length before + 1 = ap (λ (ds : List g.row.D.Denot). length ds) pushed ∙ length-append before (device shard ∷ []) in
    let shorter : length c.loop-shard.shards.items ≡ length rest + 1 = ap (λ (ss : List (ShardState g.row.D.Denot)). length ss) last ∙ length-append rest (shard ∷ []) in
    record {
      devices = ap (λ (ds : List g.row.D.Denot). map device rest ++ reverse ds) pushed ∙ closes_last device c.loop-shard.shards.items rest shard before last ∙ c.loop-shard.invariant.devices;
      room = omega (arith, longer, shorter, c.loop-shard.invariant.room, c.push_reserved.ensures.capacity);
    }
