-- A store as its calls see it.
use Rattle.std.specs.Prelude.{ℕ, Option, List, ◌∷◌, ◌++◌, map}
use Rattle.std.specs.Option.{option_to_list}
use Rattle.vt_model.specs.History.{History}
use Rattle.vt_model.specs.Places.{Setup}
use Rattle.vt_log.specs.Log.{LogState, front, setup_of_log}
use Rattle.vt_bloom.specs.Bits.{Filter}
use Rattle.vt_bloom.specs.Bloom.{BloomState}
use Rattle.vt_shard.specs.Shard.{ShardState}
use Rattle.vt_core.specs.Files.{PerDevice, all_of}
use Rattle.vt_core.specs.Machine.{Machine}

-- A store: its log; a shard for each index section; the saved Bloom filter, if it has a device for
-- one, and the filter's bits in memory; for each session the number at which its sync waits, if one
-- does; and the greatest number of a sync that was answered or, where there was none, how many
-- blocks it was mounted with.
pub record CoreState (D : Type 0) : Type 0 where
  pub log : LogState D
  pub shards : List (ShardState D)
  pub bloom : Option (BloomState D)
  pub bits : Filter
  pub waiting : List (Option ℕ)
  pub synced : ℕ

-- how many blocks were accepted
abbrev pub history_len : {D : Type 0} → CoreState D → ℕ
history_len k = front k.log

-- What a store was opened with, as the model has it.
abbrev pub setup_of : {D : Type 0} → CoreState D → Setup
setup_of k = record {
  arenas = (setup_of_log k.log).arenas;
  versions = (setup_of_log k.log).versions;
  base = k.log.base;
  sections = map (λ s. s.section.buckets) k.shards;
}

-- the machine that a store with this history is
abbrev pub machine_of : {D : Type 0} → CoreState D → History → Machine
machine_of k h = record {
  setup = setup_of k;
  history = h;
  synced = k.synced;
  waiting = k.waiting;
}

-- the devices of a store: its partitions, its sections, and its filter's, if it has one
abbrev pub devices_of : {D : Type 0} → CoreState D → PerDevice D
devices_of k = record {
  partitions = k.log.disks;
  sections = map (λ s. s.section.disk) k.shards;
  filter = map (λ b. b.disk) (option_to_list k.bloom);
}

-- something of each of its devices: its count of failed calls, or its size
abbrev pub each_of : {D : Type 0} → (D → ℕ) → CoreState D → List ℕ
each_of member k = map member (all_of (devices_of k))

-- for each part that writes, the device call at which it stopped, if it did: the log, the shards,
-- and the filter
abbrev pub stops_of : {D : Type 0} → CoreState D → List (Option ℕ)
stops_of k = k.log.stopped ∷ (map (λ s. s.section.stopped) k.shards
    ++ map (λ b. b.calls.stopped) (option_to_list k.bloom))
