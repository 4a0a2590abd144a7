-- What stays of a store, from one event to the next.
use Rattle.std.proofs.Common.{refl, ◌∙◌, arith}
use Rattle.vt_disk.specs.Members.{DiskOf}
use Rattle.vt_core.specs.Core.{CoreState}
use Rattle.vt_core.specs.Steps.{KeepsStore}

pub same_store : {D : Type 0} (disk : DiskOf D) (k : CoreState D) → KeepsStore disk k k
same_store disk k = record {
  tables = refl;
  layout = refl;
  setup = refl;
  shards = refl;
  filter = refl;
  counts = (refl, refl);
  sizes = refl;
  sessions = refl;
  len = omega arith;
  durable = omega arith;
  synced = omega arith;
}

pub keeps_then : {D : Type 0} (disk : DiskOf D) (old mid new : CoreState D) → KeepsStore disk old mid → KeepsStore disk mid new → KeepsStore disk old new
keeps_then disk old mid new one rest = record {
  tables = rest.tables ∙ one.tables;
  layout = rest.layout ∙ one.layout;
  setup = rest.setup ∙ one.setup;
  shards = rest.shards ∙ one.shards;
  filter = rest.filter ∙ one.filter;
  counts = (rest.counts.0 ∙ one.counts.0, rest.counts.1 ∙ one.counts.1);
  sizes = rest.sizes ∙ one.sizes;
  sessions = rest.sessions ∙ one.sessions;
  len = omega (arith, one.len, rest.len);
  durable = omega (arith, one.durable, rest.durable);
  synced = omega (arith, one.synced, rest.synced);
}
