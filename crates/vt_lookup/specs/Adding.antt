-- A new block is added to the log and to the shard of its score.
use Rattle.std.specs.Prelude.{◌≡◌, ◌∷◌, [], ◌++◌}
use Rattle.vt_base.specs.declared.place.Info.{Info}
use Rattle.vt_base.specs.declared.place.Place.{Place}
use Rattle.vt_clump.specs.declared.packed.Packed.{Packed}
use Rattle.vt_log.specs.Answers.{TakesIn}
use Rattle.vt_log.specs.Log.{front}
use Rattle.vt_lookup.specs.Finding.{StoreParts}

-- This clump is added to the log's queue, and its entry to the shard, as a dirty one under the next
-- number.
pub record AddsPacked {D : Type 0} (packed : Packed) (old new : StoreParts D) : Type 0 where
  pub place : Place
  pub info : Info
  pub log : TakesIn packed place old.log new.log
  pub info_is : info ≡ record {
    key = record { score = packed.score; kind = packed.kind };
    size = packed.len;
    place = place;
    number = front old.log;
  }
  pub shard : new.shard ≡ record old.shard {
    index = record old.shard.index {
      dirty = old.shard.index.dirty ++ info ∷ [];
    };
  }
