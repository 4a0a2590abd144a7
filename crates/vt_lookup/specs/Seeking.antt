-- What the steps of a look-up give, before the block that they find is used.
use Rattle.std.specs.Prelude.{◌≡◌, ◌⊎◌, ℕ, Bool, true, false, IsTrue, not, Option, Some, None, Result, Ok, Err, List}
use Rattle.std.specs.Option.{option_map}
use Rattle.std.specs.Str.{bytes_eq}
use Rattle.vt_base.specs.declared.key.Key.{Key}
use Rattle.vt_base.specs.declared.place.Entry.{Entry}
use Rattle.vt_base.specs.declared.why.Why.{Why}
use Rattle.vt_disk.specs.Members.{DiskOf}
use Rattle.vt_lumps.specs.Lumps.{cached_bytes}
use Rattle.vt_model.specs.History.{History}
use Rattle.vt_model.specs.Places.{Setup}
use Rattle.vt_shard.specs.Search.{HasKeyOf}
use Rattle.vt_shard.specs.Shard.{ShardState}
use Rattle.vt_lookup.specs.Finding.{StoreParts, Sought, AreSound, SeeksBlock, SeeksOther, TakesLump, ReadsClump}

-- the block of a key, where it was brought into memory
abbrev pub fetched : {D U : Type 0} → Key → Result U Why → ShardState D → Sought
fetched key (Ok done) shard = Ok (cached_bytes key shard.lumps)
fetched key (Err why) shard = Err why

-- The block of a key, where there is one and it was brought into memory.
abbrev pub sought : {D : Type 0} → Key → Result Bool Why → ShardState D → Sought
sought key (Ok true) shard = Ok (cached_bytes key shard.lumps)
sought key (Ok false) shard = Ok None
sought key (Err why) shard = Err why

-- the block of an entry is brought into memory
abbrev pub Fetches : {D : Type 0} → (List ℕ → List ℕ) → DiskOf D → Entry → Sought
    → (old new : StoreParts D) → Type 0
Fetches score disk entry block old new =
    TakesLump entry.key block old new ⊎ ReadsClump score disk entry block old new

-- whether a block that was looked for has these bytes
abbrev pub compared : Sought → (bytes : List ℕ) → Result (Option Bool) Why
compared (Ok found) bytes = Ok (option_map (λ block. bytes_eq block bytes) found)
compared (Err why) bytes = Err why

-- Whether a block that was looked for was found and has other bytes.
abbrev pub differs : Sought → (bytes : List ℕ) → Result Bool Why
differs (Ok None) bytes = Ok false
differs (Ok (Some block)) bytes = Ok (not (bytes_eq block bytes))
differs (Err why) bytes = Err why

-- whether the block under this key has these bytes, or that there is none
pub record ComparesBlock {D : Type 0} (score : List ℕ → List ℕ) (disk : DiskOf D) (key : Key)
    (bytes : List ℕ) (result : Result (Option Bool) Why) (old new : StoreParts D) : Type 0 where
  pub own : Sought
  pub seeks : SeeksBlock score disk true key own old new
  pub result_is : result ≡ compared own bytes

-- whether a block of this score under any type has other bytes
pub record ComparesOther {D : Type 0} (score : List ℕ → List ℕ) (disk : DiskOf D)
    (s bytes : List ℕ) (result : Result Bool Why) (old new : StoreParts D) : Type 0 where
  pub other : Sought
  pub seeks : SeeksOther score disk true s other old new
  pub result_is : result ≡ differs other bytes

-- ---- on sound parts

-- For each history for which the log and the shard were sound they stay so.
abbrev pub StaySound : {D : Type 0} → (List ℕ → List ℕ) → DiskOf D → (old new : StoreParts D)
    → Type 0
StaySound {D} score disk old new = (c : Setup) (h : History) (durable : ℕ) → IsTrue disk.tells
    → AreSound score disk c old h durable → AreSound score disk c new h durable

-- what is known of the block of a key
abbrev pub IsOwn : (List ℕ → List ℕ) → History → Key → (bytes : List ℕ) → Option Bool → Type 0
IsOwn score h key bytes None = (i : ℕ) → ¬ HasKeyOf score h i key
IsOwn score h key bytes (Some same) =
    (i : ℕ) × (it : HasKeyOf score h i key) × (same ≡ bytes_eq it.block.block.bytes bytes)
