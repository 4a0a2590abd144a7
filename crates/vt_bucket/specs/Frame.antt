-- The frame of an index bucket (Quinlan and Dorward 2002, the index; the layout is this project's):
-- a head
--   magic[4] number[4] count[2]
-- and then `count` entries, ascending by score and then by type, each
--   score[20] type[1] size[2] arena[4] offset[4]
-- Numbers have their highest byte first. A frame has 8,192 bytes, so there is room for 263
-- entries. What lies behind the last entry isn't read, and is written as zero.
use Rattle.std.specs.Prelude.{◌≡◌, ℕ, ◌-◌, ◌*◌, ◌^◌, ◌<◌, ◌≤◌, List, ◌∷◌, ◌++◌, codes, length, take, drop, replicate}
use Rattle.std.specs.List.{AllByRecursion, flat_map}
use Rattle.byteorder.specs.Endian.{big_bytes}
use Rattle.vt_base.specs.Kind.{IsKind}
use Rattle.vt_base.specs.declared.place.Entry.{Entry}
use Rattle.vt_model.specs.declared.TheConstants.{BUCKET_ROOM}
use Rattle.vt_bucket.specs.declared.TheConstants.{FRAME_LEN, FIELDS_LEN, CELL_LEN}
use Rattle.vt_bucket.specs.Order.{IsAscending}

-- the bytes of an entry
abbrev pub cell : Entry → List ℕ
cell e =
    e.key.score.0 ++ (e.key.kind ∷ (big_bytes 2 e.size
    ++ (big_bytes 4 e.place.arena ++ big_bytes 4 e.place.offset)))

-- the entry has a block type, and its fields have their widths
pub record IsIndexEntry (e : Entry) : Type 0 where
  pub kind : IsKind e.key.kind
  pub score_len : length e.key.score.0 ≡ 20
  pub size : e.size < 2 ^ 16
  pub arena : e.place.arena < 2 ^ 32
  pub offset : e.place.offset < 2 ^ 32

-- what a bucket may hold
pub record AreBucketEntries (entries : List Entry) : Type 0 where
  pub each : AllByRecursion IsIndexEntry entries
  pub ascending : IsAscending entries
  pub most : length entries ≤ BUCKET_ROOM

-- the bytes of entries, one behind the other
abbrev pub cells : List Entry → List ℕ
cells entries = flat_map cell entries

-- the bytes begin with these entries, one behind another
pub record BeginsWithEntries (entries : List Entry) (bytes : List ℕ) : Type 0 where
  pub allowed : AreBucketEntries entries
  pub spelling : (rest : List ℕ) × (bytes ≡ cells entries ++ rest)

-- the bytes in front of a bucket's entries
abbrev pub bucket_header : (number count : ℕ) → List ℕ
bucket_header number count = codes "VBKT" ++ (big_bytes 4 number ++ big_bytes 2 count)

-- the bytes are a frame of the bucket of this number, which holds these entries
pub record IsBucketFrame (number : ℕ) (entries : List Entry) (bytes : List ℕ) : Type 0 where
  pub number_fits : number < 2 ^ 32
  pub head : take FIELDS_LEN bytes ≡ bucket_header number (length entries)
  pub body : BeginsWithEntries entries (drop FIELDS_LEN bytes)

-- the frame that is written
abbrev pub bucket_frame : (number : ℕ) → (entries : List Entry) → List ℕ
bucket_frame number entries =
    bucket_header number (length entries) ++ (cells entries
    ++ replicate (FRAME_LEN - FIELDS_LEN - CELL_LEN * length entries) 0)
