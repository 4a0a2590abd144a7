-- Why bytes aren't the frame of a bucket: the first test that fails.
use Rattle.std.specs.Prelude.{◌≡◌, ◌≢◌, ℕ, ◌+◌, ◌<◌, ◌≤◌, List, codes, length, take, drop}
use Rattle.byteorder.specs.Endian.{big_number}
use Rattle.vt_base.specs.declared.place.Entry.{Entry}
use Rattle.vt_model.specs.declared.TheConstants.{BUCKET_ROOM}
use Rattle.vt_bucket.specs.declared.TheConstants.{FIELDS_LEN}
use Rattle.vt_bucket.specs.declared.decoding.BucketBad.{BucketBad}
use Rattle.vt_bucket.specs.declared.decoding.BucketBad.TheVariants.{Magic, Number, Count, Order}
use Rattle.vt_bucket.specs.Frame.{BeginsWithEntries}

-- the first four bytes of a frame
abbrev pub magic_in : List ℕ → List ℕ
magic_in bytes = take 4 bytes

-- the number field of a frame
abbrev pub number_in : List ℕ → ℕ
number_in bytes = big_number 4 (drop 4 bytes)

-- the field of a frame that counts the entries
abbrev pub count_in : List ℕ → ℕ
count_in bytes = big_number 2 (drop 8 bytes)

-- the first n entries stand there, and are in order
abbrev pub HasFirstEntries : ℕ → List ℕ → Type 0
HasFirstEntries n bytes =
    (entries : List Entry) × (length entries ≡ n)
    × BeginsWithEntries entries (drop FIELDS_LEN bytes)

-- the frame begins as that of a bucket
abbrev pub HasMagic : List ℕ → Type 0
HasMagic bytes = magic_in bytes ≡ codes "VBKT"

-- the fault of these bytes, as the frame of the bucket of this number
abbrev pub FaultIs : BucketBad → ℕ → List ℕ → Type 0
FaultIs (Magic found) number bytes = (found ≡ magic_in bytes) × ¬ HasMagic bytes
FaultIs (Number found) number bytes = HasMagic bytes × (found ≡ number_in bytes) × (found ≢ number)
FaultIs (Count found) number bytes =
    HasMagic bytes × (number_in bytes ≡ number) × (found ≡ count_in bytes)
    × (BUCKET_ROOM < found)
FaultIs (Order entry count) number bytes =
    HasMagic bytes × (number_in bytes ≡ number) × (count ≡ count_in bytes)
    × (count ≤ BUCKET_ROOM) × (entry < count)
    × HasFirstEntries entry bytes × ¬ HasFirstEntries (entry + 1) bytes
