-- A clump is a block as it stands in an arena: a header, and the block's bytes behind it (Quinlan
-- and Dorward 2002, the data log; the layout is this project's):
--   magic[4] type[1] size[2] uncsize[2] score[20] encoding[1] creator[4] time[4] block[size]
-- Numbers have their highest byte first.
use Rattle.std.specs.Prelude.{◌≡◌, ℕ, ◌+◌, ◌^◌, ◌<◌, ◌≤◌, List, ◌∷◌, ◌++◌, codes, length, take, drop, slice_index}
use Rattle.byteorder.specs.Endian.{big_bytes, big_number}
use Rattle.vt_base.specs.Kind.{IsKind}
use Rattle.vt_base.specs.declared.TheConstants.{MAX_BLOCK}
use Rattle.vt_clump.specs.declared.header.TheConstants.{HEADER_LEN}

-- a stored block, and what its header says beside it
pub record Stored : Type 0 where
  pub kind : ℕ
  pub score : List ℕ
  pub creator : List ℕ
  pub time : ℕ
  pub block : List ℕ

-- the block is one, and the fields have their widths and the block's score
pub record IsStoredBlock (score_of : List ℕ → List ℕ) (s : Stored) : Type 0 where
  pub kind : IsKind s.kind
  pub scored : s.score ≡ score_of s.block
  pub score_len : length s.score ≡ 20
  pub creator_len : length s.creator ≡ 4
  pub time : s.time < 2 ^ 32
  pub some : 0 < length s.block
  pub most : length s.block ≤ MAX_BLOCK

-- how many bytes the clump of a block of n bytes has
abbrev pub clump_len : ℕ → ℕ
clump_len n = HEADER_LEN + n

-- size and uncsize of a block of n bytes, which is stored as it is
abbrev pub sizes : ℕ → List ℕ
sizes n = big_bytes 2 n ++ big_bytes 2 n

-- the bytes before the block; encoding 1 says that the block is stored as it is
abbrev pub clump_header : Stored → List ℕ
clump_header s =
    codes "VCLP" ++ (s.kind ∷ (sizes (length s.block)
    ++ (s.score ++ (1 ∷ (s.creator ++ big_bytes 4 s.time)))))

-- the bytes of a clump
unfoldable pub clump_bytes : Stored → List ℕ
clump_bytes s = clump_header s ++ s.block

-- the bytes begin with a clump that says this, of a block of this score; anything may follow
pub record BeginsWithClump (score_of : List ℕ → List ℕ) (s : Stored) (bytes : List ℕ) : Type 0 where
  pub stored : IsStoredBlock score_of s
  pub spelling : (rest : List ℕ) × (bytes ≡ clump_bytes s ++ rest)

-- how many bytes the block has, by the field of a clump's header (the fields here are by their places)
abbrev pub size_in : List ℕ → ℕ
size_in bytes = big_number 2 (drop 5 bytes)

-- the field of a header with the size before compression
abbrev pub uncsize_in : List ℕ → ℕ
uncsize_in bytes = big_number 2 (drop 7 bytes)

-- what the bytes of a clump say
abbrev pub stored_in : List ℕ → Stored
stored_in bytes = record {
  kind = slice_index bytes 4;
  score = take 20 (drop 9 bytes);
  creator = take 4 (drop 30 bytes);
  time = big_number 4 (drop 34 bytes);
  block = take (size_in bytes) (drop HEADER_LEN bytes);
}
