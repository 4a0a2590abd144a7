-- The head of an index section: the first bytes of a frame of 8,192,
--   magic[4] version[2] state[1] name[64] first[4] count[4] total[4] mark[8]
-- Numbers have their highest byte first, and zeros fill up the name. What lies behind the mark
-- isn't read, and is written as zero.
use Rattle.std.specs.Prelude.{◌≡◌, ℕ, ◌^◌, ◌<◌, List, ◌∷◌, ◌++◌, codes, length, take}
use Rattle.byteorder.specs.Endian.{big_bytes}
use Rattle.vt_base.specs.Filled.{filled}
use Rattle.vt_disk.specs.declared.TheConstants.{NAME_LEN}
use Rattle.vt_isect.specs.declared.TheConstants.{FRAME_LEN, FIELDS_LEN}
use Rattle.vt_isect.specs.declared.head.Head.{Head}

-- the bytes of a head with this field of a name
abbrev pub section_head_bytes : (name : List ℕ) → Head → List ℕ
section_head_bytes name head = codes "VSEC" ++ (big_bytes 2 1 ++ (head.state ∷ (name
    ++ (big_bytes 4 head.first ++ (big_bytes 4 head.count
    ++ (big_bytes 4 head.total ++ big_bytes 8 head.mark))))))

-- the bytes of a frame that the head stands in
abbrev pub head_of : (frame : List ℕ) → List ℕ
head_of frame = take FIELDS_LEN frame

-- each number of a head fits its field
pub record IsHead (head : Head) : Type 0 where
  pub state : head.state < 2 ^ 8
  pub first : head.first < 2 ^ 32
  pub count : head.count < 2 ^ 32
  pub total : head.total < 2 ^ 32
  pub mark : head.mark < 2 ^ 64

-- the frame has this head, with this field of a name
pub record IsHeadFrame (name : List ℕ) (head : Head) (frame : List ℕ) : Type 0 where
  pub fits : IsHead head
  pub name_len : length name ≡ NAME_LEN
  pub spelling : head_of frame ≡ section_head_bytes name head

-- the frame that is written
abbrev pub encoded : (name : List ℕ) → Head → List ℕ
encoded name head = filled FRAME_LEN (section_head_bytes name head)
