-- Archives of small folders, block by block, as an encoder outside has computed them. Blocks are
-- told
-- apart by a score of their length and bytes; no bytes have the score that SHA-1 gives them.
use Rattle.std.specs.Prelude.{ℕ, ◌≡◌, ◌+◌, ◌*◌, List, [], ◌∷◌, ◌++◌, codes, length, replicate, refl}
use Rattle.byteorder.specs.Endian.{big_bytes}
use Rattle.vt_out.specs.declared.folder_item.Facts.{Facts}
use Rattle.vt_out.specs.FolderItems.{Items, none, file, folder, other}
use Rattle.vac_model.specs.Archives.{archive_of}
use Rattle.vac_model.specs.Kept.{skipped}

abbrev mixed : List ℕ → ℕ
mixed [] = 0
mixed (b ∷ bytes) = b + 257 * mixed bytes

abbrev zero_score : List ℕ
zero_score = (218 ∷ 57 ∷ 163 ∷ 238 ∷ 94 ∷ 107 ∷ 75 ∷ 13 ∷ 50 ∷ 85 ∷ 191 ∷ 239 ∷ 149 ∷ 96 ∷ 24
    ∷ 144 ∷ 175 ∷ 216 ∷ 7 ∷ 9 ∷ [])

abbrev toy_score : List ℕ → List ℕ
toy_score [] = zero_score
toy_score (b ∷ bytes) = big_bytes 4 (length (b ∷ bytes)) ++ big_bytes 16 (mixed (b ∷ bytes))

abbrev facts : (name : List ℕ) → (mode mtime : ℕ) → Facts
facts name mode mtime = record {
  name = name;
  mode = mode;
  mtime = mtime;
  uid = codes "u";
  gid = codes "g";
}

abbrev empty_folder : Items Facts
empty_folder = none

empty_folder-archive : archive_of toy_score 8192 empty_folder ≡ record {
  score = (0 ∷ 0 ∷ 1 ∷ 44 ∷ 167 ∷ 80 ∷ 220 ∷ 117 ∷ 157 ∷ 244 ∷ 29 ∷ 203 ∷ 113 ∷ 192 ∷ 81 ∷ 255
      ∷ 47 ∷ 185 ∷ 76 ∷ 235 ∷ []);
  blocks =
      ((record {
        kind = 2;
        bytes = (0 ∷ 0 ∷ 0 ∷ 0 ∷ 31 ∷ 244 ∷ 31 ∷ 224 ∷ 3 ∷ [])
            ++ (replicate 11 0 ++ ((218 ∷ 57 ∷ 163 ∷ 238 ∷ 94 ∷ 107 ∷ 75 ∷ 13 ∷ 50 ∷ 85 ∷ 191 ∷ 239
            ∷ 149 ∷ 96 ∷ 24 ∷ 144 ∷ 175 ∷ 216 ∷ 7 ∷ 9 ∷ 0 ∷ 0 ∷ 0 ∷ 0 ∷ 31 ∷ 244 ∷ 32 ∷ 0 ∷ 1 ∷ [])
            ++ (replicate 11 0 ++ ((218 ∷ 57 ∷ 163 ∷ 238 ∷ 94 ∷ 107 ∷ 75 ∷ 13 ∷ 50 ∷ 85 ∷ 191 ∷ 239
            ∷ 149 ∷ 96 ∷ 24 ∷ 144 ∷ 175 ∷ 216 ∷ 7 ∷ 9 ∷ [])))));
      })
      ∷ ((record {
        kind = 1;
        bytes = (0 ∷ 2 ∷ 118 ∷ 97 ∷ 99 ∷ []) ++ (replicate 125 0 ++ ((114
            ∷ 118 ∷ 97 ∷ 99 ∷ []) ++ (replicate 127 0 ++ ((80 ∷ 45 ∷ 3 ∷ 123 ∷ 80 ∷ 199 ∷ 101 ∷ 183
            ∷ 105 ∷ 41 ∷ 54 ∷ 182 ∷ 110 ∷ 27 ∷ 120 ∷ 99 ∷ 165 ∷ 32 ∷ 0 ∷ 218 ∷ 57 ∷ 163 ∷ 238 ∷ 94
            ∷ 107 ∷ 75 ∷ 13 ∷ 50 ∷ 85 ∷ 191 ∷ 239 ∷ 149 ∷ 96 ∷ 24 ∷ 144 ∷ 175 ∷ 216 ∷ 7 ∷ 9 ∷
            [])))));
      })
      ∷ []));
}
empty_folder-archive = refl

empty_folder-skipped : skipped empty_folder ≡ []
empty_folder-skipped = refl

abbrev two_items : Items Facts
two_items = file (facts (codes "a") 0 0) ([]) (folder (facts (codes "d") 0 0) (file (facts (codes
    "f") 0 0) ((97 ∷ 98 ∷ 99 ∷ [])) none) none)

two_items-archive : archive_of toy_score 8192 two_items ≡ record {
  score = (0 ∷ 0 ∷ 1 ∷ 44 ∷ 222 ∷ 225 ∷ 28 ∷ 20 ∷ 46 ∷ 89 ∷ 203 ∷ 229 ∷ 20 ∷ 192 ∷ 152 ∷ 132
      ∷ 37 ∷ 103 ∷ 32 ∷ 190 ∷ []);
  blocks =
      ((record { kind = 13; bytes = (97 ∷ 98 ∷ 99 ∷ []) })
      ∷ ((record {
        kind = 2;
        bytes = (0 ∷ 0 ∷ 0 ∷ 0 ∷ 31 ∷ 244 ∷ 32 ∷ 0 ∷ 1 ∷ [])
            ++ (replicate 10 0 ++ ((3 ∷ 0 ∷ 0 ∷ 0 ∷ 3 ∷ []) ++ (replicate 13 0 ++ ((100 ∷ 41 ∷ 38
            ∷ [])))));
      })
      ∷ ((record {
        kind = 13;
        bytes = (0 ∷ 1 ∷ 102 ∷ []) ++ (replicate 20 0 ++ ((3 ∷ 0 ∷ 1
            ∷ 117 ∷ 0 ∷ 1 ∷ 103 ∷ [])));
      })
      ∷ ((record {
        kind = 2;
        bytes = (0 ∷ 0 ∷ 0 ∷ 0 ∷ 31 ∷ 244 ∷ 32 ∷ 0 ∷ 1 ∷ [])
            ++ (replicate 11 0 ++ ((218 ∷ 57 ∷ 163 ∷ 238 ∷ 94 ∷ 107 ∷ 75 ∷ 13 ∷ 50 ∷ 85 ∷ 191 ∷ 239
            ∷ 149 ∷ 96 ∷ 24 ∷ 144 ∷ 175 ∷ 216 ∷ 7 ∷ 9 ∷ 0 ∷ 0 ∷ 0 ∷ 0 ∷ 31 ∷ 244 ∷ 31 ∷ 224 ∷ 3 ∷
            [])
            ++ (replicate 10 0 ++ ((40 ∷ 0 ∷ 0 ∷ 0 ∷ 40 ∷ 118 ∷ 58 ∷ 119 ∷ 126 ∷ 9 ∷ 56 ∷ 205 ∷ 155
            ∷ 36 ∷ 169 ∷ 51 ∷ 188 ∷ 154 ∷ 19 ∷ 219 ∷ 237 ∷ 0 ∷ 0 ∷ 0 ∷ 0 ∷ 31 ∷ 244 ∷ 32 ∷ 0 ∷ 1 ∷
            [])
            ++ (replicate 10 0 ++ ((30 ∷ 0 ∷ 0 ∷ 0 ∷ 30 ∷ 27 ∷ 188 ∷ 191 ∷ 147 ∷ 165 ∷ 237 ∷ 32 ∷
            148
            ∷ 237 ∷ 57 ∷ 150 ∷ 103 ∷ 56 ∷ 254 ∷ 213 ∷ 72 ∷ [])))))));
      })
      ∷ ((record {
        kind = 13;
        bytes = (0 ∷ 1 ∷ 97 ∷ []) ++ (replicate 20 0 ++ ((1 ∷ 0 ∷ 1 ∷ 117
            ∷ 0 ∷ 1 ∷ 103 ∷ 0 ∷ 1 ∷ 100 ∷ 1 ∷ 0 ∷ 0 ∷ 0 ∷ 1 ∷ []) ++ (replicate 15 0 ++ ((2 ∷ 0 ∷ 1
            ∷ 117 ∷ 0 ∷ 1 ∷ 103 ∷ [])))));
      })
      ∷ ((record {
        kind = 2;
        bytes = (0 ∷ 0 ∷ 0 ∷ 0 ∷ 31 ∷ 244 ∷ 31 ∷ 224 ∷ 3 ∷ [])
            ++ (replicate 10 0 ++ ((120 ∷ 0 ∷ 0 ∷ 0 ∷ 120 ∷ 226 ∷ 56 ∷ 162 ∷ 206 ∷ 191 ∷ 178 ∷ 67 ∷
            72
            ∷ 163 ∷ 147 ∷ 5 ∷ 116 ∷ 101 ∷ 216 ∷ 112 ∷ 155 ∷ 0 ∷ 0 ∷ 0 ∷ 0 ∷ 31 ∷ 244 ∷ 32 ∷ 0 ∷ 1
            ∷ []) ++ (replicate 10 0 ++ ((60 ∷ 0 ∷ 0 ∷ 0 ∷ 60 ∷ 142 ∷ 0 ∷ 124 ∷ 79 ∷ 23 ∷ 216 ∷ 28
            ∷ 110 ∷ 158 ∷ 176 ∷ 31 ∷ 44 ∷ 35 ∷ 188 ∷ 179 ∷ 136 ∷ [])))));
      })
      ∷ ((record {
        kind = 1;
        bytes = (0 ∷ 2 ∷ 118 ∷ 97 ∷ 99 ∷ []) ++ (replicate 125 0 ++ ((114
            ∷ 118 ∷ 97 ∷ 99 ∷ []) ++ (replicate 127 0 ++ ((80 ∷ 99 ∷ 251 ∷ 147 ∷ 123 ∷ 121 ∷ 66 ∷
            185
            ∷ 32 ∷ 130 ∷ 145 ∷ 76 ∷ 78 ∷ 166 ∷ 246 ∷ 60 ∷ 179 ∷ 32 ∷ 0 ∷ 218 ∷ 57 ∷ 163 ∷ 238 ∷ 94
            ∷ 107 ∷ 75 ∷ 13 ∷ 50 ∷ 85 ∷ 191 ∷ 239 ∷ 149 ∷ 96 ∷ 24 ∷ 144 ∷ 175 ∷ 216 ∷ 7 ∷ 9 ∷
            [])))));
      })
      ∷ [])))))));
}
two_items-archive = refl

two_items-skipped : skipped two_items ≡ []
two_items-skipped = refl

abbrev many_blocks : Items Facts
many_blocks = file (facts (codes "z") 33188 77) (replicate 1100 7 ++ ((0 ∷ 0 ∷ 0
    ∷ []))) (folder (facts (codes "d") 16877 77) (folder (facts (codes "e") 16832 77) none (other
    (facts (codes "l2") 511 77) (file (facts (codes "c") 384 77) (replicate 600 0) none))) (other
    (facts (codes "l1") 511 77) (file (facts (codes "b") 2541 77) ((5 ∷ 0 ∷ 0 ∷ [])) none)))

many_blocks-archive : archive_of toy_score 512 many_blocks ≡ record {
  score = (0 ∷ 0 ∷ 1 ∷ 44 ∷ 130 ∷ 132 ∷ 144 ∷ 92 ∷ 110 ∷ 59 ∷ 96 ∷ 31 ∷ 36 ∷ 201 ∷ 254 ∷ 117
      ∷ 130 ∷ 166 ∷ 47 ∷ 84 ∷ []);
  blocks =
      ((record { kind = 13; bytes = (5 ∷ []) })
      ∷ ((record {
        kind = 2;
        bytes = (0 ∷ 0 ∷ 0 ∷ 0 ∷ 1 ∷ 244 ∷ 2 ∷ 0 ∷ 5 ∷ [])
            ++ (replicate 9 0 ++ ((2 ∷ 88 ∷ 218 ∷ 57 ∷ 163 ∷ 238 ∷ 94 ∷ 107 ∷ 75 ∷ 13 ∷ 50 ∷ 85 ∷
            191
            ∷ 239 ∷ 149 ∷ 96 ∷ 24 ∷ 144 ∷ 175 ∷ 216 ∷ 7 ∷ 9 ∷ 0 ∷ 0 ∷ 0 ∷ 0 ∷ 1 ∷ 244 ∷ 1 ∷ 224 ∷ 3
            ∷ []) ++ (replicate 11 0 ++ ((218 ∷ 57 ∷ 163 ∷ 238 ∷ 94 ∷ 107 ∷ 75 ∷ 13 ∷ 50 ∷ 85 ∷ 191
            ∷ 239 ∷ 149 ∷ 96 ∷ 24 ∷ 144 ∷ 175 ∷ 216 ∷ 7 ∷ 9 ∷ 0 ∷ 0 ∷ 0 ∷ 0 ∷ 1 ∷ 244 ∷ 2 ∷ 0 ∷ 1
            ∷ []) ++ (replicate 11 0 ++ ((218 ∷ 57 ∷ 163 ∷ 238 ∷ 94 ∷ 107 ∷ 75 ∷ 13 ∷ 50 ∷ 85 ∷ 191
            ∷ 239 ∷ 149 ∷ 96 ∷ 24 ∷ 144 ∷ 175 ∷ 216 ∷ 7 ∷ 9 ∷ [])))))));
      })
      ∷ ((record {
        kind = 13;
        bytes = (0 ∷ 1 ∷ 99 ∷ []) ++ (replicate 7 0 ++ ((1 ∷ 128 ∷ 0 ∷ 0
            ∷ 0 ∷ 77 ∷ []) ++ (replicate 7 0 ++ ((3 ∷ 0 ∷ 1 ∷ 117 ∷ 0 ∷ 1 ∷ 103 ∷ 0 ∷ 1 ∷ 101 ∷ 1 ∷
            0
            ∷ 0 ∷ 0 ∷ 1 ∷ 0 ∷ 0 ∷ 1 ∷ 192 ∷ 0 ∷ 0 ∷ 0 ∷ 77 ∷ []) ++ (replicate 7 0 ++ ((4 ∷ 0 ∷ 1 ∷
            117
            ∷ 0 ∷ 1 ∷ 103 ∷ [])))))));
      })
      ∷ ((record { kind = 13; bytes = replicate 512 7 })
      ∷ ((record { kind = 13; bytes = replicate 512 7 })
      ∷ ((record { kind = 13; bytes = replicate 76 7 })
      ∷ ((record {
        kind = 3;
        bytes = (0 ∷ 0 ∷ 2 ∷ 0 ∷ 61 ∷ 106 ∷ 166 ∷ 156 ∷ 167 ∷ 230 ∷ 138
            ∷ 231 ∷ 66 ∷ 65 ∷ 246 ∷ 195 ∷ 231 ∷ 249 ∷ 14 ∷ 0 ∷ 0 ∷ 0 ∷ 2 ∷ 0 ∷ 61 ∷ 106 ∷ 166 ∷ 156
            ∷ 167 ∷ 230 ∷ 138 ∷ 231 ∷ 66 ∷ 65 ∷ 246 ∷ 195 ∷ 231 ∷ 249 ∷ 14 ∷ 0 ∷ 0 ∷ 0 ∷ 0 ∷ 76 ∷ 41
            ∷ 76 ∷ 253 ∷ 12 ∷ 124 ∷ 246 ∷ 201 ∷ 75 ∷ 248 ∷ 35 ∷ 128 ∷ 120 ∷ 219 ∷ 145 ∷ 240 ∷ 20 ∷
            []);
      })
      ∷ ((record {
        kind = 2;
        bytes = (0 ∷ 0 ∷ 0 ∷ 0 ∷ 1 ∷ 244 ∷ 2 ∷ 0 ∷ 1 ∷ [])
            ++ (replicate 10 0 ++ ((3 ∷ 0 ∷ 0 ∷ 0 ∷ 1 ∷ []) ++ (replicate 15 0 ++ ((5 ∷ 0 ∷ 0 ∷ 0 ∷
            0
            ∷ 1 ∷ 244 ∷ 1 ∷ 224 ∷ 3 ∷ []) ++ (replicate 10 0 ++ ((120 ∷ 0 ∷ 0 ∷ 0 ∷ 120 ∷ 14 ∷ 70 ∷
            52
            ∷ 169 ∷ 72 ∷ 133 ∷ 124 ∷ 190 ∷ 9 ∷ 211 ∷ 245 ∷ 100 ∷ 96 ∷ 182 ∷ 71 ∷ 177 ∷ 0 ∷ 0 ∷ 0 ∷ 0
            ∷ 1 ∷ 244 ∷ 2 ∷ 0 ∷ 1 ∷ []) ++ (replicate 10 0 ++ ((60 ∷ 0 ∷ 0 ∷ 0 ∷ 60 ∷ 50 ∷ 102 ∷ 114
            ∷ 163 ∷ 130 ∷ 208 ∷ 72 ∷ 242 ∷ 41 ∷ 183 ∷ 169 ∷ 17 ∷ 188 ∷ 183 ∷ 239 ∷ 107 ∷ 0 ∷ 0 ∷ 0 ∷
            0
            ∷ 1 ∷ 244 ∷ 2 ∷ 0 ∷ 5 ∷ []) ++ (replicate 9 0 ++ ((4 ∷ 79 ∷ 0 ∷ 0 ∷ 0 ∷ 60 ∷ 66 ∷ 149 ∷
            144
            ∷ 156 ∷ 218 ∷ 113 ∷ 150 ∷ 52 ∷ 116 ∷ 18 ∷ 88 ∷ 65 ∷ 101 ∷ 5 ∷ 161 ∷ 249 ∷ [])))))))))));
      })
      ∷ ((record {
        kind = 13;
        bytes = (0 ∷ 1 ∷ 98 ∷ []) ++ (replicate 7 0 ++ ((1 ∷ 237 ∷ 0 ∷ 0
            ∷ 0 ∷ 77 ∷ []) ++ (replicate 7 0 ++ ((1 ∷ 0 ∷ 1 ∷ 117 ∷ 0 ∷ 1 ∷ 103 ∷ 0 ∷ 1 ∷ 100 ∷ 1 ∷
            0
            ∷ 0 ∷ 0 ∷ 1 ∷ 0 ∷ 0 ∷ 1 ∷ 237 ∷ 0 ∷ 0 ∷ 0 ∷ 77 ∷ []) ++ (replicate 7 0 ++ ((2 ∷ 0 ∷ 1 ∷
            117
            ∷ 0 ∷ 1 ∷ 103 ∷ 0 ∷ 1 ∷ 122 ∷ 0 ∷ 0 ∷ 0 ∷ 0 ∷ 3 ∷ 0 ∷ 0 ∷ 1 ∷ 164 ∷ 0 ∷ 0 ∷ 0 ∷ 77 ∷ [])
            ++ (replicate 7 0 ++ ((5 ∷ 0 ∷ 1 ∷ 117 ∷ 0 ∷ 1 ∷ 103 ∷ [])))))))));
      })
      ∷ ((record {
        kind = 2;
        bytes = (0 ∷ 0 ∷ 0 ∷ 0 ∷ 1 ∷ 244 ∷ 1 ∷ 224 ∷ 3 ∷ [])
            ++ (replicate 10 0 ++ ((160 ∷ 0 ∷ 0 ∷ 0 ∷ 160 ∷ 108 ∷ 53 ∷ 152 ∷ 198 ∷ 38 ∷ 224 ∷ 75 ∷
            178
            ∷ 38 ∷ 177 ∷ 37 ∷ 24 ∷ 251 ∷ 20 ∷ 148 ∷ 27 ∷ 0 ∷ 0 ∷ 0 ∷ 0 ∷ 1 ∷ 244 ∷ 2 ∷ 0 ∷ 1 ∷ [])
            ++ (replicate 10 0 ++ ((90 ∷ 0 ∷ 0 ∷ 0 ∷ 90 ∷ 10 ∷ 25 ∷ 99 ∷ 69 ∷ 206 ∷ 40 ∷ 74 ∷ 112 ∷
            3
            ∷ 105 ∷ 129 ∷ 248 ∷ 90 ∷ 2 ∷ 104 ∷ 82 ∷ [])))));
      })
      ∷ ((record {
        kind = 1;
        bytes = (0 ∷ 2 ∷ 118 ∷ 97 ∷ 99 ∷ []) ++ (replicate 125 0 ++ ((114
            ∷ 118 ∷ 97 ∷ 99 ∷ []) ++ (replicate 127 0 ++ ((80 ∷ 172 ∷ 76 ∷ 81 ∷ 37 ∷ 129 ∷ 134 ∷ 154
            ∷ 234 ∷ 113 ∷ 191 ∷ 26 ∷ 215 ∷ 4 ∷ 28 ∷ 163 ∷ 15 ∷ 2 ∷ 0 ∷ 218 ∷ 57 ∷ 163 ∷ 238 ∷ 94 ∷
            107
            ∷ 75 ∷ 13 ∷ 50 ∷ 85 ∷ 191 ∷ 239 ∷ 149 ∷ 96 ∷ 24 ∷ 144 ∷ 175 ∷ 216 ∷ 7 ∷ 9 ∷ [])))));
      })
      ∷ [])))))))))));
}
many_blocks-archive = refl

many_blocks-skipped : skipped many_blocks ≡ (codes "d/l2") ∷ (codes "l1") ∷ []
many_blocks-skipped = refl
