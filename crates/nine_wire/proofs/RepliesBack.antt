-- What the parameters of replies say, read field by field: each reply is read back.
use Rattle.std.proofs.Common.{◌≡◌, ℕ, zero, suc, ◌+◌, ◌*◌, ◌<◌, ◌^◌, ◌==◌, Bool, true, false, List, [], ◌∷◌, ◌++◌, length, drop, refl, ◌∙◌, ap, arith, length-append}
use Rattle.std.specs.Prelude.{slice_index, if◌then◌else◌}
use Rattle.std.specs.List.{AllByRecursion, flat_map}
use Rattle.byteorder.specs.Endian.{little_number, little_bytes}
use Rattle.byteorder.specs.Numbers.{little_number-reads_back}
use Rattle.nine_wire.specs.Messages.{Qid, Stat, RMessage, r_version, r_attach, r_flush, r_walk, r_open, r_read, r_clunk, r_stat, r_error, FitsReply, FitsStat, reply_type, reply_parameters, qid_bytes, stat_fields, string}
use Rattle.nine_wire.proofs.ReadBack.{text_in, behind_text, text_back, behind_back, last_back, four, back4}

-- ---- qids

flag_back : (b : Bool) → ((if b then 0x80 else 0) == 0x80) ≡ b
flag_back true = refl
flag_back false = refl

abbrev pub qid_in : List ℕ → Qid
qid_in b = record { folder = slice_index b 0 == 0x80; path = little_number 8 (drop 5 b) }

qid_back : (q : Qid) (rest : List ℕ) → q.path < 2 ^ 64 → qid_in (qid_bytes q ++ rest) ≡ q
qid_back q rest fits = λ i. record {
  folder = flag_back q.folder i;
  path = little_number-reads_back 8 q.path rest fits i;
}

abbrev pub qids_in : ℕ → List ℕ → List Qid
qids_in zero b = []
qids_in (suc n) b = qid_in b ∷ qids_in n (drop 13 b)

qids_back : (qids : List Qid) → AllByRecursion (λ q. q.path < 2 ^ 64) qids
    → qids_in (length qids) (flat_map qid_bytes qids) ≡ qids
qids_back [] all = refl
qids_back (q ∷ qids) all =
    let first = qid_back q (flat_map qid_bytes qids) all.0 in
    let others = qids_back qids all.1 in
    λ i. first i ∷ others i

-- ---- stats

pub stat_len : (s : Stat)
    → length (stat_fields s) ≡ 47 + length s.name + 2 * length s.uid + length s.gid
stat_len s =
    omega (
      arith,
      length-append s.name (string s.uid ++ (string s.gid ++ string s.uid)),
      length-append s.uid (string s.gid ++ string s.uid),
      length-append s.gid (string s.uid),
    )

abbrev pub stat_in : List ℕ → Stat
stat_in b = record {
  qid = qid_in (drop 6 b);
  mode = four (drop 19 b);
  mtime = four (drop 23 b);
  len = little_number 8 (drop 31 b);
  name = text_in (drop 39 b);
  uid = text_in (behind_text (drop 39 b));
  gid = text_in (behind_text (behind_text (drop 39 b)));
}

module _ (s : Stat) (fits : FitsStat s) where
  whole : length (stat_fields s) + 2 < 2 ^ 16
  whole = omega (arith, fits.whole)

  abbrev behind_uid : List ℕ
  behind_uid = string s.gid ++ string s.uid

  abbrev behind_name : List ℕ
  behind_name = string s.uid ++ behind_uid

  abbrev behind_numbers : List ℕ
  behind_numbers = string s.name ++ behind_name

  name_fits : length s.name < 2 ^ 16
  name_fits = omega (arith, whole, stat_len s)

  uid_fits : length s.uid < 2 ^ 16
  uid_fits = omega (arith, whole, stat_len s)

  gid_fits : length s.gid < 2 ^ 16
  gid_fits = omega (arith, whole, stat_len s)

  abbrev times : List ℕ
  times = little_bytes 4 s.mtime ++ (little_bytes 8 s.len ++ behind_numbers)

  uid_back : text_in (behind_text behind_numbers) ≡ s.uid
  uid_back =
      ap text_in (behind_back s.name name_fits behind_name)
      ∙ text_back s.uid uid_fits behind_uid

  gid_back : text_in (behind_text (behind_text behind_numbers)) ≡ s.gid
  gid_back =
      ap (λ (b : List ℕ). text_in (behind_text b)) (behind_back s.name name_fits behind_name)
      ∙ ap text_in (behind_back s.uid uid_fits behind_uid)
      ∙ text_back s.gid gid_fits (string s.uid)

  stat_back : stat_in (stat_fields s) ≡ s
  stat_back =
      let qid = qid_back s.qid
      (little_bytes 4 s.mode ++ (little_bytes 4 s.mtime ++ times)) fits.path in
      let mode = back4 s.mode (little_bytes 4 s.mtime ++ times) fits.mode in
      let mtime = back4 s.mtime times fits.mtime in
      let len = little_number-reads_back 8 s.len behind_numbers fits.len in
      let name = text_back s.name name_fits behind_name in
      λ i. record {
        qid = qid i;
        mode = mode i;
        mtime = mtime i;
        len = len i;
        name = name i;
        uid = uid_back i;
        gid = gid_back i;
      }

-- ---- replies

abbrev pub reply_in : (type : ℕ) → List ℕ → RMessage
reply_in type b =
    if type == 101 then r_version (four b) (text_in (drop 4 b))
    else if type == 105 then r_attach (qid_in b)
    else if type == 107 then r_error (text_in b)
    else if type == 109 then r_flush
    else if type == 111 then r_walk (qids_in (little_number 2 b) (drop 2 b))
    else if type == 113 then r_open (qid_in b) (four (drop 13 b))
    else if type == 117 then r_read (drop 4 b)
    else if type == 121 then r_clunk
    else r_stat (stat_in (drop 4 b))

pub reply_back : (r : RMessage) → FitsReply r → reply_in (reply_type r) (reply_parameters r) ≡ r
reply_back (r_version msize version) fits =
    λ i. r_version (back4 msize (string version) fits.0 i) (last_back version fits.1 i)
reply_back (r_attach qid) fits = ap r_attach (qid_back qid [] fits)
reply_back (r_error text) fits = ap r_error (last_back text fits)
reply_back r_flush fits = refl
reply_back (r_walk qids) fits =
    ap (λ (n : ℕ). r_walk (qids_in n (flat_map qid_bytes qids)))
    (little_number-reads_back 2 (length qids) (flat_map qid_bytes qids) fits.0)
    ∙ ap r_walk (qids_back qids fits.1)
reply_back (r_open qid iounit) fits =
    λ i. r_open (qid_back qid (little_bytes 4 iounit) fits.0 i) (back4 iounit [] fits.1 i)
reply_back (r_read bytes) fits = refl
reply_back r_clunk fits = refl
reply_back (r_stat stat) fits = ap r_stat (stat_back stat fits)
