-- A record in front of bytes, part by part.
use Rattle.std.proofs.Common.{◌≡◌, ℕ, zero, suc, ◌+◌, ◌<◌, ◌≤◌, ◌^◌, ◌==◌, List, [], ◌∷◌, ◌++◌, length, drop, refl, sym, ◌∙◌, ap, subst, arith, append-nil}
use Rattle.std.specs.Prelude.{slice_index, if◌then◌else◌}
use Rattle.std.proofs.lemmas.List.{get_or-drop, drop_all}
use Rattle.byteorder.specs.Endian.{big_bytes, big_number}
use Rattle.byteorder.specs.Numbers.{big_from-lt}
use Rattle.vt_base.specs.Bytes.{AreBytes}
use Rattle.vt_base.specs.Fields.{drop-byte, drop-number}
use Rattle.vac_meta.specs.declared.decoding.Found.{Found}
use Rattle.vac_meta.specs.declared.record.Record.{Record}
use Rattle.vac_meta.specs.declared.record.RecordKind.TheVariants.{File, Folder}
use Rattle.vac_meta.specs.Found.{found_record}
use Rattle.vac_meta.specs.Records.{HasRanges, kind_byte, number_fields, record_bytes, string}
use Rattle.vac_meta.proofs.Spelled.{opened}

-- ---- bytes of parts

pub bytes_behind : (a x : List ℕ) → AreBytes (a ++ x) → AreBytes x
bytes_behind [] x are = are
bytes_behind (b ∷ a) x are = bytes_behind a x (λ i. are (suc i))

pub bytes_before : (a x : List ℕ) → AreBytes (a ++ x) → AreBytes a
bytes_before [] x are i = omega arith
bytes_before (b ∷ a) x are zero = are 0
bytes_before (b ∷ a) x are (suc i) = bytes_before a x (λ j. are (suc j)) i

-- ---- the kind and the numbers

kind_is : (k : ℕ) → k ≤ 1 → k ≡ kind_byte (if k == 0 then File else Folder)
kind_is zero low = refl
kind_is (suc zero) low = refl
kind_is (suc (suc k)) low = absurd (omega arith)

module _ (f : Found) (len : length f.numbers.now ≡ 21) (low : slice_index f.numbers.now 0 ≤ 1)
    (are : AreBytes f.numbers.now) where
  abbrev m : List ℕ
  m = f.numbers.now

  abbrev r : Record
  r = found_record f

  pub numbers_are : m ≡ number_fields r
  numbers_are =
      let none : drop 21 m ≡ [] = drop_all 21 m (omega (arith, len)) in
      let qid : drop 13 m ≡ big_bytes 8 r.qid =
      drop-number 13 8 m (omega (arith, len)) are ∙ ap (λ (l : List ℕ). big_bytes 8 r.qid ++ l) none
      ∙ append-nil (big_bytes 8 r.qid) in
      let mtime : drop 9 m ≡ big_bytes 4 r.mtime ++ big_bytes 8 r.qid =
      drop-number 9 4 m (omega (arith, len)) are
      ∙ ap (λ (l : List ℕ). big_bytes 4 r.mtime ++ l) qid in
      let mode : drop 5 m ≡ big_bytes 4 r.mode ++ (big_bytes 4 r.mtime ++ big_bytes 8 r.qid) =
      drop-number 5 4 m (omega (arith, len)) are
      ∙ ap (λ (l : List ℕ). big_bytes 4 r.mode ++ l) mtime in
      let entry : drop 1 m
      ≡ big_bytes 4 r.entry ++ (big_bytes 4 r.mode ++ (big_bytes 4 r.mtime ++ big_bytes 8 r.qid)) =
      drop-number 1 4 m (omega (arith, len)) are
      ∙ ap (λ (l : List ℕ). big_bytes 4 r.entry ++ l) mode in
      drop-byte 0 m (omega (arith, len))
      ∙ ap (λ (l : List ℕ). slice_index m 0 ∷ l) entry
      ∙ ap (λ (k : ℕ). k ∷ (big_bytes 4 r.entry ++ (big_bytes 4 r.mode
      ++ (big_bytes 4 r.mtime ++ big_bytes 8 r.qid)))) (kind_is (slice_index m 0) low)

  number_fits : (n at : ℕ) → big_number n (drop at m) < 256 ^ n
  number_fits n at =
      big_from-lt 0 n (drop at m)
      (λ i. subst (λ (b : ℕ). b < 256) (sym (get_or-drop at m i 0)) (are (at + i)))

  pub ranges : HasRanges r
  ranges = record {
    entry = number_fits 4 1;
    mode = number_fits 4 5;
    mtime = number_fits 4 9;
    qid = number_fits 8 13;
  }

-- parts that stand one behind another are a record
pub joined : (r : Record) (bytes b1 m b2 b3 rest : List ℕ) → bytes ≡ string r.name ++ b1
    → b1 ≡ m ++ b2 → m ≡ number_fields r → b2 ≡ string r.uid ++ b3 → b3 ≡ string r.gid ++ rest
    → bytes ≡ record_bytes r ++ rest
joined r bytes b1 m b2 b3 rest a b c d e =
    a ∙ ap (λ (l : List ℕ). string r.name ++ l)
    (b ∙ ap (λ (l : List ℕ). l ++ b2) c
    ∙ ap (λ (l : List ℕ). number_fields r ++ l) (d ∙ ap (λ (l : List ℕ). string r.uid ++ l) e))
    ∙ sym (opened r rest)
