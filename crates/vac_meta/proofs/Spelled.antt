-- Records and their bytes.
use Rattle.std.proofs.Common.{◌≡◌, ℕ, ◌+◌, ◌<◌, ◌≤◌, ◌^◌, true, Option, Some, None, List, [], ◌∷◌, ◌++◌, length, drop, refl, sym, ◌∙◌, ap, arith, append_assoc, append-nil}
use Rattle.std.specs.Prelude.{slice_index}
use Rattle.std.specs.List.{AllByRecursion}
use Rattle.byteorder.specs.Endian.{big_bytes}
use Rattle.vac_meta.specs.declared.TheConstants.{MAX_NAME}
use Rattle.vac_meta.specs.declared.record.Record.{Record}
use Rattle.vac_meta.specs.declared.record.RecordKind.{RecordKind}
use Rattle.vac_meta.specs.declared.record.RecordKind.TheVariants.{File, Folder}
use Rattle.vac_meta.specs.Flaws.{first_flaw}
use Rattle.vac_meta.specs.Records.{IsRecord, Ascend, all_spelled, is_next, kind_byte, last_name, number_fields, record_bytes, string}
use Rattle.vac_meta.proofs.Flawless.{behind_name, behind_numbers, behind_uid, owner_is_good}
use Rattle.vac_meta.proofs.Strings.{same_number, same_string}

-- a record and what stands behind it, part by part
pub opened : (r : Record) (x : List ℕ)
    → record_bytes r ++ x ≡ string r.name ++ (number_fields r ++ (string r.uid ++ (string r.gid ++ x)))
opened r x =
    ap (λ (l : List ℕ). big_bytes 2 (length r.name) ++ l)
    (append_assoc r.name (number_fields r ++ (string r.uid ++ string r.gid)) x)
    ∙ ap (λ (l : List ℕ). string r.name ++ (number_fields r ++ (big_bytes 2 (length r.uid) ++ l)))
    (append_assoc r.uid (string r.gid) x)

same_kind : (a b : RecordKind) → kind_byte a ≡ kind_byte b → a ≡ b
same_kind File File e = refl
same_kind File Folder e = absurd (omega (arith, e))
same_kind Folder File e = absurd (omega (arith, e))
same_kind Folder Folder e = refl

short : (text : List ℕ) → length text ≤ MAX_NAME → length text < 2 ^ 16
short text most = let few : length text ≤ 255 = most in omega arith

-- one record stands in front at most
pub same_record : (f g : Record) (x y : List ℕ) → IsRecord f → IsRecord g
    → record_bytes f ++ x ≡ record_bytes g ++ y → (f ≡ g) × (x ≡ y)
same_record f g x y v w h =
    let both = sym (opened f x) ∙ h ∙ opened g y in
    let n = same_string f.name g.name _ _ (short f.name v.fits.name.most)
    (short g.name w.fits.name.most) both in
    let k : kind_byte f.kind ≡ kind_byte g.kind = ap (λ (l : List ℕ). slice_index l 0) n.1 in
    let rest : big_bytes 4 f.entry ++ (big_bytes 4 f.mode ++ (big_bytes 4 f.mtime
    ++ (big_bytes 8 f.qid ++ (string f.uid ++ (string f.gid ++ x)))))
    ≡ big_bytes 4 g.entry ++ (big_bytes 4 g.mode ++ (big_bytes 4 g.mtime
    ++ (big_bytes 8 g.qid ++ (string g.uid ++ (string g.gid ++ y))))) = ap (drop 1) n.1 in
    let e = same_number 4 f.entry g.entry _ _ v.ranges.entry w.ranges.entry rest in
    let m = same_number 4 f.mode g.mode _ _ v.ranges.mode w.ranges.mode e.1 in
    let t = same_number 4 f.mtime g.mtime _ _ v.ranges.mtime w.ranges.mtime m.1 in
    let q = same_number 8 f.qid g.qid _ _ v.ranges.qid w.ranges.qid t.1 in
    let u = same_string f.uid g.uid _ _ (short f.uid v.fits.uid) (short g.uid w.fits.uid) q.1 in
    let d = same_string f.gid g.gid x y (short f.gid v.fits.gid) (short g.gid w.fits.gid) u.1 in
    let kind = same_kind f.kind g.kind k in (
      λ i. record {
        name = n.0 i;
        kind = kind i;
        entry = e.0 i;
        mode = m.0 i;
        mtime = t.0 i;
        qid = q.0 i;
        uid = u.0 i;
        gid = d.0 i;
      },
      d.1,
    )

pub same_records : (a b : List Record) → AllByRecursion IsRecord a → AllByRecursion IsRecord b
    → all_spelled a ≡ all_spelled b → a ≡ b
same_records [] [] v w h = refl
same_records [] (g ∷ b) v w h = absurd (omega (arith, ap length h))
same_records (f ∷ a) [] v w h = absurd (omega (arith, ap length h))
same_records (f ∷ a) (g ∷ b) v w h =
    let one = same_record f g (all_spelled a) (all_spelled b) v.0 w.0 h in
    let others = same_records a b v.1 w.1 one.1 in
    λ i. one.0 i ∷ others i

-- ---- no record has a flaw

numbers_len : (r : Record) → length (number_fields r) ≡ 21
numbers_len r = refl

low : (kind : RecordKind) → kind_byte kind ≤ 1
low File = omega arith
low Folder = omega arith

pub clean : (last : Option (List ℕ)) (at : ℕ) (r : Record) (x : List ℕ) → IsRecord r
    → is_next last r.name ≡ true → first_flaw last at (record_bytes r ++ x) ≡ None
clean last at r x is next =
    let behind_kind = string r.uid ++ (string r.gid ++ x) in
    behind_name (record_bytes r ++ x) r.name (number_fields r ++ behind_kind) (opened r x) last at
    is.fits.name next
    ∙ behind_numbers (at + 2 + length r.name) (number_fields r ++ behind_kind) (number_fields r) behind_kind
    refl (numbers_len r) (low r.kind)
    ∙ behind_uid behind_kind r.uid (string r.gid ++ x) refl (at + 2 + length r.name + 21)
    is.fits.uid
    ∙ owner_is_good (string r.gid ++ x) r.gid x refl
    (at + 2 + length r.name + 21 + 2 + length r.uid) is.fits.gid

-- ---- one record more

pub each-append : (xs : List Record) (r : Record) → AllByRecursion IsRecord xs → IsRecord r
    → AllByRecursion IsRecord (xs ++ r ∷ [])
each-append [] r all is = (is, tt)
each-append (x ∷ xs) r all is = (all.0, each-append xs r all.1 is)

pub ascend-append : (last : Option (List ℕ)) (xs : List Record) (r : Record) → Ascend last xs
    → is_next (last_name last xs) r.name ≡ true → Ascend last (xs ++ r ∷ [])
ascend-append last [] r up next = (next, tt)
ascend-append last (x ∷ xs) r up next = (up.0, ascend-append (Some x.name) xs r up.1 next)

pub last_name-append : (last : Option (List ℕ)) (xs : List Record) (r : Record)
    → last_name last (xs ++ r ∷ []) ≡ Some r.name
last_name-append last [] r = refl
last_name-append last (x ∷ xs) r = last_name-append (Some x.name) xs r

pub spelled-append : (xs : List Record) (r : Record)
    → all_spelled (xs ++ r ∷ []) ≡ all_spelled xs ++ record_bytes r
spelled-append [] r = append-nil (record_bytes r)
spelled-append (x ∷ xs) r =
    ap (λ (l : List ℕ). record_bytes x ++ l) (spelled-append xs r)
    ∙ sym (append_assoc (record_bytes x) (all_spelled xs) (record_bytes r))

-- what is left behind one record more
pub further : (bytes : List ℕ) (xs : List Record) (r : Record) (rest behind : List ℕ)
    → bytes ≡ all_spelled xs ++ rest → rest ≡ record_bytes r ++ behind
    → bytes ≡ all_spelled (xs ++ r ∷ []) ++ behind
further bytes xs r rest behind a b =
    a ∙ ap (λ (l : List ℕ). all_spelled xs ++ l) b
    ∙ sym (append_assoc (all_spelled xs) (record_bytes r) behind)
    ∙ ap (λ (l : List ℕ). l ++ behind) (sym (spelled-append xs r))
