-- Frames: what their heads say, how many entries they have, and their faults.
use Rattle.std.proofs.Common.{◌≡◌, ℕ, zero, suc, ◌+◌, ◌-◌, ◌*◌, ◌<◌, ◌≤◌, List, [], ◌∷◌, ◌++◌, ⊎_elim, length, take, drop, get_or, set, refl, sym, ◌∙◌, ap, subst, arith, append_assoc, length-append, length-take, take-append-drop}
use Rattle.std.specs.Prelude.{slice_index, codes}
use Rattle.std.specs.List.{AllByRecursion}
use Rattle.std.proofs.lemmas.Bool.{cases_order}
use Rattle.std.proofs.lemmas.Grind.{flat_map-append, take-set_at}
use Rattle.std.proofs.lemmas.List.{drop-drop, get_or-take, get_or_append_left}
use Rattle.std.proofs.Math.Seq.{get_or-append_seam}
use Rattle.byteorder.specs.Endian.{big_bytes}
use Rattle.byteorder.specs.Numbers.{big_number-reads_back}
use Rattle.vt_base.specs.Bytes.{AreBytes}
use Rattle.vt_base.specs.Kind.{IsKind}
use Rattle.vt_base.specs.declared.place.Entry.{Entry}
use Rattle.vt_base.specs.Fields.{drop-number}
use Rattle.vt_bucket.specs.declared.decoding.BucketBad.{BucketBad}
use Rattle.vt_bucket.specs.declared.decoding.BucketBad.TheVariants.{Magic, Number, Count, Order}
use Rattle.vt_bucket.specs.Frame.{cell, cells, IsIndexEntry, BeginsWithEntries, IsBucketFrame, bucket_header}
use Rattle.vt_bucket.specs.Faults.{FaultIs, HasFirstEntries, HasMagic, magic_in, number_in, count_in}
use Rattle.vt_bucket.specs.Order.{IsBelow, IsAscending}
use Rattle.vt_base.specs.Key.{key_cmp}
use Rattle.vt_bucket.proofs.Cells.{one_entry, one_list, each_push, cells_push, kind-cell}
use Rattle.vt_bucket.proofs.Keys.{ascending_push}

-- what the head of a frame says
module _ (number : ℕ) (xs : List Entry) (bytes : List ℕ) (is : IsBucketFrame number xs bytes) where
  at_head : bytes ≡ bucket_header number (length xs) ++ drop 10 bytes
  at_head = sym (take-append-drop 10 bytes) ∙ ap (λ (l : List ℕ). l ++ drop 10 bytes) is.head

  frame_magic : HasMagic bytes
  frame_magic = ap magic_in at_head

  frame_number : number_in bytes ≡ number
  frame_number = ap number_in at_head ∙ big_number-reads_back 4 number (big_bytes 2 (length xs) ++ drop 10 bytes) is.number_fits

  frame_count : count_in bytes ≡ length xs
  frame_count = ap count_in at_head ∙ big_number-reads_back 2 (length xs) (drop 10 bytes) (omega (arith, is.body.allowed.most))

-- and what says so is a head
pub head_read : (number count : ℕ) (bytes : List ℕ) → 10 ≤ length bytes → AreBytes bytes → HasMagic bytes → number_in bytes ≡ number → count_in bytes ≡ count
    → take 10 bytes ≡ bucket_header number count
head_read number count bytes long are magic number_is count_is =
    let e4 : drop 4 bytes ≡ big_bytes 4 number ++ drop 8 bytes =
    drop-number 4 4 bytes (omega arith) are ∙ ap (λ (n : ℕ). big_bytes 4 n ++ drop 8 bytes) number_is in
    let e8 : drop 8 bytes ≡ big_bytes 2 count ++ drop 10 bytes =
    drop-number 8 2 bytes (omega arith) are ∙ ap (λ (n : ℕ). big_bytes 2 n ++ drop 10 bytes) count_is in
    let whole : bytes ≡ bucket_header number count ++ drop 10 bytes =
    sym (take-append-drop 4 bytes) ∙ ap (λ (l : List ℕ). l ++ drop 4 bytes) magic
    ∙ ap (λ (l : List ℕ). codes "VBKT" ++ l) (e4 ∙ ap (λ (l : List ℕ). big_bytes 4 number ++ l) e8) in
    ap (λ (l : List ℕ). take 10 l) whole

-- the first entries of more
each_front : (n : ℕ) (xs : List Entry) → AllByRecursion IsIndexEntry xs → AllByRecursion IsIndexEntry (take n xs)
each_front zero xs each = tt
each_front (suc n) [] each = tt
each_front (suc n) (x ∷ xs) each = (each.0, each_front n xs each.1)

below_by : (a b x y : Entry) → a ≡ x → b ≡ y → IsBelow x y → IsBelow a b
below_by a b x y p q h = (λ i. key_cmp (p i).key (q i).key) ∙ h

ascending_front : (n : ℕ) (xs : List Entry) → IsAscending xs → IsAscending (take n xs)
ascending_front n xs up i j d low high =
    let j_n : j < n = omega (arith, length-take n xs, high) in
    let j_in : j < length xs = omega (arith, length-take n xs, high) in
    below_by (get_or (take n xs) i d) (get_or (take n xs) j d) (get_or xs i d) (get_or xs j d)
    (get_or-take n xs i d (omega arith)) (get_or-take n xs j d j_n) (up i j d low j_in)

pub has_front : (n : ℕ) (xs : List Entry) (bytes : List ℕ) → BeginsWithEntries xs (drop 10 bytes) → n ≤ length xs → HasFirstEntries n bytes
has_front n xs bytes begins within =
    let rest : List ℕ = begins.spelling.0 in (
      take n xs,
      omega (arith, length-take n xs),
      record {
        allowed = record {
          each = each_front n xs begins.allowed.each;
          ascending = ascending_front n xs begins.allowed.ascending;
          most = omega (arith, length-take n xs, begins.allowed.most);
        };
        spelling = (
          cells (drop n xs) ++ rest,
          begins.spelling.1 ∙ ap (λ (l : List Entry). cells l ++ rest) (sym (take-append-drop n xs))
              ∙ ap (λ (l : List ℕ). l ++ rest) (flat_map-append cell (take n xs) (drop n xs)) ∙ append_assoc (cells (take n xs)) (cells (drop n xs)) rest,
        );
      },
    )

pub one_frame : (m n : ℕ) (xs ys : List Entry) (bytes : List ℕ) → IsBucketFrame m xs bytes → IsBucketFrame n ys bytes → (m ≡ n) × (xs ≡ ys)
one_frame m n xs ys bytes one other = (
  sym (frame_number m xs bytes one) ∙ frame_number n ys bytes other,
  (one_list xs ys one.body.spelling.0 other.body.spelling.0 (sym (frame_count m xs bytes one) ∙ frame_count n ys bytes other)
      one.body.allowed.each other.body.allowed.each (sym one.body.spelling.1 ∙ other.body.spelling.1)).0,
)

pub accepted : (bad : BucketBad) (number : ℕ) (xs : List Entry) (bytes : List ℕ) → IsBucketFrame number xs bytes → FaultIs bad number bytes → ⊥
accepted (Magic found) number xs bytes frame fault = fault.1 (frame_magic number xs bytes frame)
accepted (Number found) number xs bytes frame fault = fault.2 (fault.1 ∙ frame_number number xs bytes frame)
accepted (Count found) number xs bytes frame fault = omega (arith, fault.2, fault.3, frame_count number xs bytes frame, frame.body.allowed.most)
accepted (Order entry count) number xs bytes frame fault =
    fault.6 (has_front (entry + 1) xs bytes frame.body (omega (arith, fault.2, fault.4, frame_count number xs bytes frame)))

-- the entries in order end in one place
one_end : (m n : ℕ) (bytes : List ℕ) → HasFirstEntries m bytes → (HasFirstEntries (m + 1) bytes → ⊥) → HasFirstEntries n bytes → (HasFirstEntries (n + 1) bytes → ⊥) → m ≡ n
one_end m n bytes has ends also too = ⊎_elim
    (λ (same : m ≡ n). same)
    (λ rest. ⊎_elim
    (λ (low : m < n). absurd (ends (has_front (m + 1) also.0 bytes also.2 (omega (arith, also.1)))))
    (λ (high : n < m). absurd (too (has_front (n + 1) has.0 bytes has.2 (omega (arith, has.1)))))
    rest)
    (cases_order m n)

pub one_fault : (a b : BucketBad) (number : ℕ) (bytes : List ℕ) → FaultIs a number bytes → FaultIs b number bytes → a ≡ b
one_fault (Magic a) (Magic b) number bytes one other = ap Magic (one.0 ∙ sym other.0)
one_fault (Magic a) (Number b) number bytes one other = absurd (one.1 other.0)
one_fault (Magic a) (Count b) number bytes one other = absurd (one.1 other.0)
one_fault (Magic a) (Order entry count) number bytes one other = absurd (one.1 other.0)
one_fault (Number a) (Magic b) number bytes one other = absurd (other.1 one.0)
one_fault (Number a) (Number b) number bytes one other = ap Number (one.1 ∙ sym other.1)
one_fault (Number a) (Count b) number bytes one other = absurd (one.2 (one.1 ∙ other.1))
one_fault (Number a) (Order entry count) number bytes one other = absurd (one.2 (one.1 ∙ other.1))
one_fault (Count a) (Magic b) number bytes one other = absurd (other.1 one.0)
one_fault (Count a) (Number b) number bytes one other = absurd (other.2 (other.1 ∙ one.1))
one_fault (Count a) (Count b) number bytes one other = ap Count (one.2 ∙ sym other.2)
one_fault (Count a) (Order entry count) number bytes one other = absurd (omega (arith, one.2, one.3, other.2, other.3))
one_fault (Order entry count) (Magic b) number bytes one other = absurd (other.1 one.0)
one_fault (Order entry count) (Number b) number bytes one other = absurd (other.2 (other.1 ∙ one.1))
one_fault (Order entry count) (Count b) number bytes one other = absurd (omega (arith, one.2, one.3, other.2, other.3))
one_fault (Order entry count) (Order entry' count') number bytes one other =
    let places : entry ≡ entry' = one_end entry entry' bytes one.5 one.6 other.5 other.6 in
    let counts : count ≡ count' = one.2 ∙ sym other.2 in
    λ i. Order (places i) (counts i)

-- the last of some entries
last_split : (i : ℕ) (ys : List Entry) → length ys ≡ i + 1 → (front : List Entry) × (y : Entry) × (length front ≡ i) × (ys ≡ front ++ y ∷ [])
last_split zero [] long = absurd (omega arith)
last_split zero (y ∷ []) long = ([], y, refl, refl)
last_split zero (y ∷ z ∷ ys) long = absurd (omega arith)
last_split (suc i) [] long = absurd (omega arith)
last_split (suc i) (x ∷ ys) long =
    let split = last_split i ys (omega arith) in (x ∷ split.0, split.1, ap suc split.2, ap (λ (l : List Entry). x ∷ l) split.3)

each_parts : (xs : List Entry) (y : Entry) → AllByRecursion IsIndexEntry (xs ++ y ∷ []) → AllByRecursion IsIndexEntry xs × IsIndexEntry y
each_parts [] y each = (tt, each.0)
each_parts (x ∷ xs) y each = let parts = each_parts xs y each.1 in ((each.0, parts.0), parts.1)

-- where one more entry stands behind these, it is spelled there and is above them
next_entry : (xs : List Entry) (bytes behind : List ℕ) → AllByRecursion IsIndexEntry xs → drop 10 bytes ≡ cells xs ++ behind → HasFirstEntries (length xs + 1) bytes
    → (y : Entry) × IsIndexEntry y × ((rest : List ℕ) × (behind ≡ cell y ++ rest)) × IsAscending (xs ++ y ∷ [])
next_entry xs bytes behind each read has =
    let split = last_split (length xs) has.0 has.1 in
    let front : List Entry = split.0 in
    let y : Entry = split.1 in
    let rest : List ℕ = has.2.spelling.0 in
    let parts = each_parts front y (subst (AllByRecursion IsIndexEntry) split.3 has.2.allowed.each) in
    let spelled : drop 10 bytes ≡ cells front ++ (cell y ++ rest) =
    has.2.spelling.1 ∙ ap (λ (l : List Entry). cells l ++ rest) split.3 ∙ cells_push front y rest in
    let same = one_list xs front behind (cell y ++ rest) (sym split.2) each parts.0 (sym read ∙ spelled) in
    (y, parts.1, (rest, same.1), subst IsAscending (split.3 ∙ ap (λ (l : List Entry). l ++ y ∷ []) (sym same.0)) has.2.allowed.ascending)

-- no entry is next where its type isn't one
pub no_kind : (xs : List Entry) (bytes behind : List ℕ) (i k : ℕ) → length xs ≡ i → k ≡ 31 → AllByRecursion IsIndexEntry xs → drop 10 bytes ≡ cells xs ++ behind
    → (IsKind (slice_index (take k behind) 20) → ⊥) → HasFirstEntries (i + 1) bytes → ⊥
no_kind xs bytes behind i k long whole each read none has =
    let next = next_entry xs bytes behind each read (subst (λ (n : ℕ). HasFirstEntries (n + 1) bytes) (sym long) has) in
    let kind : slice_index (take k behind) 20 ≡ next.0.key.kind =
    get_or-take k behind 20 0 (omega arith) ∙ ap (λ (l : List ℕ). slice_index l 20) next.2.1 ∙ kind-cell next.0 next.2.0 next.1 in
    none (subst IsKind (sym kind) next.1.kind)

-- what was read is spelled there
pub read_next : (behind : List ℕ) (k : ℕ) (e : Entry) → take k behind ≡ cell e → behind ≡ cell e ++ drop k behind
read_next behind k e is = sym (take-append-drop k behind) ∙ ap (λ (l : List ℕ). l ++ drop k behind) is

last_below : (xs : List Entry) (y : Entry) → IsAscending (xs ++ y ∷ []) → 0 < length xs → IsBelow (get_or xs (length xs - 1) y) y
last_below xs y up some =
    below_by (get_or xs (length xs - 1) y) y (get_or (xs ++ y ∷ []) (length xs - 1) y) (get_or (xs ++ y ∷ []) (length xs) y)
    (sym (get_or_append_left xs (y ∷ []) y (length xs - 1) (omega arith)))
    (sym (get_or-append_seam xs y [] y))
    (up (length xs - 1) (length xs) y (omega arith) (omega (arith, length-append xs (y ∷ []))))

-- and none is where it isn't above the last
pub not_above : (xs : List Entry) (bytes behind : List ℕ) (i k : ℕ) (e : Entry) → length xs ≡ i → AllByRecursion IsIndexEntry xs → drop 10 bytes ≡ cells xs ++ behind
    → IsIndexEntry e → take k behind ≡ cell e → ((0 < length xs → IsBelow (get_or xs (length xs - 1) e) e) → ⊥) → HasFirstEntries (i + 1) bytes → ⊥
not_above xs bytes behind i k e long each read is spelled none has =
    let next = next_entry xs bytes behind each read (subst (λ (n : ℕ). HasFirstEntries (n + 1) bytes) (sym long) has) in
    let same : next.0 ≡ e = (one_entry next.0 e next.2.0 (drop k behind) next.1 is (sym next.2.1 ∙ read_next behind k e spelled)).0 in
    none (last_below xs e (subst (λ (y : Entry). IsAscending (xs ++ y ∷ [])) same next.3))

-- one more entry read into a table
module _ (table : List Entry) (bytes : List ℕ) (i k : ℕ) (e : Entry) (room : i < length table) (whole : k ≡ 31) (is : IsIndexEntry e)
    (spelled : take k (drop (10 + 31 * i) bytes) ≡ cell e) where
  grown : take (i + 1) (set table i e) ≡ take i table ++ e ∷ []
  grown = take-set_at table i (i + 1) e refl room

  pub table_each : AllByRecursion IsIndexEntry (take i table) → AllByRecursion IsIndexEntry (take (i + 1) (set table i e))
  table_each each = subst (AllByRecursion IsIndexEntry) (sym grown) (each_push (take i table) e each is)

  pub table_ascending : IsAscending (take i table) → (0 < length (take i table) → IsBelow (get_or (take i table) (length (take i table) - 1) e) e)
      → IsAscending (take (i + 1) (set table i e))
  table_ascending up above = subst IsAscending (sym grown) (ascending_push (take i table) e up above)

  pub table_read : drop 10 bytes ≡ cells (take i table) ++ drop (10 + 31 * i) bytes → drop 10 bytes ≡ cells (take (i + 1) (set table i e)) ++ drop (10 + 31 * (i + 1)) bytes
  table_read read =
      let rest : List ℕ = drop (10 + 31 * (i + 1)) bytes in
      let behind : drop k (drop (10 + 31 * i) bytes) ≡ rest = drop-drop k (10 + 31 * i) bytes ∙ ap (λ (n : ℕ). drop n bytes) (omega arith) in
      read ∙ ap (λ (l : List ℕ). cells (take i table) ++ l) (read_next (drop (10 + 31 * i) bytes) k e spelled ∙ ap (λ (l : List ℕ). cell e ++ l) behind)
      ∙ sym (cells_push (take i table) e rest) ∙ ap (λ (l : List Entry). cells l ++ rest) (sym grown)
