-- Records and nodes, one more at the end.
use Rattle.std.proofs.Common.{◌≡◌, ◌+◌, ◌*◌, ◌<◌, ◌≤◌, ◌^◌, ℕ, zero, suc, Option, Some, None, true, false, List, [], ◌∷◌, ◌++◌, length, take, drop, get_or, add-one, refl, sym, ◌∙◌, ap, subst, arith, length-append}
use Rattle.std.specs.List.{AllByRecursion}
use Rattle.std.specs.Option.{option_or}
use Rattle.std.specs.Str.{bytes_eq}
use Rattle.std.proofs.Math.Seq.{take-suc}
use Rattle.std.proofs.lemmas.Grind.{flat_map-append}
use Rattle.std.proofs.lemmas.List.{append-nil}
use Rattle.std.proofs.lemmas.List.Folds.{find-append}
use Rattle.vt_tree.specs.declared.entry.Entry.{Entry}
use Rattle.vt_tree.specs.Maps.{BlockMap}
use Rattle.vt_tree.proofs.Appending.{all_then}
use Rattle.vac_meta.specs.declared.record.Record.{Record}
use Rattle.vac_meta.specs.Records.{IsRecord, all_spelled, number_fields, record_bytes, string}
use Rattle.vac_read.specs.declared.node.Node.{Node}
use Rattle.vac_read.specs.Nodes.{AreNodes, IsNode, named}

pub nodes_more : (map : BlockMap) (stream : Entry) (records : List Record) (nodes : List Node)
    (r : Record) (node : Node) → AreNodes map stream records nodes → IsNode map stream r node
    → AreNodes map stream (records ++ r ∷ []) (nodes ++ node ∷ [])
nodes_more map stream [] [] r node are is = (is, tt)
nodes_more map stream [] (n ∷ nodes) r node are is = absurd are
nodes_more map stream (q ∷ records) [] r node are is = absurd are
nodes_more map stream (q ∷ records) (n ∷ nodes) r node are is =
    (are.0, nodes_more map stream records nodes r node are.1 is)

-- ---- where a record stands

pub place_more : (records : List Record) (r : Record) (place : ℕ)
    → place ≡ length (all_spelled records)
    → place + length (record_bytes r) ≡ length (all_spelled (records ++ r ∷ []))
place_more records r place is =
    omega (
      arith,
      is,
      ap (λ (l : List ℕ). length l) (flat_map-append record_bytes records (r ∷ [])),
      length-append (all_spelled records) (all_spelled (r ∷ [])),
      length-append (record_bytes r) [],
    )

pub place_within : (records before : List Record) (r : Record) (rest : List Record) (place : ℕ)
    → records ≡ before ++ r ∷ rest → place ≡ length (all_spelled before)
    → length (all_spelled records) < 2 ^ 63 → place + length (record_bytes r) < 2 ^ 63
place_within records before r rest place among is short =
    omega (
      arith,
      is,
      ap (λ (l : List Record). length (all_spelled l)) among,
      ap (λ (l : List ℕ). length l) (flat_map-append record_bytes before (r ∷ rest)),
      length-append (all_spelled before) (all_spelled (r ∷ rest)),
      length-append (record_bytes r) (all_spelled rest),
    )

pub is_record_there : (records before : List Record) (r : Record) (rest : List Record)
    → records ≡ before ++ r ∷ rest → AllByRecursion IsRecord records → IsRecord r
is_record_there records before r rest among all =
    (all_then IsRecord before (r ∷ rest) (subst (AllByRecursion IsRecord) among all)).0

-- each has 28 bytes at least
record_long : (r : Record) → IsRecord r → 28 ≤ length (record_bytes r)
record_long r is =
    let some = is.fits.name.some in
    omega (
      arith,
      length-append r.name (number_fields r ++ (string r.uid ++ string r.gid)),
      length-append r.uid (string r.gid),
    )

pub records_long : (records : List Record) → AllByRecursion IsRecord records
    → length records * 28 ≤ length (all_spelled records)
records_long [] all = omega arith
records_long (r ∷ records) all =
    let one = record_long r all.0 in
    let rest = records_long records all.1 in
    omega (arith, length-append (record_bytes r) (all_spelled records))

-- ---- names

pub none_more : (name : List ℕ) (records : List Record) (r : Record)
    → named name records ≡ None → bytes_eq r.name name ≡ false
    → named name (records ++ r ∷ []) ≡ None
none_more name records r none other =
    find-append (λ r. bytes_eq r.name name) records (r ∷ [])
    ∙ ap (λ (o : Option Record). option_or o (named name (r ∷ []))) none
    ∙ rw other refl

pub named_here : (name : List ℕ) (records before : List Record) (r : Record) (rest : List Record)
    → records ≡ before ++ r ∷ rest → named name before ≡ None → bytes_eq r.name name ≡ true
    → named name records ≡ Some r
named_here name records before r rest among none here =
    ap (λ (l : List Record). named name l) among
    ∙ find-append (λ r. bytes_eq r.name name) before (r ∷ rest)
    ∙ ap (λ (o : Option Record). option_or o (named name (r ∷ rest))) none
    ∙ rw here refl

-- ---- one of a list

pub split_at : {A : Type 0} (xs : List A) (i : ℕ) (x : A) → i < length xs → x ≡ get_or xs i x
    → xs ≡ take i xs ++ x ∷ drop (suc i) xs
split_at [] i x within is = absurd (omega arith)
split_at (y ∷ xs) zero x within is = ap (λ z. z ∷ xs) (sym is)
split_at (y ∷ xs) (suc i) x within is =
    ap (λ l. y ∷ l) (split_at xs i x (omega arith) is)

pub take_more : {A : Type 0} (xs : List A) (i : ℕ) (x : A) → i < length xs → x ≡ get_or xs i x
    → take (i + 1) xs ≡ take i xs ++ x ∷ []
take_more xs i x within is =
    ap (λ n. take n xs) (add-one i) ∙ take-suc xs i x within
    ∙ ap (λ y. take i xs ++ y ∷ []) (sym is)

-- what is left of a list is nothing
pub all_of_it : {A : Type 0} (xs front left : List A) → xs ≡ front ++ left → length left ≡ 0
    → xs ≡ front
all_of_it xs front [] are none = are ∙ append-nil front
all_of_it xs front (x ∷ left) are none = absurd (omega arith)
