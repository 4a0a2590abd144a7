-- A slice whose first element is taken apart, and lists that grow by one.
use Rattle.std.proofs.Common.{◌≡◌, ℕ, zero, suc, ◌+◌, ◌-◌, ◌<◌, List, [], ◌∷◌, ◌++◌, Ok, Err, Result, length, take, drop, get_or, refl, sym, ◌∙◌, ap, arith}
use Rattle.std.specs.Prelude.{All}
use Rattle.std.proofs.Math.Seq.{take-append_seam, take-length}
use Rattle.std.proofs.lemmas.List.{map-append}
use Rattle.std.proofs.lemmas.List.Elements.{All-append}
use Rattle.std.proofs.lemmas.List.Sums.{sum_by-append}
use Rattle.vt_disk.specs.Members.{DiskOf}
use Rattle.vt_isect.specs.Section.{SectionState}
use Rattle.vt_log.specs.Logs.{arena_count}
use Rattle.vt_part.specs.declared.part.Part.{Part}
use Rattle.vt_part.specs.Parts.{table_of, tables_of}
use Rattle.vt_part.specs.Table.{Table}
use Rattle.vt_format.specs.declared.index.Index.{Index}
use Rattle.vt_format.specs.declared.index.IndexError.{IndexError}
use Rattle.vt_format.specs.declared.index.IndexError.TheVariants.{Fault, Refused, Stopped}
use Rattle.vt_format.specs.Index.{LeavesOpened}
use Rattle.vt_format.specs.Usage.{total_buckets}

pub first_and_rest : {X : Type 0} (xs : List X) (x d : X) → 0 < length xs → x ≡ get_or xs 0 d
    → xs ≡ x ∷ take (length xs - 1) (drop 1 xs)
first_and_rest [] x d some is = absurd (omega (arith, some))
first_and_rest {X = X} (y ∷ ys) x d some is =
    let one : length (y ∷ ys) - 1 ≡ length ys = omega arith in
    ap (λ (z : X). z ∷ ys) (sym is)
    ∙ ap (λ (zs : List X). x ∷ zs) (sym (ap (λ (n : ℕ). take n ys) one ∙ take-length ys))

pub is_empty : {X : Type 0} (xs : List X) → length xs < 1 → xs ≡ []
is_empty [] few = refl
is_empty (x ∷ xs) few = absurd (omega (arith, few))

-- what a slice of a whole vector becomes, the vector does
pub written_back : {X : Type 0} (n : ℕ) (items news : List X) → n ≡ length items → length news ≡ length items
    → take n (news ++ drop (length news) items) ≡ news
written_back n items news all many =
    ap (λ (k : ℕ). take k (news ++ drop (length news) items)) (all ∙ sym many) ∙ take-append_seam news (drop (length news) items)

pub rest_long : {X : Type 0} (xs : List X) → length (take (length xs - 1) (drop 1 xs)) ≡ length xs - 1
rest_long [] = refl
rest_long (y ∷ ys) =
    let one : length (y ∷ ys) - 1 ≡ length ys = omega arith in
    ap (λ (n : ℕ). length (take n ys)) one ∙ ap length (take-length ys) ∙ sym one

-- what holds of each still does with one more
pub all_more : {X : Type 0} (P : X → Type 0) (xs : List X) (x : X) → All P xs → P x → All P (xs ++ x ∷ [])
all_more {X = X} P xs x all here = All-append P xs (x ∷ []) all one
  where
    one : (k : ℕ) (d : X) → k < 1 → P (get_or (x ∷ []) k d)
    one zero d within = here
    one (suc k) d within = absurd (omega (arith, within))

pub buckets_more : {D : Type 0} (os : List (SectionState D)) (o : SectionState D) → total_buckets (os ++ o ∷ []) ≡ total_buckets os + o.buckets
buckets_more {D = D} os o = omega (arith, sum_by-append (λ (section : SectionState D). section.buckets) os (o ∷ []))

pub arenas_more : {D : Type 0} (ps : List (Part D)) (p : Part D)
    → arena_count (tables_of (ps ++ p ∷ [])) ≡ arena_count (tables_of ps) + (table_of p).count
arenas_more {D = D} ps p =
    let tables : tables_of (ps ++ p ∷ []) ≡ tables_of ps ++ table_of p ∷ [] = map-append (λ (part : Part D). table_of part) ps (p ∷ []) in
    ap (λ (ts : List Table). arena_count ts) tables
    ∙ (let e = sum_by-append (λ (t : Table). t.count) (tables_of ps) (table_of p ∷ []) in omega (arith, e))

-- as many sections are left as were opened
pub as_many_left : {D : Type 0} (disk : DiskOf D) (number total : ℕ) (r : Result Index IndexError) (olds news : List (SectionState D))
    → LeavesOpened disk number total r olds news → length news ≡ length olds
as_many_left disk number total (Ok it) olds news left = left.many
as_many_left disk number total (Err (Fault part)) olds news left = ap length left
as_many_left disk number total (Err (Refused bad)) olds news left = ap length left
as_many_left disk number total (Err (Stopped part)) olds news left = left.2.many
