-- What a legal history began as was legal.
use Rattle.std.proofs.Common.{◌≡◌, ◌≢◌, ℕ, ◌+◌, ◌*◌, ◌≤◌, ◌==◌, true, false, List, [], ◌++◌, length, cond, ap, ◌∙◌, subst, arith, length-append}
use Rattle.std.specs.Prelude.{map, filter, IsTrue}
use Rattle.std.proofs.lemmas.Bool.{leb-true, le-leb}
use Rattle.std.proofs.lemmas.List.{map-append}
use Rattle.std.proofs.lemmas.List.Elements.{filter-append}
use Rattle.std.proofs.lemmas.List.Sums.{sum_by-append}
use Rattle.vt_model.specs.declared.TheConstants.{DIRECTORY_ENTRY_LEN}
use Rattle.vt_model.specs.History.{History, Accepted, IsBlock}
use Rattle.vt_model.specs.Places.{Setup, room_of, needed, fits, lengths_in, bucket_of, bucket_count, clump_len, directory_len_in, version_of, whole_units}
use Rattle.vt_model.specs.Legal.{IsLegal, HasOtherKey, NoCollision}
use Rattle.vt_model.proofs.Lists.{All-front, AllPairs-front}

pub lengths_in-append : (a : ℕ) (xs ys : History)
    → lengths_in a (xs ++ ys) ≡ lengths_in a xs ++ lengths_in a ys
lengths_in-append a xs ys =
    let len : Accepted → ℕ = λ e. length e.block.bytes in
    ap (map len) (filter-append (λ e. e.arena == a) xs ys)
    ∙ map-append len (filter (λ e. e.arena == a) xs) (filter (λ e. e.arena == a) ys)

-- the directory of more blocks takes no less
pub directory_len_in-le : (version m n : ℕ) → m ≤ n
    → directory_len_in version m ≤ directory_len_in version n
directory_len_in-le version m n less = elim (version == 2) as
    (λ t. cond t (whole_units (DIRECTORY_ENTRY_LEN * m)) (DIRECTORY_ENTRY_LEN * m)
    ≤ cond t (whole_units (DIRECTORY_ENTRY_LEN * n)) (DIRECTORY_ENTRY_LEN * n)) [
      | true ↦ omega (arith, less)
      | false ↦ omega (arith, less)
    ]

fewer : (all first rest few many room : ℕ) → all ≡ first + rest → few ≤ many → all + many ≤ room
    → first + few ≤ room
fewer all first rest few many room is less within = omega (arith, is, less, within)

fits-front : (c : Setup) (a : ℕ) (xs ys : List ℕ) → IsTrue (fits c a (xs ++ ys))
    → IsTrue (fits c a xs)
fits-front c a xs ys h =
    let all : needed c a (xs ++ ys) ≤ room_of c a = leb-true _ _ h in
    let less : length xs ≤ length (xs ++ ys) = omega (arith, length-append xs ys) in
    le-leb _ _ (fewer _ _ _ _ _ _ (sum_by-append (clump_len c a) xs ys)
    (directory_len_in-le (version_of c a) (length xs) (length (xs ++ ys)) less) all)

pub IsLegal-front : (score : List ℕ → List ℕ) (c : Setup) (h more : History)
    → IsLegal score c (h ++ more) → IsLegal score c h
IsLegal-front score c h more legal =
    let has_bucket : ℕ → Accepted
    → ℕ = λ b e. cond (bucket_of (bucket_count c) (score e.block.bytes) == b) 1 0 in
    record {
      blocks = All-front (λ e. IsBlock e.block) h more legal.blocks;
      keys = AllPairs-front (HasOtherKey score) h more legal.keys;
      scores = AllPairs-front (NoCollision score) h more legal.scores;
      nonzero = All-front (λ e. score e.block.bytes ≢ score []) h more legal.nonzero;
      arenas = AllPairs-front (λ a b. a.arena ≤ b.arena) h more legal.arenas;
      room = λ a. fits-front c a (lengths_in a h) (lengths_in a more)
          (subst (λ ns. IsTrue (fits c a ns)) (lengths_in-append a h more) (legal.room a));
      buckets = λ b. omega (arith, legal.buckets b, sum_by-append (has_bucket b) h more);
    }
