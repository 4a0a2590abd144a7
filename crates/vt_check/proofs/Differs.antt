-- The two values of what checking tells are of one form, and differ.
use Rattle.std.proofs.Common.{◌≡◌, ◌≢◌, ℕ, ◌-◌, Bool, true, false, not, Option, Some, None, List, [], ◌∷◌, length, take, refl, sym, ◌∙◌, ap, subst, arith}
use Rattle.std.specs.Prelude.{◌==◌, nat_lt, if◌then◌else◌, IfSome, codes, slice_index, sum_by}
use Rattle.std.specs.Option.{option_map, option_or}
use Rattle.std.specs.Str.{bytes_eq}
use Rattle.std.proofs.lemmas.Bool.{eqb-false, ltb-true}
use Rattle.std.proofs.lemmas.Slice.Eq.{bytes_eq-Decides}
use Rattle.vt_arena.specs.Directory.{kind_in, score_in_entry, sectors_before, size_in_entry, uncsize_in_entry}
use Rattle.vt_arena.specs.Reading.{damage_of_clump}
use Rattle.vt_base.specs.declared.score.Score.{Score}
use Rattle.vt_base.specs.declared.why.FieldValue.{FieldValue}
use Rattle.vt_base.specs.declared.why.FieldValue.TheVariants.{Number, Score as ScoreValue}
use Rattle.vt_base.specs.Damage.{Differ}
use Rattle.vt_base.specs.Kind.{is_kind}
use Rattle.vt_clump.specs.declared.reading.ClumpBad.{ClumpBad}
use Rattle.vt_clump.specs.Faults.{bad_encoding, bad_header, bad_size, first_bad_clump, first_fault, other_score}
use Rattle.vt_clump.specs.Spelling.{Stored, size_in, stored_in, uncsize_in}
use Rattle.vt_check.specs.declared.checking.Damage.{Damage}
use Rattle.vt_check.specs.Checking.{DamageDiffers, bad_chain, bad_clump, bad_end, bad_entry, bad_link, bad_sum, chain_of_entries, clump_damage, damage_by, entry_damage, damage_of_numbers, in_second, last_taken, link_damage, scores, sectors_in, taken}

-- this fault of a clump, if there is one, has two values
abbrev HasTwo : Option ClumpBad → Type 0
HasTwo (Some bad) = Differ (damage_of_clump bad).0 (damage_of_clump bad).1
HasTwo None = Unit

two_numbers : (m n : ℕ) → m ≢ n → Differ (Number m) (Number n)
two_numbers m n other = record { form = tt; values = λ same. other (cc) }

two_scores : (want found : List ℕ) → bytes_eq found want ≡ false → Differ (ScoreValue (record { 0 = want })) (ScoreValue (record { 0 = found }))
two_scores want found other = record {
  form = tt;
  values = λ same.
      let score : record { 0 = want } ≡ record { 0 = found } = cc in
      let equal : bytes_eq found want ≡ true = (bytes_eq-Decides found want).1 (sym (ap (λ (s : Score). s.0) score)) in
      absurd (cc);
}

-- what holds of both sides of a choice holds of the choice
choose : {A : Type 0} (P : A → Type 0) (b : Bool) (x y : A) → (b ≡ true → P x) → (b ≡ false → P y) → P (if b then x else y)
choose P true x y first other = first refl
choose P false x y first other = other refl

joined : (x y : Option ClumpBad) → HasTwo x → HasTwo y → HasTwo (first_fault x y)
joined None y first later = later
joined (Some bad) y first later = first

not_true : (b : Bool) → not b ≡ true → b ≡ false
not_true true is = absurd (cc)
not_true false is = refl

-- each test of a clump that fails tells two values
encoding_two : (n : ℕ) → HasTwo (bad_encoding n)
encoding_two n =
    choose HasTwo (n == 1) _ _ (λ _. tt)
    (λ other. choose HasTwo (n == 2) _ _ (λ _. two_numbers 1 2 (λ same. omega arith))
    (λ _. two_numbers 1 n (λ same. eqb-false n 1 other (sym same))))

size_two : (size uncsize room : ℕ) → HasTwo (bad_size size uncsize room)
size_two size uncsize room =
    choose HasTwo (not (uncsize == size)) _ _ (λ other. two_numbers size uncsize (λ same. eqb-false uncsize size (not_true _ other) (sym same)))
    (λ _. choose HasTwo (size == 0) _ _ (λ _. two_numbers 1 0 (λ same. omega arith))
    (λ _. choose HasTwo (nat_lt 57344 size) _ _
    (λ large. two_numbers 57344 size (λ same. omega (arith, ltb-true 57344 size large)))
    (λ _. choose HasTwo (nat_lt room size) _ _
    (λ large. two_numbers room size (λ same. omega (arith, ltb-true room size large)))
    (λ _. tt))))

-- a kind that is none isn't 13
kind_two : (n : ℕ) → not (is_kind n) ≡ true → 13 ≢ n
kind_two n none same =
    let at : not (is_kind 13) ≡ true = ap (λ (k : ℕ). not (is_kind k)) same ∙ none in
    absurd (cc)

header_two : (bytes : List ℕ) → HasTwo (bad_header bytes)
header_two bytes =
    choose HasTwo (nat_lt (length bytes) 38) _ _ (λ _. two_numbers 38 0 (λ same. omega arith))
    (λ _. choose HasTwo (not (bytes_eq (take 4 bytes) (codes "VCLP"))) _ _ (λ other. record {
      form = tt;
      values = λ same.
          let magic : codes "VCLP" ≡ take 4 bytes = cc in
          let equal : bytes_eq (take 4 bytes) (codes "VCLP") ≡ true =
          (bytes_eq-Decides (take 4 bytes) (codes "VCLP")).1 (sym magic) in
          let no : not true ≡ true = ap not (sym equal) ∙ other in
          absurd (cc);
    })
    (λ _. choose HasTwo (not (is_kind (slice_index bytes 4))) _ _ (λ none. two_numbers 13 _ (kind_two _ none))
    (λ _. joined (bad_encoding (slice_index bytes 29)) _ (encoding_two (slice_index bytes 29))
    (size_two (size_in bytes) (uncsize_in bytes) (length bytes - 38)))))

score_two : (want found : List ℕ) → HasTwo (other_score want found)
score_two want found =
    choose HasTwo (bytes_eq found want) _ _ (λ _. tt) (λ other. two_scores want found other)

first_two : (score : List ℕ → List ℕ) (bytes : List ℕ) → HasTwo (first_bad_clump score bytes)
first_two score bytes =
    joined (bad_header bytes) _ (header_two bytes) (score_two (stored_in bytes).score (score (stored_in bytes).block))

-- ---- what is told

abbrev Differs : Option Damage → Type 0
Differs damage = IfSome damage DamageDiffers

mapped : (first : Option ClumpBad) → HasTwo first → Differs (option_map damage_by first)
mapped (Some bad) two = two
mapped None two = tt

pub either_differs : (a b : Option Damage) → Differs a → Differs b → Differs (option_or a b)
either_differs None b first later = later
either_differs (Some damage) b first later = first

pub bad_clump_differs : (score : List ℕ → List ℕ) (clumps : List (List ℕ)) → Differs (bad_clump score clumps)
bad_clump_differs score [] = tt
bad_clump_differs score (clump ∷ clumps) =
    either_differs (clump_damage score clump) (bad_clump score clumps) (mapped (first_bad_clump score clump) (first_two score clump)) (bad_clump_differs score clumps)

-- where a clump names another number of sectors than the one before it takes
link_differs : (before : ℕ) (clump : List ℕ) → Differs (link_damage before clump)
link_differs before clump =
    choose Differs (sectors_before clump == before) _ _ (λ _. tt)
    (λ other. two_numbers before (sectors_before clump) (λ same. eqb-false (sectors_before clump) before other (sym same)))

pub bad_link_differs : (before : ℕ) (clumps : List (List ℕ)) → Differs (bad_link before clumps)
bad_link_differs before [] = tt
bad_link_differs before (clump ∷ clumps) =
    either_differs (link_damage before clump) (bad_link (sectors_in clump) clumps) (link_differs before clump) (bad_link_differs (sectors_in clump) clumps)

pub bad_end_differs : (last : ℕ) (clumps : List (List ℕ)) → Differs (bad_end last clumps)
bad_end_differs last clumps =
    let sectors : ℕ = last_taken 0 clumps in
    choose Differs (last == sectors) _ _ (λ _. tt) (λ other. two_numbers sectors last (λ same. eqb-false last sectors other (sym same)))

-- what is tested in version 2 alone
pub second_differs : (version : ℕ) (damage : Option Damage) → Differs damage → Differs (in_second version damage)
second_differs version damage differs = choose Differs (version == 2) damage None (λ _. differs) (λ _. tt)

pub bad_sum_differs : (version used : ℕ) (clumps : List (List ℕ)) → Differs (bad_sum version used clumps)
bad_sum_differs version used clumps =
    let sum : ℕ = sum_by (λ clump. taken version (length clump)) clumps in
    choose Differs (sum == used) _ _ (λ _. tt) (λ other. two_numbers used sum (λ same. eqb-false sum used other (sym same)))

entry_differs : (s : Stored) (entry : List ℕ) → Differs (entry_damage s entry)
entry_differs s entry =
    let n : ℕ = length s.block in
    choose Differs (not (kind_in entry == s.kind)) _ _ (λ other. two_numbers s.kind (kind_in entry) (λ same. eqb-false (kind_in entry) s.kind (not_true _ other) (sym same)))
    (λ _. choose Differs (not (size_in_entry entry == n)) _ _
    (λ other. two_numbers n (size_in_entry entry) (λ same. eqb-false (size_in_entry entry) n (not_true _ other) (sym same)))
    (λ _. choose Differs (not (uncsize_in_entry entry == n)) _ _
    (λ other. two_numbers n (uncsize_in_entry entry) (λ same. eqb-false (uncsize_in_entry entry) n (not_true _ other) (sym same)))
    (λ _. choose Differs (not (bytes_eq (score_in_entry entry) s.score)) _ _ (λ other. two_scores s.score (score_in_entry entry) (not_true _ other)) (λ _. tt))))

pub bad_entry_differs : (clumps entries : List (List ℕ)) → Differs (bad_entry clumps entries)
bad_entry_differs [] entries = tt
bad_entry_differs (clump ∷ clumps) [] = tt
bad_entry_differs (clump ∷ clumps) (entry ∷ entries) =
    either_differs (entry_damage (stored_in clump) entry) (bad_entry clumps entries) (entry_differs (stored_in clump) entry) (bad_entry_differs clumps entries)

pub bad_chain_differs : (score : List ℕ → List ℕ) (entries : List (List ℕ)) (found : List ℕ) → Differs (bad_chain score entries found)
bad_chain_differs score entries found = choose Differs (bytes_eq found (chain_of_entries score entries)) _ _ (λ _. tt) (λ other. two_scores (chain_of_entries score entries) found other)

-- this one
pub differs_at : (o : Option Damage) (damage : Damage) → Differs o → o ≡ Some damage → DamageDiffers damage
differs_at o damage differs is = subst (λ (p : Option Damage). Differs p) is differs
