-- The two values of a damage are of one form, and differ.
use Rattle.std.proofs.Common.{◌≡◌, ◌≢◌, ◌⊎◌, ⊎_elim, inl, inr, ℕ, ◌+◌, ◌-◌, ◌<◌, ◌≤◌, Bool, true, false, not, Option, Some, None, List, length, take, refl, sym, ◌∙◌, ap, subst, arith, Err, Result}
use Rattle.std.specs.Prelude.{◌==◌, nat_lt, if◌then◌else◌, codes, slice_index}
use Rattle.std.specs.Str.{bytes_eq}
use Rattle.std.proofs.lemmas.Bool.{cases_lt, eqb-false, ltb-true}
use Rattle.std.proofs.lemmas.Slice.Eq.{bytes_eq-Decides}
use Rattle.vt_base.specs.declared.key.Key.{Key}
use Rattle.vt_base.specs.declared.place.Place.{Place}
use Rattle.vt_base.specs.declared.score.Score.{Score}
use Rattle.vt_base.specs.declared.why.FieldValue.{FieldValue}
use Rattle.vt_base.specs.declared.why.FieldValue.TheVariants.{Number, Score as ScoreValue}
use Rattle.vt_base.specs.Damage.{Differ}
use Rattle.vt_base.specs.Kind.{is_kind}
use Rattle.vt_disk.specs.Members.{DiskOf}
use Rattle.vt_clump.specs.declared.reading.ClumpBad.{ClumpBad}
use Rattle.vt_clump.specs.Faults.{first_fault, bad_encoding, bad_size, bad_header, other_score, first_bad_clump}
use Rattle.vt_clump.specs.Spelling.{size_in, uncsize_in, stored_in}
use Rattle.vt_arena.specs.declared.error.ReadBad.{ReadBad}
use Rattle.vt_arena.specs.declared.error.ReadBad.TheVariants.{Damaged}
use Rattle.vt_arena.specs.Reading.{HasHeader, damage_of_clump, IsDamaged}
use Rattle.vt_log.specs.Log.{LogState}
use Rattle.vt_log.specs.Queue.{IsNowhere}
use Rattle.vt_log.specs.Reading.{IsOther, ReadsBlockAs, AnswersRead}
use Rattle.vt_log.specs.Whole.{IsOnDisk, IsWholeLog}
use Rattle.vt_log.proofs.StandForPrefix.{there}
use Rattle.vt_log.proofs.Lists.{at_slice, slice_get_there}

-- this fault of a clump, if there is one, has two values
abbrev HasTwo : Option ClumpBad → Type 0
HasTwo (Some bad) = Differ (damage_of_clump bad).0 (damage_of_clump bad).1
HasTwo None = Unit

-- two numbers that differ are two values
numbers : (m n : ℕ) → m ≢ n → Differ (Number m) (Number n)
numbers m n other = record { form = tt; values = λ same. other (cc) }

-- what holds of both sides of a choice holds of the choice
choose : {A : Type 0} (P : A → Type 0) (b : Bool) (x y : A) → (b ≡ true → P x) → (b ≡ false → P y)
    → P (if b then x else y)
choose P true x y first other = first refl
choose P false x y first other = other refl

joined : (x y : Option ClumpBad) → HasTwo x → HasTwo y → HasTwo (first_fault x y)
joined None y first later = later
joined (Some bad) y first later = first

-- each test of a clump that fails tells two values
encoding_two : (n : ℕ) → HasTwo (bad_encoding n)
encoding_two n =
    choose HasTwo (n == 1) _ _ (λ _. tt)
    (λ other. choose HasTwo (n == 2) _ _ (λ _. numbers 1 2 (λ same. omega arith))
    (λ _. numbers 1 n (λ same. eqb-false n 1 other (sym same))))

size_two : (size uncsize room : ℕ) → HasTwo (bad_size size uncsize room)
size_two size uncsize room =
    choose HasTwo (not (uncsize == size)) _ _ (λ other. numbers size uncsize (λ same. grind (arith)))
    (λ _. choose HasTwo (size == 0) _ _ (λ _. numbers 1 0 (λ same. omega arith))
    (λ _. choose HasTwo (nat_lt 57344 size) _ _
    (λ large. numbers 57344 size (λ same. omega (arith, ltb-true 57344 size large)))
    (λ _. choose HasTwo (nat_lt room size) _ _
    (λ large. numbers room size (λ same. omega (arith, ltb-true room size large)))
    (λ _. tt))))

-- a kind that is none isn't 13
kind_two : (n : ℕ) → not (is_kind n) ≡ true → 13 ≢ n
kind_two n none same =
    let at : not (is_kind 13) ≡ true = ap (λ (k : ℕ). not (is_kind k)) same ∙ none in
    absurd (cc)

header_two : (bytes : List ℕ) → HasTwo (bad_header bytes)
header_two bytes =
    choose HasTwo (nat_lt (length bytes) 38) _ _ (λ _. numbers 38 0 (λ same. omega arith))
    (λ _. choose HasTwo (not (bytes_eq (take 4 bytes) (codes "VCLP"))) _ _ (λ other. record {
      form = tt;
      values = λ same.
          let magic : codes "VCLP" ≡ take 4 bytes = cc in
          let equal : bytes_eq (take 4 bytes) (codes "VCLP") ≡ true =
          (bytes_eq-Decides (take 4 bytes) (codes "VCLP")).1 (sym magic) in
          let no : not true ≡ true = ap not (sym equal) ∙ other in
          absurd (cc);
    })
    (λ _. choose HasTwo (not (is_kind (slice_index bytes 4))) _ _ (λ none. numbers 13 _ (kind_two _ none))
    (λ _. joined (bad_encoding (slice_index bytes 29)) _ (encoding_two (slice_index bytes 29))
    (size_two (size_in bytes) (uncsize_in bytes) (length bytes - 38)))))

score_two : (want found : List ℕ) → HasTwo (other_score want found)
score_two want found =
    choose HasTwo (bytes_eq found want) _ _ (λ _. tt) (λ other. record {
      form = tt;
      values = λ same.
          let score : record { 0 = want } ≡ record { 0 = found } = cc in
          let equal : bytes_eq found want ≡ true =
          (bytes_eq-Decides found want).1 (sym (ap (λ (s : Score). s.0) score)) in
          absurd (cc);
    })

first_two : (score_of : List ℕ → List ℕ) (bytes : List ℕ) → HasTwo (first_bad_clump score_of bytes)
first_two score_of bytes =
    joined (bad_header bytes) _ (header_two bytes)
    (score_two (stored_in bytes).score (score_of (stored_in bytes).block))

damaged_two : (score_of : List ℕ → List ℕ) (bytes : List ℕ) (want found : FieldValue)
    → IsDamaged score_of bytes want found → Differ want found
damaged_two score_of bytes want found it =
    subst (λ (p : FieldValue × FieldValue). Differ p.0 p.1) it.2
    (subst HasTwo it.1 (first_two score_of bytes))

-- two values that are those
pub as_two : (want found a b : FieldValue) → want ≡ a → found ≡ b → Differ a b → Differ want found
as_two want found a b want_is found_is two =
    subst (λ (v : FieldValue). Differ v found) (sym want_is)
    (subst (λ (v : FieldValue). Differ a v) (sym found_is) two)

-- so does a clump that has another key
pub key_two : (key : Key) (kind : ℕ) (score : List ℕ) (want found : FieldValue)
    → IsOther key kind score want found → Differ want found
key_two key kind score want found other = ⊎_elim
    (λ (it : (kind ≢ key.kind) × (want ≡ Number key.kind) × (found ≡ Number kind)).
    as_two want found _ _ it.1 it.2 (numbers key.kind kind (λ same. it.0 (sym same))))
    (λ (it : (kind ≡ key.kind) × (score ≢ key.score.0) × (want ≡ ScoreValue key.score)
    × (found ≡ ScoreValue (record { 0 = score }))).
    as_two want found _ _ it.2 it.3 (record {
      form = tt;
      values = λ same.
          let same_score : key.score ≡ record { 0 = score } = cc in
          it.1 (sym (ap (λ (s : Score). s.0) same_score));
    }))
    other

-- a header can lie at an offset, or it can't
header_cases : (len offset : ℕ) → HasHeader len offset ⊎ (¬ HasHeader len offset)
header_cases len offset = ⊎_elim
    (λ (below : offset < 24576). inr (λ has. omega (arith, below, has.0)))
    (λ (above : 24576 ≤ offset). ⊎_elim
    (λ (past : len < offset + 38). inr (λ has. omega (arith, past, has.1)))
    (λ (within : offset + 38 ≤ len). inl (above, within))
    (cases_lt len (offset + 38)))
    (cases_lt offset 24576)

-- A damage that is answered for a place in an arena has two values.
pub answer_two : {D : Type 0} (score_of : List ℕ → List ℕ) (disk : DiskOf D) (l : LogState D) (place : Place) (key : Key) (result : Result (List ℕ) ReadBad)
    → IsWholeLog disk l → IsNowhere l.queue.places place → place.arena < length l.layout
    → AnswersRead score_of disk l place key result
    → (want found : FieldValue) → result ≡ Err (Damaged want found) → Differ want found
answer_two score_of disk l place key result whole none within answer want found bad =
    let at = slice_get_there l.layout place.arena within in
    let len = (at_slice (IsOnDisk disk l.disks) l.layout _ at.0 whole.regions at.1).region.len in
    let it = there disk l place.arena at.0 whole at.1 in
    ⊎_elim (λ (has : HasHeader at.0.region.len place.offset).
    let stored = answer.stored at.0 it.disk none it.at has in
    ⊎_elim (damaged_two score_of stored.0 want found)
    (λ (other : (_ ≡ None) × _). key_two key _ _ want found other.1)
    (subst (ReadsBlockAs score_of key stored.0) bad stored.2))
    (λ (no : ¬ HasHeader at.0.region.len place.offset).
    let told : Err (Damaged want found) ≡ Err (Damaged (Number 24576) (Number place.offset)) =
    sym bad ∙ answer.outside at.0 none at.1 no in
    let want_is : want ≡ Number 24576 = cc in
    let found_is : found ≡ Number place.offset = cc in
    as_two want found _ _ want_is found_is (numbers 24576 place.offset
    (λ offset. no (omega (arith, offset), omega (arith, offset, len)))))
    (header_cases at.0.region.len place.offset)
