-- The values that the refusal of a log names differ.
use Rattle.std.proofs.Common.{◌≡◌, ◌≢◌, ◌⊎◌, inl, inr, ⊎_elim, ℕ, ◌+◌, ◌/◌, Bool, true, false, List, [], ◌∷◌, Option, Some, None, refl, sym, subst, arith}
use Rattle.std.specs.Prelude.{⊤, codes, nat_lt, not, take, drop, ◌==◌, ◌||◌, if◌then◌else◌}
use Rattle.std.specs.Option.{option_map, option_or}
use Rattle.std.specs.Str.{bytes_eq}
use Rattle.std.proofs.lemmas.Bool.Decides.{nat_tests}
use Rattle.std.proofs.lemmas.Option.{same_Some}
use Rattle.vt_arena.specs.declared.error.ArenaBad.{ArenaBad}
use Rattle.vt_arena.specs.declared.error.ArenaBad.TheVariants as arena_bad
use Rattle.vt_arena.specs.declared.error.Field.TheVariants.{Version, Number, Sealed, Used, Last}
use Rattle.vt_arena.specs.declared.TheConstants.{FIELDS_LEN}
use Rattle.vt_arena.specs.Faults.{bad_last_header, bad_last_value, bad_value, first_bad_fields, first_bad_head, names_last, room_taken}
use Rattle.vt_arena.specs.Heads.{clump_count_in, last_in, number_in, sealed_in, used_in, version_in}
use Rattle.vt_arena.specs.Places.{arena_room, bad_last}
use Rattle.vt_log.specs.declared.error.LogBad.{LogBad}
use Rattle.vt_log.specs.declared.error.LogBad.TheVariants as log_bad
use Rattle.vt_log.specs.Faults.{bad_arena, first_bad_log, first_of_two}
use Rattle.vt_part.specs.declared.layout.ArenaRegion.{ArenaRegion}

-- the refusal's two values differ
abbrev pub NamesArena : ArenaBad → Type 0
NamesArena arena_bad.Fault = ⊥
NamesArena arena_bad.NotFormatted = ⊤
NamesArena (arena_bad.Torn field found want) = found ≢ want
NamesArena arena_bad.NoMemory = ⊥

abbrev pub NamesLog : LogBad → Type 0
NamesLog (log_bad.Part bad) = ⊥
NamesLog (log_bad.Arena i bad) = NamesArena bad
NamesLog (log_bad.Order i clumps) = clumps ≢ 0
NamesLog log_bad.Fault = ⊥
NamesLog log_bad.NoMemory = ⊥

-- a test of several, one after another
pub if_some : {X : Type 0} (b : Bool) (x y : X) (rest : Option X) → (if b then Some x else rest) ≡ Some y → ((b ≡ true) × (y ≡ x)) ⊎ (rest ≡ Some y)
if_some true x y rest is = inl (refl, sym (same_Some x y is))
if_some false x y rest is = inr is

pub not_equal : (a b : ℕ) → not (a == b) ≡ true → a ≢ b
not_equal a b differ same = grind (arith, nat_tests)

more_than : (a b : ℕ) → nat_lt b a ≡ true → a ≢ b
more_than a b less same = grind (arith, nat_tests)

-- a version that is none isn't the one that is wanted
neither : (version : ℕ) → not (version == 1 || version == 2) ≡ true → version ≢ 2
neither version none same = let it : not (2 == 1 || 2 == 2) ≡ true = subst (λ (v : ℕ). not (v == 1 || v == 2) ≡ true) same none in absurd (cc)

named : (x bad : ArenaBad) → NamesArena x → bad ≡ x → NamesArena bad
named x bad names is = subst NamesArena (sym is) names

value_differs : (number len version numbered sealed taken : ℕ) (bad : ArenaBad)
    → bad_value number len version numbered sealed taken ≡ Some bad → NamesArena bad
value_differs number len version numbered sealed taken bad is = ⊎_elim
    (λ first. named (arena_bad.Torn Version version 2) bad (neither version first.0) first.1)
    (λ rest. ⊎_elim
    (λ first. named (arena_bad.Torn Number numbered number) bad (not_equal numbered number first.0) first.1)
    (λ rest. ⊎_elim
    (λ first. named (arena_bad.Torn Sealed sealed 1) bad (more_than sealed 1 first.0) first.1)
    (λ rest. ⊎_elim
    (λ first. named (arena_bad.Torn Used taken (arena_room len)) bad (more_than taken (arena_room len) first.0) first.1)
    (λ none. absurd (cc))
    (if_some (nat_lt (arena_room len) taken) (arena_bad.Torn Used taken (arena_room len)) bad None rest))
    (if_some (nat_lt 1 sealed) (arena_bad.Torn Sealed sealed 1) bad _ rest))
    (if_some (not (numbered == number)) (arena_bad.Torn Number numbered number) bad _ rest))
    (if_some (not (version == 1 || version == 2)) (arena_bad.Torn Version version 2) bad _ is)

-- the first of two tests that fails is one of them
either : {X : Type 0} (o p : Option X) (y : X) → option_or o p ≡ Some y → (o ≡ Some y) ⊎ (p ≡ Some y)
either (Some x) p y is = inl is
either None p y is = inr is

-- what is wanted of the field `last` isn't what is there
last_wants : (clumps used last want : ℕ) → bad_last clumps used last ≡ Some want → last ≢ want
last_wants clumps used last want is =
    by (clumps == 0) (last == 0) (nat_lt (used / 512) last) (λ some. none_there last some) (λ none. first_there last none) (more_than last (used / 512)) is
  where
    none_there : (n : ℕ) → (n == 0) ≡ false → n ≢ 0
    none_there n some same = grind (arith, nat_tests)

    first_there : (n : ℕ) → (n == 0) ≡ true → n ≢ 1
    first_there n none same = grind (arith, nat_tests)

    by : (none zero more : Bool) → (zero ≡ false → last ≢ 0) → (zero ≡ true → last ≢ 1) → (more ≡ true → last ≢ used / 512)
        → (if none then (if zero then None else Some 0) else if zero then Some 1 else if more then Some (used / 512) else None) ≡ Some want → last ≢ want
    by true true more here one most is = absurd (cc)
    by true false more here one most is = subst (λ (n : ℕ). last ≢ n) (same_Some 0 want is) (here refl)
    by false true more here one most is = subst (λ (n : ℕ). last ≢ n) (same_Some 1 want is) (one refl)
    by false false true here one most is = subst (λ (n : ℕ). last ≢ n) (same_Some (used / 512) want is) (most refl)
    by false false false here one most is = absurd (cc)

last_differs : (version clumps used last : ℕ) (bad : ArenaBad) → bad_last_value version clumps used last ≡ Some bad → NamesArena bad
last_differs version clumps used last bad is = by (version == 2) (bad_last clumps used last) (last_wants clumps used last) is
  where
    by : (two : Bool) (o : Option ℕ) → ((want : ℕ) → o ≡ Some want → last ≢ want)
        → (if two then option_map (λ want. arena_bad.Torn Last last want) o else None) ≡ Some bad → NamesArena bad
    by true (Some want) wants is = subst NamesArena (same_Some (arena_bad.Torn Last last want) bad is) (wants want refl)
    by true None wants is = absurd (cc)
    by false o wants is = absurd (cc)

fields_differ : (number len : ℕ) (fields : List ℕ) (bad : ArenaBad) → first_bad_fields number len fields ≡ Some bad → NamesArena bad
fields_differ number len fields bad is = ⊎_elim
    (λ first. named arena_bad.NotFormatted bad tt first.1)
    (λ rest. ⊎_elim
    (λ value. value_differs number len (version_in fields) (number_in fields) (sealed_in fields) (room_taken fields) bad value)
    (λ last. last_differs (version_in fields) (clump_count_in fields) (used_in fields) (last_in fields) bad last)
    (either (bad_value number len (version_in fields) (number_in fields) (sealed_in fields) (room_taken fields))
    (bad_last_value (version_in fields) (clump_count_in fields) (used_in fields) (last_in fields)) bad rest))
    (if_some (not (bytes_eq (take 4 fields) (codes "VARN"))) arena_bad.NotFormatted bad _ is)

-- the last clump takes another number of sectors than the head says
sectors_differ : (last sectors : ℕ) (bad : ArenaBad) → (if last == sectors then None else Some (arena_bad.Torn Last last sectors)) ≡ Some bad → NamesArena bad
sectors_differ last sectors bad is = by (last == sectors) (other last sectors) is
  where
    other : (a b : ℕ) → (a == b) ≡ false → a ≢ b
    other a b differ same = grind (arith, nat_tests)

    by : (same : Bool) → (same ≡ false → last ≢ sectors) → (if same then None else Some (arena_bad.Torn Last last sectors)) ≡ Some bad → NamesArena bad
    by true differ is = absurd (cc)
    by false differ is = subst NamesArena (same_Some (arena_bad.Torn Last last sectors) bad is) (differ refl)

header_differs : (names : Bool) (last : ℕ) (header : List ℕ) (bad : ArenaBad) → (if names then bad_last_header last header else None) ≡ Some bad → NamesArena bad
header_differs false last header bad is = absurd (cc)
header_differs true last header bad is = sectors_differ last _ bad is

arena_differs : (number len : ℕ) (fields : List ℕ) (bad : ArenaBad) → first_bad_head number len fields ≡ Some bad → NamesArena bad
arena_differs number len fields bad is = ⊎_elim
    (λ first. fields_differ number len fields bad first)
    (λ last. header_differs (names_last number len fields) (last_in fields) (drop FIELDS_LEN fields) bad last)
    (either (first_bad_fields number len fields)
    (if names_last number len fields then bad_last_header (last_in fields) (drop FIELDS_LEN fields) else None) bad is)

order_differs : (none sealed : Bool) (i clumps : ℕ) (bad : LogBad) → (none ≡ false → clumps ≢ 0)
    → (if none then (if sealed then None else Some (log_bad.Arena i (arena_bad.Torn Sealed 1 0))) else Some (log_bad.Order i clumps)) ≡ Some bad
    → NamesLog bad
order_differs true true i clumps bad some is = absurd (cc)
order_differs true false i clumps bad some is =
    subst NamesLog (same_Some (log_bad.Arena i (arena_bad.Torn Sealed 1 0)) bad is) (λ same. let wrong : 1 ≡ 0 = same in absurd (cc))
order_differs false sealed i clumps bad some is = subst NamesLog (same_Some (log_bad.Order i clumps) bad is) (some refl)

some_clumps : (n : ℕ) → (n == 0) ≡ false → n ≢ 0
some_clumps n some same = grind (arith, nat_tests)

found_differs : (behind : Bool) (i : ℕ) (first : Option ArenaBad) (fields : List ℕ) (bad : LogBad)
    → ((x : ArenaBad) → first ≡ Some x → NamesArena x) → bad_arena behind i first fields ≡ Some bad → NamesLog bad
found_differs behind i (Some x) fields bad names is = subst NamesLog (same_Some (log_bad.Arena i x) bad is) (names x refl)
found_differs true i None fields bad names is =
    order_differs (clump_count_in fields == 0) (sealed_in fields == 0) i (clump_count_in fields) bad (some_clumps (clump_count_in fields)) is
found_differs false i None fields bad names is = absurd (cc)

pick : (o rest : Option LogBad) (bad : LogBad) → ((x : LogBad) → o ≡ Some x → NamesLog x) → (rest ≡ Some bad → NamesLog bad)
    → first_of_two o rest ≡ Some bad → NamesLog bad
pick (Some x) rest bad here later is = subst NamesLog (same_Some x bad is) (here x refl)
pick None rest bad here later is = later is

pub log_differs : (behind : Bool) (i : ℕ) (layout : List ArenaRegion) (fields : List (List ℕ)) (bad : LogBad)
    → first_bad_log behind i layout fields ≡ Some bad → NamesLog bad
log_differs behind i [] fields bad is = absurd (cc)
log_differs behind i (r ∷ rest) [] bad is = absurd (cc)
log_differs behind i (r ∷ rest) (f ∷ fields) bad is =
    pick (bad_arena behind i (first_bad_head r.number r.region.len f) f) (first_bad_log (behind || sealed_in f == 0) (i + 1) rest fields) bad
    (λ x here. found_differs behind i (first_bad_head r.number r.region.len f) f x (arena_differs r.number r.region.len f) here)
    (λ later. log_differs (behind || sealed_in f == 0) (i + 1) rest fields bad later)
    is
