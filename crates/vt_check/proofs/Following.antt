-- Clumps that are cut, and those that were followed, with some more.
use Rattle.std.proofs.Common.{◌≡◌, ◌∙◌, ⊎_elim, ℕ, zero, suc, min, ◌+◌, ◌-◌, ◌*◌, ◌/◌, ◌<◌, ◌≤◌, Bool, true, false, Option, None, Some, List, [], ◌∷◌, ◌++◌, length, take, drop, map, replicate, fold, refl, sym, ap, subst, arith, append-nil, append_assoc, length-append, length-take, length-drop, take-append-drop}
use Rattle.std.specs.Prelude.{All, slice_get, sum_by}
use Rattle.std.specs.Option.{option_map, option_or}
use Rattle.std.proofs.lemmas.Bool.{cases_lt}
use Rattle.std.proofs.lemmas.List.{drop-drop, drop-take, drop_all, map-append, take-take, take_all, take_more}
use Rattle.std.proofs.lemmas.List.Sums.{fold-append, sum_by-append, sum_by-cons}
use Rattle.std.proofs.lemmas.Option.{get_or_from_slice_get, slice_get_within}
use Rattle.std.proofs.Math.Seq.{drop-cons}
use Rattle.std.specs.List.{AllZip}
use Rattle.vt_arena.specs.Directory.{last_entry, sectors_before}
use Rattle.vt_arena.specs.Layout.{directory_place}
use Rattle.vt_arena.proofs.Layouts.{all_head, all_tail, part-part}
use Rattle.vt_base.specs.Bytes.{AreBytes}
use Rattle.vt_clump.specs.declared.reading.ClumpBad.{ClumpBad}
use Rattle.vt_clump.specs.declared.reading.ClumpBad.TheVariants.{Short, Magic, Kind, Encoding, Size, Score, NoMemory as ClumpNoMemory}
use Rattle.vt_clump.specs.Faults.{IsClumpRefusal, first_bad_clump}
use Rattle.vt_clump.specs.Spelling.{clump_len, size_in, stored_in}
use Rattle.vt_disk.specs.Disk.{part}
use Rattle.vt_disk.specs.declared.region.Region.{Region}
use Rattle.vt_check.specs.declared.checking.Damage.{Damage}
use Rattle.vt_check.specs.declared.clumps.Cut.{Cut}
use Rattle.vt_check.specs.declared.clumps.Followed.{Followed}
use Rattle.vt_check.specs.declared.clumps.Tested.{Tested}
use Rattle.vt_check.specs.declared.clumps.Tested.TheVariants.{BadClump, NoMemory}
use Rattle.vt_check.specs.Checking.{bad_clump, bad_entry, bad_link, chain_of_entries, clump_damage, clump_in, clumps_in, damage_by, entries_at, entry_damage, last_taken, link_damage, sectors_in, taken}
use Rattle.vt_check.specs.Following.{CutsFirst, HasFollowed, HasOwnEntry, IsEntryRead, IsFrontOf, IsSoundClump, IsWithinWindow, TestsAs, cut_bytes, entries_in, taken_by_cuts}
use Rattle.vt_check.proofs.Judging.{all_cons, size-take, sound_passes}
use Rattle.vt_check.proofs.Taken.{behind_clump, taken_most}

-- ---- one more

pub or_assoc : {A : Type 0} (a b c : Option A) → option_or (option_or a b) c ≡ option_or a (option_or b c)
or_assoc (Some x) b c = refl
or_assoc None b c = refl

or_nothing : {A : Type 0} (a : Option A) → option_or a None ≡ a
or_nothing (Some x) = refl
or_nothing None = refl

pub all_snoc : {X : Type 0} (P : X → Type 0) (xs : List X) (x : X) → All P xs → P x → All P (xs ++ x ∷ [])
all_snoc P [] x all last = all_cons P x [] last all
all_snoc P (y ∷ ys) x all last = all_cons P y (ys ++ x ∷ []) (all 0 y (omega arith)) (all_snoc P ys x (λ k d below. all (suc k) d (omega (arith, below))) last)

pub bad_clump-append : (score : List ℕ → List ℕ) (xs ys : List (List ℕ)) → bad_clump score (xs ++ ys) ≡ option_or (bad_clump score xs) (bad_clump score ys)
bad_clump-append score [] ys = refl
bad_clump-append score (x ∷ xs) ys =
    ap (λ (o : Option Damage). option_or (clump_damage score x) o) (bad_clump-append score xs ys)
    ∙ sym (or_assoc (clump_damage score x) (bad_clump score xs) (bad_clump score ys))

bad_entry-snoc : (cs es : List (List ℕ)) (c e : List ℕ) → length es ≡ length cs
    → bad_entry (cs ++ c ∷ []) (es ++ e ∷ []) ≡ option_or (bad_entry cs es) (entry_damage (stored_in c) e)
bad_entry-snoc [] [] c e many = or_nothing (entry_damage (stored_in c) e)
bad_entry-snoc [] (y ∷ ys) c e many = absurd (omega (arith, many))
bad_entry-snoc (x ∷ xs) [] c e many = absurd (omega (arith, many))
bad_entry-snoc (x ∷ xs) (y ∷ ys) c e many =
    ap (λ (o : Option Damage). option_or (entry_damage (stored_in x) y) o) (bad_entry-snoc xs ys c e (omega (arith, many)))
    ∙ sym (or_assoc (entry_damage (stored_in x) y) (bad_entry xs ys) (entry_damage (stored_in c) e))

last-snoc : (before : ℕ) (cs : List (List ℕ)) (c : List ℕ) → last_taken before (cs ++ c ∷ []) ≡ sectors_in c
last-snoc before [] c = refl
last-snoc before (x ∷ xs) c = last-snoc (sectors_in x) xs c

bad_link-snoc : (before : ℕ) (cs : List (List ℕ)) (c : List ℕ)
    → bad_link before (cs ++ c ∷ []) ≡ option_or (bad_link before cs) (link_damage (last_taken before cs) c)
bad_link-snoc before [] c = or_nothing (link_damage before c)
bad_link-snoc before (x ∷ xs) c =
    ap (λ (o : Option Damage). option_or (link_damage before x) o) (bad_link-snoc (sectors_in x) xs c)
    ∙ sym (or_assoc (link_damage before x) (bad_link (sectors_in x) xs) (link_damage (last_taken (sectors_in x) xs) c))

module _ (score : List ℕ → List ℕ) (version : ℕ) (clumps entries : List (List ℕ)) (f new : Followed) (it : HasFollowed score version clumps entries f) (clump entry : List ℕ) where
  -- behind a sound clump
  pub followed_more : new.clumps ≡ f.clumps + 1 → new.used ≡ f.used + taken version (length clump) → new.last ≡ sectors_in clump
      → new.link ≡ option_or f.link (link_damage f.last clump) → new.chain.0 ≡ score (f.chain.0 ++ entry)
      → new.entry ≡ option_or f.entry (entry_damage (stored_in clump) entry) → clump_damage score clump ≡ None
      → AreBytes clump → IsEntryRead entry → HasFollowed score version (clumps ++ clump ∷ []) (entries ++ entry ∷ []) new
  followed_more count used last link chain damage sound bytes read = record {
    count = omega (arith, count, it.count, length-append clumps (clump ∷ []));
    entries_count = omega (arith, it.entries_count, length-append clumps (clump ∷ []), length-append entries (entry ∷ []));
    used = omega (arith, used, it.used, sum_by-append (λ (c : List ℕ). taken version (length c)) clumps (clump ∷ []));
    last = last ∙ sym (last-snoc 0 clumps clump);
    link = link ∙ (λ i. option_or (it.link i) (link_damage (it.last i) clump)) ∙ sym (bad_link-snoc 0 clumps clump);
    sound =
        bad_clump-append score clumps (clump ∷ [])
        ∙ ap (λ (o : Option Damage). option_or o (bad_clump score (clump ∷ []))) it.sound
        ∙ or_nothing (clump_damage score clump) ∙ sound;
    entry = damage ∙ ap (λ (o : Option Damage). option_or o (entry_damage (stored_in clump) entry)) it.entry ∙ sym (bad_entry-snoc clumps entries clump entry it.entries_count);
    chain = chain ∙ ap (λ (c : List ℕ). score (c ++ entry)) it.chain
        ∙ sym (fold-append (λ (c e : List ℕ). score (c ++ e)) (replicate 20 0) entries (entry ∷ []));
    bytes = all_snoc AreBytes clumps clump it.bytes bytes;
    reads = all_snoc IsEntryRead entries entry it.reads read;
  }

  -- at one that is damaged
  pub followed_to : (damage : Damage) → clump_damage score clump ≡ Some damage → (behind : List (List ℕ)) → bad_clump score (clumps ++ clump ∷ behind) ≡ Some damage
  followed_to damage is behind =
      bad_clump-append score clumps (clump ∷ behind)
      ∙ ap (λ (o : Option Damage). option_or o (bad_clump score (clump ∷ behind))) it.sound
      ∙ ap (λ (o : Option Damage). option_or o (bad_clump score behind)) is

-- ---- cutting

-- the first clump of bytes, of which more may follow
module _ (all bytes : List ℕ) (start : ℕ) (more : Bool) (front : IsFrontOf more bytes all) (within : start ≤ length bytes)
    (room : more ≡ true → 65573 ≤ length bytes - start) where
  rest_is : drop start bytes ≡ take (length bytes - start) (drop start all)
  rest_is =
      let split : length bytes ≡ start + (length bytes - start) = omega (arith, within) in
      ap (λ (l : List ℕ). drop start l) (sym front.front) ∙ ap (λ (n : ℕ). drop start (take n all)) split ∙ drop-take start (length bytes - start) all

  whole_is : more ≡ false → drop start bytes ≡ drop start all
  whole_is none = ap (λ (l : List ℕ). drop start l) (sym front.front ∙ take_all (length bytes) all (omega (arith, front.whole none)))

  size_is : size_in (drop start bytes) ≡ size_in (drop start all)
  size_is = by_more more refl
    where
      by_more : (b : Bool) → more ≡ b → size_in (drop start bytes) ≡ size_in (drop start all)
      by_more true is = ap (λ (l : List ℕ). size_in l) rest_is ∙ size-take (length bytes - start) (drop start all) (omega (arith, room is))
      by_more false is = ap (λ (l : List ℕ). size_in l) (whole_is is)

  -- it ends among the bytes, or where all end
  pub first_clump : (38 ≤ length (drop start bytes) → size_in (drop start bytes) < 65536) → clump_in (drop start all) ≡ clump_in (drop start bytes)
  first_clump small = by_more more refl
    where
      by_more : (b : Bool) → more ≡ b → clump_in (drop start all) ≡ clump_in (drop start bytes)
      by_more true is =
          sym (ap (λ (l : List ℕ). clump_in l) rest_is
          ∙ ap (λ (n : ℕ). take (clump_len n) (take (length bytes - start) (drop start all))) (sym (ap (λ (l : List ℕ). size_in l) rest_is) ∙ size_is)
          ∙ take-take (clump_len (size_in (drop start all))) (length bytes - start) (drop start all) (omega (arith, room is, size_is, small (omega (arith, room is, length-drop start bytes)))))
      by_more false is = ap (λ (l : List ℕ). clump_in l) (sym (whole_is is))

-- ---- cutting in turn

pub record IsCutting (version : ℕ) (bytes : List ℕ) (more : Bool) (entries : List ℕ) (own : Bool) (count start left : ℕ) (cuts : List Cut) : Type 0 where
  pub within : All (IsWithinWindow bytes) cuts
  pub count_is : left + length cuts ≡ count
  -- behind the last clump there may be less than it takes
  pub start_is : start ≡ min (taken_by_cuts version cuts) (length bytes)
  pub start_most : start ≤ length bytes
  pub entries_are : own ≡ false → map (λ cut. cut.entry) cuts ++ entries_in left entries ≡ entries_in count entries
  pub own_are : own ≡ true → All (HasOwnEntry bytes) cuts
  pub first : (all : List ℕ) → IsFrontOf more bytes all → CutsFirst version bytes all cuts

pub begin_cutting : (version : ℕ) (bytes : List ℕ) (more : Bool) (entries : List ℕ) (own : Bool) (count : ℕ) → IsCutting version bytes more entries own count 0 count []
begin_cutting version bytes more entries own count = record {
  within = λ k d below. absurd (omega (arith, below));
  count_is = omega arith;
  start_is = omega arith;
  start_most = omega arith;
  entries_are = λ off. refl;
  own_are = λ on k d below. absurd (omega (arith, below));
  first = λ all front n few. ap (λ (m : ℕ). clumps_in version m all) (omega arith);
}

module _ (version : ℕ) (bytes : List ℕ) (more : Bool) (entries : List ℕ) (own : Bool) (count start left less : ℕ) (cuts : List Cut)
    (it : IsCutting version bytes more entries own count start left cuts) (left_is : left ≡ suc less) (room : more ≡ true → 65573 ≤ length bytes - start)
    (cut : Cut) (inside : IsWithinWindow bytes cut) (clump : cut_bytes bytes cut ≡ clump_in (drop start bytes))
    (len : cut.end - cut.start ≡ length (clump_in (drop start bytes))) (small : 38 ≤ length (drop start bytes) → size_in (drop start bytes) < 65536)
    (entry : own ≡ false → cut.entry ≡ part (25 * less) 25 entries) (own_entry : own ≡ true → HasOwnEntry bytes cut)
    (next : ℕ) (next_is : next ≡ min (start + taken version (cut.end - cut.start)) (length bytes)) where
  sum_is : taken_by_cuts version (cuts ++ cut ∷ []) ≡ taken_by_cuts version cuts + taken version (cut.end - cut.start)
  sum_is = omega (arith, sum_by-append (λ (c : Cut). taken version (c.end - c.start)) cuts (cut ∷ []))

  module _ (all : List ℕ) (front : IsFrontOf more bytes all) where
    -- behind so much stands what stands where the next is cut
    drops_same : drop (taken_by_cuts version cuts) all ≡ drop start all
    drops_same = ⊎_elim
        (λ (past : length bytes < taken_by_cuts version cuts). by_more more refl past)
        (λ (within : taken_by_cuts version cuts ≤ length bytes).
        let here : taken_by_cuts version cuts ≡ start = omega (arith, within, it.start_is) in
        ap (λ (n : ℕ). drop n all) here)
        (cases_lt (length bytes) (taken_by_cuts version cuts))
      where
        by_more : (b : Bool) → more ≡ b → length bytes < taken_by_cuts version cuts → drop (taken_by_cuts version cuts) all ≡ drop start all
        by_more true is past = absurd (omega (arith, past, it.start_is, room is))
        by_more false is past =
            drop_all (taken_by_cuts version cuts) all (omega (arith, past, front.whole is))
            ∙ sym (drop_all start all (omega (arith, past, it.start_is, front.whole is)))

    same_clump : clump_in (drop (taken_by_cuts version cuts) all) ≡ clump_in (drop start bytes)
    same_clump = ap (λ (l : List ℕ). clump_in l) drops_same ∙ first_clump all bytes start more front it.start_most room small

    behind_is : drop (taken version (clump_len (size_in (drop (taken_by_cuts version cuts) all)))) (drop (taken_by_cuts version cuts) all)
        ≡ drop (taken_by_cuts version (cuts ++ cut ∷ [])) all
    behind_is =
        behind_clump version (drop (taken_by_cuts version cuts) all)
        ∙ ap (λ (k : ℕ). drop (taken version k) (drop (taken_by_cuts version cuts) all)) (ap (λ (l : List ℕ). length l) same_clump ∙ sym len)
        ∙ drop-drop (taken version (cut.end - cut.start)) (taken_by_cuts version cuts) all ∙ ap (λ (k : ℕ). drop k all) (sym sum_is)

    first_more : CutsFirst version bytes all (cuts ++ cut ∷ [])
    first_more m few =
        let many : length (cuts ++ cut ∷ []) ≡ length cuts + 1 = length-append cuts (cut ∷ []) in
        let count_left : m - length cuts ≡ suc (m - length (cuts ++ cut ∷ [])) = omega (arith, few, many) in
        let behind : List (List ℕ) = clumps_in version (m - length (cuts ++ cut ∷ [])) (drop (taken_by_cuts version (cuts ++ cut ∷ [])) all) in
        it.first all front m (omega (arith, few, many))
        ∙ ap (λ (k : ℕ). map (cut_bytes bytes) cuts ++ clumps_in version k (drop (taken_by_cuts version cuts) all)) count_left
        ∙ (λ i. map (cut_bytes bytes) cuts ++ (same_clump i ∷ clumps_in version (m - length (cuts ++ cut ∷ [])) (behind_is i)))
        ∙ ap (λ (c : List ℕ). map (cut_bytes bytes) cuts ++ (c ∷ behind)) (sym clump)
        ∙ sym (append_assoc (map (cut_bytes bytes) cuts) (cut_bytes bytes cut ∷ []) behind)
        ∙ ap (λ (l : List (List ℕ)). l ++ behind) (sym (map-append (cut_bytes bytes) cuts (cut ∷ [])))

  pub cut_more : IsCutting version bytes more entries own count next less (cuts ++ cut ∷ [])
  cut_more = record {
    within = all_snoc (IsWithinWindow bytes) cuts cut it.within inside;
    count_is = omega (arith, it.count_is, left_is, length-append cuts (cut ∷ []));
    start_is = omega (arith, next_is, it.start_is, sum_is);
    start_most = omega (arith, next_is);
    entries_are = λ off.
        ap (λ (l : List (List ℕ)). l ++ entries_in less entries) (map-append (λ (c : Cut). c.entry) cuts (cut ∷ []))
        ∙ append_assoc (map (λ (c : Cut). c.entry) cuts) (cut.entry ∷ []) (entries_in less entries)
        ∙ ap (λ (e : List ℕ). map (λ (c : Cut). c.entry) cuts ++ (e ∷ entries_in less entries)) (entry off)
        ∙ ap (λ (k : ℕ). map (λ (c : Cut). c.entry) cuts ++ entries_in k entries) (sym left_is)
        ∙ it.entries_are off;
    own_are = λ on. all_snoc (HasOwnEntry bytes) cuts cut (it.own_are on) (own_entry on);
    first = λ all front. first_more all front;
  }

-- ---- entries

pub entries_split : (region : Region) (i m n : ℕ) (file : List ℕ) → entries_at region i (m + n) file ≡ entries_at region i m file ++ entries_at region (i + m) n file
entries_split region i zero n file =
    let none : 0 + n ≡ n = omega arith in
    let here : i ≡ i + 0 = omega arith in
    (λ j. entries_at region (here j) (none j) file)
entries_split region i (suc m) n file =
    let more : suc m + n ≡ suc (m + n) = omega arith in
    let behind : i + 1 + m ≡ i + suc m = omega arith in
    ap (λ (k : ℕ). entries_at region i k file) more
    ∙ ap (λ (es : List (List ℕ)). last_entry region (i + 1) file ∷ es)
    (entries_split region (i + 1) m n file ∙ ap (λ (k : ℕ). entries_at region (i + 1) m file ++ entries_at region k n file) behind)

-- entries that were read together
pub entries_read : (region : Region) (i n : ℕ) (file : List ℕ) → 25 * (i + n) ≤ region.start + region.len
    → entries_in n (part (directory_place region (i + n)) (25 * n) file) ≡ entries_at region i n file
entries_read region i n file fits = read_to n n (omega arith) i (omega arith)
  where
    buffer : List ℕ
    buffer = part (directory_place region (i + n)) (25 * n) file

    read_to : (m all : ℕ) → m ≤ n → (j : ℕ) → j + m ≡ i + n → entries_in m buffer ≡ entries_at region j m file
    read_to zero all few j same = refl
    read_to (suc m) all few j same =
        let here : part (25 * m) 25 buffer ≡ last_entry region (j + 1) file =
        part-part (directory_place region (i + n)) (25 * n) (25 * m) 25 file (omega (arith, few))
        ∙ ap (λ (p : ℕ). part p 25 file) (omega (arith, same, fits, few)) in
        let rest : entries_in m buffer ≡ entries_at region (j + 1) m file = read_to m all (omega (arith, few)) (j + 1) (omega (arith, same)) in
        (λ k. here k ∷ rest k)

-- a chain and an entry that were put one behind the other
pub joined : (a b chain entry : List ℕ) (at : ℕ) → length b ≡ 45 → length chain ≡ 20 → length entry ≡ 25 → take (0 + length chain) a ≡ chain → at ≡ 0 + length chain
    → take (at + length entry) b ≡ take at a ++ entry → b ≡ chain ++ entry
joined a b chain entry at len chain_len entry_len first is_at second =
    sym (take_all (at + length entry) b (omega (arith, len, is_at, chain_len, entry_len)))
    ∙ second ∙ ap (λ (l : List ℕ). l ++ entry) (ap (λ (n : ℕ). take n a) is_at ∙ first)

-- ---- places

pub zip_at : {A B : Type 0} (R : A → B → Type 0) (xs : List A) (ys : List B) (i : ℕ) → AllZip R xs ys → i < length xs
    → (x : A) × (y : B) × (slice_get xs i ≡ Some x) × (slice_get ys i ≡ Some y) × R x y
zip_at R [] [] i all below = absurd (omega (arith, below))
zip_at R [] (y ∷ ys) i all below = absurd all
zip_at R (x ∷ xs) [] i all below = absurd all
zip_at R (x ∷ xs) (y ∷ ys) zero all below = (x, y, refl, refl, all.0)
zip_at R (x ∷ xs) (y ∷ ys) (suc i) all below = zip_at R xs ys i all.1 (omega (arith, below))

pub split_at_place : {X : Type 0} (xs : List X) (i : ℕ) (x : X) → slice_get xs i ≡ Some x → xs ≡ take i xs ++ x ∷ drop (suc i) xs
split_at_place {X} xs i x at =
    sym (take-append-drop i xs)
    ∙ ap (λ (l : List X). take i xs ++ l) (drop-cons xs i x (slice_get_within xs i x at)
    ∙ ap (λ (y : X). y ∷ drop (suc i) xs) (get_or_from_slice_get xs i x x at))

pub take_one_more : {X : Type 0} (xs : List X) (i : ℕ) (x : X) → slice_get xs i ≡ Some x → take (i + 1) xs ≡ take i xs ++ x ∷ []
take_one_more {X} xs i x at =
    take_more xs i x (slice_get_within xs i x at) ∙ ap (λ (y : X). take i xs ++ y ∷ []) (get_or_from_slice_get xs i x x at)

-- ---- testing

-- bytes that are no clump
pub refused_as : (score : List ℕ → List ℕ) (bytes entry : List ℕ) (bad : ClumpBad) (result : Tested) → IsClumpRefusal (first_bad_clump score bytes) bad
    → (¬ (bad ≡ ClumpNoMemory) → result ≡ BadClump (damage_by bad)) → (bad ≡ ClumpNoMemory → result ≡ NoMemory) → TestsAs score bytes entry result
refused_as score bytes entry bad result refusal damaged memory = ⊎_elim
    (λ (first : first_bad_clump score bytes ≡ Some bad). by_case bad first damaged memory)
    (λ none. subst (λ (t : Tested). TestsAs score bytes entry t) (sym (memory none.1)) tt)
    refusal
  where
    told : (b : ClumpBad) → first_bad_clump score bytes ≡ Some b → result ≡ BadClump (damage_by b) → TestsAs score bytes entry result
    told b first is = subst (λ (t : Tested). TestsAs score bytes entry t) (sym is) (ap (λ (o : Option ClumpBad). option_map damage_by o) first)

    by_case : (b : ClumpBad) → first_bad_clump score bytes ≡ Some b → (¬ (b ≡ ClumpNoMemory) → result ≡ BadClump (damage_by b)) → (b ≡ ClumpNoMemory → result ≡ NoMemory)
        → TestsAs score bytes entry result
    by_case ClumpNoMemory first damaged memory = subst (λ (t : Tested). TestsAs score bytes entry t) (sym (memory refl)) tt
    by_case Short first damaged memory = told Short first (damaged (λ is. cc))
    by_case (Magic it) first damaged memory = told (Magic it) first (damaged (λ is. cc))
    by_case (Kind it) first damaged memory = told (Kind it) first (damaged (λ is. cc))
    by_case (Encoding it) first damaged memory = told (Encoding it) first (damaged (λ is. cc))
    by_case (Size want it) first damaged memory = told (Size want it) first (damaged (λ is. cc))
    by_case (Score want it) first damaged memory = told (Score want it) first (damaged (λ is. cc))

-- bytes that are a clump
pub sound_as : (score : List ℕ → List ℕ) (bytes : List ℕ) → AreBytes bytes → first_bad_clump score bytes ≡ None → IsSoundClump score bytes
sound_as score bytes are none = record { bytes = are; none = ap (λ (o : Option ClumpBad). option_map damage_by o) none }

-- ---- following in turn

-- how many bytes a cut has
pub cut_len : (window : List ℕ) (cut : Cut) → IsWithinWindow window cut → length (cut_bytes window cut) ≡ cut.end - cut.start
cut_len window cut inside =
    omega (arith, length-take (cut.end - cut.start) (drop cut.start window), length-drop cut.start window, inside.end, inside.is_cut.order)

-- so many cuts take no more than so many clumps with the rest of their last sectors
pub taken_few : (version : ℕ) (window : List ℕ) (cuts : List Cut) → All (IsWithinWindow window) cuts → taken_by_cuts version cuts ≤ 66084 * length cuts
taken_few version window [] all = omega arith
taken_few version window (x ∷ xs) all =
    omega (
      arith,
      sum_by-cons (λ (c : Cut). taken version (c.end - c.start)) x xs,
      taken_most version (x.end - x.start),
      (all_head (IsWithinWindow window) x xs all).is_cut.most,
      taken_few version window xs (all_tail (IsWithinWindow window) x xs all),
    )

pub step_on : (score : List ℕ → List ℕ) (version : ℕ) (window : List ℕ) (clumps entries : List (List ℕ)) (f new : Followed) (x cut : Cut) (damage : Option Damage)
    → ((cs es : List (List ℕ)) (clump : List ℕ) → HasFollowed score version cs es f → length clump ≡ cut.end - cut.start → IsSoundClump score clump
    → cut.creator ≡ sectors_before clump
    → entry_damage (stored_in clump) cut.entry ≡ damage → HasFollowed score version (cs ++ clump ∷ []) (es ++ cut.entry ∷ []) new)
    → cut ≡ x → HasFollowed score version clumps entries f → IsWithinWindow window x → IsSoundClump score (cut_bytes window x)
    → entry_damage (stored_in (cut_bytes window x)) x.entry ≡ damage → HasFollowed score version (clumps ++ cut_bytes window x ∷ []) (entries ++ x.entry ∷ []) new
step_on score version window clumps entries f new x cut damage step is it inside sound entry =
    let len : length (cut_bytes window x) ≡ x.end - x.start = cut_len window x inside in
    let long : 38 ≤ x.end - x.start = omega (arith, len, (sound_passes score (cut_bytes window x) sound.none).long) in
    subst (λ (e : List ℕ). HasFollowed score version (clumps ++ cut_bytes window x ∷ []) (entries ++ e ∷ []) new) (ap (λ (t : Cut). t.entry) is)
    (step clumps entries (cut_bytes window x) it (len ∙ sym (ap (λ (t : Cut). t.end - t.start) is)) sound
    (ap (λ (t : Cut). t.creator) is ∙ inside.creator long)
    (ap (λ (t : Cut). entry_damage (stored_in (cut_bytes window x)) t.entry) is ∙ entry))

pub used_on : (version old new : ℕ) (x cut : Cut) → new ≡ old + taken version (cut.end - cut.start) → cut ≡ x → new ≡ old + taken version (x.end - x.start)
used_on version old new x cut used is = used ∙ ap (λ (t : Cut). old + taken version (t.end - t.start)) is

pub grows : (f : Cut → List ℕ) (front : List (List ℕ)) (cuts : List Cut) (i : ℕ) (x : Cut) → slice_get cuts i ≡ Some x
    → (front ++ map f (take i cuts)) ++ f x ∷ [] ≡ front ++ map f (take (i + 1) cuts)
grows f front cuts i x at =
    append_assoc front (map f (take i cuts)) (f x ∷ [])
    ∙ ap (λ (l : List (List ℕ)). front ++ l) (sym (map-append f (take i cuts) (x ∷ [])) ∙ ap (λ (l : List Cut). map f l) (sym (take_one_more cuts i x at)))

pub sum_grows : (version : ℕ) (cuts : List Cut) (i : ℕ) (x : Cut) → slice_get cuts i ≡ Some x
    → taken_by_cuts version (take (i + 1) cuts) ≡ taken_by_cuts version (take i cuts) + taken version (x.end - x.start)
sum_grows version cuts i x at =
    let more : taken_by_cuts version (take (i + 1) cuts) ≡ taken_by_cuts version (take i cuts ++ x ∷ []) =
    ap (λ (l : List Cut). taken_by_cuts version l) (take_one_more cuts i x at) in
    omega (arith, more, sum_by-append (λ (c : Cut). taken version (c.end - c.start)) (take i cuts) (x ∷ []))
