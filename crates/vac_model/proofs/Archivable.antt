-- What may be archived is good once it is in order and numbered.
use Rattle.std.proofs.Common.{◌≡◌, ℕ, ◌+◌, ◌^◌, ◌<◌, ◌≤◌, ◌==◌, ◌||◌, ◌⊎◌, inl, inr, Bool, true, false, cond, Option, Some, None, List, [], ◌∷◌, ◌++◌, length, refl, sym, ◌∙◌, subst, arith, length-append}
use Rattle.std.specs.Prelude.{⊤, nat_lt, nat_le, is_some, position}
use Rattle.std.specs.Option.{option_or}
use Rattle.std.specs.Ordering.{nat_cmp, is_lt}
use Rattle.std.specs.Cmp.Lexicographic.{slice_cmp}
use Rattle.std.specs.Str.{bytes_eq}
use Rattle.std.proofs.lemmas.Bool.{cases_Bool, ltb-false, leb-false}
use Rattle.std.proofs.lemmas.Nat.{and_assoc, and_le_r}
use Rattle.vt_out.specs.declared.folder_item.Facts.{Facts}
use Rattle.vt_out.specs.FolderItems.{Items, none, file, folder, other}
use Rattle.vac_meta.specs.declared.TheConstants.{MAX_NAME}
use Rattle.vac_meta.specs.declared.record.Record.{Record}
use Rattle.vac_meta.specs.declared.record.RecordKind.TheVariants.{File, Folder}
use Rattle.vac_meta.specs.Records.{IsItemName, is_next, is_barred, all_spelled, record_bytes, string, number_fields}
use Rattle.vac_model.specs.declared.TheConstants.{MAX_FILE, MAX_METADATA, MAX_NESTING}
use Rattle.vac_model.specs.Archives.{item_record, records_of, metadata}
use Rattle.vac_model.specs.Good.{IsGood, AreGood}
use Rattle.vac_model.specs.Kept.{placed, in_order, kept, cut_mode, count, numbered, archived, path_to}
use Rattle.vac_model.specs.Limits.{bad_name, too_long, too_deep, is_bad_name, is_bad_behind, is_bad, first_bad_item, unfit_name, unfit_listing, unfit_inside, first_unfit, HaveTimes}
use Rattle.vac_model.specs.Trees.{nesting}
use Rattle.vac_model.proofs.InOrder.{NotBefore, AreOrdered, are_ordered}
use Rattle.vac_model.proofs.Names.{Below, below_below, above_other}

-- ---- tests that pass

true_false : {P : Type 0} → true ≡ false → P
true_false e = cc

some_none : {P A : Type 0} (a : A) → Some a ≡ None → P
some_none a e = cc

-- neither test holds
neither : (a b : Bool) → (a || b) ≡ false → (a ≡ false) × (b ≡ false)
neither true b e = true_false e
neither false b e = (refl, e)

-- a test that tells something doesn't, and what follows tells nothing either
passes : {A : Type 0} (t : Bool) (a : A) (rest : Option A) → cond t (Some a) rest ≡ None
    → (t ≡ false) × (rest ≡ None)
passes true a rest e = some_none a e
passes false a rest e = (refl, e)

both_none : {A : Type 0} (a b : Option A) → option_or a b ≡ None → (a ≡ None) × (b ≡ None)
both_none None b e = (refl, e)
both_none (Some x) b e = some_none x e

-- ---- names

-- the last name that is kept is that of the last item, or below it
abbrev Under : (kept seen : Option (List ℕ)) → Type 0
Under None seen = ⊤
Under (Some k) None = ⊥
Under (Some k) (Some s) = (k ≡ s) ⊎ Below k s

plain : (o : Option ℕ) → is_some o ≡ false → o ≡ None
plain None e = refl
plain (Some x) e = true_false e

pub a_name : (name : List ℕ) → is_bad_name name ≡ false → IsItemName name
a_name name e =
    let two = neither (length name == 0 || nat_lt MAX_NAME (length name))
    (is_some (position is_barred name)) e in
    let one = neither (length name == 0) (nat_lt MAX_NAME (length name)) two.0 in
    record {
      some = some_of name one.0;
      most = ltb-false MAX_NAME (length name) one.1;
      plain = plain (position is_barred name) two.1;
    }
  where
    some_of : (name : List ℕ) → (length name == 0) ≡ false → 1 ≤ length name
    some_of [] e = true_false e
    some_of (b ∷ name) e = omega arith

-- a name that may stand behind the last item is a name, and above the last that is kept
name_behind : (kept seen : Option (List ℕ)) (name : List ℕ) → is_bad_behind seen name ≡ false
    → NotBefore seen name → Under kept seen → IsItemName name × (is_next kept name ≡ true)
name_behind None None name good order under = (a_name name good, refl)
name_behind None (Some s) name good order under =
    (a_name name (neither (is_bad_name name) (bytes_eq s name) good).0, refl)
name_behind (Some k) None name good order under = absurd under
name_behind (Some k) (Some s) name good order under =
    let two = neither (is_bad_name name) (bytes_eq s name) good in
    let above : Below s name = above_other s name order two.1 in (
      a_name name two.0,
      elim under [
        | inl same ↦ subst (λ (n : List ℕ). Below n name) (sym same) above
        | inr below ↦ below_below k s name below above
      ],
    )

under_more : (kept seen : Option (List ℕ)) (name : List ℕ) → is_bad_behind seen name ≡ false
    → NotBefore seen name → Under kept seen → Under kept (Some name)
under_more None seen name good order under = tt
under_more (Some k) None name good order under = absurd under
under_more (Some k) (Some s) name good order under =
    inr (name_behind (Some k) (Some s) name good order under).1

-- ---- what numbers leave

record_len : (r : Record)
    → length (record_bytes r) ≡ 27 + length r.name + length r.uid + length r.gid
record_len r =
    omega (
      arith,
      length-append r.name (number_fields r ++ (string r.uid ++ string r.gid)),
      length-append r.uid (string r.gid),
    )

-- how long metadata is doesn't depend on the numbers
same_len : (m n i j : ℕ) (items : Items Facts)
    → length (all_spelled (records_of i (numbered m items)))
    ≡ length (all_spelled (records_of j (numbered n items)))
same_len m n i j none = refl
same_len m n i j (file about bytes others) =
    let a = item_record (record { facts = about; qid = m }) File i in
    let b = item_record (record { facts = about; qid = n }) File j in
    let same : length (record_bytes a) ≡ length (record_bytes b) = record_len a ∙ sym (record_len b) in
    omega (
      arith,
      same,
      same_len (m + 1) (n + 1) (i + 1) (j + 1) others,
      length-append (record_bytes a) (all_spelled (records_of (i + 1) (numbered (m + 1) others))),
      length-append (record_bytes b) (all_spelled (records_of (j + 1) (numbered (n + 1) others))),
    )
same_len m n i j (folder about inside others) =
    let a = item_record (record { facts = about; qid = m }) Folder i in
    let b = item_record (record { facts = about; qid = n }) Folder j in
    let p : ℕ = m + 1 + count inside in
    let q : ℕ = n + 1 + count inside in
    let same : length (record_bytes a) ≡ length (record_bytes b) = record_len a ∙ sym (record_len b) in
    omega (
      arith,
      same,
      same_len p q (i + 2) (j + 2) others,
      length-append (record_bytes a) (all_spelled (records_of (i + 2) (numbered p others))),
      length-append (record_bytes b) (all_spelled (records_of (j + 2) (numbered q others))),
    )
same_len m n i j (other about others) = same_len m n i j others

-- ---- items

listing_fits : (path : List ℕ) (items : Items Facts) → unfit_listing path items ≡ None
    → (first_bad_item None items ≡ None) × (length (metadata (numbered 1 (kept items))) ≤ MAX_METADATA)
listing_fits path items e = of (first_bad_item None items) refl e
  where
    of : (bad : Option (List ℕ)) → first_bad_item None items ≡ bad
        → unfit_name path bad (length (metadata (numbered 1 (kept items)))) ≡ None
        → (first_bad_item None items ≡ None)
        × (length (metadata (numbered 1 (kept items))) ≤ MAX_METADATA)
    of (Some name) is h = some_none (bad_name (path_to path name)) h
    of None is h =
        let n : ℕ = length (metadata (numbered 1 (kept items))) in
        (is, ltb-false MAX_METADATA n (passes (nat_lt MAX_METADATA n) too_long None h).0)

is_good : (kept seen : Option (List ℕ)) (about : Facts) (n : ℕ) → is_bad seen about ≡ false
    → NotBefore seen about.name → Under kept seen → about.mtime < 2 ^ 32 → n < 2 ^ 64
    → IsGood kept (record { facts = cut_mode about; qid = n })
is_good kept seen about n good order under time few =
    let gid = neither (is_bad_behind seen about.name || nat_lt MAX_NAME (length about.uid))
    (nat_lt MAX_NAME (length about.gid)) good in
    let uid = neither (is_bad_behind seen about.name) (nat_lt MAX_NAME (length about.uid)) gid.0
    in
    let name = name_behind kept seen about.name uid.0 order under in
    record {
      name = name.0;
      next = name.1;
      mode = and_assoc 511 about.mode 511;
      mode_fits = omega (arith, and_le_r about.mode 511);
      mtime = time;
      qid = few;
      uid = ltb-false MAX_NAME (length about.uid) uid.1;
      gid = ltb-false MAX_NAME (length about.gid) gid.1;
    }

good_name : (seen : Option (List ℕ)) (about : Facts) → is_bad seen about ≡ false
    → is_bad_behind seen about.name ≡ false
good_name seen about good =
    (neither (is_bad_behind seen about.name) (nat_lt MAX_NAME (length about.uid))
    (neither (is_bad_behind seen about.name || nat_lt MAX_NAME (length about.uid))
    (nat_lt MAX_NAME (length about.gid)) good).0).0

are_good : (last seen : Option (List ℕ)) (depth : ℕ) (path : List ℕ) (n : ℕ) (s : Items Facts)
    → AreOrdered seen s → first_bad_item seen s ≡ None → unfit_inside depth path s ≡ None
    → HaveTimes s → Under last seen → n + count (kept s) ≤ 2 ^ 64
    → AreGood last (numbered n (kept s))
are_good last seen depth path n none ordered good fit times under few = tt
are_good last seen depth path n (file about bytes others) ordered good fit times under few =
    let here = passes (is_bad seen about) about.name (first_bad_item (Some about.name) others) good in
    let long = passes (nat_lt MAX_FILE (length bytes)) too_long (unfit_inside depth path others)
    fit in (
      is_good last seen about n here.0 ordered.0 under times.0 (omega (arith, few)),
      ltb-false MAX_FILE (length bytes) long.0,
      are_good (Some about.name) (Some about.name) depth path (n + 1) others ordered.1 here.1
          long.1 times.1 (inl refl) (omega (arith, few)),
    )
are_good last seen depth path n (folder about inside others) ordered good fit times under few =
    let here = passes (is_bad seen about) about.name (first_bad_item (Some about.name) others) good in
    let below : List ℕ = path_to path about.name in
    let parts = both_none (cond (nat_le MAX_NESTING depth) (Some (too_deep below))
    (option_or (unfit_listing below inside) (unfit_inside (depth + 1) below inside)))
    (unfit_inside depth path others) fit in
    let deep = passes (nat_le MAX_NESTING depth) (too_deep below)
    (option_or (unfit_listing below inside) (unfit_inside (depth + 1) below inside)) parts.0 in
    let two = both_none (unfit_listing below inside) (unfit_inside (depth + 1) below inside) deep.1
    in
    let listed = listing_fits below inside two.0 in
    let len = same_len (n + 1) 1 0 0 (kept inside) in (
      is_good last seen about n here.0 ordered.0 under times.0 (omega (arith, few)),
      are_good None None (depth + 1) below (n + 1) inside ordered.1 listed.0 two.1 times.1 tt
          (omega (arith, few)),
      subst (λ (k : ℕ). k ≤ MAX_METADATA) (sym len) listed.1,
      are_good (Some about.name) (Some about.name) depth path (n + 1 + count (kept inside)) others
          ordered.2 here.1 parts.1 times.2 (inl refl) (omega (arith, few)),
    )
are_good last seen depth path n (other about others) ordered good fit times under few =
    let here = passes (is_bad_behind seen about.name) about.name
    (first_bad_item (Some about.name) others) good in
    are_good last (Some about.name) depth path n others ordered.1 here.1 fit times
    (under_more last seen about.name here.0 ordered.0 under) few

-- ---- depths

not_deep : (depth : ℕ) → nat_le MAX_NESTING depth ≡ false → depth + 1 ≤ 256
not_deep depth e = omega (arith, leb-false MAX_NESTING depth e)

nested : (depth : ℕ) (path : List ℕ) (n : ℕ) (s : Items Facts) → unfit_inside depth path s ≡ None
    → depth ≤ 256 → nesting (numbered n (kept s)) + depth ≤ 256
nested depth path n none fit low = omega (arith, low)
nested depth path n (file about bytes others) fit low =
    nested depth path (n + 1) others
    (passes (nat_lt MAX_FILE (length bytes)) too_long (unfit_inside depth path others) fit).1 low
nested depth path n (folder about inside others) fit low =
    let below : List ℕ = path_to path about.name in
    let parts = both_none (cond (nat_le MAX_NESTING depth) (Some (too_deep below))
    (option_or (unfit_listing below inside) (unfit_inside (depth + 1) below inside)))
    (unfit_inside depth path others) fit in
    let deep = passes (nat_le MAX_NESTING depth) (too_deep below)
    (option_or (unfit_listing below inside) (unfit_inside (depth + 1) below inside)) parts.0 in
    let two = both_none (unfit_listing below inside) (unfit_inside (depth + 1) below inside) deep.1
    in
    let within = nested (depth + 1) below (n + 1) inside two.1 (not_deep depth deep.0) in
    let rest = nested depth path (n + 1 + count (kept inside)) others parts.1 low in
    omega (arith, within, rest)
nested depth path n (other about others) fit low = nested depth path n others fit low

-- ---- times

timed : (name : List ℕ) (put : Items Facts → Items Facts) (items : Items Facts)
    → ((rest : Items Facts) → HaveTimes rest → HaveTimes (put rest)) → HaveTimes items
    → HaveTimes (placed name put items)
timed name put none puts times = puts none tt
timed name put (file about bytes others) puts times =
    elim (cases_Bool (is_lt (slice_cmp nat_cmp about.name name))) [
      | inl less ↦ rw less (times.0, timed name put others puts times.1)
      | inr not ↦ rw not (puts (file about bytes others) times)
    ]
timed name put (folder about inside others) puts times =
    elim (cases_Bool (is_lt (slice_cmp nat_cmp about.name name))) [
      | inl less ↦ rw less (times.0, times.1, timed name put others puts times.2)
      | inr not ↦ rw not (puts (folder about inside others) times)
    ]
timed name put (other about others) puts times =
    elim (cases_Bool (is_lt (slice_cmp nat_cmp about.name name))) [
      | inl less ↦ rw less (timed name put others puts times)
      | inr not ↦ rw not (puts (other about others) times)
    ]

times_in_order : (items : Items Facts) → HaveTimes items → HaveTimes (in_order items)
times_in_order none times = tt
times_in_order (file about bytes others) times =
    timed about.name (file about bytes) (in_order others) (λ rest t. (times.0, t))
    (times_in_order others times.1)
times_in_order (folder about inside others) times =
    let within = times_in_order inside times.1 in
    timed about.name (folder about (in_order inside)) (in_order others)
    (λ rest t. (times.0, within, t)) (times_in_order others times.2)
times_in_order (other about others) times =
    timed about.name (other about) (in_order others) (λ rest t. t) (times_in_order others times)

same_count : (n : ℕ) (items : Items Facts) → count (numbered n items) ≡ count items
same_count n none = refl
same_count n (file about bytes others) = omega (arith, same_count (n + 1) others)
same_count n (folder about inside others) =
    omega (arith, same_count (n + 1) inside, same_count (n + 1 + count inside) others)
same_count n (other about others) = same_count n others

-- what passes every test is good
pub fit_is_good : (items : Items Facts) → first_unfit items ≡ None → HaveTimes items
    → count (archived items) < 2 ^ 64
    → AreGood None (archived items) × (length (metadata (archived items)) ≤ MAX_METADATA)
    × (nesting (archived items) ≤ MAX_NESTING)
fit_is_good items fit times few =
    let s : Items Facts = in_order items in
    let two = both_none (unfit_listing [] s) (unfit_inside 0 [] s) fit in
    let listed = listing_fits [] s two.0 in
    let counted = same_count 1 (kept s) in (
      are_good None None 0 [] 1 s (are_ordered items) listed.0 two.1 (times_in_order items times)
          tt (omega (arith, counted, few)),
      listed.1,
      omega (arith, nested 0 [] 1 s two.1 (omega arith)),
    )
