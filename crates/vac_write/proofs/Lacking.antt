-- A folder that was tried, in which nothing is lacking.
use Rattle.std.proofs.Common.{◌≡◌, ℕ, ◌<◌, ◌^◌, Bool, true, false, cond, IsTrue, List, [], ◌∷◌, ◌++◌, refl, sym, ◌∙◌, ap, nat_cmp, is_lt}
use Rattle.std.specs.Prelude.{⊤}
use Rattle.std.specs.Cmp.Lexicographic.{slice_cmp}
use Rattle.std.proofs.lemmas.Bool.{false≢true}
use Rattle.vt_out.specs.declared.folder_item.Facts.{Facts}
use Rattle.vt_out.specs.FolderItems.{FailingPaths, Items, none, file, folder, other}
use Rattle.vt_model.specs.History.{Block}
use Rattle.vac_model.specs.Kept.{in_order, path_to, placed}
use Rattle.vac_model.specs.Limits.{HaveTimes}
use Rattle.vac_write.specs.Tried.{Tried, no_more, read, listed, passed, unread, unlisted, whole, found, failed_at, LacksOnly, begun_in}

-- ---- no path is told

both_empty : {A : Type 0} (xs ys : List A) → xs ++ ys ≡ [] → (xs ≡ []) × (ys ≡ [])
both_empty [] ys is = (refl, is)
both_empty (x ∷ xs) ys is =
    let e : x ∷ (xs ++ ys) ≡ [] = is in let never : ⊥ = cc in absurd never

-- where none is, all was found, and no blocks were put of anything else
pub none_lacking : (path : List ℕ) (tried : Tried) → failed_at path tried ≡ []
    → (found tried ≡ whole tried) × (begun_in tried ≡ [])
none_lacking path no_more is = (refl, refl)
none_lacking path (read about bytes others) is =
    let rest = none_lacking path others is in (ap (file about bytes) rest.0, rest.1)
none_lacking path (listed about inside others) is =
    let two = both_empty (failed_at (path_to path about.name) inside) (failed_at path others) is in
    let within = none_lacking (path_to path about.name) inside two.0 in
    let rest = none_lacking path others two.1 in (
      (λ i. folder about (within.0 i) (rest.0 i)),
      (λ i. within.1 i ++ rest.1 i),
    )
none_lacking path (passed about others) is =
    let rest = none_lacking path others is in (ap (other about) rest.0, rest.1)
none_lacking path (unread about bytes begun others) is =
    let e : path_to path about.name ∷ failed_at path others ≡ [] = is in
    let never : ⊥ = cc in absurd never
none_lacking path (unlisted about inside others) is =
    let e : path_to path about.name ∷ failed_at path others ≡ [] = is in
    let never : ⊥ = cc in absurd never

-- none is where no call may fail
pub none_fails : (failing : FailingPaths) (at : List (List ℕ)) (path : List ℕ) (tried : Tried)
    → ((there : List (List ℕ)) → failing.list there ≡ false)
    → ((there : List (List ℕ)) → failing.read there ≡ false)
    → LacksOnly failing at tried → failed_at path tried ≡ []
none_fails failing at path no_more lists reads lacks = refl
none_fails failing at path (read about bytes others) lists reads lacks =
    none_fails failing at path others lists reads lacks
none_fails failing at path (listed about inside others) lists reads lacks =
    let within = none_fails failing (at ++ about.name ∷ []) (path_to path about.name) inside lists
    reads lacks.0 in
    let rest = none_fails failing at path others lists reads lacks.1 in
    (λ i. within i ++ rest i)
none_fails failing at path (passed about others) lists reads lacks =
    none_fails failing at path others lists reads lacks
none_fails failing at path (unread about bytes begun others) lists reads lacks =
    absurd (false≢true (sym (reads (at ++ about.name ∷ [])) ∙ lacks.0))
none_fails failing at path (unlisted about inside others) lists reads lacks =
    absurd (false≢true (sym (lists (at ++ about.name ∷ [])) ∙ lacks.0))

-- ---- times

untimed : (X : Type 0) (name : List ℕ) (put : Items Facts → Items Facts) (items : Items Facts)
    → ((rest : Items Facts) → HaveTimes (put rest) → X × HaveTimes rest)
    → HaveTimes (placed name put items) → X × HaveTimes items
untimed X name put none splits times = splits none times
untimed X name put (file about bytes others) splits times =
    of (is_lt (slice_cmp nat_cmp about.name name)) (untimed X name put others splits) times
  where
    of : (less : Bool) → (HaveTimes (placed name put others) → X × HaveTimes others)
        → HaveTimes (cond less (file about bytes (placed name put others))
        (put (file about bytes others))) → X × HaveTimes (file about bytes others)
    of true behind times = let rest = behind times.1 in (rest.0, (times.0, rest.1))
    of false behind times = splits (file about bytes others) times
untimed X name put (folder about inside others) splits times =
    of (is_lt (slice_cmp nat_cmp about.name name)) (untimed X name put others splits) times
  where
    of : (less : Bool) → (HaveTimes (placed name put others) → X × HaveTimes others)
        → HaveTimes (cond less (folder about inside (placed name put others))
        (put (folder about inside others))) → X × HaveTimes (folder about inside others)
    of true behind times = let rest = behind times.2 in (rest.0, (times.0, times.1, rest.1))
    of false behind times = splits (folder about inside others) times
untimed X name put (other about others) splits times =
    of (is_lt (slice_cmp nat_cmp about.name name)) (untimed X name put others splits) times
  where
    of : (less : Bool) → (HaveTimes (placed name put others) → X × HaveTimes others)
        → HaveTimes (cond less (other about (placed name put others))
        (put (other about others))) → X × HaveTimes (other about others)
    of true behind times = behind times
    of false behind times = splits (other about others) times

-- items have times where they have them in order
pub times_of_order : (items : Items Facts) → HaveTimes (in_order items) → HaveTimes items
times_of_order none times = tt
times_of_order (file about bytes others) times =
    let parts = untimed (about.mtime < 2 ^ 32) about.name (file about bytes) (in_order others)
    (λ rest t. (t.0, t.1)) times in
    (parts.0, times_of_order others parts.1)
times_of_order (folder about inside others) times =
    let parts = untimed ((about.mtime < 2 ^ 32) × HaveTimes (in_order inside)) about.name
    (folder about (in_order inside)) (in_order others) (λ rest t. ((t.0, t.1), t.2)) times in
    (parts.0.0, times_of_order inside parts.0.1, times_of_order others parts.1)
times_of_order (other about others) times =
    let parts = untimed ⊤ about.name (other about) (in_order others) (λ rest t. (tt, t)) times in
    times_of_order others parts.1
