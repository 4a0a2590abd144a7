-- Partitions that are each alone a log without blocks are one together.
use Rattle.std.proofs.Common.{◌≡◌, ◌+◌, ◌<◌, ℕ, zero, suc, Bool, List, [], ◌∷◌, ◌++◌, length, map, Some, refl, sym, ◌∙◌, ap, subst, arith}
use Rattle.std.specs.Prelude.{All, slice_get, ◌==◌, if◌then◌else◌, MatchBool}
use Rattle.std.specs.List.{AllZip, Contains}
use Rattle.std.proofs.lemmas.Option.{slice_get-get_or}
use Rattle.vt_disk.specs.Members.{DiskOf}
use Rattle.vt_part.specs.declared.layout.ArenaRegion.{ArenaRegion}
use Rattle.vt_part.specs.Laws.{LayoutsHaveArenas, LayoutsListArenas, IsArenaOfTable}
use Rattle.vt_part.specs.Layout.{arena_of, layout_of, arena_region}
use Rattle.vt_part.specs.Table.{Table}
use Rattle.vt_clump.specs.Spelling.{Stored}
use Rattle.vt_arena.specs.Layout.{Content, IsArena}
use Rattle.vt_log.specs.Logs.{InOrder, IsLog, IsUntouched, accepted_in, blocks_from, first_unsealed, versions_of}
use Rattle.vt_model.specs.declared.TheConstants.{WRITTEN_VERSION}
use Rattle.vt_log.proofs.Lists.{at_slice, slice_get_other}
use Rattle.vt_format.specs.Arenas.{IsEmptyLog}
use Rattle.vt_empty.specs.Formatted.{AreEmptyLogs}

-- ---- a log without blocks has empty arenas

first_open : (s : Bool) (n : ℕ) → 0 ≡ (if s then n + 1 else 0) → s ≡ Bool.false
first_open Bool.true n is = absurd (omega (arith, is))
first_open Bool.false n is = refl

no_blocks : {X Y : Type 0} (f : X → Y) (xs : List X) (ys : List Y) → [] ≡ map f xs ++ ys → xs ≡ []
no_blocks f [] ys is = refl
no_blocks f (x ∷ xs) ys is = absurd (cc)

none_in : (contents : List Content) → InOrder contents → [] ≡ blocks_from 0 contents → 0 ≡ first_unsealed contents
    → (i : ℕ) (a : Content) → slice_get contents i ≡ Some a → IsUntouched a
none_in [] order none first i a at = absurd (cc)
none_in (b ∷ rest) order none first zero a at =
    let same : b ≡ a = cc in
    subst IsUntouched same (first_open b.sealed (first_unsealed rest) first, no_blocks (accepted_in 0) b.stored (blocks_from 1 rest) none)
none_in (b ∷ rest) order none first (suc i) a at =
    let open_ = first_open b.sealed (first_unsealed rest) first in
    let others : All IsUntouched rest = subst (λ (s : Bool). MatchBool s (InOrder rest) (All IsUntouched rest)) open_ order in
    at_slice IsUntouched rest i a others at

-- whose versions count as the one that is written
versions_none : (layout : List ArenaRegion) (contents : List Content) → length contents ≡ length layout
    → ((i : ℕ) (a : Content) → slice_get contents i ≡ Some a → IsUntouched a) → map (λ r. WRITTEN_VERSION) layout ≡ versions_of contents
versions_none [] [] many each = refl
versions_none [] (a ∷ rest) many each = absurd (omega (arith, many))
versions_none (r ∷ layout) [] many each = absurd (omega (arith, many))
versions_none (r ∷ layout) (a ∷ rest) many each =
    let none : [] ≡ a.stored = sym (each 0 a refl).1 in
    let here : WRITTEN_VERSION ≡ (if length a.stored == 0 then WRITTEN_VERSION else a.version) =
    ap (λ (ss : List Stored). if length ss == 0 then WRITTEN_VERSION else a.version) none in
    let more : map (λ r. WRITTEN_VERSION) layout ≡ versions_of rest = versions_none layout rest (omega (arith, many)) (λ i x at. each (suc i) x at) in
    (λ i. here i ∷ more i)

pub log_versions : (score : List ℕ → List ℕ) (layout : List ArenaRegion) (files : List (List ℕ)) (log : IsLog score layout files [] 0) → map (λ r. WRITTEN_VERSION) layout ≡ versions_of log.contents
log_versions score layout files log = versions_none layout log.contents log.arenas.many (none_in log.contents log.order log.history log.base_is)

-- ---- and empty arenas are one

empties_order : (contents : List Content) → All IsUntouched contents → InOrder contents
empties_order [] all = tt
empties_order (a ∷ rest) all =
    let first : IsUntouched a = all 0 a (omega arith) in
    let behind : All IsUntouched rest = λ k d below. all (suc k) d (omega (arith, below)) in
    subst (λ (s : Bool). MatchBool s (InOrder rest) (All IsUntouched rest)) (sym first.0) behind

empties_blocks : (k : ℕ) (contents : List Content) → All IsUntouched contents → [] ≡ blocks_from k contents
empties_blocks k [] all = refl
empties_blocks k (a ∷ rest) all =
    let first : IsUntouched a = all 0 a (omega arith) in
    empties_blocks (k + 1) rest (λ j d below. all (suc j) d (omega (arith, below)))
    ∙ ap (λ (ss : List Stored). map (accepted_in k) ss ++ blocks_from (k + 1) rest) (sym first.1)

empties_first : (contents : List Content) → All IsUntouched contents → 0 ≡ first_unsealed contents
empties_first [] all = refl
empties_first (a ∷ rest) all =
    let first : IsUntouched a = all 0 a (omega arith) in
    ap (λ (s : Bool). if s then first_unsealed rest + 1 else 0) (sym first.0)

-- where each region has an arena without blocks, these are its arenas
chosen : (P : ArenaRegion → Content → Type 0) (layout : List ArenaRegion) → ((i : ℕ) (r : ArenaRegion) → slice_get layout i ≡ Some r → (a : Content) × IsUntouched a × P r a)
    → (contents : List Content) × (length contents ≡ length layout) × All IsUntouched contents
    × ((i : ℕ) (r : ArenaRegion) (a : Content) → slice_get layout i ≡ Some r → slice_get contents i ≡ Some a → P r a)
chosen P [] each = ([], refl, λ k d below. absurd (omega (arith, below)), λ i r a at has. absurd (cc))
chosen P (q ∷ rest) each =
    let here = each 0 q refl in
    let more = chosen P rest (λ i r at. each (suc i) r at) in
    (here.0 ∷ more.0, omega (arith, more.1), λ k d below. all_at here.0 more.0 here.1 more.2 k d below, λ i r a at has. has_at here.0 more.0 here.2 more.3 i r a at has)
  where
    all_at : (a : Content) (rest_of : List Content) → IsUntouched a → All IsUntouched rest_of → All IsUntouched (a ∷ rest_of)
    all_at a rest_of first others zero d below = first
    all_at a rest_of first others (suc k) d below = others k d (omega (arith, below))

    has_at : (a : Content) (rest_of : List Content) → P q a → ((i : ℕ) (r : ArenaRegion) (x : Content) → slice_get rest i ≡ Some r → slice_get rest_of i ≡ Some x → P r x)
        → (i : ℕ) (r : ArenaRegion) (x : Content) → slice_get (q ∷ rest) i ≡ Some r → slice_get (a ∷ rest_of) i ≡ Some x → P r x
    has_at a rest_of first others zero r x at has =
        let region : q ≡ r = cc in
        let content : a ≡ x = cc in
        subst (λ (y : ArenaRegion). P y x) region (subst (λ (y : Content). P q y) content first)
    has_at a rest_of first others (suc i) r x at has = others i r x at has

zip_other : {X Y : Type 0} (R : X → Y → Type 0) (xs : List X) (ys : List Y) (i : ℕ) (x : X) → AllZip R xs ys → slice_get xs i ≡ Some x
    → (y : Y) × (slice_get ys i ≡ Some y) × R x y
zip_other R [] ys i x each at = absurd (cc)
zip_other R (z ∷ xs) [] i x each at = absurd each
zip_other R (z ∷ xs) (y ∷ ys) zero x each at = let same : z ≡ x = cc in (y, refl, subst (λ (w : _). R w y) same each.0)
zip_other R (z ∷ xs) (y ∷ ys) (suc i) x each at = zip_other R xs ys i x each.1 at

module _ (have : LayoutsHaveArenas) (listed : LayoutsListArenas) where
  one_arena : (score : List ℕ → List ℕ) (t : Table) (file : List ℕ) → IsLog score (layout_of (t ∷ [])) (file ∷ []) [] 0
      → (number : ℕ) → number < t.count → (a : Content) × IsUntouched a × IsArena score (arena_region t number) number a file
  one_arena score t file log number less =
      let layout = layout_of (t ∷ []) in
      let r = arena_of 0 t number in
      let has : Contains layout r = listed (t ∷ []) 0 number t refl less in
      let at : slice_get layout has.0 ≡ Some r = slice_get-get_or layout has.0 r has.1 ∙ ap (λ (x : ArenaRegion). Some x) has.2 in
      let a = slice_get_other log.contents layout has.0 r (sym log.arenas.many) at in
      let there = log.arenas.each has.0 r a.0 at a.1 in
      let file_at = there.1 in
      let same : there.0 ≡ file = cc in
      (a.0, none_in log.contents log.order log.history log.base_is has.0 a.0 a.1, subst (λ (f : List ℕ). IsArena score (arena_region t number) number a.0 f) same there.2)

  -- what an arena of a region holds in one of these files
  abbrev HoldsIn : (List ℕ → List ℕ) → (files : List (List ℕ)) → ArenaRegion → Content → Type 0
  HoldsIn score files r a = (file : List ℕ) × (slice_get files r.part ≡ Some file) × IsArena score r.region r.number a file

  place : (score : List ℕ → List ℕ) (tables : List Table) (files : List (List ℕ)) → AllZip IsEmptyLog tables files
      → (i : ℕ) (r : ArenaRegion) → slice_get (layout_of tables) i ≡ Some r → (a : Content) × IsUntouched a × HoldsIn score files r a
  place score tables files each i r at =
      let is = at_slice (IsArenaOfTable tables) (layout_of tables) i r (have tables) at in
      let f = zip_other IsEmptyLog tables files r.part is.0 each is.1 in
      let own = one_arena score is.0 f.0 (f.2.log score) r.number is.2 in
      (own.0, own.1, (f.0, f.1, subst (λ (x : ArenaRegion). IsArena score x.region r.number own.0 f.0) (sym is.3) own.2))

  pub one_log : (score : List ℕ → List ℕ) (tables : List Table) (files : List (List ℕ)) → AllZip IsEmptyLog tables files → IsLog score (layout_of tables) files [] 0
  one_log score tables files each =
      let of = chosen (HoldsIn score files) (layout_of tables) (place score tables files each) in
      record {
        contents = of.0;
        arenas = record { many = of.1; each = of.3 };
        order = empties_order of.0 of.2;
        history = empties_blocks 0 of.0 of.2;
        base_is = empties_first of.0 of.2;
      }

-- ---- what a crash leaves of partitions

module _ {D : Type 0} (disk : DiskOf D) where
  pub files_empty : (tables : List Table) (devices : List D) (files : List (List ℕ)) → AreEmptyLogs disk tables devices → length files ≡ length devices
      → ((i : ℕ) (device : D) (file : List ℕ) → slice_get devices i ≡ Some device → slice_get files i ≡ Some file → disk.images device file) → AllZip IsEmptyLog tables files
  files_empty [] [] [] each many are = tt
  files_empty [] [] (f ∷ fs) each many are = absurd (omega (arith, many))
  files_empty [] (d ∷ ds) fs each many are = absurd each
  files_empty (t ∷ ts) [] fs each many are = absurd each
  files_empty (t ∷ ts) (d ∷ ds) [] each many are = absurd (omega (arith, many))
  files_empty (t ∷ ts) (d ∷ ds) (f ∷ fs) each many are =
      let few : length fs ≡ length ds = omega (arith, many) in
      (each.0 f (are 0 d f refl refl), files_empty ts ds fs each.1 few (λ i. are (suc i)))
