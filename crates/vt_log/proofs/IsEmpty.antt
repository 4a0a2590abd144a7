-- Partitions whose arenas have no blocks.
use Rattle.std.proofs.Common.{◌≡◌, ◌≢◌, ⊎_elim, ℕ, ◌+◌, ◌*◌, ◌<◌, ◌≤◌, Bool, Result, List, [], ◌∷◌, length, get_or, map, set, refl, sym, ◌∙◌, ap, subst, arith, Some, option_map}
use Rattle.std.specs.Prelude.{All, IsTrue, slice_get}
use Rattle.std.proofs.lemmas.Bool.{cases_eq}
use Rattle.std.proofs.lemmas.List.{length-map, map-set}
use Rattle.std.proofs.lemmas.List.Elements.{All-map}
use Rattle.std.proofs.lemmas.Option.{slice_get_within, slice_get-get_or, slice_get-map, same_Some}
use Rattle.vt_base.specs.Faults.{CountsFault}
use Rattle.vt_disk.specs.declared.region.Region.{Region}
use Rattle.vt_disk.specs.Calls.{WritesAt, WritesWithin, IsSynced}
use Rattle.vt_disk.specs.Disk.{ChangesAt}
use Rattle.vt_disk.specs.Members.{DiskOf}
use Rattle.vt_disk.specs.Region.{region_bytes}
use Rattle.vt_disk.proofs.Bytes.{same_refl, part_same}
use Rattle.vt_disk.proofs.Calls.{changes_none, writes_wider, writes_then}
use Rattle.vt_part.specs.declared.layout.ArenaRegion.{ArenaRegion}
use Rattle.vt_part.specs.declared.part.Part.{Part}
use Rattle.vt_part.specs.Laws.{IsArenaOfTable}
use Rattle.vt_part.specs.Layout.{layout_of, arena_region}
use Rattle.vt_part.specs.Parts.{disk_of, table_of, tables_of}
use Rattle.vt_part.specs.Table.{Table, IsTable, arenas_end}
use Rattle.vt_part.proofs.Layouts.{arenas_follow, layouts_have_arenas}
use Rattle.vt_arena.specs.Layout.{Content, IsArena, InHead, head_place, empty}
use Rattle.vt_arena.proofs.Regions.{arena_in_region}
use Rattle.vt_log.specs.Faults.{CountsFaults}
use Rattle.vt_log.specs.Formatting.{AreEmpty, IsEmpty, InFirstHeads, WritesInFirst, WritesInHeads, StopsAtArena, StopsIn}
use Rattle.vt_log.specs.Log.{disks_of}
use Rattle.vt_log.specs.Logs.{first_unsealed, IsUntouched, InOrder, IsLog}
use Rattle.vt_log.specs.Sound.{AreImagesOf}
use Rattle.vt_log.proofs.IsSplit.{untouched_blocks}
use Rattle.vt_log.proofs.Disks.{map_same, tells_set}
use Rattle.vt_log.proofs.Lists.{slice_get_other, at_slice, slice_get_set_same, slice_get_set_other, map_there}
use Rattle.vt_log.proofs.FoundLog.{arena_len}

-- ---- one partition

module _ {D : Type 0} (disk : DiskOf D) (t : Table) where
  -- nothing was written yet
  pub none_written : (n : ℕ) (d : D) → WritesInFirst disk t n d d
  none_written n d = record {
    bytes = λ told. same_refl (InFirstHeads t n) (disk.bytes d);
    images = changes_none (InFirstHeads t n) (disk.images d) (disk.images d) (λ c left. left);
    size = refl;
    calls = λ told. omega arith;
  }

  -- more heads than were written
  pub heads_wider : (m n : ℕ) (a b : D) → m ≤ n → WritesInFirst disk t m a b → WritesInFirst disk t n a b
  heads_wider m n a b most = writes_wider disk (InFirstHeads t m) (InFirstHeads t n) among (3 * m) (3 * n) (omega (arith, most)) a b
    where
      among : (p : ℕ) → InFirstHeads t m p → InFirstHeads t n p
      among p in_heads = (in_heads.0, omega (arith, in_heads.1, most), in_heads.2)

  -- one more head
  pub heads_more : (k : ℕ) (a b c : D) → WritesInFirst disk t k a b → WritesWithin disk (head_place (arena_region t k)) 3 b c → WritesInFirst disk t (k + 1) a c
  heads_more k a b c first next =
      subst (λ (n : ℕ). WritesAt disk (InFirstHeads t (k + 1)) n a c) (let e : 3 * k + 3 ≡ 3 * (k + 1) = omega arith in e)
      (writes_then disk (InFirstHeads t (k + 1)) (3 * k) 3 a b c
      (writes_wider disk (InFirstHeads t k) (InFirstHeads t (k + 1)) (λ p in_heads. (in_heads.0, omega (arith, in_heads.1), in_heads.2)) (3 * k) (3 * k) (omega arith) a b first)
      (writes_wider disk (InHead (arena_region t k)) (InFirstHeads t (k + 1)) (λ p in_head. (k, omega arith, in_head)) 3 3 (omega arith) b c next))

-- a head that is written leaves the arenas before it
pub empty_kept : (t : Table) (k : ℕ) (before after : List ℕ → Type 0) → IsTable t
    → AreEmpty t k before → ChangesAt (InHead (arena_region t k)) before after → AreEmpty t k after
empty_kept t k before after table none changes score_of number c less left =
    let from = changes c left in
    let other : Region = arena_region t number in
    let apart = arenas_follow t number k less in
    let sizes = arena_len t.arena_size table.arena_size in
    let stays : region_bytes other c ≡ region_bytes other from.0 =
    part_same (InHead (arena_region t k)) other.start other.len from.0 c from.2 (λ i above below in_head. absurd (omega (arith, above, below, in_head.0, apart))) in
    arena_in_region score_of other number empty from.0 c (omega (arith, sizes.0)) stays (none score_of number from.0 less from.1)

pub empty_more : (t : Table) (k : ℕ) (before after : List ℕ → Type 0) → IsTable t → AreEmpty t k before → ChangesAt (InHead (arena_region t k)) before after
    → ((score_of : List ℕ → List ℕ) (c : List ℕ) → after c → IsArena score_of (arena_region t k) k empty c) → AreEmpty t (k + 1) after
empty_more t k before after table none changes new score_of number c less left = ⊎_elim
    (λ (here : number ≡ k). subst (λ (n : ℕ). IsArena score_of (arena_region t n) n empty c) (sym here) (new score_of c left))
    (λ (there : number ≢ k). empty_kept t k before after table none changes score_of number c (omega (arith, less, there)) left)
    (cases_eq number k)

pub empty_whole : (t u : Table) (n : ℕ) (images : List ℕ → Type 0) → u ≡ t → u.count ≤ n → AreEmpty t n images → AreEmpty u u.count images
empty_whole t u n images same most none score_of number c less left =
    subst (λ (x : Table). IsArena score_of (arena_region x number) number empty c) (sym same) (none score_of number c (omega (arith, less, most)) left)

-- ---- all of them

module _ {D : Type 0} (ps : List (Part D)) (i : ℕ) (p q : Part D) (at : slice_get ps i ≡ Some p) where
  disks_set : disks_of (set ps i q) ≡ set (disks_of ps) i (disk_of q)
  disks_set = map-set (λ (part : Part D). disk_of part) ps i q

  disk_there : slice_get (disks_of ps) i ≡ Some (disk_of p)
  disk_there = slice_get-map (λ (part : Part D). disk_of part) ps i ∙ ap (option_map (λ (part : Part D). disk_of part)) at

  pub tables_set : table_of q ≡ table_of p → tables_of (set ps i q) ≡ tables_of ps
  tables_set same = map_same (λ (part : Part D). table_of part) ps i p q at same

  pub sizes_set : (f : D → ℕ) → f (disk_of q) ≡ f (disk_of p) → map f (disks_of (set ps i q)) ≡ map f (disks_of ps)
  sizes_set f same = ap (map f) disks_set ∙ map_same f (disks_of ps) i (disk_of p) (disk_of q) disk_there same

  pub faults_set : {T E : Type 0} (disk : DiskOf D) (is_fault : E → Bool) (result : Result T E) → CountsFault is_fault result (disk.faults (disk_of p)) (disk.faults (disk_of q))
      → CountsFaults disk is_fault result (disks_of ps) (disks_of (set ps i q))
  faults_set disk is_fault result cause = tells_set disk.faults is_fault (disks_of ps) (disks_of (set ps i q)) i (disk_of p) (disk_of q) result disk_there disks_set cause

  pub writes_set : (disk : DiskOf D) (old : List (Part D)) → ((k : ℕ) → i ≤ k → slice_get ps k ≡ slice_get old k)
      → ((k : ℕ) (before after : Part D) → slice_get old k ≡ Some before → slice_get ps k ≡ Some after → WritesInHeads disk (table_of before) (disk_of before) (disk_of after))
      → WritesInHeads disk (table_of p) (disk_of p) (disk_of q)
      → (k : ℕ) (before after : Part D) → slice_get old k ≡ Some before → slice_get (set ps i q) k ≡ Some after
      → WritesInHeads disk (table_of before) (disk_of before) (disk_of after)
  writes_set disk old rest writes step k before after was is = ⊎_elim
      (λ (here : k ≡ i).
      let p_is : p ≡ before = same_Some p before (sym at ∙ rest i (omega arith) ∙ sym (ap (slice_get old) here) ∙ was) in
      let q_is : q ≡ after = same_Some q after (sym (slice_get_set_same ps i q (slice_get_within ps i p at)) ∙ sym (ap (slice_get (set ps i q)) here) ∙ is) in
      subst (λ (x : Part D). WritesInHeads disk (table_of before) (disk_of before) (disk_of x)) q_is
      (subst (λ (x : Part D). WritesInHeads disk (table_of x) (disk_of x) (disk_of q)) p_is step))
      (λ (other : k ≢ i). writes k before after was (sym (slice_get_set_other ps i k q other) ∙ is))
      (cases_eq k i)

  pub empty_set : (disk : DiskOf D) → ((k : ℕ) (part : Part D) → k < i → slice_get ps k ≡ Some part → IsEmpty disk part) → IsEmpty disk q
      → (k : ℕ) (part : Part D) → k < i + 1 → slice_get (set ps i q) k ≡ Some part → IsEmpty disk part
  empty_set disk before new k part less is = ⊎_elim
      (λ (here : k ≡ i).
      let same : q ≡ part = same_Some q part (sym (slice_get_set_same ps i q (slice_get_within ps i p at)) ∙ sym (ap (slice_get (set ps i q)) here) ∙ is) in
      subst (IsEmpty disk) same new)
      (λ (other : k ≢ i). before k part (omega (arith, less, other)) (sym (slice_get_set_other ps i k q other) ∙ is))
      (cases_eq k i)

  -- and where it stops
  pub stops_here : (disk : DiskOf D) (old : List (Part D)) → ((k : ℕ) → i ≤ k → slice_get ps k ≡ slice_get old k)
      → ((k : ℕ) (part : Part D) → k < i → slice_get ps k ≡ Some part → IsEmpty disk part)
      → StopsAtArena disk p q → StopsIn disk old (set ps i q)
  stops_here disk old rest done stop = record {
    part = i;
    within = slice_get_within old i p (sym (rest i (omega arith)) ∙ at);
    done = λ k part less is. done k part less (sym (slice_get_set_other ps i k q (λ same. omega (arith, less, same))) ∙ is);
    here = λ before after was is.
        let p_is : p ≡ before = same_Some p before (sym at ∙ rest i (omega arith) ∙ was) in
        let q_is : q ≡ after = same_Some q after (sym (slice_get_set_same ps i q (slice_get_within ps i p at)) ∙ is) in
        subst (λ (x : Part D). StopsAtArena disk before x) q_is (subst (λ (x : Part D). StopsAtArena disk x q) p_is stop);
    behind = λ k more. slice_get_set_other ps i k q (λ same. omega (arith, more, same)) ∙ rest k (omega (arith, more));
  }

-- a partition keeps its room
pub room_kept : {D : Type 0} (disk : DiskOf D) (old ps : List (Part D)) (i : ℕ) (p : Part D) → tables_of ps ≡ tables_of old → map disk.size (disks_of ps) ≡ map disk.size (disks_of old)
    → All (λ part. arenas_end (table_of part) ≤ disk.size (disk_of part)) old → slice_get ps i ≡ Some p → arenas_end (table_of p) ≤ disk.size (disk_of p)
room_kept {D = D} disk old ps i p tables sizes rooms at =
    let many : length ps ≡ length old = sym (length-map ps (λ (part : Part D). table_of part)) ∙ ap (λ (ts : List Table). length ts) tables ∙ length-map old (λ (part : Part D). table_of part) in
    let was = slice_get_other old ps i p many at in
    let table : table_of p ≡ table_of was.0 = map_there (λ (part : Part D). table_of part) old ps i was.0 p tables was.1 at in
    let long : disk.size (disk_of p) ≡ disk.size (disk_of was.0) = map_there disk.size (disks_of old) (disks_of ps) i (disk_of was.0) (disk_of p) sizes (disk_there old i was.0 was.0 was.1) (disk_there ps i p p at) in
    omega (arith, at_slice (λ (part : Part D). arenas_end (table_of part) ≤ disk.size (disk_of part)) old i was.0 rooms was.1, ap arenas_end table, long)

-- ---- a log without blocks

abbrev empties : List ArenaRegion → List Content
empties layout = map (λ r. empty) layout

empty_untouched : (layout : List ArenaRegion) → All IsUntouched (empties layout)
empty_untouched layout = All-map IsUntouched (λ (r : ArenaRegion). empty) layout (λ i d below. (refl, refl))

empty_order : (layout : List ArenaRegion) → InOrder (empties layout)
empty_order [] = tt
empty_order (r ∷ rest) = empty_untouched rest

empty_first : (layout : List ArenaRegion) → 0 ≡ first_unsealed (empties layout)
empty_first [] = refl
empty_first (r ∷ rest) = refl

pub empty_log : {D : Type 0} (score_of : List ℕ → List ℕ) (disk : DiskOf D) (ps : List (Part D)) (files : List (List ℕ)) → IsTrue disk.tells
    → ((k : ℕ) (part : Part D) → slice_get ps k ≡ Some part → IsEmpty disk part) → AreImagesOf disk (disks_of ps) files → IsLog score_of (layout_of (tables_of ps)) files [] 0
empty_log {D = D} score_of disk ps files told none are = record {
  contents = empties (layout_of (tables_of ps));
  arenas = record {
    many = length-map (layout_of (tables_of ps)) (λ (r : ArenaRegion). empty);
    each = each;
  };
  order = empty_order (layout_of (tables_of ps));
  history = sym (untouched_blocks 0 (empties (layout_of (tables_of ps))) (empty_untouched (layout_of (tables_of ps))));
  base_is = empty_first (layout_of (tables_of ps));
}
  where
    each : (i : ℕ) (r : ArenaRegion) (a : Content) → slice_get (layout_of (tables_of ps)) i ≡ Some r → slice_get (empties (layout_of (tables_of ps))) i ≡ Some a
        → (file : List ℕ) × (slice_get files r.part ≡ Some file) × IsArena score_of r.region r.number a file
    each i r a at has =
        let layout = layout_of (tables_of ps) in
        let a_is : empty ≡ a = same_Some empty a (sym (slice_get-map (λ (r : ArenaRegion). empty) layout i ∙ ap (option_map (λ (r : ArenaRegion). empty)) at) ∙ has) in
        let is = at_slice (IsArenaOfTable (tables_of ps)) layout i r (layouts_have_arenas (tables_of ps)) at in
        let t : Table = is.0 in
        let p = slice_get_other ps (tables_of ps) r.part t (length-map ps (λ (part : Part D). table_of part)) is.1 in
        let t_is : table_of p.0 ≡ t = same_Some (table_of p.0) t (sym (slice_get-map (λ (part : Part D). table_of part) ps r.part ∙ ap (option_map (λ (part : Part D). table_of part)) p.1) ∙ is.1) in
        let disk_is : slice_get (disks_of ps) r.part ≡ Some (disk_of p.0) = disk_there ps r.part p.0 p.0 p.1 in
        let file = slice_get_other files (disks_of ps) r.part (disk_of p.0) (sym are.many) disk_is in
        let own : IsArena score_of (arena_region t r.number) r.number empty file.0 =
        subst (λ (u : Table). IsArena score_of (arena_region u r.number) r.number empty file.0) t_is
        ((none r.part p.0 p.1).arenas told score_of r.number file.0 (subst (λ (u : Table). r.number < u.count) (sym t_is) is.2) (are.each r.part (disk_of p.0) file.0 disk_is file.1)) in (
          file.0,
          file.1,
          subst (λ (x : ArenaRegion). IsArena score_of x.region r.number a file.0) (sym is.3) (subst (λ (x : Content). IsArena score_of (arena_region t r.number) r.number x file.0) a_is own),
        )

pub settled_parts : {D : Type 0} (disk : DiskOf D) (ps : List (Part D)) → ((k : ℕ) (part : Part D) → slice_get ps k ≡ Some part → IsEmpty disk part) → All (IsSynced disk) (disks_of ps)
settled_parts {D = D} disk ps none k d within =
    let e : D = get_or (disks_of ps) k d in
    let at : slice_get (disks_of ps) k ≡ Some e = slice_get-get_or (disks_of ps) k d within in
    let p = slice_get_other ps (disks_of ps) k e (length-map ps (λ (part : Part D). disk_of part)) at in
    let same : disk_of p.0 ≡ e = same_Some (disk_of p.0) e (sym (disk_there ps k p.0 p.0 p.1) ∙ at) in
    subst (IsSynced disk) same (none k p.0 p.1).settled
