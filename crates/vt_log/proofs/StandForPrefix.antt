-- Images of all disks, taken together.
use Rattle.std.proofs.Common.{◌≡◌, ◌≢◌, ◌⊎◌, ⊎_elim, ℕ, ◌+◌, ◌<◌, ◌≤◌, Bool, true, false, List, [], ◌∷◌, ◌++◌, length, take, drop, map, refl, sym, ◌∙◌, ap, subst, arith, Some, None, length-append, set, get_or, inl, inr}
use Rattle.std.specs.Prelude.{slice_get}
use Rattle.std.proofs.lemmas.Bool.{cases_eq}
use Rattle.std.proofs.lemmas.List.{length-set, length-drop}
use Rattle.std.proofs.lemmas.List.Elements.{All-weaker}
use Rattle.std.proofs.lemmas.Option.{slice_get_within, slice_get_cases, same_Some}
use Rattle.vt_disk.specs.Members.{DiskOf}
use Rattle.vt_model.specs.History.{Accepted, History}
use Rattle.vt_model.specs.Places.{last_arena}
use Rattle.vt_part.specs.declared.layout.ArenaRegion.{ArenaRegion}
use Rattle.vt_arena.specs.Arena.{added_by_commit, next_content, version_counted}
use Rattle.vt_arena.specs.Layout.{Content, IsArena}
use Rattle.vt_arena.specs.declared.head.Found.{Found}
use Rattle.vt_arena.specs.Sound.{HasBegunSelector}
use Rattle.vt_arena.proofs.Commits.{arena_gives}
use Rattle.vt_arena.proofs.Regions.{arena_in_region}
use Rattle.vt_log.specs.declared.filling.Filling.{Filling}
use Rattle.vt_log.specs.declared.queue.Waiting.{Waiting}
use Rattle.vt_log.specs.Log.{LogState}
use Rattle.vt_log.specs.Logs.{accepted_in, blocks_from, versions_of, AreArenas}
use Rattle.vt_log.specs.Queue.{WaitsFor, waiting_block}
use Rattle.vt_log.specs.Sound.{IsArenaAt, IsSplit, IsSoundLog, AreImagesOf, LogStandsForPrefix}
use Rattle.vt_log.specs.Whole.{IsOnDisk, IsWholeLog, Fill}
use Rattle.vt_log.proofs.Disks.{map_same}
use Rattle.vt_log.proofs.Versions.{counted_as, versions_are as contents_versions}
use Rattle.vt_log.proofs.IsSplit.{split_order, blocks_set, blocks_arenas, last_arena_le, split_set, split_sealed, longer_prefix}
use Rattle.vt_log.proofs.Fill.{fill_arena, turned_arena}
use Rattle.vt_log.proofs.Lists.{slice_get_other, at_slice, slice_get_set_same, slice_get_set_other}

-- an arena that there is, and its disk
pub record IsThere {D : Type 0} (l : LogState D) (i : ℕ) (r : ArenaRegion) : Type 0 where
  pub disk : D
  pub at : IsArenaAt l i r disk

pub there : {D : Type 0} (disk : DiskOf D) (l : LogState D) (i : ℕ) (r : ArenaRegion) → IsWholeLog disk l → slice_get l.layout i ≡ Some r → IsThere l i r
there disk l i r whole is =
    let on = at_slice (IsOnDisk disk l.disks) l.layout i r whole.regions is in
    record { disk = on.device; at = record { arena = is; disk_is = on.has } }

-- a block that waits for an arena comes before what is filled
pub waits_below : (layout : List ArenaRegion) (versions : List ℕ) (heads : List Found) (from to : Filling) (ws : List Waiting) (arena : ℕ) → Fill layout versions heads from ws to → WaitsFor arena ws → arena ≤ to.arena
waits_below layout versions heads from to [] arena fill waits = absurd waits
waits_below layout versions heads from to (w ∷ ws) arena fill waits =
    let rest = fill_arena layout versions heads _ to ws fill.4 in
    omega (arith, rest.0, turned_arena heads w.arena from, waits)

-- The files stand for what is committed, where each arena is what it was; and for that with what is
-- staged, where the one that is committed in is what its commit makes of it.
pub stand_for_prefix : {D : Type 0} (score_of : List ℕ → List ℕ) (disk : DiskOf D) (l : LogState D) (h : History)
    (files : List (List ℕ)) → (sound : IsSoundLog score_of disk l h) → length files ≡ length l.disks
    → ((r : ArenaRegion) (device : D) (a : Content) (file : List ℕ) → IsArenaAt l l.committing r device → slice_get sound.contents l.committing ≡ Some a
    → slice_get files r.part ≡ Some file → IsArena score_of r.region r.number a file ⊎ IsArena score_of r.region r.number (next_content l.arena a) file)
    → ((i : ℕ) (r : ArenaRegion) (device : D) (a : Content) (file : List ℕ) → i ≢ l.committing → IsArenaAt l i r device → slice_get sound.contents i ≡ Some a
    → slice_get files r.part ≡ Some file → IsArena score_of r.region r.number a file)
    → LogStandsForPrefix score_of l files h
stand_for_prefix {D = D} score_of disk l h files sound many gives rest =
    ⊎_elim
    (λ (it : (a : Content) × (l.committing < length sound.contents) × (slice_get sound.contents l.committing ≡ Some a) × (get_or sound.contents l.committing a ≡ a)).
    let r = slice_get_other l.layout sound.contents l.committing it.0 sound.many it.2 in
    let t = there disk l l.committing r.0 sound.whole r.1 in
    let file = slice_get_other files l.disks r.0.part t.disk (sym many) t.at.disk_is in
    ⊎_elim
    (λ (old : IsArena score_of r.0.region r.0.number it.0 file.0).
    before (has_at r.0 it.0 file.0 r.1 file.1 old sound.contents it.2))
    (λ (new : IsArena score_of r.0.region r.0.number (next_content l.arena it.0) file.0).
    after it.0 it.2 it.1 (has_at r.0 (next_content l.arena it.0) file.0 r.1 file.1 new
    (set sound.contents l.committing (next_content l.arena it.0)) (slice_get_set_same sound.contents l.committing (next_content l.arena it.0) it.1)))
    (gives r.0 t.disk it.0 file.0 t.at it.2 file.1))
    (λ (past : (length sound.contents ≤ l.committing) × (slice_get sound.contents l.committing ≡ None)).
    before (λ r a at has. absurd (omega (arith, past.0, slice_get_within sound.contents l.committing a has))))
    (slice_get_cases sound.contents l.committing).1
  where
    below : (l.committing ≤ l.filling.arena) × (l.committing ≤ length l.layout → l.filling.arena ≤ length l.layout)
    below = fill_arena l.layout l.versions l.heads _ l.filling l.queue.waiting sound.whole.queue

    has_at : (r : ArenaRegion) (a : Content) (file : List ℕ) → slice_get l.layout l.committing ≡ Some r → slice_get files r.part ≡ Some file → IsArena score_of r.region r.number a file
        → (cs : List Content) → slice_get cs l.committing ≡ Some a
        → (q : ArenaRegion) (b : Content) → slice_get l.layout l.committing ≡ Some q → slice_get cs l.committing ≡ Some b
        → (file : List ℕ) × (slice_get files q.part ≡ Some file) × IsArena score_of q.region q.number b file
    has_at r a file is of has cs content q b at at_content =
        let r_is : r ≡ q = same_Some r q (sym is ∙ at) in
        let a_is : a ≡ b = same_Some a b (sym content ∙ at_content) in (
          file,
          subst (λ (r : ArenaRegion). slice_get files r.part ≡ Some file) r_is of,
          subst (λ (r : ArenaRegion). IsArena score_of r.region r.number b file) r_is (subst (λ (a : Content). IsArena score_of r.region r.number a file) a_is has),
        )

    arenas : (cs : List Content) → length cs ≡ length sound.contents → ((i : ℕ) → i ≢ l.committing → slice_get cs i ≡ slice_get sound.contents i)
        → ((q : ArenaRegion) (b : Content) → slice_get l.layout l.committing ≡ Some q → slice_get cs l.committing ≡ Some b
        → (file : List ℕ) × (slice_get files q.part ≡ Some file) × IsArena score_of q.region q.number b file)
        → AreArenas score_of l.layout files cs
    arenas cs long others current = record {
      many = long ∙ sound.many;
      each = λ i r a at content. ⊎_elim
          (λ (same : i ≡ l.committing). current r a (sym (ap (slice_get l.layout) same) ∙ at) (sym (ap (slice_get cs) same) ∙ content))
          (λ (other : i ≢ l.committing).
          let t = there disk l i r sound.whole at in
          let file = slice_get_other files l.disks r.part t.disk (sym many) t.at.disk_is in
          (file.0, file.1, rest i r t.disk a file.0 other t.at (sym (others i other) ∙ content) file.1))
          (cases_eq i l.committing);
    }

    conclude : (n c : ℕ) (cs : List Content) → l.durable ≤ n → n ≤ length h → take n h ≡ blocks_from 0 cs → IsSplit c cs → c ≤ length cs
        → l.base ≤ c → c ≤ l.filling.arena → l.versions ≡ versions_of cs → AreArenas score_of l.layout files cs → LogStandsForPrefix score_of l files h
    conclude n c cs durable inside history split within base most versions are =
        let order = split_order c cs split within in
        let up_to : last_arena 0 (blocks_from 0 cs) ≤ c = last_arena_le c 0 (blocks_from 0 cs) (omega arith)
        (All-weaker (λ (e : Accepted). e.arena ≤ 0 + c) (λ (e : Accepted). e.arena ≤ c) (λ e least. omega (arith, least)) (blocks_from 0 cs) (blocks_arenas 0 c cs split.behind)) in
        let last : last_arena 0 (take n h) ≡ last_arena 0 (blocks_from 0 cs) = ap (last_arena 0) history in (
          n,
          durable,
          inside,
          record {
            base = c;
            log = record { contents = cs; arenas = are; order = order.0; history = history; base_is = sym order.1 };
            versions = versions;
            least = omega (arith, up_to, last, base);
            most = omega (arith, most, sound.last);
          },
        )

    inside : l.durable ≤ length h
    inside = omega (arith, sound.front)

    versions_are : l.versions ≡ versions_of sound.contents
    versions_are = contents_versions score_of disk l h sound

    before : ((q : ArenaRegion) (b : Content) → slice_get l.layout l.committing ≡ Some q → slice_get sound.contents l.committing ≡ Some b
        → (file : List ℕ) × (slice_get files q.part ≡ Some file) × IsArena score_of q.region q.number b file) → LogStandsForPrefix score_of l files h
    before current = conclude l.durable l.committing sound.contents (omega arith) inside sound.committed sound.split (omega (arith, sound.whole.committing, sound.many))
        sound.whole.base below.0 versions_are (arenas sound.contents refl (λ i other. refl) current)

    after : (a : Content) → slice_get sound.contents l.committing ≡ Some a → l.committing < length sound.contents
        → ((q : ArenaRegion) (b : Content) → slice_get l.layout l.committing ≡ Some q → slice_get (set sound.contents l.committing (next_content l.arena a)) l.committing ≡ Some b
        → (file : List ℕ) × (slice_get files q.part ≡ Some file) × IsArena score_of q.region q.number b file) → LogStandsForPrefix score_of l files h
    after a is within current = sealing l.arena.next.sealed refl
      where
        next : Content
        next = next_content l.arena a

        cs : List Content
        cs = set sound.contents l.committing next

        added : History
        added = map (accepted_in l.committing) (added_by_commit l.arena)

        long : length cs ≡ length sound.contents
        long = length-set sound.contents l.committing next

        many_queued : length (drop l.durable h) ≡ length added + length (map waiting_block l.queue.waiting)
        many_queued = ap (λ (q : History). length q) sound.queued ∙ length-append added (map waiting_block l.queue.waiting)

        most : l.durable + length added ≤ length h
        most = omega (arith, many_queued, length-drop l.durable h, inside)

        history : take (l.durable + length added) h ≡ blocks_from 0 cs
        history = longer_prefix h l.durable added (map waiting_block l.queue.waiting) inside sound.queued
            ∙ ap (λ (q : History). q ++ added) sound.committed
            ∙ ap (λ (k : ℕ). blocks_from 0 sound.contents ++ map (accepted_in k) (added_by_commit l.arena)) (let e : l.committing ≡ 0 + l.committing = omega arith in e)
            ∙ sym (blocks_set 0 l.committing sound.contents a next (added_by_commit l.arena) is sound.split.behind refl)

        are : AreArenas score_of l.layout files cs
        are = arenas cs long (λ i other. slice_get_set_other sound.contents l.committing i next other) current

        -- the version stays, since the next head counts as one of the same
        versions : l.versions ≡ versions_of cs
        versions =
            let r = slice_get_other l.layout sound.contents l.committing a sound.many is in
            let found = slice_get_other l.heads l.layout l.committing r.0 (sym sound.whole.many) r.1 in
            let t = there disk l l.committing r.0 sound.whole r.1 in
            versions_are
            ∙ sym (map_same counted_as sound.contents l.committing a next is
            (ap version_counted (sym (sound.current r.0 t.disk a t.at is).next)
            ∙ (sound.whole.arena r.0 found.0 r.1 found.1).counted
            ∙ ap version_counted (sound.heads l.committing r.0 found.0 a r.1 found.1 is)))

        sealing : (b : Bool) → l.arena.next.sealed ≡ b → LogStandsForPrefix score_of l files h
        sealing false unsealed = conclude (l.durable + length added) l.committing cs (omega arith) most history
            (split_set l.committing sound.contents next within sound.split unsealed) (omega (arith, long, within)) sound.whole.base below.0 versions are
        sealing true sealed =
            let waits = waits_below l.layout l.versions l.heads _ l.filling l.queue.waiting (l.committing + 1) sound.whole.queue (sound.whole.way sealed) in
            conclude (l.durable + length added) (l.committing + 1) cs (omega arith) most history
            (split_sealed l.committing sound.contents next within sound.split sealed) (omega (arith, long, within)) (omega (arith, sound.whole.base)) waits versions are

-- the arena in memory has the number of the region's arena
pub number_is : {D : Type 0} (disk : DiskOf D) (l : LogState D) (r : ArenaRegion) → IsWholeLog disk l → slice_get l.layout l.committing ≡ Some r → l.arena.number ≡ r.number
number_is disk l r whole at =
    let found = slice_get_other l.heads l.layout l.committing r (sym whole.many) at in
    (whole.arena r found.0 at found.1).number

-- a region that an arena has
pub region_long : {D : Type 0} (disk : DiskOf D) (l : LogState D) (i : ℕ) (r : ArenaRegion) (device : D) → IsWholeLog disk l → IsArenaAt l i r device → 24576 ≤ r.region.len
region_long disk l i r device whole at =
    let on = at_slice (IsOnDisk disk l.disks) l.layout i r whole.regions at.arena in
    omega (arith, on.region.len.0)

-- between two calls
pub moment_stands : {D : Type 0} (score_of : List ℕ → List ℕ) (disk : DiskOf D) (l : LogState D) (h : History)
    (files : List (List ℕ)) → IsSoundLog score_of disk l h → AreImagesOf disk l.disks files → LogStandsForPrefix score_of l files h
moment_stands score_of disk l h files sound left =
    stand_for_prefix score_of disk l h files sound left.many
    (λ r device a file at content of.
    let number = number_is disk l r sound.whole at.arena in
    ⊎_elim
    (λ (old : IsArena score_of r.region l.arena.number a file). inl (subst (λ (n : ℕ). IsArena score_of r.region n a file) number old))
    (λ (next : HasBegunSelector l.arena × IsArena score_of r.region l.arena.number (next_content l.arena a) file).
    inr (subst (λ (n : ℕ). IsArena score_of r.region n (next_content l.arena a) file) number next.1))
    (arena_gives score_of l.arena r.region a (disk.bytes device) (disk.images device) (sound.current r device a at content) file (left.each r.part device file at.disk_is of)))
    (λ i r device a file other at content of.
    let rests = sound.others i r device a other at content in
    arena_in_region score_of r.region r.number a (disk.bytes device) file (region_long disk l i r device sound.whole at)
    (rests.0 file (left.each r.part device file at.disk_is of)) rests.1)
