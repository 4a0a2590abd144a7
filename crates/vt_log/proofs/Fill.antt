-- Where blocks go.
use Rattle.std.proofs.Common.{◌≡◌, ◌≢◌, ⊎_elim, ℕ, ◌+◌, ◌-◌, ◌*◌, ◌<◌, ◌≤◌, ◌==◌, ◌&&◌, Bool, true, false, cond, Option, List, [], ◌∷◌, ◌++◌, length, get_or, map, refl, sym, ◌∙◌, ap, subst, arith, Some, None}
use Rattle.std.specs.Prelude.{slice_get, slice_index, not, IsTrue}
use Rattle.std.specs.Option.{option_map_or}
use borrow.Author.Tests.{leb-true}
use Rattle.std.proofs.lemmas.Bool.Decides.{eqb_tells, Decides-eqb}
use Rattle.std.proofs.lemmas.List.{get_or-map, get_or_past, length-map}
use Rattle.std.proofs.lemmas.Option.{slice_get_within, slice_get_cases}
use Rattle.vt_disk.specs.Members.{DiskOf}
use Rattle.vt_part.specs.declared.layout.ArenaRegion.{ArenaRegion}
use Rattle.vt_model.specs.declared.TheConstants.{WRITTEN_VERSION}
use Rattle.vt_arena.specs.declared.head.Found.{Found}
use Rattle.vt_arena.specs.Places.{has_room}
use Rattle.vt_arena.proofs.Stage.{both}
use Rattle.vt_log.specs.declared.filling.Filling.{Filling}
use Rattle.vt_log.specs.declared.queue.Waiting.{Waiting}
use Rattle.vt_log.specs.Log.{LogState, can_close, filled_as, found_filling, fits_in, next_filling, with_room_taken}
use Rattle.vt_log.specs.Whole.{IsOnDisk, IsWholeLog, Fill, turned_to}
use Rattle.vt_log.proofs.Lists.{at_slice}
use Rattle.vt_log.proofs.Versions.{version_past}

-- where a block fits, the arena is of the version that is written, and has room
fits_parts : (layout : List ArenaRegion) (versions : List ℕ) (f : Filling) (n : ℕ) → IsTrue (fits_in layout versions f n)
    → ((slice_index versions f.arena == WRITTEN_VERSION) ≡ true)
    × (has_room WRITTEN_VERSION (slice_index (map (λ r. r.region.len) layout) f.arena) f.used f.clumps n ≡ true)
fits_parts layout versions f n fit =
    both (slice_index versions f.arena == WRITTEN_VERSION) (has_room WRITTEN_VERSION (slice_index (map (λ (r : ArenaRegion). r.region.len) layout) f.arena) f.used f.clumps n) fit

pub fits_version : (layout : List ArenaRegion) (versions : List ℕ) (f : Filling) (n : ℕ) → IsTrue (fits_in layout versions f n) → slice_index versions f.arena ≡ WRITTEN_VERSION
fits_version layout versions f n fit =
    (Decides-eqb (slice_index versions f.arena) WRITTEN_VERSION).0 (fits_parts layout versions f n fit).0

-- a block fits an arena that is there, within its region
pub fits_within : (layout : List ArenaRegion) (versions : List ℕ) (f : Filling) (n : ℕ) → IsTrue (fits_in layout versions f n)
    → (r : ArenaRegion) × (slice_get layout f.arena ≡ Some r) × (f.used + 38 + n + 25 * (f.clumps + 1) ≤ r.region.len - 24576)
fits_within layout versions f n fit =
    let room = leb-true _ _ (fits_parts layout versions f n fit).1 in
    ⊎_elim
    (λ (it : (x : ArenaRegion) × (f.arena < length layout) × (slice_get layout f.arena ≡ Some x) × (get_or layout f.arena x ≡ x)).
    let len : slice_index (map (λ (r : ArenaRegion). r.region.len) layout) f.arena ≡ it.0.region.len =
    get_or-map (λ (r : ArenaRegion). r.region.len) layout f.arena it.0 0 it.1 ∙ ap (λ (r : ArenaRegion). r.region.len) it.3 in
    (it.0, it.2, omega (arith, len, room)))
    (λ (past : (length layout ≤ f.arena) × (slice_get layout f.arena ≡ None)).
    let len : slice_index (map (λ (r : ArenaRegion). r.region.len) layout) f.arena ≡ 0 =
    get_or_past (map (λ (r : ArenaRegion). r.region.len) layout) f.arena 0 (omega (arith, past.0, length-map layout (λ (r : ArenaRegion). r.region.len))) in
    absurd (omega (arith, len, room)))
    (slice_get_cases layout f.arena).1

-- the arena of a filling that was found is the one that was asked for
pub found_arena : (heads : List Found) (arena : ℕ) → (found_filling heads arena).arena ≡ arena
found_arena heads arena = ⊎_elim
    (λ (it : (x : Found) × (arena < length heads) × (slice_get heads arena ≡ Some x) × (get_or heads arena x ≡ x)). rw it.2)
    (λ (past : (length heads ≤ arena) × (slice_get heads arena ≡ None)). rw past.1)
    (slice_get_cases heads arena).1

-- a block more leads further
pub fill_push : (layout : List ArenaRegion) (versions : List ℕ) (heads : List Found) (from to next : Filling) (ws : List Waiting) (w : Waiting)
    → Fill layout versions heads from ws to → next ≡ turned_to heads w.arena to → to.arena ≤ w.arena → w.arena ≤ to.arena + 1
    → (to.arena < w.arena → IsTrue (can_close versions to.arena))
    → IsTrue (fits_in layout versions next w.packed.len) → Fill layout versions heads from (ws ++ w ∷ []) (with_room_taken w.packed.len next)
fill_push layout versions heads from to next [] w fill is least most closes fit =
    subst (λ (f : Filling). Fill layout versions heads f (w ∷ []) (with_room_taken w.packed.len next)) (sym fill)
    (least, most, closes, subst (λ (f : Filling). IsTrue (fits_in layout versions f w.packed.len)) is fit, ap (with_room_taken w.packed.len) (sym is))
fill_push layout versions heads from to next (v ∷ ws) w fill is least most closes fit =
    (fill.0, fill.1, fill.2, fill.3, fill_push layout versions heads (with_room_taken v.packed.len (turned_to heads v.arena from)) to next ws w fill.4 is least most closes fit)

-- what is turned to is the arena of the block
pub turned_arena : (heads : List Found) (arena : ℕ) (f : Filling) → (turned_to heads arena f).arena ≡ arena
turned_arena heads arena f = ⊎_elim
    (λ (same : ((arena == f.arena) ≡ true) × (arena ≡ f.arena)). rw same.0 (sym same.1))
    (λ (other : ((arena == f.arena) ≡ false) × (arena ≢ f.arena)). rw other.0 (found_arena heads arena))
    (eqb_tells arena f.arena)

-- the arena that is filled last doesn't come before the first one, and is one that is there, if a
-- block waits for it
pub fill_arena : (layout : List ArenaRegion) (versions : List ℕ) (heads : List Found) (from to : Filling) (ws : List Waiting)
    → Fill layout versions heads from ws to → (from.arena ≤ to.arena) × (from.arena ≤ length layout → to.arena ≤ length layout)
fill_arena layout versions heads from to [] fill = (omega (arith, ap (λ (f : Filling). f.arena) fill), λ below. omega (arith, below, ap (λ (f : Filling). f.arena) fill))
fill_arena layout versions heads from to (w ∷ ws) fill =
    let f = turned_to heads w.arena from in
    let rest = fill_arena layout versions heads (with_room_taken w.packed.len f) to ws fill.4 in
    let is = turned_arena heads w.arena from in
    let there = fits_within layout versions f w.packed.len fill.3 in
    let below = slice_get_within layout f.arena there.0 there.1 in
    (omega (arith, rest.0, is, fill.0), λ _. rest.1 (omega (arith, below)))

-- what a block fits has small numbers
pub fits_small : {D : Type 0} (disk : DiskOf D) (l : LogState D) (f : Filling) (n : ℕ) → IsWholeLog disk l → fits_in l.layout l.versions f n ≡ true
    → (f.used + n + 38 < 2147483648) × (f.clumps + 1 < 4294967296)
fits_small disk l f n whole fit =
    let there = fits_within l.layout l.versions f n fit in
    let on = at_slice (IsOnDisk disk l.disks) l.layout f.arena there.0 whole.regions there.1 in
    (omega (arith, there.2, on.region.len.1), omega (arith, there.2, on.region.len.1))

-- no arena has room
next_by : (b closes d : Bool) (f next : Filling) → b ≡ false → d ≡ false → cond b (Some f) (cond (closes && d) (Some next) None) ≡ None
next_by b closes d f next full none =
    ap (λ (x : Bool). cond x (Some f) (cond (closes && d) (Some next) None)) full
    ∙ ap (λ (x : Bool). cond (closes && x) (Some next) None) none ∙ by closes
  where
    by : (x : Bool) → cond (x && false) (Some next) None ≡ None
    by true = refl
    by false = refl

pub next_none : {D : Type 0} (l : LogState D) (f next : Filling) (n arena : ℕ) (found : Found) → l.filling ≡ f → f.arena + 1 ≡ arena
    → fits_in l.layout l.versions f n ≡ false → slice_get l.heads arena ≡ Some found → next ≡ filled_as arena found.head
    → fits_in l.layout l.versions next n ≡ false → next_filling l n ≡ None
next_none l f next n arena found filled is full at next_is none =
    let same : found_filling l.heads (l.filling.arena + 1) ≡ next =
    ap (found_filling l.heads) (ap (λ (g : Filling). g.arena + 1) filled ∙ is)
    ∙ ap (λ (o : Option Found). option_map_or (λ (it : Found). filled_as arena it.head) o (record { arena = arena; used = 0; clumps = 0 })) at ∙ sym next_is in
    next_by (fits_in l.layout l.versions l.filling n) (can_close l.versions l.filling.arena) (fits_in l.layout l.versions (found_filling l.heads (l.filling.arena + 1)) n)
    l.filling (found_filling l.heads (l.filling.arena + 1))
    (ap (λ (g : Filling). fits_in l.layout l.versions g n) filled ∙ full) (ap (λ (g : Filling). fits_in l.layout l.versions g n) same ∙ none)

-- nor past the last one
pub next_past : {D : Type 0} (disk : DiskOf D) (l : LogState D) (f : Filling) (n arena : ℕ) → IsWholeLog disk l → l.filling ≡ f → f.arena + 1 ≡ arena
    → fits_in l.layout l.versions f n ≡ false → length l.heads ≤ arena → next_filling l n ≡ None
next_past disk l f n arena whole filled is full past =
    let next : Filling = found_filling l.heads (l.filling.arena + 1) in
    let place : next.arena ≡ arena = found_arena l.heads (l.filling.arena + 1) ∙ ap (λ (g : Filling). g.arena + 1) filled ∙ is in
    let none : slice_index l.versions next.arena ≡ 0 = ap (slice_index l.versions) place ∙ version_past disk l whole arena past in
    next_by (fits_in l.layout l.versions l.filling n) (can_close l.versions l.filling.arena) (fits_in l.layout l.versions next n) l.filling next
    (ap (λ (g : Filling). fits_in l.layout l.versions g n) filled ∙ full)
    (ap (λ (v : ℕ). v == WRITTEN_VERSION && has_room WRITTEN_VERSION (slice_index (map (λ (r : ArenaRegion). r.region.len) l.layout) next.arena) next.used next.clumps n) none)

-- the next one has room
pub next_some : {D : Type 0} (l : LogState D) (f next : Filling) (n arena : ℕ) (found : Found) → l.filling ≡ f → f.arena + 1 ≡ arena
    → fits_in l.layout l.versions f n ≡ false → slice_index l.versions f.arena ≢ 2 → slice_get l.heads arena ≡ Some found → next ≡ filled_as arena found.head
    → fits_in l.layout l.versions next n ≡ true → next_filling l n ≡ Some next
next_some l f next n arena found filled is full first at next_is fit =
    let same : found_filling l.heads (l.filling.arena + 1) ≡ next =
    ap (found_filling l.heads) (ap (λ (g : Filling). g.arena + 1) filled ∙ is)
    ∙ ap (λ (o : Option Found). option_map_or (λ (it : Found). filled_as arena it.head) o (record { arena = arena; used = 0; clumps = 0 })) at ∙ sym next_is in
    let open_one : can_close l.versions l.filling.arena ≡ true =
    ap (λ (g : Filling). can_close l.versions g.arena) filled ∙ other (slice_index l.versions f.arena) first in
    ap (λ (x : Bool). cond x (Some l.filling) (cond (can_close l.versions l.filling.arena && fits_in l.layout l.versions (found_filling l.heads (l.filling.arena + 1)) n) (Some (found_filling l.heads (l.filling.arena + 1))) None))
    (ap (λ (g : Filling). fits_in l.layout l.versions g n) filled ∙ full)
    ∙ ap (λ (x : Bool). cond (x && fits_in l.layout l.versions (found_filling l.heads (l.filling.arena + 1)) n) (Some (found_filling l.heads (l.filling.arena + 1))) None) open_one
    ∙ ap (λ (g : Filling). cond (fits_in l.layout l.versions g n) (Some g) None) same
    ∙ ap (λ (x : Bool). cond x (Some next) None) fit
  where
    other : (v : ℕ) → v ≢ 2 → not (v == 2) ≡ true
    other v first = ⊎_elim
        (λ (t : ((v == 2) ≡ true) × (v ≡ 2)). absurd (first t.1))
        (λ (t : ((v == 2) ≡ false) × (v ≢ 2)). ap not t.0) (eqb_tells v 2)
