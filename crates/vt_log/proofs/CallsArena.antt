-- What a device call of a commit leaves of a log.
use Rattle.std.proofs.Common.{◌≡◌, ◌≢◌, ◌⊎◌, ⊎_elim, ℕ, ◌+◌, ◌<◌, ◌≤◌, Bool, true, false, cond, List, ◌++◌, get_or, map, set, refl, sym, ◌∙◌, ap, subst, arith, Some, None, Option, inl, inr}
use Rattle.std.specs.Prelude.{AllPairs, slice_get, nat_lt}
use Rattle.std.proofs.Math.Dec.{leb}
use Rattle.std.proofs.lemmas.Bool.{cases_eq}
use Rattle.std.proofs.lemmas.Bool.Decides.{leb_tells}
use Rattle.std.proofs.lemmas.List.{length-set}
use Rattle.std.proofs.lemmas.List.Elements.{All-weaker}
use Rattle.std.proofs.lemmas.Option.{slice_get_within, get_or_from_slice_get, same_Some}
use Rattle.vt_disk.specs.Members.{DiskOf}
use Rattle.vt_disk.specs.declared.region.Region.{Region}
use Rattle.vt_disk.specs.Disk.{SameBut, WithinCall}
use Rattle.vt_disk.specs.Region.{Inside, ChangesWithin, region_bytes}
use Rattle.vt_disk.proofs.Bytes.{part_same}
use Rattle.vt_twin.specs.Frames.{named_number}
use Rattle.vt_twin.specs.Twin.{TwinState, twin_after_fault}
use Rattle.vt_clump.specs.Clumps.{stored_of}
use Rattle.vt_clump.specs.declared.packed.Packed.{Packed}
use Rattle.vt_model.specs.History.{History}
use Rattle.vt_part.specs.declared.layout.ArenaRegion.{ArenaRegion}
use Rattle.vt_part.specs.Laws.{IsBefore}
use Rattle.vt_arena.specs.declared.TheConstants.{FRAME_LEN}
use Rattle.vt_arena.specs.declared.head.ArenaHead.{ArenaHead}
use Rattle.vt_arena.specs.Arena.{ArenaState, version_counted, next_content, pieces, after_step, after_piece, after_head, after_fault, with_failure, changing}
use Rattle.vt_arena.specs.Layout.{Content, IsArena}
use Rattle.vt_arena.specs.Places.{IsVersion, bad_last}
use Rattle.vt_arena.specs.Sound.{IsRegion, IsSettled, IsSoundArena, GivesOldOrNext}
use Rattle.vt_arena.proofs.Fresh.{settled_elsewhere}
use Rattle.vt_arena.proofs.Regions.{arena_in_region, named_in_region}
use Rattle.vt_log.specs.Committing.{IsCommitReady}
use Rattle.vt_log.specs.Log.{LogState}
use Rattle.vt_log.specs.Logs.{accepted_in}
use Rattle.vt_log.specs.Queue.{waiting_block}
use Rattle.vt_log.specs.Sound.{IsArenaAt, IsSoundLog, AreWithinCallOf, LogStandsForPrefix}
use Rattle.vt_log.specs.Whole.{IsOnDisk, IsWholeLog}
use Rattle.vt_log.proofs.StandForPrefix.{region_long, number_is, stand_for_prefix, moment_stands}
use Rattle.vt_log.proofs.Lists.{slice_get_other, slice_get_set_same, slice_get_set_other}

-- what the calls of a commit leave of an arena but the last
pub record KeepsArena (a b : ArenaState) : Type 0 where
  pub len : b.len ≡ a.len
  pub number : b.number ≡ a.number
  pub head : b.head ≡ a.head
  pub next : b.next ≡ a.next
  pub staged : b.staged ≡ a.staged

pub step_keeps : (a : ArenaState) → KeepsArena a (after_step a) × ((after_step a).failed ≡ a.failed)
step_keeps a = at (nat_lt a.written (pieces a))
  where
    at : (b : Bool) → KeepsArena a (cond b (after_piece a) (after_head a)) × ((cond b (after_piece a) (after_head a)).failed ≡ a.failed)
    at true = (record { len = refl; number = refl; head = refl; next = refl; staged = refl }, refl)
    at false = (record { len = refl; number = refl; head = refl; next = refl; staged = refl }, refl)

pub fault_keeps : (a : ArenaState) → KeepsArena a (after_fault a)
fault_keeps a = at (nat_lt a.written (pieces a)) (twin_after_fault (changing a))
  where
    at : (b : Bool) (t : TwinState) → KeepsArena a (cond b (with_failure a) (record (with_failure a) { twin = t }))
    at true t = record { len = refl; number = refl; head = refl; next = refl; staged = refl }
    at false t = record { len = refl; number = refl; head = refl; next = refl; staged = refl }

-- the regions stay on their disks
pub on_disk_set : {D : Type 0} (disk : DiskOf D) (ds : List D) (i : ℕ) (d e : D) (r : ArenaRegion) → slice_get ds i ≡ Some d → disk.size e ≡ disk.size d → IsOnDisk disk ds r → IsOnDisk disk (set ds i e) r
on_disk_set disk ds i d e r at same on = ⊎_elim
    (λ (here : r.part ≡ i).
    let device : d ≡ on.device = same_Some d on.device (sym at ∙ sym (ap (slice_get ds) here) ∙ on.has) in
    record {
      device = e;
      has = ap (slice_get (set ds i e)) here ∙ slice_get_set_same ds i e (slice_get_within ds i d at);
      region = subst (IsRegion r.region) (sym (ap disk.size device) ∙ sym same) on.region;
    })
    (λ (other : r.part ≢ i). record {
      device = on.device;
      has = slice_get_set_other ds i r.part e other ∙ on.has;
      region = on.region;
    })
    (cases_eq r.part i)

-- a log in memory stays whole by a call that ends no commit
pub call_whole : {D : Type 0} (disk : DiskOf D) (l : LogState D) (i : ℕ) (d e : D) (b : ArenaState) (calls : ℕ) (stopped : Option ℕ) → IsWholeLog disk l → IsCommitReady l → KeepsArena l.arena b
    → (stopped ≡ None → b.failed ≡ false) → slice_get l.disks i ≡ Some d → disk.size e ≡ disk.size d
    → IsWholeLog disk (record l { disks = set l.disks i e; arena = b; calls = calls; stopped = stopped })
call_whole disk l i d e b calls stopped whole ready keeps runs at same = record {
  many_disks = length-set l.disks i e ∙ whole.many_disks;
  layout = whole.layout;
  regions = All-weaker (IsOnDisk disk l.disks) (IsOnDisk disk (set l.disks i e)) (λ r on. on_disk_set disk l.disks i d e r at same on) l.layout whole.regions;
  apart = whole.apart;
  few = whole.few;
  many = whole.many;
  heads = whole.heads;
  versions = whole.versions;
  unsealed = whole.unsealed;
  base = whole.base;
  committing = whole.committing;
  arena = λ r found here has. let it = whole.arena r found here has in record {
    len = keeps.len ∙ it.len;
    number = keeps.number ∙ it.number;
    head = keeps.head ∙ it.head;
    counted = ap version_counted keeps.next ∙ it.counted;
    version = subst (λ (h : ArenaHead). IsVersion h.version) (sym keeps.next) it.version;
    last = subst (λ (h : ArenaHead). h.version ≡ 2 → bad_last h.clumps h.used h.last ≡ None) (sym keeps.next) it.last;
  };
  none = λ past. let it = whole.none past in (keeps.staged ∙ it.0, ap (λ head. head.sealed) keeps.next ∙ it.1);
  number = ap (λ (head : ArenaHead). head.number) keeps.next ∙ whole.number ∙ sym keeps.number;
  clumps = rw (keeps.next, keeps.head, keeps.staged) whole.clumps;
  runs = runs;
  some = λ committing none. ap (λ head. head.sealed) keeps.next ∙ ready (sym keeps.staged ∙ none);
  way = λ sealed. whole.way (sym (ap (λ head. head.sealed) keeps.next) ∙ sealed);
  queue = rw keeps.next whole.queue;
  places = rw keeps.staged whole.places;
  most = whole.most;
  durable = whole.durable;
}

-- two arenas' regions on one disk are apart
pub apart_at : (layout : List ArenaRegion) (i j : ℕ) (r q : ArenaRegion) → AllPairs IsBefore layout → i ≢ j → slice_get layout i ≡ Some r → slice_get layout j ≡ Some q → r.part ≡ q.part
    → (r.region.start + r.region.len ≤ q.region.start) ⊎ (q.region.start + q.region.len ≤ r.region.start)
apart_at layout i j r q pairs other at_i at_j part = ⊎_elim
    (λ (t : (leb i j ≡ true) × (i ≤ j)).
    let lt : i < j = omega (arith, t.1, other) in
    let before : IsBefore r q = pair i j r q lt at_i at_j in
    ⊎_elim (λ (h : r.part < q.part). absurd (omega (arith, h, part))) (λ (h : (r.part ≡ q.part) × (r.region.start + r.region.len ≤ q.region.start)). inl h.1) before)
    (λ (t : (leb i j ≡ false) × (j < i)).
    let before : IsBefore q r = pair j i q r t.1 at_j at_i in
    ⊎_elim (λ (h : q.part < r.part). absurd (omega (arith, h, part))) (λ (h : (q.part ≡ r.part) × (q.region.start + q.region.len ≤ r.region.start)). inr h.1) before)
    (leb_tells i j)
  where
    pair : (i j : ℕ) (r q : ArenaRegion) → i < j → slice_get layout i ≡ Some r → slice_get layout j ≡ Some q → IsBefore r q
    pair i j r q lt at_i at_j =
        subst (λ (x : ArenaRegion). IsBefore x q) (get_or_from_slice_get layout i r r at_i)
        (subst (λ (y : ArenaRegion). IsBefore (get_or layout i r) y) (get_or_from_slice_get layout j q r at_j) (pairs i j r lt (slice_get_within layout j q at_j)))

-- what a call of this arena's commit does to its disk: only its region changes
pub record ChangesRegion {D : Type 0} (disk : DiskOf D) (region : Region) (before after : D) : Type 0 where
  pub size_is : disk.size after ≡ disk.size before
  pub images_are : ChangesWithin region (disk.images before) (disk.images after)
  pub bytes_are : SameBut (Inside region) (disk.bytes before) (disk.bytes after)

-- Any other arena stays what it is: settled, with the same bytes and the same selector.
pub record StaysAt {D : Type 0} (score_of : List ℕ → List ℕ) (disk : DiskOf D) (region : Region) (before after : D) : Type 0 where
  pub settled : IsSettled region (disk.bytes before) (disk.images before) → IsSettled region (disk.bytes after) (disk.images after)
  pub arena : (number : ℕ) (a : Content) → IsArena score_of region number a (disk.bytes before) → IsArena score_of region number a (disk.bytes after)
  pub selector : named_number region FRAME_LEN (disk.bytes after) ≡ named_number region FRAME_LEN (disk.bytes before)

-- the disk of an arena was one before
pub at_before : {D : Type 0} (l k : LogState D) (i : ℕ) (q : ArenaRegion) (after : D) (part : ℕ) (e : D) → k.layout ≡ l.layout → k.disks ≡ set l.disks part e
    → IsArenaAt k i q after → (before : D) × IsArenaAt l i q before × (slice_get (set l.disks part e) q.part ≡ Some after)
at_before l k i q after part e layout disks at =
    let now : slice_get (set l.disks part e) q.part ≡ Some after = sym (ap (λ ds. slice_get ds q.part) disks) ∙ at.disk_is in
    let was = slice_get_other l.disks (set l.disks part e) q.part after (length-set l.disks part e) now in
    (was.0, record { arena = sym (ap (λ rs. slice_get rs i) layout) ∙ at.arena; disk_is = was.1 }, now)

-- ---- a call of the disk of the arena that is committed in

module _ {D : Type 0} (score_of : List ℕ → List ℕ) (disk : DiskOf D) (l : LogState D) (r : ArenaRegion) (d e : D)
    (at : IsArenaAt l l.committing r d) (changes : ChangesRegion disk r.region d e) where
  pub others_stay : IsWholeLog disk l → (i : ℕ) (q : ArenaRegion) (before after : D) → i ≢ l.committing → IsArenaAt l i q before → slice_get (set l.disks r.part e) q.part ≡ Some after
      → StaysAt score_of disk q.region before after
  others_stay whole i q before after not_this there_at now = ⊎_elim
      (λ (same : q.part ≡ r.part).
      let was : d ≡ before = same_Some d before (sym at.disk_is ∙ sym (ap (slice_get l.disks) same) ∙ there_at.disk_is) in
      let is : e ≡ after = same_Some e after (sym (slice_get_set_same l.disks r.part e (slice_get_within l.disks r.part d at.disk_is)) ∙ sym (ap (slice_get (set l.disks r.part e)) same) ∙ now) in
      let gap = apart_at l.layout i l.committing q r whole.apart not_this there_at.arena at.arena same in
      let clear : (k : ℕ) → Inside r.region k → ¬ Inside q.region k = λ k inside there. ⊎_elim
      (λ (h : q.region.start + q.region.len ≤ r.region.start). omega (arith, h, inside.0, there.1))
      (λ (h : r.region.start + r.region.len ≤ q.region.start). omega (arith, h, inside.1, there.0)) gap in
      let long : 24576 ≤ q.region.len = region_long disk l i q before whole there_at in
      let stay : region_bytes q.region (disk.bytes e) ≡ region_bytes q.region (disk.bytes d) =
      part_same (Inside r.region) q.region.start q.region.len (disk.bytes d) (disk.bytes e) changes.bytes_are (λ k above below inside. clear k inside (above, below)) in
      subst (λ (x : D). StaysAt score_of disk q.region x after) was (subst (λ (x : D). StaysAt score_of disk q.region d x) is (record {
        settled = settled_elsewhere q.region r.region (disk.bytes d) (disk.bytes e) (disk.images d) (disk.images e) clear changes.bytes_are changes.images_are;
        arena = λ number a. arena_in_region score_of q.region number a (disk.bytes d) (disk.bytes e) long stay;
        selector = named_in_region q.region (disk.bytes d) (disk.bytes e) long stay;
      })))
      (λ (different : q.part ≢ r.part).
      let same : before ≡ after = same_Some before after (sym there_at.disk_is ∙ sym (slice_get_set_other l.disks r.part q.part e different) ∙ now) in
      subst (λ (x : D). StaysAt score_of disk q.region before x) same (record { settled = λ h. h; arena = λ number a h. h; selector = refl }))
      (cases_eq q.part r.part)

  -- a disk stays sound by a call that ends no commit
  pub call_sound : (h : History) (b : ArenaState) (calls : ℕ) (stopped : Option ℕ) → (sound : IsSoundLog score_of disk l h) → IsCommitReady l → KeepsArena l.arena b
      → (stopped ≡ None → b.failed ≡ false)
      → ((a : Content) → slice_get sound.contents l.committing ≡ Some a → IsSoundArena score_of b r.region a (disk.bytes e) (disk.images e))
      → IsSoundLog score_of disk (record l { disks = set l.disks r.part e; arena = b; calls = calls; stopped = stopped }) h
  call_sound h b calls stopped sound ready keeps runs stays = record {
    whole = call_whole disk l r.part d e b calls stopped sound.whole ready keeps runs at.disk_is changes.size_is;
    contents = sound.contents;
    many = sound.many;
    split = sound.split;
    current = λ q device a there_at has.
        let r_is : r ≡ q = same_Some r q (sym at.arena ∙ there_at.arena) in
        let part : q.part ≡ r.part = ap (λ (x : ArenaRegion). x.part) (sym r_is) in
        let disk_is : e ≡ device = same_Some e device (sym (slice_get_set_same l.disks r.part e (slice_get_within l.disks r.part d at.disk_is)) ∙ sym (ap (slice_get (set l.disks r.part e)) part) ∙ there_at.disk_is) in
        subst (λ (x : ArenaRegion). IsSoundArena score_of b x.region a (disk.bytes device) (disk.images device)) r_is (subst (λ (x : D). IsSoundArena score_of b r.region a (disk.bytes x) (disk.images x)) disk_is (stays a has));
    others = λ i q device a not_this there_at has.
        let was = at_before l _ i q device r.part e refl refl there_at in
        let rest = sound.others i q was.0 a not_this was.1 has in
        let stay = others_stay sound.whole i q was.0 device not_this was.1 was.2 in
        (stay.settled rest.0, stay.arena q.number a rest.1);
    heads = sound.heads;
    selectors = λ i q device found behind there_at has.
        let was = at_before l _ i q device r.part e refl refl there_at in
        let stay = others_stay sound.whole i q was.0 device (λ same. omega (arith, behind, same)) was.1 was.2 in
        sound.selectors i q was.0 found behind was.1 has ∙ sym stay.selector;
    committed = sound.committed;
    queued = sound.queued ∙ sym (ap (λ (ps : List Packed). map (accepted_in l.committing) (map stored_of ps) ++ map waiting_block l.queue.waiting) keeps.staged);
    front = sound.front;
    packed = sound.packed;
    places = sound.places;
    filling = sound.filling;
    last = sound.last;
    arenas = sound.arenas;
  }

  -- A crash at any moment of a call leaves disks that stand for a prefix.
  pub call_stands : (h : History) (Began : Type 0) (files : List (List ℕ)) → (sound : IsSoundLog score_of disk l h)
      → ((a : Content) → slice_get sound.contents l.committing ≡ Some a → (c : List ℕ) → WithinCall (disk.images d) (disk.images e) c
      → GivesOldOrNext Began score_of r.region l.arena.number a (next_content l.arena a) c)
      → AreWithinCallOf disk l.disks (set l.disks r.part e) files → LogStandsForPrefix score_of l files h
  call_stands h Began files sound crashes left =
      stand_for_prefix score_of disk l h files sound left.many
      (λ q device a file there_at has of.
      let r_is : r ≡ q = same_Some r q (sym at.arena ∙ there_at.arena) in
      let number : l.arena.number ≡ q.number = number_is disk l q sound.whole there_at.arena in
      let moment : WithinCall (disk.images d) (disk.images e) file = left.each r.part d e file at.disk_is (slice_get_set_same l.disks r.part e (slice_get_within l.disks r.part d at.disk_is))
      (ap (λ (x : ArenaRegion). slice_get files x.part) r_is ∙ of) in
      ⊎_elim
      (λ (old : IsArena score_of r.region l.arena.number a file).
      inl (subst (λ (x : ArenaRegion). IsArena score_of x.region q.number a file) r_is (subst (λ (n : ℕ). IsArena score_of r.region n a file) number old)))
      (λ (next : Began × IsArena score_of r.region l.arena.number (next_content l.arena a) file).
      inr (subst (λ (x : ArenaRegion). IsArena score_of x.region q.number (next_content l.arena a) file) r_is (subst (λ (n : ℕ). IsArena score_of r.region n (next_content l.arena a) file) number next.1)))
      (crashes a has file moment))
      (λ i q device a file not_this there_at has of.
      let after = slice_get_other (set l.disks r.part e) l.disks q.part device (sym (length-set l.disks r.part e)) there_at.disk_is in
      let stay = others_stay sound.whole i q device after.0 not_this there_at after.1 in
      let rest = sound.others i q device a not_this there_at has in
      let long : 24576 ≤ q.region.len = region_long disk l i q device sound.whole there_at in
      ⊎_elim
      (λ (was : disk.images device file). arena_in_region score_of q.region q.number a (disk.bytes device) file long (rest.0 file was) rest.1)
      (λ (is : disk.images after.0 file). arena_in_region score_of q.region q.number a (disk.bytes after.0) file long (stay.settled rest.0 file is) (stay.arena q.number a rest.1))
      (left.each q.part device after.0 file there_at.disk_is after.1 of))

-- and where no call is made
pub rest_stands : {D : Type 0} (score_of : List ℕ → List ℕ) (disk : DiskOf D) (l : LogState D) (h : History)
    (files : List (List ℕ)) (ds : List D) → IsSoundLog score_of disk l h → ds ≡ l.disks → AreWithinCallOf disk l.disks ds files → LogStandsForPrefix score_of l files h
rest_stands score_of disk l h files ds sound same left =
    moment_stands score_of disk l h files sound (record {
      many = left.many;
      each = λ i device file at of. ⊎_elim (λ (was : disk.images device file). was) (λ (is : disk.images device file). is) (left.each i device device file at (ap (λ xs. slice_get xs i) same ∙ at) of);
    })
