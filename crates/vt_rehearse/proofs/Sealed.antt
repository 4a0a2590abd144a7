-- What a crash leaves of a log: no block is lost of an arena that is sealed then.
use Rattle.std.proofs.Common.{◌≡◌, ◌≢◌, ⊎_elim, ℕ, ◌+◌, ◌<◌, ◌≤◌, Bool, true, false, List, [], ◌∷◌, ◌++◌, length, take, drop, map, refl, sym, ◌∙◌, ap, subst, arith, Some, None, length-append, set, get_or, inl, inr, ◌⊎◌}
use Rattle.std.specs.Prelude.{All, slice_get}
use Rattle.std.proofs.Math.Seq.{drop-append_seam}
use Rattle.std.proofs.lemmas.Bool.{cases_eq}
use Rattle.std.proofs.lemmas.List.{drop-drop, length-drop, length-set}
use Rattle.std.proofs.lemmas.List.Elements.{All-append, All-cons, All-map, All-nil, All-weaker}
use Rattle.std.proofs.lemmas.Option.{same_Some, slice_get_cases, slice_get_within}
use Rattle.vt_disk.specs.Members.{DiskOf}
use Rattle.vt_model.specs.History.{Accepted, History}
use Rattle.vt_part.specs.declared.layout.ArenaRegion.{ArenaRegion}
use Rattle.vt_arena.specs.declared.head.Found.{Found}
use Rattle.vt_arena.specs.Arena.{added_by_commit, next_content}
use Rattle.vt_arena.specs.Layout.{Content, IsArena}
use Rattle.vt_arena.specs.Sound.{HasBegunSelector}
use Rattle.vt_arena.proofs.Commits.{arena_gives}
use Rattle.vt_arena.proofs.Regions.{arena_in_region}
use Rattle.vt_log.specs.declared.filling.Filling.{Filling}
use Rattle.vt_log.specs.declared.queue.Waiting.{Waiting}
use Rattle.vt_log.specs.Log.{LogState, with_room_taken}
use Rattle.vt_log.specs.Logs.{IsLog, accepted_in, blocks_from}
use Rattle.vt_log.specs.Queue.{WaitsFor, waiting_block}
use Rattle.vt_log.specs.Sound.{AreImagesOf, IsArenaAt, IsSoundLog, IsSplit}
use Rattle.vt_log.specs.Whole.{Fill, turned_to}
use Rattle.vt_log.proofs.Fill.{turned_arena}
use Rattle.vt_log.proofs.IsSplit.{blocks_set, longer_prefix, split_order, split_sealed, split_set}
use Rattle.vt_log.proofs.Lists.{slice_get_other, slice_get_set_other, slice_get_set_same}
use Rattle.vt_log.proofs.StandForPrefix.{number_is, region_long, there}

-- ---- blocks that wait

-- none goes to an arena before the one that is filled first
waits_from : (layout : List ArenaRegion) (versions : List ℕ) (heads : List Found) (from to : Filling) (ws : List Waiting) → Fill layout versions heads from ws to → All (λ e. from.arena ≤ e.arena) (map waiting_block ws)
waits_from layout versions heads from to [] fill = All-nil (λ (e : Accepted). from.arena ≤ e.arena)
waits_from layout versions heads from to (w ∷ ws) fill =
    let f : Filling = turned_to heads w.arena from in
    let is : f.arena ≡ w.arena = turned_arena heads w.arena from in
    let least : from.arena ≤ w.arena = fill.0 in
    All-cons (λ (e : Accepted). from.arena ≤ e.arena) (waiting_block w) (map waiting_block ws) least
    (All-weaker (λ (e : Accepted). f.arena ≤ e.arena) (λ (e : Accepted). from.arena ≤ e.arena) (λ e later. omega (arith, later, is, least)) (map waiting_block ws)
    (waits_from layout versions heads (with_room_taken w.packed.len f) to ws fill.4))

-- nor before the one for which the first waits
waits_behind : (layout : List ArenaRegion) (versions : List ℕ) (heads : List Found) (from to : Filling) (ws : List Waiting) (arena : ℕ) → Fill layout versions heads from ws to → WaitsFor arena ws → All (λ e. arena ≤ e.arena) (map waiting_block ws)
waits_behind layout versions heads from to [] arena fill waits = absurd waits
waits_behind layout versions heads from to (w ∷ ws) arena fill waits =
    let f : Filling = turned_to heads w.arena from in
    let is : f.arena ≡ w.arena = turned_arena heads w.arena from in
    All-cons (λ (e : Accepted). arena ≤ e.arena) (waiting_block w) (map waiting_block ws) (omega (arith, waits))
    (All-weaker (λ (e : Accepted). f.arena ≤ e.arena) (λ (e : Accepted). arena ≤ e.arena) (λ e later. omega (arith, later, is, waits)) (map waiting_block ws)
    (waits_from layout versions heads (with_room_taken w.packed.len f) to ws fill.4))

-- ---- what is left

-- The files are a log of the first n blocks, with all that are durable, and the others belong to no
-- arena before the base.
pub record LeavesLog {D : Type 0} (score : List ℕ → List ℕ) (l : LogState D) (files : List (List ℕ)) (h : History) : Type 0 where
  pub n : ℕ
  pub base : ℕ
  pub durable : l.durable ≤ n
  pub within : n ≤ length h
  pub log : IsLog score l.layout files (take n h) base
  pub others : All (λ e. base ≤ e.arena) (drop n h)

module _ {D : Type 0} (score : List ℕ → List ℕ) (disk : DiskOf D) (l : LogState D) (h : History) (files : List (List ℕ)) (sound : IsSoundLog score disk l h) (images : AreImagesOf disk l.disks files) where
  -- an arena with this content is there
  abbrev Holds : (i : ℕ) → Content → Type 0
  Holds i a = (r : ArenaRegion) → slice_get l.layout i ≡ Some r → (file : List ℕ) × (slice_get files r.part ≡ Some file) × IsArena score r.region r.number a file

  file_of : (i : ℕ) (r : ArenaRegion) (device : D) → IsArenaAt l i r device → (file : List ℕ) × (slice_get files r.part ≡ Some file) × disk.images device file
  file_of i r device at =
      let file = slice_get_other files l.disks r.part device (sym images.many) at.disk_is in
      (file.0, file.1, images.each r.part device file.0 at.disk_is file.1)

  -- but for the one that is committed in, each holds what it held
  others_hold : (i : ℕ) (a : Content) → i ≢ l.committing → slice_get sound.contents i ≡ Some a → Holds i a
  others_hold i a other content r at =
      let t = there disk l i r sound.whole at in
      let file = file_of i r t.disk t.at in
      let rests = sound.others i r t.disk a other t.at content in
      (file.0, file.1, arena_in_region score r.region r.number a (disk.bytes t.disk) file.0 (region_long disk l i r t.disk sound.whole t.at) (rests.0 file.0 file.2) rests.1)

  -- and that one too, or what its commit makes of it
  current_holds : (a : Content) → slice_get sound.contents l.committing ≡ Some a → Holds l.committing a ⊎ Holds l.committing (next_content l.arena a)
  current_holds a content =
      let region = slice_get_other l.layout sound.contents l.committing a sound.many content in
      let r = region.0 in
      let t = there disk l l.committing r sound.whole region.1 in
      let file = file_of l.committing r t.disk t.at in
      let number = number_is disk l r sound.whole region.1 in
      let here : (b : Content) → IsArena score r.region l.arena.number b file.0 → Holds l.committing b = λ b is q at.
      let same : r ≡ q = same_Some r q (sym region.1 ∙ at) in (
        file.0,
        subst (λ (x : ArenaRegion). slice_get files x.part ≡ Some file.0) same file.1,
        subst (λ (x : ArenaRegion). IsArena score x.region x.number b file.0) same (subst (λ (n : ℕ). IsArena score r.region n b file.0) number is),
      ) in
      ⊎_elim
      (λ (old : IsArena score r.region l.arena.number a file.0). inl (here a old))
      (λ (next : HasBegunSelector l.arena × IsArena score r.region l.arena.number (next_content l.arena a) file.0). inr (here (next_content l.arena a) next.1))
      (arena_gives score l.arena r.region a (disk.bytes t.disk) (disk.images t.disk) (sound.current r t.disk a t.at content) file.0 file.2)

  inside : l.durable ≤ length h
  inside = let front = sound.front in omega (arith, front)

  conclude : (n c : ℕ) (cs : List Content) → l.durable ≤ n → n ≤ length h → take n h ≡ blocks_from 0 cs → IsSplit c cs → c ≤ length cs → length cs ≡ length l.layout
      → ((i : ℕ) (a : Content) → slice_get cs i ≡ Some a → Holds i a) → All (λ e. c ≤ e.arena) (drop n h) → LeavesLog score l files h
  conclude n c cs durable within history split there_is many holds others =
      let order = split_order c cs split there_is in
      record {
        n = n;
        base = c;
        durable = durable;
        within = within;
        log = record {
          contents = cs;
          arenas = record { many = many; each = λ i r a at content. holds i a content r at };
          order = order.0;
          history = history;
          base_is = sym order.1;
        };
        others = others;
      }

  abbrev added : History
  added = map (accepted_in l.committing) (added_by_commit l.arena)

  abbrev waiting : History
  waiting = map waiting_block l.queue.waiting

  queued : drop l.durable h ≡ added ++ waiting
  queued = sound.queued

  none_before : All (λ e. l.committing ≤ e.arena) waiting
  none_before = waits_from l.layout l.versions l.heads _ l.filling l.queue.waiting sound.whole.queue

  -- where the commit isn't there yet
  before : ((a : Content) → slice_get sound.contents l.committing ≡ Some a → Holds l.committing a) → LeavesLog score l files h
  before current =
      let committing = sound.whole.committing in
      let many = sound.many in
      conclude l.durable l.committing sound.contents (omega arith) inside sound.committed sound.split (omega (arith, committing, many)) sound.many
      (λ i a content. ⊎_elim
      (λ same. subst (λ (k : ℕ). Holds k a) (sym same) (current a (sym (ap (slice_get sound.contents) same) ∙ content)))
      (λ other. others_hold i a other content)
      (cases_eq i l.committing))
      (subst (All (λ e. l.committing ≤ e.arena)) (sym queued)
      (All-append (λ (e : Accepted). l.committing ≤ e.arena) added waiting
      (All-map (λ (e : Accepted). l.committing ≤ e.arena) (accepted_in l.committing) (added_by_commit l.arena) (λ i s lt. omega arith)) none_before))

  -- where it is
  module _ (a : Content) (is : slice_get sound.contents l.committing ≡ Some a) (there_is : l.committing < length sound.contents) (current : Holds l.committing (next_content l.arena a)) where
    abbrev next : Content
    next = next_content l.arena a

    abbrev cs : List Content
    cs = set sound.contents l.committing next

    long : length cs ≡ length sound.contents
    long = length-set sound.contents l.committing next

    abbrev n : ℕ
    n = l.durable + length added

    within : n ≤ length h
    within =
        let parts = ap (λ (q : History). length q) queued ∙ length-append added waiting in
        let rest = length-drop l.durable h in
        let least = inside in
        omega (arith, parts, rest, least)

    history : take n h ≡ blocks_from 0 cs
    history = longer_prefix h l.durable added waiting inside queued
        ∙ ap (λ (q : History). q ++ added) sound.committed
        ∙ ap (λ (k : ℕ). blocks_from 0 sound.contents ++ map (accepted_in k) (added_by_commit l.arena)) (let e : l.committing ≡ 0 + l.committing = omega arith in e)
        ∙ sym (blocks_set 0 l.committing sound.contents a next (added_by_commit l.arena) is sound.split.behind refl)

    rest : drop n h ≡ waiting
    rest = sym (drop-drop (length added) l.durable h) ∙ ap (drop (length added)) queued ∙ drop-append_seam added waiting

    holds : (i : ℕ) (b : Content) → slice_get cs i ≡ Some b → Holds i b
    holds i b content = ⊎_elim
        (λ same.
        let own : next ≡ b = same_Some next b (sym (slice_get_set_same sound.contents l.committing next there_is) ∙ sym (ap (slice_get cs) same) ∙ content) in
        subst (λ (k : ℕ). Holds k b) (sym same) (subst (Holds l.committing) own current))
        (λ other. others_hold i b other (sym (slice_get_set_other sound.contents l.committing i next other) ∙ content))
        (cases_eq i l.committing)

    after : (sealed : Bool) → l.arena.next.sealed ≡ sealed → LeavesLog score l files h
    after false unsealed =
        let same = long in
        conclude n l.committing cs (omega arith) within history (split_set l.committing sound.contents next there_is sound.split unsealed) (omega (arith, same, there_is)) (long ∙ sound.many) holds
        (subst (All (λ e. l.committing ≤ e.arena)) (sym rest) none_before)
    after true sealed =
        let same = long in
        conclude n (l.committing + 1) cs (omega arith) within history (split_sealed l.committing sound.contents next there_is sound.split sealed) (omega (arith, same, there_is)) (long ∙ sound.many) holds
        (subst (All (λ e. l.committing + 1 ≤ e.arena)) (sym rest)
        (waits_behind l.layout l.versions l.heads _ l.filling l.queue.waiting (l.committing + 1) sound.whole.queue (sound.whole.way sealed)))

  pub keeps_sealed : LeavesLog score l files h
  keeps_sealed = ⊎_elim
      (λ (it : (a : Content) × (l.committing < length sound.contents) × (slice_get sound.contents l.committing ≡ Some a) × (get_or sound.contents l.committing a ≡ a)).
      ⊎_elim
      (λ old. before (λ b content. subst (Holds l.committing) (same_Some it.0 b (sym it.2 ∙ content)) old))
      (λ new. after it.0 it.2 it.1 new l.arena.next.sealed refl)
      (current_holds it.0 it.2))
      (λ (past : (length sound.contents ≤ l.committing) × (slice_get sound.contents l.committing ≡ None)).
      before (λ a has. let lt = slice_get_within sound.contents l.committing a has in let none = past.0 in absurd (omega (arith, none, lt))))
      (slice_get_cases sound.contents l.committing).1
