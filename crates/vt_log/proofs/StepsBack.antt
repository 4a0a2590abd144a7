-- A walk back through the arenas.
use Rattle.std.proofs.Common.{◌≡◌, ◌≢◌, ◌⊎◌, ⊎_elim, inl, inr, ℕ, zero, suc, ◌+◌, ◌-◌, ◌<◌, ◌≤◌, ◌==◌, min, List, [], ◌∷◌, ◌++◌, length, get_or, take, drop, map, refl, sym, ◌∙◌, ap, subst, arith, Some, Ok, Err, ◌^◌}
use Rattle.std.specs.Prelude.{All, IsTrue, slice_get, slice_index, sum_by, if◌then◌else◌}
use Rattle.std.specs.Option.{option_map}
use Rattle.std.proofs.lemmas.Bool.{cases_eq, cases_lt}
use Rattle.std.proofs.lemmas.List.{length-take-le, length-map, take_all, take_more, get_or-take}
use Rattle.std.proofs.lemmas.List.Elements.{All-append, All-map, All-weaker}
use Rattle.std.proofs.lemmas.List.Sums.{sum_by-cons, sum_by_more, sum_by_more_le}
use Rattle.std.proofs.lemmas.Option.{slice_get_within, get_or_from_slice_get, same_Some}
use Rattle.vt_base.specs.declared.place.Info.{Info}
use Rattle.vt_base.specs.declared.place.Place.{Place}
use Rattle.vt_clump.specs.declared.packed.Packed.{Packed}
use Rattle.vt_clump.specs.Clumps.{stored_of}
use Rattle.vt_clump.specs.Spelling.{Stored, IsStoredBlock}
use Rattle.vt_model.specs.History.{Accepted, History}
use Rattle.vt_model.specs.declared.TheConstants.{ARENA_HEAD_LEN}
use Rattle.vt_model.specs.Places.{Spot, clump_len_in, lengths_in, offset_behind, place_of}
use Rattle.vt_arena.specs.declared.directory.At.{At}
use Rattle.vt_arena.specs.declared.head.Found.{Found}
use Rattle.vt_arena.specs.declared.error.BackBad.{BackBad}
use Rattle.vt_arena.specs.declared.error.BackBad.TheVariants.{Fault, Damaged}
use Rattle.vt_arena.specs.declared.head.ArenaHead.{ArenaHead}
use Rattle.vt_arena.specs.Directory.{walks_headers, IsOnClump, IsInfoOfBlock, IsAtBlock, WalksOn}
use Rattle.vt_base.specs.declared.key.Key.{Key}
use Rattle.vt_disk.specs.Members.{DiskOf}
use Rattle.vt_arena.specs.Layout.{Content, arena_head, used_of}
use Rattle.vt_arena.specs.Places.{block_room, last_sectors, lengths_of, offset_of}
use Rattle.vt_arena.proofs.Layouts.{used-append, used-cons}
use Rattle.vt_arena.proofs.Sectors.{last_none, last_push}
use Rattle.vt_log.specs.Back.{TailState, GivesEntry, IsTailOf, IsTailBehind, IsQueued, StepsBack, IsNextEntry}
use Rattle.vt_log.specs.Log.{LogState, setup_of_log, packed_of}
use Rattle.vt_log.specs.Logs.{accepted_in, blocks_from}
use Rattle.vt_log.specs.Queue.{spot_of}
use Rattle.vt_log.specs.Sound.{IsSoundLog}
use Rattle.vt_log.specs.Whole.{IsWholeLog}
use Rattle.vt_log.proofs.IsWhole.{head_small}
use Rattle.vt_log.proofs.Lists.{slice_get_other, at_slice, slice_get_there}
use Rattle.vt_log.proofs.Places.{blocks_before, take_blocks, block_at, lengths_take, split_at}
use Rattle.vt_log.proofs.StoredAt.{HasContent, has_content, queued_as, front_take, front_same}
use Rattle.vt_log.proofs.IsBehind.{blocks_below}
use Rattle.vt_log.proofs.Versions.{headers_second, used_counted, version_counted_as, version_own}

clumps_before : (arena : ℕ) → List Found → ℕ
clumps_before arena heads = sum_by (λ found. found.head.clumps) (take arena heads)

-- the heads count what the arenas hold
counts_same : (heads : List Found) (contents : List Content) (arena : ℕ) → length heads ≡ length contents
    → ((i : ℕ) (found : Found) (a : Content) → slice_get heads i ≡ Some found → slice_get contents i ≡ Some a → found.head.clumps ≡ length a.stored)
    → sum_by (λ (found : Found). found.head.clumps) (take arena heads) ≡ blocks_before arena contents
counts_same heads contents zero many same = refl
counts_same [] [] (suc arena) many same = refl
counts_same [] (a ∷ contents) (suc arena) many same = absurd (omega (arith, many))
counts_same (f ∷ heads) [] (suc arena) many same = absurd (omega (arith, many))
counts_same (f ∷ heads) (a ∷ contents) (suc arena) many same =
    omega (
      arith,
      sum_by-cons (λ (found : Found). found.head.clumps) f (take arena heads),
      sum_by-cons (λ (a : Content). length a.stored) a (take arena contents),
      same 0 f a refl refl,
      counts_same heads contents arena (omega (arith, many)) (λ i found b at has. same (suc i) found b at has),
    )

-- where a walk of a sound log stands that has no queued block left
pub record IsStanding (contents : List Content) (durable : ℕ) (arena index left : ℕ) (found : Found) : Type 0 where
  pub content : Content
  pub at : slice_get contents arena ≡ Some content
  pub count : left ≡ blocks_before arena contents + index
  pub clumps : found.head.clumps ≡ length content.stored
  pub used : found.head.used ≡ used_of content.version content.stored
  pub version : found.head.version ≡ content.version
  pub last : IsTrue (walks_headers found.head) → found.head.last ≡ last_sectors 0 (lengths_of content.stored)
  pub within : index ≤ length content.stored
  pub most : left ≤ durable

pub standing : {D : Type 0} (score_of : List ℕ → List ℕ) (disk : DiskOf D) (l : LogState D) (h : History) (t : TailState) (found : Found)
    → (sound : IsSoundLog score_of disk l h) → IsTailOf l t → t.queued ≡ 0 → slice_get l.heads t.arena ≡ Some found → IsStanding sound.contents l.durable t.arena t.at.index t.left found
standing score_of disk l h t found sound tail none at =
    let whole = sound.whole in
    let many : length l.heads ≡ length sound.contents = omega (arith, whole.many, sound.many) in
    let a = slice_get_other sound.contents l.heads t.arena found many at in
    let head : (i : ℕ) (f : Found) (b : Content) → slice_get l.heads i ≡ Some f → slice_get sound.contents i ≡ Some b → (f.head.clumps ≡ length b.stored) × (f.head.used ≡ used_of b.version b.stored) = λ i f b has holds.
    let r = slice_get_other l.layout l.heads i f (whole.many) has in
    let is = sound.heads i r.0 f b r.1 has holds in
    (ap (λ (x : _). x.clumps) is, ap (λ (x : _). x.used) is) in
    let below = slice_get_within l.heads t.arena found at in
    let own = head t.arena found a.0 at a.1 in
    let r = slice_get_other l.layout l.heads t.arena found (whole.many) at in
    let is = sound.heads t.arena r.0 found a.0 r.1 at a.1 in
    let index : t.at.index ≤ found.head.clumps = (tail.head found at).0 in
    let sums : sum_by (λ (f : Found). f.head.clumps) (take t.arena l.heads) + found.head.clumps ≤ sum_by (λ (f : Found). f.head.clumps) l.heads =
    subst (λ (f : Found). sum_by (λ (f : Found). f.head.clumps) (take t.arena l.heads) + f.head.clumps ≤ sum_by (λ (f : Found). f.head.clumps) l.heads) (get_or_from_slice_get l.heads t.arena found found at)
    (sum_by_more_le (λ (f : Found). f.head.clumps) l.heads t.arena found below) in
    record {
      content = a.0;
      at = a.1;
      count = omega (arith, tail.left, none, counts_same l.heads sound.contents t.arena many (λ i f b has holds. (head i f b has holds).0));
      clumps = own.0;
      used = own.1;
      version = ap (λ (x : ArenaHead). x.version) is;
      last = λ on.
          ap (λ (x : ArenaHead). x.last) is
          ∙ ap (λ (v : ℕ). if v == 2 then last_sectors 0 (lengths_of a.0.stored) else 0) (sym (ap (λ (x : ArenaHead). x.version) is) ∙ headers_second found.head on);
      within = omega (arith, index, own.0);
      most = omega (arith, tail.left, none, index, sums, whole.durable);
    }

-- the first blocks of a log, up to one of an arena
pub record IsFront (h : History) (arena n : ℕ) (stored : List Stored) : Type 0 where
  pub lengths : lengths_in arena (take n h) ≡ lengths_of stored
  pub arenas : All (λ e. e.arena ≤ arena) (take n h)

pub front_is : {D : Type 0} (score_of : List ℕ → List ℕ) (disk : DiskOf D) (l : LogState D) (h : History) (arena j n : ℕ) (a : Content)
    → (sound : IsSoundLog score_of disk l h) → slice_get sound.contents arena ≡ Some a → j ≤ length a.stored → n ≡ blocks_before arena sound.contents + j → n ≤ l.durable
    → IsFront h arena n (take j a.stored)
front_is score_of disk l h arena j n a sound at most is below =
    let within : l.durable ≤ length h = omega (arith, sound.front) in
    let blocks : History = blocks_from 0 sound.contents in
    let front : take n h ≡ take (blocks_before arena sound.contents + j) blocks =
    sym (front_take h l.durable n below within) ∙ ap (take n) sound.committed ∙ ap (λ (k : ℕ). take k blocks) is in
    let parts : take n h ≡ blocks_from 0 (take arena sound.contents) ++ map (accepted_in (0 + arena)) (take j a.stored) = front ∙ take_blocks 0 sound.contents arena a j at most in
    let inside = slice_get_within sound.contents arena a at in
    record {
      lengths = ap (lengths_in arena) front ∙ lengths_take sound.contents arena a j at most;
      arenas = subst (All (λ (e : Accepted). e.arena ≤ arena)) (sym parts)
          (All-append (λ (e : Accepted). e.arena ≤ arena) (blocks_from 0 (take arena sound.contents)) (map (accepted_in (0 + arena)) (take j a.stored))
          (All-weaker (λ (e : Accepted). e.arena < 0 + length (take arena sound.contents)) (λ (e : Accepted). e.arena ≤ arena)
          (λ e less. omega (arith, less, length-take-le arena sound.contents (omega (arith, inside)))) (blocks_from 0 (take arena sound.contents)) (blocks_below 0 (take arena sound.contents)))
          (All-map (λ (e : Accepted). e.arena ≤ arena) (accepted_in (0 + arena)) (take j a.stored) (λ i s lt. omega arith)));
    }

-- a walk that comes to an arena has all of its blocks before it
pub turned_behind : {D : Type 0} (score_of : List ℕ → List ℕ) (disk : DiskOf D) (l : LogState D) (h : History) (n : ℕ) (t : TailState) (found : Found)
    → IsSoundLog score_of disk l h → IsTailOf l t → t.queued ≡ 0 → t.left ≡ n → slice_get l.heads t.arena ≡ Some found → t.at ≡ record { index = found.head.clumps; end = found.head.used; sectors = found.head.last }
    → IsTailBehind l h n t
turned_behind score_of disk l h n t found sound tail none left at start =
    let it = standing score_of disk l h t found sound tail none at in
    let within : l.durable ≤ length h = omega (arith, sound.front) in
    let few : min n l.durable ≡ t.left = omega (arith, left, it.most) in
    let index : t.at.index ≡ length it.content.stored = ap (λ (x : At). x.index) start ∙ it.clumps in
    let front = front_is score_of disk l h t.arena t.at.index t.left it.content sound it.at it.within it.count it.most in
    let all : take t.at.index it.content.stored ≡ it.content.stored = take_all t.at.index it.content.stored (omega (arith, index)) in
    let lengths : lengths_in t.arena (take (min n l.durable) h) ≡ lengths_of it.content.stored =
    ap (λ (k : ℕ). lengths_in t.arena (take k h)) few ∙ front.lengths ∙ ap lengths_of all in
    record {
      left = left;
      most = omega (arith, left, it.most, within);
      queue = omega (arith, none, left, it.most);
      index = index ∙ sym (length-map it.content.stored (λ (s : Stored). length s.block)) ∙ ap (λ (ls : List ℕ). length ls) (sym lengths);
      end = ap (λ (x : At). x.end) start ∙ it.used ∙ sym (used_counted it.content)
          ∙ ap (λ (v : ℕ). sum_by (block_room v) (lengths_of it.content.stored)) (sym (version_counted_as score_of disk l h sound t.arena it.content it.at))
          ∙ ap (λ (ls : List ℕ). sum_by (block_room (slice_index l.versions t.arena)) ls) (sym lengths);
      sectors = λ other has on.
          let same : found ≡ other = same_Some found other (sym at ∙ has) in
          ap (λ (x : At). x.sectors) start ∙ it.last (ap (λ (f : Found). walks_headers f.head) same ∙ on) ∙ ap (λ (ls : List ℕ). last_sectors 0 ls) (sym lengths);
      arenas = subst (λ (k : ℕ). All (λ (e : Accepted). e.arena ≤ t.arena) (take k h)) (sym few) front.arenas;
    }

-- the block at which such a walk stands
pub record IsAtLast {D : Type 0} (score_of : List ℕ → List ℕ) (disk : DiskOf D) (l : LogState D) (h : History) (n : ℕ) (t : TailState) (found : Found) : Type 0 where
  pub number : ℕ
  pub number_is : number + 1 ≡ n
  pub content : Content
  pub before : List Stored
  pub behind : List Stored
  pub stored : Stored
  pub is : HasContent score_of disk l t.arena content
  pub head : found.head ≡ arena_head score_of is.r.number content
  pub split : content.stored ≡ before ++ stored ∷ behind
  pub at : IsAtBlock found.head before stored t.at
  pub version : slice_index l.versions t.arena ≡ found.head.version
  pub block : slice_get h number ≡ Some (accepted_in t.arena stored)
  pub place : place_of (setup_of_log l) h number ≡ Some (record { arena = t.arena; offset = offset_of content.version before })
  pub scored : stored.score ≡ score_of stored.block
  pub front : IsFront h t.arena number before
  pub inside : number < l.durable
  pub within : number < length h

used_push : (v : ℕ) (xs : List Stored) (s : Stored) → used_of v (xs ++ s ∷ []) ≡ used_of v xs + block_room v (length s.block)
used_push v xs s = omega (arith, used-append v xs (s ∷ []), used-cons v s [])

take_push : {X : Type 0} (xs : List X) (i : ℕ) (x : X) → slice_get xs i ≡ Some x → take (i + 1) xs ≡ take i xs ++ x ∷ []
take_push {X = X} xs i x at =
    take_more xs i x (slice_get_within xs i x at) ∙ ap (λ (y : X). take i xs ++ y ∷ []) (get_or_from_slice_get xs i x x at)

pub at_last : {D : Type 0} (score_of : List ℕ → List ℕ) (disk : DiskOf D) (l : LogState D) (h : History) (n : ℕ) (t : TailState) (found : Found)
    → IsSoundLog score_of disk l h → IsTailOf l t → t.queued ≡ 0 → slice_get l.heads t.arena ≡ Some found → 0 < t.at.index → IsTailBehind l h n t → ((device : D) → disk.images device (disk.bytes device))
    → IsAtLast score_of disk l h n t found
at_last score_of disk l h n t found sound tail none at some behind reads =
    let it = standing score_of disk l h t found sound tail none at in
    let stored = it.content.stored in
    let within : l.durable ≤ length h = omega (arith, sound.front) in
    let j : ℕ = t.at.index - 1 in
    let m : ℕ = t.left - 1 in
    let index : j + 1 ≡ t.at.index = omega (arith, some) in
    let last : m + 1 ≡ t.left = omega (arith, some, it.count) in
    let s = slice_get_there stored j (omega (arith, index, it.within)) in
    let count : m ≡ blocks_before t.arena sound.contents + j = omega (arith, it.count, index, last) in
    let below : m < l.durable = omega (arith, it.most, last) in
    let own : 0 + t.arena ≡ t.arena = omega arith in
    let block : slice_get h m ≡ Some (accepted_in t.arena s.0) =
    sym (front_same h l.durable m below within) ∙ ap (λ (g : History). slice_get g m) sound.committed ∙ ap (slice_get (blocks_from 0 sound.contents)) count
    ∙ block_at 0 sound.contents t.arena it.content j s.0 it.at s.1 ∙ ap (λ (k : ℕ). Some (accepted_in k s.0)) own in
    let front = front_is score_of disk l h t.arena j m it.content sound it.at (omega (arith, index, it.within)) count (omega (arith, below)) in
    let all = front_is score_of disk l h t.arena t.at.index t.left it.content sound it.at it.within it.count it.most in
    let few : min n l.durable ≡ t.left = omega (arith, behind.left, it.most) in
    let own_version : slice_index l.versions t.arena ≡ found.head.version =
    version_own score_of disk l h sound t.arena it.content it.at (omega (arith, some, it.within)) ∙ sym it.version in
    let lengths : lengths_in t.arena (take (min n l.durable) h) ≡ lengths_of (take (j + 1) stored) =
    ap (λ (k : ℕ). lengths_in t.arena (take k h)) few ∙ all.lengths ∙ ap (λ (k : ℕ). lengths_of (take k stored)) (sym index) in
    let end : t.at.end ≡ used_of found.head.version (take (j + 1) stored) =
    behind.end ∙ ap (λ (ls : List ℕ). sum_by (block_room (slice_index l.versions t.arena)) ls) lengths
    ∙ ap (λ (v : ℕ). used_of v (take (j + 1) stored)) own_version in
    let is = has_content score_of disk l h sound t.arena it.content it.at reads in
    let spot : Accepted → Spot = λ (x : Accepted). record { arena = x.arena; offset = offset_behind (setup_of_log l) x.arena (lengths_in x.arena (take m h)) } in
    let placed : place_of (setup_of_log l) h m ≡ Some (spot (accepted_in t.arena s.0)) = ap (option_map spot) block in
    record {
      number = m;
      number_is = omega (arith, last, behind.left);
      content = it.content;
      before = take j stored;
      behind = drop (j + 1) stored;
      stored = s.0;
      is = is;
      head = is.head found at;
      split = split_at stored j s.0 s.1;
      at = record {
        index = omega (arith, index, length-take-le j stored (omega (arith, index, it.within)));
        end = end ∙ ap (used_of found.head.version) (take_push stored j s.0 s.1) ∙ used_push found.head.version (take j stored) s.0;
        sectors = λ on. behind.sectors found at on ∙ ap (λ (ls : List ℕ). last_sectors 0 ls) lengths
            ∙ ap (λ (l : List Stored). last_sectors 0 (lengths_of l)) (take_push stored j s.0 s.1) ∙ last_push 0 (take j stored) s.0;
      };
      version = own_version;
      block = block;
      place = placed ∙ ap (λ (ls : List ℕ). Some (record { arena = t.arena; offset = offset_behind (setup_of_log l) t.arena ls })) front.lengths
          ∙ ap (λ (v : ℕ). Some (record { arena = t.arena; offset = ARENA_HEAD_LEN + sum_by (clump_len_in v) (lengths_of (take j stored)) })) (own_version ∙ it.version);
      scored = (at_slice (IsStoredBlock score_of) stored j s.0 is.content.stored s.1).scored;
      front = front;
      inside = below;
      within = omega (arith, below, within);
    }

-- the block that a walk gives from the queue
pub queue_steps : {D : Type 0} (score_of : List ℕ → List ℕ) (disk : DiskOf D) (l : LogState D) (h : History) (n : ℕ) (t new : TailState) (p : Packed) (place : Place) (info : Info)
    → IsSoundLog score_of disk l h → IsTailBehind l h n t → IsQueued p place t.left info → slice_get (packed_of l) new.queued ≡ Some p → slice_get l.queue.places new.queued ≡ Some place
    → new.queued + 1 ≡ t.queued → new.left + 1 ≡ t.left → new.arena ≡ t.arena → new.at ≡ t.at → StepsBack score_of l h n new (Some info)
queue_steps score_of disk l h n t new p place info sound behind is packed placed queue left arena at =
    let q = queued_as score_of disk l h sound new.queued p packed in
    let number : l.durable + new.queued ≡ new.left = omega (arith, behind.queue, behind.left, queue, left) in
    let before : min n l.durable ≡ min new.left l.durable = omega (arith, behind.queue, behind.left, queue, left) in (
      new.left,
      omega (arith, left, behind.left),
      record {
        block = accepted_in q.arena (stored_of p);
        at = subst (λ (k : ℕ). slice_get h k ≡ Some (accepted_in q.arena (stored_of p))) number q.block;
        kind = is.kind ∙ q.packed.kind;
        score = ap (λ (s : _). s.0) is.score ∙ q.packed.score ∙ q.packed.stored.scored;
        size = is.size ∙ q.packed.len;
        place = subst (λ (k : ℕ). place_of (setup_of_log l) h k ≡ Some (spot_of info.place)) number
            (subst (λ (x : Place). place_of (setup_of_log l) h (l.durable + new.queued) ≡ Some (spot_of x)) (sym is.place_is) (sound.places new.queued place placed));
        number = omega (arith, is.number, left);
      },
      record {
        left = refl;
        most = omega (arith, left, behind.left, behind.most);
        queue = omega (arith, number);
        index = ap (λ (a : At). a.index) at ∙ behind.index ∙ same new.left before (λ (ls : List ℕ). length ls);
        end = ap (λ (a : At). a.end) at ∙ behind.end
            ∙ ap (λ (a : ℕ). sum_by (block_room (slice_index l.versions a)) (lengths_in a (take (min n l.durable) h))) (sym arena)
            ∙ ap (λ (k : ℕ). sum_by (block_room (slice_index l.versions new.arena)) (lengths_in new.arena (take k h))) before;
        sectors = λ found has on. ap (λ (a : At). a.sectors) at ∙ behind.sectors found (ap (slice_get l.heads) (sym arena) ∙ has) on
            ∙ same new.left before (λ (ls : List ℕ). last_sectors 0 ls);
        arenas = subst (λ (k : ℕ). All (λ (e : Accepted). e.arena ≤ new.arena) (take k h)) before
            (subst (λ (a : ℕ). All (λ (e : Accepted). e.arena ≤ a) (take (min n l.durable) h)) (sym arena) behind.arenas);
      },
    )
  where
    same : (k : ℕ) → min n l.durable ≡ min k l.durable → (f : List ℕ → ℕ) → f (lengths_in t.arena (take (min n l.durable) h)) ≡ f (lengths_in new.arena (take (min k l.durable) h))
    same k e f = ap (λ (a : ℕ). f (lengths_in a (take (min n l.durable) h))) (sym arena) ∙ ap (λ (j : ℕ). f (lengths_in new.arena (take j h))) e

-- some blocks have a last one
snoc : (x : Stored) (xs : List Stored) → (front : List Stored) × (last : Stored) × (x ∷ xs ≡ front ++ last ∷ [])
snoc x [] = ([], x, refl)
snoc x (y ∷ ys) = let rest = snoc y ys in (x ∷ rest.0, rest.1, ap (λ (l : List Stored). x ∷ l) rest.2)

-- and the one that it gives from an arena
pub arena_steps : {D : Type 0} (score_of : List ℕ → List ℕ) (disk : DiskOf D) (l : LogState D) (h : History) (n : ℕ) (t new : TailState) (found : Found) (entry info : Info)
    → (last : IsAtLast score_of disk l h n t found) → slice_get l.heads t.arena ≡ Some found
    → IsInfoOfBlock found.head last.before last.stored entry
    × ((first : List Stored) (s : Stored) → last.before ≡ first ++ s ∷ [] → IsAtBlock found.head first s new.at)
    → IsOnClump found.head new.at → t.queued ≡ 0
    → new.at.index + 1 ≡ t.at.index → new.at.end + block_room found.head.version entry.size ≡ t.at.end → new.left + 1 ≡ n → new.queued ≡ t.queued → new.arena ≡ t.arena
    → info ≡ record { key = entry.key; size = entry.size; place = record { arena = t.arena; offset = entry.place.offset }; number = new.left }
    → StepsBack score_of l h n new (Some info)
arena_steps score_of disk l h n t new found entry info last found_at given clump none index end left queue arena info_is =
    let is = given.0 in
    let number : last.number ≡ new.left = omega (arith, last.number_is, left) in
    let few : min new.left l.durable ≡ last.number = omega (arith, number, last.inside) in
    let lengths : lengths_in new.arena (take (min new.left l.durable) h) ≡ lengths_of last.before =
    ap (λ (a : ℕ). lengths_in a (take (min new.left l.durable) h)) arena ∙ ap (λ (k : ℕ). lengths_in t.arena (take k h)) few ∙ last.front.lengths in (
      new.left,
      left,
      record {
        block = accepted_in t.arena last.stored;
        at = subst (λ (k : ℕ). slice_get h k ≡ Some (accepted_in t.arena last.stored)) number last.block;
        kind = ap (λ (x : Info). x.key.kind) info_is ∙ is.kind;
        score = ap (λ (x : Info). x.key.score.0) info_is ∙ is.score ∙ last.scored;
        size = ap (λ (x : Info). x.size) info_is ∙ is.size;
        place = subst (λ (k : ℕ). place_of (setup_of_log l) h k ≡ Some (spot_of info.place)) number
            (last.place ∙ ap (λ (v : ℕ). Some (record { arena = t.arena; offset = offset_of v last.before })) (sym (ap (λ (x : ArenaHead). x.version) last.head))
            ∙ ap (λ (k : ℕ). Some (record { arena = t.arena; offset = k })) (sym is.offset) ∙ ap (λ (x : Info). Some (spot_of x.place)) (sym info_is));
        number = ap (λ (x : Info). x.number) info_is;
      },
      record {
        left = refl;
        most = omega (arith, number, last.within);
        queue = omega (arith, queue, none, number, last.inside);
        index = omega (arith, index, last.at.index) ∙ sym (length-map last.before (λ (s : Stored). length s.block)) ∙ ap (λ (ls : List ℕ). length ls) (sym lengths);
        end = ends found.head.version new.at.end entry.size last.stored.block (used_of found.head.version last.before) t.at.end is.size end last.at.end
            ∙ ap (λ (v : ℕ). used_of v last.before) (sym last.version)
            ∙ ap (λ (a : ℕ). sum_by (block_room (slice_index l.versions a)) (lengths_of last.before)) (sym arena)
            ∙ ap (λ (ls : List ℕ). sum_by (block_room (slice_index l.versions new.arena)) ls) (sym lengths);
        sectors = λ other has on.
            let same : found ≡ other = same_Some found other (sym found_at ∙ ap (slice_get l.heads) (sym arena) ∙ has) in
            before_sectors last.before refl (ap (λ (f : Found). walks_headers f.head) same ∙ on) ∙ ap (λ (ls : List ℕ). last_sectors 0 ls) (sym lengths);
        arenas = subst (λ (k : ℕ). All (λ (e : Accepted). e.arena ≤ new.arena) (take k h)) (sym few)
            (subst (λ (a : ℕ). All (λ (e : Accepted). e.arena ≤ a) (take last.number h)) (sym arena) last.front.arenas);
      },
    )
  where
    ends : (v new_end n : ℕ) (block : List ℕ) (used old_end : ℕ) → n ≡ length block → new_end + block_room v n ≡ old_end → old_end ≡ used + block_room v (length block) → new_end ≡ used
    ends v new_end n block used old_end long e was = omega (arith, ap (block_room v) long, e, was)

    -- the sectors of the clump before, of which there may be none
    before_sectors : (before : List Stored) → last.before ≡ before → IsTrue (walks_headers found.head) → new.at.sectors ≡ last_sectors 0 (lengths_of before)
    before_sectors [] is on =
        last_none new.at.index new.at.end new.at.sectors (clump on) (omega (arith, index, last.at.index, ap (λ (l : List Stored). length l) is))
    before_sectors (x ∷ xs) is on =
        let it = snoc x xs in
        (given.1 it.0 it.1 (is ∙ it.2)).sectors on ∙ sym (ap (λ (l : List Stored). last_sectors 0 (lengths_of l)) it.2 ∙ last_push 0 it.0 it.1)

-- ---- the next arena that has a block left

-- between two turns
pub record IsSkipped {D : Type 0} (l : LogState D) (from t : TailState) : Type 0 where
  pub tail : IsTailOf l t
  pub left : t.left ≡ from.left
  pub queue : t.queued ≡ 0
  pub here : ((t.arena ≡ from.arena) × (t.at ≡ from.at))
      ⊎ ((from.at.index ≡ 0) × (t.arena < from.arena) × ((found : Found) → slice_get l.heads t.arena ≡ Some found → t.at ≡ record { index = found.head.clumps; end = found.head.used; sectors = found.head.last }))
  pub first : (i : ℕ) (found : Found) → t.arena < i → i < from.arena → slice_get l.heads i ≡ Some found → found.head.clumps ≡ 0

pub skip_none : {D : Type 0} (l : LogState D) (from : TailState) → IsTailOf l from → from.queued ≡ 0 → IsSkipped l from from
skip_none l from tail none = record {
  tail = tail;
  left = refl;
  queue = none;
  here = inl (refl, refl);
  first = λ i found less more at. absurd (omega (arith, less, more));
}

-- an arena is there before the walk
pub skip_some : {D : Type 0} (l : LogState D) (from t : TailState) → IsSkipped l from t → 0 < from.left → t.at.index ≡ 0 → 0 < t.arena
skip_some l from t so some zero_left = ⊎_elim
    (λ (less : 0 < t.arena). less)
    (λ (least : t.arena ≤ 0).
    let first : t.arena ≡ 0 = omega (arith, least) in
    let none : sum_by (λ (f : Found). f.head.clumps) (take t.arena l.heads) ≡ 0 = ap (λ (k : ℕ). sum_by (λ (f : Found). f.head.clumps) (take k l.heads)) first in
    absurd (omega (arith, so.tail.left, so.queue, zero_left, none, so.left, some)))
    (cases_lt 0 t.arena)

pub skip_more : {D : Type 0} (l : LogState D) (from t new : TailState) (found : Found) → IsSkipped l from t → 0 < from.left → t.at.index ≡ 0 → new.arena + 1 ≡ t.arena → slice_get l.heads new.arena ≡ Some found
    → new.left ≡ t.left → new.queued ≡ t.queued → new.at ≡ record { index = found.head.clumps; end = found.head.used; sectors = found.head.last }
    → IsOnClump found.head (record { index = found.head.clumps; end = found.head.used; sectors = found.head.last }) → IsSkipped l from new
skip_more l from t new found so some zero_left below at left queue start clump =
    let index : new.at.index ≡ found.head.clumps = ap (λ (x : At). x.index) start in
    let end : new.at.end ≡ found.head.used = ap (λ (x : At). x.end) start in
    let inside = slice_get_within l.heads new.arena found at in
    let sums : sum_by (λ (f : Found). f.head.clumps) (take t.arena l.heads) ≡ sum_by (λ (f : Found). f.head.clumps) (take new.arena l.heads) + found.head.clumps =
    ap (λ (k : ℕ). sum_by (λ (f : Found). f.head.clumps) (take k l.heads)) (sym below)
    ∙ sum_by_more (λ (f : Found). f.head.clumps) l.heads new.arena found inside
    ∙ ap (λ (f : Found). sum_by (λ (f : Found). f.head.clumps) (take new.arena l.heads) + f.head.clumps) (get_or_from_slice_get l.heads new.arena found found at) in
    record {
      tail = record {
        queue = omega (arith, queue, so.queue);
        arena = omega (arith, inside);
        end = λ past. absurd (omega (arith, past, inside));
        head = λ f is.
            let same : f ≡ found = same_Some f found (sym is ∙ at) in (
              omega (arith, index, ap (λ (x : Found). x.head.clumps) same),
              omega (arith, end, ap (λ (x : Found). x.head.used) same),
              subst (λ (a : At). IsOnClump f.head a) (sym start) (subst (λ (x : Found). IsOnClump x.head (record { index = found.head.clumps; end = found.head.used; sectors = found.head.last })) (sym same) clump),
            );
        left = omega (arith, left, queue, so.tail.left, zero_left, index, sums);
      };
      left = left ∙ so.left;
      queue = queue ∙ so.queue;
      here = inr (
        ⊎_elim (λ (is : (t.arena ≡ from.arena) × (t.at ≡ from.at)). ap (λ (x : At). x.index) (sym is.1) ∙ zero_left) (λ (is : (from.at.index ≡ 0) × (t.arena < from.arena) × _). is.0) so.here,
        ⊎_elim (λ (is : (t.arena ≡ from.arena) × (t.at ≡ from.at)). omega (arith, is.0, below)) (λ (is : (from.at.index ≡ 0) × (t.arena < from.arena) × _). omega (arith, is.1, below)) so.here,
        λ f is. start ∙ ap (λ (x : Found). record { index = x.head.clumps; end = x.head.used; sectors = x.head.last }) (same_Some found f (sym at ∙ is)),
      );
      first = λ i f less more is. ⊎_elim
          (λ (here : i ≡ t.arena).
          let at_t : slice_get l.heads t.arena ≡ Some f = ap (slice_get l.heads) (sym here) ∙ is in
          ⊎_elim
          (λ (same : (t.arena ≡ from.arena) × (t.at ≡ from.at)). absurd (omega (arith, same.0, here, more)))
          (λ (turned : (from.at.index ≡ 0) × (t.arena < from.arena) × ((found : Found) → slice_get l.heads t.arena ≡ Some found → t.at ≡ record { index = found.head.clumps; end = found.head.used; sectors = found.head.last })).
          sym (ap (λ (x : At). x.index) (turned.2 f at_t)) ∙ zero_left)
          so.here)
          (λ (other : i ≢ t.arena). so.first i f (omega (arith, less, below, other)) more is)
          (cases_eq i t.arena);
    }

pub skip_next : {D : Type 0} (l : LogState D) (from t : TailState) → IsSkipped l from t → 0 < t.at.index → IsNextEntry l.heads from t.arena t.at
skip_next l from t so some = record {
  some = some;
  here = λ there. ⊎_elim (λ (is : (t.arena ≡ from.arena) × (t.at ≡ from.at)). is) (λ (is : (from.at.index ≡ 0) × (t.arena < from.arena) × _). absurd (omega (arith, is.0, there))) so.here;
  below = λ none. ⊎_elim
      (λ (is : (t.arena ≡ from.arena) × (t.at ≡ from.at)). absurd (omega (arith, ap (λ (x : At). x.index) is.1, none, some)))
      (λ (is : (from.at.index ≡ 0) × (t.arena < from.arena) × ((found : Found) → slice_get l.heads t.arena ≡ Some found → t.at ≡ record { index = found.head.clumps; end = found.head.used; sectors = found.head.last })). (is.1, is.2))
      so.here;
  first = λ none i found less more at. so.first i found less more at;
}

pub skip_behind : {D : Type 0} (score_of : List ℕ → List ℕ) (disk : DiskOf D) (l : LogState D) (h : History) (n : ℕ) (from t : TailState)
    → IsTailOf l from → from.queued ≡ 0 → IsSkipped l from t → IsSoundLog score_of disk l h → IsTailBehind l h n from → IsTailBehind l h n t
skip_behind score_of disk l h n from t tail none so sound behind = ⊎_elim
    (λ (is : (t.arena ≡ from.arena) × (t.at ≡ from.at)). record {
      left = so.left ∙ behind.left;
      most = behind.most;
      queue = so.queue ∙ sym none ∙ behind.queue;
      index = ap (λ (x : At). x.index) is.1 ∙ behind.index ∙ ap (λ (a : ℕ). length (lengths_in a (take (min n l.durable) h))) (sym is.0);
      end = ap (λ (x : At). x.end) is.1 ∙ behind.end
          ∙ ap (λ (a : ℕ). sum_by (block_room (slice_index l.versions a)) (lengths_in a (take (min n l.durable) h))) (sym is.0);
      sectors = λ found has on. ap (λ (x : At). x.sectors) is.1 ∙ behind.sectors found (ap (slice_get l.heads) (sym is.0) ∙ has) on
          ∙ ap (λ (a : ℕ). last_sectors 0 (lengths_in a (take (min n l.durable) h))) (sym is.0);
      arenas = subst (λ (a : ℕ). All (λ (e : Accepted). e.arena ≤ a) (take (min n l.durable) h)) (sym is.0) behind.arenas;
    })
    (λ (is : (from.at.index ≡ 0) × (t.arena < from.arena) × ((found : Found) → slice_get l.heads t.arena ≡ Some found → t.at ≡ record { index = found.head.clumps; end = found.head.used; sectors = found.head.last })).
    let found = slice_get_there l.heads t.arena (omega (arith, is.1, tail.arena)) in
    turned_behind score_of disk l h n t found.0 sound so.tail so.queue (so.left ∙ behind.left) found.1 (is.2 found.0 found.1))
    so.here

-- one entry alone is the next
pub next_once : (heads : List Found) (t : TailState) (a b : ℕ) (at bt : At) (fa fb : Found) → slice_get heads a ≡ Some fa → slice_get heads b ≡ Some fb → IsNextEntry heads t a at → IsNextEntry heads t b bt → (a ≡ b) × (at ≡ bt)
next_once heads t a b at bt fa fb has_a has_b next_a next_b = ⊎_elim
    (λ (here : 0 < t.at.index). ((next_a.here here).0 ∙ sym (next_b.here here).0, (next_a.here here).1 ∙ sym (next_b.here here).1))
    (λ (none : t.at.index ≤ 0).
    let zero_left : t.at.index ≡ 0 = omega (arith, none) in
    let at_a = next_a.below zero_left in
    let at_b = next_b.below zero_left in
    ⊎_elim
    (λ (less : a < b). absurd (omega (arith, next_b.some, ap (λ (x : At). x.index) (at_b.1 fb has_b), next_a.first zero_left b fb less at_b.0 has_b)))
    (λ (rest : b ≤ a). ⊎_elim
    (λ (less : b < a). absurd (omega (arith, next_a.some, ap (λ (x : At). x.index) (at_a.1 fa has_a), next_b.first zero_left a fa less at_a.0 has_a)))
    (λ (same : a ≤ b).
    let one : a ≡ b = omega (arith, rest, same) in
    (one, at_a.1 fa has_a ∙ sym (at_b.1 fa (ap (slice_get heads) (sym one) ∙ has_a))))
    (cases_lt b a))
    (cases_lt a b))
    (cases_lt 0 t.at.index)

-- and there is none where no block is left
pub no_next : {D : Type 0} (l : LogState D) (t : TailState) (a : ℕ) (at : At) (found : Found) → IsTailOf l t → t.left ≡ 0 → slice_get l.heads a ≡ Some found → IsNextEntry l.heads t a at → ⊥
no_next l t a at found tail none has next = ⊎_elim
    (λ (here : 0 < t.at.index). absurd (omega (arith, here, tail.left, none)))
    (λ (zero : t.at.index ≤ 0).
    let below = next.below (omega (arith, zero)) in
    let inside = slice_get_within l.heads a found has in
    let term = sum_by_more_le (λ (f : Found). f.head.clumps) (take t.arena l.heads) a found (omega (arith, below.0, length-take-le t.arena l.heads tail.arena)) in
    let one : get_or (take t.arena l.heads) a found ≡ found = get_or-take t.arena l.heads a found below.0 ∙ get_or_from_slice_get l.heads a found found has in
    absurd (omega (arith, term, ap (λ (f : Found). f.head.clumps) one, next.some, ap (λ (x : At). x.index) (below.1 found has), tail.left, none)))
    (cases_lt 0 t.at.index)

-- what is given of an entry
pub gives_bad : (arena left : ℕ) (head : ArenaHead) (at new : At) (bytes : List ℕ) (bad : BackBad) → WalksOn head at new bytes (Err bad) → GivesEntry arena left head at bytes (Err bad)
gives_bad arena left head at new bytes Fault walks = tt
gives_bad arena left head at new bytes (Damaged want found) walks = walks.0

pub gives_info : (arena left : ℕ) (head : ArenaHead) (at new : At) (bytes : List ℕ) (read info : Info) → WalksOn head at new bytes (Ok read) → info.number + 1 ≡ left
    → info.key ≡ read.key → info.size ≡ read.size → info.place.offset ≡ read.place.offset → info.place.arena ≡ arena → GivesEntry arena left head at bytes (Ok (Some info))
gives_info arena left head at new bytes read info walks many key size offset place = (
  walks.0,
  many,
  record {
    kind = ap (λ (k : Key). k.kind) key ∙ walks.1.kind;
    score = ap (λ (k : Key). k.score.0) key ∙ walks.1.score;
    size = size ∙ walks.1.size;
    arena = place;
    offset = offset ∙ walks.1.offset;
    number_is = refl;
  },
)

-- where entries of an arena are left there is that arena
pub tail_inside : {D : Type 0} (l : LogState D) (t : TailState) → IsTailOf l t → 0 < t.at.index → t.arena < length l.heads
tail_inside l t tail some = ⊎_elim
    (λ (less : t.arena < length l.heads). less)
    (λ (past : length l.heads ≤ t.arena). absurd (omega (arith, ap (λ (x : At). x.index) (tail.end past), some)))
    (cases_lt t.arena (length l.heads))

-- another disk leaves the walk one of the log
pub tail_held : {D : Type 0} (l : LogState D) (ds : List D) (t : TailState) → IsTailOf l t → IsTailOf (record l { disks = ds }) t
tail_held l ds t tail = record { queue = tail.queue; arena = tail.arena; end = tail.end; head = λ found at. tail.head found at; left = tail.left }

-- and so does a block of an arena that is given
pub tail_moved : {D : Type 0} (l : LogState D) (t new : TailState) → IsTailOf l t → 0 < t.at.index → new.queued ≡ t.queued → new.arena ≡ t.arena → new.left + 1 ≡ t.left
    → ((found : Found) → slice_get l.heads t.arena ≡ Some found → (new.at.index + 1 ≡ t.at.index) × (new.at.end ≤ t.at.end) × IsOnClump found.head new.at) → IsTailOf l new
tail_moved l t new tail some queue arena left moved =
    let inside = tail_inside l t tail some in
    record {
      queue = omega (arith, queue, tail.queue);
      arena = omega (arith, arena, tail.arena);
      end = λ past. absurd (omega (arith, past, arena, inside));
      head = λ found at.
          let there : slice_get l.heads t.arena ≡ Some found = ap (slice_get l.heads) (sym arena) ∙ at in
          let old = tail.head found there in
          let it = moved found there in
          (omega (arith, old.0, it.0), omega (arith, old.1, it.1), it.2);
      left =
          let found = slice_get_there l.heads t.arena inside in
          let it = moved found.0 found.1 in
          omega (arith, left, tail.left, queue, it.0, ap (λ (k : ℕ). sum_by (λ (f : Found). f.head.clumps) (take k l.heads)) arena);
    }

-- the place before a walk is a small one
pub tail_small : {D : Type 0} (disk : DiskOf D) (l : LogState D) (t : TailState) → IsWholeLog disk l → IsTailOf l t → t.at.end ≤ 2 ^ 30
tail_small disk l t whole tail = ⊎_elim
    (λ (less : t.arena < length l.heads).
    let found = slice_get_there l.heads t.arena less in
    omega (arith, (tail.head found.0 found.1).1, (head_small disk l t.arena found.0 whole found.1).1))
    (λ (past : length l.heads ≤ t.arena). omega (arith, ap (λ (x : At). x.end) (tail.end past)))
    (cases_lt t.arena (length l.heads))
