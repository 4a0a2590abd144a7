-- The block that comes next on the way back through a log.
use Rattle.std.proofs.Common.{◌≡◌, ◌≢◌, ⊎_elim, inr, ℕ, zero, suc, ◌+◌, ◌<◌, ◌≤◌, List, [], ◌∷◌, ◌++◌, Bool, length, take, Option, Some, None, refl, sym, ◌∙◌, ap, subst, arith}
use Rattle.std.specs.Prelude.{slice_get, sum_by, IsTrue, IfErr, MatchResult, MatchOption, Result, Ok, Err}
use Rattle.std.proofs.lemmas.List.Sums.{sum_by-cons}
use Rattle.std.proofs.lemmas.Option.{same_Some}
use Rattle.vt_base.specs.declared.mount.MountBad.TheVariants.{Damaged as MountDamaged}
use Rattle.vt_base.specs.declared.place.Info.{Info}
use Rattle.vt_base.specs.declared.place.Place.{Place}
use Rattle.vt_base.specs.declared.why.FieldValue.{FieldValue}
use Rattle.vt_base.specs.declared.why.Site.TheVariants.{Clump}
use Rattle.vt_disk.specs.Members.{DiskOf}
use Rattle.vt_disk.specs.declared.region.Region.{Region}
use Rattle.vt_arena.specs.Directory.{IsReached, NamesDamage, WalksTo, before_in, entry_in, first_bad_walked, is_back_fault, moved_before, walk_start, what_is_walked}
use Rattle.vt_arena.specs.declared.error.BackBad.{BackBad}
use Rattle.vt_arena.specs.declared.error.BackBad.TheVariants.{Fault, Damaged}
use Rattle.vt_arena.specs.declared.directory.At.{At}
use Rattle.vt_arena.specs.declared.head.ArenaHead.{ArenaHead}
use Rattle.vt_arena.specs.declared.head.Found.{Found}
use Rattle.vt_log.specs.Answers.{OnlyReadsLog}
use Rattle.vt_log.specs.Back.{GivesEntry, IsTailBehind, IsInfoInLog, IsNextEntry, IsTailOf, MovesBack, StepsBack, TailState}
use Rattle.vt_log.specs.Faults.{CountsFaults}
use Rattle.vt_log.specs.Log.{LogState}
use Rattle.vt_log.specs.Sound.{IsArenaAt, IsSoundLog}
use Rattle.vt_log.proofs.Lists.{slice_get_there}
use Rattle.vt_model.specs.History.{History}
use Rattle.vt_part.specs.declared.layout.ArenaRegion.{ArenaRegion}
use Rattle.vt_recover.specs.Recalling.{IsDamagedIn}
use Rattle.vt_recover.specs.TakingBack.{GivesNext, HasCome, StandsOnDisks, TellsOfLog}
use Rattle.vt_recover.proofs.Places.{within_get, one_or_other}
use Rattle.vt_recover.proofs.TakingAllBack.{below_or_from}

-- how many clumps an arena has
abbrev clumps : Found → ℕ
clumps found = found.head.clumps

-- one thing more of a front
sum_take : {X : Type 0} (f : X → ℕ) (xs : List X) (a : ℕ) (x : X) → slice_get xs a ≡ Some x → sum_by f (take (suc a) xs) ≡ sum_by f (take a xs) + f x
sum_take f [] a x at = absurd (cc)
sum_take f (y ∷ xs) zero x at =
    let same : y ≡ x = cc in
    omega (arith, sum_by-cons f y [], ap f same)
sum_take f (y ∷ xs) (suc a) x at =
    omega (arith, sum_by-cons f y (take (suc a) xs), sum_by-cons f y (take a xs), sum_take f xs a x at)

-- the last arena before a number that has clumps
pub record IsLastFull (heads : List Found) (a j : ℕ) : Type 0 where
  pub below : j < a
  pub found : Found
  pub at : slice_get heads j ≡ Some found
  pub some : 0 < clumps found
  pub others : (i : ℕ) (f : Found) → j < i → i < a → slice_get heads i ≡ Some f → clumps f ≡ 0

-- one arena further back
one_back : (heads : List Found) (a : ℕ) (here : Found) → slice_get heads a ≡ Some here → 0 < sum_by clumps (take (suc a) heads)
    → (0 < sum_by clumps (take a heads) → (j : ℕ) × IsLastFull heads a j) → (n : ℕ) → clumps here ≡ n → (j : ℕ) × IsLastFull heads (suc a) j
one_back heads a here at some before (suc n) is =
    (a, record { below = omega arith; found = here; at = at; some = omega (arith, is); others = λ i f above below there. absurd (omega (arith, above, below)) })
one_back heads a here at some before zero is =
    let it = before (omega (arith, some, sum_take clumps heads a here at, is)) in (
      it.0,
      record {
        below = omega (arith, it.1.below);
        found = it.1.found;
        at = it.1.at;
        some = it.1.some;
        others = λ i f above below there. ⊎_elim
            (λ (e : i ≡ a). let same : here ≡ f = same_Some here f (sym at ∙ ap (λ (n : ℕ). slice_get heads n) (sym e) ∙ there) in ap clumps (sym same) ∙ is)
            (λ (other : i ≢ a). it.1.others i f above (omega (arith, below, other)) there)
            (one_or_other i a);
      },
    )

none_before : (xs : List Found) → 0 < sum_by clumps (take 0 xs) → ⊥
none_before [] more = omega (arith, more)
none_before (x ∷ xs) more = omega (arith, more)

last_full : (heads : List Found) (a : ℕ) → a ≤ length heads → 0 < sum_by clumps (take a heads) → (j : ℕ) × IsLastFull heads a j
last_full heads zero within some = absurd (none_before heads some)
last_full heads (suc a) within some =
    let here = slice_get_there heads a (omega (arith, within)) in
    one_back heads a here.0 here.1 some (λ more. last_full heads a (omega (arith, within)) more) (clumps here.0) refl

-- ---- a walk that goes on

module _ (tells : Bool) (head : ArenaHead) (region : Region) (file : List ℕ) (at : At) (bytes : List ℕ) (some : 0 < at.index)
    (are : IsTrue tells → bytes ≡ what_is_walked head region at file) (pass : first_bad_walked head at bytes ≡ None) where
  abbrev behind : At → At
  behind from = moved_before head from (entry_in head bytes) (before_in head bytes)

  longer : (from : At) (read : List (List ℕ)) → WalksTo tells head region file from read at → WalksTo tells head region file from (read ++ bytes ∷ []) (behind at)
  longer from [] is =
      subst (λ (x : At). (0 < x.index) × (IsTrue tells → bytes ≡ what_is_walked head region x file) × (first_bad_walked head x bytes ≡ None) × (behind at ≡ behind x)) is (some, are, pass, refl)
  longer from (b ∷ rest) it = (it.0, it.1, it.2, longer (moved_before head from (entry_in head b) (before_in head b)) rest it.3)

  -- it comes to the place behind what it reads
  pub one_further : IsReached tells head region file at → IsReached tells head region file (behind at)
  one_further it = record { read = it.read ++ bytes ∷ []; walk = longer (walk_start head) it.read it.walk }

-- ---- the arena from which a walk goes on

pub record HasNext {D : Type 0} (of : DiskOf D) (l : LogState D) (t : TailState) : Type 0 where
  pub arena : ℕ
  pub at : At
  pub next : IsNextEntry l.heads t arena at
  pub found : Found
  pub head : slice_get l.heads arena ≡ Some found
  pub r : ArenaRegion
  pub disk : D
  pub stands : IsArenaAt l arena r disk
  pub reached : IsReached of.tells found.head r.region (of.bytes disk) at

module _ {D : Type 0} (of : DiskOf D) (l : LogState D) (t : TailState) (stands : StandsOnDisks l) (tail : IsTailOf l t) (none : t.queued ≡ 0) (some : 0 < t.left) (come : HasCome of l t) where
  -- where an arena stands
  stands_at : (arena : ℕ) → arena < length l.heads → (r : ArenaRegion) × (disk : D) × IsArenaAt l arena r disk
  stands_at arena below =
      let r = slice_get_there l.layout arena (omega (arith, below, stands.heads)) in
      let d = slice_get_there l.disks r.0.part (stands.disks arena r.0 r.1) in
      (r.0, d.0, record { arena = r.1; disk_is = d.1 })

  has_here : 0 < t.at.index → HasNext of l t
  has_here here =
      let below : t.arena < length l.heads = below_or_end in
      let found = slice_get_there l.heads t.arena below in
      let it = stands_at t.arena below in
      record {
        arena = t.arena;
        at = t.at;
        next = record {
          some = here;
          here = λ _. (refl, refl);
          below = λ e. absurd (omega (arith, e, here));
          first = λ e. absurd (omega (arith, e, here));
        };
        found = found.0;
        head = found.1;
        r = it.0;
        disk = it.1;
        stands = it.2;
        reached = come found.0 it.0 it.1 found.1 it.2;
      }
    where
      below_or_end : t.arena < length l.heads
      below_or_end = ⊎_elim (λ below. below) (λ end. absurd (omega (arith, here, ap (λ (x : At). x.index) (tail.end end)))) (below_or_from t.arena (length l.heads))

  has_below : t.at.index ≡ 0 → HasNext of l t
  has_below here =
      let it = last_full l.heads t.arena tail.arena (omega (arith, some, tail.left, none, here)) in
      let there = stands_at it.0 (within_get l.heads it.0 it.1.found it.1.at) in
      record {
        arena = it.0;
        at = walk_start it.1.found.head;
        next = record {
          some = it.1.some;
          here = λ some. absurd (omega (arith, some, here));
          below = λ _. (it.1.below, λ found at. ap (λ (f : Found). walk_start f.head) (same_Some it.1.found found (sym it.1.at ∙ at)));
          first = λ _. λ i found above below at. it.1.others i found above below at;
        };
        found = it.1.found;
        head = it.1.at;
        r = there.0;
        disk = there.1;
        stands = there.2;
        reached = record { read = []; walk = refl };
      }

  pub has_next_back : HasNext of l t
  has_next_back = by_index t.at.index refl
    where
      by_index : (n : ℕ) → t.at.index ≡ n → HasNext of l t
      by_index zero is = has_below is
      by_index (suc n) is = has_here (omega (arith, is))

-- ---- what is told of damage there

pub damage_told : {D : Type 0} (disk : DiskOf D) (l : LogState D) (t new : TailState) (it : HasNext disk l t) (want found : FieldValue) (place : Place) (bytes : List ℕ)
    → (IsTrue disk.tells → bytes ≡ what_is_walked it.found.head it.r.region it.at (disk.bytes it.disk)) → GivesEntry it.arena t.left it.found.head it.at bytes (Err (Damaged want found))
    → MovesBack it.arena it.found.head it.at bytes new (Err (Damaged want found)) → place.arena ≡ new.arena → NamesDamage (Damaged want found)
    → TellsOfLog disk l (MountDamaged (Clump place) want found)
damage_told {D} disk l t new it want found place bytes bytes_are gives moves place_is differ =
    inr (
      place,
      want,
      found,
      refl,
      differ,
      subst (λ (a : ℕ). IsDamagedIn disk l a want found) (sym (place_is ∙ moves.0)) (record {
        r = it.r;
        device = it.disk;
        stands = it.stands;
        head = it.found;
        head_is = it.head;
        at = it.at;
        some = it.next.some;
        reached = it.reached;
        bytes = bytes;
        bytes_are = bytes_are;
        bad = gives;
      }),
    )

-- ---- what is given

-- a block, a fault or damage
-- what is said of the call
pub record BackAnswers {D : Type 0} (score : List ℕ → List ℕ) (disk : DiskOf D) (l new : LogState D) (t after : TailState) (r : Result (Option Info) BackBad) : Type 0 where
  pub blocks : (h : History) (n : ℕ) → IsTrue disk.tells → IsSoundLog score disk l h → IsTailBehind l h n t
      → MatchResult r (StepsBack score l h n after) (λ bad. (bad ≡ Fault) × IsTailBehind l h n after)
  pub entry : (arena : ℕ) (at : At) (found : Found) (r' : ArenaRegion) (d : D) → t.queued ≡ 0 → IsNextEntry l.heads t arena at → slice_get l.heads arena ≡ Some found → IsArenaAt l arena r' d
      → (bytes : List ℕ) × (IsTrue disk.tells → bytes ≡ what_is_walked found.head r'.region at (disk.bytes d)) × GivesEntry arena t.left found.head at bytes r × MovesBack arena found.head at bytes after r
  pub differs : IfErr r NamesDamage
  pub tail : IsTailOf new after
  pub left : MatchResult r (λ it. MatchOption it (after.left ≡ t.left) (λ _. after.left + 1 ≡ t.left)) (λ _. after.left ≡ t.left)
  pub reads : OnlyReadsLog score disk 1 l new
  pub cause : CountsFaults disk is_back_fault r l.disks new.disks

pub gives_block : {D : Type 0} (score : List ℕ → List ℕ) (disk : DiskOf D) (l new : LogState D) (t after : TailState) (info : Info) → HasNext disk l t → t.queued ≡ 0
    → BackAnswers score disk l new t after (Ok (Some info)) → GivesNext score disk (Ok info) l new t after
gives_block {D} score disk l new t after info it none back =
    let given = back.entry it.arena it.at it.found it.r it.disk none it.next it.head it.stands in
    record {
      blocks = λ h n tells sound behind.
          let own = back.blocks h n tells sound behind in
          let number : info.number ≡ own.0 = own.2.number in
          (subst (λ (m : ℕ). IsInfoInLog score l h m info) (sym number) own.2, number_more number own.1, subst (λ (m : ℕ). IsTailBehind l h m after) (sym number) own.3);
      number = (omega (arith, given.2.1, back.left), given.2.1);
      tail = back.tail;
      comes = λ found r device has there. came given.0 given.1 given.2 given.3 found r device has there;
      reads = back.reads;
      counts = back.cause;
      ends_early = tt;
    }
  where
    -- the walk stands in the same arena, one block further on
    came : (bytes : List ℕ) → (IsTrue disk.tells → bytes ≡ what_is_walked it.found.head it.r.region it.at (disk.bytes it.disk))
        → GivesEntry it.arena t.left it.found.head it.at bytes (Ok (Some info)) → MovesBack it.arena it.found.head it.at bytes after (Ok (Some info)) → HasCome disk l after
    came bytes are gives moves found r device has there =
        let found_is : it.found ≡ found = same_Some it.found found (sym it.head ∙ ap (λ (a : ℕ). slice_get l.heads a) (sym moves.0) ∙ has) in
        let region_is : it.r ≡ r = same_Some it.r r (sym it.stands.arena ∙ ap (λ (a : ℕ). slice_get l.layout a) (sym moves.0) ∙ there.arena) in
        let device_is : it.disk ≡ device = same_Some it.disk device (sym it.stands.disk_is ∙ ap (λ (x : ArenaRegion). slice_get l.disks x.part) region_is ∙ there.disk_is) in
        let further = one_further disk.tells it.found.head it.r.region (disk.bytes it.disk) it.at bytes it.next.some are gives.0 it.reached in
        subst (λ (x : Found). IsReached disk.tells x.head r.region (disk.bytes device) after.at) found_is
        (subst (λ (x : ArenaRegion). IsReached disk.tells it.found.head x.region (disk.bytes device) after.at) region_is
        (subst (λ (x : D). IsReached disk.tells it.found.head it.r.region (disk.bytes x) after.at) device_is
        (subst (λ (x : At). IsReached disk.tells it.found.head it.r.region (disk.bytes it.disk) x) (sym moves.4) further)))

    number_more : {m n : ℕ} → info.number ≡ m → m + 1 ≡ n → info.number + 1 ≡ n
    number_more {m} {n} is more = omega (arith, is, more)

pub gives_damage : {D : Type 0} (score : List ℕ → List ℕ) (disk : DiskOf D) (l new : LogState D) (t after : TailState) (want found : FieldValue) (place : Place) → HasNext disk l t → t.queued ≡ 0
    → BackAnswers score disk l new t after (Err (Damaged want found)) → place.arena ≡ after.arena → GivesNext score disk (Err (MountDamaged (Clump place) want found)) l new t after
gives_damage score disk l new t after want found place it none back place_is =
    let given = back.entry it.arena it.at it.found it.r it.disk none it.next it.head it.stands in
    record {
      blocks = λ h n tells sound behind. let no : Damaged want found ≡ Fault = (back.blocks h n tells sound behind).0 in absurd (cc);
      number = tt;
      tail = back.tail;
      comes = tt;
      reads = back.reads;
      counts = back.cause;
      ends_early = damage_told disk l t after it want found place given.0 given.1 given.2 given.3 place_is back.differs;
    }
