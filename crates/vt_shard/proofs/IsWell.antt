-- What holds of every shard goes on to hold.
use Rattle.std.proofs.Common.{◌≡◌, ◌≢◌, ◌⊎◌, inl, inr, ⊎_elim, ℕ, zero, suc, ◌+◌, ◌-◌, ◌*◌, ◌^◌, ◌<◌, ◌≤◌, ◌==◌, Bool, true, false, cond, List, [], ◌∷◌, ◌++◌, length, set, true≢false, Option, Some, None, refl, sym, ◌∙◌, ap, subst, arith, length-append}
use Rattle.std.specs.Prelude.{◌↔◌, MatchOption, IsSome, IsTrue, slice_get}
use Rattle.std.specs.List.{Contains}
use Rattle.std.proofs.lemmas.Bool.{cases_eq, cases_Bool}
use Rattle.std.proofs.lemmas.Option.{slice_get_within}
use Rattle.std.proofs.lemmas.Bool.Decides.{Decides-eqb}
use Rattle.std.proofs.lemmas.List.Elements.{All-push, Contains-push_cases, Contains-append_left}
use Rattle.std.proofs.lemmas.List.Sums.{sum_by-append, count_by-le-length}
use Rattle.vt_base.specs.Key.{same_key}
use Rattle.vt_base.specs.declared.place.Entry.{Entry}
use Rattle.vt_base.specs.declared.place.Info.{Info}
use Rattle.vt_icache.specs.Index.{dirty_info, is_info_of}
use Rattle.vt_icache.proofs.Found.{find_none}
use Rattle.vt_icache.proofs.Pairs.{same_as_itself}
use Rattle.vt_isect.specs.Layout.{InRange}
use Rattle.vt_isect.specs.Section.{SectionState, IsAtRest}
use Rattle.vt_isect.specs.Writeback.{calls_left, most_calls}
use Rattle.vt_isect.specs.declared.phase.Phase.{Phase}
use Rattle.vt_isect.specs.declared.phase.Phase.TheVariants.{Rest, ReadSelector, ReadFrame, WriteFrame, SyncFrames, WriteSelector, SyncSelectors, ChangeHead}
use Rattle.vt_shard.specs.Shard.{ShardState, ReadBucket, HasScore, IsWell, IsUnderWay, bucket_at, dirty_in}
use Rattle.vt_shard.specs.declared.TheConstants.{ROOM}
use Rattle.vt_shard.proofs.Lists.{apart_push}

pub rests : (p : Phase) → (p ≡ Rest) ⊎ (p ≢ Rest)
rests Rest = inl refl
rests ReadSelector = inr (λ e. cc)
rests (ReadFrame s) = inr (λ e. cc)
rests (WriteFrame s) = inr (λ e. cc)
rests SyncFrames = inr (λ e. cc)
rests (WriteSelector j) = inr (λ e. cc)
rests SyncSelectors = inr (λ e. cc)
rests ChangeHead = inr (λ e. cc)

-- what the test of a section at rest says
pub rest_of : (busy : Bool) (p : Phase) → (IsTrue busy ↔ (p ≢ Rest)) → busy ≡ false → p ≡ Rest
rest_of busy p is idle = ⊎_elim
    (λ (rest : p ≡ Rest). rest)
    (λ (on : p ≢ Rest). absurd (true≢false (sym (is.1 on) ∙ idle)))
    (rests p)

pub not_equal : (a b : ℕ) → a ≢ b → (a == b) ≡ false
not_equal a b other = ⊎_elim
    (λ (yes : (a == b) ≡ true). absurd (other ((Decides-eqb a b).0 yes)))
    (λ (no : (a == b) ≡ false). no)
    (cases_Bool (a == b))

pub slice_get-set_same : {X : Type 0} (xs : List X) (i : ℕ) (x : X) → i < length xs → slice_get (set xs i x) i ≡ Some x
slice_get-set_same [] i x lt = absurd (omega (arith, lt))
slice_get-set_same (y ∷ ys) zero x lt = refl
slice_get-set_same (y ∷ ys) (suc i) x lt = slice_get-set_same ys i x (omega (arith, lt))

pub slice_get-set_other : {X : Type 0} (xs : List X) (i j : ℕ) (x : X) → i ≢ j → slice_get (set xs i x) j ≡ slice_get xs j
slice_get-set_other [] i j x other = refl
slice_get-set_other (y ∷ ys) zero zero x other = absurd (other refl)
slice_get-set_other (y ∷ ys) zero (suc j) x other = refl
slice_get-set_other (y ∷ ys) (suc i) zero x other = refl
slice_get-set_other (y ∷ ys) (suc i) (suc j) x other = slice_get-set_other ys i j x (λ e. other (ap suc e))

-- what is left to do is the same on another disk
calls_same : {D : Type 0} (p : Phase) (t : SectionState D) (d : D) → most_calls p (record t { disk = d }) ≡ most_calls p t
calls_same Rest t d = refl
calls_same ReadSelector t d = refl
calls_same (ReadFrame s) t d = refl
calls_same (WriteFrame s) t d = refl
calls_same SyncFrames t d = refl
calls_same (WriteSelector j) t d = refl
calls_same SyncSelectors t d = refl
calls_same ChangeHead t d = refl

module _ {D : Type 0} (t : ShardState D) (list : Option ℕ) (waiting : List ℕ) (w : IsWell t list waiting) where
  -- a shard without a writeback is at rest
  pub at_rest : t.writeback ≡ None → IsAtRest t.section
  at_rest none = ⊎_elim
      (λ (rest : IsAtRest t.section). rest)
      (λ (goes : ¬ IsAtRest t.section). absurd (no t.writeback none (w.under_way goes)))
      (rests t.section.phase)
    where
      no : (o : Option ℕ) → o ≡ None → MatchOption o ⊥ (λ below. IsUnderWay t below) → ⊥
      no None is it = it
      no (Some below) is it = cc

  -- and has the memory for the entries of a writeback
  pub list_here : t.writeback ≡ None → MatchOption list ⊥ (λ capacity. ROOM ≤ capacity)
  list_here none = (w.rest (at_rest none)).2

  -- a shard with a writeback isn't
  pub goes_on : IsSome t.writeback → ¬ IsAtRest t.section
  goes_on some rest = by t.writeback some (w.rest rest).0
    where
      by : (o : Option ℕ) → IsSome o → o ≡ None → ⊥
      by None is none = absurd (true≢false (sym is))
      by (Some below) is none = cc

  pub under_way_of : (below : ℕ) → t.writeback ≡ Some below → IsUnderWay t below
  under_way_of below is = by t.writeback is (w.under_way (goes_on (subst IsSome (sym is) refl)))
    where
      by : (o : Option ℕ) → o ≡ Some below → MatchOption o ⊥ (λ b. IsUnderWay t b) → IsUnderWay t below
      by None e it = cc
      by (Some b) e it = let same : b ≡ below = cc in subst (λ (k : ℕ). IsUnderWay t k) same it

  -- so many calls are left at most
  pub few_left : ¬ IsAtRest t.section → calls_left t.section ≤ 6 * ROOM + 4
  few_left goes = by t.writeback (w.under_way goes)
    where
      by : (o : Option ℕ) → MatchOption o ⊥ (λ below. IsUnderWay t below) → calls_left t.section ≤ 6 * ROOM + 4
      by None it = absurd it
      by (Some below) it = it.left

  pub well_clean : (clean : List Entry) → IsWell (record t { index = record t.index { clean = clean } }) list waiting
  well_clean clean = record {
    room = w.room;
    most = w.most;
    keys = w.keys;
    in_range = w.in_range;
    numbers = w.numbers;
    counts = w.counts;
    rest = w.rest;
    under_way = λ goes. moved t.writeback (w.under_way goes);
  }
    where
      moved : (o : Option ℕ) → MatchOption o ⊥ (λ below. IsUnderWay t below)
          → MatchOption o ⊥ (λ below. IsUnderWay (record t { index = record t.index { clean = clean } }) below)
      moved None it = it
      moved (Some below) it = record {
        filed = it.filed;
        next = it.next;
        rises = it.rises;
        todo = it.todo;
        apart = it.apart;
        filing = it.filing;
        behind = it.behind;
        list = it.list;
        left = it.left;
      }

  -- a read changes the disk and the bucket that was read last
  pub well_read : (d : D) (bucket : Option ReadBucket)
      → IsWell (record t { section = record t.section { disk = d }; bucket = bucket }) list waiting
  well_read d bucket = record {
    room = w.room;
    most = w.most;
    keys = w.keys;
    in_range = w.in_range;
    numbers = w.numbers;
    counts = w.counts;
    rest = w.rest;
    under_way = λ goes. moved t.writeback (w.under_way goes);
  }
    where
      moved : (o : Option ℕ) → MatchOption o ⊥ (λ below. IsUnderWay t below)
          → MatchOption o ⊥ (λ below. IsUnderWay (record t { section = record t.section { disk = d }; bucket = bucket }) below)
      moved None it = it
      moved (Some below) it = record {
        filed = it.filed;
        next = it.next;
        rises = it.rises;
        todo = it.todo;
        apart = it.apart;
        filing = λ puts.
            let filing = it.filing puts in
            record { order = filing.order; next = filing.next; group = filing.group; whole = filing.whole };
        behind = it.behind;
        list = it.list;
        left = subst (λ (n : ℕ). n ≤ 6 * ROOM + 4) (sym (calls_same t.section.phase t.section d)) it.left;
      }

  -- how many dirty entries the bucket of a score has
  pub count_of : (score : List ℕ) (number first : ℕ) → HasScore t score → number ≡ bucket_at t score → first ≡ t.section.head.first
      → slice_get waiting (number - first) ≡ Some (dirty_in t (bucket_at t score))
  count_of score number first within number_is first_is =
      ap (λ (n : ℕ). slice_get waiting (n - first)) number_is
      ∙ ap (λ (n : ℕ). slice_get waiting (bucket_at t score - n)) first_is
      ∙ w.counts (bucket_at t score) within

  pub few_dirty : (n : ℕ) → dirty_in t n ≤ ROOM
  few_dirty n = let most = w.most in omega (arith, most, count_by-le-length (λ (x : Info). bucket_at t x.key.score.0 == n) t.index.dirty)

  -- one more dirty entry
  more_of : (info : Info) (n : ℕ) → dirty_in (record t { index = record t.index { dirty = t.index.dirty ++ info ∷ [] } }) n
      ≡ dirty_in t n + cond (bucket_at t info.key.score.0 == n) 1 0
  more_of info n =
      sum_by-append (λ (x : Info). cond (bucket_at t x.key.score.0 == n) 1 0) t.index.dirty (info ∷ [])
      ∙ ap (λ (k : ℕ). dirty_in t n + k) (omega arith)

  pub well_put : (info : Info) (place count : ℕ) → HasScore t info.key.score.0 → info.number < 2 ^ 64 - 1
      → length t.index.dirty < ROOM → dirty_info info.key t.index ≡ None
      → ((below : ℕ) → t.writeback ≡ Some below → below ≤ info.number)
      → place ≡ bucket_at t info.key.score.0 - t.section.head.first → count ≡ dirty_in t (bucket_at t info.key.score.0) + 1
      → IsWell (record t { index = record t.index { dirty = t.index.dirty ++ info ∷ [] } }) list (set waiting place count)
  well_put info place count within number room absent later place_is count_is = record {
    room = w.room;
    most = omega (arith, room, length-append t.index.dirty (info ∷ []));
    keys = apart_push (λ (x : Info). x.key) t.index.dirty info w.keys
        (λ other it same.
        true≢false (sym (ap (same_key info.key) same ∙ same_as_itself info.key) ∙ find_none (is_info_of info.key) t.index.dirty other absent it));
    in_range = All-push (λ (x : Info). HasScore t x.key.score.0) t.index.dirty info w.in_range within;
    numbers = All-push (λ (x : Info). x.number < 2 ^ 64 - 1) t.index.dirty info w.numbers number;
    counts = λ n has. count_at n has;
    rest = w.rest;
    under_way = λ goes. moved t.writeback refl (w.under_way goes);
  }
    where
      count_at : (n : ℕ) → InRange t.section.head t.section.buckets n
          → slice_get (set waiting place count) (n - t.section.head.first)
          ≡ Some (dirty_in (record t { index = record t.index { dirty = t.index.dirty ++ info ∷ [] } }) n)
      count_at n has =
          let old = w.counts n has in
          let lt = slice_get_within waiting (n - t.section.head.first) (dirty_in t n) old in
          ⊎_elim
          (λ (same : bucket_at t info.key.score.0 ≡ n).
          let at : n - t.section.head.first ≡ place = ap (λ (k : ℕ). k - t.section.head.first) (sym same) ∙ sym place_is in
          let yes : (bucket_at t info.key.score.0 == n) ≡ true = (Decides-eqb (bucket_at t info.key.score.0) n).1 same in
          ap (slice_get (set waiting place count)) at
          ∙ slice_get-set_same waiting place count (subst (λ (k : ℕ). k < length waiting) at lt)
          ∙ ap (λ (k : ℕ). Some k) (count_is ∙ ap (λ (k : ℕ). dirty_in t k + 1) same
          ∙ ap (λ (b : Bool). dirty_in t n + cond b 1 0) (sym yes) ∙ sym (more_of info n)))
          (λ (other : bucket_at t info.key.score.0 ≢ n).
          let no : (bucket_at t info.key.score.0 == n) ≡ false = not_equal (bucket_at t info.key.score.0) n other in
          let apart : place ≢ n - t.section.head.first = λ same.
          other (let low = within.0 in let from = has.0 in let is = sym place_is ∙ same in omega (arith, low, from, is)) in
          slice_get-set_other waiting place (n - t.section.head.first) count apart
          ∙ old
          ∙ ap (λ (k : ℕ). Some k) (omega arith ∙ ap (λ (b : Bool). dirty_in t n + cond b 1 0) (sym no) ∙ sym (more_of info n)))
          (cases_eq (bucket_at t info.key.score.0) n)

      moved : (o : Option ℕ) → t.writeback ≡ o → MatchOption o ⊥ (λ below. IsUnderWay t below)
          → MatchOption o ⊥ (λ below. IsUnderWay (record t { index = record t.index { dirty = t.index.dirty ++ info ∷ [] } }) below)
      moved None is it = it
      moved (Some below) is it = record {
        filed = it.filed;
        next = it.next;
        rises = it.rises;
        todo = λ entry. (
          λ has. let was = (it.todo entry).0 has in (was.0, Contains-append_left t.index.dirty (info ∷ []) was.0 was.1, was.2, was.3),
          λ dirty. ⊎_elim
              (λ (was : Contains t.index.dirty dirty.0). (it.todo entry).1 (dirty.0, was, dirty.2, dirty.3))
              (λ (same : info ≡ dirty.0).
              let le = later below is in
              let lt = dirty.2 in
              let e : info.number ≡ dirty.0.number = ap (λ (x : Info). x.number) same in
              absurd (omega (arith, le, lt, e)))
              (Contains-push_cases t.index.dirty info dirty.0 dirty.1),
        );
        apart = it.apart;
        filing = it.filing;
        behind = it.behind;
        list = it.list;
        left = it.left;
      }
