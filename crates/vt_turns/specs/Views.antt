-- What a pass knows, and what each call makes of it.
use Rattle.std.specs.Prelude.{◌≡◌, ℕ, zero, suc, ◌+◌, ◌-◌, max, ◌≤◌, cond, List, [], ◌∷◌, ◌++◌, length, slice_index, slice_index_or, Option, Some, None, false}
use mathlib.Core.Option.{some}
use mathlib.Core.List.{IsPrefix}
use lib.ListN.{get_elem?}
use Rattle.atomic_table.specs.declared.shared.Seat.{Seat}
use Rattle.vt_turns.specs.declared.view.View.{View}
use Rattle.vt_turns.specs.declared.view.Opening.{Opening}
use Rattle.vt_turns.specs.Meaning.{Meaning}
use Rattle.vt_turns.specs.Lists.{put_at, both_at, or_else}

module _ {P B : Type 0} where
  -- what contracts see of a pass
  abbrev pub view : Seat (Option P) (View P B) → View P B
  view pass = pass.me.0

  -- the part k as the pass has it, if it holds it
  abbrev pub turn_of : View P B → ℕ → Option P
  turn_of v k = slice_index_or v.turns k None

  -- what it has learnt of the part k: a mark, the call that stopped it; and what it has booked
  abbrev pub mark_of : View P B → ℕ → ℕ
  mark_of v k = slice_index v.marks k

  -- the number of the device call that stopped the part, if it knows of one
  abbrev pub stop_of : View P B → ℕ → Option ℕ
  stop_of v k = slice_index_or v.stops k None

  -- by how much the counts of the part's devices rose while it held it, as far as that is booked
  abbrev pub faults_of : View P B → ℕ → ℕ
  faults_of v k = slice_index v.faults k

  -- The pass holds no part.
  abbrev pub HoldsNone : View P B → Type 0
  HoldsNone v = (k : ℕ) → turn_of v k ≡ None

  -- it has all shares, and has seen just what there was and what it added
  abbrev pub IsSole : View P B → Type 0
  IsSole v = (v.share ≡ 65536) × (length v.seen ≡ length v.opening.history + length v.own)

  -- The pass is still sole, and has seen nothing new.
  abbrev pub StaysSole : (old new : View P B) → Type 0
  StaysSole old new = (new.seen ≡ old.seen) × IsSole new

  -- it knows all that it knew, of the same store
  pub record KnowsAll (old new : View P B) : Type 0 where
    pub opening : new.opening ≡ old.opening
    pub seen : IsPrefix old.seen new.seen
    pub stable : old.stable ≤ new.stable
    pub marks : (k : ℕ) → mark_of old k ≤ mark_of new k
    pub faults : (k : ℕ) → faults_of old k ≤ faults_of new k
    pub stops : (k n : ℕ) → stop_of old k ≡ Some n → stop_of new k ≡ Some n
    pub bits : (i p : ℕ) → get_elem? old.bits i ≡ some p
        → (j : ℕ) × (get_elem? new.bits j ≡ some p)

  -- The view of who gives the part k, which holds it no longer.
  abbrev pub without : ℕ → View P B → View P B
  without k v = record v { turns = put_at None v.turns k None; away = 0 }

  -- The view in which these Bloom bits were set, or found set.
  abbrev pub with_bits : List ℕ → View P B → View P B
  with_bits places v = record v { bits = v.bits ++ places }

  -- The view of who splits a pass off: it gives a share.
  abbrev pub less_one : View P B → View P B
  less_one v = record v { share = v.share - 1 }

  -- The view of the pass that is split off: it knows the same, has one share, and did nothing yet.
  abbrev pub split_off : View P B → View P B
  split_off v = record v { share = 1; olds = []; own = []; faults = []; turns = []; away = 0 }

  -- What a note knows of a view: the same, without a share.
  abbrev pub noted : View P B → View P B
  noted v = record v { share = 0; olds = []; own = []; faults = []; turns = []; away = 0 }

  -- The view v with what w knows, added and has; what w has seen is told by the next load of the
  -- front.
  abbrev pub joined_views : View P B → View P B → View P B
  joined_views v w = record v {
    share = v.share + w.share;
    olds = (v.olds ++ w.seen ∷ []) ++ w.olds;
    own = v.own ++ w.own;
    stable = max v.stable w.stable;
    marks = both_at max v.marks w.marks;
    stops = both_at or_else v.stops w.stops;
    faults = both_at (λ m n. m + n) v.faults w.faults;
    bits = v.bits ++ w.bits;
  }

  -- what is left of a pass that was joined to another
  abbrev pub spent : View P B
  spent = record {
    opening = record { parts = []; history = []; bits = []; kept = false };
    share = 0;
    seen = [];
    olds = [];
    own = [];
    stable = 0;
    marks = [];
    stops = [];
    faults = [];
    bits = [];
    turns = [];
    away = 0;
  }

module _ {P B : Type 0} (M : Meaning P B) where
  -- what the log among parts has
  abbrev pub front_of : List P → ℕ
  front_of [] = 0
  front_of (x ∷ xs) = M.front x

  -- how many blocks of it are durable
  abbrev pub durable_of : List P → ℕ
  durable_of [] = 0
  durable_of (x ∷ xs) = M.durable x

  -- the first pass of a store
  abbrev pub first_view : Opening P B → View P B
  first_view o = record {
    opening = o;
    share = 65536;
    seen = o.history;
    olds = [];
    own = [];
    stable = durable_of o.parts;
    marks = [];
    stops = [];
    faults = [];
    bits = [];
    turns = [];
    away = 0;
  }

  -- who takes the log sees the whole history, and how much of it is durable
  abbrev pub seen_at : ℕ → (history seen : List B) → List B
  seen_at zero history seen = history
  seen_at (suc k) history seen = seen

  -- (so: of the log x as many as it says, and of another part as many as were known)
  abbrev pub stable_at : ℕ → P → ℕ → ℕ
  stable_at zero x stable = M.durable x
  stable_at (suc k) x stable = stable

  -- the view with the part k, which is x
  abbrev pub holding : ℕ → (history : List B) → P → View P B → View P B
  holding k history x v = record v {
    seen = seen_at k history v.seen;
    stable = stable_at k x v.stable;
    turns = put_at None v.turns k (Some x);
  }

  -- The view with the part k, which is x, and with its slot out.
  abbrev pub taking : ℕ → (history : List B) → P → View P B → View P B
  taking k history x v = record (holding k history x v) { away = suc k }

  -- by how much a part's count rose, and one more where it can't rise
  abbrev pub risen : (old new : P) → ℕ
  risen x y = (M.count y - M.count x) + cond (M.full y) 1 0

  -- the numbers of the part k, which was x, are booked as those of y
  abbrev pub booking : ℕ → (old new : P) → View P B → View P B
  booking k x y v = record v {
    stable = stable_at k y v.stable;
    marks = put_at 0 v.marks k (M.mark y);
    stops = put_at None v.stops k (M.stop y);
    faults = put_at 0 v.faults k (faults_of v k + risen x y);
    turns = put_at None v.turns k (Some y);
  }

  -- The view in which the block b was added to the log, which is y now, and to the shard j, which
  -- is z.
  abbrev pub raising : P → ℕ → P → B → View P B → View P B
  raising y j z b v = record v {
    seen = v.seen ++ b ∷ [];
    own = v.own ++ length v.seen ∷ [];
    turns = put_at None (put_at None v.turns 0 (Some y)) j (Some z);
  }
