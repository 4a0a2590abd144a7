-- How many calls are owed.
use Rattle.std.proofs.Common.{◌≡◌, ◌≢◌, ◌⊎◌, ⊎_elim, ℕ, suc, ◌+◌, ◌-◌, ◌*◌, ◌<◌, ◌≤◌, ◌==◌, Bool, true, false, cond, List, [], ◌∷◌, length, map, refl, sym, ◌∙◌, ap, subst, arith, Some, None, Option, inl, inr, length-append}
use Rattle.std.specs.Prelude.{IsFalse, is_some, nat_lt}
use Rattle.std.proofs.lemmas.Bool.Decides.{eqb_tells}
use Rattle.std.proofs.lemmas.List.{length-map}
use Rattle.vt_twin.specs.Twin.{FrameChange, with_change, twin_calls_made}
use Rattle.vt_clump.specs.declared.packed.Packed.{Packed}
use Rattle.vt_arena.specs.declared.head.ArenaHead.{ArenaHead}
use Rattle.vt_arena.specs.Arena.{ArenaState, calls_made, commit_calls, is_committing, with_seal, pieces, commit_pieces, changing, after_step, after_piece, after_head}
use Rattle.vt_arena.specs.Heads.{head_frame}
use Rattle.vt_arena.proofs.Stage.{resting}
use Rattle.vt_log.specs.declared.queue.Waiting.{Waiting}
use Rattle.vt_log.specs.Committing.{Stages, IsCommitReady}
use Rattle.vt_log.specs.Log.{LogState, packed_of}
use Rattle.vt_log.specs.Owed.{owed, seal_calls}
use Rattle.vt_log.specs.Queue.{WaitsFor}

-- between two commits no call of one was made
pub none_made : (a : ArenaState) → IsFalse (is_committing a) → calls_made a ≡ 0
none_made a rest =
    let it = resting a rest in
    omega (arith, it.written, at a.twin.change it.change)
  where
    at : (change : Option FrameChange) → change ≡ None → twin_calls_made (record a.twin { change = change }) ≡ 0
    at None is = refl
    at (Some it) is = absurd (cc)

-- a commit that adds blocks takes less than they are owed
numbers : (sealed : Bool) (s w t v made seal : ℕ) → made ≡ 0 → t + v ≡ s + w → (s < t) ⊎ ((t ≡ s) × (seal ≡ 4))
    → commit_pieces t + 4 + 6 * v ≤ cond sealed (commit_pieces s + 4 - made) (cond (s == 0) 0 (commit_pieces s + 4 - made)) + 6 * w + cond sealed 0 seal
numbers true s w t v made seal none same more = ⊎_elim (λ (h : s < t). omega (arith, none, same, h)) (λ (h : (t ≡ s) × (seal ≡ 4)). omega (arith, none, same, h.0)) more
numbers false s w t v made seal none same more = ⊎_elim
    (λ (z : ((s == 0) ≡ true) × (s ≡ 0)). rw z.0 (⊎_elim (λ (h : s < t). omega (arith, none, same, h)) (λ (h : (t ≡ s) × (seal ≡ 4)). omega (arith, none, same, h.0, h.1, z.1)) more))
    (λ (z : ((s == 0) ≡ false) × (s ≢ 0)). rw z.0 (⊎_elim (λ (h : s < t). omega (arith, none, same, h)) (λ (h : (t ≡ s) × (seal ≡ 4)). omega (arith, none, same, h.0)) more))
    (eqb_tells s 0)

seal_owed : (arena : ℕ) (ws : List Waiting) → 0 < length ws → ¬ WaitsFor arena ws → seal_calls arena ws ≡ 4
seal_owed arena [] some other = absurd (omega (arith, some))
seal_owed arena (w ∷ ws) some other = ⊎_elim
    (λ (t : ((w.arena == arena) ≡ true) × (w.arena ≡ arena)). absurd (other t.1))
    (λ (t : ((w.arena == arena) ≡ false) × (w.arena ≢ arena)). ap (λ (b : Bool). cond b 0 4) t.0)
    (eqb_tells w.arena arena)

pub prepared_owed : {D : Type 0} (old m l : LogState D) → l ≡ m → Stages old m → IsFalse (is_committing old.arena) → 0 < length m.queue.waiting
    → ¬ WaitsFor m.committing m.queue.waiting → owed (record l { arena = with_seal l.arena }) ≤ owed old
prepared_owed {D = D} old m l view stages rest some other =
    subst (λ (k : LogState D). owed (record k { arena = with_seal k.arena }) ≤ owed old) (sym view)
    (omega (
      arith,
      none_made m.arena stages.rest,
      numbers old.arena.next.sealed (length old.arena.staged) (length old.queue.waiting) (length m.arena.staged) (length m.queue.waiting)
          (calls_made old.arena) (seal_calls old.committing old.queue.waiting) (none_made old.arena rest) same more,
    ))
  where
    count : (l : LogState D) → length (packed_of l) ≡ length l.arena.staged + length l.queue.waiting
    count l = length-append l.arena.staged (map (λ (w : Waiting). w.packed) l.queue.waiting) ∙ ap (λ (k : ℕ). length l.arena.staged + k) (length-map l.queue.waiting (λ (w : Waiting). w.packed))

    same : length m.arena.staged + length m.queue.waiting ≡ length old.arena.staged + length old.queue.waiting
    same = sym (count m) ∙ ap (λ (ps : List Packed). length ps) stages.packed ∙ count old

    more : (length old.arena.staged < length m.arena.staged) ⊎ ((length m.arena.staged ≡ length old.arena.staged) × (seal_calls old.committing old.queue.waiting ≡ 4))
    more = ⊎_elim
        (λ (is : m ≡ old). inr (
          ap (λ (k : LogState D). length k.arena.staged) is,
          subst (λ (k : LogState D). seal_calls k.committing k.queue.waiting ≡ 4) is (seal_owed m.committing m.queue.waiting some other),
        ))
        (λ (h : length old.arena.staged < length m.arena.staged). inl h) stages.more

-- each call of a commit that isn't the last is one made
pub step_made : (a : ArenaState) → calls_made (after_step a) ≡ calls_made a + 1
step_made a = at (nat_lt a.written (pieces a))
  where
    head : (change : Option FrameChange) → a.twin.change ≡ change → twin_calls_made (changing a) ≡ twin_calls_made a.twin
    head None is = ap (λ (o : Option FrameChange). twin_calls_made (cond (is_some o) a.twin (with_change (head_frame a.next) a.twin))) is ∙ sym (ap (λ (o : Option FrameChange). twin_calls_made (record a.twin { change = o })) is)
    head (Some it) is = ap (λ (o : Option FrameChange). twin_calls_made (cond (is_some o) a.twin (with_change (head_frame a.next) a.twin))) is

    at : (b : Bool) → calls_made (cond b (after_piece a) (after_head a)) ≡ calls_made a + 1
    at true = omega arith
    at false = omega (arith, head a.twin.change refl)

some_test : (n : ℕ) → (suc n == 0) ≡ false
some_test n = ⊎_elim (λ (t : ((suc n == 0) ≡ true) × (suc n ≡ 0)). absurd (omega (arith, t.1))) (λ (t : ((suc n == 0) ≡ false) × (suc n ≢ 0)). t.0) (eqb_tells (suc n) 0)

-- so a call of a commit lowers what is owed
pub call_owed : {D : Type 0} (l : LogState D) (b : ArenaState) (ds : List D) (calls : ℕ) (stopped : Option ℕ) → b.staged ≡ l.arena.staged → b.next ≡ l.arena.next → IsCommitReady l
    → calls_made b ≡ calls_made l.arena + 1 → calls_made l.arena < commit_calls l.arena → owed (record l { disks = ds; arena = b; calls = calls; stopped = stopped }) < owed l
call_owed l b ds calls stopped staged next ready made left =
    let sealed : b.next.sealed ≡ l.arena.next.sealed = ap (λ (h : ArenaHead). h.sealed) next in
    rw (sealed, staged) (at l.arena.next.sealed l.arena.staged refl refl)
  where
    less : (n : ℕ) → length l.arena.staged ≡ suc n → commit_pieces (suc n) + 4 - calls_made b + 6 * length l.queue.waiting + seal_calls l.committing l.queue.waiting
        < commit_pieces (suc n) + 4 - calls_made l.arena + 6 * length l.queue.waiting + seal_calls l.committing l.queue.waiting
    less n is = omega (arith, made, left, is)

    at : (s : Bool) (ps : List Packed) → l.arena.next.sealed ≡ s → l.arena.staged ≡ ps
        → cond s (commit_pieces (length ps) + 4 - calls_made b) (cond (length ps == 0) 0 (commit_pieces (length ps) + 4 - calls_made b)) + 6 * length l.queue.waiting + cond s 0 (seal_calls l.committing l.queue.waiting)
        < cond s (commit_pieces (length ps) + 4 - calls_made l.arena) (cond (length ps == 0) 0 (commit_pieces (length ps) + 4 - calls_made l.arena)) + 6 * length l.queue.waiting + cond s 0 (seal_calls l.committing l.queue.waiting)
    at true ps s_is ps_is = omega (arith, made, left, ap (λ (q : List Packed). length q) ps_is)
    at false [] s_is ps_is = absurd (let off = ready ps_is in cc)
    at false (p ∷ ps) s_is ps_is = rw (some_test (length ps)) (less (length ps) (ap (λ (q : List Packed). length q) ps_is))

-- and so does the last one
pub ended_owed : {D : Type 0} (l m : LogState D) → m.arena.staged ≡ [] → m.arena.next.sealed ≡ false → m.queue.waiting ≡ l.queue.waiting → l.arena.next.sealed ≡ false → m.committing ≡ l.committing → IsCommitReady l
    → calls_made l.arena < commit_calls l.arena → owed m < owed l
ended_owed l m staged sealed waiting unsealed committing ready left =
    rw (staged, sealed, waiting, unsealed, committing) (at l.arena.staged refl)
  where
    less : (n : ℕ) → length l.arena.staged ≡ suc n → 0 + 6 * length l.queue.waiting + seal_calls l.committing l.queue.waiting
        < commit_pieces (suc n) + 4 - calls_made l.arena + 6 * length l.queue.waiting + seal_calls l.committing l.queue.waiting
    less n is = omega (arith, left, is)

    at : (ps : List Packed) → l.arena.staged ≡ ps
        → 0 + 6 * length l.queue.waiting + seal_calls l.committing l.queue.waiting
        < cond (length ps == 0) 0 (commit_pieces (length ps) + 4 - calls_made l.arena) + 6 * length l.queue.waiting + seal_calls l.committing l.queue.waiting
    at [] is = absurd (let off = ready is in cc)
    at (p ∷ ps) is = rw (some_test (length ps)) (less (length ps) (ap (λ (q : List Packed). length q) is))

-- where it seals, the block that waits goes to the next arena
pub turned_owed : {D : Type 0} (l m : LogState D) → m.arena.staged ≡ [] → m.arena.next.sealed ≡ false → m.queue.waiting ≡ l.queue.waiting → l.arena.next.sealed ≡ true → WaitsFor m.committing l.queue.waiting
    → calls_made l.arena < commit_calls l.arena → owed m < owed l
turned_owed l m staged sealed waiting is_sealed waits left =
    rw (staged, sealed, waiting, is_sealed, none m.committing l.queue.waiting waits) (omega (arith, left))
  where
    none : (arena : ℕ) (ws : List Waiting) → WaitsFor arena ws → seal_calls arena ws ≡ 0
    none arena [] waits = refl
    none arena (w ∷ ws) waits = ⊎_elim (λ (t : ((w.arena == arena) ≡ true) × (w.arena ≡ arena)). ap (λ (b : Bool). cond b 0 4) t.0)
        (λ (t : ((w.arena == arena) ≡ false) × (w.arena ≢ arena)). absurd (t.1 waits)) (eqb_tells w.arena arena)
