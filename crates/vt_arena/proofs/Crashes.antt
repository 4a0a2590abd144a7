-- What a crash within a call of a commit leaves.
use Rattle.std.proofs.Common.{◌≡◌, inl, inr, ⊎_elim, ℕ, ◌+◌, ◌≤◌, Bool, true, false, if◌then◌else◌, is_some, List, Ok, Err, Result, ◌↔◌, refl, ◌∙◌, subst, arith}
use Rattle.std.specs.Prelude.{IfOk, nat_lt}
use Rattle.vt_disk.specs.declared.region.Region.{Region}
use Rattle.vt_twin.specs.declared.step.Step.{Step}
use Rattle.vt_twin.specs.declared.step.Step.TheVariants.{More, Done}
use Rattle.vt_twin.specs.Twin.{TwinState, twin_calls_made, calls_begun, with_change, after_call, twin_after_fault}
use Rattle.vt_arena.specs.Arena.{ArenaState, pieces, commit_calls, calls_made, changing, next_content, after_piece, after_head, after_last, with_failure, ArenaAdvances, content_after}
use Rattle.vt_arena.specs.Heads.{head_frame}
use Rattle.vt_arena.specs.Layout.{Content, IsArena}
use Rattle.vt_arena.specs.Sound.{IsSoundArena, HasBegunSelector, GivesOldOrNext}
use Rattle.vt_twin.proofs.Changes.{begun_made, is_changing}
use Rattle.vt_arena.proofs.Commits.{arena_gives, rest_gives}

-- the head's twin, its change begun
runs_on : (b : Bool) (frame : List ℕ) (t : TwinState) → (if b then t else with_change frame t).failed ≡ t.failed
runs_on true frame t = refl
runs_on false frame t = refl

made_before : (b : Bool) (frame : List ℕ) (t : TwinState) → 2 ≤ twin_calls_made (if b then t else with_change frame t) → 2 ≤ twin_calls_made t
made_before true frame t made = made
made_before false frame t made = absurd (omega (arith, made))

begun_running : (t : TwinState) → t.failed ≡ false → 3 ≤ calls_begun (after_call t) → 2 ≤ twin_calls_made t
begun_running t is begun = let more : 3 ≤ twin_calls_made t + 1 + 0 = subst (λ (b : Bool). 3 ≤ twin_calls_made t + 1 + (if b then 1 else 0)) is begun in omega (arith, more)

module _ (score_of : List ℕ → List ℕ) (a : ArenaState) (region : Region) (old : Content) (read reads : List ℕ) (before after : List ℕ → Type 0)
    (sound : IsSoundArena score_of a region old read before) (c : List ℕ) where
  abbrev Gives : Type 0
  Gives = GivesOldOrNext (commit_calls a ≤ calls_made a + 2) score_of region a.number old (next_content a old) c

  reached : 2 ≤ twin_calls_made a.twin → commit_calls a ≤ calls_made a + 2
  reached made = omega (arith, made, (sound.begun (is_changing a.twin (omega (arith, made)))).0)

  -- at its start
  pub gives_before : before c → Gives
  gives_before left = ⊎_elim inl (λ gives. inr (reached (begun_made a.twin gives.0), gives.1)) (arena_gives score_of a region old read before sound c left)

  module _ (runs : a.twin.failed ≡ false) (left : after c) where
    later_gives : (later : ArenaState) → later.number ≡ a.number → next_content later old ≡ next_content a old → (HasBegunSelector later → 2 ≤ twin_calls_made a.twin)
        → IsSoundArena score_of later region old reads after → Gives
    later_gives later number next begun kept = ⊎_elim
        (λ gives. inl (subst (λ (n : ℕ). IsArena score_of region n old c) number gives))
        (λ gives. inr (
          reached (begun gives.0),
          subst (λ (content : Content). IsArena score_of region a.number content c) next (subst (λ (n : ℕ). IsArena score_of region n (next_content later old) c) number gives.1),
        ))
        (arena_gives score_of later region old reads after kept c left)

    step_gives : (b : Bool) → IsSoundArena score_of (if b then after_piece a else after_head a) region old reads after → Gives
    step_gives true kept = later_gives (after_piece a) refl refl (begun_made a.twin) kept
    step_gives false kept = later_gives (after_head a) refl refl
        (λ begun. made_before (is_some a.twin.change) (head_frame a.next) a.twin
        (begun_running (changing a) (runs_on (is_some a.twin.change) (head_frame a.next) a.twin ∙ runs) begun)) kept

    fault_gives : (b : Bool) → IsSoundArena score_of (if b then with_failure a else record (with_failure a) { twin = twin_after_fault (changing a) }) region old reads after → Gives
    fault_gives true kept = later_gives (with_failure a) refl refl (begun_made a.twin) kept
    fault_gives false kept = later_gives (record (with_failure a) { twin = twin_after_fault (changing a) }) refl refl
        (λ begun. made_before (is_some a.twin.change) (head_frame a.next) a.twin (omega (arith, begun))) kept

    -- and at its end
    pub gives_after : {E : Type 0} (r : Result Step E) (later : ArenaState) → ArenaAdvances r a later
        → IfOk r (λ step. (step ≡ Done) ↔ (calls_made a + 1 ≡ commit_calls a)) → IsSoundArena score_of later region (content_after r a old) reads after → Gives
    gives_after (Ok More) later steps done kept =
        step_gives (nat_lt a.written (pieces a)) (subst (λ (s : ArenaState). IsSoundArena score_of s region old reads after) steps kept)
    gives_after (Ok Done) later steps done kept =
        inr (
          omega (arith, done.0 refl),
          rest_gives score_of (after_last a) region (next_content a old) reads after (subst (λ (s : ArenaState). IsSoundArena score_of s region (next_content a old) reads after) steps kept) c left refl,
        )
    gives_after (Err e) later steps done kept =
        fault_gives (nat_lt a.written (pieces a)) (subst (λ (s : ArenaState). IsSoundArena score_of s region old reads after) steps kept)

-- after the last call
pub gives_last : {E : Type 0} (score_of : List ℕ → List ℕ) (a later : ArenaState) (region : Region) (old : Content) (reads : List ℕ) (after : List ℕ → Type 0) (r : Result Step E) → r ≡ Ok Done
    → ArenaAdvances r a later → IsSoundArena score_of later region (content_after r a old) reads after → (c : List ℕ) → after c → IsArena score_of region a.number (next_content a old) c
gives_last {E} score_of a later region old reads after r is steps kept c left =
    let last : ArenaAdvances {E = E} (Ok Done) a later = subst (λ (q : Result Step E). ArenaAdvances q a later) is steps in
    let ends : IsSoundArena score_of later region (next_content a old) reads after = subst (λ (q : Result Step E). IsSoundArena score_of later region (content_after q a old) reads after) is kept in
    rest_gives score_of (after_last a) region (next_content a old) reads after (subst (λ (s : ArenaState). IsSoundArena score_of s region (next_content a old) reads after) last ends) c left refl
