-- The last block that is left of an arena is the last one of the history that is before the walk.
use Rattle.std.proofs.Common.{◌≡◌, ◌-◌, ◌≤◌, ℕ, List, IsTrue, refl, sym, ◌∙◌, ap, subst, arith, Option, Some, Ok, Err, Result, MatchResult}
use Rattle.std.specs.Prelude.{slice_get}
use Rattle.std.proofs.lemmas.Result.{err_from_is_err_and}
use Rattle.vt_base.specs.declared.place.Info.{Info}
use Rattle.vt_part.specs.declared.layout.ArenaRegion.{ArenaRegion}
use Rattle.vt_arena.specs.declared.error.BackBad.{BackBad}
use Rattle.vt_arena.specs.declared.error.BackBad.TheVariants.{Fault}
use Rattle.vt_arena.specs.declared.directory.At.{At}
use Rattle.vt_arena.specs.declared.head.Found.{Found}
use Rattle.vt_arena.specs.Directory.{what_is_walked, IsAtBlock, IsOnClump, WalksOn}
use Rattle.vt_log.specs.Log.{LogState}
use Rattle.vt_log.specs.Back.{TailState, IsTailOf, IsTailBehind, StepsBack, GivesEntry, MovesBack}
use Rattle.vt_log.specs.Sound.{IsArenaAt}
use Rattle.vt_log.proofs.Lists.{slice_get_there}
use Rattle.vt_log.proofs.StepsBack.{tail_held, tail_inside, tail_moved, at_last, arena_steps, gives_bad, gives_info}
use Rattle.vt_log.proofs.log.Log.back_in_arena.Goals as goal

pub read_entry-requires-clause-arena : goal.read_entry-requires-clause-arena
read_entry-requires-clause-arena g c =
    omega (
      arith,
      ap (λ (t : TailState). t.arena) c.tail.view_is,
      tail_inside c.args.self.now c.args.tail.now c.requires.tail c.requires.some,
    )

pub read_entry-requires-clause-head : goal.read_entry-requires-clause-head
read_entry-requires-clause-head g c =
    subst (λ (t : TailState). (found : Found) → slice_get c.args.self.now.heads t.arena ≡ Some found
    → (t.at.index ≤ found.head.clumps) × (t.at.end ≤ found.head.used) × IsOnClump found.head t.at)
    (sym c.tail.view_is) c.requires.tail.head

pub returns-in_err-info-clause-tail : goal.returns-in_err-info-clause-tail
returns-in_err-info-clause-tail g c =
    let standing : At → TailState = λ a. record {
      left = c.tail.inside.left;
      queued = c.tail.inside.queued;
      arena = c.tail.inside.arena;
      at = a;
    } in
    let new : TailState = standing c.read_entry.new.at in
    let same : new ≡ c.args.tail.now = ap standing c.in_err-info.ensures.stays ∙ c.tail.view_is in
    subst (λ (l : LogState _). IsTailOf l new) (sym c.read_entry.ensures.reads.same)
    (tail_held c.args.self.now _ new (subst (λ (t : TailState). IsTailOf c.args.self.now t) (sym same) c.requires.tail))

pub returns-clause-tail : goal.returns-clause-tail
returns-clause-tail g c =
    let t : TailState = c.args.tail.now in
    let arena : c.tail.inside.arena ≡ t.arena = ap (λ (t : TailState). t.arena) c.tail.view_is in
    let at : c.tail.inside.at ≡ t.at = ap (λ (t : TailState). t.at) c.tail.view_is in
    let left : c.tail.inside.left ≡ t.left = ap (λ (t : TailState). t.left) c.tail.view_is in
    let new : TailState = record {
      left = c.tail.inside.left - 1;
      queued = c.tail.inside.queued;
      arena = c.tail.inside.arena;
      at = c.read_entry.new.at;
    } in
    subst (λ (l : LogState _). IsTailOf l new) (sym c.read_entry.ensures.reads.same)
    (tail_held c.args.self.now _ new
    (tail_moved c.args.self.now t new c.requires.tail c.requires.some (ap (λ (t : TailState). t.queued) c.tail.view_is) arena
    (omega (arith, left, c.requires.tail.left, c.requires.some))
    (λ found has.
    let here : slice_get c.args.self.now.heads c.tail.inside.arena ≡ Some found = ap (slice_get c.args.self.now.heads) arena ∙ has in
    let moved = c.in_ok-info.ensures.moved found here in (
      moved.0 ∙ ap (λ (a : At). a.index) at,
      omega (arith, moved.1, ap (λ (a : At). a.end) at),
      c.in_ok-info.ensures.clump found here,
    ))))

pub returns-in_err-info-clause-blocks : goal.returns-in_err-info-clause-blocks
returns-in_err-info-clause-blocks g c h n tells sound behind =
    let arena : c.tail.inside.arena ≡ c.args.tail.now.arena =
    ap (λ (t : TailState). t.arena) c.tail.view_is in
    let at : c.tail.inside.at ≡ c.args.tail.now.at = ap (λ (t : TailState). t.at) c.tail.view_is in
    let t : TailState = c.args.tail.now in
    let found = slice_get_there c.args.self.now.heads t.arena
    (tail_inside c.args.self.now t c.requires.tail c.requires.some) in
    let last = at_last g.S.Scorer.score_of g.D.Disk
    c.args.self.now h n t found.0 sound c.requires.tail c.requires.queued found.1
    c.requires.some behind (λ disk. g.met.D.Disk.read_is_image disk tells) in
    let it = last.is in
    let fault = c.in_err-info.ensures.committed found.0 it.r it.device it.r.number
    last.content last.before last.behind last.stored tells
    (subst (λ (a : ℕ). slice_get c.args.self.now.heads a ≡ Some found.0) (sym arena) found.1)
    (subst (λ (a : ℕ). IsArenaAt c.args.self.now a it.r it.device) (sym arena) it.at)
    it.content it.stand last.split last.head
    (subst (λ (a : At). IsAtBlock found.0.head last.before last.stored a) (sym at) last.at) in
    let standing : At → TailState = λ a. record {
      left = c.tail.inside.left;
      queued = c.tail.inside.queued;
      arena = c.tail.inside.arena;
      at = a;
    } in
    let new : TailState = standing c.read_entry.new.at in
    let same : new ≡ t = ap standing c.in_err-info.ensures.stays ∙ c.tail.view_is in
    let handed = err_from_is_err_and c.from_residual.result c.from_residual.ensures.1 in
    subst (λ (result : Result (Option Info) BackBad). MatchResult result
    (StepsBack g.S.Scorer.score_of c.args.self.now h n new)
    (λ bad. (bad ≡ Fault) × IsTailBehind c.args.self.now h n new))
    (sym (handed.1 ∙ ap (λ (b : BackBad). Err b) handed.2))
    (fault, subst (IsTailBehind c.args.self.now h n) (sym same) behind)

pub returns-in_err-info-clause-entry : goal.returns-in_err-info-clause-entry
returns-in_err-info-clause-entry g c found q disk has there =
    let bad = c.in_err-info.field-0.0 in
    let walks = subst (λ (t : TailState). (found : Found) (r : ArenaRegion) (disk : _) → slice_get c.args.self.now.heads t.arena ≡ Some found
    → IsArenaAt c.args.self.now t.arena r disk → (bytes : List ℕ)
    × (IsTrue g.D.Disk.tells → bytes ≡ what_is_walked found.head r.region t.at (g.D.Disk.bytes disk))
    × WalksOn found.head t.at c.read_entry.new.at bytes (Err bad))
    c.tail.view_is c.in_err-info.ensures.entry found q disk has there in
    let handed = err_from_is_err_and c.from_residual.result c.from_residual.ensures.1 in
    let t : TailState = c.args.tail.now in
    let new : TailState = record {
      left = c.tail.inside.left;
      queued = c.tail.inside.queued;
      arena = c.tail.inside.arena;
      at = c.read_entry.new.at;
    } in (
      walks.0,
      walks.1,
      subst (GivesEntry t.arena t.left found.head t.at walks.0)
          (sym (handed.1 ∙ ap (λ (b : BackBad). Err b) handed.2))
          (gives_bad t.arena t.left found.head t.at c.read_entry.new.at walks.0 bad walks.2),
      subst (MovesBack t.arena found.head t.at walks.0 new)
          (sym (handed.1 ∙ ap (λ (b : BackBad). Err b) handed.2)) (
            ap (λ (t : TailState). t.arena) c.tail.view_is,
            ap (λ (t : TailState). t.queued) c.tail.view_is ∙ c.requires.queued,
            c.in_err-info.ensures.stays ∙ ap (λ (t : TailState). t.at) c.tail.view_is,
          ),
    )

pub returns-clause-blocks : goal.returns-clause-blocks
returns-clause-blocks g c h n tells sound behind =
    let arena : c.tail.inside.arena ≡ c.args.tail.now.arena =
    ap (λ (t : TailState). t.arena) c.tail.view_is in
    let at : c.tail.inside.at ≡ c.args.tail.now.at = ap (λ (t : TailState). t.at) c.tail.view_is in
    let t : TailState = c.args.tail.now in
    let found = slice_get_there c.args.self.now.heads t.arena
    (tail_inside c.args.self.now t c.requires.tail c.requires.some) in
    let last = at_last g.S.Scorer.score_of g.D.Disk
    c.args.self.now h n t found.0 sound c.requires.tail c.requires.queued found.1
    c.requires.some behind (λ disk. g.met.D.Disk.read_is_image disk tells) in
    let it = last.is in
    let info = c.in_ok-info.info in
    let given = c.in_ok-info.ensures.committed found.0 it.r it.device it.r.number
    last.content last.before last.behind last.stored tells
    (subst (λ (a : ℕ). slice_get c.args.self.now.heads a ≡ Some found.0) (sym arena) found.1)
    (subst (λ (a : ℕ). IsArenaAt c.args.self.now a it.r it.device) (sym arena) it.at)
    it.content it.stand last.split last.head
    (subst (λ (a : At). IsAtBlock found.0.head last.before last.stored a) (sym at) last.at) in
    let left : c.tail.inside.left ≡ t.left = ap (λ (t : TailState). t.left) c.tail.view_is in
    let new : TailState = record {
      left = c.tail.inside.left - 1;
      queued = c.tail.inside.queued;
      arena = c.tail.inside.arena;
      at = c.read_entry.new.at;
    } in
    let here : slice_get c.args.self.now.heads c.tail.inside.arena ≡ Some found.0 = subst (λ (a : ℕ). slice_get c.args.self.now.heads a ≡ Some found.0) (sym arena) found.1 in
    let moved = c.in_ok-info.ensures.moved found.0 here in
    arena_steps g.S.Scorer.score_of g.D.Disk c.args.self.now h n t new found.0 info _ last
    found.1 given (c.in_ok-info.ensures.clump found.0 here) c.requires.queued
    (moved.0 ∙ ap (λ (a : At). a.index) at)
    (moved.1 ∙ ap (λ (a : At). a.end) at)
    (omega (arith, left, behind.left, last.number_is))
    (ap (λ (t : TailState). t.queued) c.tail.view_is) arena
    (ap (λ (a : ℕ). record {
      key = info.key;
      size = info.size;
      place = record { arena = a; offset = info.place.offset };
      number = new.left;
    }) arena)

pub returns-clause-entry : goal.returns-clause-entry
returns-clause-entry g c found q disk has there =
    let info = c.in_ok-info.info in
    let walks = subst (λ (t : TailState). (found : Found) (r : ArenaRegion) (disk : _) → slice_get c.args.self.now.heads t.arena ≡ Some found
    → IsArenaAt c.args.self.now t.arena r disk → (bytes : List ℕ)
    × (IsTrue g.D.Disk.tells → bytes ≡ what_is_walked found.head r.region t.at (g.D.Disk.bytes disk))
    × WalksOn found.head t.at c.read_entry.new.at bytes (Ok info))
    c.tail.view_is c.in_ok-info.ensures.entry found q disk has there in
    let t : TailState = c.args.tail.now in
    let arena : c.tail.inside.arena ≡ t.arena = ap (λ (t : TailState). t.arena) c.tail.view_is in
    let at : c.tail.inside.at ≡ t.at = ap (λ (t : TailState). t.at) c.tail.view_is in
    let moved = c.in_ok-info.ensures.moved found (ap (slice_get c.args.self.now.heads) arena ∙ has) in
    let left : c.tail.inside.left ≡ t.left = ap (λ (t : TailState). t.left) c.tail.view_is in (
      walks.0,
      walks.1,
      gives_info t.arena t.left found.head t.at c.read_entry.new.at walks.0 info _ walks.2
          (omega (arith, left, c.requires.tail.left, c.requires.some)) refl refl refl arena,
      (
        arena,
        ap (λ (t : TailState). t.queued) c.tail.view_is ∙ c.requires.queued,
        moved.0 ∙ ap (λ (a : At). a.index) at,
        moved.1 ∙ ap (λ (a : At). a.end) at,
        walks.2.2,
      ),
    )

pub returns-in_err-info-clause-differs : goal.returns-in_err-info-clause-differs
returns-in_err-info-clause-differs g c =
    let handed = err_from_is_err_and c.from_residual.result c.from_residual.ensures.1 in
    rw (handed.1, handed.2) c.in_err-info.ensures.differs
