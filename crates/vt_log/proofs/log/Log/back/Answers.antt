-- The next entry is the one that is read.
use Rattle.std.proofs.Common.{◌≡◌, ℕ, List, IsTrue, sym, ◌∙◌, ap, subst, Some}
use Rattle.std.specs.Prelude.{slice_get}
use Rattle.vt_arena.specs.declared.directory.At.{At}
use Rattle.vt_arena.specs.Directory.{what_is_walked}
use Rattle.vt_log.specs.Back.{TailState, GivesEntry, MovesBack}
use Rattle.vt_log.specs.Log.{LogState}
use Rattle.vt_log.specs.Sound.{IsArenaAt}
use Rattle.vt_log.proofs.Lists.{slice_get_there}
use Rattle.vt_log.proofs.StepsBack.{tail_inside, next_once, no_next}
use Rattle.vt_log.proofs.log.Log.back.Goals as goal

pub returns-then-tail-eq0-clause-entry : goal.returns-then-tail-eq0-clause-entry
returns-then-tail-eq0-clause-entry g c arena at found r disk queue next has there =
    let none : c.args.tail.now.left ≡ 0 = ap (λ (t : TailState). t.left) (sym c.tail.view_is) ∙ c.if-tail-eq0.true in
    absurd (no_next c.args.self.now c.args.tail.now arena at found c.requires none has next)

pub returns-clause-entry : goal.returns-clause-entry
returns-clause-entry g c arena at found r disk queue next has there =
    let l : LogState _ = c.args.self.now in
    let t : TailState = c.args.tail.now in
    let new : TailState = c.skip_empty.new.tail in
    let other = slice_get_there l.heads new.arena (tail_inside l new c.skip_empty.ensures.tail c.skip_empty.ensures.next.some) in
    let one = next_once l.heads t arena new.arena at new.at found other.0 has other.1 next c.skip_empty.ensures.next in
    let left : new.left ≡ t.left = c.skip_empty.ensures.same.0 in
    let read = c.back_in_arena.ensures.entry found r disk (subst (λ (a : ℕ). slice_get l.heads a ≡ Some found) one.0 has) (subst (λ (a : ℕ). IsArenaAt l a r disk) one.0 there) in
    subst (λ (a : At). (bytes : List ℕ) × (IsTrue g.D.Disk.tells → bytes ≡ what_is_walked found.head r.region a (g.D.Disk.bytes disk)) × GivesEntry arena t.left found.head a bytes c.back_in_arena.result × MovesBack arena found.head a bytes c.back_in_arena.new.tail c.back_in_arena.result) (sym one.1)
    (subst (λ (a : ℕ). (bytes : List ℕ) × (IsTrue g.D.Disk.tells → bytes ≡ what_is_walked found.head r.region new.at (g.D.Disk.bytes disk)) × GivesEntry a t.left found.head new.at bytes c.back_in_arena.result × MovesBack a found.head new.at bytes c.back_in_arena.new.tail c.back_in_arena.result) (sym one.0)
    (subst (λ (n : ℕ). (bytes : List ℕ) × (IsTrue g.D.Disk.tells → bytes ≡ what_is_walked found.head r.region new.at (g.D.Disk.bytes disk)) × GivesEntry new.arena n found.head new.at bytes c.back_in_arena.result × MovesBack new.arena found.head new.at bytes c.back_in_arena.new.tail c.back_in_arena.result) left read))

pub returns-clause-spares : goal.returns-clause-spares
returns-clause-spares g c arena at found r next has there =
    let l : LogState _ = c.args.self.now in
    let t : TailState = c.args.tail.now in
    let new : TailState = c.skip_empty.new.tail in
    let other = slice_get_there l.heads new.arena (tail_inside l new c.skip_empty.ensures.tail c.skip_empty.ensures.next.some) in
    let one = next_once l.heads t arena new.arena at new.at found other.0 has other.1 next c.skip_empty.ensures.next in
    c.back_in_arena.ensures.spares r (ap (slice_get l.layout) (sym one.0) ∙ there)
