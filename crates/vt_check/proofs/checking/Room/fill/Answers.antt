use Rattle.std.proofs.Common.{◌≡◌, ◌+◌, ◌-◌, ◌*◌, ◌≤◌, ◌++◌, min, ℕ, Bool, false, true, List, length, map, nat_lt, ap, sym, ◌∙◌, subst, arith}
use Rattle.std.specs.Prelude.{All}
use Rattle.vt_arena.specs.declared.head.ArenaHead.{ArenaHead}
use Rattle.vt_arena.specs.Directory.{walks_headers}
use Rattle.vt_arena.proofs.Layouts.{entries_least}
use Rattle.vt_disk.specs.Disk.{part}
use Rattle.vt_check.specs.declared.clumps.Cut.{Cut}
use Rattle.vt_check.specs.Following.{CutsFirst, HasOwnEntry, IsFrontOf, entries_in}
use Rattle.vt_check.specs.Reading.{AreNextCuts}
use Rattle.vt_check.proofs.Checks.{reads_then, stands_same}
use Rattle.vt_check.proofs.Fronts.{is_next}
use Rattle.vt_check.proofs.Lists.{ok_of, on_ok}
use Rattle.vt_check.proofs.checking.Room.fill.Goals as goal

pub read_entries-requires-clause-within : goal.read_entries-requires-clause-within
read_entries-requires-clause-within g c =
    let head : ArenaHead = c.args.head.now in
    omega (arith, c.requires.fit, entries_least head.version head.clumps, c.min-count.ensures)

pub returns-in_err-read_entries-clause-reads : goal.returns-in_err-read_entries-clause-reads
returns-in_err-read_entries-clause-reads g c =
    reads_then g.S.Scorer.score_of g.D.Disk 1 1 2 c.args.log.now c.read.new.log c.read_entries.new.log (omega arith) c.read.ensures.reads c.read_entries.ensures.reads

pub returns-clause-reads : goal.returns-clause-reads
returns-clause-reads g c =
    reads_then g.S.Scorer.score_of g.D.Disk 1 1 2 c.args.log.now c.read.new.log c.read_entries.new.log (omega arith) c.read.ensures.reads c.read_entries.ensures.reads

pub returns-clause-own : goal.returns-clause-own
returns-clause-own g c =
    let cuts : List Cut = c.cut_all.new.cuts.items in
    ok_of c.cut_all.result (walks_headers c.args.head.now ≡ true → All (HasOwnEntry c.read.new.bytes.items) cuts)
    (λ on. subst (λ (w : List ℕ). All (HasOwnEntry w) cuts) c.deref.ensures.value (c.cut_all.ensures.own (c.has_own_entries-own.ensures ∙ on)))

pub returns-clause-next : goal.returns-clause-next
returns-clause-next g c = λ r disk tells at.
    let file : List ℕ = g.D.Disk.bytes disk in
    let head : ArenaHead = c.args.head.now in
    let used : ℕ = c.args.followed.now.used in
    let k : ℕ = c.args.followed.now.clumps in
    let place : ℕ = c.min-at.result in
    let window : List ℕ = c.read.new.bytes.items in
    let entries : List ℕ = c.read_entries.new.entries.items in
    let cuts : List Cut = c.cut_all.new.cuts.items in
    let len : ℕ = c.min-bytes.result in
    let count : ℕ = c.min-count.result in
    let more : Bool = nat_lt len (c.args.len - place) in
    let its : c.args.len ≡ r.region.len = c.requires.len r at.arena in
    let own : walks_headers head ≡ false → c.has_own_entries-own.result ≡ false = λ off. c.has_own_entries-own.ensures ∙ off in
    let there = stands_same g.S.Scorer.score_of g.D.Disk 1 c.args.log.now c.read.new.log c.read.ensures.reads c.args.arena r disk at in
    let read_entries : walks_headers head ≡ false → entries ≡ part (r.region.start + (r.region.len - 25 * (k + count))) (25 * count) file = λ off.
    c.in_ok-read_entries.ensures.read (own off) r there.0 tells there.1
    ∙ ap (λ (f : List ℕ). part (r.region.start + (r.region.len - 25 * (k + count))) (25 * count) f) there.2 in
    let First : List ℕ → Type 0 = λ w. (all : List ℕ) → IsFrontOf more w all → CutsFirst head.version w all cuts in
    let Entered : List ℕ → Type 0 = λ es. c.has_own_entries-own.result ≡ false
    → map (λ (cut : Cut). cut.entry) cuts ++ entries_in (count - length cuts) es ≡ entries_in count es in
    on_ok c.cut_all.result (First c.deref.result.now) (Entered c.deref-2.result.now)
    (AreNextCuts r.region head file k used window cuts) c.cut_all.ensures.first c.cut_all.ensures.entries
    (λ first entered. is_next r.region head file k used place window entries more len count cuts
    (omega (arith, its, c.requires.least)) (omega (arith, its, c.min-at.ensures)) (c.in_ok-read.ensures.read r disk tells at) c.in_ok-read.ensures.len
    (omega (arith, its, c.min-at.ensures, c.min.ensures, c.min-bytes.ensures)) (ap (λ (n : ℕ). nat_lt len (n - place)) its)
    read_entries (omega (arith, its, c.requires.fit, entries_least head.version head.clumps, c.min-count.ensures)) (omega (arith, c.min-count.ensures)) c.cut_all.ensures.few
    (subst First c.deref.ensures.value first) (λ off. subst Entered c.deref-2.ensures.value entered (own off)))
