use Rattle.std.proofs.Common.{◌≡◌, ◌+◌, ◌-◌, ◌*◌, ◌<◌, ◌≤◌, ◌++◌, [], ℕ, None, Some, Option, List, length, map, refl, sym, ◌∙◌, ap, subst, arith}
use Rattle.std.specs.Prelude.{All, IsTrue, MatchOption, slice_get}
use Rattle.std.specs.List.{AllZip}
use Rattle.std.specs.Option.{option_or}
use Rattle.std.proofs.lemmas.Option.{same_Some}
use Rattle.vt_arena.specs.declared.head.ArenaHead.{ArenaHead}
use Rattle.vt_arena.specs.declared.head.Found.{Found}
use Rattle.vt_arena.specs.Heads.{fields_of}
use Rattle.vt_arena.specs.Layout.{fields_at}
use Rattle.vt_arena.specs.Places.{IsArenaLen}
use Rattle.vt_arena.specs.Directory.{walks_headers}
use Rattle.vt_arena.proofs.Layouts.{entries_least}
use Rattle.vt_disk.specs.Members.{DiskOf}
use Rattle.vt_log.specs.Answers.{OnlyReadsLog}
use Rattle.vt_log.specs.Log.{LogState}
use Rattle.vt_log.specs.Whole.{IsHeadFor}
use Rattle.vt_part.specs.declared.layout.ArenaRegion.{ArenaRegion}
use Rattle.vt_check.specs.declared.checking.Damage.{Damage}
use Rattle.vt_check.specs.declared.clumps.Cut.{Cut}
use Rattle.vt_check.specs.declared.clumps.Tested.{Tested}
use Rattle.vt_check.specs.Checking.{TellsOf, bad_clump, first_damage}
use Rattle.vt_check.specs.Following.{HasFollowed, HasOwnEntry, IsWithinWindow, TestsAs, cut_bytes, taken_by_cuts}
use Rattle.vt_check.specs.Reading.{AreNextCuts}
use Rattle.vt_check.proofs.Checks.{begin_check, check_ends, check_more, check_stops, reads_then}
use Rattle.vt_check.proofs.Differs.{bad_clump_differs, differs_at}
use Rattle.vt_check.proofs.Following.{taken_few}
use Rattle.vt_check.proofs.Heads.{own_read}
use Rattle.vt_check.proofs.Lists.{zip_many}
use Rattle.vt_check.proofs.Steps.{counted, end_differs, tells_damage, tells_end}
use Rattle.vt_check.proofs.checking.check_arena.Goals as goal

pub loop-followed-init : goal.loop-followed-init
loop-followed-init g c =
    begin_check g.S.Scorer.score_of g.D.Disk c.args.log.now c.args.arena c.head-head.result c.nothing-followed.result
    (c.nothing-followed.ensures g.S.Scorer.score_of c.head-head.result.version)

pub fill-requires-clause-small : goal.fill-requires-clause-small
fill-requires-clause-small g c =
    let len = c.arena_len-len.ensures in
    let head : ArenaHead = c.head-head.result in
    omega (arith, c.loop-followed.invariant.wide, c.loop-followed.invariant.few, c.head-head.ensures.fit len.len.0 len.len.1, entries_least head.version head.clumps, len.len.2, len.bounds.1)

pub follow-requires-clause-many : goal.follow-requires-clause-many
follow-requires-clause-many g c =
    omega (
      arith,
      ap (λ (l : List Tested). length l) c.deref-in-loop-followed-3.ensures.value,
      ap (λ (l : List Cut). length l) c.deref-in-loop-followed-2.ensures.value,
      ap (λ (l : List Cut). length l) c.deref-in-loop-followed.ensures.value,
      zip_many _ c.deref-in-loop-followed.result.now c.in_ok-tested.tested.items c.in_ok-tested.ensures.tested,
    )

pub follow-requires-clause-small : goal.follow-requires-clause-small
follow-requires-clause-small g c =
    let len = c.arena_len-len.ensures in
    let head : ArenaHead = c.head-head.result in
    let cuts : List Cut = c.deref-in-loop-followed-2.result.now in
    let many : length cuts ≡ length c.fill.new.self.cuts.items = ap (λ (l : List Cut). length l) c.deref-in-loop-followed-2.ensures.value in
    let window : List ℕ = c.fill.new.self.clumps.items in
    let within : All (IsWithinWindow window) cuts = subst (λ (l : List Cut). All (IsWithinWindow window) l) (sym c.deref-in-loop-followed-2.ensures.value) c.in_ok-fill.ensures.cuts in
    omega (
      arith,
      taken_few head.version window cuts within,
      many,
      c.in_ok-fill.ensures.few,
      c.loop-followed.invariant.wide,
      c.head-head.ensures.fit len.len.0 len.len.1,
      entries_least head.version head.clumps,
      len.len.2,
      len.bounds.1,
    )

-- the arena's region, and that its head is the one that was read
same_head : {D : Type 0} (l : LogState D) (arena : ℕ) (head : ArenaHead) → ((found : Found) × (slice_get l.heads arena ≡ Some found) × (head ≡ found.head))
    → (found : Found) → slice_get l.heads arena ≡ Some found → head ≡ found.head
same_head l arena head (other, at, is) found there = is ∙ ap (λ (f : Found). f.head) (same_Some other found (sym at ∙ there))

reads_more : {D : Type 0} (score : List ℕ → List ℕ) (disk : DiskOf D) (old now new : LogState D) (clumps most : ℕ) → OnlyReadsLog score disk (2 * clumps) old now → OnlyReadsLog score disk 2 now new
    → clumps < most → OnlyReadsLog score disk (2 * most) old new
reads_more score disk old now new clumps most one two less = reads_then score disk (2 * clumps) 2 (2 * most) old now new (omega (arith, less)) one two

pub returns-in_err-fill-clause-reads : goal.returns-in_err-fill-clause-reads
returns-in_err-fill-clause-reads g c =
    let h = c.head-head.ensures.head in (
      h.0,
      h.1,
      reads_more g.S.Scorer.score_of g.D.Disk c.args.log.now c.loop-followed.log c.fill.new.log c.loop-followed.followed.clumps h.0.head.clumps c.loop-followed.invariant.reads c.fill.ensures.reads
          (omega (arith, ap (λ (h : ArenaHead). h.clumps) h.2, c.loop-followed-test.true)),
    )

pub returns-in_err-tested-clause-reads : goal.returns-in_err-tested-clause-reads
returns-in_err-tested-clause-reads g c =
    let h = c.head-head.ensures.head in (
      h.0,
      h.1,
      reads_more g.S.Scorer.score_of g.D.Disk c.args.log.now c.loop-followed.log c.fill.new.log c.loop-followed.followed.clumps h.0.head.clumps c.loop-followed.invariant.reads c.fill.ensures.reads
          (omega (arith, ap (λ (h : ArenaHead). h.clumps) h.2, c.loop-followed-test.true)),
    )

pub returns-in_err-damage-clause-reads : goal.returns-in_err-damage-clause-reads
returns-in_err-damage-clause-reads g c =
    let h = c.head-head.ensures.head in (
      h.0,
      h.1,
      reads_more g.S.Scorer.score_of g.D.Disk c.args.log.now c.loop-followed.log c.fill.new.log c.loop-followed.followed.clumps h.0.head.clumps c.loop-followed.invariant.reads c.fill.ensures.reads
          (omega (arith, ap (λ (h : ArenaHead). h.clumps) h.2, c.loop-followed-test.true)),
    )

pub returns-in-Some-clause-reads : goal.returns-in-Some-clause-reads
returns-in-Some-clause-reads g c =
    let h = c.head-head.ensures.head in (
      h.0,
      h.1,
      reads_more g.S.Scorer.score_of g.D.Disk c.args.log.now c.loop-followed.log c.fill.new.log c.loop-followed.followed.clumps h.0.head.clumps c.loop-followed.invariant.reads c.fill.ensures.reads
          (omega (arith, ap (λ (h : ArenaHead). h.clumps) h.2, c.loop-followed-test.true)),
    )

pub returns-in-Some-clause-differs : goal.returns-in-Some-clause-differs
returns-in-Some-clause-differs g c =
    let score = g.S.Scorer.score_of in
    let it = c.loop-followed.invariant in
    let window : List ℕ = c.fill.new.self.clumps.items in
    let cuts : List Cut = c.deref-in-loop-followed-2.result.now in
    let Tests : List ℕ → Cut → Tested → Type 0 = λ w cut found. TestsAs score (cut_bytes w cut) cut.entry found in
    let within : All (IsWithinWindow window) cuts = subst (λ (l : List Cut). All (IsWithinWindow window) l) (sym c.deref-in-loop-followed-2.ensures.value) c.in_ok-fill.ensures.cuts in
    let tests : AllZip (Tests window) cuts c.deref-in-loop-followed-3.result.now =
    subst (λ (l : List Tested). AllZip (Tests window) cuts l) (sym c.deref-in-loop-followed-3.ensures.value)
    (subst (λ (l : List Cut). AllZip (Tests window) l c.in_ok-tested.tested.items) (c.deref-in-loop-followed.ensures.value ∙ sym c.deref-in-loop-followed-2.ensures.value)
    (subst (λ (w : List ℕ). AllZip (Tests w) c.deref-in-loop-followed.result.now c.in_ok-tested.tested.items) c.deref.ensures.value c.in_ok-tested.ensures.tested)) in
    let Goes : Type 0 = HasFollowed score c.head-head.result.version (it.clumps ++ map (cut_bytes window) cuts) (it.entries ++ map (λ (cut : Cut). cut.entry) cuts) c.follow.new.self in
    let Stops : Damage → Type 0 = λ d. (behind : List (List ℕ)) → bad_clump score (it.clumps ++ map (cut_bytes window) cuts ++ behind) ≡ Some d in
    let stops : Stops c.in-Some.damage = subst (λ (o : Option Damage). MatchOption o Goes Stops) c.in-Some.is
    (c.in_ok-damage.ensures.followed window it.clumps it.entries it.followed within tests) in
    differs_at (bad_clump score (it.clumps ++ map (cut_bytes window) cuts ++ [])) c.in-Some.damage (bad_clump_differs score (it.clumps ++ map (cut_bytes window) cuts ++ [])) (stops [])

pub returns-in-Some-clause-told : goal.returns-in-Some-clause-told
returns-in-Some-clause-told g c = λ r disk found tells at head_at read.
    let score = g.S.Scorer.score_of in
    let file : List ℕ = g.D.Disk.bytes disk in
    let it = c.loop-followed.invariant in
    let f = c.loop-followed.followed in
    let head : ArenaHead = c.head-head.result in
    let window : List ℕ = c.fill.new.self.clumps.items in
    let cuts : List Cut = c.deref-in-loop-followed-2.result.now in
    let Tests : List ℕ → Cut → Tested → Type 0 = λ w cut found. TestsAs score (cut_bytes w cut) cut.entry found in
    let within : All (IsWithinWindow window) cuts = subst (λ (l : List Cut). All (IsWithinWindow window) l) (sym c.deref-in-loop-followed-2.ensures.value) c.in_ok-fill.ensures.cuts in
    let tests : AllZip (Tests window) cuts c.deref-in-loop-followed-3.result.now =
    subst (λ (l : List Tested). AllZip (Tests window) cuts l) (sym c.deref-in-loop-followed-3.ensures.value)
    (subst (λ (l : List Cut). AllZip (Tests window) l c.in_ok-tested.tested.items) (c.deref-in-loop-followed.ensures.value ∙ sym c.deref-in-loop-followed-2.ensures.value)
    (subst (λ (w : List ℕ). AllZip (Tests w) c.deref-in-loop-followed.result.now c.in_ok-tested.tested.items) c.deref.ensures.value c.in_ok-tested.ensures.tested)) in
    let Goes : Type 0 = HasFollowed score c.head-head.result.version (it.clumps ++ map (cut_bytes window) cuts) (it.entries ++ map (λ (cut : Cut). cut.entry) cuts) c.follow.new.self in
    let Stops : Damage → Type 0 = λ d. (behind : List (List ℕ)) → bad_clump score (it.clumps ++ map (cut_bytes window) cuts ++ behind) ≡ Some d in
    let stops : Stops c.in-Some.damage = subst (λ (o : Option Damage). MatchOption o Goes Stops) c.in-Some.is
    (c.in_ok-damage.ensures.followed window it.clumps it.entries it.followed within tests) in
    let first : first_damage score r.region head file ≡ Some c.in-Some.damage =
    check_stops score g.D.Disk c.args.log.now c.loop-followed.log c.fill.new.log c.args.arena head f it window cuts c.fill.ensures.reads within
    (λ on. subst (λ (l : List Cut). All (HasOwnEntry window) l) (sym c.deref-in-loop-followed-2.ensures.value) (c.in_ok-fill.ensures.own on))
    (λ q d t a. subst (λ (l : List Cut). AreNextCuts q.region head (g.D.Disk.bytes d) f.clumps f.used window l) (sym c.deref-in-loop-followed-2.ensures.value) (c.in_ok-fill.ensures.next q d t a))
    c.in-Some.damage stops r disk tells at in
    let same : head ≡ found.head = same_head c.args.log.now c.args.arena head c.head-head.ensures.head found head_at in
    let region : c.arena_len-len.ensures.len.0 ≡ r = same_Some c.arena_len-len.ensures.len.0 r (sym c.arena_len-len.ensures.len.1 ∙ at.arena) in
    let long = ap (λ (q : ArenaRegion). q.region.len) region in
    let size : length file ≡ g.D.Disk.size disk = (g.met.D.Disk.images_fit _ _ (g.met.D.Disk.read_is_image disk tells)).0 in
    let lens : IsArenaLen r.region.len = subst (λ (n : ℕ). IsArenaLen n) (c.arena_len-len.ensures.len.2 ∙ long) c.arena_len-len.ensures.bounds in
    let fields : fields_at r.region file ≡ fields_of found.head =
    sym (own_read r.region r.number file lens (omega (arith, size, c.head-head.ensures.within r disk at))) ∙ read in
    tells_damage score r found.head file (omega (arith, long, c.arena_len-len.ensures.len.2, c.arena_len-len.ensures.bounds.0))
    (omega (arith, long, c.arena_len-len.ensures.len.2, c.arena_len-len.ensures.bounds.1)) fields
    (subst (λ (h : ArenaHead). IsHeadFor r h) same (c.head-head.ensures.stands r at.arena))
    c.in-Some.damage (subst (λ (h : ArenaHead). first_damage score r.region h file ≡ Some c.in-Some.damage) same first)

pub returns-clause-differs : goal.returns-clause-differs
returns-clause-differs g c =
    let it = c.loop-followed.invariant in
    end_differs g.S.Scorer.score_of c.head-head.result it.clumps it.entries c.end_of.result
    (c.end_of.ensures g.S.Scorer.score_of it.clumps it.entries it.followed)

pub returns-clause-told : goal.returns-clause-told
returns-clause-told g c = λ r disk found tells at head_at read.
    let score = g.S.Scorer.score_of in
    let file : List ℕ = g.D.Disk.bytes disk in
    let it = c.loop-followed.invariant in
    let head : ArenaHead = c.head-head.result in
    let same : head ≡ found.head = same_head c.args.log.now c.args.arena head c.head-head.ensures.head found head_at in
    let region : c.arena_len-len.ensures.len.0 ≡ r = same_Some c.arena_len-len.ensures.len.0 r (sym c.arena_len-len.ensures.len.1 ∙ at.arena) in
    let long = ap (λ (q : ArenaRegion). q.region.len) region in
    let size : length file ≡ g.D.Disk.size disk = (g.met.D.Disk.images_fit _ _ (g.met.D.Disk.read_is_image disk tells)).0 in
    let lens : IsArenaLen r.region.len = subst (λ (n : ℕ). IsArenaLen n) (c.arena_len-len.ensures.len.2 ∙ long) c.arena_len-len.ensures.bounds in
    let fields : fields_at r.region file ≡ fields_of found.head =
    sym (own_read r.region r.number file lens (omega (arith, size, c.head-head.ensures.within r disk at))) ∙ read in
    let ends = check_ends score g.D.Disk c.args.log.now c.loop-followed.log c.args.arena head c.loop-followed.followed it (omega arith) r disk tells at in
    let told : TellsOf score r head file c.end_of.result =
    tells_end score r head file (omega (arith, long, c.arena_len-len.ensures.len.2, c.arena_len-len.ensures.bounds.0))
    (omega (arith, long, c.arena_len-len.ensures.len.2, c.arena_len-len.ensures.bounds.1))
    (subst (λ (h : ArenaHead). fields_at r.region file ≡ fields_of h) (sym same) fields) (c.head-head.ensures.stands r at.arena)
    it.clumps it.entries c.loop-followed.followed it.followed ends.0 ends.1 c.end_of.result (c.end_of.ensures score it.clumps it.entries it.followed) in
    subst (λ (h : ArenaHead). TellsOf score r h file c.end_of.result) same told

-- nothing stopped it
match_none : (o : Option Damage) (P : Type 0) (Q : Damage → Type 0) → ((d : Damage) → o ≡ Some d → ⊥) → MatchOption o P Q → P
match_none None P Q other it = it
match_none (Some d) P Q other it = absurd (other d refl)

pub loop-followed-smaller : goal.loop-followed-smaller
loop-followed-smaller g c =
    let score = g.S.Scorer.score_of in
    let it = c.loop-followed.invariant in
    let window : List ℕ = c.fill.new.self.clumps.items in
    let cuts : List Cut = c.deref-in-loop-followed-2.result.now in
    let Tests : List ℕ → Cut → Tested → Type 0 = λ w cut found. TestsAs score (cut_bytes w cut) cut.entry found in
    let within : All (IsWithinWindow window) cuts = subst (λ (l : List Cut). All (IsWithinWindow window) l) (sym c.deref-in-loop-followed-2.ensures.value) c.in_ok-fill.ensures.cuts in
    let tests : AllZip (Tests window) cuts c.deref-in-loop-followed-3.result.now =
    subst (λ (l : List Tested). AllZip (Tests window) cuts l) (sym c.deref-in-loop-followed-3.ensures.value)
    (subst (λ (l : List Cut). AllZip (Tests window) l c.in_ok-tested.tested.items) (c.deref-in-loop-followed.ensures.value ∙ sym c.deref-in-loop-followed-2.ensures.value)
    (subst (λ (w : List ℕ). AllZip (Tests w) c.deref-in-loop-followed.result.now c.in_ok-tested.tested.items) c.deref.ensures.value c.in_ok-tested.ensures.tested)) in
    let Goes : Type 0 = HasFollowed score c.head-head.result.version (it.clumps ++ map (cut_bytes window) cuts) (it.entries ++ map (λ (cut : Cut). cut.entry) cuts) c.follow.new.self in
    let Stops : Damage → Type 0 = λ d. (behind : List (List ℕ)) → bad_clump score (it.clumps ++ map (cut_bytes window) cuts ++ behind) ≡ Some d in
    let goes : Goes = match_none c.in_ok-damage.field-0 Goes Stops c.in_default.not-Some
    (c.in_ok-damage.ensures.followed window it.clumps it.entries it.followed within tests) in
    let count = counted score c.head-head.result.version window it.clumps it.entries (it.entries ++ map (λ (cut : Cut). cut.entry) cuts) cuts c.loop-followed.followed c.follow.new.self it.followed goes within in
    let many : length cuts ≡ length c.fill.new.self.cuts.items = ap (λ (l : List Cut). length l) c.deref-in-loop-followed-2.ensures.value in
    omega (arith, count.0, many, c.in_ok-fill.ensures.some, c.loop-followed-test.true)

pub loop-followed-preserved : goal.loop-followed-preserved
loop-followed-preserved g c =
    let score = g.S.Scorer.score_of in
    let it = c.loop-followed.invariant in
    let window : List ℕ = c.fill.new.self.clumps.items in
    let cuts : List Cut = c.deref-in-loop-followed-2.result.now in
    let Tests : List ℕ → Cut → Tested → Type 0 = λ w cut found. TestsAs score (cut_bytes w cut) cut.entry found in
    let within : All (IsWithinWindow window) cuts = subst (λ (l : List Cut). All (IsWithinWindow window) l) (sym c.deref-in-loop-followed-2.ensures.value) c.in_ok-fill.ensures.cuts in
    let tests : AllZip (Tests window) cuts c.deref-in-loop-followed-3.result.now =
    subst (λ (l : List Tested). AllZip (Tests window) cuts l) (sym c.deref-in-loop-followed-3.ensures.value)
    (subst (λ (l : List Cut). AllZip (Tests window) l c.in_ok-tested.tested.items) (c.deref-in-loop-followed.ensures.value ∙ sym c.deref-in-loop-followed-2.ensures.value)
    (subst (λ (w : List ℕ). AllZip (Tests w) c.deref-in-loop-followed.result.now c.in_ok-tested.tested.items) c.deref.ensures.value c.in_ok-tested.ensures.tested)) in
    let Goes : Type 0 = HasFollowed score c.head-head.result.version (it.clumps ++ map (cut_bytes window) cuts) (it.entries ++ map (λ (cut : Cut). cut.entry) cuts) c.follow.new.self in
    let Stops : Damage → Type 0 = λ d. (behind : List (List ℕ)) → bad_clump score (it.clumps ++ map (cut_bytes window) cuts ++ behind) ≡ Some d in
    let goes : Goes = match_none c.in_ok-damage.field-0 Goes Stops c.in_default.not-Some
    (c.in_ok-damage.ensures.followed window it.clumps it.entries it.followed within tests) in
    let count = counted score c.head-head.result.version window it.clumps it.entries (it.entries ++ map (λ (cut : Cut). cut.entry) cuts) cuts c.loop-followed.followed c.follow.new.self it.followed goes within in
    let many : length cuts ≡ length c.fill.new.self.cuts.items = ap (λ (l : List Cut). length l) c.deref-in-loop-followed-2.ensures.value in
    let f = c.loop-followed.followed in
    let head : ArenaHead = c.head-head.result in
    check_more score g.D.Disk c.args.log.now c.loop-followed.log c.fill.new.log c.args.arena head f it window cuts c.fill.ensures.reads within
    (λ on. subst (λ (l : List Cut). All (HasOwnEntry window) l) (sym c.deref-in-loop-followed-2.ensures.value) (c.in_ok-fill.ensures.own on))
    (λ q d t a. subst (λ (l : List Cut). AreNextCuts q.region head (g.D.Disk.bytes d) f.clumps f.used window l) (sym c.deref-in-loop-followed-2.ensures.value) (c.in_ok-fill.ensures.next q d t a))
    c.follow.new.self goes count.0 count.1 (omega (arith, many, c.in_ok-fill.ensures.some)) (omega (arith, many, c.in_ok-fill.ensures.few))
    c.in_ok-fill.ensures.faults
