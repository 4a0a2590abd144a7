-- One disk is read.
use Rattle.std.proofs.Common.{rules, ◌≡◌, ◌+◌, List, [], ◌∷◌, ◌++◌, ℕ, IsTrue, length, Some, refl, sym, ◌∙◌, ap, subst, arith, get_or}
use Rattle.std.specs.Prelude.{IfOk, MatchResult, slice_get}
use Rattle.std.proofs.lemmas.Option.{get_or_from_slice_get, slice_get_read}
use Rattle.vt_arena.specs.declared.head.Found.{Found}
use Rattle.vt_clump.specs.Spelling.{Stored}
use Rattle.vt_arena.specs.declared.error.BackBad.TheVariants.{Fault}
use Rattle.vt_arena.specs.Directory.{what_is_walked, is_back_fault, IsAtBlock, IsInfoOfBlock, IsOnClump, WalksOn}
use Rattle.vt_arena.specs.Layout.{IsArenaContent, HasBlocks}
use Rattle.vt_arena.specs.Places.{block_room}
use Rattle.vt_part.specs.declared.layout.ArenaRegion.{ArenaRegion}
use Rattle.vt_log.specs.Log.{LogState}
use Rattle.vt_log.specs.Whole.{IsWholeLog}
use Rattle.vt_log.proofs.Disks.{tells_set}
use Rattle.vt_log.proofs.Lists.{no_region}
use Rattle.vt_log.proofs.OnlyReads.{lent, none_read}
use Rattle.vt_log.proofs.log.Log.read_entry.Goals as goal

pub invariant_of-self : goal.invariant_of-self
invariant_of-self g c =
    let r : ArenaRegion = get_or c.as_slice.result.now c.args.arena no_region in
    let whole : IsWholeLog g.D.Disk c.args.self.now =
    subst (IsWholeLog g.D.Disk) c.self.view_is c.self.invariant in
    let it = lent g.S.Scorer.score_of g.D.Disk 1
    c.self.inside.parts.items c.args.arena r no_region c.index_mut.result.now c.info.new.disk
    _ c.args.self.now c.self.invariant c.self.view_is refl refl
    (omega (arith, c.requires.arena, whole.many))
    (ap (λ (rs : List ArenaRegion). get_or rs c.args.arena no_region) c.as_slice.ensures)
    c.index_mut.ensures.value c.info.ensures.reads in
    it.only.whole whole

pub info-requires-clause-fit : goal.info-requires-clause-fit
info-requires-clause-fit g c =
    let l : LogState _ = c.args.self.now in
    let r : ArenaRegion = get_or c.as_slice.result.now c.args.arena no_region in
    let p = c.index_mut.result.now in
    let f : Found = c.index.result.now in
    let whole : IsWholeLog g.D.Disk l = subst (IsWholeLog g.D.Disk) c.self.view_is c.self.invariant in
    let it = lent g.S.Scorer.score_of g.D.Disk 0
    c.self.inside.parts.items c.args.arena r no_region p p.disk
    _ l c.self.invariant c.self.view_is refl refl
    (omega (arith, c.requires.arena, whole.many))
    (ap (λ (rs : List ArenaRegion). get_or rs c.args.arena no_region) c.as_slice.ensures)
    c.index_mut.ensures.value (none_read g.D.Disk p.disk) in
    let has : slice_get l.heads c.args.arena ≡ Some f =
    slice_get_read l.heads (length l.heads) c.args.arena f refl c.requires.arena
    (c.index.ensures ∙ ap (λ (m : LogState _). get_or m.heads c.args.arena f) c.self.view_is) in
    (whole.heads c.args.arena r f it.layout has).fit

pub returns : goal.returns
returns g c =
    let r : ArenaRegion = get_or c.as_slice.result.now c.args.arena no_region in
    let whole : IsWholeLog g.D.Disk c.args.self.now =
    subst (IsWholeLog g.D.Disk) c.self.view_is c.self.invariant in
    let it = lent g.S.Scorer.score_of g.D.Disk 1
    c.self.inside.parts.items c.args.arena r no_region c.index_mut.result.now c.info.new.disk
    _ c.args.self.now c.self.invariant c.self.view_is refl refl
    (omega (arith, c.requires.arena, whole.many))
    (ap (λ (rs : List ArenaRegion). get_or rs c.args.arena no_region) c.as_slice.ensures)
    c.index_mut.ensures.value c.info.ensures.reads in
    let f : Found = c.index.result.now in
    let one : (found : Found) → slice_get c.args.self.now.heads c.args.arena ≡ Some found → f ≡ found = λ found has.
    c.index.ensures
    ∙ ap (λ (l : LogState _). get_or l.heads c.args.arena f) c.self.view_is
    ∙ get_or_from_slice_get c.args.self.now.heads c.args.arena found f has in
    record {
      entry = λ found q disk has at.
          subst (λ (f : Found). (bytes : List ℕ)
          × (IsTrue g.D.Disk.tells
          → bytes ≡ what_is_walked f.head q.region c.args.at.now (g.D.Disk.bytes disk))
          × WalksOn f.head c.args.at.now c.info.new.at bytes c.info.result)
          (one found has)
          (subst (λ (x : ArenaRegion). (bytes : List ℕ)
          × (IsTrue g.D.Disk.tells
          → bytes ≡ what_is_walked f.head x.region c.args.at.now (g.D.Disk.bytes disk))
          × WalksOn f.head c.args.at.now c.info.new.at bytes c.info.result)
          (it.r_one q at.arena)
          (subst (λ (d : _). (bytes : List ℕ)
          × (IsTrue g.D.Disk.tells
          → bytes ≡ what_is_walked f.head r.region c.args.at.now (g.D.Disk.bytes d))
          × WalksOn f.head c.args.at.now c.info.new.at bytes c.info.result)
          (it.disk_one q disk at) c.info.ensures.answer));
      differs = c.info.ensures.differs;
      moved = λ found has. subst (λ (f : Found). IfOk c.info.result (λ info. (c.info.new.at.index + 1 ≡ c.args.at.now.index)
          × (c.info.new.at.end + block_room f.head.version info.size ≡ c.args.at.now.end))) (one found has) c.info.ensures.moved;
      clump = λ found has. subst (λ (f : Found). IsOnClump f.head c.info.new.at) (one found has) c.info.ensures.clump;
      stays = search rules;
      committed = λ found q disk number a before behind s tells has at content blocks split
          head stands.
          let back : q ≡ r = sym (it.r_one q at.arena) in
          let same = one found has in
          subst (λ (f : Found). MatchResult c.info.result (λ info. IsInfoOfBlock f.head before s info
          × ((first : List Stored) (t : Stored) → before ≡ first ++ t ∷ []
          → IsAtBlock f.head first t c.info.new.at)) (λ bad. bad ≡ Fault)) same
          (c.info.ensures.committed g.S.Scorer.score_of number a before behind s tells
          (subst (λ (x : ArenaRegion). IsArenaContent g.S.Scorer.score_of x.region.len a) back content)
          (subst (λ (x : ArenaRegion). HasBlocks x.region a (g.D.Disk.bytes c.index_mut.result.now.disk)) back
          (subst (λ (d : _). HasBlocks q.region a (g.D.Disk.bytes d)) (sym (it.disk_one q disk at)) blocks))
          split (ap (λ (f : Found). f.head) same ∙ head)
          (subst (λ (f : Found). IsAtBlock f.head before s c.args.at.now) (sym same) stands));
      reads = it.reads;
      spares = it.spares;
      cause = tells_set g.D.Disk.faults is_back_fault c.args.self.now.disks _ r.part _ c.info.new.disk
          c.info.result it.only.was it.only.disks_are c.info.ensures.cause;
    }
