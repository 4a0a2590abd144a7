-- One disk is read.
use Rattle.std.proofs.Common.{◌≡◌, List, ℕ, IsTrue, refl, sym, ◌∙◌, ap, subst, get_or, Err}
use Rattle.vt_arena.specs.declared.error.ReadBad.TheVariants.{Damaged}
use Rattle.vt_arena.specs.Layout.{IsArenaContent, HasBlocks}
use Rattle.vt_arena.specs.Reading.{HasHeader, clump_at, is_clump_fault, ReadsClumpAs}
use Rattle.vt_base.specs.declared.why.FieldValue.TheVariants.{Number}
use Rattle.vt_model.specs.declared.TheConstants.{ARENA_HEAD_LEN}
use Rattle.vt_part.specs.declared.layout.ArenaRegion.{ArenaRegion}
use Rattle.vt_log.specs.Whole.{IsWholeLog}
use Rattle.vt_log.proofs.Disks.{tells_set}
use Rattle.vt_log.proofs.Lists.{no_region}
use Rattle.vt_log.proofs.OnlyReads.{lent, none_read, read_once, read_whole, unchanged}
use Rattle.vt_log.proofs.log.Log.read_clump.Goals as goal
use Rattle.vt_log.proofs.log.Log.read_clump.Goals.{then-has_header, else-has_header}

pub invariant_of-self : goal.invariant_of-self
invariant_of-self g c =
    let r : ArenaRegion = get_or c.as_slice.result.now c.args.place.arena no_region in
    let it = lent g.S.Scorer.score_of g.D.Disk 2
    c.self.inside.parts.items c.args.place.arena r no_region c.index_mut.result.now
    c.read.new.disk _ c.args.self.now c.self.invariant c.self.view_is refl refl c.requires
    (ap (λ (rs : List ArenaRegion). get_or rs c.args.place.arena no_region) c.as_slice.ensures)
    c.index_mut.ensures.value c.read.ensures.reads in
    it.only.whole (subst (IsWholeLog g.D.Disk) c.self.view_is c.self.invariant)

pub read-requires : goal.read-requires
read-requires g c =
    let r : ArenaRegion = get_or c.as_slice.result.now c.args.place.arena no_region in
    let p = c.index_mut.result.now in
    let it = lent g.S.Scorer.score_of g.D.Disk 0
    c.self.inside.parts.items c.args.place.arena r no_region p p.disk _ c.args.self.now
    c.self.invariant c.self.view_is refl refl c.requires
    (ap (λ (rs : List ArenaRegion). get_or rs c.args.place.arena no_region) c.as_slice.ensures)
    c.index_mut.ensures.value (none_read g.D.Disk p.disk) in
    record { region = it.region.within }

pub returns : goal.returns
returns g c =
    let r : ArenaRegion = get_or c.as_slice.result.now c.args.place.arena no_region in
    let it = lent g.S.Scorer.score_of g.D.Disk 2
    c.self.inside.parts.items c.args.place.arena r no_region c.index_mut.result.now
    c.read.new.disk _ c.args.self.now c.self.invariant c.self.view_is refl refl c.requires
    (ap (λ (rs : List ArenaRegion). get_or rs c.args.place.arena no_region) c.as_slice.ensures)
    c.index_mut.ensures.value c.read.ensures.reads in
    let offset : c.from-offset.result ≡ c.args.place.offset = c.from-offset.ensures in
    record {
      outside = λ q at none.
          let none_there : ¬ HasHeader r.region.len c.from-offset.result = λ has. none
          (subst (λ (x : ArenaRegion). HasHeader x.region.len c.args.place.offset) (it.r_one q at)
          (subst (λ (n : ℕ). HasHeader r.region.len n) offset has)) in (
            c.read.ensures.outside none_there
                ∙ ap (λ (n : ℕ). Err (Damaged (Number ARENA_HEAD_LEN) (Number n))) offset,
            unchanged g.S.Scorer.score_of g.D.Disk r.part _
                c.read.new.disk c.args.self.now _ it.only (c.read.ensures.untouched none_there),
            elim c.if-has_header.branch [
              | then-has_header w ↦
                  absurd (none_there (c.has_header.ensures.0 w.if-has_header.true))
              | else-has_header w ↦ w.steps-is
            ],
          );
      stored = λ q disk at has.
          let here : HasHeader r.region.len c.args.place.offset =
          subst (λ (x : ArenaRegion). HasHeader x.region.len c.args.place.offset)
          (sym (it.r_one q at.arena)) has in
          subst (λ (x : ArenaRegion). (bytes : List ℕ)
          × (IsTrue g.D.Disk.tells
          → bytes ≡ clump_at x.region c.args.place.offset (g.D.Disk.bytes disk))
          × ReadsClumpAs g.S.Scorer.score_of bytes c.read.result)
          (it.r_one q at.arena)
          (subst (λ (d : _). (bytes : List ℕ)
          × (IsTrue g.D.Disk.tells → bytes ≡ clump_at r.region c.args.place.offset (g.D.Disk.bytes d))
          × ReadsClumpAs g.S.Scorer.score_of bytes c.read.result)
          (it.disk_one q disk at)
          (subst (λ (n : ℕ). (bytes : List ℕ)
          × (IsTrue g.D.Disk.tells
          → bytes ≡ clump_at r.region n (g.D.Disk.bytes c.index_mut.result.now.disk))
          × ReadsClumpAs g.S.Scorer.score_of bytes c.read.result) offset
          (c.read.ensures.answer (subst (λ (n : ℕ). HasHeader r.region.len n) (sym offset) here))));
      committed = λ q disk a before behind s tells at content blocks split is.
          let back : q ≡ r = sym (it.r_one q at.arena) in
          c.read.ensures.committed a before behind s tells
          (subst (λ (x : ArenaRegion). IsArenaContent g.S.Scorer.score_of x.region.len a) back content)
          (subst (λ (x : ArenaRegion). HasBlocks x.region a (g.D.Disk.bytes c.index_mut.result.now.disk)) back
          (subst (λ (d : _). HasBlocks q.region a (g.D.Disk.bytes d)) (sym (it.disk_one q disk at)) blocks))
          split (offset ∙ is);
      whole = read_whole g.S.Scorer.score_of c.read.result c.read.ensures.whole;
      cost = λ q at has.
          let here : HasHeader r.region.len c.from-offset.result =
          subst (λ (x : ArenaRegion). HasHeader x.region.len c.from-offset.result) (sym (it.r_one q at))
          (subst (λ (n : ℕ). HasHeader q.region.len n) (sym offset) has) in
          let lies : IsTrue c.has_header.result = c.has_header.ensures.1 here in
          elim c.if-has_header.branch [
            | then-has_header w ↦ w.steps-is ∙ w.tick.ensures
            | else-has_header w ↦ absurd (cc)
          ];
      reads = it.reads;
      once = read_once g.S.Scorer.score_of g.D.Disk c.args.size c.index_mut.result.now.disk c.read.new.disk c.args.self.now _ c.read.result
          c.read.ensures.reads c.read.ensures.calls
          (λ one. (lent g.S.Scorer.score_of g.D.Disk 1
          c.self.inside.parts.items c.args.place.arena r no_region c.index_mut.result.now
          c.read.new.disk _ c.args.self.now c.self.invariant c.self.view_is refl refl c.requires
          (ap (λ (rs : List ArenaRegion). get_or rs c.args.place.arena no_region) c.as_slice.ensures)
          c.index_mut.ensures.value one).reads);
      spares = it.spares;
      cause = tells_set g.D.Disk.faults is_clump_fault c.args.self.now.disks _ r.part _ c.read.new.disk
          c.read.result it.only.was it.only.disks_are c.read.ensures.cause;
    }
