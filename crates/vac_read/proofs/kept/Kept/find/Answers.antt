use Rattle.std.proofs.Common.{◌≡◌, ◌*◌, ◌<◌, ◌≤◌, ℕ, List, length, refl, sym, ◌∙◌, ap, subst}
use Rattle.vt_tree.specs.declared.entry.Entry.{Entry}
use Rattle.vt_tree.specs.Maps.{BlockMap}
use Rattle.vac_model.specs.Trees.{AreFolder}
use Rattle.vac_read.specs.declared.kept.KeptFolder.{KeptFolder}
use Rattle.vac_read.specs.Asking.{leaf_blocks}
use Rattle.vac_read.specs.Kept.{IsKeptAt, IsKeptFolder, IsKeptOf, IsRightFolder, IsRightKept, all_cost}
use Rattle.vac_read.proofs.Few.{few_as}
use Rattle.vac_read.proofs.Keeps.{all_at, at_item, same_cost, still_at, still_kept, still_right}
use Rattle.vac_read.proofs.Steps.{named_told}
use Rattle.vac_read.proofs.kept.Kept.find.Goals as goal

pub find-requires : goal.find-requires
find-requires g c =
    let folders : List KeptFolder = c.self.inside.folders.items in
    let before : KeptFolder = c.index_mut.result.now in
    let within : c.args.at < length folders =
    subst (λ (l : List KeptFolder). c.args.at < length l) (sym c.self.view_is) c.requires in
    subst IsKeptFolder (sym c.index_mut.ensures.value)
    (all_at IsKeptFolder folders c.args.at before c.self.invariant.0.each within)

pub invariant_of-self : goal.invariant_of-self
invariant_of-self g c =
    let folders : List KeptFolder = c.self.inside.folders.items in
    let before : KeptFolder = c.index_mut.result.now in
    let new : KeptFolder = c.find.new.self in
    let is = c.index_mut.ensures.value in
    let within : c.args.at < length folders =
    subst (λ (l : List KeptFolder). c.args.at < length l) (sym c.self.view_is) c.requires in
    let same = c.find.ensures.same
    ∙ ap (λ (k : KeptFolder). record k { directory = new.directory }) is in
    let stream = c.find.ensures.stream ∙ ap (λ (k : KeptFolder). k.directory.stream) is in (
      still_kept folders c.args.at new before within same stream c.self.invariant.0,
      c.self.invariant.1 ∙ sym (same_cost folders c.args.at new before within same stream),
    )

pub returns-clause-kept : goal.returns-clause-kept
returns-clause-kept g c = λ entries metadata place it.
    let folders : List KeptFolder = c.self.inside.folders.items in
    let before : KeptFolder = c.index_mut.result.now in
    let new : KeptFolder = c.find.new.self in
    let is = c.index_mut.ensures.value in
    let within : c.args.at < length folders =
    subst (λ (l : List KeptFolder). c.args.at < length l) (sym c.self.view_is) c.requires in
    let same = c.find.ensures.same
    ∙ ap (λ (k : KeptFolder). record k { directory = new.directory }) is in
    let stream = c.find.ensures.stream ∙ ap (λ (k : KeptFolder). k.directory.stream) is in
    still_at folders c.args.at new before within same stream entries metadata place
    (subst (λ (l : List KeptFolder). IsKeptAt entries metadata l place) (sym c.self.view_is) it)

pub returns-clause-costs : goal.returns-clause-costs
returns-clause-costs g c =
    let folders : List KeptFolder = c.self.inside.folders.items in
    let before : KeptFolder = c.index_mut.result.now in
    let new : KeptFolder = c.find.new.self in
    let is = c.index_mut.ensures.value in
    let within : c.args.at < length folders =
    subst (λ (l : List KeptFolder). c.args.at < length l) (sym c.self.view_is) c.requires in
    let same = c.find.ensures.same
    ∙ ap (λ (k : KeptFolder). record k { directory = new.directory }) is in
    let stream = c.find.ensures.stream ∙ ap (λ (k : KeptFolder). k.directory.stream) is in
    same_cost folders c.args.at new before within same stream
    ∙ ap (λ (l : List KeptFolder). all_cost l) c.self.view_is

pub returns-clause-reads : goal.returns-clause-reads
returns-clause-reads g c = λ entries metadata it.
    let folders : List KeptFolder = c.self.inside.folders.items in
    let before : KeptFolder = c.index_mut.result.now in
    let new : KeptFolder = c.find.new.self in
    let is = c.index_mut.ensures.value in
    let within : c.args.at < length folders =
    subst (λ (l : List KeptFolder). c.args.at < length l) (sym c.self.view_is) c.requires in
    let same = c.find.ensures.same
    ∙ ap (λ (k : KeptFolder). record k { directory = new.directory }) is in
    let stream = c.find.ensures.stream ∙ ap (λ (k : KeptFolder). k.directory.stream) is in
    let was : IsKeptOf entries metadata before =
    subst (IsKeptOf entries metadata) (sym is) (at_item entries metadata folders c.args.at before
    (subst (λ (l : List KeptFolder). IsKeptAt entries metadata l c.args.at) (sym c.self.view_is) it)) in
    few_as g.B.Blocks.does g.B.Blocks.holds g.B.Scorer.score_of c.args.blocks.now
    c.find.new.blocks c.find.result c.find.result _ _ _ _ refl c.find.ensures.reads
    (λ map told right.
    let all : IsRightKept map folders = subst (IsRightKept map) (sym c.self.view_is) right in
    let one : IsRightFolder map before = subst (IsRightFolder map) (sym is)
    (all_at (IsRightFolder map) folders c.args.at before all within) in
    let t = told one.leaf in
    let are : AreFolder map entries metadata before.records =
    subst (λ (e : Entry). AreFolder map e metadata before.records) was.stream
    (subst (λ (e : Entry). AreFolder map before.directory.stream e before.records) was.metadata_is
    one.are) in (
      still_right folders c.args.at new before within same stream map all t.0,
      named_told map entries metadata before.directory.stream before.records c.args.name.now
          c.find.result are was.stream t.1,
    ))
    (λ map n told few.
    subst (λ (e : Entry). n ≤ 2 * leaf_blocks e) was.stream few)
