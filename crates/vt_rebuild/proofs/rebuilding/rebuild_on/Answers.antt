use Rattle.std.proofs.Common.{◌≡◌, ◌∙◌, ℕ, List, length, refl, sym, subst}
use Rattle.std.specs.Prelude.{All, sum}
use Rattle.std.proofs.lemmas.Result.{err_from_is_err_and}
use Rattle.vt_isect.specs.Section.{SectionState}
use Rattle.vt_model.specs.Places.{Setup, bucket_count}
use Rattle.vt_rebuild.specs.Building.{AreBegun, AreHalfBegun, IsToFinish}
use Rattle.vt_rebuild.specs.Filling.{CanFill, FitsBuckets}
use Rattle.vt_rebuild.specs.Rebuilt.{counts_of, setup_with}
use Rattle.vt_rebuild.proofs.Assembling.{all_rebuilt, either_refused, fault_refused, half_begun, half_finished, not_full, to_finish}
use Rattle.vt_rebuild.proofs.Fills.{log_stays}
use Rattle.vt_rebuild.proofs.Walks.{keeps_then, versions_stay}
use Rattle.vt_rebuild.proofs.rebuilding.rebuild_on.Goals as goal

pub returns-in_err-counts-clause-refused : goal.returns-in_err-counts-clause-refused
returns-in_err-counts-clause-refused g c = λ h is.
    let p = err_from_is_err_and c.from_residual.result c.from_residual.ensures.1 in
    rw (p.1, p.2, ← c.buckets_in-total.ensures) (c.in_err-counts.ensures.refused h is)

pub returns-in_err-begin_all-clause-refused : goal.returns-in_err-begin_all-clause-refused
returns-in_err-begin_all-clause-refused g c = λ h is.
    let p = err_from_is_err_and c.from_residual-in_err-begin_all.result c.from_residual-in_err-begin_all.ensures.1 in
    rw (p.1, p.2) (fault_refused g.S.Scorer.score_of (sum (counts_of c.args.sections.now)) h _ c.in_err-begin_all.ensures.refused)

pub returns-in_err-begin_all-clause-left : goal.returns-in_err-begin_all-clause-left
returns-in_err-begin_all-clause-left g c = λ h is.
    let p = err_from_is_err_and c.from_residual-in_err-begin_all.result c.from_residual-in_err-begin_all.ensures.1 in
    let olds : List (SectionState g.row.D.Denot) = c.args.sections.now in
    let news : List (SectionState g.row.D.Denot) = c.begin_all.new.sections in
    let setup : Setup = setup_with c.args.log.now olds in
    rw p.1 (half_begun g.S.Scorer.score_of g.D.Disk setup h olds news
    (subst (λ (n : ℕ). AreHalfBegun g.D.Disk n olds news) c.buckets_in-total.ensures c.in_err-begin_all.ensures.stops))

pub finish_all-requires-clause-begun : goal.finish_all-requires-clause-begun
finish_all-requires-clause-begun g c =
    let olds : List (SectionState g.row.D.Denot) = c.args.sections.now in
    let mids : List (SectionState g.row.D.Denot) = c.begin_all.new.sections in
    subst (λ (n : ℕ). All (IsToFinish n) mids) (sym c.in_ok-counts.ensures.counts.1)
    (to_finish g.D.Disk c.buckets_in-total.result olds mids c.buckets_in-total.ensures c.in_ok-begin_all.ensures.begun)

pub returns-in_err-finish_all-clause-refused : goal.returns-in_err-finish_all-clause-refused
returns-in_err-finish_all-clause-refused g c = λ h is.
    let score = g.S.Scorer.score_of in
    let olds : List (SectionState g.row.D.Denot) = c.args.sections.now in
    let setup : Setup = setup_with c.args.log.now olds in
    let total : c.in_ok-counts.gathered.total ≡ bucket_count setup = c.in_ok-counts.ensures.counts.1 ∙ c.buckets_in-total.ensures in
    let can : CanFill score g.D.Disk setup h c.count_all.new.log c.in_ok-counts.gathered = record {
      log = log_stays score g.D.Disk c.args.log.now c.count_all.new.log h c.count_all.ensures.keeps is;
      versions = versions_stay score g.D.Disk setup c.args.log.now c.count_all.new.log c.count_all.ensures.keeps refl;
      index = record { buckets = sym total; keys = is.keys };
      gathered = c.in_ok-counts.ensures.none setup h;
    } in
    let fits : FitsBuckets score c.in_ok-counts.gathered.total h =
    subst (λ (n : ℕ). FitsBuckets score n h) (sym c.in_ok-counts.ensures.counts.1) (c.in_ok-counts.ensures.room h is) in
    let p = err_from_is_err_and c.from_residual-in_err-finish_all.result c.from_residual-in_err-finish_all.ensures.1 in
    rw (p.1, p.2) (either_refused score (sum (counts_of olds)) h _ (c.in_err-finish_all.ensures.fits setup h can fits))

pub returns-in_err-finish_all-clause-left : goal.returns-in_err-finish_all-clause-left
returns-in_err-finish_all-clause-left g c = λ h is.
    let score = g.S.Scorer.score_of in
    let olds : List (SectionState g.row.D.Denot) = c.args.sections.now in
    let mids : List (SectionState g.row.D.Denot) = c.begin_all.new.sections in
    let news : List (SectionState g.row.D.Denot) = c.finish_all.new.sections in
    let setup : Setup = setup_with c.args.log.now olds in
    let total : c.in_ok-counts.gathered.total ≡ bucket_count setup = c.in_ok-counts.ensures.counts.1 ∙ c.buckets_in-total.ensures in
    let can : CanFill score g.D.Disk setup h c.count_all.new.log c.in_ok-counts.gathered = record {
      log = log_stays score g.D.Disk c.args.log.now c.count_all.new.log h c.count_all.ensures.keeps is;
      versions = versions_stay score g.D.Disk setup c.args.log.now c.count_all.new.log c.count_all.ensures.keeps refl;
      index = record { buckets = sym total; keys = is.keys };
      gathered = c.in_ok-counts.ensures.none setup h;
    } in
    let blocks : c.front-blocks.result ≡ length h = c.front-blocks.ensures.front ∙ is.sound.front in
    let begun : AreBegun g.D.Disk (bucket_count setup) olds mids =
    subst (λ (n : ℕ). AreBegun g.D.Disk n olds mids) c.buckets_in-total.ensures c.in_ok-begin_all.ensures.begun in
    let p = err_from_is_err_and c.from_residual-in_err-finish_all.result c.from_residual-in_err-finish_all.ensures.1 in
    rw p.1 (half_finished score g.D.Disk setup h olds mids news is.tells begun c.requires.opened c.images_agree.ensures.agrees
    (c.in_err-finish_all.ensures.left setup h can blocks))

pub returns-in_err-finish_all-clause-unwritten : goal.returns-in_err-finish_all-clause-unwritten
returns-in_err-finish_all-clause-unwritten g c = λ h n is full.
    let score = g.S.Scorer.score_of in
    let olds : List (SectionState g.row.D.Denot) = c.args.sections.now in
    let setup : Setup = setup_with c.args.log.now olds in
    let total : c.in_ok-counts.gathered.total ≡ bucket_count setup = c.in_ok-counts.ensures.counts.1 ∙ c.buckets_in-total.ensures in
    let can : CanFill score g.D.Disk setup h c.count_all.new.log c.in_ok-counts.gathered = record {
      log = log_stays score g.D.Disk c.args.log.now c.count_all.new.log h c.count_all.ensures.keeps is;
      versions = versions_stay score g.D.Disk setup c.args.log.now c.count_all.new.log c.count_all.ensures.keeps refl;
      index = record { buckets = sym total; keys = is.keys };
      gathered = c.in_ok-counts.ensures.none setup h;
    } in
    let fits : FitsBuckets score c.in_ok-counts.gathered.total h =
    subst (λ (k : ℕ). FitsBuckets score k h) (sym c.in_ok-counts.ensures.counts.1) (c.in_ok-counts.ensures.room h is) in
    let either = c.in_err-finish_all.ensures.fits setup h can fits in
    let p = err_from_is_err_and c.from_residual-in_err-finish_all.result c.from_residual-in_err-finish_all.ensures.1 in
    absurd (not_full _ n either (cc (p.1, p.2, full)))

pub returns-in_err-finish_all-clause-keeps : goal.returns-in_err-finish_all-clause-keeps
returns-in_err-finish_all-clause-keeps g c =
    keeps_then g.S.Scorer.score_of g.D.Disk c.args.log.now c.count_all.new.log c.finish_all.new.log c.count_all.ensures.keeps c.finish_all.ensures.keeps

pub returns-clause-rebuilt : goal.returns-clause-rebuilt
returns-clause-rebuilt g c = λ h is.
    let score = g.S.Scorer.score_of in
    let olds : List (SectionState g.row.D.Denot) = c.args.sections.now in
    let mids : List (SectionState g.row.D.Denot) = c.begin_all.new.sections in
    let news : List (SectionState g.row.D.Denot) = c.finish_all.new.sections in
    let setup : Setup = setup_with c.args.log.now olds in
    let total : c.in_ok-counts.gathered.total ≡ bucket_count setup = c.in_ok-counts.ensures.counts.1 ∙ c.buckets_in-total.ensures in
    let can : CanFill score g.D.Disk setup h c.count_all.new.log c.in_ok-counts.gathered = record {
      log = log_stays score g.D.Disk c.args.log.now c.count_all.new.log h c.count_all.ensures.keeps is;
      versions = versions_stay score g.D.Disk setup c.args.log.now c.count_all.new.log c.count_all.ensures.keeps refl;
      index = record { buckets = sym total; keys = is.keys };
      gathered = c.in_ok-counts.ensures.none setup h;
    } in
    let blocks : c.front-blocks.result ≡ length h = c.front-blocks.ensures.front ∙ is.sound.front in
    let begun : AreBegun g.D.Disk (bucket_count setup) olds mids =
    subst (λ (n : ℕ). AreBegun g.D.Disk n olds mids) c.buckets_in-total.ensures c.in_ok-begin_all.ensures.begun in
    all_rebuilt score g.D.Disk setup h olds mids news is.tells begun c.requires.opened c.images_agree.ensures.agrees
    (c.in_ok-finish_all.ensures.finished setup h can blocks)

pub returns-clause-room : goal.returns-clause-room
returns-clause-room g c = λ h is.
    subst (λ (n : ℕ). FitsBuckets g.S.Scorer.score_of n h) c.buckets_in-total.ensures (c.in_ok-counts.ensures.room h is)

pub returns-clause-keeps : goal.returns-clause-keeps
returns-clause-keeps g c =
    keeps_then g.S.Scorer.score_of g.D.Disk c.args.log.now c.count_all.new.log c.finish_all.new.log c.count_all.ensures.keeps c.finish_all.ensures.keeps
