use Rattle.std.proofs.Common.{◌≡◌, ◌∙◌, ◌+◌, Some, sym, ap}
use Rattle.std.specs.Prelude.{slice_get, sum}
use Rattle.std.proofs.lemmas.Option.{slice_get-get_or}
use Rattle.vt_model.specs.Places.{first_bucket}
use Rattle.vt_rebuild.specs.Rebuilt.{counts_of}
use Rattle.vt_rebuild.proofs.Assembling.{first_behind, sum_fits, sum_more, within_all}
use Rattle.vt_rebuild.proofs.rebuilding.buckets_in.Goals as goal

pub overflow_add-buckets : goal.overflow_add-buckets
overflow_add-buckets g c =
    let sections = c.args.sections.now in
    let i = c.loop-section.section-index in
    let p = c.section-item.result in
    let at : slice_get sections i ≡ Some p = slice_get-get_or sections i p c.loop-section-test.true ∙ ap Some (sym c.section-item.is) in
    record {
      fits = sum_fits c.loop-section.buckets c.buckets-buckets.result (first_bucket (counts_of sections) i) p.buckets (sum (counts_of sections))
          c.loop-section.invariant c.buckets-buckets.ensures (within_all sections i p at) c.requires;
    }

pub loop-section-preserved : goal.loop-section-preserved
loop-section-preserved g c =
    let sections = c.args.sections.now in
    let i = c.loop-section.section-index in
    let p = c.section-item.result in
    let at : slice_get sections i ≡ Some p = slice_get-get_or sections i p c.loop-section-test.true ∙ ap Some (sym c.section-item.is) in
    sum_more c.loop-section.buckets c.buckets-buckets.result (first_bucket (counts_of sections) i) p.buckets (first_bucket (counts_of sections) (i + 1))
    c.loop-section.invariant c.buckets-buckets.ensures (first_behind sections i p at)
