-- what was found is all that the folder holds
use Rattle.std.proofs.Common.{◌≡◌, ℕ, ◌<◌, ◌^◌, None, List, [], sym, ◌∙◌, ap, subst}
use Rattle.vt_out.specs.declared.folder_item.Facts.{Facts}
use Rattle.vt_out.specs.FolderItems.{Items}
use Rattle.vt_model.specs.History.{Block}
use Rattle.vt_tree.specs.Maps.{with_blocks}
use Rattle.vac_model.specs.Archives.{archive_of, archive_with}
use Rattle.vac_model.specs.Kept.{Numbered, archived, count, in_order, kept, left_out, numbered}
use Rattle.vac_model.specs.Limits.{HaveTimes, unfit_in_order}
use Rattle.vac_model.specs.Trees.{IsTreeOf}
use Rattle.vac_model.proofs.InOrder.{are_ordered}
use Rattle.vac_write.specs.Archiving.{asked_for_all}
use Rattle.vac_write.specs.Tried.{AreWoven, found, whole}
use Rattle.vac_write.proofs.Lacking.{none_fails, none_lacking, times_of_order}
use Rattle.vac_write.proofs.Tried.{order_again}
use Rattle.vac_write.proofs.laws.whole_folders_are_archived.Goals as goal

pub returns-clause-whole : goal.returns-clause-whole
returns-clause-whole g c s s' bsize folder a told w none_told =
    let score_of = g.B.Scorer.score_of in
    let held = folder.held in
    let lacks_none = none_lacking [] w.tried (sym w.failed ∙ none_told) in
    let again : in_order (in_order held) ≡ in_order held =
    order_again None (in_order held) (are_ordered held) in
    let found_is : found w.tried ≡ in_order held = lacks_none.0 ∙ w.is.all told in
    let same_order : in_order (found w.tried) ≡ in_order held = ap in_order found_is ∙ again in
    let same : archived (found w.tried) ≡ archived held =
    ap (λ (items : Items Facts). numbered 1 (kept items)) same_order in
    let blocks : w.all ≡ (archive_of score_of bsize held).blocks =
    subst (λ (runs : List (List Block)).
    AreWoven runs (archive_of score_of bsize (found w.tried)).blocks w.all) lacks_none.1 w.puts.woven
    ∙ ap (λ (x : Items Numbered). (archive_with score_of bsize x).blocks) same in
    record {
      fit = sym (ap unfit_in_order same_order) ∙ w.fit;
      few = subst (λ (x : Items Numbered). count x < 2 ^ 64) same w.few;
      times = times_of_order held (subst HaveTimes found_is w.times);
      score = w.score ∙ ap (λ (x : Items Numbered). (archive_with score_of bsize x).score) same;
      left_out = w.left_out ∙ ap (left_out []) same_order;
      calls = w.calls;
      made = w.made;
      accepted = w.accepted;
      asked = w.asked ∙ ap asked_for_all blocks;
      keeps = λ m holds_them.
          let k = w.keeps m holds_them in
          record {
            maps = k.maps;
            held = k.held
                ∙ ap (λ (bs : List Block). with_blocks score_of bs m.held) blocks;
            synced = k.synced;
            holds_them = k.holds_them;
            tree = subst (λ (x : Items Numbered).
                IsTreeOf k.maps.held (archive_with score_of bsize x).score x) same k.tree;
          };
    }

pub returns-clause-sure : goal.returns-clause-sure
returns-clause-sure g c s s' bsize folder a told lists reads w =
    w.failed ∙ none_fails folder.failing [] [] w.tried lists reads (w.is.lacks told)
