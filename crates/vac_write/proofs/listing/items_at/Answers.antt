use Rattle.std.proofs.Common.{◌≡◌, ℕ, Bool, cond, Some, None, Err, List, sym, ◌∙◌, ap, arith, rules}
use Rattle.std.proofs.lemmas.Bool.{le-ltb, lt-ltb}
use Rattle.std.proofs.lemmas.List.Sorted.{answers_always}
use Rattle.std.proofs.lemmas.Result.{err_from_is_err_and}
use Rattle.vt_out.specs.declared.folder_item.Facts.{Facts}
use Rattle.vt_out.specs.FolderItems.{Items}
use Rattle.vt_out.specs.declared.files.OutErr.{OutErr}
use Rattle.vac_model.specs.declared.TheConstants.{MAX_METADATA}
use Rattle.vac_model.specs.Kept.{in_order}
use Rattle.vac_model.specs.Limits.{bad_name, too_long, first_bad_item, unfit_name}
use Rattle.vac_write.specs.Listing.{joined_path, metadata_len}
use Rattle.vac_write.proofs.Failing.{call_failed}
use Rattle.vac_write.proofs.Listed.{below, below_orders}
use Rattle.vac_write.proofs.Ordered.{ordered_of}
use Rattle.vac_write.proofs.listing.items_at.Goals as goal

pub returns-in_err-list-clause-refused : goal.returns-in_err-list-clause-refused
returns-in_err-list-clause-refused g c =
    let err = c.in_err-list.field-0.0 in
    let p = err_from_is_err_and c.from_residual.result c.from_residual.ensures.1 in
    rw (p.1, p.2) (call_failed g.F.Folder.tells (g.F.Folder.holds c.args.folder.now)
    (g.F.Folder.may_fail c.args.folder.now) c.args.path.now err
    (λ is. c.in_err-list.ensures.because (ap (λ (x : OutErr). Err x) is)))

pub returns-in-Some-clause-refused : goal.returns-in-Some-clause-refused
returns-in-Some-clause-refused g c =
    let held = g.F.Folder.holds c.args.folder.now in
    let path = c.args.path.now in
    let sort = c.in_ok-sort_by.ensures in
    let o = ordered_of g.F.Folder.tells held path c.into_vec-items.result.items
    c.sort_by.new.self.items
    (λ told. let l = c.in_ok-list.ensures.listed told in
    (l.0, l.1, c.into_vec-items.ensures ∙ l.2))
    (sort.sorted below below_orders (answers_always _ _ _ (λ f a r h q. search rules)))
    (sort.stable below below_orders (answers_always _ _ _ (λ f a r h q. search rules))) in
    let s : Items Facts = in_order o.seen in
    let bad : Some c.in-Some.name.now ≡ first_bad_item None s =
    c.in-Some.ensures s (c.deref.ensures.value ∙ o.ordered) in
    record {
      seen = o.seen;
      is = o.is;
      unfit = (λ i. unfit_name (joined_path path) (sym bad i) (metadata_len s))
          ∙ ap (λ (t : List ℕ). Some (bad_name t)) (sym c.in_ok-path_to.ensures);
    }

pub returns-then-metadata_len-gt-MAX_METADATA-clause-refused : goal.returns-then-metadata_len-gt-MAX_METADATA-clause-refused
returns-then-metadata_len-gt-MAX_METADATA-clause-refused g c =
    let held = g.F.Folder.holds c.args.folder.now in
    let path = c.args.path.now in
    let sort = c.in_ok-sort_by.ensures in
    let o = ordered_of g.F.Folder.tells held path c.into_vec-items.result.items
    c.sort_by.new.self.items
    (λ told. let l = c.in_ok-list.ensures.listed told in
    (l.0, l.1, c.into_vec-items.ensures ∙ l.2))
    (sort.sorted below below_orders (answers_always _ _ _ (λ f a r h q. search rules)))
    (sort.stable below below_orders (answers_always _ _ _ (λ f a r h q. search rules))) in
    let s : Items Facts = in_order o.seen in
    let fine : first_bad_item None s ≡ None =
    sym (c.in_default.ensures s (c.deref.ensures.value ∙ o.ordered)) in
    let len = c.metadata_len.ensures s (c.deref-2.ensures.value ∙ o.ordered) in
    record {
      seen = o.seen;
      is = o.is;
      unfit = (λ i. unfit_name (joined_path path) (fine i) (metadata_len s))
          ∙ ap (λ (t : Bool). cond t (Some too_long) None)
          (lt-ltb MAX_METADATA (metadata_len s)
          (omega (arith, len, c.if-metadata_len-gt-MAX_METADATA.true)));
    }

pub returns-clause-listed : goal.returns-clause-listed
returns-clause-listed g c =
    let held = g.F.Folder.holds c.args.folder.now in
    let path = c.args.path.now in
    let sort = c.in_ok-sort_by.ensures in
    let o = ordered_of g.F.Folder.tells held path c.into_vec-items.result.items
    c.sort_by.new.self.items
    (λ told. let l = c.in_ok-list.ensures.listed told in
    (l.0, l.1, c.into_vec-items.ensures ∙ l.2))
    (sort.sorted below below_orders (answers_always _ _ _ (λ f a r h q. search rules)))
    (sort.stable below below_orders (answers_always _ _ _ (λ f a r h q. search rules))) in
    let s : Items Facts = in_order o.seen in
    let fine : first_bad_item None s ≡ None =
    sym (c.in_default.ensures s (c.deref.ensures.value ∙ o.ordered)) in
    let len = c.metadata_len.ensures s (c.deref-2.ensures.value ∙ o.ordered) in
    record {
      seen = o.seen;
      is = o.is;
      ordered = o.ordered;
      fit = (λ i. unfit_name (joined_path path) (fine i) (metadata_len s))
          ∙ ap (λ (t : Bool). cond t (Some too_long) None)
          (le-ltb MAX_METADATA (metadata_len s)
          (omega (arith, len, c.if-metadata_len-gt-MAX_METADATA.false)));
    }
