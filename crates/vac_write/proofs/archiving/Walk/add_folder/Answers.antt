use Rattle.std.proofs.Common.{ℕ, ◌-◌, List, ◌++◌, take, refl, ◌∙◌, ap}
use Rattle.std.proofs.lemmas.Result.{on_ok_weaker}
use Rattle.vt_tree.specs.Entries.{tree_entry_bytes}
use Rattle.vac_write.proofs.archiving.Walk.add_folder.Goals as goal

pub returns-clause-added : goal.returns-clause-added
returns-clause-added c =
    let old = c.args.self.now in
    let e = c.args.inside.now in
    let record_is = c.in_ok-add_record.ensures in
    on_ok_weaker c.add_entry-2.result (λ written. record {
      entries = written ∙ ap (λ (l : List ℕ). l ++ tree_entry_bytes e.metadata)
          (c.in_ok-add_entry.ensures.written
          ∙ ap (λ (l : List ℕ). l ++ tree_entry_bytes e.entries) record_is.entries);
      metadata = c.add_entry-2.ensures.metadata ∙ c.in_ok-add_entry.ensures.metadata
          ∙ record_is.written;
      time = record_is.time;
      qid = refl;
      path = c.pop.ensures.rest ∙ ap (λ (n : ℕ). take (n - 1) old.path.items) old.path.ok.0;
      bsize = refl;
      skipped = refl;
      failed = refl;
    }) c.add_entry-2.ensures.written
