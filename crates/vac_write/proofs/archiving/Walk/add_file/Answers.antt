use Rattle.std.proofs.Common.{ℕ, ◌-◌, ◌/◌, List, ◌++◌, length, take, ◌∙◌, ap, arith}
use Rattle.std.proofs.lemmas.Result.{on_ok_weaker}
use Rattle.vt_tree.specs.Entries.{tree_entry_bytes}
use Rattle.vac_meta.specs.declared.record.RecordKind.TheVariants.{File}
use Rattle.vac_meta.specs.Records.{record_bytes}
use Rattle.vac_write.specs.Walking.{record_for}
use Rattle.vac_write.proofs.archiving.Walk.add_file.Goals as goal

pub returns-clause-added : goal.returns-clause-added
returns-clause-added c =
    let old = c.args.self.now in
    let from = c.args.streams.now in
    let record_is = c.in_ok-add_record.ensures in
    on_ok_weaker c.add_entry.result (λ written. record {
      entries = written
          ∙ ap (λ (l : List ℕ). l ++ tree_entry_bytes c.args.entry.now) record_is.entries;
      metadata = c.add_entry.ensures.metadata ∙ record_is.written
          ∙ ap (λ (q : ℕ). from.metadata.items ++ record_bytes
          (record_for c.args.item File (length from.entries.items / 40) q))
          c.in_ok-qid.ensures.qid.0;
      time = record_is.time;
      qid = omega (arith, c.in_ok-qid.ensures.qid.0, c.in_ok-qid.ensures.qid.1);
      path = c.number.ensures.path ∙ c.pop.ensures.rest
          ∙ ap (λ (n : ℕ). take (n - 1) old.path.items) old.path.ok.0;
      bsize = c.number.ensures.bsize;
      skipped = c.number.ensures.skipped;
      failed = c.number.ensures.failed;
    }) c.add_entry.ensures.written
