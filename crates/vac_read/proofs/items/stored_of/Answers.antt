use Rattle.std.proofs.Common.{◌≡◌, ◌+◌, ◌*◌, ◌≤◌, ℕ, Ok, Err, refl, subst, arith}
use Rattle.vt_tree.specs.declared.entry.Entry.{Entry}
use Rattle.std.proofs.lemmas.Result.{err_from_is_err_and}
use Rattle.vac_model.specs.Trees.{HasEntry}
use Rattle.vac_read.specs.declared.node.Stored.TheVariants as stored
use Rattle.vac_read.proofs.Few.{few_as, few_then}
use Rattle.vac_read.proofs.Steps.{both_stored, lacks_file, lacks_first, lacks_second}
use Rattle.vac_read.specs.Asking.{leaf_blocks}
use Rattle.vac_read.proofs.items.stored_of.Goals as goal

pub returns-in_err-entry-in-File-clause-reads : goal.returns-in_err-entry-in-File-clause-reads
returns-in_err-entry-in-File-clause-reads g c =
    let p = err_from_is_err_and c.from_residual.result c.from_residual.ensures.1 in
    let stream = c.args.directory.now.stream in
    rw (p.1, p.2) (few_as g.B.Blocks.does g.B.Blocks.holds g.B.Scorer.score_of
    c.args.blocks.now c.entry.new.blocks (Err c.in_err-entry-in-File.field-0.0)
    (Err c.in_err-entry-in-File.field-0.0) _ _ _ _ refl c.in_err-entry-in-File.ensures.reads
    (λ map told keeps.
    let t = told keeps in (
      t.0,
      λ some. lacks_file map stream stream c.args.kind c.from-number.result c.args.number c.args.at
          c.from-number.ensures _ c.in-File.is (t.1 some),
    ))
    (λ map n told few. omega (arith, few)))

pub returns-in_ok-entry-in-File-clause-reads : goal.returns-in_ok-entry-in-File-clause-reads
returns-in_ok-entry-in-File-clause-reads g c =
    let e = c.in_ok-entry-in-File.field-0 in
    let stream = c.args.directory.now.stream in
    few_as g.B.Blocks.does g.B.Blocks.holds g.B.Scorer.score_of
    c.args.blocks.now c.entry.new.blocks (Ok e) (Ok (stored.File e)) _ _ _ _ refl
    c.in_ok-entry-in-File.ensures.reads
    (λ map told keeps.
    let t = told keeps in (
      t.0,
      (
        c.in-File.is,
        subst (λ (i : ℕ). HasEntry map stream i e) c.from-number.ensures t.1.0,
        t.1.1,
      ),
    ))
    (λ map n told few. omega (arith, few))

-- both leaves
both : (m n : ℕ) (old stream : Entry) → old ≡ stream → m ≤ leaf_blocks stream
    → n ≤ leaf_blocks old → m + n ≤ 2 * leaf_blocks stream
both m n old stream same few more =
    let one : n ≤ leaf_blocks stream = subst (λ (e : Entry). n ≤ leaf_blocks e) same more in
    omega (arith, few, one)

pub returns-in_err-entries-in-Folder-clause-reads : goal.returns-in_err-entries-in-Folder-clause-reads
returns-in_err-entries-in-Folder-clause-reads g c =
    let p = err_from_is_err_and c.from_residual-in_err-entries-in-Folder.result
    c.from_residual-in_err-entries-in-Folder.ensures.1 in
    let stream = c.args.directory.now.stream in
    rw (p.1, p.2) (few_as g.B.Blocks.does g.B.Blocks.holds g.B.Scorer.score_of
    c.args.blocks.now c.entry-in-Folder.new.blocks (Err c.in_err-entries-in-Folder.field-0.0)
    (Err c.in_err-entries-in-Folder.field-0.0) _ _ _ _ refl c.in_err-entries-in-Folder.ensures.reads
    (λ map told keeps.
    let t = told keeps in (
      t.0,
      λ some. lacks_first map stream stream c.args.kind c.from-number.result c.args.number
          c.args.at c.from-number.ensures _ c.in-Folder.is (t.1 some),
    ))
    (λ map n told few. omega (arith, few)))

pub returns-in_err-metadata-in-Folder-clause-reads : goal.returns-in_err-metadata-in-Folder-clause-reads
returns-in_err-metadata-in-Folder-clause-reads g c =
    let p = err_from_is_err_and c.from_residual-in_err-metadata-in-Folder.result
    c.from_residual-in_err-metadata-in-Folder.ensures.1 in
    rw (p.1, p.2) (few_then g.B.Blocks.does g.B.Blocks.holds g.B.Scorer.score_of
    c.args.blocks.now c.entry-in-Folder.new.blocks c.entry-in-Folder-2.new.blocks
    c.in_ok-entries-in-Folder.entries (Err c.in_err-metadata-in-Folder.field-0.0)
    (Err c.in_err-metadata-in-Folder.field-0.0) _ _ _ _ _ _ refl
    c.in_ok-entries-in-Folder.ensures.reads c.in_err-metadata-in-Folder.ensures.reads
    (λ map one two keeps.
    let first = one keeps in
    let second = two first.0 in (
      second.0,
      λ some. lacks_second map c.args.directory.now.stream c.entry-in-Folder.new.self.stream
          c.args.kind c.from-number.result c.args.number c.args.at c.from-number.ensures _
          c.in-Folder.is c.in_ok-entries-in-Folder.entries c.entry-in-Folder.ensures.stream
          first.1 (second.1 some),
    ))
    (λ map m n one two few more.
    both m n c.entry-in-Folder.new.self.stream c.args.directory.now.stream
    c.entry-in-Folder.ensures.stream few more))

pub returns-in_ok-metadata-in-Folder-clause-reads : goal.returns-in_ok-metadata-in-Folder-clause-reads
returns-in_ok-metadata-in-Folder-clause-reads g c =
    let e = c.in_ok-entries-in-Folder.entries in
    let m = c.in_ok-metadata-in-Folder.metadata in
    few_then g.B.Blocks.does g.B.Blocks.holds g.B.Scorer.score_of
    c.args.blocks.now c.entry-in-Folder.new.blocks c.entry-in-Folder-2.new.blocks e (Ok m)
    (Ok (stored.Folder e m)) _ _ _ _ _ _ refl c.in_ok-entries-in-Folder.ensures.reads
    c.in_ok-metadata-in-Folder.ensures.reads
    (λ map one two keeps.
    let first = one keeps in
    let second = two first.0 in (
      second.0,
      both_stored map c.args.directory.now.stream c.entry-in-Folder.new.self.stream c.args.kind
          c.from-number.result c.args.number e m c.from-number.ensures c.in-Folder.is
          c.entry-in-Folder.ensures.stream first.1 second.1,
    ))
    (λ map m n one two few more.
    both m n c.entry-in-Folder.new.self.stream c.args.directory.now.stream
    c.entry-in-Folder.ensures.stream few more)
