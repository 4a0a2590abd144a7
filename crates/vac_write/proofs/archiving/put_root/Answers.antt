use Rattle.std.proofs.Common.{◌≡◌, ◌+◌, ℕ, List, [], ◌∷◌, ◌++◌, length, take, sym, ◌∙◌, ap, subst, arith}
use Rattle.std.specs.Prelude.{codes}
use Rattle.std.proofs.lemmas.List.{take_all}
use Rattle.std.proofs.lemmas.Result.{err_from_is_err_and}
use Rattle.vt_base.specs.Filled.{filled}
use Rattle.vt_model.specs.History.{Block}
use Rattle.vt_tree.specs.declared.error.TreeErr.TheVariants as trees
use Rattle.vt_tree.specs.Entries.{tree_entry_bytes}
use Rattle.vt_tree.specs.Roots.{root_bytes}
use Rattle.vac_model.specs.Archives.{root_of}
use Rattle.vac_model.proofs.Stands.{entry_len}
use Rattle.vac_write.specs.declared.error.VacErr.TheVariants.{Tree}
use Rattle.vac_write.specs.Puts.{PutsBlocks, GivesUpBlocks}
use Rattle.vac_write.specs.Walking.{top_of}
use Rattle.vac_write.proofs.Puts.{gives_front, gives_later, puts_join, put_refused, put_taken}
use Rattle.vac_write.proofs.archiving.put_root.Goals as goal

-- two fields of 40 bytes that fill a buffer
both_fields : (first second one two half whole : List ℕ) (at : ℕ) → first ≡ one → second ≡ two
    → length one ≡ 40 → length two ≡ 40 → length whole ≡ 80
    → take (0 + length first) half ≡ first → at ≡ 0 + length first
    → take (at + length second) whole ≡ take at half ++ second → whole ≡ one ++ two
both_fields first second one two half whole at is_one is_two len_one len_two len wrote at_is
    then =
    sym (take_all (at + length second) whole
    (omega (arith, ap length is_one, ap length is_two))) ∙ then
    ∙ ap (λ (l : List ℕ). l ++ second) (ap (λ (n : ℕ). take n half) at_is ∙ wrote)
    ∙ (λ i. is_one i ++ is_two i)

-- the root that names these bytes
root_put : (score_of : List ℕ → List ℕ) (bsize : ℕ) (name kind s prev bytes top root : List ℕ)
    → root ≡ root_bytes (record {
      name = name;
      kind = kind;
      score = record { 0 = s };
      block_size = bsize;
      prev = record { 0 = prev };
    })
    → name ≡ filled 128 (codes "vac") → kind ≡ filled 128 (codes "rvac") → s ≡ score_of bytes
    → bytes ≡ top → prev ≡ score_of [] → root ≡ root_bytes (root_of score_of bsize top)
root_put score_of bsize name kind s prev bytes top root spelled name_is kind_is s_is bytes_are
    prev_is =
    spelled ∙ (λ i. root_bytes (record {
      name = name_is i;
      kind = kind_is i;
      score = record { 0 = (s_is ∙ ap score_of bytes_are) i };
      block_size = bsize;
      prev = record { 0 = prev_is i };
    }))

abbrev one_block : (kind : ℕ) → List ℕ → List Block
one_block kind bytes = (record { kind = kind; bytes = bytes }) ∷ []

pub returns-in_err-score-clause-refused : goal.returns-in_err-score-clause-refused
returns-in_err-score-clause-refused g c =
    let top = c.args.top.now in
    let whole : c.put.new.buf ≡ top_of top =
    both_fields c.encode.result c.encode-2.result (tree_entry_bytes top.entries)
    (tree_entry_bytes top.metadata) c.put-at.new.buf c.put.new.buf c.put-at.result
    c.encode.ensures.bytes c.encode-2.ensures.bytes (entry_len top.entries c.requires.entries)
    (entry_len top.metadata c.requires.metadata) (c.put.auto.buf ∙ c.put-at.auto.buf)
    c.put-at.ensures.written c.put-at.ensures.end c.put.ensures.written in
    let root : List ℕ = root_bytes (root_of g.B.Scorer.score_of c.args.bsize (top_of top)) in
    let e = c.in_err-score.field-0.0 in
    let gave = subst (λ (l : List ℕ). GivesUpBlocks g.B.Blocks.does c.args.blocks.now
    c.put-2.new.self (one_block 2 l) (Tree (trees.Block e))) whole
    (put_refused g.B.Blocks.does c.args.blocks.now c.put-2.new.self
    (record { kind = 2; bytes = c.put.new.buf }) e c.in_err-score.ensures.done) in
    let p = err_from_is_err_and c.from_residual.result c.from_residual.ensures.1 in
    rw (p.1, p.2) (gives_front g.B.Blocks.does c.args.blocks.now c.put-2.new.self
    (one_block 2 (top_of top)) (one_block 1 root) (Tree (trees.Block e)) gave)

pub returns-in_err-put-clause-refused : goal.returns-in_err-put-clause-refused
returns-in_err-put-clause-refused g c =
    let score_of = g.B.Scorer.score_of in
    let top = c.args.top.now in
    let whole : c.put.new.buf ≡ top_of top =
    both_fields c.encode.result c.encode-2.result (tree_entry_bytes top.entries)
    (tree_entry_bytes top.metadata) c.put-at.new.buf c.put.new.buf c.put-at.result
    c.encode.ensures.bytes c.encode-2.ensures.bytes (entry_len top.entries c.requires.entries)
    (entry_len top.metadata c.requires.metadata) (c.put.auto.buf ∙ c.put-at.auto.buf)
    c.put-at.ensures.written c.put-at.ensures.end c.put.ensures.written in
    let root : List ℕ = root_bytes (root_of score_of c.args.bsize (top_of top)) in
    let root_is : c.encode-3.result ≡ root =
    root_put score_of c.args.bsize c.filled.result c.filled-2.result c.in_ok-score.score.0
    c.score.result.0 c.put.new.buf (top_of top) c.encode-3.result c.encode-3.ensures
    c.filled.ensures.bytes c.filled-2.ensures.bytes c.in_ok-score.ensures.scored whole
    c.score.ensures in
    let first = subst (λ (l : List ℕ). PutsBlocks g.B.Blocks.does c.args.blocks.now
    c.put-2.new.self (one_block 2 l)) whole
    (put_taken g.B.Blocks.does c.args.blocks.now c.put-2.new.self
    (record { kind = 2; bytes = c.put.new.buf }) c.in_ok-score.score
    c.in_ok-score.ensures.done) in
    let e = c.in_err-put.field-0.0 in
    let gave = subst (λ (l : List ℕ). GivesUpBlocks g.B.Blocks.does c.put-2.new.self
    c.put-3.new.self (one_block 1 l) (Tree (trees.Block e))) root_is
    (put_refused g.B.Blocks.does c.put-2.new.self c.put-3.new.self
    (record { kind = 1; bytes = c.encode-3.result }) e c.in_err-put.ensures.done) in
    let p = err_from_is_err_and c.from_residual-in_err-put.result
    c.from_residual-in_err-put.ensures.1 in
    rw (p.1, p.2) (gives_later g.B.Blocks.does c.args.blocks.now c.put-2.new.self c.put-3.new.self
    (one_block 2 (top_of top)) (one_block 1 root) (Tree (trees.Block e)) first gave)

pub returns-clause-put : goal.returns-clause-put
returns-clause-put g c =
    let score_of = g.B.Scorer.score_of in
    let top = c.args.top.now in
    let whole : c.put.new.buf ≡ top_of top =
    both_fields c.encode.result c.encode-2.result (tree_entry_bytes top.entries)
    (tree_entry_bytes top.metadata) c.put-at.new.buf c.put.new.buf c.put-at.result
    c.encode.ensures.bytes c.encode-2.ensures.bytes (entry_len top.entries c.requires.entries)
    (entry_len top.metadata c.requires.metadata) (c.put.auto.buf ∙ c.put-at.auto.buf)
    c.put-at.ensures.written c.put-at.ensures.end c.put.ensures.written in
    let root : List ℕ = root_bytes (root_of score_of c.args.bsize (top_of top)) in
    let root_is : c.encode-3.result ≡ root =
    root_put score_of c.args.bsize c.filled.result c.filled-2.result c.in_ok-score.score.0
    c.score.result.0 c.put.new.buf (top_of top) c.encode-3.result c.encode-3.ensures
    c.filled.ensures.bytes c.filled-2.ensures.bytes c.in_ok-score.ensures.scored whole
    c.score.ensures in
    let first = subst (λ (l : List ℕ). PutsBlocks g.B.Blocks.does c.args.blocks.now
    c.put-2.new.self (one_block 2 l)) whole
    (put_taken g.B.Blocks.does c.args.blocks.now c.put-2.new.self
    (record { kind = 2; bytes = c.put.new.buf }) c.in_ok-score.score
    c.in_ok-score.ensures.done) in
    let second = subst (λ (l : List ℕ). PutsBlocks g.B.Blocks.does c.put-2.new.self
    c.put-3.new.self (one_block 1 l)) root_is
    (put_taken g.B.Blocks.does c.put-2.new.self c.put-3.new.self
    (record { kind = 1; bytes = c.encode-3.result }) c.in_ok-put.field-0
    c.in_ok-put.ensures.done) in
    puts_join g.B.Blocks.does c.args.blocks.now c.put-2.new.self c.put-3.new.self
    (one_block 2 (top_of top)) (one_block 1 root) first second

pub returns-clause-scored : goal.returns-clause-scored
returns-clause-scored g c =
    let score_of = g.B.Scorer.score_of in
    let top = c.args.top.now in
    let whole : c.put.new.buf ≡ top_of top =
    both_fields c.encode.result c.encode-2.result (tree_entry_bytes top.entries)
    (tree_entry_bytes top.metadata) c.put-at.new.buf c.put.new.buf c.put-at.result
    c.encode.ensures.bytes c.encode-2.ensures.bytes (entry_len top.entries c.requires.entries)
    (entry_len top.metadata c.requires.metadata) (c.put.auto.buf ∙ c.put-at.auto.buf)
    c.put-at.ensures.written c.put-at.ensures.end c.put.ensures.written in
    let root : List ℕ = root_bytes (root_of score_of c.args.bsize (top_of top)) in
    let root_is : c.encode-3.result ≡ root =
    root_put score_of c.args.bsize c.filled.result c.filled-2.result c.in_ok-score.score.0
    c.score.result.0 c.put.new.buf (top_of top) c.encode-3.result c.encode-3.ensures
    c.filled.ensures.bytes c.filled-2.ensures.bytes c.in_ok-score.ensures.scored whole
    c.score.ensures in
    c.in_ok-put.ensures.scored ∙ ap score_of root_is
