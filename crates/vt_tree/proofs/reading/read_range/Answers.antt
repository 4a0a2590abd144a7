use Rattle.std.proofs.Common.{◌≡◌, ◌-◌, min, Ok, refl, arith}
use Rattle.std.proofs.lemmas.Result.{err_from_is_err_and}
use Rattle.vt_tree.specs.declared.error.TreeErr.TheVariants as errs
use Rattle.vt_tree.specs.Content.{size_of}
use Rattle.vt_tree.proofs.Ranges.{unread, range_read, range_given_up, content_told}
use Rattle.vt_tree.proofs.reading.read_range.Goals as goal

pub returns-in-Some-clause-reads : goal.returns-in-Some-clause-reads
returns-in-Some-clause-reads g c =
    unread g.B.Blocks.does g.B.Scorer.score_of c.args.blocks.now c.args.entry.now c.args.at _
    (errs.BadEntry c.in-Some.bad) refl tt (λ byte. tt)

pub returns-then-size-gt-MAX_FILE-clause-reads : goal.returns-then-size-gt-MAX_FILE-clause-reads
returns-then-size-gt-MAX_FILE-clause-reads g c =
    unread g.B.Blocks.does g.B.Scorer.score_of c.args.blocks.now c.args.entry.now c.args.at _
    errs.TooLong refl tt (λ byte. tt)

pub returns-in_err-out-clause-reads : goal.returns-in_err-out-clause-reads
returns-in_err-out-clause-reads g c =
    let p = err_from_is_err_and c.from_residual.result c.from_residual.ensures.1 in
    rw (p.1, p.2) (unread g.B.Blocks.does g.B.Scorer.score_of c.args.blocks.now c.args.entry.now
    c.args.at (min c.args.n (size_of c.args.entry.now - c.args.at)) errs.NoMemory refl tt
    (λ byte. tt))

pub returns-in_err-append_file-clause-reads : goal.returns-in_err-append_file-clause-reads
returns-in_err-append_file-clause-reads g c =
    let size = c.size_of-size.ensures in
    let left = c.saturating_sub.ensures in
    let n = c.from.ensures in
    let least = c.min-len.ensures in
    let len : c.min-len.result ≡ min c.args.n (size_of c.args.entry.now - c.args.at) =
    omega arith in
    let p = err_from_is_err_and c.from_residual-in_err-append_file.result
    c.from_residual-in_err-append_file.ensures.1 in
    rw (p.1, p.2) (range_given_up g.B.Blocks.does g.B.Scorer.score_of c.args.blocks.now
    c.append_file.new.blocks c.args.entry.now c.args.at c.min-len.result
    (min c.args.n (size_of c.args.entry.now - c.args.at)) _ c.append_file.new.out.items
    c.in_err-append_file.field-0.0 len c.in_err-append_file.ensures)

pub returns-in_err-append_file-clause-content : goal.returns-in_err-append_file-clause-content
returns-in_err-append_file-clause-content g c =
    content_told g.B.Blocks.does g.B.Scorer.score_of g.B.Blocks.holds g.met.B.Blocks.tells
    g.met.B.Blocks.write_once c.args.blocks.now c.append_file.new.blocks c.args.entry.now c.args.at
    (min c.args.n (size_of c.args.entry.now - c.args.at))
    c.from_residual-in_err-append_file.result (returns-in_err-append_file-clause-reads g c)

pub returns-clause-reads : goal.returns-clause-reads
returns-clause-reads g c =
    let size = c.size_of-size.ensures in
    let left = c.saturating_sub.ensures in
    let n = c.from.ensures in
    let least = c.min-len.ensures in
    let len : c.min-len.result ≡ min c.args.n (size_of c.args.entry.now - c.args.at) =
    omega arith in
    range_read g.B.Blocks.does g.B.Scorer.score_of c.args.blocks.now c.append_file.new.blocks
    c.args.entry.now c.args.at c.min-len.result
    (min c.args.n (size_of c.args.entry.now - c.args.at)) c.in_ok-out.out.items
    c.append_file.new.out.items c.from_vec.result c.in_ok-out.ensures.items len c.from_vec.ensures
    c.in_ok-append_file.ensures

pub returns-clause-content : goal.returns-clause-content
returns-clause-content g c =
    content_told g.B.Blocks.does g.B.Scorer.score_of g.B.Blocks.holds g.met.B.Blocks.tells
    g.met.B.Blocks.write_once c.args.blocks.now c.append_file.new.blocks c.args.entry.now c.args.at
    (min c.args.n (size_of c.args.entry.now - c.args.at)) (Ok c.from_vec.result)
    (returns-clause-reads g c)
