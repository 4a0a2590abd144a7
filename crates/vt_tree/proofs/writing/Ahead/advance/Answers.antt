use Rattle.std.proofs.Common.{◌≡◌, ◌<◌, ◌^◌, ℕ, List, take, refl, subst, arith}
use Rattle.std.proofs.lemmas.List.{length-take-le}
use Rattle.std.proofs.lemmas.Result.{err_from_is_err_and}
use Rattle.vt_tree.specs.declared.error.TreeErr.{TreeErr}
use Rattle.vt_tree.specs.declared.error.TreeErr.TheVariants as errs
use Rattle.vt_tree.specs.Growing.{StopsAhead, next_of}
use Rattle.vt_tree.specs.Writing.{IsAll}
use Rattle.vt_tree.proofs.Growth.{with_rest}
use Rattle.vt_tree.proofs.writing.Ahead.advance.Goals as goal

pub returns-in_err-self-clause-err : goal.returns-in_err-self-clause-err
returns-in_err-self-clause-err g c =
    let old = c.args.self.now in
    let left = g.R.Source.left c.args.source.now in
    let fault = c.in_err-self.ensures.fault in
    let all = with_rest g.R.Source.tells left (g.R.Source.left c.fill.new.source) fault.1.0
    (g.met.R.Source.left_bytes c.fill.new.source) fault.1.1 in
    let p = err_from_is_err_and c.from_residual.result c.from_residual.ensures.1 in
    rw (p.1, p.2, fault.0) (record {
      going = c.if-self.false;
      own = refl;
      bytes = all.0;
      is_coming = all.1;
      cause = tt;
    })

pub returns-then-self-gt-MAX_FILE-clause-err : goal.returns-then-self-gt-MAX_FILE-clause-err
returns-then-self-gt-MAX_FILE-clause-err g c =
    let left = g.R.Source.left c.args.source.now in
    let all = with_rest g.R.Source.tells left (g.R.Source.left c.fill.new.source)
    (take c.in_ok-self.field-0 c.fill.new.buf)
    (g.met.R.Source.left_bytes c.fill.new.source) c.in_ok-self.ensures.taken in
    record {
      going = c.if-self.false;
      own = refl;
      bytes = all.0;
      is_coming = all.1;
      cause = omega (
        arith,
        all.2,
        length-take-le c.in_ok-self.field-0 c.fill.new.buf c.in_ok-self.ensures.within,
        c.if-self-gt-MAX_FILE.true,
      );
    }
