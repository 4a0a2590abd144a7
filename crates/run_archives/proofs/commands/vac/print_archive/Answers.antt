-- the digits of the score, and what couldn't be read
use Rattle.std.proofs.Common.{inl, List, [], ◌∷◌, ◌++◌, ℕ, Err, codes, length, sym, ◌∙◌, ap, subst}
use Rattle.std.specs.Prelude.{◌==◌}
use Rattle.std.proofs.lemmas.Result.{err_from_is_err_and}
use Rattle.run_base.specs.Change.{sink_change}
use Rattle.run_base.specs.Formatting.{Prints}
use Rattle.run_archives.proofs.ArchivePrinted.{all_read, some_unread, unprinted}
use Rattle.run_archives.proofs.commands.vac.print_archive.Goals as goal

pub returns-in_err-print : goal.returns-in_err-print
returns-in_err-print g c =
    let p = err_from_is_err_and c.from_residual.result c.from_residual.ensures.1 in
    let sink = sink_change g.K.Sink c.args.sink.now c.print.new.sink in
    rw (p.1, p.2) (unprinted c.args.archived.now c.in_err-print.field-0.0 sink
    (subst (λ (digits : List ℕ). Prints (codes "vac:" ++ (digits ++ 10 ∷ []))
    (Err c.in_err-print.field-0.0) sink) c.hexadecimal-score.ensures c.in_err-print.ensures))

pub returns-then-is_empty : goal.returns-then-is_empty
returns-then-is_empty g c = inl (
  rw c.hexadecimal-score.ensures at c.in_ok-print.ensures,
  all_read c.args.archived.now.failed (ap (λ (l : List (List ℕ)). length l == 0)
      (sym c.as_slice.ensures) ∙ sym c.is_empty.ensures ∙ c.if-is_empty.true),
)

pub returns-else-is_empty : goal.returns-else-is_empty
returns-else-is_empty g c = inl (
  rw c.hexadecimal-score.ensures at c.in_ok-print.ensures,
  some_unread c.args.archived.now.failed (ap (λ (l : List (List ℕ)). length l == 0)
      (sym c.as_slice.ensures) ∙ sym c.is_empty.ensures ∙ c.if-is_empty.false),
)
