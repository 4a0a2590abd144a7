use Rattle.std.proofs.Common.{◌≡◌, ◌<◌, ◌==◌, ◌∙◌, true, false, ap, sym, subst, List, [], ◌∷◌, ◌++◌, None, length, refl, arith, ℕ}
use Rattle.std.specs.List.{AllByRecursion}
use Rattle.std.proofs.lemmas.Bool.{eqb-true, eqb-false}
use Rattle.std.proofs.lemmas.Result.{err_from_is_err_and}
use Rattle.vac_meta.specs.declared.error.MetaErr.TheVariants.{Bad}
use Rattle.vac_meta.specs.declared.record.Record.{Record}
use Rattle.vac_meta.specs.Found.{found_record}
use Rattle.vac_meta.specs.Records.{IsRecord, Ascend, last_name, is_next, all_spelled}
use Rattle.vac_meta.proofs.Spelled.{each-append, ascend-append, last_name-append, further}
use Rattle.vac_meta.proofs.Refused.{read_whole, refused_here, not_refused, one_list}
use Rattle.vac_meta.proofs.decoding.decode.Goals as goal

some : (xs : List ℕ) → (length xs == 0) ≡ false → 0 < length xs
some [] e = absurd (eqb-false 0 0 e refl)
some (x ∷ xs) e = omega arith

pub returns-in_err-found-clause-only : goal.returns-in_err-found-clause-only
returns-in_err-found-clause-only c =
    λ records spells.
    let inv = c.loop-last.invariant in
    absurd (not_refused records c.args.bytes.now c.in_err-found.field-0.0 spells
    (refused_here c.args.bytes.now c.loop-last.rest.now c.loop-last.records.items _ _ inv.each
    inv.ascending inv.last inv.read
    (some c.loop-last.rest.now (sym c.is_empty.ensures ∙ c.loop-last-test.true))
    c.in_err-found.ensures.flaw))

pub returns-in_err-found-clause-refused : goal.returns-in_err-found-clause-refused
returns-in_err-found-clause-refused c =
    λ at why is.
    let p = err_from_is_err_and c.from_residual.result c.from_residual.ensures.1 in
    let same : c.in_err-found.field-0.0 ≡ Bad at why = cc in
    let inv = c.loop-last.invariant in
    rw (← same) (refused_here c.args.bytes.now c.loop-last.rest.now c.loop-last.records.items _ _
    inv.each inv.ascending inv.last inv.read
    (some c.loop-last.rest.now (sym c.is_empty.ensures ∙ c.loop-last-test.true))
    c.in_err-found.ensures.flaw)

pub loop-last-preserved : goal.loop-last-preserved
loop-last-preserved c =
    let inv = c.loop-last.invariant in
    let xs : List Record = c.loop-last.records.items in
    let r : Record = found_record c.in_ok-found.found in
    let found = c.in_ok-found.ensures in
    let more : c.push.new.self.items ≡ xs ++ r ∷ [] =
    c.in_ok-push.ensures.items ∙ ap (λ (x : Record). xs ++ x ∷ []) c.in_ok-kept.ensures in
    let next : is_next (last_name None xs) r.name ≡ true =
    rw (← inv.last) found.next in
    record {
      each = subst (AllByRecursion IsRecord) (sym more) (each-append xs r inv.each found.allowed);
      ascending = subst (Ascend None) (sym more) (ascend-append None xs r inv.ascending next);
      last = sym (ap (last_name None) more ∙ last_name-append None xs r);
      read = further c.args.bytes.now xs r c.loop-last.rest.now c.in_ok-found.behind.now inv.read
          found.whole
          ∙ ap (λ (l : List Record). all_spelled l ++ c.in_ok-found.behind.now) (sym more);
    }

pub returns-clause-only : goal.returns-clause-only
returns-clause-only c =
    λ records spells.
    let inv = c.loop-last.invariant in
    c.from_vec.ensures
    ∙ one_list c.loop-last.records.items records c.args.bytes.now
    (read_whole c.args.bytes.now c.loop-last.rest.now c.loop-last.records.items inv.each
    inv.ascending inv.read
    (eqb-true _ 0 (sym c.is_empty.ensures ∙ c.loop-last-test.false))) spells
