-- what was taken stands behind what was taken before
use Rattle.std.proofs.Common.{◌≡◌, ℕ, ◌+◌, ◌-◌, ◌≤◌, Result, Ok, Err, List, ◌++◌, length, take, sym, ◌∙◌, ap, arith, append_assoc, length-append}
use Rattle.std.specs.Prelude.{OnErr}
use Rattle.std.proofs.Math.Seq.{take-append-add}
use Rattle.std.proofs.lemmas.List.{length-take-le, take-append-le}
use borrow.Rule.Slice.PartMut.{post_of}
use Rattle.run_sessions.proofs.commands.write.fill.Goals as goal

-- the front of a buffer, and what was moved behind it
taken_behind : (n more : ℕ) (buf part behind : List ℕ) → n ≤ length buf → more ≤ length part
    → take (n + more) (take n buf ++ (part ++ behind)) ≡ take n buf ++ take more part
taken_behind n more buf part behind within few =
    ap (λ (k : ℕ). take (k + more) (take n buf ++ (part ++ behind)))
    (sym (length-take-le n buf within))
    ∙ take-append-add (take n buf) (part ++ behind) more
    ∙ ap (λ (l : List ℕ). take n buf ++ l) (take-append-le more part behind few)

pub loop-len-preserved : goal.loop-len-preserved
loop-len-preserved g c =
    let so = c.loop-len.invariant in
    let len : ℕ = c.loop-len.len in
    let n : ℕ = c.in_ok-n.n in
    let buf : List ℕ = c.loop-len.buf in
    let part : List ℕ = c.take.new.buf in
    let behind : List ℕ = post_of len (length buf - len) buf in
    let few : n ≤ length part = omega (arith, c.in_ok-n.ensures.fits, c.take.auto.buf) in
    record {
      within = omega (
        arith,
        length-append (take len buf) (part ++ behind),
        length-append part behind,
        length-take-le len buf so.within,
        few,
      );
      taken = λ told.
          so.taken told
          ∙ ap (λ (l : List ℕ). take len buf ++ l) (c.in_ok-n.ensures.moved told)
          ∙ sym (append_assoc (take len buf) (take n part) (g.R.Source.left c.take.new.self))
          ∙ ap (λ (l : List ℕ). l ++ g.R.Source.left c.take.new.self)
          (sym (taken_behind len n buf part behind so.within few));
      quiet = c.in_ok-n.ensures.cause ∙ so.quiet;
    }

on_err : {T E : Type 0} (result : Result T E) (P : Type 0) → P → OnErr result P
on_err (Ok value) P p = tt
on_err (Err bad) P p = p

pub returns-in_err-n-clause-stopped : goal.returns-in_err-n-clause-stopped
returns-in_err-n-clause-stopped g c =
    let so = c.loop-len.invariant in
    let len : ℕ = c.loop-len.len in
    let buf : List ℕ = c.loop-len.buf in
    on_err c.from_residual.result _ (λ told. (
      take len buf,
      omega (
        arith,
        length-take-le len buf so.within,
        c.loop-len-test.true,
        c.loop-len.auto.buf,
      ),
      so.taken told ∙ ap (λ (l : List ℕ). take len buf ++ l) (sym (c.in_err-n.ensures.kept told)),
    ))
