-- a full buffer is one byte more than a block
use Rattle.std.proofs.Common.{◌≡◌, ℕ, ◌+◌, ◌≤◌, ◌<◌, List, ◌++◌, length, take, refl, sym, ◌∙◌, ap, subst, arith, append-nil}
use Rattle.std.proofs.lemmas.List.{length-take-le, take-append-le, take_all}
use Rattle.vt_base.specs.declared.TheConstants.{MAX_BLOCK}
use Rattle.run_sessions.proofs.commands.write.take_block.Goals as goal

pub returns-in_default-fill-clause-none : goal.returns-in_default-fill-clause-none
returns-in_default-fill-clause-none g c = (
  λ told.
      let it = c.in_default-fill.ensures.stopped told in (
        it.0,
        omega (arith, it.1, c.deref_mut.ensures.len, c.in-Ok.ensures.len),
        it.2,
      ),
  c.in_default-fill.ensures.cause,
)

pub returns-then-len-gt-MAX_BLOCK-clause-none : goal.returns-then-len-gt-MAX_BLOCK-clause-none
returns-then-len-gt-MAX_BLOCK-clause-none g c =
    let fill = c.in-Ok-fill.ensures in (
      refl,
      λ told. (
        take c.in-Ok-fill.len c.fill.new.buf,
        omega (
          arith,
          length-take-le c.in-Ok-fill.len c.fill.new.buf fill.within,
          fill.within,
          c.fill.auto.buf,
          c.deref_mut.ensures.len,
          c.in-Ok.ensures.len,
          c.if-len-gt-MAX_BLOCK.true,
        ),
        fill.taken told,
      ),
      fill.cause,
    )

-- the front of what a buffer holds
front : (len n : ℕ) (xs ys : List ℕ) → n ≡ length xs → take len (take n (xs ++ ys)) ≡ take len xs
front len n xs ys is = ap (take len)
    (take-append-le n xs ys (omega (arith, is)) ∙ take_all n xs (omega (arith, is)))

pub returns-clause-taken : goal.returns-clause-taken
returns-clause-taken g c =
    let fill = c.in-Ok-fill.ensures in
    let len : ℕ = c.in-Ok-fill.len in
    let buf : List ℕ = c.fill.new.buf in
    let many : length buf ≡ MAX_BLOCK + 1 =
    omega (arith, c.fill.auto.buf, c.deref_mut.ensures.len, c.in-Ok.ensures.len) in
    let few : len < length buf = omega (arith, many, c.if-len-gt-MAX_BLOCK.false) in
    let same : c.from_vec.result ≡ take len buf =
    c.from_vec.ensures ∙ c.truncate.ensures.items
    ∙ front len _ buf _ (omega (arith, many, c.in-Ok.ensures.len)) in
    record {
      short = subst (λ (b : List ℕ). length b ≤ MAX_BLOCK) (sym same)
          (omega (arith, length-take-le len buf fill.within, c.if-len-gt-MAX_BLOCK.false));
      all = λ told. (
        fill.taken told ∙ ap (λ (l : List ℕ). take len buf ++ l) (fill.end told few)
            ∙ append-nil (take len buf) ∙ sym same,
        fill.end told few,
      );
      quiet = fill.cause;
    }
