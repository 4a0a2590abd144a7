use Rattle.std.proofs.Common.{◌≡◌, ◌++◌, ◌*◌, ◌∙◌, ℕ, List, ap, sym, subst, length, arith}
use Rattle.std.specs.List.{flat_map}
use Rattle.byteorder.specs.Endian.{big_bytes}
use Rattle.vt_bloom.specs.Frame.{IsFilterFrame}
use Rattle.vt_bloom.specs.Size.{filter_size}
use Rattle.vt_bloom.proofs.Frames.{writes_frames}
use Rattle.vt_bloom.proofs.Powers.{bytes_fill}
use Rattle.vt_bloom.proofs.frame.encode.Goals as goal

pub write_words-requires : goal.write_words-requires
write_words-requires c =
    let whole = rw (← c.bits.view_is) at c.requires in
    let count : length c.deref.result.now ≡ length c.bits.inside.words.items = ap length
    c.deref.ensures.value in
    let fill : 8 * length c.bits.inside.words.items ≡ filter_size c.bits.inside.m =
    bytes_fill c.bits.inside.m (length c.bits.inside.words.items) (omega arith)
    c.bits.invariant.whole in
    omega (arith, whole, count, fill, c.split_at_mut-head.ensures.back_len)

pub returns-clause-written : goal.returns-clause-written
returns-clause-written c =
    let words = c.write_words.ensures.written ∙ ap (λ (l : List ℕ). flat_map (big_bytes 8) l)
    c.deref.ensures.value in
    rw (← c.bits.view_is) (λ i. c.encode_head.ensures i ++ words i)

pub returns-clause-is : goal.returns-clause-is
returns-clause-is c =
    subst (λ l. IsFilterFrame (record { filter = c.args.bits.now; mark = c.args.mark }) l) (sym
    (returns-clause-written c))
    (writes_frames (record { filter = c.args.bits.now; mark = c.args.mark })
    (rw (← c.bits.view_is) c.bits.invariant) (omega arith) (rw (← c.bits.view_is) (rw
    c.deref.ensures.value at c.write_words.ensures.fit)))
