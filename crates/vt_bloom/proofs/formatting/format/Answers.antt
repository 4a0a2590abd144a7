use Rattle.std.proofs.Common.{◌≡◌, ◌∙◌, ◌≤◌, inl, inr, ℕ, List, length, refl, ap, sym, subst, arith}
use Rattle.vt_bloom.specs.declared.TheConstants.{LEAST_LEN}
use Rattle.vt_bloom.specs.Bits.{Filter}
use Rattle.vt_bloom.specs.Frame.{IsFilterFrame, empty_of, current_of}
use Rattle.vt_bloom.specs.Size.{filter_frame_len, IsFilterSize, IsLargest}
use Rattle.vt_bloom.proofs.Frames.{size_unique}
use Rattle.vt_bloom.proofs.Powers.{has_room, exponent_unique}
use Rattle.vt_bloom.proofs.formatting.format.Goals as goal

pub encoded-frame-requires : goal.encoded-frame-requires
encoded-frame-requires g c =
    omega (
      arith,
      ap length c.from_vec.ensures,
      c.in_ok-memory.memory.ok.0,
      c.in_ok-memory.ensures.len,
      c.filter_frame_len.ensures,
      ap (λ (f : Filter). filter_frame_len f.m) c.in_ok-bits.ensures.bits,
    )

pub format-requires : goal.format-requires
format-requires g c =
    rw (c.region.ensures, c.as_slice.ensures, c.encoded-frame.ensures.whole, c.in_ok-bits.ensures.bits)
    (has_room c.largest-m.result _ c.largest-m.ensures.least c.largest-m.ensures.most
    (rw c.len-len.ensures at c.largest-m.ensures.fits))

-- a call of the device failed

pub returns-clause-refused : goal.returns-clause-refused
returns-clause-refused g c =
    let len : ℕ = g.D.Disk.size c.args.disk.now in
    let largest : IsLargest len c.largest-m.result =
    subst (λ (n : ℕ). IsLargest n c.largest-m.result) c.len-len.ensures c.largest-m.ensures in
    let long : LEAST_LEN ≤ len = omega (arith, c.len-len.ensures) in
    inr (inr (
      (long, inl refl),
      λ m is. subst (λ (n : ℕ). IsFilterSize n c.args.size)
          (c.if-found-m.false ∙ size_unique len c.largest-m.result m largest is)
          c.in-Some.ensures.found,
    ))

pub returns-clause-writes : goal.returns-clause-writes
returns-clause-writes g c m is =
    rw (exponent_unique m c.in-Some.found c.args.size is c.in-Some.ensures.found, c.if-found-m.false)
    (rw c.region.ensures at c.format.ensures.writes)

pub returns-clause-failed : goal.returns-clause-failed
returns-clause-failed g c fault m is =
    let ends = c.in-Err.ensures.failed in
    rw (exponent_unique m c.in-Some.found c.args.size is c.in-Some.ensures.found, c.if-found-m.false)
    (ends.0, rw (c.region.ensures, c.as_slice.ensures, c.encoded-frame.ensures.written, c.in_ok-bits.ensures.bits) at ends.1)

-- each call succeeded

pub returns-in-Ok-clause-saved : goal.returns-in-Ok-clause-saved
returns-in-Ok-clause-saved g c told n is image left =
    let j : ℕ = c.largest-m.result in
    let at : image ≡ g.D.Disk.bytes c.format.new.disk = c.in-Ok.ensures.settled told image left in
    let size : length image ≡ g.D.Disk.size c.args.disk.now =
    (g.met.D.Disk.images_fit _ image left).0 ∙ c.format.ensures.writes.size in
    let current = rw (c.region.ensures, c.as_slice.ensures, c.encoded-frame.ensures.whole, c.in_ok-bits.ensures.bits)
    at (c.in-Ok.ensures.current told) in
    rw (exponent_unique n c.in-Some.found c.args.size is c.in-Some.ensures.found, c.if-found-m.false)
    (record {
      largest = subst (λ (e : ℕ). IsLargest e j) (c.len-len.ensures ∙ sym size) c.largest-m.ensures;
      frame = subst (λ (l : List ℕ). IsFilterFrame (empty_of j c.args.k) l)
          (sym (ap (λ (l : List ℕ). current_of j l) at ∙ current))
          (rw c.in_ok-bits.ensures.bits at c.encoded-frame.ensures.is);
    })

pub returns-in-Ok-clause-frame : goal.returns-in-Ok-clause-frame
returns-in-Ok-clause-frame g c told n is =
    rw (exponent_unique n c.in-Some.found c.args.size is c.in-Some.ensures.found, c.if-found-m.false)
    (rw (
      c.region.ensures,
      c.as_slice.ensures,
      c.encoded-frame.ensures.whole,
      c.encoded-frame.ensures.written,
      c.in_ok-bits.ensures.bits,
    ) at (c.in-Ok.ensures.frame told))

pub returns-in-Ok-clause-selector : goal.returns-in-Ok-clause-selector
returns-in-Ok-clause-selector g c told n is =
    rw (exponent_unique n c.in-Some.found c.args.size is c.in-Some.ensures.found, c.if-found-m.false)
    (rw (c.region.ensures, c.as_slice.ensures, c.encoded-frame.ensures.whole, c.in_ok-bits.ensures.bits)
    at (c.in-Ok.ensures.selector told))

pub returns-in-Ok-clause-idle : goal.returns-in-Ok-clause-idle
returns-in-Ok-clause-idle g c told n is =
    rw (exponent_unique n c.in-Some.found c.args.size is c.in-Some.ensures.found, c.if-found-m.false)
    (rw (c.region.ensures, c.as_slice.ensures, c.encoded-frame.ensures.whole, c.in_ok-bits.ensures.bits)
    at (c.in-Ok.ensures.idle told))

pub returns-in-Ok-clause-largest : goal.returns-in-Ok-clause-largest
returns-in-Ok-clause-largest g c n is =
    rw (exponent_unique n c.in-Some.found c.args.size is c.in-Some.ensures.found, c.if-found-m.false)
    (rw c.len-len.ensures at c.largest-m.ensures)

pub returns-in-Ok-clause-writes : goal.returns-in-Ok-clause-writes
returns-in-Ok-clause-writes g c n is =
    rw (exponent_unique n c.in-Some.found c.args.size is c.in-Some.ensures.found, c.if-found-m.false)
    (rw c.region.ensures at c.format.ensures.writes)
