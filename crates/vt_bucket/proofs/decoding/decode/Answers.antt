use Rattle.std.proofs.Common.{◌≡◌, ◌∙◌, ℕ, length, take, ap, sym, arith, length-take}
use Rattle.vt_bucket.specs.declared.decoding.BucketBad.TheVariants.{Order}
use Rattle.vt_bucket.specs.Frame.{bucket_header}
use Rattle.vt_bucket.proofs.Frames.{head_read, one_frame, accepted}
use Rattle.vt_bucket.proofs.decoding.decode.Goals as goal

pub returns-in_err-count-clause-all_are_read : goal.returns-in_err-count-clause-all_are_read
returns-in_err-count-clause-all_are_read c entries frame =
    absurd (accepted c.in_err-count.field-0.0 c.args.number entries c.args.frame.now frame c.in_err-count.ensures.refused)

pub returns-in-Ok-clause-found : goal.returns-in-Ok-clause-found
returns-in-Ok-clause-found c =
    let head = c.in_ok-count.ensures in
    let count : ℕ = c.in_ok-count.count in
    let long : length (take count c.decode_entries.new.table) ≡ count = omega (arith, length-take count c.decode_entries.new.table, head.count.1) in
    record {
      number_fits = c.ranges.number.fits;
      head = head_read c.args.number count c.args.frame.now (omega (arith, c.requires)) (λ i. omega (arith, c.type_inv.frame i)) head.magic head.number (sym head.count.0)
          ∙ ap (λ (n : ℕ). bucket_header c.args.number n) (sym long);
      body = c.in-Ok.ensures.read;
    }

pub returns-in-Ok-clause-all_are_read : goal.returns-in-Ok-clause-all_are_read
returns-in-Ok-clause-all_are_read c entries frame = (one_frame c.args.number c.args.number _ entries c.args.frame.now (returns-in-Ok-clause-found c) frame).1

pub returns-in-Err-clause-all_are_read : goal.returns-in-Err-clause-all_are_read
returns-in-Err-clause-all_are_read c entries frame =
    let head = c.in_ok-count.ensures in
    accepted (Order c.in-Err.entry c.in_ok-count.count) c.args.number entries c.args.frame.now frame
    (head.magic, head.number, head.count.0, head.count.1, c.in-Err.ensures.bad.0, c.in-Err.ensures.bad.1, c.in-Err.ensures.bad.2)
