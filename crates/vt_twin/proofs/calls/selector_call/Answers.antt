use Rattle.std.proofs.Common.{ℕ, List, ◌∙◌, ap, take, arith}
use Rattle.vt_disk.specs.DeviceCalls.DeviceCall.{write}
use Rattle.vt_twin.specs.Frames.{selector_start, selector_len}
use Rattle.vt_twin.proofs.Selectors.{selector_taken}
use Rattle.vt_twin.proofs.calls.selector_call.Goals as goal

pub returns : goal.returns
returns c =
    c.write_call.ensures
    ∙ ap (λ (chunk : List ℕ). write (selector_start c.args.region c.args.frame_len) chunk)
    (ap (λ (selector : List ℕ). take (selector_len c.args.region c.args.frame_len) selector) c.requires.names
    ∙ selector_taken 8192 (selector_len c.args.region c.args.frame_len) c.args.number (omega arith) (omega arith))
