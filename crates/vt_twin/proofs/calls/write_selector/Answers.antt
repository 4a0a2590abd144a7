use Rattle.std.proofs.Common.{ℕ, ◌-◌, ◌*◌, List, ◌∙◌, ap, take, arith}
use Rattle.std.proofs.lemmas.Result.{on_ok_weaker}
use Rattle.vt_disk.specs.Disk.{with_bytes}
use Rattle.vt_twin.specs.Frames.{selector_start}
use Rattle.vt_twin.proofs.Selectors.{selector_taken}
use Rattle.vt_twin.proofs.calls.write_selector.Goals as goal

pub returns-clause-written : goal.returns-clause-written
returns-clause-written g c =
    on_ok_weaker c.write_at.result
    (λ written told. written told ∙ ap (λ (chunk : List ℕ). with_bytes (selector_start c.args.region c.args.frame_len) chunk (g.D.Disk.bytes c.args.disk.now))
    (ap (λ (selector : List ℕ). take (c.args.region.len - 2 * c.args.frame_len) selector) c.selector_naming-selector.ensures
    ∙ selector_taken 8192 (c.args.region.len - 2 * c.args.frame_len) c.args.number (omega arith) (omega arith)))
    c.write_at.ensures.written
