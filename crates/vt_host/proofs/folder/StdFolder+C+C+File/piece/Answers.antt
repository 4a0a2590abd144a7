use Rattle.std.proofs.Common.{◌≡◌, None, arith}
use Rattle.std.proofs.lemmas.Grind.{common_steps}
use Rattle.std.proofs.lemmas.Result.{IfOk-weaker}
use Rattle.vt_host.specs.Folders.{folder_open}
use Rattle.vt_host.proofs.folder.StdFolder+C+C+File.piece.Goals as goal

-- what is read at 0 was opened by this call
pub returns-clause-first : goal.returns-clause-first
returns-clause-first g c = IfOk-weaker c.read_open.result _ _ (λ n first tells start.
    let none : folder_open c.if-at-eq0.self ≡ None = grind (arith, common_steps) in
    first tells (c.in_ok-open_at.ensures.unread none)) c.read_open.ensures.first
