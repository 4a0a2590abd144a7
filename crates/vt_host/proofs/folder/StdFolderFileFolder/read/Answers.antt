use Rattle.std.proofs.Common.{◌≡◌, ℕ, IsTrue}
use Rattle.std.proofs.lemmas.Result.{IfOk-at_ok, IfOk-weaker}
use Rattle.vt_host.specs.Paths.{ReadsFirst}
use Rattle.vt_host.proofs.folder.StdFolderFileFolder.read.Goals as goal

pub returns-clause-first : goal.returns-clause-first
returns-clause-first g c = IfOk-weaker c.counted.result _ _ (λ n same. IfOk-at_ok
    (λ (n : ℕ). IsTrue g.C.File.PieceCalls.tells → c.args.at ≡ 0
    → (file : g.row.C-File.Denot) × ReadsFirst c.args.at n c.piece-piece.new.buf (g.C.File.PieceCalls.made file)) same
    c.piece-piece.ensures.first) c.counted.ensures.value
