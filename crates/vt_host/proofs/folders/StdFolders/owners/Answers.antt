use Rattle.std.proofs.Common.{List, ℕ, subst}
use Rattle.std.specs.Prelude.{IsTrue}
use Rattle.vt_host.specs.Folders.{folders_opener}
use Rattle.vt_host.specs.Owning.{LinesOf}
use Rattle.vt_host.proofs.folders.StdFolders.owners.Goals as goal

pub returns-clause-owners : goal.returns-clause-owners
returns-clause-owners g c tells =
    let opener = g.O.Opener in
    let of : List ℕ → Type 0 = λ n. LinesOf g.O.File.FileCalls.made (IsTrue opener.still) (opener.holds n) n 16777216
    (opener.opened (folders_opener c.args.self.now)) (opener.opened (folders_opener c.lines.new.self)) c.in_ok-lines.lines in
    let lines : of c.args.file.now = subst of c.in_ok-file.ensures (c.in_ok-lines.ensures.lines tells) in
    (c.in_ok-lines.lines, lines, c.in_ok-owners.ensures)
