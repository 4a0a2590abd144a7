-- by what is told of a run over what it is lent
use Rattle.std.specs.Prelude.{◌&&◌}
use Rattle.std.proofs.Common.{◌≡◌, Bool, List, ℕ, Option, refl}
use Rattle.std.specs.Prelude.{IsTrue}
use Rattle.vt_host.specs.ToldFiles.{content_told}
use Rattle.vt_prog.proofs.laws.runs_tell.Goals as goal

-- what files tell, where they do
told_content : (tells : Bool) (stood : Option (List ℕ)) → IsTrue tells
    → content_told tells stood ≡ stood
told_content Bool.true stood is = refl
told_content Bool.false stood is = absurd (cc)

pub returns : goal.returns
returns g c words status before after ran =
    c.runs_are_seen.ensures words status before after g.O.Opener.holds ran
    (λ name tells. told_content (g.O.File.FileCalls.tells && g.O.Opener.still)
    (g.O.Opener.holds name) tells)
