-- What was done by words, and what holds of what came of them.
use Rattle.std.specs.Prelude.{IfOk}
use Rattle.std.proofs.Common.{◌≡◌, ℕ, List, Result, Ok, sym, subst}
use Rattle.vt_commands.specs.Run.{Did}
use Rattle.vt_commands.specs.Work.{Work}
use Rattle.vt_disk.specs.Members.{DiskOf}
use Rattle.run_base.specs.Change.{StreamChange}
use Rattle.run_base.specs.Members.{LinkOf}

-- the same words say the same
pub done_by_same : {R K F I P D N L : Type 0} {disk : DiskOf D} {link : LinkOf L}
    {score : List ℕ → List ℕ} {words words' : List (List ℕ)} {status : ℕ}
    {work : Work R K I P D N L} {complaint : StreamChange F}
    → Did disk link score words status work complaint → words ≡ words'
    → Did disk link score words' status work complaint
done_by_same {disk = disk} {link = link} {score = score} {status = status} {work = work} {complaint = complaint} did same =
    subst (λ words. Did disk link score words status work complaint) same did

pub where_ok : {T E : Type 0} {result : Result T E} {value : T} (P : T → Type 0)
    → result ≡ Ok value → P value → IfOk result P
where_ok P is holds = subst (λ result. IfOk result P) (sym is) holds
