use Rattle.std.proofs.Common.{◌≡◌, ◌∙◌, sym, ap, subst, true}
use Rattle.std.specs.Prelude.{MatchOption}
use Rattle.vt_turns_example.specs.Parts.{is_cut}
use Rattle.vt_turns_example.specs.Workers.{HasServed}
use Rattle.vt_turns_example.proofs.Joins.{closed_whole}
use Rattle.vt_turns_example.proofs.running.run.Goals as goal

pub returns-in-Some : goal.returns-in-Some
returns-in-Some g c =
    let told = g.D.Link.Link.told in
    let store = c.in-Ok-open.store in
    let v = c.in-Ok-open.pass.me.0 in
    let u = c.serve_all-pass.result.0.me.0 in
    let served = subst (λ o. MatchOption o (c.serve_all-pass.result.0 ≡ c.in-Ok-open.pass) (λ ends. HasServed told v u ends.items)) c.in-Some.is c.serve_all-pass.ensures.served in
    let opening = c.serve_all-pass.ensures.free.0.1 in
    record {
      whole = closed_whole told v u store.cut c.in-Some.ends.items c.close-parts.result.items c.in-Ok-open.ensures.empty
          (subst (λ o. is_cut store.cut o.parts ≡ true) (sym opening) store.cut_is) (ap (λ o. o.kept) opening ∙ store.kept) served c.close-parts.ensures;
    }
