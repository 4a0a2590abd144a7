-- a refusal of the server would be told
use Rattle.std.proofs.Common.{◌∙◌, Option, ap, subst}
use Rattle.vt_client.specs.declared.error.ClientErr.{ClientErr}
use Rattle.vt_client.specs.Stores.{DoesAsClient}
use Rattle.vt_use.specs.Places.{holds_nothing}
use Rattle.vt_remote.specs.Refused.{IsFirstRefusal}
use Rattle.vt_tree.specs.Calls.{refusals_of}
use Rattle.vac_store.proofs.Unfit.{unfit_so}
use Rattle.vac_store.proofs.laws.folders_are_unfit.Goals as goal

pub returns : goal.returns
returns g c score_of bsize folder err given calls met last back talks it is =
    let link = g.L.Link in
    let first = c.refusals_have_causes.ensures.first score_of calls met last back talks in
    unfit_so (DoesAsClient link score_of) holds_nothing score_of met last bsize folder
    given err last.refused it.gives_up.0
    (λ none. ap refusals_of it.gives_up.1
    ∙ subst (λ (o : Option ClientErr). IsFirstRefusal link o calls back) none first) is
