-- Why an archive couldn't be read first.
use Rattle.std.proofs.Common.{◌≡◌, ⊎_elim, List, [], ◌∷◌, Option, Some, None, refl, sym, ◌∙◌, subst}
use Rattle.std.specs.List.{AllByRecursion}
use Rattle.std.specs.Prelude.{IfSome}
use Rattle.vt_base.specs.declared.score.Score.{Score}
use Rattle.vt_client.specs.declared.error.ClientErr.{ClientErr}
use Rattle.vt_client.specs.declared.error.ClientErr.TheVariants as errs
use Rattle.vt_client.specs.Stores.{IsToldAs}
use Rattle.vt_core.specs.Core.{CoreState}
use Rattle.vt_disk.specs.Members.{DiskOf}
use Rattle.vt_use.specs.PlaceCalls.{FailsAs}
use Rattle.vt_remote.specs.Refused.{HasCauseOver, IsFirstRefusal}
use Rattle.vt_tree.specs.declared.error.BlockErr.{BlockErr}
use Rattle.vt_tree.specs.declared.error.BlockErr.TheVariants as blocks
use Rattle.vt_tree.specs.declared.error.TreeErr.TheVariants as trees
use Rattle.vt_tree.specs.Calls.{Call, refusals_of}
use Rattle.vac_read.specs.declared.error.VacBad.{VacBad}
use Rattle.vac_read.specs.declared.error.VacBad.TheVariants.{Tree, Root, Meta, NoMemory}
use Rattle.vac_view.specs.Members.{LinkOf}
use Rattle.vac_view.specs.Remote.{FailsOver}
use Rattle.vac_view.specs.Stored.{FailsIn}
use Rattle.vac_view.proofs.Calls.{IsFirstOf}

-- ---- of a store on devices

module _ {D : Type 0} (disk : DiskOf D) (old new : CoreState D) (calls : List Call)
    (each : AllByRecursion (FailsAs disk old new) (refusals_of calls)) where
  first_fails : (err : BlockErr) → IsFirstOf err calls → FailsAs disk old new err
  first_fails err it =
      let all : AllByRecursion (FailsAs disk old new) (err ∷ it.0) =
      subst (AllByRecursion (FailsAs disk old new)) it.1 each in all.0

  pub view_fails : (bad : Option VacBad)
      → ((err : BlockErr) → bad ≡ Some (Tree (trees.Block err)) → IsFirstOf err calls)
      → IfSome bad (FailsIn disk old new)
  view_fails (Some (Tree (trees.Block err))) first = first_fails err (first err refl)
  view_fails (Some (Tree trees.SourceFault)) first = tt
  view_fails (Some (Tree (trees.BadEntry bad))) first = tt
  view_fails (Some (Tree (trees.BadBlock depth len))) first = tt
  view_fails (Some (Tree trees.TooLong)) first = tt
  view_fails (Some (Tree trees.NoMemory)) first = tt
  view_fails (Some (Root field)) first = tt
  view_fails (Some (Meta at)) first = tt
  view_fails (Some NoMemory) first = tt
  view_fails None first = tt

-- ---- of a server

-- a refusal of a client that is told so
abbrev IsTold : BlockErr → ClientErr → Type 0
IsTold err why = IsToldAs why err

module _ {C : Type 0} (server : LinkOf C) (back : C) where
  -- what the first refusal is told as has its cause
  told_fails : (err : BlockErr) (why : ClientErr) → IsTold err why → HasCauseOver server why back
      → FailsOver server (Tree (trees.Block err)) (Some why) back
  told_fails blocks.Fault errs.ReadFault told cause = cause
  told_fails blocks.Fault errs.WriteFault told cause = cause
  told_fails blocks.Fault why told cause =
      absurd (⊎_elim (λ is. cc) (λ own. let no = own.1 in cc) told)
  told_fails (blocks.WrongScore want found) (errs.WrongScore w f) told cause = ⊎_elim
      (λ is. let same_want : w ≡ want = cc in let same_found : f ≡ found = cc in
      subst (λ (x : Score). x.0 ≡ found.0 → ⊥) same_want
      (subst (λ (x : Score). w.0 ≡ x.0 → ⊥) same_found cause))
      (λ own. absurd (let no = own.1 in cc)) told
  told_fails (blocks.WrongScore want found) why told cause =
      absurd (⊎_elim (λ is. cc) (λ own. let no = own.1 in cc) told)
  told_fails (blocks.Damaged want found) errs.Spent told cause = absurd cause
  told_fails (blocks.Damaged want found) why told cause =
      absurd (⊎_elim (λ is. cc) (λ own. let no = own.1 in cc) told)
  told_fails (blocks.Refused text) why told cause = tt
  told_fails blocks.NoMemory why told cause = tt

  first_over : (err : BlockErr) (refused : Option ClientErr) (calls : List Call)
      → IsFirstRefusal server refused calls back → IsFirstOf err calls
      → FailsOver server (Tree (trees.Block err)) refused back
  first_over err None calls none it =
      let never : [] ≡ err ∷ it.0 = sym none ∙ it.1 in absurd (cc)
  first_over err (Some why) calls first it =
      let both : first.0.err ∷ first.0.rest ≡ err ∷ it.0 = sym first.0.refusals ∙ it.1 in
      let same : first.0.err ≡ err = cc in
      told_fails err why (subst (λ (x : BlockErr). IsTold x why) same first.0.told) first.1

  pub view_fails_over : (bad : Option VacBad) (refused : Option ClientErr) (calls : List Call)
      → ((err : BlockErr) → bad ≡ Some (Tree (trees.Block err)) → IsFirstOf err calls)
      → IsFirstRefusal server refused calls back
      → IfSome bad (λ bad. FailsOver server bad refused back)
  view_fails_over (Some (Tree (trees.Block err))) refused calls first refusal =
      first_over err refused calls refusal (first err refl)
  view_fails_over (Some (Tree trees.SourceFault)) refused calls first refusal = tt
  view_fails_over (Some (Tree (trees.BadEntry bad))) refused calls first refusal = tt
  view_fails_over (Some (Tree (trees.BadBlock depth len))) refused calls first refusal = tt
  view_fails_over (Some (Tree trees.TooLong)) refused calls first refusal = tt
  view_fails_over (Some (Tree trees.NoMemory)) refused calls first refusal = tt
  view_fails_over (Some (Root field)) refused calls first refusal = tt
  view_fails_over (Some (Meta at)) refused calls first refusal = tt
  view_fails_over (Some NoMemory) refused calls first refusal = tt
  view_fails_over None refused calls first refusal = tt
