-- Why an archive of a Venti server at an address can't be read.
use Rattle.std.specs.Prelude.{◌≢◌, ◌<◌, ⊤, Option, Some}
use Rattle.vt_client.specs.declared.error.ClientErr.{ClientErr}
use Rattle.vt_client.specs.declared.error.ClientErr.TheVariants as errs
use Rattle.vt_tree.specs.declared.error.BlockErr.TheVariants as blocks
use Rattle.vt_tree.specs.declared.error.TreeErr.TheVariants as trees
use Rattle.vac_read.specs.declared.error.VacBad.{VacBad}
use Rattle.vac_read.specs.declared.error.VacBad.TheVariants.{Tree}
use Rattle.vac_view.specs.Members.{LinkOf}

-- a link failed, this way, and is back with the call that it counts
abbrev pub HasFailedBy : {C : Type 0} → LinkOf C → Option ClientErr → (back : C) → Type 0
HasFailedBy server (Some errs.ReadFault) back = 0 < server.read_faults back
HasFailedBy server (Some errs.WriteFault) back = 0 < server.write_faults back
HasFailedBy server refused back = ⊥

-- Why an archive can't be read of a server, whatever that sends: where its link is why, that counts
-- a failed call, and of scores two are told that differ. No server is heard of damage but by its
-- words.
abbrev pub FailsOver : {C : Type 0} → LinkOf C → VacBad → Option ClientErr → (back : C) → Type 0
FailsOver server (Tree (trees.Block blocks.Fault)) refused back = HasFailedBy server refused back
FailsOver server (Tree (trees.Block (blocks.WrongScore want found))) refused back = want.0 ≢ found.0
FailsOver server (Tree (trees.Block (blocks.Damaged want found))) refused back = ⊥
FailsOver server bad refused back = ⊤
