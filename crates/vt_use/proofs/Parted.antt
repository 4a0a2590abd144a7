-- A client that is parted from, of which its first refusal was taken out.
use Rattle.std.proofs.Common.{Result, Ok, Err, None}
use Rattle.vt_client.specs.Clients.{ClientState, SaysGoodbye}
use Rattle.vt_client.specs.declared.error.LinkError.{LinkError}
use Rattle.vt_use.specs.Members.{LinkOf}

pub says_same : {L : Type 0} (link : LinkOf L) (c : ClientState L) (parted : Result L (LinkError L))
    → SaysGoodbye link (record c { refused = None }) parted → SaysGoodbye link c parted
says_same link c (Ok l) says = says
says_same link c (Err parted) says = says
