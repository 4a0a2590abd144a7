-- A Venti server at an address (venti(6)): the link to it is made, both sides greet, its client is
-- called as a store of blocks, and says goodbye.
use Rattle.std.specs.Prelude.{ℕ, ◌≡◌, false, None, IsTrue, Result, Ok, Err, List}
use Rattle.vt_base.specs.Faults.{HasRisen}
use Rattle.vt_client.specs.Clients.{ClientState, CountsSides, SaysGoodbye}
use Rattle.vt_client.specs.Exchanges.{traffic_of}
use Rattle.vt_client.specs.Greetings.{Greets, MayEndGreeting}
use Rattle.vt_client.specs.Stores.{DoesAsClient}
use Rattle.vt_client.specs.declared.error.ClientErr.{ClientErr}
use Rattle.vt_client.specs.declared.error.LinkError.{LinkError}
use Rattle.vt_conf.specs.declared.address.Address.{Address}
use Rattle.vt_dial.specs.Dialled.{Dialled, IsFreshLink, with_back, with_link}
use Rattle.vt_remote.specs.Members.{LinkOf}
use Rattle.vt_remote.specs.declared.talk.RemoteError.{RemoteError}
use Rattle.vt_remote.specs.declared.talk.RemoteError.TheVariants.{Undialled, Refused}
use Rattle.vt_tree.specs.Calls.{Call}
use Rattle.vt_tree.specs.Making.{Makes}

-- ---- meeting and parting

-- a client that has greeted a server over this link, and asked for nothing yet
abbrev pub fresh_client : {L : Type 0} → L → ClientState L
fresh_client link = record {
  link = link;
  tag = 1;
  spent = false;
  counts = record { faults = 0; refusals = 0 };
  refused = None;
  sent = 0;
}

-- a new link, over which both sides greeted
pub record Meets {L : Type 0} (link : LinkOf L) (score_of : List ℕ → List ℕ) (c : ClientState L)
    : Type 0 where
  pub made : L
  pub fresh : IsFreshLink link made
  pub greets : IsTrue link.tells
      → Greets score_of (traffic_of link made) (traffic_of link c.link) (Ok tt)
  pub sides : CountsSides {T = Unit {0}} link made c.link (Ok tt)
  pub client : c ≡ fresh_client c.link

-- A server was met in vain: the link was made, and the greeting failed, for this cause.
pub record MeetsInVain {L : Type 0} (link : LinkOf L) (score_of : List ℕ → List ℕ)
    (why : ClientErr) (back : L) : Type 0 where
  pub made : L
  pub fresh : IsFreshLink link made
  pub greets : IsTrue link.tells
      → Greets score_of (traffic_of link made) (traffic_of link back) (Err why)
  pub sides : CountsSides {T = Unit {0}} link made back (Err why)
  pub refuses : MayEndGreeting why

-- a link was made to this address, and is back
abbrev pub IsBack : {L : Type 0} → (told : Type 0) → Address → (link : L) → (old new : Dialled L)
    → Type 0
IsBack told address link old new = told → new ≡ with_back link (with_link address old)

-- no server was met: no link was made, or it was greeted in vain
abbrev pub MeetsNoServer : {L : Type 0} → LinkOf L → (score_of : List ℕ → List ℕ) → (told : Type 0)
    → Address → (old new : Dialled L) → (faults faults' : ℕ) → RemoteError → Type 0
MeetsNoServer link score_of told address old new faults faults' Undialled =
    (told → new ≡ old) × HasRisen faults faults'
MeetsNoServer {L} link score_of told address old new faults faults' (Refused why) =
    (back : L) × MeetsInVain link score_of why back × IsBack told address back old new
    × (faults' ≡ faults)

-- the link, given back by a goodbye or beside its refusal
abbrev pub link_in : {L : Type 0} → Result L (LinkError L) → L
link_in (Ok link) = link
link_in (Err parted) = parted.link

-- the client said goodbye, if it could, and its link was taken back
pub record PartsFromServer {L : Type 0} (link : LinkOf L) (told : Type 0) (c : ClientState L)
    (old new : Dialled L) : Type 0 where
  pub parted : Result L (LinkError L)
  pub says : SaysGoodbye link c parted
  pub back : told → new ≡ with_back (link_in parted) old

-- ---- a whole link

-- The server was met, its client was called so as a store of blocks, and for nothing else, and it was
-- parted from, whatever it answered.
pub record TalksFor {L : Type 0} (link : LinkOf L) (score_of : List ℕ → List ℕ) (calls : List Call)
    (met last : ClientState L) (back : L) : Type 0 where
  pub meets : Meets link score_of met
  pub made : Makes (DoesAsClient link score_of) met calls last
  pub parted : Result L (LinkError L)
  pub says : SaysGoodbye link last parted
  pub back_is : back ≡ link_in parted
