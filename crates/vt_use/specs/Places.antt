-- One use of a store of blocks at a place: of the store that a configuration names, which is opened for
-- it and closed behind it; or of a server at an address, to which a link is made.
use Rattle.std.specs.Prelude.{ℕ, ◌≡◌, ◌+◌, ◌^◌, ◌<◌, ⊤, Bool, false, IsTrue, Option, Some, None, Result, Ok, Err, List, length}
use Rattle.std.specs.List.{AllByRecursion}
use Rattle.vt_base.specs.declared.why.Why.{Why}
use Rattle.vt_client.specs.Clients.{ClientState}
use Rattle.vt_client.specs.Stores.{DoesAsClient}
use Rattle.vt_client.specs.declared.error.ClientErr.{ClientErr}
use Rattle.vt_conf.specs.declared.address.Address.{Address}
use Rattle.vt_conf.specs.declared.conf.Conf.{Conf}
use Rattle.vt_disk.specs.Members.{DiskOf}
use Rattle.vt_blocks.specs.Local.{DoesLocal, HoldsLocal, LocalState}
use Rattle.vt_open.specs.Opening.{NamesCause, RefusesStore}
use Rattle.vt_remote.specs.Remote.{IsBack, MeetsNoServer, TalksFor}
use Rattle.vt_remote.specs.declared.talk.RemoteError.TheVariants as remote
use Rattle.vt_requests.specs.Driven.{DrivenState}
use Rattle.vt_tree.specs.Calls.{Call, IsGet}
use Rattle.vt_tree.specs.Maps.{Maps}
use Rattle.vt_use.specs.LocalJobs.{DoesOnStore}
use Rattle.vt_use.specs.Stores.{store_on}
use Rattle.vt_use.specs.Uses.{Uses, UsesCore}
use Rattle.vt_use.specs.Change.{DialerChange, NoneDialled, NoneHandedOut, PartsChange}
use Rattle.vt_use.specs.Members.{LinkOf}
use Rattle.vt_use.specs.declared.used_at.StoreAt.{StoreAt}
use Rattle.vt_use.specs.declared.used_at.StoreAt.TheVariants as place
use Rattle.vt_use.specs.declared.used_at.StoreError.{StoreError}
use Rattle.vt_use.specs.declared.used_at.StoreError.TheVariants.{Unopened, Refused, Server}
use Rattle.vt_use.specs.declared.used_at.UsedAt.{UsedAt}

-- ---- what is done

-- What is done with a store of blocks, of whatever kind: by its members, with these calls, from this
-- store to that one.
abbrev pub Doing : Type 1
Doing = (S : Type 0) → (act : S → Call → S → Type 0) → (holds : S → Maps → Type 0) → List Call
    → (old new : S) → Type 0

-- No map is known to be what a client's server holds, since a server tells nothing of that.
abbrev pub holds_nothing : {L : Type 0} → ClientState L → Maps → Type 0
holds_nothing c maps = ⊥

-- ---- refusals

-- why a store of this process said no first, if it did
abbrev pub as_refused : Option Why → Option StoreError
as_refused None = None
as_refused (Some why) = Some (Refused why)

-- how the use of a store of this process ended: well, or with what failed first in that
abbrev pub as_ended : Result (Unit {0}) Why → Result (Unit {0}) StoreError
as_ended (Ok done) = Ok done
as_ended (Err why) = Err (Refused why)

-- why a server said no first, if it did
abbrev pub as_server : Option ClientErr → Option StoreError
as_server None = None
as_server (Some why) = Some (Server (remote.Refused why))

-- ---- of a configuration

-- The store of a configuration was opened, this was done with it by calls of a store of blocks, and it
-- was closed: its partitions are back.
pub record UsesConf {P D : Type 0} (score : List ℕ → List ℕ) (disk : DiskOf D) (conf : Conf)
    (now : ℕ) (writes : Bool) (Does : List Call → (l l' : LocalState (DrivenState D)) → Type 0)
    (refusal : Option StoreError) (blocks : ℕ) (closed : Result (Unit {0}) StoreError)
    (parts : PartsChange P D) : Type 0 where
  pub said : Option Why
  pub ended : Result (Unit {0}) Why
  pub uses : Uses score disk (IsTrue parts.tells) conf (UsesCore score disk now writes
      (DoesOnStore (store_on score disk) Does said) blocks ended) parts.old parts.new
  pub faults : parts.faults' ≡ parts.faults
  pub refusal_is : refusal ≡ as_refused said
  pub closed_is : closed ≡ as_ended ended

-- it wasn't opened, for its cause
abbrev pub OpensNone : {P D : Type 0} → (List ℕ → List ℕ) → DiskOf D → Conf → StoreError
    → PartsChange P D → Type 0
OpensNone score disk conf (Unopened bad) parts = RefusesStore score disk (IsTrue parts.tells) conf
    parts.old parts.new parts.faults parts.faults' bad × NamesCause bad
OpensNone score disk conf (Refused why) parts = ⊥
OpensNone score disk conf (Server bad) parts = ⊥

-- ---- of a server

-- A server at this address was met, this was done with it by calls of its client, which only asks for
-- blocks where nothing is written, and it was parted from: the link to it is back.
pub record UsesServer {N L : Type 0} (link : LinkOf L) (score : List ℕ → List ℕ) (address : Address)
    (writes : Bool) (Does : List Call → (c c' : ClientState L) → Type 0)
    (refusal : Option StoreError) (blocks : ℕ) (closed : Result (Unit {0}) StoreError)
    (dialer : DialerChange N L) : Type 0 where
  pub calls : List Call
  pub met : ClientState L
  pub last : ClientState L
  pub back : L
  pub talks : TalksFor link score calls met last back
  pub reads : writes ≡ false → AllByRecursion IsGet calls
  pub does : Does calls met last
  pub is_back : IsBack (IsTrue dialer.tells) address back dialer.old dialer.new
  pub faults : dialer.faults' ≡ dialer.faults
  pub refusal_is : refusal ≡ as_server last.refused
  pub blocks_are : blocks ≡ last.sent
  pub closed_is : closed ≡ Ok tt

-- no link to it was made, or it was greeted in vain
abbrev pub MeetsNone : {N L : Type 0} → LinkOf L → (List ℕ → List ℕ) → Address → StoreError
    → DialerChange N L → Type 0
MeetsNone link score address (Server bad) dialer = MeetsNoServer link score (IsTrue dialer.tells)
    address dialer.old dialer.new dialer.faults dialer.faults' bad
MeetsNone link score address (Unopened bad) dialer = ⊥
MeetsNone link score address (Refused why) dialer = ⊥

-- ---- wherever it is

-- its configuration names some arenas and sections, and not too many
abbrev pub CanBeOpened : StoreAt → Type 0
CanBeOpened (place.Conf conf) = (length conf.arenas.items + length conf.sections.items + 1 < 2 ^ 32)
    × (0 < length conf.arenas.items) × (0 < length conf.sections.items)
CanBeOpened (place.Server address) = ⊤

-- This was done with a store at this place, and what came of it was told so; or it wasn't opened, or
-- not reached, for its cause. Of a configuration's store no link was made, and of a server no partition
-- handed out.
abbrev pub UsesAt : {P D N L O : Type 0} → (List ℕ → List ℕ) → DiskOf D → LinkOf L → StoreAt
    → (now : ℕ) → (writes : Bool) → (Does : O → Doing) → Result (UsedAt O) StoreError
    → PartsChange P D → DialerChange N L → Type 0
UsesAt {P} {D} {N} {L} {O} score disk link (place.Conf conf) now writes Does (Ok used) parts dialer =
    UsesConf score disk conf now writes (Does used.output (LocalState (DrivenState D))
    (DoesLocal (store_on score disk)) (HoldsLocal (store_on score disk) score)) used.refusal
    used.blocks used.closed parts × NoneDialled dialer
UsesAt score disk link (place.Conf conf) now writes Does (Err bad) parts dialer =
    OpensNone score disk conf bad parts × NoneDialled dialer
UsesAt {P} {D} {N} {L} {O} score disk link (place.Server address) now writes Does (Ok used) parts
    dialer =
    UsesServer link score address writes (Does used.output (ClientState L) (DoesAsClient link score)
    holds_nothing) used.refusal used.blocks used.closed dialer × NoneHandedOut parts
UsesAt score disk link (place.Server address) now writes Does (Err bad) parts dialer =
    MeetsNone link score address bad dialer × NoneHandedOut parts
