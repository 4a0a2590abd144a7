-- A use of a store at a place, of which less is said; and one at a place of either kind.
use Rattle.std.proofs.Common.{ℕ, Bool, Option, Result, Ok, Err, List}
use Rattle.std.specs.Prelude.{IfErr, IfOk}
use Rattle.vt_client.specs.Clients.{ClientState}
use Rattle.vt_client.specs.Stores.{DoesAsClient}
use Rattle.vt_conf.specs.declared.address.Address.{Address}
use Rattle.vt_conf.specs.declared.conf.Conf.{Conf}
use Rattle.vt_disk.specs.Members.{DiskOf}
use Rattle.vt_blocks.specs.Local.{DoesLocal, HoldsLocal, LocalState}
use Rattle.vt_requests.specs.Driven.{DrivenState}
use Rattle.vt_tree.specs.Calls.{Call}
use Rattle.vt_tree.specs.Maps.{Maps}
use Rattle.vt_use.specs.LocalJobs.{new_local}
use Rattle.vt_use.specs.Stores.{at_time, store_on}
use Rattle.vt_use.specs.Change.{DialerChange, NoneDialled, NoneHandedOut, PartsChange}
use Rattle.vt_use.specs.Members.{LinkOf}
use Rattle.vt_use.specs.Places.{Doing, MeetsNone, OpensNone, UsesAt, UsesConf, UsesServer, holds_nothing}
use Rattle.vt_use.specs.declared.used_at.StoreAt.{StoreAt}
use Rattle.vt_use.specs.declared.used_at.StoreAt.TheVariants as place
use Rattle.vt_use.specs.declared.used_at.StoreError.{StoreError}
use Rattle.vt_use.specs.declared.used_at.UsedAt.{UsedAt}

-- ---- less of it

module _ {P D N L : Type 0} (score : List ℕ → List ℕ) (disk : DiskOf D) (link : LinkOf L) (now : ℕ)
    (writes : Bool) (parts : PartsChange P D) (dialer : DialerChange N L) where
  conf_less : (conf : Conf)
      (Does Less : List Call → (l l' : LocalState (DrivenState D)) → Type 0)
      → ((calls : List Call) (l l' : LocalState (DrivenState D)) → Does calls l l' → Less calls l l')
      → (refusal : Option StoreError) (blocks : ℕ) (closed : Result (Unit {0}) StoreError)
      → UsesConf score disk conf now writes Does refusal blocks closed parts
      → UsesConf score disk conf now writes Less refusal blocks closed parts
  conf_less conf Does Less less refusal blocks closed x =
      let u = x.uses in
      let d = u.does.does in
      record {
        said = x.said;
        ended = x.ended;
        uses = record {
          opened = u.opened;
          left = u.left;
          during = u.during;
          opens = u.opens;
          does = record {
            exchanges = u.does.exchanges;
            kept = u.does.kept;
            asks = u.does.asks;
            does = record {
              calls = d.calls;
              kept = d.kept;
              made = d.made;
              exchanges_are = d.exchanges_are;
              does = less d.calls (new_local (at_time now u.opened)) d.kept d.does;
              refused_is = d.refused_is;
              new_is = d.new_is;
            };
            added_is = u.does.added_is;
          };
          shape = u.shape;
          given = u.given;
        };
        faults = x.faults;
        refusal_is = x.refusal_is;
        closed_is = x.closed_is;
      }

  server_less : (address : Address) (Does Less : List Call → (c c' : ClientState L) → Type 0)
      → ((calls : List Call) (c c' : ClientState L) → Does calls c c' → Less calls c c')
      → (refusal : Option StoreError) (blocks : ℕ) (closed : Result (Unit {0}) StoreError)
      → UsesServer link score address writes Does refusal blocks closed dialer
      → UsesServer link score address writes Less refusal blocks closed dialer
  server_less address Does Less less refusal blocks closed x = record {
    calls = x.calls;
    met = x.met;
    last = x.last;
    back = x.back;
    talks = x.talks;
    reads = x.reads;
    does = less x.calls x.met x.last x.does;
    is_back = x.is_back;
    faults = x.faults;
    refusal_is = x.refusal_is;
    blocks_are = x.blocks_are;
    closed_is = x.closed_is;
  }

  module _ {O : Type 0} where
    pub uses_less : (at : StoreAt) (Does Less : O → Doing)
        → ((output : O) (S : Type 0) (act : S → Call → S → Type 0) (holds : S → Maps → Type 0)
        (calls : List Call) (s s' : S) → Does output S act holds calls s s'
        → Less output S act holds calls s s')
        → (used : Result (UsedAt O) StoreError)
        → UsesAt score disk link at now writes Does used parts dialer
        → UsesAt score disk link at now writes Less used parts dialer
    uses_less (place.Conf conf) Does Less less (Ok used) x = (
      conf_less conf _ _ (less used.output (LocalState (DrivenState D))
          (DoesLocal (store_on score disk)) (HoldsLocal (store_on score disk) score)) used.refusal
          used.blocks used.closed x.0,
      x.1,
    )
    uses_less (place.Conf conf) Does Less less (Err bad) x = x
    uses_less (place.Server address) Does Less less (Ok used) x = (
      server_less address _ _ (less used.output (ClientState L) (DoesAsClient link score) holds_nothing)
          used.refusal used.blocks used.closed x.0,
      x.1,
    )
    uses_less (place.Server address) Does Less less (Err bad) x = x

    -- what the job tells besides its calls
    pub told_beside : (at : StoreAt) (Does : O → Doing) (Beside : O → Type 0)
        → ((output : O) (S : Type 0) (act : S → Call → S → Type 0) (holds : S → Maps → Type 0)
        (calls : List Call) (s s' : S) → Does output S act holds calls s s' → Beside output)
        → (used : Result (UsedAt O) StoreError)
        → UsesAt score disk link at now writes Does used parts dialer
        → IfOk used (λ u. Beside u.output)
    told_beside (place.Conf conf) Does Beside of (Ok u) x =
        let d = x.0.uses.does.does in
        of u.output (LocalState (DrivenState D)) (DoesLocal (store_on score disk))
        (HoldsLocal (store_on score disk) score) d.calls (new_local (at_time now x.0.uses.opened)) d.kept
        d.does
    told_beside (place.Conf conf) Does Beside of (Err bad) x = tt
    told_beside (place.Server address) Does Beside of (Ok u) x =
        of u.output (ClientState L) (DoesAsClient link score) holds_nothing x.0.calls x.0.met x.0.last
        x.0.does
    told_beside (place.Server address) Does Beside of (Err bad) x = tt

    -- ---- at a place of either kind

    pub at_conf : (conf : Conf) (Does : O → Doing) (used : Result (UsedAt O) StoreError)
        → IfOk used (λ u. UsesConf score disk conf now writes (Does u.output (LocalState (DrivenState D))
        (DoesLocal (store_on score disk)) (HoldsLocal (store_on score disk) score)) u.refusal u.blocks
        u.closed parts)
        → IfErr used (λ bad. OpensNone score disk conf bad parts) → NoneDialled dialer
        → UsesAt score disk link (place.Conf conf) now writes Does used parts dialer
    at_conf conf Does (Ok used) uses none same = (uses, same)
    at_conf conf Does (Err bad) uses none same = (none, same)

    pub at_server : (address : Address) (Does : O → Doing) (used : Result (UsedAt O) StoreError)
        → IfOk used (λ u. UsesServer link score address writes (Does u.output (ClientState L)
        (DoesAsClient link score) holds_nothing) u.refusal u.blocks u.closed dialer)
        → IfErr used (λ bad. MeetsNone link score address bad dialer) → NoneHandedOut parts
        → UsesAt score disk link (place.Server address) now writes Does used parts dialer
    at_server address Does (Ok used) uses none same = (uses, same)
    at_server address Does (Err bad) uses none same = (none, same)
