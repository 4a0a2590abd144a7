-- A job of blocks that is done with a store of this process.
use Rattle.std.specs.Prelude.{◌≡◌, Option, None, List, [], ◌∷◌}
use Rattle.vt_base.specs.declared.why.Why.{Why}
use Rattle.vt_blocks.specs.Local.{DoesLocal, LocalState}
use Rattle.vt_tree.specs.Calls.{Call, asked_of}
use Rattle.vt_tree.specs.Making.{Makes}
use Rattle.vt_use.specs.Stores.{Exchange, StoreOf}

-- a store as a store of blocks, of which nothing was asked yet
abbrev pub new_local : {S : Type 0} → S → LocalState S
new_local store = record {
  store = store;
  counts = record { faults = 0; refusals = 0 };
  refused = None;
}

-- what the store is asked in such calls: each asks it for one operation, whose answer it hands on
abbrev pub exchanges_of : {S : Type 0} → (T : StoreOf S) → (calls : List Call)
    → (old new : LocalState S) → Makes (DoesLocal T) old calls new → List Exchange
exchanges_of T [] old new made = []
exchanges_of T (call ∷ calls) old new made =
    (asked_of call, made.1.reply) ∷ exchanges_of T calls made.0 new made.2

-- This was done with the store, as a store of blocks; and it is told why it said no first.
pub record DoesOnStore {S : Type 0} (T : StoreOf S)
    (Does : List Call → (old new : LocalState S) → Type 0) (refused : Option Why)
    (exchanges : List Exchange) (old new : S) : Type 0 where
  pub calls : List Call
  pub kept : LocalState S
  pub made : Makes (DoesLocal T) (new_local old) calls kept
  pub exchanges_are : exchanges ≡ exchanges_of T calls (new_local old) kept made
  pub does : Does calls (new_local old) kept
  pub refused_is : refused ≡ kept.refused
  pub new_is : new ≡ kept.store
