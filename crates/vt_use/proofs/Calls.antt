-- Calls of a store of blocks, as what the store is asked for.
use Rattle.std.proofs.Common.{◌≡◌, Option, List, [], ◌∷◌, refl}
use Rattle.std.specs.List.{AllByRecursion}
use Rattle.vt_base.specs.declared.why.Why.{Why}
use Rattle.vt_handler.specs.Taking.{DoesCalls, DoesOne}
use Rattle.vt_blocks.specs.Local.{DoesLocal, LocalState}
use Rattle.vt_tree.specs.Calls.{Call, get, put, sync, IsGet, asked_of}
use Rattle.vt_tree.specs.Making.{Makes}
use Rattle.vt_use.specs.LocalJobs.{DoesOnStore, exchanges_of, new_local}
use Rattle.vt_use.specs.Stores.{Exchange, AddsNothing, StoreOf}

module _ {S : Type 0} (T : StoreOf S) where
  pub one_asked : (l l' : LocalState S) (call : Call) → (d : DoesLocal T l call l')
      → DoesOne T l.store (asked_of call) d.reply l'.store
  one_asked l l' (get kind s answer) d = d.once
  one_asked l l' (put b answer) d = d.once
  one_asked l l' (sync answer) d = d.once

  -- it is asked for that, and for nothing else
  pub asked_so : (calls : List Call) (l l' : LocalState S) (made : Makes (DoesLocal T) l calls l')
      → DoesCalls T l.store (exchanges_of T calls l l' made) l'.store
  asked_so [] l l' made = λ i. (made i).store
  asked_so (call ∷ calls) l l' made =
      (made.0.store, one_asked l made.0 call made.1, asked_so calls made.0 l' made.2)

  -- only for blocks, where it is called for nothing else
  pub only_reads : (calls : List Call) (l l' : LocalState S) (made : Makes (DoesLocal T) l calls l')
      → AllByRecursion IsGet calls → AllByRecursion AddsNothing (exchanges_of T calls l l' made)
  only_reads [] l l' made gets = tt
  only_reads (get kind s answer ∷ calls) l l' made gets =
      (tt, only_reads calls made.0 l' made.2 gets.1)
  only_reads (put b answer ∷ calls) l l' made gets = absurd gets.0
  only_reads (sync answer ∷ calls) l l' made gets = absurd gets.0

  -- what was done with a store of blocks was done with the store
  pub on_store : (Does : List Call → (old new : LocalState S) → Type 0) (refused : Option Why)
      (old new : S) (calls : List Call) (kept : LocalState S)
      → Makes (DoesLocal T) (new_local old) calls kept → Does calls (new_local old) kept
      → refused ≡ kept.refused → new ≡ kept.store
      → (asked : List Exchange) × DoesCalls T old asked new
      × (AllByRecursion IsGet calls → AllByRecursion AddsNothing asked)
      × DoesOnStore T Does refused asked old new
  on_store Does refused old new calls kept made does refused_is new_is = (
    exchanges_of T calls (new_local old) kept made,
    rw new_is (asked_so calls (new_local old) kept made),
    only_reads calls (new_local old) kept made,
    record {
      calls = calls;
      kept = kept;
      made = made;
      exchanges_are = refl;
      does = does;
      refused_is = refused_is;
      new_is = new_is;
    },
  )
