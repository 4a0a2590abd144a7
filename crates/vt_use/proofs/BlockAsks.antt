-- A block that is read or written, as a use of the store.
use Rattle.std.proofs.Common.{◌≡◌, ℕ, List, true, false, Option, Some, None, Result, Ok, Err, refl, subst}
use Rattle.std.specs.Prelude.{IfOk}
use Rattle.vt_base.specs.declared.score.Score.{Score}
use Rattle.vt_base.specs.declared.why.Why.{Why}
use Rattle.vt_disk.specs.Members.{DiskOf}
use Rattle.vt_handler.specs.Taking.{DoesCalls}
use Rattle.vt_core.specs.Core.{CoreState}
use Rattle.vt_model.specs.History.{Block}
use Rattle.vt_tree.specs.declared.error.BlockErr.{BlockErr}
use Rattle.vt_use.specs.LocalJobs.{DoesOnStore}
use Rattle.vt_use.specs.OneBlock.{ReadsOne, WritesOne, own_answer, asks_block}
use Rattle.vt_use.specs.Stores.{Exchange, at_time, store_on}
use Rattle.vt_use.specs.Uses.{AsksAndEnds, UsesCore}
use Rattle.vt_use.proofs.OneBlocks.{read_asked, written_asked}
use Rattle.vt_use.specs.Blocks.{ReadsBlock, WritesBlock, closed_behind}

-- what holds of a gain holds of the answer
pub answer_holds : {T : Type 0} (P : T → Type 0) (output : Result T BlockErr)
    (refused : Option Why) → IfOk output P → IfOk (own_answer output refused) P
answer_holds P (Ok value) refused it = it
answer_holds P (Err err) (Some why) it = tt
answer_holds P (Err err) None it = tt

pub closed_holds : (P : Score → Type 0) (put : Result Score Why) (closed : Result (Unit {0}) Why)
    → IfOk put P → IfOk (closed_behind put closed) P
closed_holds P (Err why) closed it = tt
closed_holds P (Ok given) (Ok done) it = it
closed_holds P (Ok given) (Err why) it = tt

module _ {D : Type 0} (score : List ℕ → List ℕ) (disk : DiskOf D) where
  pub reads_asks : (kind : ℕ) (s : List ℕ) (result : Result (List ℕ) Why) (old new : CoreState D)
      → ReadsBlock score disk kind s result old new
      → AsksAndEnds score disk 0 false (asks_block kind s result) (Ok tt) old new new
  reads_asks kind s result old new it = record {
    asked = it;
    reads = λ no. (tt, tt);
    ends = (refl, refl);
  }

  pub writes_asks : (now kind : ℕ) (bytes : List ℕ) (result : Result Score Why)
      (old new : CoreState D) → (it : WritesBlock score disk now kind bytes result old new)
      → AsksAndEnds score disk now true it.puts.0 it.closed old it.kept new
  writes_asks now kind bytes result old new it = record {
    asked = it.puts.2;
    reads = λ no. let never : true ≡ false = no in absurd (cc);
    ends = it.ends;
  }

  -- ---- by a job

  module _ (refused : Option Why) (added : ℕ) (closed : Result (Unit {0}) Why)
      (old new : CoreState D) where
    pub read_used : (kind : ℕ) (s : List ℕ) (output : Result (List ℕ) BlockErr)
        → UsesCore score disk 0 false (DoesOnStore (store_on score disk)
        (λ calls l l'. ReadsOne kind s output calls) refused) added closed old new
        → ReadsBlock score disk kind s (own_answer output refused) old new
    read_used kind s output x =
        let are = read_asked (store_on score disk) kind s output refused x.exchanges
        (at_time 0 old) (at_time 0 x.kept) x.does in
        rw x.asks.ends.1 (subst (λ (l : List Exchange). DoesCalls (store_on score disk)
        (at_time 0 old) l (at_time 0 x.kept)) are x.asks.asked)

    pub write_used : (now : ℕ) (b : Block) (output : Result Score BlockErr)
        (result : Result Score Why)
        → UsesCore score disk now true (DoesOnStore (store_on score disk)
        (λ calls l l'. WritesOne score b output calls) refused) added closed old new
        → result ≡ closed_behind (own_answer output refused) closed
        → WritesBlock score disk now b.kind b.bytes result old new
    write_used now b output result x is = record {
      put = own_answer output refused;
      closed = closed;
      kept = x.kept;
      puts = (
        x.exchanges,
        written_asked (store_on score disk) b score output refused x.exchanges (at_time now old)
            (at_time now x.kept) x.does,
        x.asks.asked,
      );
      ends = x.asks.ends;
      result_is = is;
    }
