-- What a call of the store comes to as a call of a store of blocks.
use Rattle.std.proofs.Common.{◌≡◌, ℕ, Some, Result, Ok, Err, List, refl, subst}
use Rattle.std.specs.Option.{option_or}
use Rattle.vt_base.specs.Kind.{IsKind}
use Rattle.vt_base.specs.Protocol.{Operation, read, write, sync as sync_all, RMessage, r_read, r_write, r_sync}
use Rattle.vt_base.specs.declared.TheConstants.{MAX_BLOCK}
use Rattle.vt_base.specs.declared.score.Score.{Score}
use Rattle.vt_base.specs.declared.why.Why.{Why}
use Rattle.vt_model.specs.History.{History}
use Rattle.vt_handler.specs.Condition.{ConditionGoesOn}
use Rattle.vt_blocks.specs.Members.{StoreOf}
use Rattle.vt_handler.specs.Serving.{ServesOperation, TellsCause}
use Rattle.vt_tree.specs.declared.error.BlockErr.{BlockErr}
use Rattle.vt_tree.specs.Calls.{get, put, sync, with_refusal}
use Rattle.vt_blocks.specs.Local.{LocalState, DoesLocal, IsToldAs}

module _ {S : Type 0} (T : StoreOf S) (l l' : LocalState S)
    (goes : ConditionGoesOn (T.condition l.store) (T.condition l'.store)) where
  -- the store answers an operation so, of each history that it holds
  abbrev pub Replies : Operation → Result RMessage Why → Type 0
  Replies m reply = (h : History) → T.holds l.store h
      → ServesOperation T.score_of (T.condition l.store) (T.condition l'.store) (T.holds l'.store) h m
      (λ r. r) reply

  pub got : (kind wire : ℕ) (s bytes : List ℕ) → wire ≡ kind → IsKind wire
      → Replies (read s wire MAX_BLOCK) (Ok (r_read bytes))
      → T.does l.store (read s wire MAX_BLOCK) (Ok (r_read bytes)) l'.store → l'.counts ≡ l.counts
      → l'.refused ≡ l.refused → DoesLocal T l (get kind s (Ok bytes)) l'
  got kind wire s bytes is known serves once counts refused =
      subst (λ (k : ℕ). DoesLocal T l (get k s (Ok bytes)) l') is (record {
        reply = Ok (r_read bytes);
        stands = refl;
        kind = known;
        once = once;
        serves = serves;
        cause = tt;
        goes_on = goes;
        counts = counts;
        refused = refused;
      })

  pub not_got : (kind wire : ℕ) (s : List ℕ) (why : Why) (err : BlockErr) → wire ≡ kind
      → IsKind wire → IsToldAs why err → Replies (read s wire MAX_BLOCK) (Err why)
      → TellsCause {X = RMessage} (T.condition l.store) (T.condition l'.store) (Err why)
      → T.does l.store (read s wire MAX_BLOCK) (Err why) l'.store
      → l'.counts ≡ with_refusal (Some err) l.counts → l'.refused ≡ option_or l.refused (Some why)
      → DoesLocal T l (get kind s (Err err)) l'
  not_got kind wire s why err is known told serves cause once counts refused =
      subst (λ (k : ℕ). DoesLocal T l (get k s (Err err)) l') is (record {
        reply = Err why;
        stands = (why, refl, told);
        kind = known;
        once = once;
        serves = serves;
        cause = cause;
        goes_on = goes;
        counts = counts;
        refused = refused;
      })

  pub took : (kind wire : ℕ) (bytes : List ℕ) (score : Score) → wire ≡ kind → IsKind wire
      → Replies (write wire bytes) (Ok (r_write score.0))
      → T.does l.store (write wire bytes) (Ok (r_write score.0)) l'.store → l'.counts ≡ l.counts
      → l'.refused ≡ l.refused → DoesLocal T l (put (record { kind = kind; bytes = bytes }) (Ok
      score)) l'
  took kind wire bytes score is known serves once counts refused =
      subst (λ (k : ℕ). DoesLocal T l (put (record { kind = k; bytes = bytes }) (Ok score)) l') is
      (record {
        reply = Ok (r_write score.0);
        stands = refl;
        kind = known;
        once = once;
        serves = serves;
        cause = tt;
        goes_on = goes;
        counts = counts;
        refused = refused;
      })

  pub not_taken : (kind wire : ℕ) (bytes : List ℕ) (why : Why) (err : BlockErr) → wire ≡ kind
      → IsKind wire → IsToldAs why err → Replies (write wire bytes) (Err why)
      → TellsCause {X = RMessage} (T.condition l.store) (T.condition l'.store) (Err why)
      → T.does l.store (write wire bytes) (Err why) l'.store
      → l'.counts ≡ with_refusal (Some err) l.counts → l'.refused ≡ option_or l.refused (Some why)
      → DoesLocal T l (put (record { kind = kind; bytes = bytes }) (Err err)) l'
  not_taken kind wire bytes why err is known told serves cause once counts refused =
      subst (λ (k : ℕ). DoesLocal T l (put (record { kind = k; bytes = bytes }) (Err err)) l') is
      (record {
        reply = Err why;
        stands = (why, refl, told);
        kind = known;
        once = once;
        serves = serves;
        cause = cause;
        goes_on = goes;
        counts = counts;
        refused = refused;
      })

  pub synced : Replies sync_all (Ok r_sync) → T.does l.store sync_all (Ok r_sync) l'.store
      → l'.counts ≡ l.counts → l'.refused ≡ l.refused
      → DoesLocal T l (sync (Ok tt)) l'
  synced serves once counts refused = record {
    reply = Ok r_sync;
    stands = refl;
    kind = tt;
    once = once;
    serves = serves;
    cause = tt;
    goes_on = goes;
    counts = counts;
    refused = refused;
  }

  pub not_synced : (why : Why) (err : BlockErr) → IsToldAs why err → Replies sync_all (Err why)
      → TellsCause {X = RMessage} (T.condition l.store) (T.condition l'.store) (Err why)
      → T.does l.store sync_all (Err why) l'.store
      → l'.counts ≡ with_refusal (Some err) l.counts → l'.refused ≡ option_or l.refused (Some why)
      → DoesLocal T l (sync (Err err)) l'
  not_synced why err told serves cause once counts refused = record {
    reply = Err why;
    stands = (why, refl, told);
    kind = tt;
    once = once;
    serves = serves;
    cause = cause;
    goes_on = goes;
    counts = counts;
    refused = refused;
  }
