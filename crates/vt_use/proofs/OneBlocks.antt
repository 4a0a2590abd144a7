-- What a store is asked for by a job of one block.
use Rattle.std.proofs.Common.{◌≡◌, ⊎_elim, inl, inr, ℕ, Option, Some, None, Result, Ok, Err, List, [], ◌∷◌, refl, sym, ◌∙◌, ap, subst}
use Rattle.vt_base.specs.Protocol.{RMessage, read, write, sync as sync_all, r_read, r_write, r_sync}
use Rattle.vt_base.specs.declared.TheConstants.{MAX_BLOCK}
use Rattle.vt_base.specs.declared.score.Score.{Score}
use Rattle.vt_base.specs.declared.why.Why.{Why}
use Rattle.vt_model.specs.History.{Block}
use Rattle.vt_handler.specs.Serving.{answered}
use Rattle.vt_blocks.specs.Local.{DoesLocal, LocalState}
use Rattle.vt_tree.specs.declared.error.BlockErr.{BlockErr}
use Rattle.vt_tree.specs.Calls.{Call, get, put, sync}
use Rattle.vt_tree.specs.Making.{Makes}
use Rattle.vt_use.specs.LocalJobs.{DoesOnStore, exchanges_of, new_local}
use Rattle.vt_use.specs.OneBlock.{ArePut, PutsOne, ReadsOne, WritesOne, own_answer, asks_block}
use Rattle.vt_use.specs.Stores.{Exchange, StoreOf}

-- why a store said no first is its answer
told_first : {T : Type 0} (err : BlockErr) (refused : Option Why) (why : Why) → refused ≡ Some why
    → own_answer {T = T} (Err err) refused ≡ Err why
told_first {T} err refused why is = ap (λ (o : Option Why). own_answer {T = T} (Err err) o) is

module _ {S : Type 0} (T : StoreOf S) where
  -- a store that hadn't said no said so to a call first, for this reason
  pub refused_first : (l mid l' : LocalState S) (call : Call) (d : DoesLocal T l call mid)
      (why : Why) → d.reply ≡ Err why → l.refused ≡ None → l' ≡ mid → l'.refused ≡ Some why
  refused_first l mid l' call d why is none same = rw (same, d.refused, is, none) refl

  -- and one that did what it was asked hasn't yet
  pub unrefused : (l mid : LocalState S) (call : Call) (d : DoesLocal T l call mid)
      (reply : RMessage) → d.reply ≡ Ok reply → l.refused ≡ None → mid.refused ≡ None
  unrefused l mid call d reply is none = rw (d.refused, is) none

  module _ (kind : ℕ) (s : List ℕ) where
    read_reply : (output : Result (List ℕ) BlockErr) (l mid l' : LocalState S)
        (d : DoesLocal T l (get kind s output) mid) → l.refused ≡ None → l' ≡ mid
        → d.reply ≡ answered (λ (bytes : List ℕ). r_read bytes) (own_answer output l'.refused)
    read_reply (Ok bytes) l mid l' d none same = d.stands
    read_reply (Err err) l mid l' d none same =
        let why = d.stands.0 in
        let is : d.reply ≡ Err why = d.stands.1 in
        is ∙ ap (λ (r : Result (List ℕ) Why). answered (λ (bytes : List ℕ). r_read bytes) r)
        (sym (told_first {T = List ℕ} err l'.refused why
        (refused_first l mid l' (get kind s (Err err)) d why is none same)))

    one_read : (output : Result (List ℕ) BlockErr) (l l' : LocalState S) → l.refused ≡ None
        → (made : Makes (DoesLocal T) l (get kind s output ∷ []) l')
        → exchanges_of T (get kind s output ∷ []) l l' made
        ≡ asks_block kind s (own_answer output l'.refused)
    one_read output l l' none made =
        ap (λ (r : Result RMessage Why). (read s kind MAX_BLOCK, r) ∷ [])
        (read_reply output l made.0 l' made.1 none made.2)

    pub read_asked : (output : Result (List ℕ) BlockErr) (refused : Option Why)
        (asked : List Exchange) (old new : S)
        → DoesOnStore T (λ calls l l'. ReadsOne kind s output calls) refused asked old new
        → asked ≡ asks_block kind s (own_answer output refused)
    read_asked output refused asked old new it =
        it.exchanges_are
        ∙ subst (λ (calls : List Call). (made : Makes (DoesLocal T) (new_local old) calls it.kept)
        → exchanges_of T calls (new_local old) it.kept made
        ≡ asks_block kind s (own_answer output it.kept.refused)) (sym it.does.0)
        (one_read output (new_local old) it.kept refl) it.made
        ∙ ap (λ (o : Option Why). asks_block kind s (own_answer output o)) (sym it.refused_is)

  module _ (b : Block) where
    abbrev wrote : Result RMessage Why → Exchange
    wrote reply = (write b.kind b.bytes, reply)

    put_reply : (given : Score) (l mid : LocalState S)
        (d : DoesLocal T l (put b (Ok given)) mid) → d.reply ≡ Ok (r_write given.0)
    put_reply given l mid d = d.stands

    both : (given : Score) (l l' : LocalState S)
        (made : Makes (DoesLocal T) l (put b (Ok given) ∷ sync (Ok tt) ∷ []) l')
        → exchanges_of T (put b (Ok given) ∷ sync (Ok tt) ∷ []) l l' made
        ≡ wrote (Ok (r_write given.0)) ∷ (sync_all, Ok r_sync) ∷ []
    both given l l' made =
        let first : made.1.reply ≡ Ok (r_write given.0) = made.1.stands in
        let second : made.2.1.reply ≡ Ok r_sync = made.2.1.stands in
        rw (first, second) refl

    refused : (err : BlockErr) (l l' : LocalState S) → l.refused ≡ None
        → (made : Makes (DoesLocal T) l (put b (Err err) ∷ []) l')
        → ArePut b.kind b.bytes (own_answer (Err err) l'.refused)
        (exchanges_of T (put b (Err err) ∷ []) l l' made)
    refused err l l' none made =
        let why = made.1.stands.0 in
        let is : made.1.reply ≡ Err why = made.1.stands.1 in
        rw (told_first {T = Score} err l'.refused why
        (refused_first l made.0 l' (put b (Err err)) made.1 why is none made.2))
        (inl (ap (λ (r : Result RMessage Why). wrote r ∷ []) is))

    behind : (err : BlockErr) (given : Score) (l l' : LocalState S) → l.refused ≡ None
        → (made : Makes (DoesLocal T) l (put b (Ok given) ∷ sync (Err err) ∷ []) l')
        → ArePut b.kind b.bytes (own_answer (Err err) l'.refused)
        (exchanges_of T (put b (Ok given) ∷ sync (Err err) ∷ []) l l' made)
    behind err given l l' none made =
        let first : made.1.reply ≡ Ok (r_write given.0) = made.1.stands in
        let why = made.2.1.stands.0 in
        let is : made.2.1.reply ≡ Err why = made.2.1.stands.1 in
        rw (told_first {T = Score} err l'.refused why
        (refused_first made.0 made.2.0 l' (sync (Err err)) made.2.1 why is
        (unrefused l made.0 (put b (Ok given)) made.1 (r_write given.0) first none) made.2.2))
        (inr (given.0, rw (first, is) refl))

    written : (output : Result Score BlockErr) (calls : List Call) (l l' : LocalState S)
        → l.refused ≡ None → PutsOne b output calls → (made : Makes (DoesLocal T) l calls l')
        → ArePut b.kind b.bytes (own_answer output l'.refused) (exchanges_of T calls l l' made)
    written (Ok given) calls l l' none is made =
        subst (λ (cs : List Call). (made : Makes (DoesLocal T) l cs l')
        → exchanges_of T cs l l' made ≡ wrote (Ok (r_write given.0)) ∷ (sync_all, Ok r_sync) ∷ [])
        (sym is) (both given l l') made
    written (Err err) calls l l' none how made = ⊎_elim
        (λ is. subst (λ (cs : List Call). (made : Makes (DoesLocal T) l cs l')
        → ArePut b.kind b.bytes (own_answer (Err err) l'.refused) (exchanges_of T cs l l' made))
        (sym is) (refused err l l' none) made)
        (λ more. subst (λ (cs : List Call). (made : Makes (DoesLocal T) l cs l')
        → ArePut b.kind b.bytes (own_answer (Err err) l'.refused) (exchanges_of T cs l l' made))
        (sym more.1) (behind err more.0 l l' none) made)
        how

    pub written_asked : (score_of : List ℕ → List ℕ) (output : Result Score BlockErr)
        (why : Option Why) (asked : List Exchange) (old new : S)
        → DoesOnStore T (λ calls l l'. WritesOne score_of b output calls) why asked old new
        → ArePut b.kind b.bytes (own_answer output why) asked
    written_asked score_of output why asked old new it =
        rw (it.exchanges_are, it.refused_is)
        (written output it.calls (new_local old) it.kept refl it.does.0 it.made)
