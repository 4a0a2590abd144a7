-- What a store holds behind the calls of an archiving.
use Rattle.std.proofs.Common.{◌≡◌, ⊎_elim, inl, inr, ℕ, Option, Some, None, Result, Ok, Err, IsTrue, List, [], ◌∷◌, ◌++◌, map, refl, sym, ◌∙◌, ap, subst}
use Rattle.std.specs.Prelude.{IfSome}
use Rattle.vt_base.specs.Protocol.{Operation, RMessage, write, sync as sync_all, r_sync, r_write, r_refused, why_words}
use Rattle.vt_base.specs.declared.score.Score.{Score}
use Rattle.vt_base.specs.declared.why.Why.{Why}
use Rattle.vt_disk.specs.Members.{DiskOf}
use Rattle.vt_model.specs.Answer.{answer, with_added}
use Rattle.vt_model.specs.History.{Accepted, Block, History, held}
use Rattle.vt_model.specs.Places.{Setup}
use Rattle.vt_model.proofs.Added.{added-refused}
use Rattle.vt_tree.specs.declared.error.BlockErr.{BlockErr}
use Rattle.vt_tree.specs.Calls.{Call, get, put, sync, asked_of, write_of_block}
use Rattle.vt_tree.specs.Making.{Makes, EndsBy}
use Rattle.vt_tree.specs.MapLaws.{Same, block_same}
use Rattle.vt_tree.specs.Maps.{with_block, with_blocks}
use Rattle.vt_handler.specs.Serving.{asked_of_store, reply_in}
use Rattle.vt_core.specs.Core.{setup_of}
use Rattle.vt_core.specs.Sound.{IsSound}
use Rattle.vt_requests.specs.Driven.{DrivenState, DoesRequest}
use Rattle.vt_use.specs.Answers.{HasFailed}
use Rattle.vt_use.specs.Stores.{store_on}
use Rattle.vt_use.specs.Blocks.{written_to}
use Rattle.vt_use.proofs.Answered.{Goes, request_goes}
use Rattle.vt_use.proofs.OneBlocks.{refused_first, unrefused}
use Rattle.vt_blocks.specs.Local.{DoesLocal, LocalState}
use Rattle.vac_store.specs.Storing.{IsRefusedFor, all_written}
use Rattle.vac_store.proofs.Last.{IsLastOr, ends_so, not_ended}
use Rattle.vac_store.proofs.Maps.{taken_map}

-- why the store said no, before which these blocks were still to be put
abbrev pub IsOwnRefusal : (List ℕ → List ℕ) → Setup → History → (rest : List Block) → Option Why
    → Type 0
IsOwnRefusal score c h rest None = ⊥
IsOwnRefusal score c h rest (Some why) = IsRefusedFor score c h rest why

-- ---- one call

module _ {D : Type 0} (score : List ℕ → List ℕ) (disk : DiskOf D) (tells : IsTrue disk.tells) where
  abbrev State : Type 0
  State = LocalState (DrivenState D)

  -- what the store was mounted with stays
  same_setup : (l l' : State) (m : Operation) (reply : Result RMessage Why)
      → DoesRequest score disk m reply l.store l'.store
      → setup_of l'.store.core ≡ setup_of l.store.core
  same_setup l l' m reply it = it.answers.keeps.store.setup

  -- a block that was taken in
  record TakesIn (b : Block) (h : History) (l l' : State) : Type 0 where
    sound : IsSound score disk l'.store.core
        (written_to score (setup_of l.store.core) h b.kind b.bytes)
    setup : setup_of l'.store.core ≡ setup_of l.store.core
    map : Same (held score (written_to score (setup_of l.store.core) h b.kind b.bytes))
        (with_block score b (held score h))
    unrefused : l.refused ≡ None → l'.refused ≡ None

  take_in : (b : Block) (given : Score) (h : History) (l l' : State)
      → IsSound score disk l.store.core h
      → DoesLocal (store_on score disk) l (put b (Ok given)) l' → TakesIn b h l l'
  take_in b given h l l' sound it =
      let m = write b.kind b.bytes in
      let reply : Result RMessage Why = Ok (r_write given.0) in
      let request = subst (λ (r : Result RMessage Why). DoesRequest score disk m r l.store l'.store)
      it.stands it.once in
      of (request_goes score disk tells m reply l.store l'.store h sound request) request
    where
      of : Goes score disk (setup_of l.store.core)
          (write b.kind b.bytes, Ok (r_write given.0)) h l'.store.core
          → DoesRequest score disk (write b.kind b.bytes) (Ok (r_write given.0)) l.store l'.store
          → TakesIn b h l l'
      of went request = ⊎_elim
          (λ model. record {
            sound = subst (IsSound score disk l'.store.core) model.1 went.sound;
            setup = same_setup l l' (write b.kind b.bytes) (Ok (r_write given.0)) request;
            map = taken_map score (setup_of l.store.core) h b given.0 (sym model.0);
            unrefused = λ none. unrefused (store_on score disk) l l' (put b (Ok given)) it
                (r_write given.0) it.stands none;
          })
          (λ failed. absurd failed.0) went.how

  -- a call that adds nothing: a sync, or one that is refused
  stay : (m : Operation) (reply : Result RMessage Why) (h : History) (l l' : State)
      → IsSound score disk l.store.core h → DoesRequest score disk m reply l.store l'.store
      → ((reply_in reply ≡ (answer score (setup_of l.store.core) h (asked_of_store m)).reply)
      → (answer score (setup_of l.store.core) h (asked_of_store m)).added ≡ None)
      → Goes score disk (setup_of l.store.core) (m, reply) h l'.store.core
      → IsSound score disk l'.store.core h
  stay m reply h l l' sound request none went =
      subst (IsSound score disk l'.store.core) (⊎_elim
      (λ model. model.1 ∙ ap (λ (o : Option Accepted). with_added h o) (none model.0))
      (λ failed. failed.1) went.how) went.sound

  -- what a refused call leaves, behind which these blocks are still to be put
  record Refused (rest : List Block) (h : History) (l l' : State) : Type 0 where
    sound : IsSound score disk l'.store.core h
    because : IsOwnRefusal score (setup_of l.store.core) h rest l'.refused

  refused_put : (b : Block) (more : List Block) (err : BlockErr) (h : History) (l l' : State)
      → IsSound score disk l.store.core h → l.refused ≡ None
      → DoesLocal (store_on score disk) l (put b (Err err)) l' → Refused (b ∷ more) h l l'
  refused_put b more err h l l' sound none it =
      let m = write b.kind b.bytes in
      let why = it.stands.0 in
      let request = subst (λ (r : Result RMessage Why). DoesRequest score disk m r l.store l'.store)
      it.stands.1 it.once in
      let went = request_goes score disk tells m (Err why) l.store l'.store h sound request in
      record {
        sound = stay m (Err why) h l l' sound request
            (λ is. added-refused score (setup_of l.store.core) h m (why_words why) (sym is)) went;
        because = subst (IsOwnRefusal score (setup_of l.store.core) h (b ∷ more))
            (sym (refused_first (store_on score disk) l l' l' (put b (Err err)) it why it.stands.1
            none refl))
            (⊎_elim (λ model. inl model.0) (λ failed. inr failed.0) went.how);
      }

  synced_so : (result : Result (Unit {0}) BlockErr) (h : History) (l l' : State)
      → IsSound score disk l.store.core h
      → DoesLocal (store_on score disk) l (sync result) l' → IsSound score disk l'.store.core h
  synced_so result h l l' sound it =
      stay sync_all it.reply h l l' sound it.once (λ is. refl)
      (request_goes score disk tells sync_all it.reply l.store l'.store h sound it.once)

  refused_sync : (err : BlockErr) (h : History) (l l' : State) → IsSound score disk l.store.core h
      → l.refused ≡ None → DoesLocal (store_on score disk) l (sync (Err err)) l'
      → IsOwnRefusal score (setup_of l.store.core) h [] l'.refused
  refused_sync err h l l' sound none it =
      let why = it.stands.0 in
      let request = subst (λ (r : Result RMessage Why). DoesRequest score disk sync_all r l.store
      l'.store) it.stands.1 it.once in
      subst (IsOwnRefusal score (setup_of l.store.core) h [])
      (sym (refused_first (store_on score disk) l l' l' (sync (Err err)) it why it.stands.1 none refl))
      (of why (request_goes score disk tells sync_all (Err why) l.store l'.store h sound request))
    where
      of : (why : Why)
          → Goes score disk (setup_of l.store.core) (sync_all, Err why) h l'.store.core
          → HasFailed (Err why)
      of why went = ⊎_elim
          (λ model. let no : r_refused why ≡ r_sync = model.0 in absurd (cc))
          (λ failed. failed.0) went.how

  -- ---- all of them

  -- What the store holds behind calls, of which the first so many blocks were taken in, and the
  -- last was refused so, if it was.
  pub record Holds (blocks : List Block) (none_left : Type 0) (err : Option BlockErr) (h : History)
      (l l' : State) : Type 0 where
    pub put : List Block
    pub rest : List Block
    pub are : put ++ rest ≡ blocks
    pub whole : none_left → rest ≡ []
    pub sound : IsSound score disk l'.store.core
        (all_written score (setup_of l.store.core) h put)
    pub map : Same (held score (all_written score (setup_of l.store.core) h put))
        (with_blocks score put (held score h))
    pub because : IfSome err (λ e. IsOwnRefusal score (setup_of l.store.core)
        (all_written score (setup_of l.store.core) h put) rest l'.refused)

  with_same : (blocks : List Block) (m n : List ℕ → ℕ → Option (List ℕ)) → Same m n
      → Same (with_blocks score blocks m) (with_blocks score blocks n)
  with_same [] m n same = same
  with_same (b ∷ blocks) m n same =
      with_same blocks (with_block score b m) (with_block score b n) (block_same score b m n same)

  -- nothing was taken in
  holds_none : (blocks : List Block) (none_left : Type 0) (err : Option BlockErr) (h : History)
      (l l' : State) → (none_left → blocks ≡ []) → IsSound score disk l'.store.core h
      → IfSome err (λ e. IsOwnRefusal score (setup_of l.store.core) h blocks l'.refused)
      → Holds blocks none_left err h l l'
  holds_none blocks none_left err h l l' whole sound because = record {
    put = [];
    rest = blocks;
    are = refl;
    whole = whole;
    sound = sound;
    map = λ s kind. refl;
    because = because;
  }

  -- one more in front
  holds_more : (b : Block) (blocks : List Block) (none_left : Type 0) (err : Option BlockErr)
      (h : History) (l mid l' : State) → TakesIn b h l mid
      → Holds blocks none_left err (written_to score (setup_of l.store.core) h b.kind b.bytes) mid
      l'
      → Holds (b ∷ blocks) none_left err h l l'
  holds_more b blocks none_left err h l mid l' first then =
      let more = written_to score (setup_of l.store.core) h b.kind b.bytes in record {
        put = b ∷ then.put;
        rest = then.rest;
        are = ap (λ (bs : List Block). b ∷ bs) then.are;
        whole = then.whole;
        sound = subst (λ (c : Setup). IsSound score disk l'.store.core
            (all_written score c more then.put)) first.setup then.sound;
        map = λ s kind.
            subst (λ (c : Setup). held score (all_written score c more then.put) s kind
            ≡ with_blocks score then.put (held score more) s kind) first.setup (then.map s kind)
            ∙ with_same then.put (held score more) (with_block score b (held score h)) first.map s
            kind;
        because = subst (λ (c : Setup). IfSome err (λ e. IsOwnRefusal score c
            (all_written score c more then.put) then.rest l'.refused)) first.setup then.because;
      }

  -- an operation that is asked for first
  asks_first : (call : Call) (calls : List Call) (m : Operation) (left rest : List Operation)
      → map asked_of (call ∷ calls) ++ rest ≡ m ∷ left
      → (asked_of call ≡ m) × (map asked_of calls ++ rest ≡ left)
  asks_first call calls m left rest asked = (cc, cc)

  none_asked : (calls : List Call) (rest : List Operation) → map asked_of calls ++ rest ≡ []
      → (calls ≡ []) × (rest ≡ [])
  none_asked [] rest asked = (refl, asked)
  none_asked (call ∷ calls) rest asked = let never : ⊥ = cc in absurd never

  not_none : (blocks : List Block) → map write_of_block blocks ++ sync_all ∷ [] ≡ [] → ⊥
  not_none [] is = cc
  not_none (b ∷ blocks) is = cc

  -- no call, of which none was refused
  none_ended : (err : Option BlockErr) → EndsBy err [] → (P : Type 0) → IfSome err (λ e. P)
  none_ended None ends P = tt
  none_ended (Some e) ends P = absurd (not_ended ends.before ends.last ends.are)

  -- the last call was answered
  none_refused : (err : Option BlockErr) → None ≡ err → (P : Type 0) → IfSome err (λ e. P)
  none_refused None is P = tt
  none_refused (Some e) is P = let never : ⊥ = cc in absurd never

  some_refused : (err : Option BlockErr) (P : Type 0) → P → IfSome err (λ e. P)
  some_refused None P it = tt
  some_refused (Some e) P it = it

  pub puts_so : (err : Option BlockErr) (rest : List Operation) (blocks : List Block)
      (calls : List Call) (h : History) (l l' : State) → IsSound score disk l.store.core h
      → l.refused ≡ None → Makes (DoesLocal (store_on score disk)) l calls l' → EndsBy err calls
      → map asked_of calls ++ rest ≡ map write_of_block blocks ++ sync_all ∷ []
      → Holds blocks (rest ≡ []) err h l l'
  puts_so err rest blocks [] h l l' sound none made ends asked =
      holds_none blocks (rest ≡ []) err h l l'
      (λ none. absurd (not_none blocks (sym asked ∙ none)))
      (subst (λ (x : State). IsSound score disk x.store.core h) (sym made) sound)
      (none_ended err ends (IsOwnRefusal score (setup_of l.store.core) h blocks l'.refused))
  puts_so err rest [] (call ∷ calls) h l l' sound none made ends asked =
      let two = asks_first call calls sync_all [] rest asked in
      let end = none_asked calls rest two.1 in
      let stays = subst (λ (cs : List Call). Makes (DoesLocal (store_on score disk)) made.0 cs l')
      end.0 made.2 in
      holds_none [] (rest ≡ []) err h l l' (λ none. refl)
      (subst (λ (x : State). IsSound score disk x.store.core h) (sym stays)
      (of call made.1 two.0))
      (subst (λ (x : State). IfSome err (λ e. IsOwnRefusal score (setup_of l.store.core) h []
      x.refused)) (sym stays) (why call made.1 two.0 (ends_so err call calls ends)))
    where
      of : (x : Call) → DoesLocal (store_on score disk) l x made.0 → asked_of x ≡ sync_all
          → IsSound score disk made.0.store.core h
      of (get kind s told) does is = let never : ⊥ = cc in absurd never
      of (put b told) does is = let never : ⊥ = cc in absurd never
      of (sync told) does is = synced_so told h l made.0 sound does

      answered : (P : Type 0) → IsLastOr err (sync (Ok tt)) calls → IfSome err (λ e. P)
      answered P (inl goes_on) =
          none_ended err (subst (EndsBy err) (none_asked calls rest
          (asks_first call calls sync_all [] rest asked).1).0 goes_on.1) P
      answered P (inr end) = none_refused err end.1 P

      why : (x : Call) → DoesLocal (store_on score disk) l x made.0 → asked_of x ≡ sync_all
          → IsLastOr err x calls → IfSome err (λ e. IsOwnRefusal score (setup_of l.store.core) h []
          made.0.refused)
      why (get kind s told) does is last = let never : ⊥ = cc in absurd never
      why (put b told) does is last = let never : ⊥ = cc in absurd never
      why (sync (Ok done)) does is last =
          answered (IsOwnRefusal score (setup_of l.store.core) h [] made.0.refused) last
      why (sync (Err e)) does is last =
          some_refused err (IsOwnRefusal score (setup_of l.store.core) h [] made.0.refused)
          (refused_sync e h l made.0 sound none does)
  puts_so err rest (b ∷ blocks) (call ∷ calls) h l l' sound none made ends asked =
      let two = asks_first call calls (write_of_block b) (map write_of_block blocks ++ sync_all ∷ []) rest asked
      in of call made.1 two.0 (ends_so err call calls ends) two.1
      (puts_so err rest blocks calls
      (written_to score (setup_of l.store.core) h b.kind b.bytes) made.0 l')
    where
      taken : (given : Score) (x : Block)
          → DoesLocal (store_on score disk) l (put x (Ok given)) made.0 → x ≡ b
          → TakesIn b h l made.0
      taken given x does is = subst (λ (y : Block). TakesIn y h l made.0) is
          (take_in x given h l made.0 sound does)

      same_block : (x : Block) → write_of_block x ≡ write_of_block b → x ≡ b
      same_block x is =
          let kinds : x.kind ≡ b.kind = cc in
          let bytes : x.bytes ≡ b.bytes = cc in
          λ i. record { kind = kinds i; bytes = bytes i }

      -- the first block is refused, and nothing is asked for behind it
      refused : (x : Block) (e : BlockErr)
          → DoesLocal (store_on score disk) l (put x (Err e)) made.0 → x ≡ b
          → Refused (b ∷ blocks) h l made.0
      refused x e does is = subst (λ (y : Block). Refused (y ∷ blocks) h l made.0) is
          (refused_put x blocks e h l made.0 sound none does)

      ended : calls ≡ [] → made.0 ≡ l'
      ended end = sym (subst (λ (cs : List Call). Makes (DoesLocal (store_on score disk)) made.0 cs
          l') end made.2)

      some_left : calls ≡ [] → map asked_of calls ++ rest ≡ map write_of_block blocks ++ sync_all ∷ []
          → rest ≡ [] → ⊥
      some_left end left none = not_none blocks (sym left
          ∙ subst (λ (cs : List Call). map asked_of cs ++ rest ≡ []) (sym end) none)

      of : (x : Call) → DoesLocal (store_on score disk) l x made.0 → asked_of x ≡ write_of_block b
          → IsLastOr err x calls
          → map asked_of calls ++ rest ≡ map write_of_block blocks ++ sync_all ∷ []
          → (then : IsSound score disk made.0.store.core
          (written_to score (setup_of l.store.core) h b.kind b.bytes)
          → made.0.refused ≡ None
          → Makes (DoesLocal (store_on score disk)) made.0 calls l' → EndsBy err calls
          → map asked_of calls ++ rest ≡ map write_of_block blocks ++ sync_all ∷ []
          → Holds blocks (rest ≡ []) err
          (written_to score (setup_of l.store.core) h b.kind b.bytes) made.0 l')
          → Holds (b ∷ blocks) (rest ≡ []) err h l l'
      of (get kind s told) does is last left then = let never : ⊥ = cc in absurd never
      of (sync told) does is last left then = let never : ⊥ = cc in absurd never
      of (put x (Ok given)) does is last left then = elim last [
        | inl goes_on ↦
            let first = taken given x does (same_block x is) in
            holds_more b blocks (rest ≡ []) err h l made.0 l' first
            (then first.sound (first.unrefused none) made.2 goes_on.1 left)
        | inr end ↦
            let first = taken given x does (same_block x is) in
            holds_more b blocks (rest ≡ []) err h l made.0 l' first
            (holds_none blocks (rest ≡ []) err
            (written_to score (setup_of l.store.core) h b.kind b.bytes) made.0 l'
            (λ none. absurd (some_left end.0 left none))
            (subst (λ (y : State). IsSound score disk y.store.core
            (written_to score (setup_of l.store.core) h b.kind b.bytes)) (ended end.0)
            first.sound)
            (none_refused err end.1
            (IsOwnRefusal score (setup_of made.0.store.core)
            (written_to score (setup_of l.store.core) h b.kind b.bytes) blocks l'.refused)))
      ]
      of (put x (Err e)) does is last left then = elim last [
        | inl goes_on ↦ let never : ⊥ = cc (goes_on.0) in absurd never
        | inr end ↦
            let it = refused x e does (same_block x is) in
            holds_none (b ∷ blocks) (rest ≡ []) err h l l'
            (λ none. absurd (some_left end.0 left none))
            (subst (λ (y : State). IsSound score disk y.store.core h) (ended end.0) it.sound)
            (some_refused err
            (IsOwnRefusal score (setup_of l.store.core) h (b ∷ blocks) l'.refused)
            (subst (λ (y : State). IsOwnRefusal score (setup_of l.store.core) h (b ∷ blocks)
            y.refused)
            (ended end.0) it.because))
      ]
