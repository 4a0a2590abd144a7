-- An archive that was sent, block by block.
use Rattle.std.proofs.Common.{◌≡◌, ℕ, ◌+◌, ◌-◌, ◌^◌, ◌≤◌, min, None, Ok, Err, List, [], ◌∷◌, ◌++◌, length, map, refl, sym, ◌∙◌, ap, subst, arith}
use Rattle.vt_base.specs.Protocol.{TMessage, RMessage, t_ask, r_sync, r_write, sync as sync_all}
use Rattle.vt_client.specs.Clients.{ClientState}
use Rattle.vt_client.specs.Exchanges.{traffic_of}
use Rattle.vt_client.specs.Stores.{DoesAsClient}
use Rattle.vt_model.specs.History.{Block}
use Rattle.vt_tree.specs.Calls.{Call, get, put, sync, asked_of, refusal_of, refusals_of, write_of_block}
use Rattle.vt_use.specs.Members.{LinkOf}
use Rattle.vt_use.specs.Places.{holds_nothing}
use Rattle.vt_remote.specs.Exchanged.{Exchanged, exchange_of, sent_behind}
use Rattle.vt_remote.proofs.Calling.{accepted_first}
use Rattle.vac_write.specs.declared.archived.Archived.{Archived}
use Rattle.vac_write.specs.Archiving.{FolderRead, WritesArchive}
use Rattle.vac_store.specs.Sent.{IsSent, all_taken_in, as_messages, counted_blocks}

-- ---- the calls of an archive

-- a block that is written is known by its type and bytes
same_block : (x b : Block) → write_of_block x ≡ write_of_block b → x ≡ b
same_block x b is =
    let kinds : x.kind ≡ b.kind = cc in
    let bytes : x.bytes ≡ b.bytes = cc in
    λ i. record { kind = kinds i; bytes = bytes i }

none_asked : (calls : List Call) → map asked_of calls ≡ [] → calls ≡ []
none_asked [] none = refl
none_asked (call ∷ calls) none = let never : ⊥ = cc in absurd never

module _ (score_of : List ℕ → List ℕ) where
  abbrev spoken : List Block → List (TMessage × RMessage)
  spoken blocks = as_messages (all_taken_in score_of blocks)

  said_put : (call : Call) (b : Block) → asked_of call ≡ write_of_block b
      → exchange_of score_of call ≡ (t_ask (write_of_block b), r_write (score_of b.bytes))
  said_put (put x answer) b is =
      ap (λ (y : Block). (t_ask (write_of_block y), r_write (score_of y.bytes))) (same_block x b is)
  said_put (get kind s answer) b is = let never : ⊥ = cc in absurd never
  said_put (sync answer) b is = let never : ⊥ = cc in absurd never

  said_sync : (call : Call) → asked_of call ≡ sync_all
      → exchange_of score_of call ≡ (t_ask sync_all, r_sync)
  said_sync (put x answer) is = let never : ⊥ = cc in absurd never
  said_sync (get kind s answer) is = let never : ⊥ = cc in absurd never
  said_sync (sync answer) is = refl

  said_are : (blocks : List Block) (calls : List Call)
      → map asked_of calls ≡ map write_of_block blocks ++ sync_all ∷ []
      → map (exchange_of score_of) calls ≡ spoken blocks
  said_are [] [] asked = let never : ⊥ = cc in absurd never
  said_are [] (call ∷ calls) asked =
      let first : asked_of call ≡ sync_all = cc in
      let rest : map asked_of calls ≡ [] = cc in
      let end = none_asked calls rest in
      let one = said_sync call first in
      λ i. one i ∷ map (exchange_of score_of) (end i)
  said_are (b ∷ blocks) [] asked = let never : ⊥ = cc in absurd never
  said_are (b ∷ blocks) (call ∷ calls) asked =
      let first : asked_of call ≡ write_of_block b = cc in
      let rest : map asked_of calls ≡ map write_of_block blocks ++ sync_all ∷ [] = cc in
      let one = said_put call b first in
      let more = said_are blocks calls rest in
      λ i. one i ∷ more i

-- ---- how many they are

-- each block that was taken in counts
sent_are : (blocks : List Block) (calls : List Call) (n : ℕ) → refusals_of calls ≡ []
    → map asked_of calls ≡ map write_of_block blocks ++ sync_all ∷ [] → n ≤ 2 ^ 64 - 1
    → sent_behind calls n ≡ min (n + length blocks) (2 ^ 64 - 1)
sent_are [] [] n accepted asked fits = let never : ⊥ = cc in absurd never
sent_are [] (call ∷ calls) n accepted asked fits =
    let first : asked_of call ≡ sync_all = cc in
    let rest : map asked_of calls ≡ [] = cc in
    of call (none_asked calls rest) first
  where
    of : (x : Call) → calls ≡ [] → asked_of x ≡ sync_all
        → sent_behind (x ∷ calls) n ≡ min (n + 0) (2 ^ 64 - 1)
    of (put b answer) end is = let never : ⊥ = cc in absurd never
    of (get kind s answer) end is = let never : ⊥ = cc in absurd never
    of (sync answer) end is =
        ap (λ (cs : List Call). sent_behind cs n) end ∙ omega (arith, fits)
sent_are (b ∷ blocks) [] n accepted asked fits = let never : ⊥ = cc in absurd never
sent_are (b ∷ blocks) (call ∷ calls) n accepted asked fits =
    let first : asked_of call ≡ write_of_block b = cc in
    let rest : map asked_of calls ≡ map write_of_block blocks ++ sync_all ∷ [] = cc in
    let two = accepted_first call calls accepted in
    of call two.0 first
    (sent_are blocks calls (min (n + 1) (2 ^ 64 - 1)) two.1 rest (omega arith))
  where
    of : (x : Call) → refusal_of x ≡ None → asked_of x ≡ write_of_block b
        → sent_behind calls (min (n + 1) (2 ^ 64 - 1))
        ≡ min (min (n + 1) (2 ^ 64 - 1) + length blocks) (2 ^ 64 - 1)
        → sent_behind (x ∷ calls) n ≡ min (n + length (b ∷ blocks)) (2 ^ 64 - 1)
    of (put y (Ok given)) none is more = more ∙ omega arith
    of (put y (Err err)) none is more = let never : ⊥ = cc in absurd never
    of (get kind s answer) none is more = let never : ⊥ = cc in absurd never
    of (sync answer) none is more = let never : ⊥ = cc in absurd never

-- ---- what was told

module _ {L : Type 0} (link : LinkOf L) (score_of : List ℕ → List ℕ) (bsize : ℕ)
    (folder : FolderRead) (archived : Archived) (c c' : ClientState L) (back : L)
    (w : WritesArchive (DoesAsClient link score_of) holds_nothing score_of c c' bsize folder archived)
  where
    pub is_sent : (calls : List Call) → w.calls ≡ calls
        → (refusals_of calls ≡ []
        → Exchanged (map (exchange_of score_of) calls) (traffic_of link back))
        → c'.sent ≡ sent_behind calls 0
        → IsSent score_of bsize folder (record { archived = archived; blocks = c'.sent })
        (traffic_of link back)
    is_sent calls are exchanged sent = record {
      tried = w.tried;
      is = w.is;
      fit = w.fit;
      few = w.few;
      times = w.times;
      score_is = w.score;
      left_out = w.left_out;
      failed = w.failed;
      all = w.all;
      puts = w.puts;
      exchanged = subst (λ (all : List (TMessage × RMessage)). Exchanged all (traffic_of link back))
          (ap (map (exchange_of score_of)) (sym are) ∙ said_are score_of w.all w.calls w.asked)
          (exchanged (ap refusals_of (sym are) ∙ w.accepted));
      many = sent ∙ ap (λ (cs : List Call). sent_behind cs 0) (sym are)
          ∙ sent_are w.all w.calls 0 w.accepted w.asked (omega arith)
          ∙ ap counted_blocks (omega arith);
    }
