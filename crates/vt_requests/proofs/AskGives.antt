-- What a request of a session that waits for nothing is given at once, whatever the devices hold.
use Rattle.std.proofs.Common.{◌≡◌, ◌≢◌, ◌⊎◌, ⊎_elim, inl, inr, ◌+◌, ◌<◌, ◌≤◌, ℕ, Bool, true, false, cond, List, [], length, Option, Some, None, Result, Ok, Err, refl, sym, ◌∙◌, ap, subst, arith}
use Rattle.std.proofs.lemmas.Bool.{cases_Bool, cases_lt, ltb-false, le-ltb, lt-ltb, false≢true, true≢false}
use Rattle.std.proofs.lemmas.Slice.Eq.{bytes_eq-Decides}
use Rattle.std.specs.Prelude.{MatchBool, nat_le, nat_lt, not, ◌==◌, is_some, slice_get}
use Rattle.std.specs.Str.{bytes_eq}
use Rattle.std.proofs.lemmas.List.{nil_from_length}
use Rattle.vt_base.specs.declared.TheConstants.{MAX_BLOCK}
use Rattle.vt_base.specs.declared.answer.Said.{Said}
use Rattle.vt_base.specs.declared.answer.Said.TheVariants.{Score, Block, Synced, Refused}
use Rattle.vt_base.specs.declared.operation.Operation.{Operation as Asked}
use Rattle.vt_base.specs.declared.operation.Operation.TheVariants.{Read, Write, Sync}
use Rattle.vt_base.specs.declared.score.Score.{Score as ScoreOf}
use Rattle.vt_base.specs.declared.why.Why.{Why}
use Rattle.vt_base.specs.declared.why.Why.TheVariants.{Stopped, NoMemory, Collision, TooSmall, Absent}
use Rattle.vt_base.specs.declared.why.Why.TheVariants as whys
use Rattle.vt_base.specs.Kind.{is_kind}
use Rattle.vt_base.specs.Protocol.{Operation, ping, read, write, sync, r_read, r_write, r_error}
use Rattle.vt_disk.specs.Members.{DiskOf}
use Rattle.vt_model.specs.Answer.{Outcome, adds, answer, collides, lends, refuses, replies}
use Rattle.vt_model.specs.History.{held}
use Rattle.vt_model.specs.Places.{Setup, bucket_count, bucket_of, crowd, next_arena}
use Rattle.vt_model.specs.declared.TheConstants.{BUCKET_ROOM}
use Rattle.vt_log.specs.declared.TheConstants.{QUEUE_MAX}
use Rattle.vt_log.specs.Log.{LogState, queued}
use Rattle.vt_model.specs.Causes.{ReachesParts}
use Rattle.vt_shard.specs.Shard.{ShardState}
use Rattle.vt_shard.specs.declared.TheConstants.{ROOM}
use Rattle.vt_core.specs.declared.event.Out.{Out}
use Rattle.vt_core.specs.declared.event.Out.TheVariants.{Waits, NotYet}
use Rattle.vt_lookup.specs.declared.writing.Verdict.{Verdict}
use Rattle.vt_lookup.specs.declared.writing.Verdict.TheVariants.{Held, New}
use Rattle.vt_core.specs.Asking.{EndsWrite, Performs, AnswersOperation, AnswersWriteOperation, lent, says, shard_of, stop_for, with_parts, with_waiting}
use Rattle.vt_core.specs.Core.{CoreState, history_len, setup_of}
use Rattle.vt_base.specs.Operations.{operation_of, reply_saying}
use Rattle.vt_lookup.specs.Finding.{StoreParts, Sought}
use Rattle.vt_handler.specs.Serving.{Suits}
use Rattle.vt_requests.proofs.TestKeeps.{test_keeps}

-- what is asked of a store is no ping
pub never_ping : (asked : Asked) → operation_of asked ≢ ping
never_ping (Read score kind count) is = cc
never_ping (Write kind bytes) is = cc
never_ping Sync is = cc

-- ---- whether it reaches the store's parts

pub reaches_or_not : (score : List ℕ → List ℕ) (m : Operation) → ReachesParts score m ⊎ ¬ ReachesParts score m
reaches_or_not score ping = inr (λ no. no)
reaches_or_not score sync = inl tt
reaches_or_not score (read s kind count) = by_tests (is_kind kind) (bytes_eq s (score [])) refl refl
  where
    by_tests : (k z : Bool) → is_kind kind ≡ k → bytes_eq s (score []) ≡ z → ReachesParts score (read s kind count) ⊎ ¬ ReachesParts score (read s kind count)
    by_tests true false known other = inl (known, λ same. true≢false (sym ((bytes_eq-Decides s (score [])).1 same) ∙ other))
    by_tests true true known zero = inr (λ it. it.1 ((bytes_eq-Decides s (score [])).0 zero))
    by_tests false z unknown other = inr (λ it. false≢true (sym unknown ∙ it.0))
reaches_or_not score (write kind bytes) = by_tests (is_kind kind) refl (cases_lt 0 (length bytes)) (cases_lt MAX_BLOCK (length bytes))
  where
    by_tests : (k : Bool) → is_kind kind ≡ k → (0 < length bytes) ⊎ (length bytes ≤ 0) → (MAX_BLOCK < length bytes) ⊎ (length bytes ≤ MAX_BLOCK)
        → ReachesParts score (write kind bytes) ⊎ ¬ ReachesParts score (write kind bytes)
    by_tests true known (inl some) (inr most) = inl (record { kind = known; some = some; most = most })
    by_tests true known (inl some) (inl long) = inr (λ it. omega (arith, it.most, long))
    by_tests true known (inr none) most = inr (λ it. omega (arith, it.some, none))
    by_tests false unknown some most = inr (λ it. false≢true (sym unknown ∙ it.kind))

-- ---- what is said

-- an answer at once
pub record IsSaid {D : Type 0} (score : List ℕ → List ℕ) (m : Operation) (out : Out) (old new : CoreState D) : Type 0 where
  pub said : Said
  pub out_is : out ≡ says said old
  pub suits : Suits score m said
  pub other : said ≢ Synced
  pub waiting : new.waiting ≡ old.waiting

-- a block that finds no room, in a store none of whose parts stopped to which it is written
pub record FindsNoRoom {D : Type 0} (score : List ℕ → List ℕ) (m : Operation) (out : Out) (old new : CoreState D) : Type 0 where
  pub kind : ℕ
  pub bytes : List ℕ
  pub m_is : m ≡ write kind bytes
  pub out_is : out ≡ NotYet
  pub reaches : ReachesParts score m
  pub goes : stop_for score old m ≡ None
  pub shard : ShardState D
  pub at : slice_get old.shards (shard_of old (score bytes)) ≡ Some shard
  pub full : (queued old.log ≡ QUEUE_MAX) ⊎ (length shard.index.dirty ≡ ROOM)
  pub waiting : new.waiting ≡ old.waiting
  pub len : history_len new ≡ history_len old

-- a sync that waits, of a log that hasn't stopped
pub record IsWaiting {D : Type 0} (score : List ℕ → List ℕ) (session : ℕ) (m : Operation) (out : Out) (old new : CoreState D) : Type 0 where
  pub m_is : m ≡ sync
  pub out_is : out ≡ Waits
  pub goes : old.log.stopped ≡ None
  pub new_is : new ≡ with_waiting session (Some (history_len old)) old

abbrev pub Given : {D : Type 0} → (List ℕ → List ℕ) → (session : ℕ) → Operation → Out → (old new : CoreState D) → Type 0
Given score session m out old new = IsSaid score m out old new ⊎ FindsNoRoom score m out old new ⊎ IsWaiting score session m out old new

-- ---- an operation that needs no part of the store

says_read : (said : Said) (bytes : List ℕ) → reply_saying said ≡ r_read bytes → said ≡ Block bytes
says_read (Score s) bytes is = absurd (cc)
says_read (Block b) bytes is = cc
says_read Synced bytes is = absurd (cc)
says_read (Refused why) bytes is = absurd (cc)

says_write : (said : Said) (s : List ℕ) → reply_saying said ≡ r_write s → (given : ScoreOf) × (said ≡ Score given) × (given.0 ≡ s)
says_write (Score given) s is = (given, refl, cc)
says_write (Block b) s is = absurd (cc)
says_write Synced s is = absurd (cc)
says_write (Refused why) s is = absurd (cc)

says_error : (said : Said) (text : List ℕ) → reply_saying said ≡ r_error text → (why : Why) × (said ≡ Refused why)
says_error (Score given) text is = absurd (cc)
says_error (Block b) text is = absurd (cc)
says_error Synced text is = absurd (cc)
says_error (Refused why) text is = (why, refl)

abbrev Fits : (List ℕ → List ℕ) → Operation → Said → Type 0
Fits score m said = Suits score m said × (said ≢ Synced)

fits_refused : (score : List ℕ → List ℕ) (m : Operation) (said : Said) (text : List ℕ) → reply_saying said ≡ r_error text → Fits score m said
fits_refused score m said text is = let it = says_error said text is in subst (λ (x : Said). Fits score m x) (sym it.1) (suits_refused m it.0, λ e. cc)
  where
    suits_refused : (m : Operation) (why : Why) → Suits score m (Refused why)
    suits_refused ping why = tt
    suits_refused (read s kind count) why = tt
    suits_refused (write kind bytes) why = tt
    suits_refused sync why = tt

-- the model's answer to a block, on no history
abbrev stored : (List ℕ → List ℕ) → Setup → (bytes : List ℕ) → (kind : ℕ) → Outcome
stored score c bytes kind =
    cond (collides score [] bytes) (refuses whys.Collision)
    (cond (is_some (held score [] (score bytes) kind)) (replies (r_write (score bytes)))
    (cond (nat_le BUCKET_ROOM (crowd score (bucket_count c) [] (bucket_of (bucket_count c) (score bytes)))) (refuses whys.IndexFull)
    (adds (score bytes) kind bytes (next_arena c [] (length bytes)))))

-- and by its first tests
abbrev tested : (List ℕ → List ℕ) → Setup → (bytes : List ℕ) → (kind : ℕ) → (k t z : Bool) → Outcome
tested score c bytes kind k t z = cond (not k) (refuses whys.BadType) (cond t (refuses whys.TooBig) (cond z (replies (r_write (score []))) (stored score c bytes kind)))

early_fits : (score : List ℕ → List ℕ) (c : Setup) (m : Operation) (said : Said) → m ≢ ping → ¬ ReachesParts score m → reply_saying said ≡ (answer score c [] m).reply → Fits score m said
early_fits score c ping said other far is = absurd (other refl)
early_fits score c sync said other far is = absurd (far tt)
early_fits score c (read s kind count) said other far is = ⊎_elim
    (λ known. ⊎_elim
    (λ zero. of_zero (ap (λ (k : Bool). (cond (not k) (refuses whys.BadType) (lends count (held score [] s kind))).reply) known
    ∙ ap (λ (z : Bool). (lends count (cond z (Some []) None)).reply) zero))
    (λ some. absurd (far (known, λ same. true≢false (sym ((bytes_eq-Decides s (score [])).1 same) ∙ some))))
    (cases_Bool (bytes_eq s (score []))))
    (λ unknown. fits_refused score (read s kind count) said _
    (is ∙ ap (λ (k : Bool). (cond (not k) (refuses whys.BadType) (lends count (held score [] s kind))).reply) unknown))
    (cases_Bool (is_kind kind))
  where
    of_zero : (answer score c [] (read s kind count)).reply ≡ (lends count (Some [])).reply → Fits score (read s kind count) said
    of_zero to =
        let none : nat_lt count 0 ≡ false = le-ltb count 0 (omega arith) in
        let block : said ≡ Block [] = says_read said [] (is ∙ to ∙ ap (λ (b : Bool). (cond b (refuses whys.TooSmall) (replies (r_read []))).reply) none) in
        subst (λ (x : Said). Fits score (read s kind count) x) (sym block) (omega arith, λ e. cc)
early_fits score c (write kind bytes) said other far is = ⊎_elim
    (λ known. ⊎_elim
    (λ long. fits_refused score (write kind bytes) said _ (is ∙ ap (λ (k : Bool). (tested score c bytes kind k (nat_lt MAX_BLOCK (length bytes)) (length bytes == 0)).reply) known
    ∙ ap (λ (t : Bool). (tested score c bytes kind true t (length bytes == 0)).reply) (lt-ltb MAX_BLOCK (length bytes) long)))
    (λ most. ⊎_elim
    (λ some. absurd (far (record { kind = known; some = some; most = most })))
    (λ none. of_none (nil_from_length bytes (omega (arith, none)))
    (ap (λ (k : Bool). (tested score c bytes kind k (nat_lt MAX_BLOCK (length bytes)) (length bytes == 0)).reply) known
    ∙ ap (λ (t : Bool). (tested score c bytes kind true t (length bytes == 0)).reply) (le-ltb MAX_BLOCK (length bytes) most)))
    (cases_lt 0 (length bytes)))
    (cases_lt MAX_BLOCK (length bytes)))
    (λ unknown. fits_refused score (write kind bytes) said _ (is ∙ ap (λ (k : Bool). (tested score c bytes kind k (nat_lt MAX_BLOCK (length bytes)) (length bytes == 0)).reply) unknown))
    (cases_Bool (is_kind kind))
  where
    of_none : bytes ≡ [] → (answer score c [] (write kind bytes)).reply ≡ (tested score c bytes kind true false (length bytes == 0)).reply → Fits score (write kind bytes) said
    of_none empty to =
        let it = says_write said (score []) (is ∙ to ∙ ap (λ (b : List ℕ). (tested score c bytes kind true false (length b == 0)).reply) empty) in
        subst (λ (x : Said). Fits score (write kind bytes) x) (sym it.1) (it.2 ∙ ap score (sym empty), λ e. cc)

-- ---- what a request is given

lent_fits : (score : List ℕ → List ℕ) (s : List ℕ) (kind count : ℕ) (block : Sought) → Fits score (read s kind count) (lent count block)
lent_fits score s kind count (Err why) = (tt, λ e. cc)
lent_fits score s kind count (Ok None) = (tt, λ e. cc)
lent_fits score s kind count (Ok (Some bytes)) = ⊎_elim
    (λ small. subst (λ (b : Bool). Fits score (read s kind count) (cond b (Refused TooSmall) (Block bytes))) (sym small) (tt, λ e. cc))
    (λ fits. subst (λ (b : Bool). Fits score (read s kind count) (cond b (Refused TooSmall) (Block bytes))) (sym fits) (ltb-false count (length bytes) fits, λ e. cc))
    (cases_Bool (nat_lt count (length bytes)))

module _ {D : Type 0} (score : List ℕ → List ℕ) (disk : DiskOf D) (session now : ℕ) (out : Out) (old new : CoreState D) where
  at_once : (m : Operation) (said : Said) → out ≡ says said old → Fits score m said → new.waiting ≡ old.waiting → Given score session m out old new
  at_once m said is fits waiting = inl (record { said = said; out_is = is; suits = fits.0; other = fits.1; waiting = waiting })

  same_waits : new ≡ old → new.waiting ≡ old.waiting
  same_waits same = ap (λ (k : CoreState D). k.waiting) same

  parts_wait : (shard : ℕ) (p : StoreParts D) → new ≡ with_parts shard p old → new.waiting ≡ old.waiting
  parts_wait shard p same = ap (λ (k : CoreState D). k.waiting) same

  -- a block that was tested
  wrote : (kind : ℕ) (bytes : List ℕ) → ReachesParts score (write kind bytes) → stop_for score old (write kind bytes) ≡ None
      → (w : AnswersWriteOperation score disk (record { score = record { 0 = score bytes }; kind = kind }) bytes now out old new) → (v : Result Verdict Why) → w.verdict ≡ v
      → EndsWrite score (record { score = record { 0 = score bytes }; kind = kind }) bytes now v w.tested out old new → Given score session (write kind bytes) out old new
  wrote kind bytes reaches goes w (Err why) is ends = at_once (write kind bytes) (Refused why) ends.0 (tt, λ e. cc) (parts_wait (shard_of old (score bytes)) w.tested ends.1)
  wrote kind bytes reaches goes w (Ok Held) is ends = at_once (write kind bytes) (Score _) ends.0 (refl, λ e. cc) (parts_wait (shard_of old (score bytes)) w.tested ends.1)
  wrote kind bytes reaches goes w (Ok New) is ends = ⊎_elim
      (λ none.
      let kept = test_keeps score disk w.may_have (record { score = record { 0 = score bytes }; kind = kind }) bytes w.verdict w.before w.tested w.tests in
      let log : w.tested.log ≡ record old.log { disks = w.tested.log.disks } = kept.log ∙ ap (λ (l : LogState D). record l { disks = w.tested.log.disks }) w.looks.log in
      inr (inl (record {
        kind = kind;
        bytes = bytes;
        m_is = refl;
        out_is = none.1;
        reaches = reaches;
        goes = goes;
        shard = w.before.shard;
        at = w.looks.shard;
        full = ⊎_elim
            (λ queue. inl (sym (ap (λ (l : LogState D). queued l) log) ∙ queue))
            (λ dirty. inr (sym (ap (λ (infos : List _). length infos) kept.dirty) ∙ dirty)) none.0;
        waiting = parts_wait (shard_of old (score bytes)) w.tested none.2;
        len = ap (λ (k : CoreState D). history_len k) none.2 ∙ ap (λ (l : LogState D). l.durable + queued l) log;
      })))
      (λ rest. ⊎_elim
      (λ memory. at_once (write kind bytes) (Refused NoMemory) memory.1 (tt, λ e. cc) (parts_wait (shard_of old (score bytes)) w.tested memory.2))
      (λ adds. at_once (write kind bytes) (Score _) adds.out_is (refl, λ e. cc) (ap (λ (k : CoreState D). k.waiting) adds.new_is))
      rest)
      ends

  performed : (m : Operation) → ReachesParts score m → stop_for score old m ≡ None → Performs score disk session m now out old new → Given score session m out old new
  performed ping reaches goes it = absurd it
  performed (read s kind count) reaches goes it =
      at_once (read s kind count) (lent count it.2.block) (it.1 ∙ ap (λ (x : Said). says x old) it.2.said_is) (lent_fits score s kind count it.2.block) (ap (λ (k : CoreState D). k.waiting) it.2.new_is)
  performed (write kind bytes) reaches goes it = by_bool (bytes_eq (score bytes) (score [])) it
    where
      by_bool : (b : Bool) → MatchBool b ((out ≡ says (Refused Collision) old) × (new ≡ old)) (AnswersWriteOperation score disk (record { score = record { 0 = score bytes }; kind = kind }) bytes now out old new)
          → Given score session (write kind bytes) out old new
      by_bool true it = at_once (write kind bytes) (Refused Collision) it.0 (tt, λ e. cc) (same_waits it.1)
      by_bool false w = wrote kind bytes reaches goes w w.verdict refl w.ends
  performed sync reaches goes it = inr (inr (record { m_is = refl; out_is = it.0; goes = goes; new_is = it.1 }))

  stopped_said : (m : Operation) (call : ℕ) → m ≢ ping → out ≡ says (Refused (Stopped call)) old → new ≡ old → Given score session m out old new
  stopped_said ping call other is same = absurd (other refl)
  stopped_said (read s kind count) call other is same = at_once (read s kind count) (Refused (Stopped call)) is (tt, λ e. cc) (same_waits same)
  stopped_said (write kind bytes) call other is same = at_once (write kind bytes) (Refused (Stopped call)) is (tt, λ e. cc) (same_waits same)
  stopped_said sync call other is same = at_once sync (Refused (Stopped call)) is (tt, λ e. cc) (same_waits same)

  pub gives : (m : Operation) → m ≢ ping → AnswersOperation score disk session m now out old new → Given score session m out old new
  gives m other it = ⊎_elim
      (λ reaches. by_stop reaches (stop_for score old m) refl)
      (λ far. let early = it.early far in at_once m early.0 early.1 (early_fits score (setup_of old) m early.0 other far early.2) (same_waits early.3))
      (reaches_or_not score m)
    where
      by_stop : ReachesParts score m → (o : Option ℕ) → stop_for score old m ≡ o → Given score session m out old new
      by_stop reaches None is = performed m reaches is (it.performs reaches is)
      by_stop reaches (Some call) is = let stop = it.stopped reaches call is in stopped_said m call other stop.0 stop.1
