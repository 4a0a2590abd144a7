-- What a session that asks is told by a store in memory, and what that leaves.
use Rattle.std.proofs.Common.{◌≡◌, ◌≢◌, ◌⊎◌, ⊎_elim, inl, inr, ◌+◌, ◌-◌, ◌<◌, ◌≤◌, ℕ, zero, suc, Bool, true, false, cond, List, [], ◌∷◌, ◌++◌, length, map, take, drop, Option, Some, None, Result, Ok, Err, refl, sym, ◌∙◌, ap, subst, arith, replicate, get_or}
use Rattle.std.proofs.lemmas.Bool.{cases_eq, eqb-true}
use Rattle.std.proofs.lemmas.Bool.Decides.{Decides-eqb}
use Rattle.std.proofs.lemmas.List.{length-append, length-drop, length-map, map-append, take-map, get_or-map, get_or-take, length-take}
use Rattle.std.proofs.lemmas.List.Elements.{All-contains, All-push, All-take, Contains-get_or}
use Rattle.std.proofs.lemmas.List.Quantifiers.{all_pairs_push}
use Rattle.std.proofs.lemmas.Map.Made.{IsDistinct-from_AllPairs}
use Rattle.std.proofs.lemmas.Map.Steps.{length-le_from_distinct_below}
use Rattle.std.proofs.lemmas.Map.Views.{Contains-from_any}
use Rattle.std.proofs.lemmas.Option.{same_Some, slice_get_within}
use Rattle.std.specs.List.{All, AllPairs, Contains}
use Rattle.std.specs.Prelude.{◌==◌, eqb, ⊤, IsSome, MatchBool, slice_get, slice_set}
use Rattle.vt_base.specs.declared.TheConstants.{MAX_BLOCK}
use Rattle.vt_base.specs.declared.answer.Answer.{Answer}
use Rattle.vt_base.specs.declared.answer.Said.{Said}
use Rattle.vt_base.specs.declared.answer.Said.TheVariants.{Score, Block, Synced, Refused}
use Rattle.vt_base.specs.declared.place.Entry.{Entry}
use Rattle.vt_base.specs.declared.place.Info.{Info}
use Rattle.vt_base.specs.declared.why.Why.{Why}
use Rattle.vt_base.specs.declared.why.Why.TheVariants.{BadType, TooBig, TooSmall, Absent, Collision, IndexFull, ArenasFull, DiskFault, Stopped, Damaged, NoMemory}
use Rattle.vt_base.specs.Protocol.{Operation, read, write, sync, r_read, r_write, r_refused}
use Rattle.vt_disk.specs.Members.{DiskOf}
use Rattle.vt_model.specs.Answer.{Outcome, adds}
use Rattle.vt_model.specs.History.{Accepted, Block as BlockOf, History}
use Rattle.vt_model.specs.Places.{Setup, next_arena}
use Rattle.vt_isect.specs.Agreement.{IsEntryOf}
use Rattle.vt_arena.specs.Arena.{ArenaState, added_by_commit, calls_made, commit_calls}
use Rattle.vt_clump.specs.Clumps.{stored_of}
use Rattle.vt_log.specs.declared.error.LogErr.{LogErr}
use Rattle.vt_log.specs.declared.error.LogErr.TheVariants as log_err
use Rattle.vt_log.specs.declared.error.Progress.{Progress}
use Rattle.vt_log.specs.declared.error.Progress.TheVariants.{Idle, Step as LogStep, Durable}
use Rattle.vt_log.specs.declared.queue.Waiting.{Waiting}
use Rattle.vt_log.specs.Answers.{LogAdvances}
use Rattle.vt_log.specs.Log.{LogState, queue_of, queued}
use Rattle.vt_log.specs.Logs.{accepted_in}
use Rattle.vt_log.specs.Owed.{calls_left, owed, seal_calls}
use Rattle.vt_log.specs.Queue.{waiting_block}
use Rattle.vt_shard.specs.Shard.{ShardState}
use Rattle.vt_model.specs.Causes.{MayFail, ReachesParts, Cause, disk_fault, stopped, damaged, no_memory, why_of}
use Rattle.vt_base.specs.declared.operation.Operation.{Operation as Asked}
use Rattle.vt_core.specs.declared.event.Event.TheVariants.{Answer as AskAnswer, LogAdvance}
use Rattle.vt_core.specs.declared.event.Out.{Out}
use Rattle.vt_core.specs.declared.event.Out.TheVariants.{Said as SaidOut, Waits, NotYet, Moved, Nothing, Failed}
use Rattle.vt_lookup.specs.declared.writing.Verdict.{Verdict}
use Rattle.vt_lookup.specs.declared.writing.Verdict.TheVariants.{Held, New}
use Rattle.vt_core.specs.Asking.{AnswersSync, EndsSync, EndsWrite, HasNoRoom, AnswersOperation, AnswersWriteOperation, says, shard_of, stop_for}
use Rattle.vt_lookup.specs.Finding.{StoreParts}
use Rattle.vt_requests.proofs.TestKeeps.{KeepsRoom, test_keeps}
use Rattle.vt_base.specs.declared.key.Key.{Key}
use Rattle.std.specs.Str.{bytes_eq}
use Rattle.vt_core.specs.Core.{CoreState, history_len, machine_of, setup_of}
use Rattle.vt_base.specs.Operations.{operation_of}
use Rattle.vt_core.specs.Events.{EndsWaiting, FailsIn, GivesAnswer, IsAsked, IsAwaited}
use Rattle.vt_core.specs.Machine.{Machine}
use Rattle.vt_core.specs.Steps.{Steps}
use Rattle.vt_core.specs.Work.{out_of_progress}
use Rattle.vt_recover.proofs.Places.{get_set}
use Rattle.vt_rehearse.specs.Rehearsal.{AsksForOperation, IsWritten, asked_by, listed_after}
use Rattle.vt_rehearse.specs.Stage.{HasWords, IsFilled, IsMemory, IsSteady, none_waits}
use Rattle.vt_rehearse.specs.Words.{AreApart, block_of_word, word_of}
use Rattle.vt_rehearse.proofs.Judging.{found_answer, given_block, given_reply, held_answer, missing_answer, new_answer, says_absent, says_block, says_score, word_short, word_some}
use Rattle.vt_rehearse.proofs.Listed.{few_words, first_has, first_is, rest_has}
use Rattle.vt_rehearse.proofs.Room.{filled_more, has_room}
use Rattle.vt_rehearse.proofs.Stepping.{Stays, Stepped, len_is, log_goes, no_fault, no_stop, none_at, only_memory, stays, stepped}

-- ---- lists of words

pub has_or_lacks : (listed : List ℕ) (w : ℕ) → Contains listed w ⊎ ¬ Contains listed w
has_or_lacks [] w = inr (λ it. let lt = it.1 in omega (arith, lt))
has_or_lacks (v ∷ vs) w = ⊎_elim
    (λ own. inl (subst (λ (x : ℕ). Contains (v ∷ vs) x) own (first_has v vs)))
    (λ other. ⊎_elim
    (λ has. inl (rest_has v w vs has))
    (λ lacks. inr (λ it. ⊎_elim other lacks (first_is v w vs it)))
    (has_or_lacks vs w))
    (cases_eq v w)

push_words : (h : History) (listed : List ℕ) (w arena : ℕ) → w < 64 → HasWords h listed → ¬ Contains listed w
    → HasWords (h ++ record { block = block_of_word w; arena = arena } ∷ []) (listed ++ w ∷ [])
push_words h listed w arena below has lacks = record {
  blocks = map-append (λ (e : Accepted). e.block) h _ ∙ ap (λ (bs : List BlockOf). bs ++ block_of_word w ∷ []) has.blocks ∙ sym (map-append block_of_word listed (w ∷ []));
  words = All-push (λ v. v < 64) listed w has.words below;
  once = all_pairs_push (λ v x. v ≢ x) listed w has.once (λ k d lt same. lacks (subst (λ (x : ℕ). Contains listed x) same (Contains-get_or listed k d lt)));
}

pub take_words : (h : History) (listed : List ℕ) (n : ℕ) → n ≤ length h → HasWords h listed → HasWords (take n h) (take n listed)
take_words h listed n within has = record {
  blocks = sym (take-map (λ (e : Accepted). e.block) n h) ∙ ap (λ (bs : List BlockOf). take n bs) has.blocks ∙ take-map block_of_word n listed;
  words = All-take (λ v. v < 64) n listed has.words;
  once = λ i j d less lt same.
      let len = length-take n listed in
      let early : i < n = omega (arith, less, lt, len) in
      let late : j < n = omega (arith, lt, len) in
      let inside : j < length listed = omega (arith, lt, len) in
      has.once i j d less inside (sym (get_or-take n listed i d early) ∙ same ∙ get_or-take n listed j d late);
}

-- ---- a list of what sessions wait for

set_set : {X : Type 0} (xs : List X) (i : ℕ) (x y : X) → slice_set (slice_set xs i x) i y ≡ slice_set xs i y
set_set [] i x y = refl
set_set (z ∷ xs) zero x y = refl
set_set {X} (z ∷ xs) (suc i) x y = ap (λ (ys : List X). z ∷ ys) (set_set xs i x y)

set_own : {X : Type 0} (xs : List X) (i : ℕ) (x : X) → slice_get xs i ≡ Some x → slice_set xs i x ≡ xs
set_own [] i x at = refl
set_own {X} (z ∷ xs) zero x at = ap (λ (y : X). y ∷ xs) (sym (same_Some z x at))
set_own {X} (z ∷ xs) (suc i) x at = ap (λ (ys : List X). z ∷ ys) (set_own xs i x at)

at_none : (n i : ℕ) → i < n → slice_get {X = Option ℕ} (replicate n None) i ≡ Some None
at_none zero i lt = absurd (omega (arith, lt))
at_none (suc n) zero lt = refl
at_none (suc n) (suc i) lt = at_none n i (omega (arith, lt))

-- ---- what a request is given

-- an answer, or that it is too early
abbrev pub MayGive : Out → Type 0
MayGive (SaidOut a) = ⊤
MayGive NotYet = ⊤
MayGive Waits = ⊥
MayGive Moved = ⊥
MayGive Nothing = ⊥
MayGive (Failed why) = ⊥

pub not_given : (out : Out) → MayGive out → ((a : Answer) → out ≡ SaidOut a → ⊥) → (out ≡ NotYet → ⊥) → ⊥
not_given (SaidOut a) gives said not_yet = said a refl
not_given NotYet gives said not_yet = not_yet refl
not_given Waits gives said not_yet = gives
not_given Moved gives said not_yet = gives
not_given Nothing gives said not_yet = gives
not_given (Failed why) gives said not_yet = gives

-- ---- dirty entries

module _ (score : List ℕ → List ℕ) (c : Setup) (h : History) where
  abbrev entry_of : Info → Entry
  entry_of info = record { key = info.key; size = info.size; place = info.place }

  -- those of one block have its key
  one_block : (a b : Info) → IsEntryOf score c h a.number (entry_of a) → IsEntryOf score c h b.number (entry_of b) → a.number ≡ b.number → a.key ≡ b.key
  one_block a b first second same =
      let block : first.block ≡ second.block = same_Some first.block second.block (sym first.stands.block ∙ ap (λ (n : ℕ). slice_get h n) same ∙ second.stands.block) in
      let scores : a.key.score.0 ≡ b.key.score.0 = first.score_is ∙ ap (λ (e : Accepted). score e.block.bytes) block ∙ sym second.score_is in
      let kinds : a.key.kind ≡ b.key.kind = first.kind_is ∙ ap (λ (e : Accepted). e.block.kind) block ∙ sym second.kind_is in
      ap (λ (s : List ℕ). record { score = record { 0 = s }; kind = a.key.kind }) scores ∙ ap (λ (k : ℕ). record { score = b.key.score; kind = k }) kinds

  -- so there are no more that differ than blocks
  few_dirty : (dirty : List Info) → AllPairs (λ a b. a.key ≢ b.key) dirty → ((info : Info) → Contains dirty info → IsEntryOf score c h info.number (entry_of info)) → length dirty ≤ length h
  few_dirty [] differ are = omega arith
  few_dirty (first ∷ rest) differ are =
      let long = length-map (first ∷ rest) number in
      let most = length-le_from_distinct_below numbers (length h) (IsDistinct-from_AllPairs {eq = eqb} (λ x y. Decides-eqb x y) numbers apart)
      (λ q is. All-contains (λ n. n < length h) numbers q small (Contains-from_any {eq = eqb} eqb-true q numbers is)) in
      omega (arith, long, most)
    where
      number : Info → ℕ
      number = λ info. info.number

      numbers : List ℕ
      numbers = map number (first ∷ rest)

      of : (i : ℕ) → i < length (first ∷ rest) → IsEntryOf score c h (get_or (first ∷ rest) i first).number (entry_of (get_or (first ∷ rest) i first))
      of i lt = are (get_or (first ∷ rest) i first) (Contains-get_or (first ∷ rest) i first lt)

      apart : AllPairs (λ x y. x ≢ y) numbers
      apart i j d less lt same =
          let long = length-map (first ∷ rest) number in
          let inside : j < length (first ∷ rest) = omega (arith, lt, long) in
          let early : i < length (first ∷ rest) = omega (arith, less, inside) in
          differ i j first less inside (one_block (get_or (first ∷ rest) i first) (get_or (first ∷ rest) j first) (of i early) (of j inside)
          (sym (get_or-map number (first ∷ rest) i first d early) ∙ same ∙ get_or-map number (first ∷ rest) j first d inside))

      small : All (λ n. n < length h) numbers
      small i d lt =
          let long = length-map (first ∷ rest) number in
          let inside : i < length (first ∷ rest) = omega (arith, lt, long) in
          subst (λ (n : ℕ). n < length h) (sym (get_or-map number (first ∷ rest) i first d inside)) (slice_get_within h _ (of i inside).block (of i inside).stands.block)

module _ {D : Type 0} (score : List ℕ → List ℕ) (disk : DiskOf D) (memory : IsMemory disk) where
  -- the machine's step of a request for an operation
  asked : (session : ℕ) (request : Asked) (m : Operation) (out : Out) (old new : Machine) → AsksForOperation m request
      → IsAsked score session (operation_of request) out old new → IsAsked score session m out old new
  asked session request m out old new is_for it = subst (λ (x : Operation). IsAsked score session x out old new) is_for it

  pub may_give : (session : ℕ) (request : Asked) (m : Operation) (out : Out) (h : History) (old new : CoreState D) → m ≢ sync → AsksForOperation m request → IsSteady score disk old h
      → old.waiting ≡ none_waits → Steps score disk (asked_by session request) out old new → MayGive out
  may_give session request m out h old new other is_for steady free step =
      let it = stepped score disk memory (asked_by session request) out h old new steady step in
      by (machine_of new it.next) out (asked session request m out (machine_of old h) (machine_of new it.next) is_for it.makes)
    where
      by : (after : Machine) (out : Out) → IsAsked score session m out (machine_of old h) after → MayGive out
      by after (SaidOut a) is = tt
      by after NotYet is = tt
      by after Waits is = absurd (other is.0)
      by after Moved is = absurd is
      by after Nothing is = absurd (none_at 3 session is.0.0 (subst (λ (ws : List (Option ℕ)). slice_get ws session ≡ Some (Some is.0.0)) free is.0.1))
      by after (Failed why) is = absurd is

  module _ (apart : AreApart score) (w : ℕ) (below : w < 64) (session : ℕ) (request : Asked) (a : Answer) (h : History) (listed : List ℕ) (has : HasWords h listed)
      (old new : CoreState D) (steady : IsSteady score disk old h) (step : Steps score disk (asked_by session request) (SaidOut a) old new) where
    it : Stepped score disk memory (asked_by session request) (SaidOut a) h old new
    it = stepped score disk memory (asked_by session request) (SaidOut a) h old new steady step

    -- ---- a write

    pub record Wrote : Type 0 where
      pub is_held : Bool
      pub is : IsWritten (score (word_of w)) w listed is_held a.said (history_len old) (history_len new)
      pub next : History
      pub goes : IsSteady score disk new next
      pub free : new.waiting ≡ old.waiting
      pub words : HasWords next (listed_after is_held w listed)
      pub filled : IsFilled (setup_of new) next

    module _ (filled : IsFilled (setup_of old) h) where
      wrote_held : Contains listed w → GivesAnswer score (write 13 (word_of w)) a.said (machine_of old h) (machine_of new it.next) → Wrote
      wrote_held has_it gives =
          let g = given_reply score (write 13 (word_of w)) a.said (machine_of old h) (machine_of new it.next) (r_write (score (word_of w))) (held_answer score apart w below (setup_of old) h listed has has_it) gives in
          let s = stays score disk memory h it.next old new steady it.steady g.1 in
          record {
            is_held = true;
            is = (says_score a.said (score (word_of w)) g.0, inl (has_it, refl, s.len));
            next = h;
            goes = s.steady;
            free = s.waiting;
            words = has;
            filled = subst (λ (c : Setup). IsFilled c h) (sym s.setup) filled;
          }

      wrote_new : ¬ Contains listed w → (o : Option ℕ) → next_arena (setup_of old) h (length (word_of w)) ≡ o
          → GivesAnswer score (write 13 (word_of w)) a.said (machine_of old h) (machine_of new it.next) → Wrote
      wrote_new lacks None is gives = absurd (has_room (setup_of old) h listed filled has w is)
      wrote_new lacks (Some arena) is gives =
          let e : Accepted = record { block = block_of_word w; arena = arena } in
          let known = new_answer score apart w below (setup_of old) h listed has lacks ∙ ap (λ (o : Option ℕ). adds (score (word_of w)) 13 (word_of w) o) is in
          let g = given_block score (write 13 (word_of w)) a.said (machine_of old h) (machine_of new it.next) (r_write (score (word_of w))) e known gives in
          let next_is : it.next ≡ h ++ e ∷ [] = ap (λ (m : Machine). m.history) g.1 in
          let setup : setup_of new ≡ setup_of old = ap (λ (m : Machine). m.setup) g.1 in
          let long : length (h ++ e ∷ []) ≡ length h + 1 = length-append h (e ∷ []) in
          let len = len_is score disk new it.next it.steady ∙ ap length next_is ∙ long ∙ ap (λ n. n + 1) (sym (len_is score disk old h steady)) in
          record {
            is_held = false;
            is = (says_score a.said (score (word_of w)) g.0, inr (lacks, refl, len));
            next = it.next;
            goes = it.steady;
            free = ap (λ (m : Machine). m.waiting) g.1;
            words = subst (λ (g : History). HasWords g (listed ++ w ∷ [])) (sym next_is) (push_words h listed w arena below has lacks);
            filled = subst (λ (g : History). IsFilled (setup_of new) g) (sym next_is)
                (subst (λ (c : Setup). IsFilled c (h ++ e ∷ [])) (sym setup) (filled_more (setup_of old) h filled e is (word_short w)));
          }

      pub write_answered : AsksForOperation (write 13 (word_of w)) request → (a.said ≡ Refused NoMemory) ⊎ Wrote
      write_answered is_for =
          let makes = asked session request (write 13 (word_of w)) (SaidOut a) (machine_of old h) (machine_of new it.next) is_for it.makes in
          ⊎_elim
          (λ gives. inr (⊎_elim
          (λ has_it. wrote_held has_it gives.1)
          (λ lacks. wrote_new lacks (next_arena (setup_of old) h (length (word_of w))) refl gives.1)
          (has_or_lacks listed w)))
          (λ fails. inl (only_memory score disk memory session request (write 13 (word_of w)) a h old new (machine_of new it.next) is_for steady
          (λ call is. no_stop score disk old h 13 (word_of w) call steady is) makes.1 step fails))
          makes.2

    -- ---- a read

    pub record Found : Type 0 where
      pub is_found : Bool
      pub as_listed : (Contains listed w × (is_found ≡ true) × (a.said ≡ Block (word_of w))) ⊎ (¬ Contains listed w × (is_found ≡ false) × (a.said ≡ Refused Absent))
      pub stays : Stays score disk memory h old new

    pub read_answered : AsksForOperation (read (score (word_of w)) 13 MAX_BLOCK) request → (a.said ≡ Refused NoMemory) ⊎ Found
    read_answered is_for =
        let m = read (score (word_of w)) 13 MAX_BLOCK in
        let makes = asked session request m (SaidOut a) (machine_of old h) (machine_of new it.next) is_for it.makes in
        ⊎_elim
        (λ gives. inr (⊎_elim
        (λ has_it.
        let g = given_reply score m a.said (machine_of old h) (machine_of new it.next) (r_read (word_of w)) (found_answer score apart w below (setup_of old) h listed has has_it) gives.1 in
        record {
          is_found = true;
          as_listed = inl (has_it, refl, says_block a.said (word_of w) g.0);
          stays = stays score disk memory h it.next old new steady it.steady g.1;
        })
        (λ lacks.
        let g = given_reply score m a.said (machine_of old h) (machine_of new it.next) (r_refused Absent) (missing_answer score apart w below (setup_of old) h listed has lacks) gives.1 in
        record {
          is_found = false;
          as_listed = inr (lacks, refl, says_absent a.said g.0);
          stays = stays score disk memory h it.next old new steady it.steady g.1;
        })
        (has_or_lacks listed w)))
        (λ fails. inl (only_memory score disk memory session request m a h old new (machine_of new it.next) is_for steady (λ call is. absurd (cc)) makes.1 step fails))
        makes.2

    pub read_stays : AsksForOperation (read (score (word_of w)) 13 MAX_BLOCK) request → Stays score disk memory h old new
    read_stays is_for =
        let m = read (score (word_of w)) 13 MAX_BLOCK in
        let makes = asked session request m (SaidOut a) (machine_of old h) (machine_of new it.next) is_for it.makes in
        stays score disk memory h it.next old new steady it.steady (⊎_elim
        (λ gives. ⊎_elim
        (λ has_it. (given_reply score m a.said (machine_of old h) (machine_of new it.next) (r_read (word_of w)) (found_answer score apart w below (setup_of old) h listed has has_it) gives.1).1)
        (λ lacks. (given_reply score m a.said (machine_of old h) (machine_of new it.next) (r_refused Absent) (missing_answer score apart w below (setup_of old) h listed has lacks) gives.1).1)
        (has_or_lacks listed w))
        (λ fails. fails.3)
        makes.2)

  -- a read is answered at once
  pub read_at_once : (apart : AreApart score) (w : ℕ) (below : w < 64) (session : ℕ) (request : Asked) (h : History) (listed : List ℕ) (has : HasWords h listed) (old new : CoreState D) → IsSteady score disk old h
      → AsksForOperation (read (score (word_of w)) 13 MAX_BLOCK) request → Steps score disk (asked_by session request) NotYet old new → ⊥
  read_at_once apart w below session request h listed has old new steady is_for step =
      let m = read (score (word_of w)) 13 MAX_BLOCK in
      let it = stepped score disk memory (asked_by session request) NotYet h old new steady step in
      let makes = asked session request m NotYet (machine_of old h) (machine_of new it.next) is_for it.makes in
      ⊎_elim
      (λ has_it. let no : false ≡ true = subst (λ (o : Outcome). IsSome o.added) (found_answer score apart w below (setup_of old) h listed has has_it) makes.1 in absurd (cc))
      (λ lacks. let no : false ≡ true = subst (λ (o : Outcome). IsSome o.added) (missing_answer score apart w below (setup_of old) h listed has lacks) makes.1 in absurd (cc))
      (has_or_lacks listed w)

  -- and so is a write: the queue and the shard have room for all words
  module _ (apart : AreApart score) (w : ℕ) (below : w < 64) (session : ℕ) (within : session < 3) (request : Asked) (h : History) (listed : List ℕ) (has : HasWords h listed)
      (old new : CoreState D) (steady : IsSteady score disk old h) (free : old.waiting ≡ none_waits)
      (differ : (i : ℕ) (s : ShardState D) → slice_get old.shards i ≡ Some s → AllPairs (λ a b. a.key ≢ b.key) s.index.dirty) (is_for : AsksForOperation (write 13 (word_of w)) request)
      (step : Steps score disk (asked_by session request) NotYet old new) where
    lacks : ¬ Contains listed w
    lacks has_it =
        let it = stepped score disk memory (asked_by session request) NotYet h old new steady step in
        let makes = asked session request (write 13 (word_of w)) NotYet (machine_of old h) (machine_of new it.next) is_for it.makes in
        let no : false ≡ true = subst (λ (o : Outcome). IsSome o.added) (held_answer score apart w below (setup_of old) h listed has has_it) makes.1 in absurd (cc)

    few : length h < 64
    few =
        let e : Accepted = record { block = block_of_word w; arena = 0 } in
        let most = few_words (h ++ e ∷ []) (listed ++ w ∷ []) (push_words h listed w 0 below has lacks) in
        let long = length-append h (e ∷ []) in
        omega (arith, most, long)

    no_room : (before tested : StoreParts D) → before.log ≡ old.log → slice_get old.shards (shard_of old (score (word_of w))) ≡ Some before.shard → KeepsRoom before tested → HasNoRoom tested → ⊥
    no_room before tested log shard kept full =
        let front = len_is score disk old h steady in
        let less = few in
        ⊎_elim
        (λ queue.
        let same : queued tested.log ≡ queued old.log = ap (λ (l : LogState D). queued l) kept.log ∙ ap (λ (l : LogState D). queued l) log in
        omega (arith, queue, same, front, less))
        (λ dirty.
        let same : length tested.shard.index.dirty ≡ length before.shard.index.dirty = ap length kept.dirty in
        let most = few_dirty score (setup_of old) h before.shard.index.dirty (differ (shard_of old (score (word_of w))) before.shard shard)
        (steady.sound.shards (shard_of old (score (word_of w))) before.shard shard).dirty in
        omega (arith, dirty, same, most, less))
        full

    pub write_at_once : ⊥
    write_at_once =
        let serves : AnswersOperation score disk session (write 13 (word_of w)) 0 NotYet old new =
        subst (λ (m : Operation). AnswersOperation score disk session m 0 NotYet old new) is_for
        (step.does.serves (ap (λ (ws : List (Option ℕ)). slice_get ws session) free ∙ at_none 3 session within)) in
        let short = word_short w in
        let reaches : ReachesParts score (write 13 (word_of w)) = record { kind = refl; some = word_some w; most = omega (arith, short) } in
        goes (stop_for score old (write 13 (word_of w))) refl serves reaches
      where
        said_no : (said : Said) → NotYet ≡ says said old → ⊥
        said_no said is = cc

        key : Key
        key = record { score = record { 0 = score (word_of w) }; kind = 13 }

        ends : (before tested : StoreParts D) (v : Result Verdict Why) → before.log ≡ old.log → slice_get old.shards (shard_of old (score (word_of w))) ≡ Some before.shard → KeepsRoom before tested
            → EndsWrite score key (word_of w) 0 v tested NotYet old new → ⊥
        ends before tested (Err why) log shard kept it = said_no (Refused why) it.0
        ends before tested (Ok Held) log shard kept it = said_no (Score key.score) it.0
        ends before tested (Ok New) log shard kept it = ⊎_elim
            (λ none. no_room before tested log shard kept none.0)
            (λ rest. ⊎_elim (λ short. said_no (Refused NoMemory) short.1) (λ adds. said_no (Score key.score) adds.out_is) rest)
            it

        tests : (zero : Bool) → MatchBool zero ((NotYet ≡ says (Refused Collision) old) × (new ≡ old)) (AnswersWriteOperation score disk key (word_of w) 0 NotYet old new) → ⊥
        tests true it = said_no (Refused Collision) it.0
        tests false it = ends it.before it.tested it.verdict it.looks.log it.looks.shard (test_keeps score disk it.may_have key (word_of w) it.verdict it.before it.tested it.tests) it.ends

        goes : (o : Option ℕ) → stop_for score old (write 13 (word_of w)) ≡ o → AnswersOperation score disk session (write 13 (word_of w)) 0 NotYet old new → ReachesParts score (write 13 (word_of w)) → ⊥
        goes None is serves reaches = tests (bytes_eq (score (word_of w)) (score [])) (serves.performs reaches is)
        goes (Some call) is serves reaches = said_no (Refused (Stopped call)) (serves.stopped reaches call is).0

  -- ---- the log

  pub log_gives : (out : Out) (h : History) (old new : CoreState D) → IsSteady score disk old h → Steps score disk LogAdvance out old new
      → ((out ≡ Moved) × (owed new.log < owed old.log)) ⊎ ((out ≡ Nothing) × (queued old.log ≡ 0))
  log_gives out h old new steady step = by step.does.answer step.does.out_is step.does.step.advances
    where
      by : (answer : Result Progress LogErr) → out ≡ out_of_progress answer → LogAdvances answer old.log new.log → ((out ≡ Moved) × (owed new.log < owed old.log)) ⊎ ((out ≡ Nothing) × (queued old.log ≡ 0))
      by (Ok Idle) is it = inr (is, it.0)
      by (Ok LogStep) is it = inl (is, it.2)
      by (Ok (Durable n)) is it = inl (is, it.3)
      by (Err log_err.Fault) is it = absurd (no_fault score disk memory out old new step.counts is)
      by (Err (log_err.Stopped n)) is it = let no : None ≡ Some n = sym (log_goes score disk old h steady) ∙ it.0 in absurd (cc)

  pub log_moved : (h : History) (old new : CoreState D) → IsSteady score disk old h → Steps score disk LogAdvance Moved old new → owed new.log < owed old.log
  log_moved h old new steady step = ⊎_elim (λ moved. moved.1) (λ idle. let no : Moved ≡ Nothing = idle.0 in absurd (cc)) (log_gives Moved h old new steady step)

  -- while not all blocks are durable it makes a call
  pub log_moves : (out : Out) (h : History) (old new : CoreState D) → IsSteady score disk old h → old.log.durable < history_len old → Steps score disk LogAdvance out old new
      → (out ≡ Moved) × (owed new.log < owed old.log)
  log_moves out h old new steady less step = ⊎_elim
      (λ moved. moved)
      (λ idle. let none = idle.1 in absurd (omega (arith, none, less)))
      (log_gives out h old new steady step)

  -- ---- a sync

  pub record WaitsFor (session : ℕ) (h : History) (out : Out) (new : CoreState D) : Type 0 where
    pub out_is : out ≡ Waits
    pub steady : IsSteady score disk new h
    pub waiting : new.waiting ≡ slice_set none_waits session (Some (length h))

  sync_fails : (session : ℕ) (request : Asked) (a : Answer) (h : History) (old new : CoreState D) (after : Machine) → AsksForOperation sync request → IsSteady score disk old h → a.at ≡ length h
      → Steps score disk (asked_by session request) (SaidOut a) old new → FailsIn score sync a.said (machine_of old h) after → ⊥
  sync_fails session request a h old new after is_for steady at step fails =
      by fails.0 (sym fails.1 ∙ only_memory score disk memory session request sync a h old new after is_for steady
      (λ call is. let no : None ≡ Some call = sym (log_goes score disk old h steady) ∙ is in absurd (cc)) at step fails) fails.2
    where
      by : (cause : Cause) → Refused (why_of cause) ≡ Refused NoMemory → MayFail score (setup_of old) sync cause → ⊥
      by (disk_fault before behind) is may = absurd (cc)
      by (stopped part n) is may = absurd (cc)
      by (damaged site want found) is may = absurd (cc)
      by no_memory is may = may.1

  pub sync_waits : (session : ℕ) (request : Asked) (out : Out) (h : History) (old new : CoreState D) → AsksForOperation sync request → IsSteady score disk old h → old.waiting ≡ none_waits
      → Steps score disk (asked_by session request) out old new → WaitsFor session h out new
  sync_waits session request out h old new is_for steady free step =
      let it = stepped score disk memory (asked_by session request) out h old new steady step in
      by out it.next it.steady step (asked session request sync out (machine_of old h) (machine_of new it.next) is_for it.makes)
    where
      by : (out : Out) (next : History) → IsSteady score disk new next → Steps score disk (asked_by session request) out old new
          → IsAsked score session sync out (machine_of old h) (machine_of new next) → WaitsFor session h out new
      by (SaidOut a) next after step is = ⊎_elim
          (λ gives. absurd (gives.0 refl))
          (λ fails. absurd (sync_fails session request a h old new (machine_of new next) is_for steady is.1 step fails))
          is.2
      by NotYet next after step is = let no : false ≡ true = is.1 in absurd (cc)
      by Waits next after step is = record {
        out_is = refl;
        steady = subst (λ (g : History). IsSteady score disk new g) (ap (λ (m : Machine). m.history) is.1.new_is) after;
        waiting = ap (λ (m : Machine). m.waiting) is.1.new_is ∙ ap (λ (ws : List (Option ℕ)). slice_set ws session (Some (length h))) free;
      }
      by Moved next after step is = absurd is
      by Nothing next after step is = absurd (none_at 3 session is.0.0 (subst (λ (ws : List (Option ℕ)). slice_get ws session ≡ Some (Some is.0.0)) free is.0.1))
      by (Failed why) next after step is = absurd is

  pub record IsEnded (session : ℕ) (h : History) (out : Out) (new : CoreState D) : Type 0 where
    pub out_is : out ≡ SaidOut (record { said = Synced; at = length h })
    pub steady : IsSteady score disk new h
    pub waiting : new.waiting ≡ none_waits

  module _ (session : ℕ) (within : session < 3) (h : History) (old new : CoreState D) (steady : IsSteady score disk old h) (free : old.waiting ≡ slice_set none_waits session (Some (length h)))
      (durable : old.log.durable ≡ history_len old) where
    -- the session waits for all blocks
    waits_at : slice_get old.waiting session ≡ Some (Some (length h))
    waits_at = ap (λ (ws : List (Option ℕ)). slice_get ws session) free ∙ get_set none_waits session (Some (length h)) None (at_none 3 session within)

    one_number : (number : ℕ) → slice_get old.waiting session ≡ Some (Some number) → number ≡ length h
    one_number number is = same_Some number (length h) (same_Some (Some number) (Some (length h)) (sym is ∙ waits_at))

    ended : (out : Out) (next : History) → IsSteady score disk new next → Steps score disk (AskAnswer session) out old new → IsAwaited session out (machine_of old h) (machine_of new next)
        → AnswersSync session out old new → IsEnded session h out new
    ended (SaidOut a) next after step is does = said a.said a.at refl is does
      where
        said : (s : Said) (at : ℕ) → SaidOut a ≡ SaidOut (record { said = s; at = at }) → EndsWaiting session at s (machine_of old h) (machine_of new next) → EndsSync session at s old new → IsEnded session h (SaidOut a) new
        said Synced at same is does =
            let number = one_number at is.waits in
            record {
              out_is = same ∙ ap (λ (x : ℕ). SaidOut (record { said = Synced; at = x })) number;
              steady = subst (λ (g : History). IsSteady score disk new g) (ap (λ (m : Machine). m.history) is.new_is) after;
              waiting = ap (λ (m : Machine). m.waiting) is.new_is ∙ ap (λ (ws : List (Option ℕ)). slice_set ws session None) free ∙ set_set none_waits session (Some (length h)) None
                  ∙ set_own none_waits session None (at_none 3 session within);
            }
        said (Refused (Stopped call)) at same is does = let no : None ≡ Some call = sym (log_goes score disk old h steady) ∙ does.1 in absurd (cc)
        said (Refused BadType) at same is does = absurd is
        said (Refused TooBig) at same is does = absurd is
        said (Refused TooSmall) at same is does = absurd is
        said (Refused Absent) at same is does = absurd is
        said (Refused Collision) at same is does = absurd is
        said (Refused IndexFull) at same is does = absurd is
        said (Refused ArenasFull) at same is does = absurd is
        said (Refused DiskFault) at same is does = absurd is
        said (Refused (Damaged site want found)) at same is does = absurd is
        said (Refused NoMemory) at same is does = absurd is
        said (Score given) at same is does = absurd is
        said (Block bytes) at same is does = absurd is
    ended NotYet next after step is does =
        let number = one_number does.0.0 does.0.1 in
        let len = len_is score disk old h steady in
        let less = does.0.2 in
        absurd (omega (arith, number, len, less, durable))
    ended Nothing next after step is does =
        let no : None ≡ Some (length h) = same_Some None (Some (length h)) (sym does.0 ∙ waits_at) in absurd (cc)
    ended Waits next after step is does = absurd is
    ended Moved next after step is does = absurd is
    ended (Failed why) next after step is does = absurd is

    pub sync_ends : (out : Out) → Steps score disk (AskAnswer session) out old new → IsEnded session h out new
    sync_ends out step =
        let it = stepped score disk memory (AskAnswer session) out h old new steady step in
        ended out it.next it.steady step it.makes step.does

-- ---- how much a log owes

cond_most : (b : Bool) (x y most : ℕ) → x ≤ most → y ≤ most → cond b x y ≤ most
cond_most true x y most first second = first
cond_most false x y most first second = second

left_most : (a : ArenaState) → calls_left a ≤ commit_calls a
left_most a = cond_most a.next.sealed (commit_calls a - calls_made a) (cond (length a.staged == 0) 0 (commit_calls a - calls_made a)) (commit_calls a) (omega arith)
    (cond_most (length a.staged == 0) 0 (commit_calls a - calls_made a) (commit_calls a) (omega arith) (omega arith))

seal_most : (arena : ℕ) (waiting : List Waiting) → seal_calls arena waiting ≤ 4
seal_most arena [] = omega arith
seal_most arena (w ∷ rest) = cond_most (w.arena == arena) 0 4 4 (omega arith) (omega arith)

pub owed_most : {D : Type 0} (score : List ℕ → List ℕ) (disk : DiskOf D) (k : CoreState D) (h : History) → IsSteady score disk k h → length h ≤ 64 → owed k.log ≤ 1024
owed_most score disk k h steady few =
    let staged : length (map (accepted_in k.log.committing) (added_by_commit k.log.arena)) ≡ length k.log.arena.staged =
    length-map (added_by_commit k.log.arena) (accepted_in k.log.committing) ∙ length-map k.log.arena.staged stored_of in
    let waiting : length (map waiting_block k.log.queue.waiting) ≡ length k.log.queue.waiting = length-map k.log.queue.waiting waiting_block in
    let all : length (drop k.log.durable h) ≡ length (queue_of k.log) = ap length steady.sound.log.queued in
    let parts : length (queue_of k.log) ≡ length (map (accepted_in k.log.committing) (added_by_commit k.log.arena)) + length (map waiting_block k.log.queue.waiting) =
    length-append (map (accepted_in k.log.committing) (added_by_commit k.log.arena)) (map waiting_block k.log.queue.waiting) in
    let rest = length-drop k.log.durable h in
    let left = left_most k.log.arena in
    let seal = cond_most k.log.arena.next.sealed 0 (seal_calls k.log.committing k.log.queue.waiting) 4 (omega arith) (seal_most k.log.committing k.log.queue.waiting) in
    omega (arith, staged, waiting, all, parts, rest, left, seal, few)
