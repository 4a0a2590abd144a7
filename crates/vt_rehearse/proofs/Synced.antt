-- A sync: a session waits, the log commits all, and the session is told so.
use Rattle.std.proofs.Common.{◌≡◌, ◌+◌, ◌<◌, ◌≤◌, ℕ, zero, suc, List, length, Some, true, sym, ◌∙◌, ap, subst, arith}
use Rattle.std.specs.Prelude.{slice_set}
use Rattle.vt_base.specs.declared.answer.Answer.{Answer}
use Rattle.vt_base.specs.declared.answer.Said.{Said}
use Rattle.vt_base.specs.declared.answer.Said.TheVariants.{Synced}
use Rattle.vt_base.specs.Protocol.{sync}
use Rattle.vt_disk.specs.Members.{DiskOf}
use Rattle.vt_model.specs.History.{History}
use Rattle.vt_model.specs.Places.{Setup}
use Rattle.vt_log.specs.Owed.{owed}
use Rattle.vt_base.specs.declared.operation.Operation.{Operation as Asked}
use Rattle.vt_core.specs.declared.event.Event.TheVariants.{Answer as AskAnswer}
use Rattle.vt_core.specs.declared.event.Out.{Out}
use Rattle.vt_core.specs.declared.event.Out.TheVariants.{Said as SaidOut, Waits, NotYet, Moved, Nothing, Failed}
use Rattle.vt_core.specs.Core.{CoreState, history_len, setup_of}
use Rattle.vt_core.specs.Steps.{Steps}
use Rattle.vt_rehearse.specs.Counts.{with_compared, with_events, with_synced}
use Rattle.vt_rehearse.specs.Rehearsal.{AsksForOperation, CommitsAll, NotesWhether, SyncsSession, asked_by}
use Rattle.vt_rehearse.specs.Stage.{AreAlike, HasWords, IsFilled, IsMemory, IsSteady, StageState, none_waits}
use Rattle.vt_rehearse.proofs.Asking.{IsEnded, owed_most, sync_ends, sync_waits}
use Rattle.vt_rehearse.proofs.Listed.{few_words, same_many}
use Rattle.vt_rehearse.proofs.Noting.{found_right}
use Rattle.vt_rehearse.proofs.Staged.{made_more}

abbrev said_of : Out → Said
said_of (SaidOut a) = a.said
said_of Waits = Synced
said_of NotYet = Synced
said_of Moved = Synced
said_of Nothing = Synced
said_of (Failed why) = Synced

abbrev at_of : Out → ℕ
at_of (SaidOut a) = a.at
at_of Waits = 0
at_of NotYet = 0
at_of Moved = 0
at_of Nothing = 0
at_of (Failed why) = 0

-- the log's calls keep what the store was mounted with
commits_keep : {D : Type 0} (score : List ℕ → List ℕ) (disk : DiskOf D) (calls : ℕ) (old new : CoreState D) → CommitsAll score disk calls old new → setup_of new ≡ setup_of old
commits_keep {D} score disk zero old new is = ap (λ (k : CoreState D). setup_of k) is
commits_keep score disk (suc calls) old new (moved, less, step, rest) = commits_keep score disk calls moved new rest ∙ step.goes_on.store.setup

module _ {D : Type 0} (score : List ℕ → List ℕ) (disk : DiskOf D) (memory : IsMemory disk) (session : ℕ) (within : session < 3) (request : Asked) (is_for : AsksForOperation sync request)
    (old asked : StageState D) (alike : AreAlike score disk old) (out : Out) (asks : Steps score disk (asked_by session request) out old.core asked.core)
    (asked_is : asked ≡ record old { core = asked.core; summary = with_events 1 old.summary }) where
  pub steady_asked : IsSteady score disk asked.core alike.history
  steady_asked = (sync_waits score disk memory session request out alike.history old.core asked.core is_for alike.store alike.free asks).steady

  pub owes_asked : owed asked.core.log ≤ 1024
  owes_asked = owed_most score disk asked.core alike.history steady_asked (few_words alike.history old.listed alike.list)

  module _ (calls : ℕ) (durable told : StageState D) (commits : CommitsAll score disk calls asked.core durable.core)
      (durable_is : durable ≡ record asked { core = durable.core; summary = with_events calls asked.summary })
      (steady : (h : History) → IsSteady score disk asked.core h → IsSteady score disk durable.core h) (waiting : durable.core.waiting ≡ asked.core.waiting)
      (all : durable.core.log.durable ≡ history_len durable.core) (said : Out) (tells : Steps score disk (AskAnswer session) said durable.core told.core)
      (told_is : told ≡ record durable { core = told.core; summary = with_events 1 durable.summary }) where
    waited : asked.core.waiting ≡ slice_set none_waits session (Some (length alike.history))
    waited = (sync_waits score disk memory session request out alike.history old.core asked.core is_for alike.store alike.free asks).waiting

    ends : IsEnded score disk memory session alike.history said told.core
    ends = sync_ends score disk memory session within alike.history durable.core told.core (steady alike.history steady_asked) (waiting ∙ waited) all said tells

    pub said_is : said ≡ SaidOut (record { said = Synced; at = length old.listed })
    said_is = ends.out_is ∙ ap (λ (n : ℕ). SaidOut (record { said = Synced; at = n })) (same_many alike.history old.listed alike.list)

    pub made_is : told ≡ record old { core = told.core; summary = with_events (calls + 2) old.summary }
    made_is =
        let first : 1 + calls ≡ calls + 1 = omega arith in
        let second : calls + 1 + 1 ≡ calls + 2 = omega arith in
        made_more (calls + 1) 1 (calls + 2) old durable told second (made_more 1 calls (calls + 1) old asked durable first asked_is durable_is) told_is

    pub alike_told : AreAlike score disk told
    alike_told = record {
      history = alike.history;
      store = ends.steady;
      free = ends.waiting;
      list = subst (λ (l : List ℕ). HasWords alike.history l) (sym (ap (λ (s : StageState D). s.listed) made_is)) alike.list;
      filled = subst (λ (c : Setup). IsFilled c alike.history)
          (sym (tells.goes_on.store.setup ∙ commits_keep score disk calls asked.core durable.core commits ∙ asks.goes_on.store.setup)) alike.filled;
    }

    -- so what the session is told is right
    judged_right : (answer : Answer) → said ≡ SaidOut answer → (answer.said ≡ Synced) × (answer.at ≡ length told.listed)
    judged_right answer is =
        let same : SaidOut answer ≡ SaidOut (record { said = Synced; at = length old.listed }) = sym is ∙ said_is in
        let listed : length told.listed ≡ length old.listed = ap (λ (s : StageState D). length s.listed) made_is in
        let said_so : answer.said ≡ Synced = ap said_of same in
        let at : answer.at ≡ length old.listed = ap at_of same in
        (said_so, at ∙ sym listed)

    pub noted_is : (answer : Answer) (judged new : StageState D) → said ≡ SaidOut answer → NotesWhether ((answer.said ≡ Synced) × (answer.at ≡ length told.listed)) told judged
        → new ≡ record judged { summary = with_synced judged.summary } → new ≡ record told { summary = with_synced (with_compared true told.summary) }
    noted_is answer judged new is judges noted =
        noted ∙ ap (λ (s : StageState D). record s { summary = with_synced s.summary }) (found_right ((answer.said ≡ Synced) × (answer.at ≡ length told.listed)) told judged judges (judged_right answer is))

    pub syncs_all : (new : StageState D) → new ≡ record told { summary = with_synced (with_compared true told.summary) } → SyncsSession score disk session old new
    syncs_all new is =
        let core : new.core ≡ told.core = ap (λ (s : StageState D). s.core) is in
        let waits = (sync_waits score disk memory session request out alike.history old.core asked.core is_for alike.store alike.free asks).out_is in
        record {
          request = request;
          is_for = is_for;
          waiting = asked.core;
          waits = subst (λ (o : Out). Steps score disk (asked_by session request) o old.core asked.core) waits asks;
          calls = calls;
          durable = durable.core;
          commits = commits;
          all = all;
          tells = subst (λ (k : CoreState D). Steps score disk (AskAnswer session) (SaidOut (record { said = Synced; at = length old.listed })) durable.core k) (sym core)
              (subst (λ (o : Out). Steps score disk (AskAnswer session) o durable.core told.core) said_is tells);
          same = is ∙ ap (λ (s : StageState D). record s { summary = with_synced (with_compared true s.summary) }) made_is
              ∙ ap (λ (k : CoreState D). record old { core = k; summary = with_synced (with_compared true (with_events (calls + 2) old.summary)) }) (sym core);
        }

    pub alike_synced : (new : StageState D) → new ≡ record told { summary = with_synced (with_compared true told.summary) } → AreAlike score disk new
    alike_synced new is = subst (λ (s : StageState D). AreAlike score disk s) (sym is) (record { history = alike_told.history; store = alike_told.store; free = alike_told.free; list = alike_told.list; filled = alike_told.filled })
