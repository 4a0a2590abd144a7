-- What a run comes to in terms of bytes, by what it did.
use Rattle.std.specs.Prelude.{IsTrue, IfOk, Option, Some, None, slice_index}
use Rattle.std.proofs.Common.{◌≡◌, ◌≢◌, ◌⊎◌, ⊎_elim, inl, inr, ℕ, Bool, List, [], ◌∷◌, ◌++◌, refl, sym, ◌∙◌, ap, subst, arith, Result, Ok, Err}
use Rattle.hex.specs.Hex.{encode_lower}
use Rattle.sha1.specs.Sha1.{sha1}
use Rattle.vt_base.specs.Faults.{HasRisen}
use Rattle.vt_base.specs.ScoreText.{SpellsScore}
use Rattle.vt_base.specs.declared.score.Score.{Score}
use Rattle.vt_base.specs.declared.why.Why.{Why}
use Rattle.vt_cli.proofs.Asking.{session_taken, session_spoken}
use Rattle.vt_cli.specs.declared.asked.Asked.{Asked}
use Rattle.vt_cli.specs.declared.asked.Asked.TheVariants.{Do, Help, Version, Faulty}
use Rattle.vt_cli.specs.declared.command.Command.{Command}
use Rattle.vt_cli.specs.declared.command.Command.TheVariants.{Session, Read, Write, Vac}
use Rattle.vt_cli.specs.Words.{Asks, session_words}
use Rattle.vt_client.specs.Clients.{ClientState}
use Rattle.vt_client.specs.Stores.{DoesAsClient}
use Rattle.vt_client.specs.declared.error.ClientErr.TheVariants as errs
use Rattle.vt_conf.specs.Addresses.{SpellsAddress}
use Rattle.vt_conf.specs.declared.address.Address.{Address}
use Rattle.vt_dial.specs.Dialled.{with_back, with_link}
use Rattle.vt_disk.specs.Members.{DiskOf}
use Rattle.vt_remote.specs.Remote.{TalksFor}
use Rattle.vt_remote.specs.declared.talk.RemoteError.{RemoteError}
use Rattle.vt_remote.specs.declared.talk.RemoteError.TheVariants as remote
use Rattle.vt_session.specs.declared.Ended.{Ended}
use Rattle.vt_session.specs.declared.Ended.TheVariants.{Goodbye, Closed}
use Rattle.vt_tree.specs.Calls.{Call, get, put, sync}
use Rattle.vt_tree.specs.declared.error.BlockErr.{BlockErr}
use Rattle.vt_use.specs.OneBlock.{ReadsOne, WritesOne}
use Rattle.vt_use.specs.PlaceAnswers.{answer_at, answer_in}
use Rattle.vt_use.specs.Places.{Doing, UsesAt, holds_nothing}
use Rattle.vt_use.specs.declared.used_at.StoreAt.{StoreAt}
use Rattle.vt_use.specs.declared.used_at.StoreAt.TheVariants as at
use Rattle.vt_use.specs.declared.used_at.StoreError.{StoreError}
use Rattle.vt_use.specs.declared.used_at.UsedAt.{UsedAt}
use Rattle.run_base.specs.declared.error.CommandError.{CommandError}
use Rattle.run_base.specs.declared.error.CommandError.TheVariants.{NoMemory, Server}
use Rattle.run_base.specs.declared.place.Place.{Place}
use Rattle.run_base.specs.declared.place.Place.TheVariants.{Memory, At}
use Rattle.run_base.specs.Blocks.{SaysType, TellsBlock, TellsMade, refusal_for}
use Rattle.run_base.specs.Change.{DialerChange, FilesChange, PartsChange, StreamChange}
use Rattle.run_base.specs.Errors.{CommandOutcome, server_status, status_of}
use Rattle.run_base.specs.Formatting.{Prints}
use Rattle.run_base.specs.Members.{LinkOf}
use Rattle.run_base.specs.Places.{EndsIdle, FindsPlace, in_memory}
use Rattle.run_base.specs.Served.{InputEndsWell, first_outcome, outcome_of_end}
use Rattle.run_sessions.specs.Read.{PrintsBlock as PrintsBlockOf}
use Rattle.run_sessions.specs.Write.{TakesBlock, WritesBlockTo, score_line}
use Rattle.vt_commands.specs.Run.{Did, DoesAsked, DoesCommand, IsArchiveCommand, preface_of}
use Rattle.vt_commands.specs.Work.{IsIdle, Work}
use Rattle.vt_commands.proofs.Complete.{both_tell}
use Rattle.vt_commands.specs.Seen.{HoldsConf, IsServed, LacksMemory, PrintsBlock, PrintsScore, PutsBlock, RunTells, SaysWhy, Seen, TalksTo}

-- ---- outcomes

server_fails : (bad : RemoteError) → server_status bad ≢ 0
server_fails remote.Undialled is = cc
server_fails (remote.Refused errs.ReadFault) is = cc
server_fails (remote.Refused why) is = cc

-- status 0 is told of what is done
done_by : (outcome : CommandOutcome) → status_of outcome ≡ 0 → outcome ≡ Ok tt
done_by (Ok done) is = refl
done_by (Err (Server bad)) is = absurd (server_fails bad is)
done_by outcome is = absurd (cc)

not_done : (outcome : CommandOutcome) (failure : CommandError) → outcome ≡ Ok tt
    → outcome ≡ Err failure → ⊥
not_done outcome failure ok fails = let both : Ok tt ≡ Err failure = sym ok ∙ fails in cc

first_done : (first second : CommandOutcome) → first_outcome first second ≡ Ok tt
    → (first ≡ Ok tt) × (second ≡ Ok tt)
first_done (Ok done) second is = (refl, is)
first_done (Err failure) second is = absurd (cc)

ended_well : (ended : Ended) (taken : ℕ) → outcome_of_end ended taken ≡ Ok tt
    → (ended ≡ Goodbye) ⊎ (ended ≡ Closed)
ended_well Goodbye taken is = inl refl
ended_well Closed taken is = inr refl
ended_well ended taken is = absurd (cc)

-- ---- what is printed

prints_done : {K : Type 0} (text : List ℕ) (outcome : CommandOutcome) (sink : StreamChange K)
    → outcome ≡ Ok tt → Prints text outcome sink → IsTrue sink.tells
    → sink.new ≡ sink.old ++ text
prints_done text outcome sink ok prints tells = (subst (λ o. Prints text o sink) ok prints).0 tells

module _ {K T : Type 0} (text : T → List ℕ) (Holds : T → Type 0) (outcome : CommandOutcome)
    (sink : StreamChange K) (ok : outcome ≡ Ok tt) where
  -- what was done was printed, and has what holds of it
  abbrev Done : {E : Type 0} → Result T E → Type 0
  Done result = (value : T) × Holds value × (result ≡ Ok value)
      × (IsTrue sink.tells → sink.new ≡ sink.old ++ text value)

  made_done : (result : Result T Why) → TellsMade text result outcome sink → IfOk result Holds
      → Done result
  made_done (Ok value) told holds =
      (value, holds, refl, prints_done (text value) outcome sink ok told)
  made_done (Err why) told holds = absurd (not_done outcome (refusal_for why) ok told.0)

  block_done : (file : List ℕ) (place : StoreAt) (result : Result T StoreError)
      → TellsBlock file place text result outcome sink → IfOk result Holds → Done result
  block_done file place (Ok value) told holds =
      (value, holds, refl, prints_done (text value) outcome sink ok told)
  block_done file place (Err bad) told holds = absurd (not_done outcome told.0.0 ok told.0.1)

other_byte : ◌≡◌ {A = ℕ} 58 116 → ⊥
other_byte is = omega (arith, is)

-- no address is spelled by the name of a store in memory
not_memory : (address : Address) → ¬ SpellsAddress address in_memory
not_memory address x = other_byte (ap (λ (l : List ℕ). slice_index l 0) x.parts.spelled)

-- ---- at a server

-- an answer tells that what was asked for was done
answer_output : {T : Type 0} (output : Result T BlockErr) (refusal : Option StoreError)
    (closed : Result (Unit {0}) StoreError) (value : T)
    → answer_in output refusal closed ≡ Ok value → output ≡ Ok value
answer_output (Ok done) refusal (Ok ended) value is = let same : done ≡ value = cc in ap Ok same
answer_output (Ok done) refusal (Err bad) value is = absurd (cc)
answer_output (Err err) (Some bad) closed value is = absurd (cc)
answer_output (Err err) None closed value is = absurd (cc)

module _ {P D N L T : Type 0} (disk : DiskOf D) (link : LinkOf L) (address : Address) (now : ℕ)
    (writes : Bool) (Does : Result T BlockErr → Doing) (parts : PartsChange P D)
    (dialer : DialerChange N L) (value : T) where
  -- this was done with a server, and nothing else
  talked : (used : Result (UsedAt (Result T BlockErr)) StoreError)
      → UsesAt sha1 disk link (at.Server address) now writes Does used parts dialer
      → answer_at used ≡ Ok value
      → (calls : List Call) × (met : ClientState L) × (last : ClientState L) × (back : L)
      × TalksFor link sha1 calls met last back
      × Does (Ok value) (ClientState L) (DoesAsClient link sha1) holds_nothing calls met last
      × (IsTrue dialer.tells → dialer.new ≡ with_back back (with_link address dialer.old))
  talked (Err bad) uses is = absurd (cc)
  talked (Ok used) uses is = (
    uses.0.calls,
    uses.0.met,
    uses.0.last,
    uses.0.back,
    uses.0.talks,
    subst (λ output. Does output (ClientState L) (DoesAsClient link sha1) holds_nothing uses.0.calls
        uses.0.met uses.0.last)
        (answer_output used.output used.refusal used.closed value is) uses.0.does,
    uses.0.is_back,
  )

-- a link was made to the address that the word spells, and carried just these calls
abbrev Talked : {N L : Type 0} → LinkOf L → (store : List ℕ) → DialerChange N L → List Call → Type 0
Talked {N} {L} link store dialer calls = (to : Address) × SpellsAddress to store
    × (met : ClientState L) × (last : ClientState L) × (back : L)
    × TalksFor link sha1 calls met last back
    × (IsTrue dialer.tells → dialer.new ≡ with_back back (with_link to dialer.old))

-- ---- at a place

module _ {K P D N L : Type 0} (disk : DiskOf D) (link : LinkOf L) (outcome : CommandOutcome)
    (sink : StreamChange K) (parts : PartsChange P D) (dialer : DialerChange N L) (store : List ℕ)
    (ok : outcome ≡ Ok tt) where
  -- a block was written, and its score is printed
  score_done : (now kind : ℕ) (bytes : List ℕ) (place : Place)
      → WritesBlockTo sha1 disk link store now kind bytes outcome sink parts dialer place
      → IsTrue sink.tells → sink.new ≡ sink.old ++ (encode_lower (sha1 bytes) ++ 10 ∷ [])
  score_done now kind bytes Memory it tells =
      let done = made_done score_line (λ given. given.0 ≡ sha1 bytes) outcome sink ok
      it.0.does.result it.0.does.told it.0.scored in
      done.3 tells ∙ ap (λ s. sink.old ++ (encode_lower s ++ 10 ∷ [])) done.1
  score_done now kind bytes (At other) it tells =
      let done = block_done score_line (λ given. given.0 ≡ sha1 bytes) outcome sink ok
      store other (answer_at it.used) it.told it.scored in
      done.3 tells ∙ ap (λ s. sink.old ++ (encode_lower s ++ 10 ∷ [])) done.1

  module _ {I : Type 0} (files : FilesChange I) (address : Address)
      (spells : SpellsAddress address store) where
    -- a block of a server was read, and is printed
    block_read : (s : List ℕ) (kind : ℕ) (place : Place) → FindsPlace store files place
        → PrintsBlockOf sha1 disk link store s kind outcome parts dialer sink place
        → (bytes : List ℕ) × (sha1 bytes ≡ s)
        × (IsTrue sink.tells → sink.new ≡ sink.old ++ bytes)
        × Talked link store dialer (get kind s (Ok bytes) ∷ [])
    block_read s kind Memory finds it =
        absurd (not_memory address (subst (SpellsAddress address) finds.0 spells))
    block_read s kind (At (at.Conf conf)) finds it = absurd (finds.1.0 address spells)
    block_read s kind (At (at.Server other)) finds it =
        let done = block_done (λ (bytes : List ℕ). bytes) (λ bytes. sha1 bytes ≡ s) outcome sink ok
        store (at.Server other) (answer_at it.used) it.told it.scored in
        let talk = talked disk link other 0 Bool.false
        (λ output S act holds calls from to. ReadsOne kind s output calls) parts dialer done.0
        it.used it.uses done.2 in (
          done.0,
          done.1,
          done.3,
          (
            other,
            finds.1.0,
            talk.1,
            talk.2,
            talk.3,
            subst (λ calls. TalksFor link sha1 calls talk.1 talk.2 talk.3) talk.5.0 talk.4,
            talk.6,
          ),
        )

    -- a block was written to a server
    block_put : (now kind : ℕ) (bytes : List ℕ) (place : Place) → FindsPlace store files place
        → WritesBlockTo sha1 disk link store now kind bytes outcome sink parts dialer place
        → (given : Score) × (given.0 ≡ sha1 bytes) × Talked link store dialer
        (put (record { kind = kind; bytes = bytes }) (Ok given) ∷ sync (Ok tt) ∷ [])
    block_put now kind bytes Memory finds it =
        absurd (not_memory address (subst (SpellsAddress address) finds.0 spells))
    block_put now kind bytes (At (at.Conf conf)) finds it = absurd (finds.1.0 address spells)
    block_put now kind bytes (At (at.Server other)) finds it =
        let done = block_done score_line (λ given. given.0 ≡ sha1 bytes) outcome sink ok
        store (at.Server other) (answer_at it.used) it.told it.scored in
        let talk = talked disk link other now Bool.true
        (λ output S act holds calls from to.
        WritesOne sha1 (record { kind = kind; bytes = bytes }) output calls) parts dialer done.0
        it.used it.uses done.2 in (
          done.0,
          done.1,
          (
            other,
            finds.1.0,
            talk.1,
            talk.2,
            talk.3,
            subst (λ calls. TalksFor link sha1 calls talk.1 talk.2 talk.3) talk.5.0 talk.4,
            talk.6,
          ),
        )

-- ---- what a run comes to

-- what is told of work
abbrev seen_in : {R K F I P D N L : Type 0} → Work R K I P D N L → StreamChange F
    → (holds : List ℕ → Option (List ℕ)) → Seen L
seen_in work complaint holds = record {
  reads = work.source.tells;
  came = work.source.old;
  left = work.source.new;
  read_faults = work.source.faults;
  read_faults' = work.source.faults';
  writes = work.sink.tells;
  went = work.sink.old;
  went' = work.sink.new;
  write_faults = work.sink.faults;
  write_faults' = work.sink.faults';
  says = complaint.tells;
  said = complaint.old;
  said' = complaint.new;
  said_faults = complaint.faults;
  said_faults' = complaint.faults';
  names = work.files.tells;
  holds = holds;
  dials = work.dialer.tells;
  dialled = work.dialer.old;
  dialled' = work.dialer.new;
}

module _ {R K F I P D N L : Type 0} {disk : DiskOf D} {link : LinkOf L} {words : List (List ℕ)}
    {status : ℕ} {work : Work R K I P D N L} {complaint : StreamChange F}
    (holds : List ℕ → Option (List ℕ)) (did : Did disk link sha1 words status work complaint)
    (commands : (command : Command) → Asks words (Do command) → (outcome : CommandOutcome)
    × (status ≡ status_of outcome) × (DoesCommand disk link sha1 command outcome work
    ⊎ EndsIdle (Err NoMemory) outcome (IsIdle work))) where
  abbrev seen : Seen L
  seen = seen_in work complaint holds

  served : (work.source.after ≡ work.source.before → work.source.new ≡ work.source.old)
      → (work.sink.after ≡ work.sink.before → work.sink.new ≡ work.sink.old)
      → words ≡ session_words → IsTrue work.source.tells → IsTrue work.sink.tells
      → IsServed status seen ⊎ LacksMemory status seen
  served unread unwritten is reads writes =
      let ran = commands (Session in_memory)
      (subst (λ said. Asks said (Do (Session in_memory))) (sym is) (session_taken, session_spoken)) in
      let tell = both_tell _ _ reads writes in
      ⊎_elim
      (λ does. ⊎_elim
      (λ known. let x = known.1 in
      let passes = x.serves.passes tell in
      let session = x.serves.session tell in
      inl (record {
        input = x.serves.input;
        output = x.serves.output;
        turns = session.turns;
        ended = x.end.ended;
        between = session.between;
        took = passes.took;
        written = passes.written;
        alone = session.alone;
        well = λ zero. ended_well x.end.ended x.end.taken
            (first_done _ _ (first_done _ _
            (sym x.outcome_is ∙ done_by ran.0 (sym ran.1 ∙ zero))).1).0;
      }))
      (λ other. absurd (other.0 refl)) does.0)
      (λ idle. inr (record {
        status_is = ran.1 ∙ ap status_of idle.is;
        unread = unread idle.idle.unread;
        unwritten = unwritten idle.idle.unwritten;
      })) ran.2

  -- a link that carried just these calls
  talks : {store : List ℕ} {calls : List Call} → Talked link store work.dialer calls
      → TalksTo link store calls seen
  talks it = record {
    address = it.0;
    spelled = it.1;
    met = it.2;
    last = it.3;
    back = it.4;
    talks = it.5;
    dialled = it.6;
  }

  -- `write` ended well: what came in was taken, and written to the store at this place
  module _ {X : Type 0} (store type_word : List ℕ) (asks : Asks words (Do (Write store type_word)))
      (zero : status ≡ 0)
      (taken : (outcome : CommandOutcome) → outcome ≡ Ok tt → (kind : ℕ) → SaysType type_word kind
      → (place : Place) → FindsPlace store work.files place → (now : ℕ) (bytes : List ℕ)
      → TakesBlock bytes work.source
      → WritesBlockTo sha1 disk link store now kind bytes outcome work.sink work.parts work.dialer
      place → X) where
    well_written : X
    well_written =
        let ran = commands (Write store type_word) asks in
        let ok = done_by ran.0 (sym ran.1 ∙ zero) in
        ⊎_elim
        (λ does. ⊎_elim
        (λ refused. absurd (not_done ran.0 refused.failure ok refused.outcome_is))
        (λ it. ⊎_elim
        (λ none. absurd (not_done ran.0 none.failure ok none.outcome_is))
        (λ found. ⊎_elim
        (λ none. absurd (not_done ran.0 none.0.failure ok none.0.outcome_is))
        (λ block. taken ran.0 ok it.0 it.1 found.0 found.1 block.now block.bytes block.takes
        block.writes)
        found.2)
        it.2)
        does.0)
        (λ idle. absurd (not_done ran.0 NoMemory ok idle.is)) ran.2

  scored : (store type_word : List ℕ) → Asks words (Do (Write store type_word))
      → IsTrue work.source.tells → IsTrue work.sink.tells → status ≡ 0 → PrintsScore seen
  scored store type_word asks reads writes zero = well_written store type_word asks zero
      (λ outcome ok kind kind_is place finds now bytes takes does.
      let all = takes.all reads in
      record {
        all = all.1;
        written = score_done disk link outcome work.sink work.parts work.dialer store ok now kind
            bytes place does writes
            ∙ ap (λ bytes. work.sink.old ++ (encode_lower (sha1 bytes) ++ 10 ∷ [])) (sym all.0);
      })

  sent : (store type_word : List ℕ) (address : Address)
      → Asks words (Do (Write store type_word)) → SpellsAddress address store
      → IsTrue work.source.tells → status ≡ 0 → PutsBlock link store type_word seen
  sent store type_word address asks spells reads zero = well_written store type_word asks zero
      (λ outcome ok kind kind_is place finds now bytes takes does.
      let put_to = block_put disk link outcome work.sink work.parts work.dialer store ok work.files
      address spells now kind bytes place finds does in
      let block = subst (λ bytes. (given : Score) × (given.0 ≡ sha1 bytes)
      × TalksTo link store (put (record { kind = kind; bytes = bytes }) (Ok given) ∷ sync (Ok tt) ∷ [])
      seen) (sym (takes.all reads).0) (put_to.0, put_to.1, talks put_to.2) in
      record {
        kind = kind;
        kind_is = kind_is;
        given = block.0;
        scored = block.1;
        asked = block.2;
      })

  printed : (store score_word type_word : List ℕ) (address : Address)
      → Asks words (Do (Read store score_word type_word)) → SpellsAddress address store
      → status ≡ 0 → PrintsBlock link store score_word type_word seen
  printed store score_word type_word address asks spells zero =
      let ran = commands (Read store score_word type_word) asks in
      let ok = done_by ran.0 (sym ran.1 ∙ zero) in
      ⊎_elim
      (λ does. ⊎_elim
      (λ refused. absurd (not_done ran.0 refused.failure ok refused.outcome_is))
      (λ it. ⊎_elim
      (λ none. absurd (not_done ran.0 none.failure ok none.outcome_is))
      (λ found. let block = block_read disk link ran.0 work.sink work.parts work.dialer store ok
      work.files address spells it.0 it.1 found.0 found.1 found.2 in
      record {
        kind = it.1;
        kind_is = it.2.type_is;
        bytes = block.0;
        scored = subst (λ s. SpellsScore s score_word) (sym block.1) it.2.score_is;
        asked = subst (λ s. TalksTo link store (get it.1 s (Ok block.0) ∷ []) seen) (sym block.1)
            (talks block.3);
        written = block.2;
      })
      it.3)
      does.0)
      (λ idle. absurd (not_done ran.0 NoMemory ok idle.is)) ran.2

  configured : ((name : List ℕ) → IsTrue work.files.tells
      → work.files.content name ≡ holds name) → (file : List ℕ)
      → Asks words (Do (Session file)) → file ≢ in_memory → IsTrue work.files.tells → status ≡ 0
      → HoldsConf file seen
  configured stands file asks other tells zero =
      let ran = commands (Session file) asks in
      let ok = done_by ran.0 (sym ran.1 ∙ zero) in
      ⊎_elim
      (λ does. ⊎_elim
      (λ memory. absurd (other memory.0))
      (λ it. ⊎_elim
      (λ none. absurd (not_done ran.0 none.failure ok none.outcome_is))
      (λ found. record {
        text = found.1.text;
        stands = sym (stands file tells) ∙ found.1.content tells;
        conf = found.0;
        says = found.1.says;
      })
      it.1)
      does.0)
      (λ idle. absurd (not_done ran.0 NoMemory ok idle.is)) ran.2

  -- something stands before the line of an archive alone
  plainly : (did.preface ≡ []) ⊎ ((command : Command) × Asks words (Do command) × IsArchiveCommand command)
  plainly = ⊎_elim (λ it. of it.0 it.1 it.2 it.3) (λ short. inl short.0) did.does
    where
      of : (asked : Asked) → Asks words asked → (does : DoesAsked disk link sha1 asked did.outcome work)
          → did.preface ≡ preface_of disk link sha1 asked did.outcome work does
          → (did.preface ≡ []) ⊎ ((command : Command) × Asks words (Do command) × IsArchiveCommand command)
      of (Do (Vac store folder size)) asks does is = inr (Vac store folder size, asks, tt)
      of (Do command) asks does is = inl is
      of (Help text) asks does is = inl is
      of (Version text) asks does is = inl is
      of Faulty asks does is = inl is

  why_said : IsTrue complaint.tells → SaysWhy words status seen
  why_said tells = record {
    outcome = did.outcome;
    status_is = did.status_is;
    preface = did.preface;
    plain = plainly;
    went = did.complained tells;
  }

  pub run_tells : (words ≡ session_words → IsTrue work.source.tells → IsTrue work.sink.tells
      → InputEndsWell work.source.old → ¬ HasRisen work.source.faults work.source.faults'
      → ¬ HasRisen work.sink.faults work.sink.faults' → (status ≡ 0) ⊎ (status ≡ 8))
      → (work.source.after ≡ work.source.before → work.source.new ≡ work.source.old)
      → (work.sink.after ≡ work.sink.before → work.sink.new ≡ work.sink.old)
      → ((name : List ℕ) → IsTrue work.files.tells → work.files.content name ≡ holds name)
      → RunTells link words status seen
  run_tells complete unread unwritten stands = record {
    session = served unread unwritten;
    complete = complete;
    written = scored;
    sent = sent;
    read = printed;
    configured = configured stands;
    line = why_said;
  }
