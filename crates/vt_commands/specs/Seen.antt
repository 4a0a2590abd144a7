-- What a run comes to, in terms of the bytes that what it is lent tells of.
use Rattle.std.specs.Prelude.{ℕ, ◌≡◌, ◌≢◌, ◌⊎◌, ◌++◌, Bool, IsTrue, Option, Some, List, [], ◌∷◌, Ok}
use Rattle.hex.specs.Hex.{encode_lower}
use Rattle.sha1.specs.Sha1.{sha1}
use Rattle.vt_base.specs.Faults.{HasRisen}
use Rattle.vt_base.specs.ScoreText.{SpellsScore}
use Rattle.vt_base.specs.declared.score.Score.{Score}
use Rattle.vt_cli.specs.declared.asked.Asked.TheVariants.{Do}
use Rattle.vt_cli.specs.declared.command.Command.{Command}
use Rattle.vt_cli.specs.declared.command.Command.TheVariants.{Session, Read, Write}
use Rattle.vt_cli.specs.Words.{Asks, session_words}
use Rattle.vt_client.specs.Clients.{ClientState}
use Rattle.vt_conf.specs.Addresses.{SpellsAddress}
use Rattle.vt_conf.specs.Configuration.{Configures}
use Rattle.vt_conf.specs.declared.address.Address.{Address}
use Rattle.vt_conf.specs.declared.conf.Conf.{Conf}
use Rattle.vt_dial.specs.Dialled.{Dialled, with_back, with_link}
use Rattle.vt_model.specs.History.{History}
use Rattle.vt_out.specs.Streams.{AppendsPrefix}
use Rattle.vt_remote.specs.Remote.{TalksFor}
use Rattle.vt_session.specs.declared.Ended.{Ended}
use Rattle.vt_session.specs.declared.Ended.TheVariants.{Goodbye, Closed}
use Rattle.vt_session.specs.Answered.{no_faults}
use Rattle.vt_session.specs.Talk.{Alone, Took}
use Rattle.vt_session.specs.Turns.{Turn}
use Rattle.vt_commands.specs.Run.{IsArchiveCommand}
use Rattle.vt_tree.specs.Calls.{Call, get, put, sync}
use Rattle.run_base.specs.Blocks.{SaysType}
use Rattle.run_base.specs.Errors.{CommandOutcome, outcome_line, status_of}
use Rattle.run_base.specs.Members.{SourceOf, SinkOf, FilesOf, DialerOf, LinkOf}
use Rattle.run_base.specs.Memory.{memory_setup}
use Rattle.run_base.specs.Places.{in_memory}
use Rattle.run_base.specs.Served.{InputEndsWell}
use Rattle.run_base.specs.declared.host.Outside.{Outside}

-- What is told of a run: whether the source, the sink, the fault sink, the files and the dialer tell it,
-- what was left to come in before it and behind it, what had gone out of each sink, which bytes stand
-- under a name, and what became of a link; and how many calls of the source, of the sink and of the fault
-- sink had failed.
pub record Seen (L : Type 0) : Type 0 where
  pub reads : Bool
  pub came : List ℕ
  pub left : List ℕ
  pub read_faults : ℕ
  pub read_faults' : ℕ
  pub writes : Bool
  pub went : List ℕ
  pub went' : List ℕ
  pub write_faults : ℕ
  pub write_faults' : ℕ
  pub says : Bool
  pub said : List ℕ
  pub said' : List ℕ
  pub said_faults : ℕ
  pub said_faults' : ℕ
  pub names : Bool
  pub holds : (name : List ℕ) → Option (List ℕ)
  pub dials : Bool
  pub dialled : Dialled L
  pub dialled' : Dialled L

-- What is told of a run by the members of what it is lent, with what stands under names.
abbrev pub seen_of : {R K F I P G N L C T : Type 0} → SourceOf R → SinkOf K → SinkOf F → FilesOf I
    → DialerOf N L → (holds : List ℕ → Option (List ℕ)) → (before after : Outside R K F I P N G C T)
    → Seen L
seen_of source sink fault_sink files dialer holds before after = record {
  reads = source.tells;
  came = source.left before.streams.source;
  left = source.left after.streams.source;
  read_faults = source.faults before.streams.source;
  read_faults' = source.faults after.streams.source;
  writes = sink.tells;
  went = sink.written before.streams.sink;
  went' = sink.written after.streams.sink;
  write_faults = sink.faults before.streams.sink;
  write_faults' = sink.faults after.streams.sink;
  says = fault_sink.tells;
  said = fault_sink.written before.fault_sink;
  said' = fault_sink.written after.fault_sink;
  said_faults = fault_sink.faults before.fault_sink;
  said_faults' = fault_sink.faults after.fault_sink;
  names = files.tells;
  holds = holds;
  dials = dialer.tells;
  dialled = dialer.dialled before.dialer;
  dialled' = dialer.dialled after.dialer;
}

-- What came in, up to where it was left, and what went out are one session that nobody shares, over a
-- store in memory that began empty. With status 0 it ended well.
pub record IsServed {L : Type 0} (status : ℕ) (seen : Seen L) : Type 0 where
  pub input : List ℕ
  pub output : List ℕ
  pub turns : List Turn
  pub ended : Ended
  pub between : History
  pub took : Took seen.came input seen.left ended
  pub written : seen.went' ≡ seen.went ++ output
  pub alone : Alone sha1 memory_setup no_faults [] input output turns ended between
  pub well : status ≡ 0 → (ended ≡ Goodbye) ⊎ (ended ≡ Closed)

-- memory ran out before anything was read or written
pub record LacksMemory {L : Type 0} (status : ℕ) (seen : Seen L) : Type 0 where
  pub status_is : status ≡ 8
  pub unread : seen.left ≡ seen.came
  pub unwritten : seen.went' ≡ seen.went

-- the score of all that came in was written, in a line
pub record PrintsScore {L : Type 0} (seen : Seen L) : Type 0 where
  pub all : seen.left ≡ []
  pub written : seen.went' ≡ seen.went ++ (encode_lower (sha1 seen.came) ++ 10 ∷ [])

-- One link was made to the address that a word spells, over which a server was met, asked for this and
-- for nothing else, and parted from; and where the dialer tells that, and made none before, it is back.
pub record TalksTo {L : Type 0} (link : LinkOf L) (store : List ℕ) (calls : List Call) (seen : Seen L)
    : Type 0 where
  pub address : Address
  pub spelled : SpellsAddress address store
  pub met : ClientState L
  pub last : ClientState L
  pub back : L
  pub talks : TalksFor link sha1 calls met last back
  pub dialled : IsTrue seen.dials → seen.dialled' ≡ with_back back (with_link address seen.dialled)

-- a block of the score and the type that words say was asked of a server, and written
pub record PrintsBlock {L : Type 0} (link : LinkOf L) (store score_word type_word : List ℕ)
    (seen : Seen L) : Type 0 where
  pub kind : ℕ
  pub kind_is : SaysType type_word kind
  pub bytes : List ℕ
  pub scored : SpellsScore (sha1 bytes) score_word
  pub asked : TalksTo link store (get kind (sha1 bytes) (Ok bytes) ∷ []) seen
  pub written : IsTrue seen.writes → seen.went' ≡ seen.went ++ bytes

-- what came in was put to a server as a block of the type that a word says, and a sync behind it
pub record PutsBlock {L : Type 0} (link : LinkOf L) (store type_word : List ℕ) (seen : Seen L)
    : Type 0 where
  pub kind : ℕ
  pub kind_is : SaysType type_word kind
  pub given : Score
  pub scored : given.0 ≡ sha1 seen.came
  pub asked : TalksTo link store
      (put (record { kind = kind; bytes = seen.came }) (Ok given) ∷ sync (Ok tt) ∷ []) seen

-- what stands under this name is a configuration
pub record HoldsConf {L : Type 0} (file : List ℕ) (seen : Seen L) : Type 0 where
  pub text : List ℕ
  pub stands : seen.holds file ≡ Some text
  pub conf : Conf
  pub says : Configures text conf

-- The line of an outcome that has this status went to the fault sink; or a front of it, and a call of that
-- failed. Something stands before the line of an archive alone.
pub record SaysWhy {L : Type 0} (words : List (List ℕ)) (status : ℕ) (seen : Seen L) : Type 0 where
  pub outcome : CommandOutcome
  pub status_is : status ≡ status_of outcome
  pub preface : List ℕ
  pub plain : (preface ≡ [])
      ⊎ ((command : Command) × Asks words (Do command) × IsArchiveCommand command)
  pub went : (seen.said' ≡ seen.said ++ (preface ++ outcome_line outcome))
      ⊎ (AppendsPrefix seen.said seen.said' (preface ++ outcome_line outcome)
      × HasRisen seen.said_faults seen.said_faults')

-- What a run with these words and this status comes to, where it is told.
pub record RunTells {L : Type 0} (link : LinkOf L) (words : List (List ℕ)) (status : ℕ) (seen : Seen L)
    : Type 0 where
  -- a session in memory is one, and input that ends well is answered to its end, unless memory runs out
  pub session : words ≡ session_words → IsTrue seen.reads → IsTrue seen.writes
      → IsServed status seen ⊎ LacksMemory status seen
  pub complete : words ≡ session_words → IsTrue seen.reads → IsTrue seen.writes
      → InputEndsWell seen.came → ¬ HasRisen seen.read_faults seen.read_faults'
      → ¬ HasRisen seen.write_faults seen.write_faults' → (status ≡ 0) ⊎ (status ≡ 8)
  -- where `write` ends well, wherever the store is, what came in has the score that it prints; and a
  -- server was given that
  pub written : (store type_word : List ℕ) → Asks words (Do (Write store type_word))
      → IsTrue seen.reads → IsTrue seen.writes → status ≡ 0 → PrintsScore seen
  pub sent : (store type_word : List ℕ) (address : Address)
      → Asks words (Do (Write store type_word)) → SpellsAddress address store → IsTrue seen.reads
      → status ≡ 0 → PutsBlock link store type_word seen
  -- where `read` of a server ends well, what it prints has the score that it was asked for
  pub read : (store score_word type_word : List ℕ) (address : Address)
      → Asks words (Do (Read store score_word type_word)) → SpellsAddress address store
      → status ≡ 0 → PrintsBlock link store score_word type_word seen
  -- where a session over another store ends well, what stands under that name is a configuration
  pub configured : (file : List ℕ) → Asks words (Do (Session file)) → file ≢ in_memory
      → IsTrue seen.names → status ≡ 0 → HoldsConf file seen
  -- the status has its line
  pub line : IsTrue seen.says → SaysWhy words status seen
