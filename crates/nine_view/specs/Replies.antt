-- What the view of an archive replies to a message, by what the archive has.
use Rattle.std.specs.List.{AllByRecursion}
use Rattle.std.specs.Prelude.{ℕ, ◌≡◌, ◌≢◌, ◌-◌, ◌≤◌, ⊤, min, true, false, IfSome, Option, Some, None, Result, Ok, Err, List, [], ◌∷◌, length}
use Rattle.vt_tree.specs.Calls.{Call, TellsOfMap}
use Rattle.vt_tree.specs.Content.{size_of, byte_of}
use Rattle.vt_tree.specs.Maps.{BlockMap, Maps, IsWriteOnce}
use Rattle.vt_tree.specs.Reading.{GivesBytes}
use Rattle.vac_read.specs.declared.error.VacBad.{VacBad}
use Rattle.vac_read.specs.declared.error.VacBad.TheVariants.{NoMemory}
use Rattle.vac_read.specs.declared.kept.KeptFolder.{KeptFolder}
use Rattle.vac_read.specs.declared.last_way.WayBlock.{WayBlock}
use Rattle.vac_read.specs.declared.node.Node.{Node}
use Rattle.vac_read.specs.Broken.{IsBroken, IsUnread}
use Rattle.vac_read.specs.LastWay.{ReadsFileOnWay}
use Rattle.vac_read.specs.Nodes.{Lists}
use Rattle.vac_read.specs.Reading.{ReadsArchive}
use Rattle.nine_wire.specs.Frames.{IsFrame, spelled_reply}
use Rattle.nine_wire.specs.Messages.{TMessage, SpellsBody, is_request_type, FitsReply, RMessage, r_read, r_walk, r_error}
use Rattle.nine_wire.specs.Messages.{Qid}
use Rattle.nine_view.specs.declared.place.Place.{Place}
use Rattle.nine_view.specs.declared.request_error.RequestError.{RequestError}
use Rattle.nine_view.specs.Answers.{Asked, unknown, misspelled, request, ViewOutcome, Answer, settled, sets, walks, reads_file, reads_folder, answer_to, stays, refuses, sets_fid, unopened, reads_files}
use Rattle.nine_view.specs.Asking.{WalkAsks}
use Rattle.nine_view.specs.Failures.{failure_words}
use Rattle.nine_view.specs.Known.{ViewState, IsRightView, along, keeping, limit}
use Rattle.nine_view.specs.Walks.{Walk, Walks, IsLost}

-- ---- what is asked

-- a type and its parameters come to this
abbrev pub ComesToRequest : (type : ℕ) → (parameters : List ℕ) → Asked → Type 0
ComesToRequest type parameters unknown = is_request_type type ≡ false
ComesToRequest type parameters misspelled =
    (is_request_type type ≡ true) × ((m : TMessage) → SpellsBody m type parameters → ⊥)
ComesToRequest type parameters (request m) = SpellsBody m type parameters

-- the bytes are one whole message under this tag, and come to this
pub record MessageComes (message : List ℕ) (tag : ℕ) (asked : Asked) : Type 0 where
  pub type : ℕ
  pub parameters : List ℕ
  pub frame : IsFrame message type tag parameters
  pub is : ComesToRequest type parameters asked

-- the bytes are one whole message
abbrev pub IsMessage : List ℕ → Type 0
IsMessage bytes = (type : ℕ) × (tag : ℕ) × (parameters : List ℕ) × IsFrame bytes type tag parameters

-- ---- what the archive gives

-- where the names end, the fid is set; where the first of them leads nowhere that is an error, and
-- where a later one does, the qids so far are told, and nothing is set
abbrev pub walked : ViewState → (fid : ℕ) → List Qid → Result Place RequestError → ViewOutcome
walked known fid qids (Ok at) = sets_fid known fid (unopened at) (r_walk qids)
walked known fid [] (Err why) = refuses known why
walked known fid (qid ∷ qids) (Err why) = stays known (r_walk (qid ∷ qids))

-- The message is told that the archive failed, and nothing else changes.
abbrev pub fails : ViewState → VacBad → ViewOutcome
fails known bad = stays known (r_error (failure_words (limit known) bad))

-- The outcome of an answer by what the archive has; behind a walk other folders may be kept, and behind a read of a file
-- what was on its way.
abbrev pub GivesOutcome : BlockMap → ViewState → Answer → ViewOutcome → Type 0
GivesOutcome map known (settled outcome) o = o ≡ outcome
GivesOutcome map known (sets fid f reply) o = o ≡ sets_fid known fid f reply
GivesOutcome map known (walks fid from names) o =
    (walk : Walk) × Walks map (Ok from) names walk
    × (o ≡ walked (keeping o.known.kept known) fid walk.qids walk.end)
GivesOutcome map known (reads_file e at n) o =
    (bytes : List ℕ) × GivesBytes (byte_of map e) at (min n (size_of e - at)) (Ok bytes)
    × (o ≡ stays (along o.known.way known) (r_read bytes))
GivesOutcome map known (reads_folder fid f reading offset count) o =
    (files : List Node) × Lists map f.node.stored files
    × (o ≡ reads_files known fid f reading offset count files)

-- Why an answer can't be told, beside want of memory; what is settled always can.
abbrev pub Lacks : BlockMap → Answer → VacBad → Type 0
Lacks map (settled outcome) bad = ⊥
Lacks map (sets fid f reply) bad = ⊥
Lacks map (walks fid from names) bad = IsLost map (Ok from) names bad
Lacks map (reads_file e at n) bad = IsUnread map e at (min n (size_of e - at)) bad
Lacks map (reads_folder fid f reading offset count) bad = IsBroken map f.node.stored bad

-- the reply was this, by what the archive has, or it failed for this reason
abbrev pub IsViewReply : BlockMap → ViewState → Answer → (failure : Option VacBad) → ViewOutcome
    → Type 0
IsViewReply map known answer None o = GivesOutcome map known answer o
IsViewReply map known answer (Some bad) o = bad ≢ NoMemory → Lacks map answer bad

-- ---- whatever the archive has

-- no block is asked for
abbrev pub AsksNoBlock : Answer → Type 0
AsksNoBlock (settled outcome) = ⊤
AsksNoBlock (sets fid f reply) = ⊤
AsksNoBlock (walks fid from names) = ⊥
AsksNoBlock (reads_file e at n) = ⊥
AsksNoBlock (reads_folder fid f reading offset count) = ⊥

-- nothing fails
abbrev pub NeverFails : Answer → Type 0
NeverFails (settled outcome) = ⊤
NeverFails answer = ⊥

-- what a failure is told as, by those who read archives
abbrev pub failed : Option VacBad → Result (Unit {0}) VacBad
failed None = Ok tt
failed (Some bad) = Err bad

-- why bytes aren't told, if they aren't
abbrev pub lost_bytes : Result (List ℕ) VacBad → Option VacBad
lost_bytes (Ok bytes) = None
lost_bytes (Err bad) = Some bad

-- These calls are at most the blocks on the way to the bytes of a file, each once: but for want of memory, just those
-- that weren't kept, where this was kept of the way of the last read, and this is behind it. Behind another answer that
-- failed it is what it was.
abbrev pub AsksForBytes : {S : Type 0} → (does : S → Call → S → Type 0)
    → (holds : S → Maps → Type 0) → (score_of : List ℕ → List ℕ) → (s s' : S)
    → (old new : List WayBlock) → Answer → (failure : Option VacBad) → List Call → Type 0
AsksForBytes does holds score_of s s' old new (reads_file e at n) failure calls =
    (result : Result (List ℕ) VacBad) × (failure ≡ lost_bytes result)
    × (it : ReadsFileOnWay does holds score_of s s' old new e at (min n (size_of e - at)) result)
    × (calls ≡ it.reads.calls)
AsksForBytes does holds score_of s s' old new answer failure calls = failure ≢ None → new ≡ old

-- A walk asks for so many blocks at most, where this was kept of folders, and this is behind it. Behind another answer
-- that failed it is what it was.
abbrev pub AsksFew : (zero_score : List ℕ) → BlockMap → (old new : List KeptFolder) → Answer
    → (failure : Option VacBad) → (n : ℕ) → Type 0
AsksFew zero_score map old new (walks fid from names) failure n =
    WalkAsks zero_score map failure old new (Ok from) names n
AsksFew zero_score map old new answer failure n = failure ≢ None → new ≡ old

-- ---- one message

-- A message was answered by these bytes, over a store of blocks, and this is known behind it. The
-- reply is that of the archive by each write-once map of which the store's answers are true, where
-- what was known is right by it; and then what is known now is right too. Whatever the blocks are,
-- the reply is one message under the message's tag, as short as agreed; what the view answers by
-- itself is exact, without asking for a block; and a failure changes nothing but what is kept. By each of those maps by
-- which what was known is right, a walk asks for no more blocks than are few for it, and keeps the folders in which it
-- looked.
pub record AnswersMessage {S : Type 0} (does : S → Call → S → Type 0) (holds : S → Maps → Type 0)
    (score_of : List ℕ → List ℕ) (s s' : S) (old new : ViewState) (message said : List ℕ)
    (failure : Option VacBad) : Type 0 where
  pub tag : ℕ
  pub asked : Asked
  pub comes : MessageComes message tag asked
  pub reply : RMessage
  pub fits : FitsReply reply
  pub said_is : said ≡ spelled_reply tag reply
  pub short : length said ≤ limit old
  pub reads : ReadsArchive does holds score_of s s' (failed failure)
      (λ map. IsRightView map old → IsRightView map new
      × IsViewReply map old (answer_to old asked) failure (record { reply = reply; known = new }))
  pub few : (map : BlockMap) → IsWriteOnce score_of map
      → AllByRecursion (TellsOfMap score_of map) reads.calls → IsRightView map old
      → AsksFew (score_of []) map old.kept new.kept (answer_to old asked) failure (length reads.calls)
  pub bytes : AsksForBytes does holds score_of s s' old.way new.way (answer_to old asked) failure
      reads.calls
  pub still : AsksNoBlock (answer_to old asked)
      → (s' ≡ s) × ((map : BlockMap)
      → IsViewReply map old (answer_to old asked) failure (record { reply = reply; known = new }))
  pub whole : NeverFails (answer_to old asked) → failure ≡ None
  pub failed_so : IfSome failure
      (λ bad. stays new reply ≡ fails (along new.way (keeping new.kept old)) bad)
