-- What those do that answer one request each.
use Rattle.std.specs.Prelude.{ℕ, ◌≡◌, ◌≢◌, ◌≤◌, ◌+◌, ◌-◌, min, true, false, IfSome, MatchOption, Option, Some, None, Result, Ok, Err, List, [], length, take}
use Rattle.std.specs.List.{AllByRecursion, flat_map}
use Rattle.vt_tree.specs.Calls.{Call, TellsOfMap}
use Rattle.vt_tree.specs.Maps.{BlockMap, Maps, IsWriteOnce}
use Rattle.vac_read.specs.declared.error.VacBad.{VacBad}
use Rattle.vac_read.specs.declared.error.VacBad.TheVariants.{NoMemory}
use Rattle.vac_read.specs.declared.node.Node.{Node}
use Rattle.vac_read.specs.Broken.{IsBroken}
use Rattle.vac_read.specs.Nodes.{Lists}
use Rattle.vac_read.specs.Reading.{ReadsArchive}
use Rattle.nine_wire.specs.Frames.{spelled_reply}
use Rattle.nine_wire.specs.Messages.{RMessage, r_error, FitsReply}
use Rattle.nine_view.specs.declared.error.AnswerError.{AnswerError}
use Rattle.nine_view.specs.declared.fid.Fid.{Fid}
use Rattle.nine_view.specs.declared.error.AnswerError.TheVariants.{Refused, Failed}
use Rattle.nine_view.specs.declared.fid.Reading.{Reading}
use Rattle.nine_view.specs.declared.request_error.RequestError.{RequestError}
use Rattle.nine_view.specs.declared.request_error.RequestError.TheVariants.{SmallCount}
use Rattle.nine_view.specs.Answers.{Answer, settled, sets, ViewOutcome, stays, sets_fid, first_file, is_small, told_next}
use Rattle.nine_view.specs.Failures.{failure_words}
use Rattle.nine_view.specs.Files.{stat_in}
use Rattle.nine_view.specs.Known.{ViewState, IsRightView, along, fid_at, keeping, limit, with_fid}
use Rattle.nine_view.specs.Refusals.{refusal_words}
use Rattle.nine_view.specs.Replies.{IsViewReply, AsksFew, AsksForBytes, AsksNoBlock, NeverFails, failed, fails}

-- a reply stands in front of these bytes, which are so many
pub record Says (tag limit : ℕ) (out : List ℕ) (len : ℕ) (reply : RMessage) : Type 0 where
  pub fits : FitsReply reply
  pub is : take len out ≡ spelled_reply tag reply
  pub len_is : len ≡ length (spelled_reply tag reply)
  pub short : len ≤ limit

-- the reply was said, or is an error that is still to be said
abbrev pub SaysSo : (tag limit : ℕ) → (out : List ℕ) → Result ℕ AnswerError → RMessage → Type 0
SaysSo tag limit out (Ok len) reply = Says tag limit out len reply
SaysSo tag limit out (Err (Refused why)) reply = reply ≡ r_error (refusal_words why)
SaysSo tag limit out (Err (Failed bad)) reply = reply ≡ r_error (failure_words limit bad)

-- why the archive failed, if it did
abbrev pub archive_failure : Result ℕ AnswerError → Option VacBad
archive_failure (Ok len) = None
archive_failure (Err (Refused why)) = None
archive_failure (Err (Failed bad)) = Some bad

-- what is settled was said, or is an error that is still to be said
pub record SettlesRequest (tag : ℕ) (old new : ViewState) (out : List ℕ)
    (result : Result ℕ AnswerError)
    (outcome : ViewOutcome) : Type 0 where
  pub says : SaysSo tag (limit old) out result outcome.reply
  pub known : new ≡ outcome.known
  pub whole : archive_failure result ≡ None
  pub right : (map : BlockMap) → IsRightView map old → IsRightView map new

-- a request was answered so
pub record Handles {S : Type 0} (does : S → Call → S → Type 0) (holds : S → Maps → Type 0)
    (score_of : List ℕ → List ℕ) (s s' : S) (tag : ℕ) (old new : ViewState) (out : List ℕ)
    (result : Result ℕ AnswerError) (answer : Answer) : Type 0 where
  pub reply : RMessage
  pub says : SaysSo tag (limit old) out result reply
  pub reads : ReadsArchive does holds score_of s s' (failed (archive_failure result))
      (λ map. IsRightView map old → IsRightView map new
      × IsViewReply map old answer (archive_failure result) (record { reply = reply; known = new }))
  pub few : (map : BlockMap) → IsWriteOnce score_of map
      → AllByRecursion (TellsOfMap score_of map) reads.calls → IsRightView map old
      → AsksFew (score_of []) map old.kept new.kept answer (archive_failure result)
      (length reads.calls)
  pub bytes : AsksForBytes does holds score_of s s' old.way new.way answer (archive_failure result)
      reads.calls
  pub still : AsksNoBlock answer → (s' ≡ s) × ((map : BlockMap)
      → IsViewReply map old answer (archive_failure result) (record { reply = reply; known = new }))
  pub whole : NeverFails answer → archive_failure result ≡ None
  pub failed_so : IfSome (archive_failure result)
      (λ bad. stays new reply ≡ fails (along new.way (keeping new.kept old)) bad)

-- an answer that reads no block was put out, and the view is as it says
abbrev pub SettlesSo : (tag : ℕ) → (old new : ViewState) → (out : List ℕ) → Result ℕ AnswerError
    → Answer
    → Type 0
SettlesSo tag old new out result (settled outcome) = SettlesRequest tag old new out result outcome
SettlesSo tag old new out result answer = ⊥

-- What the next read of an open folder tells of its files stands in front of the buffer, in so
-- many bytes, and the folder is read so far.
pub record TellsNext (fids : List (ℕ × Fid)) (fid offset count most : ℕ) (buf : List ℕ)
    (next : Reading) (len : ℕ) : Type 0 where
  pub f : Fid
  pub reading : Reading
  pub files : List Node
  pub at : fid_at fid fids ≡ Some f
  pub now : f.reading ≡ Some reading
  pub kept : f.files ≡ Some files
  pub some : is_small most reading files offset count ≡ false
  pub next_is : next.next
      ≡ first_file reading offset + length (told_next reading files offset (min count most))
  pub end_is : next.offset
      ≡ offset + length (flat_map stat_in (told_next reading files offset (min count most)))
  pub left_is : next.left
      ≡ count - length (flat_map stat_in (told_next reading files offset (min count most)))
  pub len_is : len ≡ length (flat_map stat_in (told_next reading files offset (min count most)))
  pub written : take len buf ≡ flat_map stat_in (told_next reading files offset (min count most))

-- what the next read tells was put into the buffer, or has no room there
abbrev pub PutsNext : List (ℕ × Fid) → (fid offset count most : ℕ) → (buf : List ℕ)
    → Result (Reading × ℕ) RequestError → Type 0
PutsNext fids fid offset count most buf (Ok put) =
    TellsNext fids fid offset count most buf put.0 put.1
PutsNext fids fid offset count most buf (Err why) =
    (f : Fid) (reading : Reading) (files : List Node) → fid_at fid fids ≡ Some f
    → f.reading ≡ Some reading → f.files ≡ Some files
    → (is_small most reading files offset count ≡ true) × (why ≡ SmallCount)

-- what the fid's setting came to, for which memory was there, or wasn't
pub record SettlesFid (tag : ℕ) (old new : ViewState) (out : List ℕ) (result : Result ℕ AnswerError)
    (outcome : ViewOutcome) : Type 0 where
  pub reply : RMessage
  pub says : SaysSo tag (limit old) out result reply
  pub done : MatchOption (archive_failure result)
      (record { reply = reply; known = new } ≡ outcome)
      (λ bad. (bad ≡ NoMemory) × (new ≡ old))
  pub right : (map : BlockMap) → IsRightView map old → IsRightView map new

-- What a message comes to by an answer that is settled, or that sets a fid, for which there was
-- memory or wasn't.
abbrev pub SetsFid : (tag : ℕ) → (old new : ViewState) → (out : List ℕ) → Result ℕ AnswerError
    → Answer
    → Type 0
SetsFid tag old new out result (settled outcome) = SettlesRequest tag old new out result outcome
SetsFid tag old new out result (sets fid f reply) =
    SettlesFid tag old new out result (sets_fid old fid f reply)
SetsFid tag old new out result answer = ⊥

-- The files of an open folder are kept, if they weren't: they were listed, unless the archive
-- failed.
abbrev pub KeepsFiles : {S : Type 0} → (does : S → Call → S → Type 0) → (holds : S → Maps → Type 0)
    → (score_of : List ℕ → List ℕ) → (s s' : S) → (old new : ViewState) → (fid : ℕ) → Fid
    → Result (Unit {0}) VacBad → Option (List Node) → Type 0
KeepsFiles does holds score_of s s' old new fid f result (Some files) =
    (result ≡ Ok tt) × (s' ≡ s) × (new ≡ old)
KeepsFiles does holds score_of s s' old new fid f (Ok done) None =
    (files : List Node)
    × (new ≡ record old {
      fids = with_fid fid (record f { files = Some files }) old.fids;
    })
    × ReadsArchive {X = Unit {0}} does holds score_of s s' (Ok done)
    (λ map. Lists map f.node.stored files)
KeepsFiles does holds score_of s s' old new fid f (Err bad) None =
    (new ≡ old)
    × ReadsArchive {X = Unit {0}} does holds score_of s s' (Err bad)
    (λ map. bad ≢ NoMemory → IsBroken map f.node.stored bad)
