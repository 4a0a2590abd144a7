-- An archive that is opened, and served to a client over a link (vacfs(4)).
use Rattle.std.specs.Prelude.{ℕ, ◌≡◌, ◌≤◌, ⊤, Bool, IsTrue, Option, Some, None, Result, Ok, Err, List, [], ◌∷◌, ◌++◌}
use Rattle.vt_session.specs.Talk.{spent_len}
use Rattle.vt_tree.specs.declared.error.BlockErr.{BlockErr}
use Rattle.vt_tree.specs.declared.error.TreeErr.TheVariants as trees
use Rattle.vt_tree.specs.Calls.{Call, refusals_of}
use Rattle.vt_tree.specs.Maps.{BlockMap, Maps}
use Rattle.vac_read.specs.declared.archive.Archive.{Archive}
use Rattle.vac_read.specs.declared.error.VacBad.{VacBad}
use Rattle.vac_read.specs.declared.error.VacBad.TheVariants.{Tree}
use Rattle.vac_read.specs.declared.node.Node.{Node}
use Rattle.vac_read.specs.Nodes.{IsTop}
use Rattle.vac_read.specs.Reading.{ReadsArchive, OpensArchive}
use Rattle.nine_wire.specs.Frames.{spelled_reply}
use Rattle.nine_wire.specs.Messages.{RMessage}
use Rattle.nine_view.specs.declared.serving.Served.{Served}
use Rattle.nine_view.specs.Answers.{Asked, answer_to}
use Rattle.nine_view.specs.Known.{IsRightView, ViewState}
use Rattle.nine_view.specs.Replies.{MessageComes, IsViewReply}
use Rattle.nine_view.specs.Serving.{AnswersInTurn, ReadCause, ServesConnection, MessageTurn, WriteCause}
use Rattle.vac_view.specs.Members.{LinkOf}

-- what a view of this top folder knows before anything is asked
abbrev pub unasked : Node → ViewState
unasked top = record { top = top; msize = None; fids = []; kept = []; way = [] }

-- ---- over a link

-- What passed over a link: whether it tells bytes; those that came in and those that went out,
-- before and behind it, and those that are left behind it; and how many calls have failed.
pub record Passed : Type 0 where
  pub tells : Bool
  pub given : List ℕ
  pub given' : List ℕ
  pub left' : List ℕ
  pub written : List ℕ
  pub written' : List ℕ
  pub read_faults : ℕ
  pub read_faults' : ℕ
  pub write_faults : ℕ
  pub write_faults' : ℕ

-- what passed over a link between two moments
abbrev pub passed : {L : Type 0} → LinkOf L → (l l' : L) → Passed
passed link l l' = record {
  tells = link.tells;
  given = link.given l;
  given' = link.given l';
  left' = link.left l';
  written = link.written l;
  written' = link.written l';
  read_faults = link.read_faults l;
  read_faults' = link.read_faults l';
  write_faults = link.write_faults l;
  write_faults' = link.write_faults l';
}

-- ---- what is done

-- The archive of this score was opened, and served until the connection ended.
pub record ServesArchive {S : Type 0} (does : S → Call → S → Type 0)
    (holds : S → Maps → Type 0) (score_of : List ℕ → List ℕ) (score : List ℕ) (p : Passed)
    (served : Served) (s s' : S) : Type 0 where
  -- the store behind that, and the archive
  pub opened : S
  pub archive : Archive
  pub opens : ReadsArchive does holds score_of s opened (Ok archive)
      (OpensArchive score (Ok archive))
  pub known : ViewState
  pub serves : ServesConnection does holds score_of opened s' (unasked archive.top) known
      (IsTrue p.tells) p.given p.given' p.written p.written' p.left' served.ended served.taken
      served.failure
  pub most : served.taken ≤ spent_len
  pub reads : ReadCause served.ended p.read_faults p.read_faults'
  pub writes : WriteCause served.ended p.write_faults p.write_faults'

-- The archive was shown over the link, or it couldn't be opened.
abbrev pub ViewsArchive : {S : Type 0} → (does : S → Call → S → Type 0)
    → (holds : S → Maps → Type 0) → (score_of : List ℕ → List ℕ) → (score : List ℕ) → Passed
    → Result Served VacBad → (s s' : S) → Type 0
ViewsArchive does holds score_of score p (Ok served) s s' =
    ServesArchive does holds score_of score p served s s'
ViewsArchive does holds score_of score p (Err bad) s s' =
    ReadsArchive {X = Archive} does holds score_of s s' (Err bad) (OpensArchive score (Err bad))

-- the calls of the store for these messages, one behind the other
abbrev pub calls_in_turn : {S : Type 0} → (does : S → Call → S → Type 0)
    → (holds : S → Maps → Type 0) → (score_of : List ℕ → List ℕ) → (turns : List MessageTurn)
    → (s s' : S) → (known known' : ViewState)
    → AnswersInTurn does holds score_of s known turns s' known' → List Call
calls_in_turn does holds score_of [] s s' known known' it = []
calls_in_turn does holds score_of (turn ∷ turns) s s' known known' it = it.1.1.reads.calls
    ++ calls_in_turn does holds score_of turns it.1.0 s' turn.known known' it.1.2

-- those for which the archive was opened, and behind them those of its messages
abbrev pub calls_of_view : {S : Type 0} → (does : S → Call → S → Type 0)
    → (holds : S → Maps → Type 0) → (score_of : List ℕ → List ℕ) → (score : List ℕ)
    → (p : Passed) → (result : Result Served VacBad) → (s s' : S)
    → ViewsArchive does holds score_of score p result s s' → List Call
calls_of_view does holds score_of score p (Ok served) s s' it = it.opens.calls
    ++ calls_in_turn does holds score_of it.serves.turns it.opened s' (unasked it.archive.top)
    it.known it.serves.talks
calls_of_view does holds score_of score p (Err bad) s s' it = it.calls

-- why the archive couldn't be read first, if that was told
abbrev pub first_bad : Result Served VacBad → Option VacBad
first_bad (Ok served) = served.failure
first_bad (Err bad) = Some bad

-- The archive was shown over the link, or it couldn't be opened, by these calls and no other: where a
-- block is why the archive couldn't be read first, it is the first of them that was refused.
pub record ViewsBy {S : Type 0} (does : S → Call → S → Type 0) (holds : S → Maps → Type 0)
    (score_of : List ℕ → List ℕ) (score : List ℕ) (p : Passed) (result : Result Served VacBad)
    (calls : List Call) (s s' : S) : Type 0 where
  pub views : ViewsArchive does holds score_of score p result s s'
  pub by : calls_of_view does holds score_of score p result s s' views ≡ calls
  pub first : (err : BlockErr) → first_bad result ≡ Some (Tree (trees.Block err))
      → (rest : List BlockErr) × (refusals_of calls ≡ err ∷ rest)

-- ---- what follows

-- by what the archive has, this is the reply to the message, and what is known behind it is right
pub record IsAnswered (map : BlockMap) (known : ViewState) (turn : MessageTurn) : Type 0 where
  pub tag : ℕ
  pub asked : Asked
  pub comes : MessageComes turn.message tag asked
  pub reply : RMessage
  pub said_is : turn.said ≡ spelled_reply tag reply
  pub is : IsViewReply map known (answer_to known asked) turn.failure
      (record { reply = reply; known = turn.known })
  pub right : IsRightView map turn.known
  pub top_stays : turn.known.top ≡ known.top

-- each request was answered by the blocks as they are, one behind the other
abbrev pub AreAnswered : BlockMap → ViewState → List MessageTurn → Type 0
AreAnswered map known [] = ⊤
AreAnswered map known (turn ∷ turns) =
    IsAnswered map known turn × AreAnswered map turn.known turns

-- the top folder is that of the score's archive, and each reply is what the archive has
pub record ShowsArchive (map : BlockMap) (score : List ℕ) (top : Node) (turns : List MessageTurn)
    : Type 0 where
  pub top_is : IsTop map score top
  pub answered : AreAnswered map (unasked top) turns

-- what came of it is right by this map
abbrev pub IsShown : {S : Type 0} → (does : S → Call → S → Type 0)
    → (holds : S → Maps → Type 0) → (score_of : List ℕ → List ℕ) → (p : Passed) → (s s' : S)
    → BlockMap → (score : List ℕ) → (result : Result Served VacBad)
    → ViewsArchive does holds score_of score p result s s' → Type 0
IsShown does holds score_of p s s' map score (Ok served) it =
    ShowsArchive map score it.archive.top it.serves.turns
IsShown does holds score_of p s s' map score (Err bad) it = OpensArchive score (Err bad) map
