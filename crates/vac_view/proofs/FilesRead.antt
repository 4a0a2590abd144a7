-- What a read of a file of an archive is replied.
use Rattle.std.proofs.Common.{◌≡◌, ℕ, min, Option, Some, None, List, take, drop, ◌∙◌, ap, subst}
use Rattle.std.specs.Prelude.{unwrap_or}
use Rattle.vt_tree.specs.Maps.{BlockMap}
use Rattle.vac_read.specs.declared.error.VacBad.{VacBad}
use Rattle.vac_read.specs.declared.node.Stored.{Stored}
use Rattle.vac_read.specs.declared.node.Stored.TheVariants as stored
use Rattle.vac_read.specs.Laws.{HoldsBytes, ReadsAreBytes}
use Rattle.nine_wire.specs.Messages.{r_read, t_read}
use Rattle.nine_view.specs.declared.TheConstants.{MAX_MESSAGE}
use Rattle.nine_view.specs.declared.fid.Fid.{Fid}
use Rattle.nine_view.specs.declared.fid.Reading.{Reading}
use Rattle.nine_view.specs.Answers.{Answer, Asked, ViewOutcome, answer_request, answer_to, iounit, most_data, request, to_read, to_stored}
use Rattle.nine_view.specs.Known.{ViewState, fid_at}
use Rattle.nine_view.specs.Replies.{GivesOutcome, IsViewReply}
use Rattle.nine_view.specs.Serving.{MessageTurn}
use Rattle.vac_view.specs.Viewing.{IsAnswered}

module _ (reads_are : ReadsAreBytes) (map : BlockMap) (known : ViewState) where
  file_read : (fid offset count : ℕ) (f : Fid) (reading : Reading) (s : Stored) (bytes : List ℕ)
      (o : ViewOutcome) → HoldsBytes map s bytes
      → GivesOutcome map known (to_stored known fid f reading offset count s) o
      → o.reply ≡ r_read (take (min count (most_data known)) (drop offset bytes))
  file_read fid offset count f reading (stored.File e) bytes o holds gives =
      let got = reads_are map e bytes gives.0 offset (min count (most_data known)) holds gives.1 in
      ap (λ (x : ViewOutcome). x.reply) gives.2 ∙ ap r_read got
  file_read fid offset count f reading (stored.Folder entries metadata) bytes o holds gives =
      absurd holds

  answer_is : (msize fid offset count : ℕ) (f : Fid) (reading : Reading) (asked : Asked)
      → known.msize ≡ Some msize → asked ≡ request (t_read fid offset count)
      → fid_at fid known.fids ≡ Some f → f.reading ≡ Some reading
      → answer_to known asked
      ≡ to_stored known fid f reading offset count f.node.stored
  answer_is msize fid offset count f reading asked agreed is at opened =
      ap (λ (a : Asked). answer_to known a) is
      ∙ ap (λ (o : Option ℕ). answer_request known o (t_read fid offset count)) agreed
      ∙ rw at (ap (λ (r : Option Reading). to_read known fid offset count f r) opened)

  pub read_is_of_file : (turn : MessageTurn) (it : IsAnswered map known turn)
      (msize fid offset count : ℕ) (f : Fid) (reading : Reading) (bytes : List ℕ)
      → known.msize ≡ Some msize → it.asked ≡ request (t_read fid offset count)
      → fid_at fid known.fids ≡ Some f → f.reading ≡ Some reading
      → HoldsBytes map f.node.stored bytes → turn.failure ≡ None
      → it.reply ≡ r_read (take (min count (iounit msize)) (drop offset bytes))
  read_is_of_file turn it msize fid offset count f reading bytes agreed is at opened holds none =
      let o : ViewOutcome = record { reply = it.reply; known = turn.known } in
      file_read fid offset count f reading f.node.stored bytes o holds
      (subst (λ (a : Answer). GivesOutcome map known a o)
      (answer_is msize fid offset count f reading it.asked agreed is at opened)
      (subst (λ (x : Option VacBad). IsViewReply map known (answer_to known it.asked) x o) none it.is))
      ∙ ap (λ (n : Option ℕ). r_read (take (min count (iounit (unwrap_or n MAX_MESSAGE)))
      (drop offset bytes))) agreed
