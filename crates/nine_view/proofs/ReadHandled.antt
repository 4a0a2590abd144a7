-- What a read comes to, by what stands behind its fid.
use Rattle.std.proofs.Common.{◌≡◌, ◌==◌, ◌&&◌, ℕ, true, false, not, Option, Some, None, Result, Err, List, sym, subst}
use Rattle.vt_tree.specs.declared.entry.Entry.{Entry}
use Rattle.vt_tree.specs.Calls.{Call}
use Rattle.vt_tree.specs.Maps.{Maps}
use Rattle.vac_read.specs.declared.node.Stored.{Stored}
use Rattle.vac_read.specs.declared.node.Stored.TheVariants as stored
use Rattle.nine_view.specs.declared.error.AnswerError.{AnswerError}
use Rattle.nine_view.specs.declared.error.AnswerError.TheVariants.{Refused}
use Rattle.nine_view.specs.declared.fid.Fid.{Fid}
use Rattle.nine_view.specs.declared.fid.Reading.{Reading}
use Rattle.nine_view.specs.declared.request_error.RequestError.TheVariants.{BadOffset, FidNotOpen, UnknownFid}
use Rattle.nine_view.specs.Answers.{Answer, of_fid, to_folder, to_read, to_stored}
use Rattle.nine_view.specs.Handling.{Handles}
use Rattle.nine_view.specs.Known.{ViewState, fid_at}
use Rattle.nine_view.proofs.Handled.{refused_so}
use Rattle.nine_view.proofs.OfFids.{of_known, of_unknown}

module _ {S : Type 0} (does : S → Call → S → Type 0) (holds : S → Maps → Type 0)
    (score_of : List ℕ → List ℕ) (tag : ℕ) (known : ViewState) (out : List ℕ) (fid offset count : ℕ)
  where
    abbrev asked : Answer
    asked = of_fid known fid (λ f. to_read known fid offset count f f.reading)

    pub read_unknown : (s : S) → fid_at fid known.fids ≡ None
        → Handles does holds score_of s s tag known known out (Err (Refused UnknownFid)) asked
    read_unknown s none =
        of_unknown
        (λ (a : Answer). Handles does holds score_of s s tag known known out
        (Err (Refused UnknownFid)) a) known fid _ none
        (refused_so does holds score_of s tag known out UnknownFid)

    pub read_closed : (s : S) (f : Fid) → fid_at fid known.fids ≡ Some f → f.reading ≡ None
        → Handles does holds score_of s s tag known known out (Err (Refused FidNotOpen)) asked
    read_closed s f at closed =
        of_known
        (λ (a : Answer). Handles does holds score_of s s tag known known out
        (Err (Refused FidNotOpen)) a) known fid _ f at
        (subst (λ (o : Option Reading). Handles does holds score_of s s tag known known out
        (Err (Refused FidNotOpen)) (to_read known fid offset count f o)) (sym closed)
        (refused_so does holds score_of s tag known out FidNotOpen))

    pub read_of : (s s' : S) (new : ViewState) (result : Result ℕ AnswerError) (f : Fid) (r : Reading)
        (st : Stored) → fid_at fid known.fids ≡ Some f → f.reading ≡ Some r → f.node.stored ≡ st
        → Handles does holds score_of s s' tag known new out result
        (to_stored known fid f r offset count st)
        → Handles does holds score_of s s' tag known new out result asked
    read_of s s' new result f r st at now is so =
        of_known (λ (a : Answer). Handles does holds score_of s s' tag known new out result a)
        known fid _ f at
        (subst (λ (o : Option Reading). Handles does holds score_of s s' tag known new out result
        (to_read known fid offset count f o)) (sym now)
        (subst (λ (x : Stored). Handles does holds score_of s s' tag known new out result
        (to_stored known fid f r offset count x)) (sym is) so))

    pub read_elsewhere : (s : S) (f : Fid) (r : Reading) (entries metadata : Entry)
        → (not (offset == 0) && not (offset == r.offset)) ≡ true
        → Handles does holds score_of s s tag known known out (Err (Refused BadOffset))
        (to_stored known fid f r offset count (stored.Folder entries metadata))
    read_elsewhere s f r entries metadata bad =
        rw bad (refused_so does holds score_of s tag known out BadOffset)

    pub read_here : (s s' : S) (new : ViewState) (result : Result ℕ AnswerError) (f : Fid) (r : Reading)
        (entries metadata : Entry) → (not (offset == 0) && not (offset == r.offset)) ≡ false
        → Handles does holds score_of s s' tag known new out result
        (to_folder known fid f r offset count f.files)
        → Handles does holds score_of s s' tag known new out result
        (to_stored known fid f r offset count (stored.Folder entries metadata))
    read_here s s' new result f r entries metadata good so = rw good so
