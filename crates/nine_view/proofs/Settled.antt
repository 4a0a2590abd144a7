-- What each request comes to that the view answers by itself.
use Rattle.std.proofs.Common.{◌≡◌, ◌≤◌, ◌<◌, ◌^◌, ℕ, true, false, Option, Some, None, Ok, Err, List, length, take, refl, sym, ap, subst, arith}
use Rattle.std.specs.Prelude.{is_some, nat_lt, unwrap_or}
use Rattle.std.proofs.lemmas.Bool.{ltb-false}
use Rattle.vt_tree.specs.Maps.{BlockMap}
use Rattle.nine_wire.specs.Frames.{spelled_reply}
use Rattle.nine_wire.specs.Messages.{FitsReply, FitsStat, r_clunk, r_error, r_open, r_stat}
use Rattle.nine_view.specs.declared.error.AnswerError.TheVariants.{Refused}
use Rattle.nine_view.specs.declared.fid.Fid.{Fid}
use Rattle.nine_view.specs.declared.request_error.RequestError.{RequestError}
use Rattle.nine_view.specs.declared.request_error.RequestError.TheVariants.{FidIsOpen, ReadOnly, SmallCount, UnknownFid}
use Rattle.nine_view.specs.Answers.{Answer, ViewOutcome, of_fid, refused_answer, refuses, settled, with_known, to_open, to_stat, may_open, iounit, unread}
use Rattle.nine_view.specs.Files.{qid_of, stat_of}
use Rattle.nine_view.specs.Handling.{SettlesRequest, SettlesSo}
use Rattle.nine_view.specs.Kept.{IsKeptView}
use Rattle.nine_view.specs.Known.{ViewState, IsRightView, fid_at, is_known, limit, with_fid, without_fid}
use Rattle.nine_view.specs.Refusals.{refusal_words}
use Rattle.nine_view.proofs.Keeping.{right_fid, right_with, right_without}
use Rattle.nine_view.proofs.Limits.{least_limit}
use Rattle.nine_view.proofs.Sizes.{stat_len}
use Rattle.nine_view.proofs.OfFids.{none_known, of_known, of_unknown, one_known}

module _ (tag : ℕ) (known : ViewState) (out : List ℕ) where
  -- a refusal changes nothing
  pub refused_here : (why : RequestError)
      → SettlesRequest tag known known out (Err (Refused why)) (refuses known why)
  refused_here why = record { says = refl; known = refl; whole = refl; right = λ map right. right }

  -- the reply was written, and is no longer than it may be
  pub said_here : (len : ℕ) (new : ViewState) (outcome : ViewOutcome) → FitsReply outcome.reply
      → take len out ≡ spelled_reply tag outcome.reply → len ≡ length (spelled_reply tag outcome.reply)
      → len ≤ limit known → new ≡ outcome.known
      → ((map : BlockMap) → IsRightView map known → IsRightView map new)
      → SettlesRequest tag known new out (Ok len) outcome
  said_here len new outcome fits is len_is short same right = record {
    says = record { fits = fits; is = is; len_is = len_is; short = short };
    known = same;
    whole = refl;
    right = right;
  }

  pub unknown_at : (fid : ℕ) (answer : Fid → Answer) → fid_at fid known.fids ≡ None
      → SettlesSo tag known known out (Err (Refused UnknownFid)) (of_fid known fid answer)
  unknown_at fid answer none =
      of_unknown (SettlesSo tag known known out (Err (Refused UnknownFid))) known fid answer none
      (refused_here UnknownFid)

  pub unknown_here : (fid : ℕ) (answer : Fid → Answer) → is_known fid known.fids ≡ false
      → SettlesSo tag known known out (Err (Refused UnknownFid)) (of_fid known fid answer)
  unknown_here fid answer none = unknown_at fid answer (none_known fid known.fids none)

  pub read_only_here : (fid : ℕ) → is_known fid known.fids ≡ true
      → SettlesSo tag known known out (Err (Refused ReadOnly))
      (of_fid known fid (λ f. refused_answer known ReadOnly))
  read_only_here fid is =
      let one = one_known fid known.fids is in
      of_known (SettlesSo tag known known out (Err (Refused ReadOnly))) known fid _ one.0 one.1
      (refused_here ReadOnly)

  -- ---- a fid that goes

  right_gone : (fid : ℕ) (fids : List (ℕ × Fid)) → fids ≡ without_fid fid known.fids
      → (map : BlockMap) → IsRightView map known → IsRightView map (record known { fids = fids })
  right_gone fid fids gone map right =
      subst (λ (l : List (ℕ × Fid)). IsRightView map (record known { fids = l })) (sym gone)
      (right_without map known fid right)

  pub clunked : (fid : ℕ) (fids : List (ℕ × Fid)) (len : ℕ) → IsKeptView known
      → is_known fid known.fids ≡ true → fids ≡ without_fid fid known.fids
      → take len out ≡ spelled_reply tag r_clunk → len ≡ length (spelled_reply tag r_clunk)
      → SettlesSo tag known (record known { fids = fids }) out (Ok len)
      (of_fid known fid
      (λ f. settled (with_known known (without_fid fid known.fids) r_clunk)))
  clunked fid fids len kept is gone written len_is =
      let one = one_known fid known.fids is in
      let least = least_limit known kept in
      of_known (SettlesSo tag known (record known { fids = fids }) out (Ok len)) known fid _ one.0
      one.1
      (said_here len (record known { fids = fids }) _ tt written len_is (omega arith)
      (ap (λ (l : List (ℕ × Fid)). record known { fids = l }) gone) (right_gone fid fids gone))

  pub removed : (fid : ℕ) (fids : List (ℕ × Fid)) → is_known fid known.fids ≡ true
      → fids ≡ without_fid fid known.fids
      → SettlesSo tag known (record known { fids = fids }) out (Err (Refused ReadOnly))
      (of_fid known fid (λ f. settled (with_known known (without_fid fid known.fids)
      (r_error (refusal_words ReadOnly)))))
  removed fid fids is gone =
      let one = one_known fid known.fids is in
      of_known (SettlesSo tag known (record known { fids = fids }) out (Err (Refused ReadOnly)))
      known fid _ one.0 one.1
      (record {
        says = refl;
        known = ap (λ (l : List (ℕ × Fid)). record known { fids = l }) gone;
        whole = refl;
        right = right_gone fid fids gone;
      })

  -- ---- a fid that is opened

  right_open : (fid : ℕ) (f : Fid) (fids : List (ℕ × Fid)) → fid_at fid known.fids ≡ Some f
      → fids ≡ with_fid fid (record f { reading = Some unread }) known.fids
      → (map : BlockMap) → IsRightView map known → IsRightView map (record known { fids = fids })
  right_open fid f fids at same map right =
      let old = right_fid map known fid f right at in
      subst (λ (l : List (ℕ × Fid)). IsRightView map (record known { fids = l })) (sym same)
      (right_with map known fid (record f { reading = Some unread }) right
      (record { way = old.way; files = old.files }))

  pub opened : (msize fid mode : ℕ) (f : Fid) (fids : List (ℕ × Fid)) (len : ℕ) → IsKeptView known
      → known.msize ≡ Some msize → msize < 2 ^ 32 → f.node.qid < 2 ^ 64
      → fid_at fid known.fids ≡ Some f → is_some f.reading ≡ false
      → may_open f.node.stored mode ≡ true
      → fids ≡ with_fid fid (record f { reading = Some unread }) known.fids
      → take len out ≡ spelled_reply tag (r_open (qid_of f.node) (iounit msize))
      → len ≡ length (spelled_reply tag (r_open (qid_of f.node) (iounit msize)))
      → SettlesSo tag known (record known { fids = fids }) out (Ok len)
      (of_fid known fid (λ g. settled (to_open known msize fid mode g)))
  opened msize fid mode f fids len kept agreed small qid at closed may same written len_is =
      let least = least_limit known kept in
      of_known (SettlesSo tag known (record known { fids = fids }) out (Ok len)) known fid _ f at
      (rw (closed, may) (said_here len (record known { fids = fids }) _ (qid, omega arith) written
      len_is (omega arith) (ap (λ (l : List (ℕ × Fid)). record known { fids = l }) same)
      (right_open fid f fids at same)))

  pub not_opened : (msize fid mode : ℕ) (f : Fid) → fid_at fid known.fids ≡ Some f
      → is_some f.reading ≡ true
      → SettlesSo tag known known out (Err (Refused FidIsOpen))
      (of_fid known fid (λ g. settled (to_open known msize fid mode g)))
  not_opened msize fid mode f at open_yet =
      of_known (SettlesSo tag known known out (Err (Refused FidIsOpen))) known fid _ f at
      (rw open_yet (refused_here FidIsOpen))

  pub opened_for_less : (msize fid mode : ℕ) (f : Fid) → fid_at fid known.fids ≡ Some f
      → is_some f.reading ≡ false → may_open f.node.stored mode ≡ false
      → SettlesSo tag known known out (Err (Refused ReadOnly))
      (of_fid known fid (λ g. settled (to_open known msize fid mode g)))
  opened_for_less msize fid mode f at closed may =
      of_known (SettlesSo tag known known out (Err (Refused ReadOnly))) known fid _ f at
      (rw (closed, may) (refused_here ReadOnly))

  -- ---- what is told of a file

  pub stat_small : (msize fid : ℕ) (f : Fid) → fid_at fid known.fids ≡ Some f
      → nat_lt msize (length (spelled_reply 0 (r_stat (stat_of f.node)))) ≡ true
      → SettlesSo tag known known out (Err (Refused SmallCount))
      (of_fid known fid (λ g. settled (to_stat known msize g)))
  stat_small msize fid f at small =
      of_known (SettlesSo tag known known out (Err (Refused SmallCount))) known fid _ f at
      (rw small (refused_here SmallCount))

  pub stat_told : (msize fid : ℕ) (f : Fid) (len : ℕ) → known.msize ≡ Some msize
      → fid_at fid known.fids ≡ Some f → FitsStat (stat_of f.node)
      → nat_lt msize (length (spelled_reply 0 (r_stat (stat_of f.node)))) ≡ false
      → take len out ≡ spelled_reply tag (r_stat (stat_of f.node))
      → len ≡ length (spelled_reply tag (r_stat (stat_of f.node)))
      → SettlesSo tag known known out (Ok len)
      (of_fid known fid (λ g. settled (to_stat known msize g)))
  stat_told msize fid f len agreed at fits room written len_is =
      let least = ltb-false msize (length (spelled_reply 0 (r_stat (stat_of f.node)))) room in
      let most : limit known ≡ msize = ap (λ (o : Option ℕ). unwrap_or o 65536) agreed in
      let here = stat_len 0 (stat_of f.node) in
      let there = stat_len tag (stat_of f.node) in
      of_known (SettlesSo tag known known out (Ok len)) known fid _ f at
      (rw room (said_here len known _ fits written len_is (omega arith) refl (λ map right. right)))
