-- What an attach comes to.
use Rattle.std.proofs.Common.{◌≡◌, ◌≤◌, ◌<◌, ◌^◌, ℕ, true, false, Ok, Err, List, [], length, take, refl, arith, eq-eqb}
use Rattle.std.proofs.lemmas.Bool.{le-leb, lt-leb, ne_eqb}
use Rattle.vac_read.specs.declared.error.VacBad.TheVariants.{NoMemory}
use Rattle.nine_wire.specs.declared.TheConstants.{NO_FID}
use Rattle.nine_wire.specs.Frames.{spelled_reply}
use Rattle.nine_wire.specs.Messages.{r_attach, r_error}
use Rattle.nine_view.specs.declared.error.AnswerError.TheVariants.{Refused, Failed}
use Rattle.nine_view.specs.declared.fid.Fid.{Fid}
use Rattle.nine_view.specs.declared.request_error.RequestError.TheVariants.{NoAuthentication, BadFid, FidInUse, TooManyFids}
use Rattle.nine_view.specs.Answers.{to_attach, unopened}
use Rattle.nine_view.specs.Failures.{failure_words}
use Rattle.nine_view.specs.Files.{qid_of}
use Rattle.nine_view.specs.Handling.{SetsFid}
use Rattle.nine_view.specs.Kept.{IsKeptView}
use Rattle.nine_view.specs.Known.{ViewState, is_known, limit, with_fid}
use Rattle.nine_view.proofs.Keeping.{right_with}
use Rattle.nine_view.proofs.Limits.{least_limit}
use Rattle.nine_view.proofs.Settled.{refused_here}

-- a fid at the top folder
abbrev pub at_top : ViewState → Fid
at_top known = unopened (record { node = known.top; above = [] })

module _ (tag : ℕ) (known : ViewState) (out : List ℕ) (fid afid : ℕ) where
  pub attach_authentic : (afid ≡ NO_FID → ⊥)
      → SetsFid tag known known out (Err (Refused NoAuthentication)) (to_attach known fid afid)
  attach_authentic some =
      rw (ne_eqb afid NO_FID some) (refused_here tag known out NoAuthentication)

  pub attach_bad : afid ≡ NO_FID → fid ≡ NO_FID
      → SetsFid tag known known out (Err (Refused BadFid)) (to_attach known fid afid)
  attach_bad none bad =
      rw (eq-eqb afid NO_FID none, eq-eqb fid NO_FID bad) (refused_here tag known out BadFid)

  module _ (none : afid ≡ NO_FID) (good : fid ≡ NO_FID → ⊥) where
    pub attach_used : is_known fid known.fids ≡ true
        → SetsFid tag known known out (Err (Refused FidInUse)) (to_attach known fid afid)
    attach_used used =
        rw (eq-eqb afid NO_FID none, ne_eqb fid NO_FID good, used)
        (refused_here tag known out FidInUse)

    pub attach_many : is_known fid known.fids ≡ false → 1024 ≤ length known.fids
        → SetsFid tag known known out (Err (Refused TooManyFids)) (to_attach known fid afid)
    attach_many new many =
        rw (
          eq-eqb afid NO_FID none,
          ne_eqb fid NO_FID good,
          new,
          le-leb 1024 (length known.fids) many,
        ) (refused_here tag known out TooManyFids)

    pub attach_unset : is_known fid known.fids ≡ false → length known.fids < 1024
        → SetsFid tag known known out (Err (Failed NoMemory)) (to_attach known fid afid)
    attach_unset new few =
        rw (
          eq-eqb afid NO_FID none,
          ne_eqb fid NO_FID good,
          new,
          lt-leb 1024 (length known.fids) few,
        )
        (record {
          reply = r_error (failure_words (limit known) NoMemory);
          says = refl;
          done = (refl, refl);
          right = λ map right. right;
        })

    pub attach_set : (fids : List (ℕ × Fid)) (len : ℕ) → is_known fid known.fids ≡ false
        → length known.fids < 1024 → IsKeptView known → known.top.qid < 2 ^ 64
        → fids ≡ with_fid fid (at_top known) known.fids
        → take len out ≡ spelled_reply tag (r_attach (qid_of known.top))
        → len ≡ length (spelled_reply tag (r_attach (qid_of known.top)))
        → SetsFid tag known (record known { fids = fids }) out (Ok len) (to_attach known fid afid)
    attach_set fids len new few kept qid set written len_is =
        let least = least_limit known kept in
        rw (
          eq-eqb afid NO_FID none,
          ne_eqb fid NO_FID good,
          new,
          lt-leb 1024 (length known.fids) few,
          set,
        )
        (record {
          reply = r_attach (qid_of known.top);
          says = record { fits = qid; is = written; len_is = len_is; short = omega arith };
          done = refl;
          right = λ map right. right_with map known fid (at_top known) right
              (record { way = refl; files = tt });
        })
