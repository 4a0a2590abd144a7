-- A message that was answered, once its reply is said.
use Rattle.std.proofs.Common.{◌≡◌, ◌≤◌, ℕ, Option, None, Result, Err, List, length, take, sym, ◌∙◌, ap, subst, arith}
use Rattle.vt_tree.specs.Calls.{Call}
use Rattle.vt_tree.specs.Maps.{Maps}
use Rattle.vac_read.specs.declared.error.VacBad.{VacBad}
use Rattle.nine_wire.specs.Messages.{RMessage, r_error}
use Rattle.nine_view.specs.declared.error.AnswerError.{AnswerError}
use Rattle.nine_view.specs.declared.error.AnswerError.TheVariants.{Refused}
use Rattle.nine_view.specs.declared.request_error.RequestError.{RequestError}
use Rattle.nine_view.specs.Answers.{Answer, Asked, answer_to, refused_answer}
use Rattle.nine_view.specs.Handling.{Handles, Says, SaysSo, archive_failure}
use Rattle.nine_view.specs.Known.{ViewState, limit}
use Rattle.nine_view.specs.Refusals.{refusal_words}
use Rattle.nine_view.specs.Replies.{MessageComes, AnswersMessage}
use Rattle.nine_view.proofs.Handled.{refused_so}

module _ {S : Type 0} (does : S → Call → S → Type 0) (holds : S → Maps → Type 0)
    (score_of : List ℕ → List ℕ) (s : S) (old : ViewState) (message : List ℕ) (tag : ℕ) (asked : Asked)
    (comes : MessageComes message tag asked) (out' : List ℕ) (len : ℕ) (failure : Option VacBad)
  where
    pub replied : (s' : S) (new : ViewState) (out : List ℕ) (result : Result ℕ AnswerError)
        → Handles does holds score_of s s' tag old new out result (answer_to old asked)
        → ((reply : RMessage) → SaysSo tag (limit old) out result reply
        → Says tag (limit old) out' len reply)
        → failure ≡ archive_failure result
        → AnswersMessage does holds score_of s s' old new message (take len out') failure
    replied s' new out result so says same =
        let told = says so.reply so.says in
        subst (λ (f : Option VacBad).
        AnswersMessage does holds score_of s s' old new message (take len out') f) (sym same)
        (record {
          tag = tag;
          asked = asked;
          comes = comes;
          reply = so.reply;
          fits = told.fits;
          said_is = told.is;
          short = subst (λ (n : ℕ). n ≤ limit old) (told.len_is ∙ sym (ap length told.is)) told.short;
          reads = so.reads;
          few = so.few;
          bytes = so.bytes;
          still = so.still;
          whole = so.whole;
          failed_so = so.failed_so;
        })

    -- what can't be read is refused
    pub misread : (why : RequestError) → answer_to old asked ≡ refused_answer old why → 256 ≤ limit old
        → Says tag 256 out' len (r_error (refusal_words why)) → failure ≡ None
        → AnswersMessage does holds score_of s s old old message (take len out') failure
    misread why is least says none =
        replied s old out' (Err (Refused why))
        (subst (λ (a : Answer). Handles does holds score_of s s tag old old out' (Err (Refused why)) a)
        (sym is) (refused_so does holds score_of s tag old out' why))
        (λ reply same. subst (λ (r : RMessage). Says tag (limit old) out' len r) (sym same)
        (record {
          fits = says.fits;
          is = says.is;
          len_is = says.len_is;
          short = let short = says.short in omega arith;
        }))
        none
