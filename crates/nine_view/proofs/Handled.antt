-- What is settled, refused or short of memory, as the answer to a request.
use Rattle.std.proofs.Common.{◌≡◌, ℕ, Option, Some, None, Result, Ok, Err, List, [], refl, sym, ◌∙◌, ap, subst}
use Rattle.std.specs.Prelude.{IfSome}
use Rattle.vt_tree.specs.Calls.{Call}
use Rattle.vt_tree.specs.Maps.{BlockMap, Maps}
use Rattle.vac_read.specs.declared.error.VacBad.{VacBad}
use Rattle.vac_read.specs.declared.error.VacBad.TheVariants.{NoMemory}
use Rattle.vac_read.specs.Reading.{refusal_of, refused_by}
use Rattle.vac_read.specs.Asking.{ReadsFew}
use Rattle.vac_read.proofs.Few.{few_nothing}
use Rattle.vac_read.proofs.Readings.{reads_nothing}
use Rattle.nine_wire.specs.Messages.{RMessage, r_error}
use Rattle.nine_view.specs.declared.error.AnswerError.{AnswerError}
use Rattle.nine_view.specs.declared.error.AnswerError.TheVariants.{Refused, Failed}
use Rattle.nine_view.specs.declared.fid.Fid.{Fid}
use Rattle.nine_view.specs.declared.request_error.RequestError.{RequestError}
use Rattle.nine_view.specs.Answers.{Answer, ViewOutcome, refused_answer, settled, sets, walks, reads_file, reads_folder, sets_fid, stays}
use Rattle.nine_view.specs.Failures.{failure_words}
use Rattle.nine_view.specs.Handling.{Handles, SettlesFid, SetsFid, SettlesRequest, SettlesSo, archive_failure}
use Rattle.nine_view.specs.Known.{ViewState, IsRightView, along, keeping, limit}
use Rattle.nine_view.specs.Replies.{AsksFew, AsksForBytes, IsViewReply, NeverFails, failed, fails}

module _ {S : Type 0} (does : S → Call → S → Type 0) (holds : S → Maps → Type 0)
    (score_of : List ℕ → List ℕ) (s : S) (tag : ℕ) where
  pub settled_so : (old new : ViewState) (out : List ℕ) (result : Result ℕ AnswerError) (outcome : ViewOutcome)
      → SettlesRequest tag old new out result outcome
      → Handles does holds score_of s s tag old new out result (settled outcome)
  settled_so old new out result outcome so =
      let none : (f : Option VacBad) → f ≡ None → refused_by (failed f) ≡ None =
      λ f is. ap (λ (o : Option VacBad). refused_by (failed o)) is in
      let gives : (map : BlockMap) → IsViewReply map old (settled outcome) (archive_failure result)
      (record { reply = outcome.reply; known = new }) =
      λ map. subst (λ (f : Option VacBad). IsViewReply map old (settled outcome) f
      (record { reply = outcome.reply; known = new })) (sym so.whole)
      (ap (λ (k : ViewState). record { reply = outcome.reply; known = k }) so.known) in
      record {
        reply = outcome.reply;
        says = so.says;
        reads =
            reads_nothing does holds score_of s (failed (archive_failure result)) _
            (none (archive_failure result) so.whole)
            (λ map right. (so.right map right, gives map));
        few = λ map once tells right some.
            absurd (some so.whole);
        bytes = λ some. absurd (some so.whole);
        still = λ nothing. (refl, gives);
        whole = λ never. so.whole;
        failed_so =
            subst (λ (f : Option VacBad). IfSome f (λ bad.
            stays new outcome.reply ≡ fails (along new.way (keeping new.kept old)) bad)) (sym so.whole) tt;
      }

  pub settles : (old new : ViewState) (out : List ℕ) (result : Result ℕ AnswerError) (answer : Answer)
      → SettlesSo tag old new out result answer
      → Handles does holds score_of s s tag old new out result answer
  settles old new out result (settled outcome) so = settled_so old new out result outcome so
  settles old new out result (sets fid f reply) so = absurd so
  settles old new out result (walks fid from names) so = absurd so
  settles old new out result (reads_file file at n) so = absurd so
  settles old new out result (reads_folder fid f reading offset room) so = absurd so

  pub refused_so : (old : ViewState) (out : List ℕ) (why : RequestError)
      → Handles does holds score_of s s tag old old out (Err (Refused why)) (refused_answer old why)
  refused_so old out why =
      settled_so old old out (Err (Refused why)) _
      (record { says = refl; known = refl; whole = refl; right = λ map right. right })

  -- memory was short, and nothing has changed
  pub no_memory : (old : ViewState) (out : List ℕ) (answer : Answer) → (NeverFails answer → ⊥)
      → ((map : BlockMap) → AsksFew (score_of []) map old.kept old.kept answer (Some NoMemory) 0)
      → ((calls : List Call)
      → AsksForBytes does holds score_of s s old.way old.way answer (Some NoMemory) calls)
      → Handles does holds score_of s s tag old old out (Err (Failed NoMemory)) answer
  no_memory old out answer may none bytes =
      let nothing : ReadsFew {X = Unit {0}} does holds score_of s s (Err NoMemory)
      (λ map. IsRightView map old → IsRightView map old
      × IsViewReply map old answer (Some NoMemory)
      (stays old (r_error (failure_words (limit old) NoMemory))))
      (λ map n. IsRightView map old
      → AsksFew (score_of []) map old.kept old.kept answer (Some NoMemory) n) =
      few_nothing does holds score_of s (Err NoMemory) _ _ refl
      (λ map right. (right, λ some. absurd (some refl))) (λ map right. none map) in
      record {
        reply = r_error (failure_words (limit old) NoMemory);
        says = refl;
        reads = nothing.reads;
        few = nothing.few;
        bytes = bytes nothing.reads.calls;
        still = λ nothing. (refl, λ map some. absurd (some refl));
        whole = λ never. absurd (may never);
        failed_so = refl;
      }

  -- a fid was set, or memory was short
  pub sets_handles : (old new : ViewState) (out : List ℕ) (result : Result ℕ AnswerError) (fid : ℕ)
      (f : Fid) (reply : RMessage) → SettlesFid tag old new out result (sets_fid old fid f reply)
      → Handles does holds score_of s s tag old new out result (sets fid f reply)
  sets_handles old new out (Ok len) fid f reply so = record {
    reply = so.reply;
    says = so.says;
    reads = reads_nothing does holds score_of s (Ok tt) _ refl
        (λ map right. (so.right map right, so.done));
    few = λ map once tells right some. absurd (some refl);
    bytes = λ some. absurd (some refl);
    still = λ nothing. (refl, λ map. so.done);
    whole = λ never. absurd never;
    failed_so = tt;
  }
  sets_handles old new out (Err (Refused why)) fid f reply so = record {
    reply = so.reply;
    says = so.says;
    reads = reads_nothing does holds score_of s (Ok tt) _ refl
        (λ map right. (so.right map right, so.done));
    few = λ map once tells right some. absurd (some refl);
    bytes = λ some. absurd (some refl);
    still = λ nothing. (refl, λ map. so.done);
    whole = λ never. absurd never;
    failed_so = tt;
  }
  sets_handles old new out (Err (Failed bad)) fid f reply so = record {
    reply = so.reply;
    says = so.says;
    reads = reads_nothing does holds score_of s (Err bad) _ (ap refusal_of so.done.0)
        (λ map right. (so.right map right, λ some. absurd (some so.done.0)));
    few = λ map once tells right some. ap (λ (k : ViewState). k.kept) so.done.1;
    bytes = λ some. ap (λ (k : ViewState). k.way) so.done.1;
    still = λ nothing. (refl, λ map some. absurd (some so.done.0));
    whole = λ never. absurd never;
    failed_so =
        ap (λ (r : RMessage). stays new r) so.says
        ∙ ap (λ (k : ViewState). stays (along new.way (keeping new.kept k))
        (r_error (failure_words (limit old) bad))) so.done.1;
  }

  -- either of both
  pub sets_so : (old new : ViewState) (out : List ℕ) (result : Result ℕ AnswerError) (answer : Answer)
      → SetsFid tag old new out result answer
      → Handles does holds score_of s s tag old new out result answer
  sets_so old new out result (settled outcome) so = settled_so old new out result outcome so
  sets_so old new out result (sets fid f reply) so = sets_handles old new out result fid f reply so
  sets_so old new out result (walks fid from names) so = absurd so
  sets_so old new out result (reads_file file at n) so = absurd so
  sets_so old new out result (reads_folder fid f reading offset room) so = absurd so
