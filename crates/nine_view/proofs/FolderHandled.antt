-- What a read of an open folder comes to, of which the files may still have to be listed.
use Rattle.std.proofs.Common.{◌≡◌, ℕ, Option, Some, None, Result, Ok, Err, List, refl, sym, ◌∙◌, ap, subst, inl, inr}
use Rattle.std.specs.Prelude.{IfSome}
use Rattle.std.proofs.lemmas.Bool.{cases_Bool}
use Rattle.vt_tree.specs.Calls.{Call}
use Rattle.vt_tree.specs.Maps.{BlockMap, Maps}
use Rattle.vac_read.specs.declared.error.VacBad.{VacBad}
use Rattle.vac_read.specs.declared.node.Node.{Node}
use Rattle.vac_read.specs.Nodes.{Lists}
use Rattle.vac_read.specs.Reading.{ReadsArchive, refused_by}
use Rattle.vac_read.proofs.Readings.{reads_as}
use Rattle.nine_wire.specs.Messages.{RMessage, r_error}
use Rattle.nine_view.specs.declared.error.AnswerError.{AnswerError}
use Rattle.nine_view.specs.declared.error.AnswerError.TheVariants.{Failed}
use Rattle.nine_view.specs.declared.fid.Fid.{Fid}
use Rattle.nine_view.specs.declared.fid.Reading.{Reading}
use Rattle.nine_view.specs.Answers.{ViewOutcome, is_small, most_data, reads_files, reads_folder, sets_fid, stays, to_folder}
use Rattle.nine_view.specs.Failures.{failure_words}
use Rattle.nine_view.specs.Handling.{Handles, KeepsFiles, SettlesRequest, archive_failure}
use Rattle.nine_view.specs.Known.{ViewState, IsRightView, along, fid_at, keeping, limit, with_fid}
use Rattle.nine_view.specs.Replies.{IsViewReply, failed, fails}
use Rattle.nine_view.proofs.Handled.{settled_so}
use Rattle.nine_view.proofs.Keeping.{at_with, right_fid, right_with, with_with}

-- a fid with the files of its folder, and what is known with it
abbrev pub with_files : Fid → List Node → Fid
with_files f files = record f { files = Some files }

abbrev pub listed : ViewState → (fid : ℕ) → Fid → List Node → ViewState
listed known fid f files =
    record known { fids = with_fid fid (with_files f files) known.fids }

-- what comes of a read doesn't depend on whether the files were kept before
same_files : (known : ViewState) (fid : ℕ) (f : Fid) (reading : Reading) (offset count : ℕ)
    (files : List Node)
    → reads_files (listed known fid f files) fid (with_files f files) reading offset count files
    ≡ reads_files known fid f reading offset count files
same_files known fid f reading offset count files =
    let again : (g : Fid) (reply : RMessage)
    → sets_fid (listed known fid f files) fid g reply ≡ sets_fid known fid g reply =
    λ g reply. ap (λ (l : List (ℕ × Fid)). stays (record known { fids = l }) reply)
    (with_with fid (with_files f files) g known.fids) in
    elim (cases_Bool (is_small (most_data known) reading files offset count)) [
      | inl a ↦ rw a (again _ _)
      | inr a ↦ rw a (again _ _)
    ]

module _ {S : Type 0} (does : S → Call → S → Type 0) (holds : S → Maps → Type 0)
    (score_of : List ℕ → List ℕ) (s s' : S) (tag : ℕ) (old : ViewState) (out : List ℕ) (fid : ℕ)
    (f : Fid) (reading : Reading) (offset count : ℕ)
  where
    -- the files were listed
    now_listed : (new : ViewState) (result : Result ℕ AnswerError) (files : List Node)
        → fid_at fid old.fids ≡ Some f
        → ReadsArchive {X = Unit {0}} does holds score_of s s' (Ok tt)
        (λ map. Lists map f.node.stored files)
        → SettlesRequest tag (listed old fid f files) new out result
        (reads_files (listed old fid f files) fid (with_files f files) reading offset count files)
        → Handles does holds score_of s s' tag old new out result
        (reads_folder fid f reading offset count)
    now_listed new result files at reads so =
        let outcome : ViewOutcome =
        reads_files (listed old fid f files) fid (with_files f files) reading offset count files in
        let whole : archive_failure result ≡ None = so.whole in
        let none : refused_by (failed (archive_failure result)) ≡ None =
        ap (λ (o : Option VacBad). refused_by (failed o)) whole in
        let is : stays new outcome.reply ≡ reads_files old fid f reading offset count files =
        ap (λ (k : ViewState). stays k outcome.reply) so.known
        ∙ same_files old fid f reading offset count files in
        let kept : (map : BlockMap) → Lists map f.node.stored files → IsRightView map old
        → IsRightView map (listed old fid f files) =
        λ map lists right. right_with map old fid (with_files f files) right
        (record { way = (right_fid map old fid f right at).way; files = lists }) in
        record {
          reply = outcome.reply;
          says = so.says;
          reads =
              reads_as does holds score_of s s' (Ok tt) (failed (archive_failure result)) _ _ none reads
              (λ map lists right. (
                so.right map (kept map lists right),
                subst (λ (o : Option VacBad). IsViewReply map old (reads_folder fid f reading offset count) o
                    (stays new outcome.reply)) (sym whole) (files, lists, is),
              ));
          few = λ map once tells right some.
              absurd (some whole);
          bytes = λ some. absurd (some whole);
          still = λ nothing. absurd nothing;
          whole = λ never. absurd never;
          failed_so =
              subst (λ (o : Option VacBad). IfSome o (λ bad.
              stays new outcome.reply ≡ fails (along new.way (keeping new.kept old)) bad)) (sym whole) tt;
        }

    -- they couldn't be
    pub not_listed : (mid : ViewState) (bad : VacBad) (files : Option (List Node))
        → KeepsFiles does holds score_of s s' old mid fid f (Err bad) files
        → Handles does holds score_of s s' tag old mid out (Err (Failed bad))
        (to_folder old fid f reading offset count files)
    not_listed mid bad (Some files) keeps =
        let no : Err bad ≡ Ok tt = keeps.0 in absurd (cc)
    not_listed mid bad None keeps =
        subst (λ (k : ViewState). Handles does holds score_of s s' tag old k out (Err (Failed bad))
        (reads_folder fid f reading offset count)) (sym keeps.0)
        (record {
          reply = r_error (failure_words (limit old) bad);
          says = refl;
          reads =
              reads_as does holds score_of s s' (Err bad) (Err bad) _ _ refl keeps.1
              (λ map broken right. (right, broken));
          few = λ map once tells right some. refl;
          bytes = λ some. refl;
          still = λ nothing. absurd nothing;
          whole = λ never. absurd never;
          failed_so = refl;
        })

    pub folder_handled : (mid new : ViewState) (result : Result ℕ AnswerError) (files : Option (List Node))
        → fid_at fid old.fids ≡ Some f → f.reading ≡ Some reading → f.files ≡ files
        → KeepsFiles does holds score_of s s' old mid fid f (Ok tt) files
        → ((g : Fid) (r : Reading) (l : List Node) → fid_at fid mid.fids ≡ Some g
        → g.reading ≡ Some r → g.files ≡ Some l
        → SettlesRequest tag mid new out result (reads_files mid fid g r offset count l))
        → Handles does holds score_of s s' tag old new out result
        (to_folder old fid f reading offset count files)
    folder_handled mid new result (Some files) at read_so is keeps settles =
        let known : fid_at fid mid.fids ≡ Some f =
        ap (λ (k : ViewState). fid_at fid k.fids) keeps.2 ∙ at in
        subst (λ (x : S). Handles does holds score_of s x tag old new out result
        (to_folder old fid f reading offset count (Some files))) (sym keeps.1)
        (settled_so does holds score_of s tag old new out result _
        (subst (λ (k : ViewState). SettlesRequest tag k new out result
        (reads_files k fid f reading offset count files)) keeps.2
        (settles f reading files known read_so is)))
    folder_handled mid new result None at read_so is (files, known, reads) settles =
        let found : fid_at fid mid.fids ≡ Some (with_files f files) =
        ap (λ (k : ViewState). fid_at fid k.fids) known ∙ at_with fid (with_files f files) old.fids in
        now_listed new result files at reads
        (subst (λ (k : ViewState). SettlesRequest tag k new out result
        (reads_files k fid (with_files f files) reading offset count files)) known
        (settles (with_files f files) reading files found read_so refl))
