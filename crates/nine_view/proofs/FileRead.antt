-- What a read of a file comes to.
use Rattle.std.proofs.Common.{◌-◌, ℕ, min, Some, None, Ok, Err, List, take, refl, ap}
use Rattle.vt_tree.specs.declared.entry.Entry.{Entry}
use Rattle.vt_tree.specs.Calls.{Call}
use Rattle.vt_tree.specs.Content.{size_of}
use Rattle.vt_tree.specs.Maps.{Maps}
use Rattle.vac_read.specs.declared.error.VacBad.{VacBad}
use Rattle.vac_read.specs.declared.last_way.WayBlock.{WayBlock}
use Rattle.vac_read.specs.LastWay.{ReadsFileOnWay}
use Rattle.nine_wire.specs.Messages.{r_error, r_read}
use Rattle.nine_view.specs.declared.error.AnswerError.TheVariants.{Failed}
use Rattle.nine_view.specs.Answers.{reads_file, stays}
use Rattle.nine_view.specs.Failures.{failure_words}
use Rattle.nine_view.specs.Handling.{Handles, Says}
use Rattle.nine_view.specs.Known.{ViewState, IsRightView, along, limit}
use Rattle.nine_view.specs.Replies.{IsViewReply}
use Rattle.nine_view.proofs.Keeping.{right_along}
use Rattle.nine_view.proofs.Parts.{all_told, part_told}

module _ {S : Type 0} (does : S → Call → S → Type 0) (holds : S → Maps → Type 0)
    (score_of : List ℕ → List ℕ) (s s' : S) (tag : ℕ) (known : ViewState) (way : List WayBlock)
    (out : List ℕ) (e : Entry) (at n : ℕ)
  where
    pub file_failed : (bad : VacBad)
        → ReadsFileOnWay does holds score_of s s' known.way way e at (min n (size_of e - at)) (Err bad)
        → Handles does holds score_of s s' tag known (along way known) out (Err (Failed bad))
        (reads_file e at n)
    file_failed bad reads =
        let told = part_told does holds score_of s s' known.way way e at
        (min n (size_of e - at)) (Err bad) (Err bad)
        (λ map. IsRightView map known → IsRightView map (along way known)
        × IsViewReply map known (reads_file e at n) (Some bad)
        (record { reply = r_error (failure_words (limit known) bad); known = along way known }))
        refl reads
        (λ map lost right.
        let l = lost right.way in (right_along map known way right l.0, l.1)) in
        record {
          reply = r_error (failure_words (limit known) bad);
          says = refl;
          reads = told.0;
          few = λ map once tells right some. refl;
          bytes = (Err bad, refl, reads, told.1);
          still = λ nothing. absurd nothing;
          whole = λ never. absurd never;
          failed_so = refl;
        }

    pub file_told : (bytes : List ℕ) (len : ℕ)
        → ReadsFileOnWay does holds score_of s s' known.way way e at (min n (size_of e - at)) (Ok bytes)
        → Says tag (limit known) out len (r_read (take n bytes))
        → Handles does holds score_of s s' tag known (along way known) out (Ok len)
        (reads_file e at n)
    file_told bytes len reads says =
        let told = part_told does holds score_of s s' known.way way e at
        (min n (size_of e - at)) (Ok bytes) (Ok tt)
        (λ map. IsRightView map known → IsRightView map (along way known)
        × IsViewReply map known (reads_file e at n) None
        (record { reply = r_read (take n bytes); known = along way known }))
        refl reads
        (λ map told right.
        let t = told right.way in (
          right_along map known way right t.0,
          (
            bytes,
            t.1,
            ap (λ (b : List ℕ). stays (along way known) (r_read b))
                (all_told bytes n (size_of e) at t.1.0),
          ),
        )) in
        record {
          reply = r_read (take n bytes);
          says = says;
          reads = told.0;
          few = λ map once tells right some. absurd (some refl);
          bytes = (Ok bytes, refl, reads, told.1);
          still = λ nothing. absurd nothing;
          whole = λ never. absurd never;
          failed_so = tt;
        }
