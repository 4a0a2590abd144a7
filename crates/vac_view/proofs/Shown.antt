-- What is shown of an archive by what the store holds.
use Rattle.std.proofs.Common.{ℕ, List, [], ◌∷◌, Result, Ok, Err, subst, sym}
use Rattle.vt_tree.specs.Calls.{Call}
use Rattle.vt_tree.specs.Maps.{Maps}
use Rattle.vac_read.specs.declared.error.VacBad.{VacBad}
use Rattle.nine_view.specs.declared.serving.Served.{Served}
use Rattle.nine_view.specs.Known.{IsRightView, ViewState}
use Rattle.nine_view.specs.Serving.{AnswersInTurn, MessageTurn}
use Rattle.vac_view.proofs.Tops.{top_stays}
use Rattle.vac_view.specs.Viewing.{AreAnswered, IsShown, Passed, ViewsArchive, unasked}

module _ {S : Type 0} (does : S → Call → S → Type 0) (holds : S → Maps → Type 0)
    (score_of : List ℕ → List ℕ) (m : Maps) where
  talk_shown : (turns : List MessageTurn) (s s' : S) (known known' : ViewState)
      → AnswersInTurn does holds score_of s known turns s' known' → holds s m → IsRightView m.held known
      → holds s' m × AreAnswered m.held known turns
  talk_shown [] s s' known known' it hold right =
      (subst (λ (x : S). holds x m) (sym it.0) hold, tt)
  talk_shown (turn ∷ turns) s s' known known' it hold right =
      let now = it.1.1.reads.held m hold in
      let replied = now.1 right in
      let later = talk_shown turns it.1.0 s' turn.known known' it.1.2 now.0 replied.0 in (
        later.0,
        (
          record {
            tag = it.1.1.tag;
            asked = it.1.1.asked;
            comes = it.1.1.comes;
            reply = it.1.1.reply;
            said_is = it.1.1.said_is;
            is = replied.1;
            right = replied.0;
            top_stays = top_stays known m.held it.1.1.asked turn.failure it.1.1.reply turn.known
                replied.1 it.1.1.failed_so;
          },
          later.1,
        ),
      )

  pub view_shown : (score : List ℕ) (p : Passed) (result : Result Served VacBad) (s s' : S)
      (it : ViewsArchive does holds score_of score p result s s') → holds s m
      → holds s' m × IsShown does holds score_of p s s' m.held score result it
  view_shown score p (Ok served) s s' it hold =
      let top = it.opens.held m hold in
      let talk = talk_shown it.serves.turns it.opened s' (unasked it.archive.top) it.known
      it.serves.talks top.0 (record { fids = tt; kept = tt; way = tt }) in
      (talk.0, record { top_is = top.1; answered = talk.1 })
  view_shown score p (Err bad) s s' it hold = it.held m hold
