-- What is told of a block, by what the operations on it were answered.
use Rattle.std.proofs.Common.{◌≡◌, ◌⊎◌, ⊎_elim, inl, inr, ℕ, List, Bool, Result, Ok, Err, refl, ◌∙◌, ap, subst, arith}
use Rattle.std.specs.Prelude.{IfErr, OnOk, min}
use Rattle.vt_base.specs.Protocol.{Operation, read, write, r_read, r_refused, r_sync, r_write}
use Rattle.vt_base.specs.declared.TheConstants.{MAX_BLOCK}
use Rattle.vt_base.specs.declared.score.Score.{Score}
use Rattle.vt_base.specs.declared.why.Why.{Why}
use Rattle.vt_base.specs.declared.why.Why.TheVariants as whys
use Rattle.vt_disk.specs.Members.{DiskOf}
use Rattle.vt_model.specs.History.{History}
use Rattle.vt_model.specs.Places.{Setup}
use Rattle.vt_handler.specs.Serving.{answered, asked_of_store, tells_failure}
use Rattle.vt_core.specs.Causes.{IsUndamagedWhy}
use Rattle.vt_core.specs.Core.{CoreState}
use Rattle.vt_requests.specs.Ending.{EndsFor}
use Rattle.vt_use.specs.Answers.{AreModelAnswers, IsAnswer}
use Rattle.vt_use.specs.OneBlock.{ArePut, asks_block}
use Rattle.vt_use.specs.Stores.{Exchange}
use Rattle.vt_use.proofs.Answered.{stays}
use Rattle.vt_use.specs.Blocks.{closed_behind, written_to}

module _ (score : List ℕ → List ℕ) (c : Setup) (h : History) where
  -- ---- a block that is read

  pub read_answered : (kind : ℕ) (s : List ℕ) (result : Result (List ℕ) Why) (last : History) (durable : ℕ)
      → AreModelAnswers score c h (asks_block kind s result) last durable
      → IsAnswer score c h (read s kind MAX_BLOCK)
      (answered (λ (bytes : List ℕ). r_read bytes) result)
  read_answered kind s result last durable it =
      let whole : asked_of_store (read s kind MAX_BLOCK) ≡ read s kind MAX_BLOCK =
      ap (λ (n : ℕ). read s kind n) (let most : min MAX_BLOCK MAX_BLOCK ≡ MAX_BLOCK = omega arith
      in most) in
      subst (λ (m : Operation). IsAnswer score c h m
      (answered (λ (bytes : List ℕ). r_read bytes) result)) whole
      (⊎_elim (λ model. inl model.0) (λ failed. inr failed.0) it.1)

  -- it adds nothing
  pub read_stays : (kind : ℕ) (s : List ℕ) (result : Result (List ℕ) Why) (last : History)
      (durable : ℕ) → AreModelAnswers score c h (asks_block kind s result) last durable → last ≡ h
  read_stays kind s result last durable it =
      it.3 ∙ stays score c h it.0 s kind MAX_BLOCK
      (answered (λ (bytes : List ℕ). r_read bytes) result) it.1

  -- ---- a block that is written

  module _ (kind : ℕ) (bytes : List ℕ) where
    abbrev Answered : Result Score Why → Type 0
    Answered r = IsAnswer score c h (write kind bytes)
        (answered (λ (given : Score). r_write given.0) r)

    -- what a block and a sync come to
    pub record PutSo (put : Result Score Why) (last : History) : Type 0 where
      pub answers : Answered put
      pub last_is : (last ≡ h) ⊎ (last ≡ written_to score c h kind bytes)
      pub done : OnOk put (last ≡ written_to score c h kind bytes)

    pub puts_so : (put : Result Score Why) (calls : List Exchange) (last : History)
        (durable : ℕ) → ArePut kind bytes put calls → AreModelAnswers score c h calls last durable
        → PutSo put last
    puts_so (Ok given) calls last durable are all =
        let it = subst (λ (l : List Exchange). AreModelAnswers score c h l last durable) are all in
        let first = ⊎_elim (λ model. model) (λ failed. absurd failed.0) it.1 in
        let same = ⊎_elim (λ model. model.1) (λ failed. failed.1) it.3.1 in
        let is : last ≡ written_to score c h kind bytes = it.3.3 ∙ same ∙ first.1 in
        record { answers = inl first.0; last_is = inr is; done = is }
    puts_so (Err why) calls last durable are all = ⊎_elim
        (λ refused.
        let it = subst (λ (l : List Exchange). AreModelAnswers score c h l last durable) refused all in
        record {
          answers = ⊎_elim (λ model. inl model.0) (λ failed. inr failed.0) it.1;
          last_is = ⊎_elim (λ model. inr (it.3 ∙ model.1)) (λ failed. inl (it.3 ∙ failed.1)) it.1;
          done = tt;
        })
        (λ behind.
        let it = subst (λ (l : List Exchange). AreModelAnswers score c h l last durable) behind.1 all in
        let first = ⊎_elim (λ model. model) (λ failed. absurd failed.0) it.1 in
        let same = ⊎_elim (λ model. model.1) (λ failed. failed.1) it.3.1 in
        record {
          answers = ⊎_elim
              (λ model. let no : r_refused why ≡ r_sync = model.0 in absurd (cc))
              (λ failed. inr failed.0) it.3.1;
          last_is = inr (it.3.3 ∙ same ∙ first.1);
          done = tt;
        })
        are

    -- ---- and the end behind that

    module _ {D : Type 0} (disk : DiskOf D) (kept new : CoreState D) where
      -- the end of the store's use fails for a failure
      end_fails : (why : Why) → EndsFor disk why kept new → tells_failure why ≡ Bool.true
      end_fails whys.DiskFault it = refl
      end_fails (whys.Stopped call) it = refl
      end_fails (whys.Damaged site want found) it = refl
      end_fails whys.NoMemory it = absurd it
      end_fails whys.BadType it = absurd it
      end_fails whys.TooBig it = absurd it
      end_fails whys.TooSmall it = absurd it
      end_fails whys.Absent it = absurd it
      end_fails whys.Collision it = absurd it
      end_fails whys.IndexFull it = absurd it
      end_fails whys.ArenasFull it = absurd it

      pub answers_so : (put : Result Score Why) (closed : Result (Unit {0}) Why) → Answered put
          → IfErr closed (λ why. EndsFor disk why kept new) → IfErr closed IsUndamagedWhy
          → Answered (closed_behind put closed)
      answers_so (Err why) closed x y undamaged = x
      answers_so (Ok given) (Ok done) x y undamaged = x
      answers_so (Ok given) (Err why) x y undamaged = inr (end_fails why y, undamaged)

    pub done_so : (Stored : Type 0) (put : Result Score Why) (closed : Result (Unit {0}) Why)
        (last : History) → OnOk put (last ≡ written_to score c h kind bytes)
        → (closed ≡ Ok tt → Stored)
        → OnOk (closed_behind put closed) ((last ≡ written_to score c h kind bytes) × Stored)
    done_so Stored (Err why) closed last x all = tt
    done_so Stored (Ok given) (Err why) last x all = tt
    done_so Stored (Ok given) (Ok done) last x all = (x, all refl)
