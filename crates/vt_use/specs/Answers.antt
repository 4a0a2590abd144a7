-- What a store that holds a history answers to operations, one after another.
use Rattle.std.specs.Prelude.{ℕ, ◌≡◌, ◌≤◌, ◌⊎◌, true, List, [], ◌∷◌, Result, Ok, Err, IfErr, length}
use Rattle.vt_base.specs.Protocol.{Operation, RMessage, sync, r_sync}
use Rattle.vt_base.specs.declared.why.Why.{Why}
use Rattle.vt_base.specs.declared.why.Why.TheVariants as whys
use Rattle.vt_model.specs.Answer.{answer, with_added}
use Rattle.vt_model.specs.History.{History}
use Rattle.vt_model.specs.Places.{Setup}
use Rattle.vt_handler.specs.Serving.{asked_of_store, reply_in, tells_failure}
use Rattle.vt_core.specs.Causes.{IsUndamagedWhy}
use Rattle.vt_use.specs.Stores.{Exchange}

-- the store failed, and it isn't the model that refuses, nor damage
abbrev pub HasFailed : Result RMessage Why → Type 0
HasFailed (Ok reply) = ⊥
HasFailed (Err why) = (tells_failure why ≡ true) × IsUndamagedWhy why

-- The answer is what the model answers on a history, or the store failed.
abbrev pub IsAnswer : (List ℕ → List ℕ) → Setup → History → Operation → Result RMessage Why
    → Type 0
IsAnswer score c h m reply =
    (reply_in reply ≡ (answer score c h m).reply) ⊎ HasFailed reply

-- The answer is the model's, and the history goes on with what that adds; or the store failed, and it
-- stays.
abbrev pub GoesOnAs : (List ℕ → List ℕ) → Setup → Exchange → (h next : History) → Type 0
GoesOnAs score c exchange h next =
    ((reply_in exchange.1 ≡ (answer score c h (asked_of_store exchange.0)).reply)
    × (next ≡ with_added h (answer score c h (asked_of_store exchange.0)).added))
    ⊎ (HasFailed exchange.1 × (next ≡ h))

-- Where the exchange is an answered sync, this history is durable at the end.
abbrev pub IsCovered : Exchange → (next : History) → (durable : ℕ) → Type 0
IsCovered exchange next durable = exchange ≡ (sync, Ok r_sync) → length next ≤ durable

-- Each of these exchanges is what the model answers, from the first history to the last; and of
-- that so many blocks are durable at the end.
abbrev pub AreModelAnswers : (List ℕ → List ℕ) → Setup → (h : History) → List Exchange
    → (last : History) → (durable : ℕ) → Type 0
AreModelAnswers score c h [] last durable = last ≡ h
AreModelAnswers score c h (exchange ∷ exchanges) last durable =
    (next : History) × GoesOnAs score c exchange h next × IsCovered exchange next durable
    × AreModelAnswers score c next exchanges last durable

-- no failure is told but want of memory
abbrev pub FailsForMemoryOnly : Exchange → Type 0
FailsForMemoryOnly exchange =
    IfErr exchange.1 (λ why. tells_failure why ≡ true → why ≡ whys.NoMemory)
