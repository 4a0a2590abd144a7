-- What a store did, call by call.
use Rattle.std.proofs.Common.{◌≡◌, Option, Some, None, List, [], ◌∷◌, ◌++◌, refl, sym, ◌∙◌, ap, subst, Result, Ok, Err}
use Rattle.std.specs.Option.{option_or}
use Rattle.vt_base.specs.declared.operation.Operation.{Operation as Asked}
use Rattle.vt_base.specs.declared.operation.Operation.TheVariants.{Read, Write, Sync}
use Rattle.vt_base.specs.declared.why.Why.{Why}
use Rattle.vt_base.specs.Operations.{operation_of}
use Rattle.vt_base.specs.Protocol.{Operation, RMessage}
use Rattle.vt_handler.specs.Members.{StoreOf}
use Rattle.vt_handler.specs.Serving.{failure_of}
use Rattle.vt_handler.specs.Taking.{DoesCalls, DoesOne, DoesSome, first_told}

-- what failed first
or_none : (a : Option Why) → a ≡ option_or a None
or_none None = refl
or_none (Some why) = refl

or_or : (a b c : Option Why) → option_or (option_or a b) c ≡ option_or a (option_or b c)
or_or None b c = refl
or_or (Some why) b c = refl

first_more : (calls more : List (Operation × Result RMessage Why))
    → first_told (calls ++ more) ≡ option_or (first_told calls) (first_told more)
first_more [] more = refl
first_more (call ∷ calls) more =
    ap (option_or (failure_of call.1)) (first_more calls more)
    ∙ sym (or_or (failure_of call.1) (first_told calls) (first_told more))

module _ {S : Type 0} (T : StoreOf S) where
  pub does_none : (s : S) (failure : Option Why) → DoesSome T s s failure failure
  does_none s failure = record { calls = []; does = refl; failure_is = or_none failure }

  calls_more : (s mid last : S) (calls more : List (Operation × Result RMessage Why))
      → DoesCalls T s calls mid → DoesCalls T mid more last → DoesCalls T s (calls ++ more) last
  calls_more s mid last [] more it then =
      subst (λ (z : S). DoesCalls T z more last) it then
  calls_more s mid last (call ∷ calls) more it then =
      (it.0, it.1, calls_more it.0 mid last calls more it.2 then)

  pub does_more : (s mid last : S) (failure failure' failure'' : Option Why)
      → DoesSome T s mid failure failure' → DoesSome T mid last failure' failure''
      → DoesSome T s last failure failure''
  does_more s mid last failure failure' failure'' it then = record {
    calls = it.calls ++ then.calls;
    does = calls_more s mid last it.calls then.calls it.does then.does;
    failure_is = then.failure_is
        ∙ ap (λ (f : Option Why). option_or f (first_told then.calls)) it.failure_is
        ∙ or_or failure (first_told it.calls) (first_told then.calls)
        ∙ ap (option_or failure) (sym (first_more it.calls then.calls));
  }

  -- what is asked of a store is no ping
  pub does_asked : (s s' : S) (asked : Asked) (given : Result RMessage Why)
      → T.does s (operation_of asked) given s' → DoesOne T s (operation_of asked) given s'
  does_asked s s' (Read score kind count) given it = it
  does_asked s s' (Write kind bytes) given it = it
  does_asked s s' Sync given it = it

  pub does_one : (s s' : S) (m : Operation) (given : Result RMessage Why)
      (failure failure' : Option Why) → DoesOne T s m given s'
      → failure' ≡ option_or failure (failure_of given) → DoesSome T s s' failure failure'
  does_one s s' m given failure failure' it failed = record {
    calls = (m, given) ∷ [];
    does = (s', it, refl);
    failure_is = failed ∙ ap (option_or failure) (or_none (failure_of given));
  }
