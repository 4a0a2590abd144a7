-- A message that is heard: its size field, and then so many bytes.
use Rattle.std.proofs.Common.{◌≡◌, ◌≢◌, ◌-◌, ◌≤◌, ◌<◌, ◌^◌, ◌⊎◌, ◌++◌, ℕ, Bool, zero, suc, true, false, Ok, Err, List, [], ◌∷◌, length, take, refl, sym, ◌∙◌, ap, subst, arith, append_assoc, length-append}
use Rattle.std.proofs.lemmas.List.{take-append-le, take_all}
use Rattle.nine_wire.proofs.Numbers.{AreSmall}
use Rattle.nine_view.specs.declared.serving.Ended.{Ended}
use Rattle.nine_view.specs.declared.serving.Ended.TheVariants.{Closed, Cut, Malformed, Spent, ReadFault, WriteFault, NoMemory}
use Rattle.nine_view.specs.Hearing.{FillsBuffer, HearsMessage, StopsSo}
use Rattle.nine_view.specs.Serving.{GoesOut, IsNoSize, message_size}
use Rattle.nine_view.proofs.Filling.{whole_of}
use Rattle.nine_view.proofs.Frames.{is_message}
use Rattle.nine_view.proofs.Taking.{ends_in_front, ends_inside, size_in_front}

small_of : (a x : List ℕ) → AreSmall (a ++ x) → AreSmall a
small_of [] x are i = omega arith
small_of (b ∷ a) x are zero = are 0
small_of (b ∷ a) x are (suc i) = small_of a x (λ j. are (suc j)) i

small_front : (a b x : List ℕ) → AreSmall (a ++ (b ++ x)) → AreSmall (a ++ b)
small_front a b x are = small_of (a ++ b) x (subst AreSmall (sym (append_assoc a b x)) are)

-- it ends by no write, and not for want of memory
unsaid : (ended : Ended) (inside : Bool) (came wanted taken : ℕ)
    → StopsSo (Err ended) inside came wanted taken → GoesOut ended [] [] × (ended ≢ NoMemory)
unsaid Closed inside came wanted taken stops = (refl, λ is. cc)
unsaid Cut inside came wanted taken stops = (refl, λ is. cc)
unsaid (Malformed at) inside came wanted taken stops = (refl, λ is. cc)
unsaid Spent inside came wanted taken stops = (refl, λ is. cc)
unsaid ReadFault inside came wanted taken stops = (refl, λ is. cc)
unsaid WriteFault inside came wanted taken stops = absurd stops
unsaid NoMemory inside came wanted taken stops = absurd stops

module _ (tells : Type 0) (given given' left' : List ℕ) (limit taken taken' : ℕ) where
  -- it ended before the size field was whole
  pub ended_in_front : (ended : Ended) (front buffer : List ℕ) → length front ≡ 4
      → FillsBuffer tells given given' left' taken taken' false front (Err ended)
      → HearsMessage tells given given' left' limit taken taken' buffer (Err ended)
  ended_in_front ended front buffer four so =
      let stops : StopsSo (Err ended) false (length so.came) 4 taken' =
      subst (λ (n : ℕ). StopsSo (Err ended) false (length so.came) n taken') four so.stops in
      record {
        came = so.came;
        given_is = so.given_is;
        taken_is = so.taken_is;
        hears = (
          ends_in_front ended limit taken taken' so.came so.taken_is stops,
          (unsaid ended false (length so.came) 4 taken' stops).0,
          (unsaid ended false (length so.came) 4 taken' stops).1,
        );
        at_end = so.at_end;
      }

  -- no message has the size that it says
  pub malformed : (size : ℕ) (front behind buffer : List ℕ) → length front ≡ 4
      → FillsBuffer tells given given' left' taken taken' false front (Ok tt)
      → size ≡ message_size (front ++ behind) → (size < 7) ⊎ (limit < size)
      → HearsMessage tells given given' left' limit taken taken' buffer (Err (Malformed (taken' - 4)))
  malformed size front behind buffer four so is wrong =
      let whole : so.came ≡ front =
      whole_of tells given given' left' taken taken' false front so in
      let len : length so.came ≡ 4 = ap (λ (l : List ℕ). length l) whole ∙ four in
      let taken_is = so.taken_is in
      record {
        came = so.came;
        given_is = so.given_is;
        taken_is = so.taken_is;
        hears = (
          (
            omega arith,
            len,
            subst (λ (n : ℕ). IsNoSize limit n)
                (is ∙ size_in_front front behind four
                ∙ ap (λ (l : List ℕ). message_size l) (sym whole)) wrong,
          ),
          refl,
          λ same. cc,
        );
        at_end = λ told. tt;
      }

module _ (tells : Type 0) (given mid given' left left' : List ℕ) (limit taken between taken' : ℕ)
    (front rest : List ℕ) (four : length front ≡ 4)
    (first : FillsBuffer tells given mid left taken between false front (Ok tt))
    (size : ℕ) (is : size ≡ message_size (front ++ rest)) (least : 7 ≤ size) (most : size ≤ limit)
  where
    here : first.came ≡ front
    here = whole_of tells given mid left taken between false front first

    both : (came : List ℕ) → (tells → given' ≡ mid ++ came) → tells
        → given' ≡ given ++ (front ++ came)
    both came later told =
        later told
        ∙ ap (λ (l : List ℕ). l ++ came)
        (first.given_is told ∙ ap (λ (l : List ℕ). given ++ l) here)
        ∙ append_assoc given front came

    -- it ended inside it
    pub ended_inside : (ended : Ended) (part buffer : List ℕ) → length part ≡ size - 4
        → FillsBuffer tells mid given' left' between taken' true part (Err ended)
        → HearsMessage tells given given' left' limit taken taken' buffer (Err ended)
    ended_inside ended part buffer len so =
        let field : message_size front ≡ size = sym (is ∙ size_in_front front rest four) in
        let wanted : length part ≡ message_size front - 4 = len ∙ ap (λ (n : ℕ). n - 4) (sym field) in
        let stops : StopsSo (Err ended) true (length so.came) (message_size front - 4) taken' =
        subst (λ (n : ℕ). StopsSo (Err ended) true (length so.came) n taken') wanted so.stops in
        let four_came : length first.came ≡ 4 = ap (λ (l : List ℕ). length l) here ∙ four in
        let first_taken = first.taken_is in
        let then_taken = so.taken_is in
        let long = length-append front so.came in
        record {
          came = front ++ so.came;
          given_is = both so.came so.given_is;
          taken_is = omega arith;
          hears = (
            ends_inside ended limit taken taken' front so.came four (omega arith) (omega arith)
                (omega arith) stops,
            (unsaid ended true (length so.came) (message_size front - 4) taken' stops).0,
            (unsaid ended true (length so.came) (message_size front - 4) taken' stops).1,
          );
          at_end = so.at_end;
        }

    -- all of it came
    pub heard : (part behind : List ℕ) → length part ≡ size - 4 → size < 2 ^ 32
        → AreSmall (front ++ (part ++ behind))
        → FillsBuffer tells mid given' left' between taken' true part (Ok tt)
        → HearsMessage tells given given' left' limit taken taken' (front ++ (part ++ behind)) (Ok size)
    heard part behind len fits small so =
        let all : so.came ≡ part = whole_of tells mid given' left' between taken' true part so in
        let four_came : length first.came ≡ 4 = ap (λ (l : List ℕ). length l) here ∙ four in
        let part_came : length so.came ≡ size - 4 = ap (λ (l : List ℕ). length l) all ∙ len in
        let long = length-append front part in
        let size_is : length (front ++ part) ≡ size = omega arith in
        let first_taken = first.taken_is in
        let then_taken = so.taken_is in
        let whole : take size (front ++ (part ++ behind)) ≡ front ++ part =
        ap (λ (l : List ℕ). take size l) (sym (append_assoc front part behind))
        ∙ take-append-le size (front ++ part) behind (omega arith)
        ∙ take_all size (front ++ part) (omega arith) in
        record {
          came = front ++ part;
          given_is = both part (λ told. so.given_is told ∙ ap (λ (l : List ℕ). mid ++ l) all);
          taken_is = omega arith;
          hears = (
            whole,
            sym size_is,
            most,
            is_message (front ++ part) (small_front front part behind small) (omega arith)
                (omega arith)
                (size_in_front front part four ∙ sym (size_in_front front rest four) ∙ sym is
                ∙ sym size_is),
          );
          at_end = λ told. tt;
        }

    -- where the buffer is written in two parts
    pub heard_behind : (part behind : List ℕ) → length part ≡ size - 4 → size < 2 ^ 32
        → AreSmall (take 4 (front ++ rest) ++ (part ++ behind))
        → FillsBuffer tells mid given' left' between taken' true part (Ok tt)
        → HearsMessage tells given given' left' limit taken taken'
        (take 4 (front ++ rest) ++ (part ++ behind)) (Ok size)
    heard_behind part behind len fits small so =
        let front_is : take 4 (front ++ rest) ≡ front =
        take-append-le 4 front rest (omega arith) ∙ take_all 4 front (omega arith) in
        subst (λ (l : List ℕ).
        HearsMessage tells given given' left' limit taken taken' (l ++ (part ++ behind)) (Ok size))
        (sym front_is)
        (heard part behind len fits
        (subst (λ (l : List ℕ). AreSmall (l ++ (part ++ behind))) front_is small) so)
