-- What an archive leaves that was sent to a server which answers truthfully.
use Rattle.std.proofs.Common.{◌≡◌, ◌⊎◌, inl, inr, ℕ, Bool, true, false, cond, Option, Some, None, List, [], ◌∷◌, ◌++◌, length, refl, sym, ◌∙◌, ap, subst, append_assoc, append-nil}
use Rattle.std.specs.Prelude.{◌==◌, is_some, nat_lt, nat_le, not}
use Rattle.std.specs.List.{All}
use Rattle.std.specs.Str.{bytes_eq}
use Rattle.std.proofs.lemmas.Bool.{cases_Bool, eqb-true, false≢true}
use Rattle.std.proofs.lemmas.List.{nil_from_length}
use Rattle.std.proofs.lemmas.List.Elements.{All-cons, All-nil}
use Rattle.std.proofs.lemmas.Slice.Eq.{bytes_eq-Decides}
use Rattle.vt_base.specs.Kind.{is_kind}
use Rattle.vt_base.specs.Protocol.{Operation, RMessage, r_write}
use Rattle.vt_base.specs.declared.TheConstants.{MAX_BLOCK}
use Rattle.vt_base.specs.declared.why.Why.TheVariants as whys
use Rattle.vt_model.specs.Answer.{Outcome, adds, answer, collides, refuses, replies, with_added}
use Rattle.vt_model.specs.History.{Accepted, Block, History, held}
use Rattle.vt_model.specs.Legal.{IsLegal}
use Rattle.vt_model.specs.Places.{Setup, next_arena, crowd, bucket_of, bucket_count}
use Rattle.vt_model.specs.declared.TheConstants.{BUCKET_ROOM}
use Rattle.vt_model.proofs.Added.{added_held, adds_when}
use Rattle.vt_model.proofs.Keys.{equal_bytes}
use Rattle.vt_model.proofs.Numbers.{collides-free, held-by, held-longer, held-zero}
use Rattle.vt_tree.specs.Calls.{write_of_block}
use Rattle.vt_tree.specs.Maps.{Has, IsWriteOnce}
use Rattle.vac_store.specs.Sent.{all_taken_in}
use Rattle.vac_store.specs.Truthful.{AnswersTruly, GoesOnTo}

-- ---- a block that was taken in

-- what is answered to a write, by its tests
abbrev tested : (k t z c p f : Bool) (o : Option ℕ) (zero s : List ℕ) (kind : ℕ)
    (bytes : List ℕ) → Outcome
tested k t z c p f o zero s kind bytes =
    cond (not k) (refuses whys.BadType) (cond t (refuses whys.TooBig)
    (cond z (replies (r_write zero)) (cond c (refuses whys.Collision)
    (cond p (replies (r_write s)) (cond f (refuses whys.IndexFull) (adds s kind bytes o))))))

-- a write that is taken in, and adds nothing, brings no bytes, or a block that is there
taken_as : (k t z c p f : Bool) (o : Option ℕ) (zero s : List ℕ) (kind : ℕ) (bytes score : List ℕ)
    → (tested k t z c p f o zero s kind bytes).reply ≡ r_write score
    → (tested k t z c p f o zero s kind bytes).added ≡ None
    → (z ≡ true) ⊎ ((c ≡ false) × (p ≡ true))
taken_as false t z c p f o zero s kind bytes score is none = absurd (cc)
taken_as true true z c p f o zero s kind bytes score is none = absurd (cc)
taken_as true false true c p f o zero s kind bytes score is none = inl refl
taken_as true false false true p f o zero s kind bytes score is none = absurd (cc)
taken_as true false false false true f o zero s kind bytes score is none = inr (refl, refl)
taken_as true false false false false true o zero s kind bytes score is none = absurd (cc)
taken_as true false false false false false None zero s kind bytes score is none = absurd (cc)
taken_as true false false false false false (Some arena) zero s kind bytes score is none =
    absurd (cc)

given : (o : Option (List ℕ)) → is_some o ≡ true → (x : List ℕ) × (o ≡ Some x)
given None some = absurd (false≢true some)
given (Some x) some = (x, refl)

module _ (score : List ℕ → List ℕ) (c : Setup) where
  module _ (h : History) (b : Block) (s : List ℕ)
      (is : (answer score c h (write_of_block b)).reply ≡ r_write s) where
    abbrev IsThere : History → Type 0
    IsThere g = held score g (score b.bytes) b.kind ≡ Some b.bytes

    there_before : (answer score c h (write_of_block b)).added ≡ None → IsThere h
    there_before none = elim (taken_as (is_kind b.kind) (nat_lt MAX_BLOCK (length b.bytes))
        (length b.bytes == 0) (collides score h b.bytes)
        (is_some (held score h (score b.bytes) b.kind))
        (nat_le BUCKET_ROOM
        (crowd score (bucket_count c) h (bucket_of (bucket_count c) (score b.bytes))))
        (next_arena c h (length b.bytes)) (score []) (score b.bytes) b.kind b.bytes s is none) [
          | inl zero ↦
              let nothing : [] ≡ b.bytes =
              sym (nil_from_length b.bytes (eqb-true (length b.bytes) 0 zero)) in
              subst (λ (bytes : List ℕ). held score h (score bytes) b.kind ≡ Some bytes) nothing
              (held-zero score h b.kind)
          | inr there ↦
              let apart = collides-free score h b.bytes there.0 in
              let has = given (held score h (score b.bytes) b.kind) there.1 in
              let found = held-by score h (score b.bytes) b.kind has.0 apart.0 has.1 in
              has.1 ∙ ap (λ (bytes : List ℕ). Some bytes) (sym found.2
              ∙ apart.1 found.0 (record {
                block = found.1.block;
                stands = found.1.stands;
                score_is = found.1.score_is;
              }))
        ]

    there_behind : (o : Option Accepted) → (answer score c h (write_of_block b)).added ≡ o
        → IsThere (with_added h o)
    there_behind None none = there_before none
    there_behind (Some e) added =
        let written = (adds_when score c h (write_of_block b) e added).operation in
        let kinds : e.block.kind ≡ b.kind = cc in
        let bytes : e.block.bytes ≡ b.bytes = cc in
        let same : e.block ≡ b = λ i. record { kind = kinds i; bytes = bytes i } in
        subst (λ (x : Block). held score (h ++ e ∷ []) (score x.bytes) x.kind ≡ Some x.bytes) same
        (added_held score c h (write_of_block b) e added)

    pub there : IsThere (with_added h (answer score c h (write_of_block b)).added)
    there = there_behind (answer score c h (write_of_block b)).added refl

  -- ---- blocks stay

  further : (a b d : History) → GoesOnTo a b → GoesOnTo b d → GoesOnTo a d
  further a b d first next = (
    first.0 ++ next.0,
    next.1 ∙ ap (λ (h : History). h ++ next.0) first.1 ∙ append_assoc a first.0 next.0,
  )

  with_one : (h : History) (o : Option Accepted) → GoesOnTo h (with_added h o)
  with_one h None = ([], sym (append-nil h))
  with_one h (Some e) = (e ∷ [], refl)

  goes : (calls : List (Operation × RMessage)) (before after : History)
      → AnswersTruly score c before calls after → GoesOnTo before after
  goes [] before after truly = truly
  goes (call ∷ calls) before after truly =
      let now = truly.0 in
      let next = with_added now (answer score c now call.0).added in
      further before now after truly.1
      (further now next after (with_one now (answer score c now call.0).added)
      (goes calls next after truly.3))

  stays : (before after : History) (s : List ℕ) (kind : ℕ) (bytes : List ℕ)
      → GoesOnTo before after → held score before s kind ≡ Some bytes
      → held score after s kind ≡ Some bytes
  stays before after s kind bytes on has =
      subst (λ (h : History). held score h s kind ≡ Some bytes) (sym on.1)
      (held-longer score before on.0 s kind bytes has)

  -- what was taken in is held behind all
  pub all_held : (blocks : List Block) (before after : History)
      → AnswersTruly score c before (all_taken_in score blocks) after
      → All (Has score (held score after)) blocks
  all_held [] before after truly = All-nil (Has score (held score after))
  all_held (b ∷ blocks) before after truly =
      let now = truly.0 in
      let next = with_added now (answer score c now (write_of_block b)).added in
      All-cons (Has score (held score after)) b blocks
      (stays next after (score b.bytes) b.kind b.bytes
      (goes (all_taken_in score blocks) next after truly.3)
      (there now b (score b.bytes) truly.2))
      (all_held blocks next after truly.3)

  -- ---- what a legal history holds

  module _ (h : History) (legal : IsLegal score c h) where
    of_zero : (s : List ℕ) (kind : ℕ) (bytes : List ℕ) → s ≡ score []
        → held score h s kind ≡ Some bytes → [] ≡ bytes
    of_zero s kind bytes zero has =
        let both : Some [] ≡ Some bytes =
        sym (held-zero score h kind) ∙ ap (λ (x : List ℕ). held score h x kind) (sym zero) ∙ has in
        cc

    either : (s : List ℕ) → (s ≡ score []) ⊎ (s ≡ score [] → ⊥)
    either s = elim (cases_Bool (bytes_eq s (score []))) [
      | inl zero ↦ inl ((bytes_eq-Decides s (score [])).0 zero)
      | inr other ↦ inr (λ same. false≢true (sym other ∙ (bytes_eq-Decides s (score [])).1 same))
    ]

    of_score : (s : List ℕ) (kind : ℕ) (bytes : List ℕ) → held score h s kind ≡ Some bytes
        → score bytes ≡ s
    of_score s kind bytes has = elim (either s) [
      | inl zero ↦ ap score (sym (of_zero s kind bytes zero has)) ∙ sym zero
      | inr other ↦
          let found = held-by score h s kind bytes other has in
          ap score (sym found.2) ∙ found.1.score_is
    ]

    one : (s : List ℕ) (kind other : ℕ) (x y : List ℕ) → held score h s kind ≡ Some x
        → held score h s other ≡ Some y → x ≡ y
    one s kind other x y first second = elim (either s) [
      | inl zero ↦ sym (of_zero s kind x zero first) ∙ of_zero s other y zero second
      | inr some ↦
          let found = held-by score h s kind x some first in
          let more = held-by score h s other y some second in
          sym found.2
          ∙ equal_bytes score c h legal found.0 more.0 found.1.block more.1.block found.1.stands
          more.1.stands (found.1.score_is ∙ sym more.1.score_is)
          ∙ more.2
    ]

    pub write_once : IsWriteOnce score (held score h)
    write_once = record {
      scores = of_score;
      contents = one;
      zero_score = held-zero score h;
    }
