-- A body is the reply that a client waits for, or is wrong at one place.
use Rattle.std.proofs.Common.{◌≡◌, ◌⊎◌, inl, inr, ℕ, suc, ◌≤◌, ◌<◌, ◌+◌, true, List, [], ◌∷◌, ◌++◌, length, refl, sym, ◌∙◌, ap, subst, arith, append-nil, length-append}
use Rattle.std.proofs.lemmas.Bool.{cases_eq, cases_lt, cases_Bool, true≢false}
use Rattle.vt_base.specs.Bytes.{AreBytes}
use Rattle.vt_base.specs.Protocol.{RMessage, r_ping, r_hello, r_read, r_write, r_sync, r_error}
use Rattle.vt_base.specs.declared.TheConstants.{MAX_BLOCK}
use Rattle.vt_wire.specs.Fields.{string, IsFirstBad}
use Rattle.vt_wire.specs.Messages.{is_reply_type, reply_type, SpellsReplyParameters}
use Rattle.vt_wire.specs.Refusals.{reply_forms_of}
use Rattle.vt_wire.specs.Awaited.{IsWanted, IsReplyTo, IsWrongAt}
use Rattle.vt_wire.proofs.Forms.{AreSpelled, none_bad, spelled_or, at_six}
use Rattle.vt_wire.proofs.ReplyForms.{known_reply, reply_forms, welcome_spelled}

-- ---- a body of a reply's type is spelled, or has a first parameter that isn't

abbrev SpellsOne : ℕ → List ℕ → Type 0
SpellsOne type parameters =
    (m : RMessage) × (type ≡ reply_type m) × SpellsReplyParameters m parameters

reply_found : (type : ℕ) (parameters : List ℕ) → is_reply_type type ≡ true
    → AreSpelled (reply_forms_of type) parameters → SpellsOne type parameters
reply_found type parameters known =
    at_six (λ t. AreSpelled (reply_forms_of t) parameters → SpellsOne t parameters)
    1 3 5 13 15 17 type known
    (λ x. (
      r_error x.1.0,
      refl,
      (x.1.1, x.1.2 ∙ ap (λ l. string x.1.0 ++ l) x.2 ∙ append-nil (string x.1.0)),
    ))
    (λ x. (r_ping, refl, x))
    (λ x. (
      r_hello,
      refl,
      welcome_spelled x.1.0 x.2.1.0 x.2.2.1.0 parameters x.0 x.2.0 x.2.2.0
          x.1.1 x.1.2 x.2.1.1 x.2.1.2 x.2.2.1.1 x.2.2.1.2 x.2.2.2,
    ))
    (λ x. (r_read parameters, refl, refl))
    (λ x. (r_write x.1.0, refl, (x.1.1, x.1.2 ∙ ap (λ l. x.1.0 ++ l) x.2 ∙ append-nil x.1.0)))
    (λ x. (r_sync, refl, x))

not_spelled : (type : ℕ) (parameters : List ℕ) (n : ℕ)
    → IsFirstBad (reply_forms_of type) parameters n → (m : RMessage) → type ≡ reply_type m → ¬ SpellsReplyParameters m parameters
not_spelled type parameters n first m is x =
    none_bad (reply_forms_of type) parameters n
    (subst (λ t. AreSpelled (reply_forms_of t) parameters) (sym is) (reply_forms m parameters x))
    first

-- nothing but a block is too long
short_or_block : (m : RMessage) (parameters : List ℕ) → SpellsReplyParameters m parameters
    → (length parameters ≤ MAX_BLOCK)
    ⊎ ((reply_type m ≡ 13) × (MAX_BLOCK < length parameters))
short_or_block (r_error text) parameters x =
    let short : length text ≤ 1024 = x.0.short in
    inl (omega (arith, short, ap length x.1))
short_or_block r_ping parameters x = inl (omega (arith, ap length x))
short_or_block r_hello parameters x =
    let short : length x.sid ≤ 1024 = x.sid_text.short in
    let parts = length-append (string x.sid) (x.cipher ∷ x.codec ∷ []) in
    inl (omega (arith, short, ap length x.spelled, parts))
short_or_block (r_read bytes) parameters x = elim (cases_lt MAX_BLOCK (length parameters)) [
  | inl long ↦ inr (refl, long)
  | inr short ↦ inl short
]
short_or_block (r_write score) parameters x = inl (omega (arith, x.0, ap length x.1))
short_or_block r_sync parameters x = inl (omega (arith, ap length x))

-- ---- a reply, or wrong

module _ (tag wanted : ℕ) where
  wanted_or : (type : ℕ) → IsWanted wanted type ⊎ ¬ IsWanted wanted type
  wanted_or type = elim (cases_eq type wanted) [
    | inl is ↦ inl (inl is)
    | inr other ↦ elim (cases_eq type 1) [
      | inl error ↦ inl (inr error)
      | inr neither ↦ inr (λ w. elim w [ inl is ↦ other is | inr error ↦ neither error ])
    ]
  ]

  a_block_wanted : (type : ℕ) → IsWanted wanted type → type ≡ 13 → wanted ≡ 13
  a_block_wanted type (inl is) block = sym is ∙ block
  a_block_wanted type (inr error) block = absurd (omega (arith, error, block))

  pub reply_or_wrong : (body : List ℕ) → AreBytes body
      → IsReplyTo tag wanted body ⊎ ((place : ℕ) × IsWrongAt tag wanted body place)
  reply_or_wrong [] are = inr (0, refl)
  reply_or_wrong (type ∷ []) are = inr (0, refl)
  reply_or_wrong (type ∷ its ∷ ps) are = elim (wanted_or type) [
    | inr not ↦ inr (2, inl (refl, not))
    | inl is ↦ elim (cases_eq its tag) [
      | inr other ↦ inr (3, inr (inl (refl, is, other)))
      | inl same ↦ elim (cases_Bool (is_reply_type type)) [
        | inr unknown ↦ inr (
          4,
          inr (inr (inl (
            refl,
            is,
            same,
            λ m t x.
                true≢false (sym (known_reply m) ∙ ap is_reply_type (sym t) ∙ unknown),
          ))),
        )
        | inl known ↦ elim (spelled_or (reply_forms_of type) ps (λ i. are (suc (suc i)))) [
          | inr first ↦
              inr (4, inr (inr (inl (refl, is, same, not_spelled type ps first.0 first.1))))
          | inl spelled ↦
              let m = reply_found type ps known spelled in
              elim (short_or_block m.0 ps m.2) [
                | inl short ↦ inl (record {
                  reply = m.0;
                  parameters = ps;
                  body_is = ap (λ t. t ∷ its ∷ ps) m.1 ∙ ap (λ g. reply_type m.0 ∷ g ∷ ps) same;
                  type_wanted = subst (IsWanted wanted) m.1 is;
                  spelled = m.2;
                  short = short;
                })
                | inr long ↦
                    let block : type ≡ 13 = m.1 ∙ long.0 in
                    inr (
                      4 + MAX_BLOCK,
                      inr (inr (inr
                          (refl, a_block_wanted type is block, block, same, long.1))),
                    )
              ]
        ]
      ]
    ]
  ]

  pub not_reply_and_wrong : (body : List ℕ) (place : ℕ) → IsReplyTo tag wanted body
      → ¬ IsWrongAt tag wanted body place
  not_reply_and_wrong body place it wrong =
      by (subst (λ b. IsWrongAt tag wanted b place) it.body_is wrong)
    where
      by : IsWrongAt tag wanted (reply_type it.reply ∷ tag ∷ it.parameters) place → ⊥
      by (inl x) = x.1 it.type_wanted
      by (inr (inl x)) = x.2 refl
      by (inr (inr (inl x))) = x.3 it.reply refl it.spelled
      by (inr (inr (inr x))) = omega (arith, x.4, it.short)

  block_spelled : (type : ℕ) (ps : List ℕ) → type ≡ 13
      → ((reply : RMessage) → type ≡ reply_type reply → ¬ SpellsReplyParameters reply ps) → ⊥
  block_spelled type ps block none = none (r_read ps) block refl

  pub wrong_one : (body : List ℕ) (p q : ℕ) → IsWrongAt tag wanted body p
      → IsWrongAt tag wanted body q → p ≡ q
  wrong_one [] p q x y = x ∙ sym y
  wrong_one (type ∷ []) p q x y = x ∙ sym y
  wrong_one (type ∷ its ∷ ps) p q (inl x) (inl y) = x.0 ∙ sym y.0
  wrong_one (type ∷ its ∷ ps) p q (inl x) (inr (inl y)) = absurd (x.1 y.1)
  wrong_one (type ∷ its ∷ ps) p q (inl x) (inr (inr (inl y))) = absurd (x.1 y.1)
  wrong_one (type ∷ its ∷ ps) p q (inl x) (inr (inr (inr y))) = absurd (x.1 (inl (y.2 ∙ sym y.1)))
  wrong_one (type ∷ its ∷ ps) p q (inr (inl x)) (inl y) = absurd (y.1 x.1)
  wrong_one (type ∷ its ∷ ps) p q (inr (inl x)) (inr (inl y)) = x.0 ∙ sym y.0
  wrong_one (type ∷ its ∷ ps) p q (inr (inl x)) (inr (inr (inl y))) = absurd (x.2 y.2)
  wrong_one (type ∷ its ∷ ps) p q (inr (inl x)) (inr (inr (inr y))) = absurd (x.2 y.3)
  wrong_one (type ∷ its ∷ ps) p q (inr (inr (inl x))) (inl y) = absurd (y.1 x.1)
  wrong_one (type ∷ its ∷ ps) p q (inr (inr (inl x))) (inr (inl y)) = absurd (y.2 x.2)
  wrong_one (type ∷ its ∷ ps) p q (inr (inr (inl x))) (inr (inr (inl y))) = x.0 ∙ sym y.0
  wrong_one (type ∷ its ∷ ps) p q (inr (inr (inl x))) (inr (inr (inr y))) =
      absurd (block_spelled type ps y.2 x.3)
  wrong_one (type ∷ its ∷ ps) p q (inr (inr (inr x))) (inl y) = absurd (y.1 (inl (x.2 ∙ sym x.1)))
  wrong_one (type ∷ its ∷ ps) p q (inr (inr (inr x))) (inr (inl y)) = absurd (y.2 x.3)
  wrong_one (type ∷ its ∷ ps) p q (inr (inr (inr x))) (inr (inr (inl y))) =
      absurd (block_spelled type ps x.2 y.3)
  wrong_one (type ∷ its ∷ ps) p q (inr (inr (inr x))) (inr (inr (inr y))) = x.0 ∙ sym y.0
