-- A frame is refused for one reason or for none.
use Rattle.std.proofs.Common.{◌≡◌, ◌≢◌, ℕ, ◌==◌, Bool, true, false, List, [], ◌∷◌, length, take, drop, get_or, ◌-◌, ◌≤◌, not, nat_eq, Option, Some, None, IfSome, Result, Ok, Err, refl, sym, ◌∙◌, ap, subst, arith, inl, inr}
use Rattle.std.specs.Option.{option_eq}
use Rattle.std.specs.Result.{IsErrOf}
use Rattle.std.proofs.lemmas.Bool.{cases_eq, cases_Bool, true≢false}
use Rattle.std.proofs.lemmas.Bool.Decides.{Decides-eqb}
use Rattle.std.proofs.lemmas.List.{take_rest}
use Rattle.std.proofs.Math.Seq.{take-length}
use Rattle.vt_wire.specs.Fields.{Form, IsFirstBad}
use Rattle.vt_wire.specs.Frames.{IsFrame}
use Rattle.vt_wire.specs.Refusals.{IsCutShort, HasOtherType, HasBadParameter, TellsBad}
use Rattle.vt_wire.specs.declared.message.WireBad.{WireBad}
use Rattle.vt_wire.specs.declared.message.WireBad.TheVariants as bad
use Rattle.vt_wire.proofs.Frames.{one_body}
use Rattle.vt_wire.proofs.Forms.{AreSpelled, none_bad, first_bad_one}

-- a whole frame of one of these types, whose parameters are spelled
pub record IsRead (types : ℕ → Bool) (forms : ℕ → List Form) (bytes : List ℕ) : Type 0 where
  pub type : ℕ
  pub tag : ℕ
  pub parameters : List ℕ
  pub frame : IsFrame bytes (type ∷ tag ∷ parameters)
  pub known : types type ≡ true
  pub spelled : AreSpelled (forms type) parameters

module _ (types : ℕ → Bool) (forms : ℕ → List Form) where
  abbrev pub Refused : List ℕ → WireBad → Type 0
  Refused bytes bad.Short = IsCutShort bytes
  Refused bytes (bad.Unknown type) = HasOtherType types bytes type
  Refused bytes (bad.Bad number) = HasBadParameter types forms bytes number

  pub refused_not_read : (bytes : List ℕ) (e : WireBad) → Refused bytes e → IsRead types forms bytes
      → ⊥
  refused_not_read bytes bad.Short x y =
      omega (arith, x (y.type ∷ y.tag ∷ y.parameters) y.frame)
  refused_not_read bytes (bad.Unknown type) x y =
      let same : (type ∷ x.tag ∷ x.parameters) ≡ (y.type ∷ y.tag ∷ y.parameters) =
      one_body bytes _ _ x.frame y.frame in
      let t : type ≡ y.type = cc in
      true≢false (sym y.known ∙ ap types (sym t) ∙ x.unknown)
  refused_not_read bytes (bad.Bad number) x y =
      let same : (x.type ∷ x.tag ∷ x.parameters) ≡ (y.type ∷ y.tag ∷ y.parameters) =
      one_body bytes _ _ x.frame y.frame in
      let t : x.type ≡ y.type = cc in
      let ps : x.parameters ≡ y.parameters = cc in
      let spelled : AreSpelled (forms x.type) x.parameters =
      subst (λ k. AreSpelled (forms k) x.parameters) (sym t)
      (subst (AreSpelled (forms y.type)) (sym ps) y.spelled) in
      none_bad (forms x.type) x.parameters number spelled x.first_bad

  unknown_not_bad : (bytes : List ℕ) (type number : ℕ) → HasOtherType types bytes type
      → HasBadParameter types forms bytes number → ⊥
  unknown_not_bad bytes type number x y =
      let same : (type ∷ x.tag ∷ x.parameters) ≡ (y.type ∷ y.tag ∷ y.parameters) =
      one_body bytes _ _ x.frame y.frame in
      let t : type ≡ y.type = cc in
      true≢false (sym y.known ∙ ap types (sym t) ∙ x.unknown)

  refused_one : (bytes : List ℕ) (d e : WireBad) → Refused bytes d → Refused bytes e → d ≡ e
  refused_one bytes bad.Short bad.Short x y = refl
  refused_one bytes bad.Short (bad.Unknown type) x y =
      absurd (omega (arith, x (type ∷ y.tag ∷ y.parameters) y.frame))
  refused_one bytes bad.Short (bad.Bad number) x y =
      absurd (omega (arith, x (y.type ∷ y.tag ∷ y.parameters) y.frame))
  refused_one bytes (bad.Unknown type) bad.Short x y =
      absurd (omega (arith, y (type ∷ x.tag ∷ x.parameters) x.frame))
  refused_one bytes (bad.Unknown s) (bad.Unknown t) x y =
      let same : (s ∷ x.tag ∷ x.parameters) ≡ (t ∷ y.tag ∷ y.parameters) =
      one_body bytes _ _ x.frame y.frame in
      let type : s ≡ t = cc in
      ap bad.Unknown type
  refused_one bytes (bad.Unknown type) (bad.Bad number) x y =
      absurd (unknown_not_bad bytes type number x y)
  refused_one bytes (bad.Bad number) bad.Short x y =
      absurd (omega (arith, y (x.type ∷ x.tag ∷ x.parameters) x.frame))
  refused_one bytes (bad.Bad number) (bad.Unknown type) x y =
      absurd (unknown_not_bad bytes type number y x)
  refused_one bytes (bad.Bad m) (bad.Bad n) x y =
      let same : (x.type ∷ x.tag ∷ x.parameters) ≡ (y.type ∷ y.tag ∷ y.parameters) =
      one_body bytes _ _ x.frame y.frame in
      let t : x.type ≡ y.type = cc in
      let ps : x.parameters ≡ y.parameters = cc in
      let moved : IsFirstBad (forms x.type) x.parameters n =
      subst (λ k. IsFirstBad (forms k) x.parameters n) (sym t)
      (subst (λ l. IsFirstBad (forms y.type) l n) (sym ps) y.first_bad) in
      ap bad.Bad (first_bad_one (forms x.type) x.parameters m n x.first_bad moved)

  -- what is answered where a frame is refused, and where it is read
  pub told_refused : {T : Type 0} (bytes : List ℕ) (e d : WireBad) (r : Result T WireBad)
      → r ≡ Err e → Refused bytes e
      → (IsErrOf r d → Refused bytes d) × (Refused bytes d → IsErrOf r d)
  told_refused bytes e d r is why = (
    λ other.
        let both : Err e ≡ Err d = sym is ∙ other in
        let same : e ≡ d = cc in
        subst (Refused bytes) same why,
    λ other. is ∙ ap Err (refused_one bytes e d why other),
  )

  pub told_read : {T : Type 0} (bytes : List ℕ) (d : WireBad) (value : T) (r : Result T WireBad)
      → r ≡ Ok value → IsRead types forms bytes
      → (IsErrOf r d → Refused bytes d) × (Refused bytes d → IsErrOf r d)
  told_read bytes d value r is x = (
    λ other. let both : Ok value ≡ Err d = sym is ∙ other in absurd (cc),
    λ why. absurd (refused_not_read bytes d why x),
  )

  refused_known : (bytes : List ℕ) (type tag : ℕ) (parameters : List ℕ) (e : WireBad)
      → IsFrame bytes (type ∷ tag ∷ parameters) → types type ≡ true
      → TellsBad (forms type) parameters e → Refused bytes e
  refused_known bytes type tag parameters bad.Short frame is x = absurd x
  refused_known bytes type tag parameters (bad.Unknown other) frame is x = absurd x
  refused_known bytes type tag parameters (bad.Bad number) frame is x = record {
    type = type;
    tag = tag;
    parameters = parameters;
    frame = frame;
    known = is;
    first_bad = x;
  }

  -- what the reader of a body says of the whole frame
  pub refused_of : {T : Type 0} (bytes : List ℕ) (type tag : ℕ) (parameters : List ℕ) (e : WireBad)
      → IsFrame bytes (type ∷ tag ∷ parameters)
      → (types type ≡ true → TellsBad (forms type) parameters e)
      → (types type ≡ false → ◌≡◌ {A = Result T WireBad} (Err e) (Err (bad.Unknown type)))
      → Refused bytes e
  refused_of {T = T} bytes type tag parameters e frame known unknown =
      elim (cases_Bool (types type)) [
        | inl is ↦ refused_known bytes type tag parameters e frame is (known is)
        | inr is ↦
            let both : ◌≡◌ {A = Result T WireBad} (Err e) (Err (bad.Unknown type)) = unknown is in
            let same : e ≡ bad.Unknown type = cc in
            subst (Refused bytes) (sym same)
            (record { tag = tag; parameters = parameters; frame = frame; unknown = is })
      ]

pub differs : (x y : ℕ) → x ≢ y → (x == y) ≡ false
differs x y h = elim (cases_Bool (x == y)) [
  | inl same ↦ absurd (h ((Decides-eqb x y).0 same))
  | inr other ↦ other
]

-- ---- a frame, by its type, its tag and what is behind them

body_parts : (frame : List ℕ) → 4 ≤ length frame
    → drop 2 frame ≡ get_or frame 2 0 ∷ get_or frame 3 0 ∷ drop 4 frame
body_parts [] long = absurd (omega arith)
body_parts (a ∷ []) long = absurd (omega arith)
body_parts (a ∷ b ∷ []) long = absurd (omega arith)
body_parts (a ∷ b ∷ c ∷ []) long = absurd (omega arith)
body_parts (a ∷ b ∷ c ∷ d ∷ rest) long = refl

not_unequal : (o : Option ℕ) (n : ℕ) (unequal : Bool) → unequal ≡ not (option_eq nat_eq o (Some n))
    → unequal ≡ false → o ≡ Some n
not_unequal None n unequal is h = let both : true ≡ false = sym is ∙ h in absurd (cc)
not_unequal (Some m) n unequal is h = elim (cases_eq m n) [
  | inl same ↦ ap Some same
  | inr other ↦ let both : true ≡ false = sym (ap not (differs m n other)) ∙ sym is ∙ h in absurd (cc)
]

pub whole_frame_parts : (frame : List ℕ) (r : Option ℕ) (unequal : Bool)
    → unequal ≡ not (option_eq nat_eq r (Some (length frame))) → unequal ≡ false
    → IfSome r (λ len. IsFrame (take len frame) (drop 2 (take len frame))) → 4 ≤ length frame
    → IsFrame frame (get_or frame 2 0 ∷ get_or frame 3 0 ∷ take (length frame - 4) (drop 4 frame))
whole_frame_parts frame r unequal is h whole long =
    let cut : IsFrame (take (length frame) frame) (drop 2 (take (length frame) frame)) =
    subst (λ o. IfSome o (λ len. IsFrame (take len frame) (drop 2 (take len frame)))) (not_unequal r (length frame) unequal is h) whole in
    let all : IsFrame frame (drop 2 frame) = subst (λ l. IsFrame l (drop 2 l)) (take-length frame) cut in
    subst (IsFrame frame) (body_parts frame long ∙ ap (λ l. get_or frame 2 0 ∷ get_or frame 3 0 ∷ l) (sym (take_rest frame 4))) all
