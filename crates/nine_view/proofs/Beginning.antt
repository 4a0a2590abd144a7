-- Where a walk begins, if it may.
use Rattle.std.proofs.Common.{◌≡◌, ◌≤◌, ◌<◌, ◌⊎◌, ℕ, true, false, Option, Some, None, Ok, Err, List, length, refl, sym, ◌∙◌, ap, inl, inr, arith, eq-eqb}
use Rattle.std.specs.Prelude.{is_some, nat_lt}
use Rattle.std.specs.Option.{option_map_or}
use Rattle.std.proofs.lemmas.Bool.{le-leb, le-ltb, lt-leb, lt-ltb, ne_eqb}
use Rattle.vac_read.specs.declared.error.VacBad.TheVariants.{NoMemory}
use Rattle.nine_wire.specs.declared.TheConstants.{NO_FID}
use Rattle.nine_view.specs.declared.error.AnswerError.TheVariants.{Refused, Failed}
use Rattle.nine_view.specs.declared.fid.Fid.{Fid}
use Rattle.nine_view.specs.declared.place.Place.{Place}
use Rattle.nine_view.specs.declared.request_error.RequestError.TheVariants.{BadFid, FidInUse, FidIsOpen, TooManyFids, TooManyNames, UnknownFid}
use Rattle.nine_view.specs.Answers.{of_fid, refused_answer, to_names, to_walk}
use Rattle.nine_view.specs.Known.{ViewState, fid_at, is_known}
use Rattle.nine_view.specs.Walking.{MayWalk}

module _ (known : ViewState) (fid newfid names : ℕ) where
  pub may_unknown : fid_at fid known.fids ≡ None
      → MayWalk known fid newfid names (Err (Refused UnknownFid))
  may_unknown none words len =
      ap (λ (o : Option Fid). option_map_or (to_walk known fid newfid words) o
      (refused_answer known UnknownFid)) none

  module _ (f : Fid) (at : fid_at fid known.fids ≡ Some f) where
    is_there : (words : List (List ℕ)) → of_fid known fid (to_walk known fid newfid words)
        ≡ to_walk known fid newfid words f
    is_there words =
        ap (λ (o : Option Fid). option_map_or (to_walk known fid newfid words) o
        (refused_answer known UnknownFid)) at

    -- a fid that walks itself is known
    pub walks_itself : newfid ≡ fid
        → ((is_known newfid known.fids ≡ true) × (newfid ≡ fid))
        ⊎ ((is_known newfid known.fids ≡ false) × (length known.fids < 1024))
    walks_itself same = inl (
      ap (λ (n : ℕ). is_known n known.fids) same ∙ ap (λ (o : Option Fid). is_some o) at,
      same,
    )

    pub may_many : 16 < names → MayWalk known fid newfid names (Err (Refused TooManyNames))
    may_many many words len =
        let more : nat_lt 16 (length words) ≡ true = lt-ltb 16 (length words) (omega arith) in
        is_there words ∙ rw more refl

    module _ (few : names ≤ 16) where
      short : (words : List (List ℕ)) → length words ≡ names → nat_lt 16 (length words) ≡ false
      short words len = le-ltb 16 (length words) (omega arith)

      pub may_open : is_some f.reading ≡ true
          → MayWalk known fid newfid names (Err (Refused FidIsOpen))
      may_open open_yet words len = is_there words ∙ rw (short words len, open_yet) refl

      module _ (closed : is_some f.reading ≡ false) where
        pub may_bad : newfid ≡ NO_FID → MayWalk known fid newfid names (Err (Refused BadFid))
        may_bad bad words len =
            is_there words ∙ rw (short words len, closed, eq-eqb newfid NO_FID bad) refl

        module _ (good : newfid ≡ NO_FID → ⊥) where
          pub may_used : (newfid ≡ fid → ⊥) → is_known newfid known.fids ≡ true
              → MayWalk known fid newfid names (Err (Refused FidInUse))
          may_used other used words len =
              is_there words
              ∙ rw (
                short words len,
                closed,
                ne_eqb newfid NO_FID good,
                used,
                ne_eqb newfid fid other,
              ) refl

          pub may_full : is_known newfid known.fids ≡ false → 1024 ≤ length known.fids
              → MayWalk known fid newfid names (Err (Refused TooManyFids))
          may_full new many words len =
              is_there words
              ∙ rw (
                short words len,
                closed,
                ne_eqb newfid NO_FID good,
                new,
                le-leb 1024 (length known.fids) many,
              ) refl

          -- the fid walks itself, or a new one has room
          module _ (room : ((is_known newfid known.fids ≡ true) × (newfid ≡ fid))
              ⊎ ((is_known newfid known.fids ≡ false) × (length known.fids < 1024)))
            where
              begins : (words : List (List ℕ)) → length words ≡ names
                  → of_fid known fid (to_walk known fid newfid words)
                  ≡ to_names newfid (record { node = f.node; above = f.above }) words
              begins words len = elim room [
                | inl a ↦ is_there words
                    ∙ rw (
                      short words len,
                      closed,
                      ne_eqb newfid NO_FID good,
                      a.0,
                      eq-eqb newfid fid a.1,
                    ) refl
                | inr a ↦ is_there words
                    ∙ rw (
                      short words len,
                      closed,
                      ne_eqb newfid NO_FID good,
                      a.0,
                      lt-leb 1024 (length known.fids) a.1,
                    ) refl
              ]

              pub may_walk : (at : Place) → at.node ≡ f.node → at.above ≡ f.above
                  → MayWalk known fid newfid names (Ok at)
              may_walk at node above words len =
                  let same : record { node = f.node; above = f.above } ≡ at =
                  ap (λ n. record { node = n; above = f.above }) (sym node)
                  ∙ ap (λ a. record { node = at.node; above = a }) (sym above) in
                  begins words len ∙ ap (λ (p : Place). to_names newfid p words) same

              pub may_lack : MayWalk known fid newfid names (Err (Failed NoMemory))
              may_lack = (
                refl,
                λ words len. (record { node = f.node; above = f.above }, begins words len),
              )
