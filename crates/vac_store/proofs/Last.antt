-- Of the calls of an archiving the last alone may be refused.
use Rattle.std.proofs.Common.{◌≡◌, ◌⊎◌, inl, inr, Option, Some, None, List, [], ◌∷◌, ◌++◌, ◌∙◌, ap}
use Rattle.vt_tree.specs.declared.error.BlockErr.{BlockErr}
use Rattle.vt_tree.specs.Calls.{Call, refusal_of, refusals_of}
use Rattle.vt_tree.specs.Making.{EndsBy}
use Rattle.vt_remote.proofs.Calling.{accepted_first}

-- the first of these calls is answered, and the others end so; or it is the last, and refused so
abbrev pub IsLastOr : Option BlockErr → Call → List Call → Type 0
IsLastOr err call calls =
    ((refusal_of call ≡ None) × EndsBy err calls) ⊎ ((calls ≡ []) × (refusal_of call ≡ err))

pub not_ended : (before : List Call) (last : Call) → [] ≡ before ++ last ∷ [] → ⊥
not_ended [] last is = cc
not_ended (x ∷ before) last is = cc

pub ends_so : (err : Option BlockErr) (call : Call) (calls : List Call) → EndsBy err (call ∷ calls)
    → IsLastOr err call calls
ends_so None call calls accepted = inl (accepted_first call calls accepted)
ends_so (Some err) call calls ends = of ends.before ends.are ends.accepted
  where
    of : (before : List Call) → call ∷ calls ≡ before ++ ends.last ∷ []
        → refusals_of before ≡ [] → IsLastOr (Some err) call calls
    of [] are accepted =
        let last : call ≡ ends.last = cc in
        inr (cc, ap refusal_of last ∙ ends.refused)
    of (x ∷ before) are accepted =
        let first : call ≡ x = cc in
        let rest : calls ≡ before ++ ends.last ∷ [] = cc in
        let two = accepted_first x before accepted in
        inl (
          ap refusal_of first ∙ two.0,
          record {
            before = before;
            last = ends.last;
            are = rest;
            accepted = two.1;
            refused = ends.refused;
          },
        )
