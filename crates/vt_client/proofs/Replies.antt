-- What is wrong in a frame that is no reply.
use Rattle.std.proofs.Common.{◌≡◌, ℕ, ◌≤◌, ◌+◌, List, [], ◌∷◌, ◌++◌, length, get_or, inl, inr, refl, sym, ◌∙◌, ap, subst, arith}
use Rattle.vt_base.specs.Protocol.{RMessage}
use Rattle.vt_wire.specs.Awaited.{IsWanted, IsWrongAt}
use Rattle.vt_wire.specs.Frames.{IsFrame, framed}
use Rattle.vt_wire.specs.Messages.{SpellsReply, reply_type}
use Rattle.vt_wire.proofs.Frames.{length-framed}

-- its parameters, where it spells none under any tag
pub wrong_parameters : (frame : List ℕ) (tag wanted : ℕ) → 4 ≤ length frame
    → IsWanted wanted (get_or frame 2 0) → get_or frame 3 0 ≡ tag
    → ((t : ℕ) (reply : RMessage) → ¬ SpellsReply t reply frame)
    → (body : List ℕ) → IsFrame frame body → IsWrongAt tag wanted body 4
wrong_parameters frame tag wanted long type same none [] is =
    absurd (omega (arith, long, ap length is.is, length-framed []))
wrong_parameters frame tag wanted long type same none (t ∷ []) is =
    absurd (omega (arith, long, ap length is.is, length-framed (t ∷ [])))
wrong_parameters frame tag wanted long type same none (t ∷ its ∷ ps) is =
    inr (inr (inl (
      refl,
      subst (IsWanted wanted) (ap (λ (l : List ℕ). get_or l 2 0) is.is) type,
      sym (ap (λ (l : List ℕ). get_or l 3 0) is.is) ∙ same,
      λ reply at spells. none its reply (record {
        parameters = ps;
        parameters_are = spells;
        frame = subst (λ (k : ℕ). IsFrame frame (k ∷ its ∷ ps)) at is;
      }),
    )))
