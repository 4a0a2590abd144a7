use Rattle.std.proofs.Common.{◌≡◌, ℕ, List, ◌++◌, drop, take-append-drop, Option, None, subst, sym, ◌∙◌, ap, rules}
use Rattle.std.specs.Prelude.{MatchOption}
use Rattle.std.proofs.lemmas.List.{take_at}
use Rattle.vt_arena.specs.declared.TheConstants.{FIELDS_LEN}
use Rattle.vt_arena.specs.Whole.{IsBuffer, state_of}
use Rattle.vt_twin.specs.Twin.{TwinState, with_change}
use Rattle.vt_arena.specs.Heads.{head_frame}
use Rattle.vt_arena.proofs.arena.Arena.begin_head.Goals as goal

pub returns : goal.returns
returns c =
    let rest : c.self.inside.twin.change ≡ None = rw (← c.self.view_is) at c.requires.rest in
    let whole : MatchOption c.self.inside.buffer ⊥ IsBuffer = c.self.invariant.buffer rest in
    let buffer : IsBuffer c.in-Some.frame = subst (λ (o : Option (List ℕ)). MatchOption o ⊥ IsBuffer) (sym c.in-Some.ensures.value) whole in
    let old : c.deref_mut.result.now ≡ c.in-Some.frame = c.deref_mut.ensures.value ∙ c.into_vec-frame.ensures in
    let frame_is : c.from_vec.result ≡ head_frame c.self.inside.next =
    c.from_vec.ensures
    ∙ take_at c.encode.new.frame _ c.into_vec-frame.result.len (search rules)
    ∙ sym (take-append-drop FIELDS_LEN c.encode.new.frame)
    ∙ (λ i. c.encode.ensures.fields i ++ (c.encode.ensures.behind ∙ ap (λ (l : List ℕ). drop FIELDS_LEN l) old ∙ buffer.1) i) in
    record {
      begun = rw (← c.self.view_is)
          (ap (λ (t : TwinState). state_of (record c.self.inside { twin = t }))
          (c.begin.ensures ∙ ap (λ (f : List ℕ). with_change f c.self.inside.twin) frame_is));
    }
