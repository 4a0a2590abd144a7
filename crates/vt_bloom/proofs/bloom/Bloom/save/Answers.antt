use Rattle.std.proofs.Common.{◌≡◌, ◌∙◌, None, Some, length, refl, ap, sym, subst}
use Rattle.std.specs.Prelude.{Option}
use Rattle.std.specs.Option.{option_map_or}
use Rattle.vt_twin.specs.Twin.{FrameChange, TwinState}
use Rattle.vt_bloom.specs.Bloom.{IsSoundBloom}
use Rattle.vt_bloom.specs.Frame.{Saved}
use Rattle.vt_bloom.specs.Size.{filter_frame_len}
use Rattle.vt_bloom.proofs.Saves.{save_sound}
use Rattle.vt_bloom.proofs.bloom.Bloom.save.Goals as goal

pub encoded-requires : goal.encoded-requires
encoded-requires g c =
    let same = rw (← c.self.view_is) at c.requires.m in
    c.self.invariant.buffer c.in-Some.frame (sym c.in-Some.ensures.value) ∙ ap filter_frame_len (sym same)

pub begin-requires-clause-whole : goal.begin-requires-clause-whole
begin-requires-clause-whole g c =
    let same = rw (← c.self.view_is) at c.requires.m in
    c.encoded.ensures.whole ∙ ap filter_frame_len same ∙ sym c.self.invariant.twin

nothing_some : {X : Type 0} {x : X} → None ≡ Some x → ⊥
nothing_some same = cc

pub invariant_of-self : goal.invariant_of-self
invariant_of-self g c =
    let same = rw (← c.self.view_is) at c.requires.m in
    let change = ap (λ (t : TwinState). t.change) c.begin.ensures in
    record {
      counts = c.self.invariant.counts;
      room = c.self.invariant.room;
      twin = ap (λ (t : TwinState). t.frame_len) c.begin.ensures ∙ c.self.invariant.twin;
      buffer = λ it is. absurd (nothing_some (sym c.take.ensures.after ∙ is));
      coming = λ it is. sym (ap (λ (o : Option FrameChange). option_map_or (λ x. length x.frame) o 0)
          (sym change ∙ is)) ∙ c.encoded.ensures.whole ∙ ap filter_frame_len same;
      rest = λ none. absurd (nothing_some (sym none ∙ change));
      runs = λ goes. ap (λ (t : TwinState). t.failed) c.begin.ensures ∙ c.self.invariant.runs goes;
    }

pub returns-clause-begun : goal.returns-clause-begun
returns-clause-begun g c = rw (← c.self.view_is, c.begin.ensures, c.encoded.ensures.written) refl

pub returns-clause-sound : goal.returns-clause-sound
returns-clause-sound g c saved coming told sound =
    let new : Saved = record { filter = c.args.bits.now; mark = c.args.mark } in
    subst (λ b. IsSoundBloom b saved new (g.D.Disk.bytes b.disk) (g.D.Disk.images b.disk)) (sym
    (returns-clause-begun g c))
    (save_sound c.args.self.now saved coming _ _ sound new c.requires.rest
    (rw c.encoded.ensures.written at c.encoded.ensures.is) (c.requires.m, c.requires.k))
