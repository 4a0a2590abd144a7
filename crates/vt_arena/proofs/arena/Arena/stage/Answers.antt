use Rattle.std.proofs.Common.{◌≡◌, ℕ, ◌-◌, ◌*◌, ◌++◌, ◌∷◌, [], List, length, refl, sym, ◌∙◌, ap, subst, rules, arith}
use Rattle.std.proofs.lemmas.List.{take_at}
use Rattle.vt_clump.specs.declared.packed.Packed.{Packed}
use Rattle.vt_arena.specs.Whole.{HasDirectory}
use Rattle.vt_arena.proofs.Memory.{directory_more, staged_whole}
use Rattle.vt_arena.proofs.arena.Arena.stage.Goals as goal

pub invariant_of-self : goal.invariant_of-self
invariant_of-self g c =
    let a = c.self.inside in
    let p : Packed = c.args.packed in
    let few = rw (← c.self.view_is) at c.requires.few in
    let entry : List ℕ = c.entry_bytes-entry.result in
    let place : ℕ = (63 - length a.staged.items) * 25 in
    let buf : c.deref_mut.result.now ≡ a.directory.items = c.deref_mut.ensures.value in
    let entry_len : length entry ≡ 25 = ap (λ (l : List ℕ). length l) c.entry_bytes-entry.ensures.bytes ∙ omega (arith, c.entry_bytes-entry.ensures.score) in
    let place_is : (63 - c.len.result) * 25 ≡ place = omega (arith, c.len.ensures) in
    let has : HasDirectory (a.staged.items ++ p ∷ []) c.put-2.new.buf =
    directory_more a.staged.items p entry a.directory.items c.put-2.new.buf place c.self.invariant.directory few refl c.entry_bytes-entry.ensures.bytes entry_len
    (c.put-2.auto.buf ∙ ap (λ (l : List ℕ). length l) buf)
    (rw (← place_is, ← buf) c.put-2.ensures.written)
    (rw (← place_is, ← buf) c.put-2.ensures.behind) in
    staged_whole a p c.push.new.self _ _ c.score-self-inside.result c.self.invariant (rw (← c.self.view_is) at c.requires.rest) (rw (← c.self.view_is) at c.requires.fits)
    few (search rules) (search rules) c.block_room.ensures.room
    (subst (HasDirectory (a.staged.items ++ p ∷ [])) (sym (take_at c.put-2.new.buf _ a.directory.len (search rules))) has)
