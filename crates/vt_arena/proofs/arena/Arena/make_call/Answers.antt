use Rattle.std.proofs.Common.{◌≡◌, ◌≤◌, None, true, false, is_some, sym, ◌∙◌, ap, subst, arith, rules}
use Rattle.vt_disk.specs.DeviceCalls.{DeviceCall, CallMade}
use Rattle.vt_twin.specs.Twin.{TwinState, next_call as next_head_call}
use Rattle.vt_arena.specs.Arena.{ArenaState, content_after, pieces}
use Rattle.vt_arena.specs.Layout.{Content, head_place}
use Rattle.vt_arena.specs.Sound.{IsSoundArena}
use Rattle.vt_arena.proofs.Commits.{begin_sound, content_twin, content_piece, none_is}
use Rattle.vt_arena.proofs.Writes.{changing_begun, changing_first, is_head}
use Rattle.vt_arena.proofs.arena.Arena.make_call.Goals.{then-not-is_changing, else-not-is_changing}
use Rattle.vt_arena.proofs.arena.Arena.make_call.Goals as goal

pub returns-then-self-pieces-clause-sound : goal.returns-then-self-pieces-clause-sound
returns-then-self-pieces-clause-sound g c score_of old told sound =
    subst (λ (content : Content). IsSoundArena score_of c.write_piece.new.self c.args.region content (g.D.Disk.bytes c.write_piece.new.disk) (g.D.Disk.images c.write_piece.new.disk))
    (sym (content_piece c.write_piece.result c.args.self.now _ old c.write_piece.ensures.steps)) (c.write_piece.ensures.sound score_of old told sound)

pub returns-clause-sound : goal.returns-clause-sound
returns-clause-sound g c score_of old told sound =
    let a = c.args.self.now in
    elim c.if-not-is_changing.branch [
      | then-not-is_changing w ↦
          let off : is_some c.self.inside.twin.change ≡ false = search rules in
          let rest : a.twin.change ≡ None = ap (λ (s : ArenaState). s.twin.change) (sym c.self.view_is) ∙ none_is c.self.inside.twin.change off in
          let same : c.self.inside.written ≡ a.written = ap (λ (s : ArenaState). s.written) c.self.view_is in
          let written : a.written ≡ pieces a = omega (arith, same, c.pieces.ensures.pieces, c.pieces.ensures.written, c.if-self-pieces.false) in
          let is = w.self-is ∙ w.begin_head.ensures.begun in
          let begun = begin_sound score_of a c.args.region old _ _ rest written sound in
          subst (λ (content : Content). IsSoundArena score_of c.advance_head.new.self c.args.region content (g.D.Disk.bytes c.advance_head.new.disk) (g.D.Disk.images c.advance_head.new.disk))
          (ap (λ (s : ArenaState). content_after c.advance_head.result s old) is ∙ content_twin c.advance_head.result a _ old)
          (c.advance_head.ensures.sound score_of old told
          (subst (λ (s : ArenaState). IsSoundArena score_of s c.args.region old (g.D.Disk.bytes c.args.disk.now) (g.D.Disk.images c.args.disk.now)) (sym is) begun))
      | else-not-is_changing w ↦
          subst (λ (content : Content). IsSoundArena score_of c.advance_head.new.self c.args.region content (g.D.Disk.bytes c.advance_head.new.disk) (g.D.Disk.images c.advance_head.new.disk))
          (ap (λ (s : ArenaState). content_after c.advance_head.result s old) w.self-is)
          (c.advance_head.ensures.sound score_of old told
          (subst (λ (s : ArenaState). IsSoundArena score_of s c.args.region old (g.D.Disk.bytes c.args.disk.now) (g.D.Disk.images c.args.disk.now)) (sym w.self-is) sound))
    ]

pub returns-clause-makes : goal.returns-clause-makes
returns-clause-makes g c =
    let a = c.args.self.now in
    let same : c.self.inside.written ≡ a.written = ap (λ (s : ArenaState). s.written) c.self.view_is in
    let all : pieces a ≤ a.written = omega (arith, same, c.pieces.ensures.pieces, c.if-self-pieces.false) in
    subst (λ (call : DeviceCall). CallMade g.D.Disk call c.advance_head.result c.args.calls.now c.advance_head.new.calls c.args.disk.now c.advance_head.new.disk)
    (elim c.if-not-is_changing.branch [
      | then-not-is_changing w ↦
          let off : is_some c.self.inside.twin.change ≡ false = search rules in
          let rest : a.twin.change ≡ None = ap (λ (s : ArenaState). s.twin.change) (sym c.self.view_is) ∙ none_is c.self.inside.twin.change off in
          ap (λ (s : ArenaState). next_head_call s.twin (head_place c.args.region)) (w.self-is ∙ w.begin_head.ensures.begun)
          ∙ ap (λ (t : TwinState). next_head_call t (head_place c.args.region)) (sym (changing_first a rest)) ∙ is_head a c.args.region all
      | else-not-is_changing w ↦
          let on : is_some c.self.inside.twin.change ≡ true = search rules in
          let some : is_some a.twin.change ≡ true = ap (λ (s : ArenaState). is_some s.twin.change) (sym c.self.view_is) ∙ on in
          ap (λ (s : ArenaState). next_head_call s.twin (head_place c.args.region)) w.self-is
          ∙ ap (λ (t : TwinState). next_head_call t (head_place c.args.region)) (sym (changing_begun a some)) ∙ is_head a c.args.region all
    ])
    c.advance_head.ensures.makes
