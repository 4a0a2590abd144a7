use Rattle.std.proofs.Common.{◌≡◌, ℕ, List, length, sym, ◌∙◌, subst, rules}
use Rattle.std.proofs.lemmas.Result.{on_err_weaker}
use Rattle.vt_twin.specs.Formatting.{EndsFormat}
use Rattle.vt_arena.specs.Layout.{IsArena, head_place, arena_head, empty}
use Rattle.vt_arena.proofs.Empty.{on_ok, on_both, written_frame, frame_there, current_there, selector_there, empty_arena}
use Rattle.vt_arena.proofs.mounting.format.Goals as goal

pub returns-clause-empty : goal.returns-clause-empty
returns-clause-empty g c score_of told =
    let len : length c.encode.new.frame ≡ 8192 = search rules in
    on_both c.format.result
    (λ current settled image left.
    subst (λ (l : List ℕ). IsArena score_of c.args.region c.args.number empty l) (sym (settled told image left))
    (empty_arena score_of c.args.region c.args.number (g.D.Disk.bytes c.format.new.disk) c.encode.new.frame c.requires.len.0
    (current_there c.args.region (length c.encode.new.frame) len (g.D.Disk.bytes c.format.new.disk) ∙ current told)
    (written_frame (arena_head score_of c.args.number empty) c.encode.new.frame c.encode.ensures.fields c.encode.ensures.behind)))
    c.format.ensures.current c.format.ensures.settled

pub returns-clause-frame : goal.returns-clause-frame
returns-clause-frame g c score_of told =
    let len : length c.encode.new.frame ≡ 8192 = search rules in
    on_ok c.format.result
    (λ frame. frame_there c.args.region (length c.encode.new.frame) len (g.D.Disk.bytes c.format.new.disk) 0 ∙ frame told
    ∙ written_frame (arena_head score_of c.args.number empty) c.encode.new.frame c.encode.ensures.fields c.encode.ensures.behind)
    c.format.ensures.frame

pub returns-clause-selector : goal.returns-clause-selector
returns-clause-selector g c told =
    let len : length c.encode.new.frame ≡ 8192 = search rules in
    on_ok c.format.result
    (λ selector. selector_there c.args.region (length c.encode.new.frame) len (g.D.Disk.bytes c.format.new.disk) (selector told))
    c.format.ensures.selector

pub returns-clause-idle : goal.returns-clause-idle
returns-clause-idle g c told =
    let len : length c.encode.new.frame ≡ 8192 = search rules in
    on_ok c.format.result
    (λ idle. frame_there c.args.region (length c.encode.new.frame) len (g.D.Disk.bytes c.format.new.disk) 1 ∙ idle told
    ∙ sym (frame_there c.args.region (length c.encode.new.frame) len (g.D.Disk.bytes c.args.disk.now) 1))
    c.format.ensures.idle

pub returns-clause-failed : goal.returns-clause-failed
returns-clause-failed g c score_of =
    on_err_weaker c.format.result
    (λ ends. (
      ends.0,
      subst (λ (frame : List ℕ). EndsFormat g.D.Disk (head_place c.args.region) frame ends.0 c.args.disk.now c.format.new.disk)
          (written_frame (arena_head score_of c.args.number empty) c.encode.new.frame c.encode.ensures.fields c.encode.ensures.behind) ends.1,
    ))
    c.format.ensures.failed
