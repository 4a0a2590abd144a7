-- the frame stands behind what stood before the place
use Rattle.std.proofs.Common.{◌≡◌, List, ℕ, ◌++◌, length, drop, sym, ap, ◌∙◌}
use Rattle.std.proofs.lemmas.List.{take-append-drop}
use Rattle.vt_wire.specs.Messages.{spelled_reply}
use Rattle.vt_wire.specs.Views.{reply_of}
use Rattle.vt_base.proofs.FieldWriting.{field-take}
use Rattle.vt_handler.proofs.output.encode_at.Goals as goal

pub returns-clause-written : goal.returns-clause-written
returns-clause-written c =
    let frame : List ℕ = spelled_reply c.args.tag (reply_of c.args.reply.now) in
    let wide : length frame ≡ c.encode.result = sym c.encode.ensures.len in
    field-take c.args.at c.encode.result c.args.buffer.now frame c.encode.new.buf (rw c.encode.ensures.len c.requires.room) wide
    (sym (take-append-drop c.encode.result c.encode.new.buf)
    ∙ ap (λ (l : List ℕ). l ++ drop c.encode.result c.encode.new.buf) c.encode.ensures.written
    ∙ ap (λ (l : List ℕ). frame ++ l) c.encode.ensures.behind)
