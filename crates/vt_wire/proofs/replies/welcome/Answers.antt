use Rattle.std.proofs.Common.{refl}
use Rattle.vt_wire.proofs.ReplyForms.{welcome_spelled}
use Rattle.vt_wire.proofs.replies.welcome.Goals as goal

pub returns : goal.returns
returns c =
    let sid = c.in_ok-_sid.ensures.found in
    let cipher = c.in_ok-_cipher.ensures.found in
    let codec = c.in_ok-_codec.ensures.found in
    let end = c.in_ok-at_end.ensures.found in
    (refl, welcome_spelled _ _ _ _ _ _ _ sid.0 sid.1 cipher.0 cipher.1 codec.0 codec.1 end)
