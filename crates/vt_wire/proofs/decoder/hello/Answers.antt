use Rattle.std.proofs.Common.{refl}
use Rattle.vt_wire.proofs.RequestForms.{hello_spelled}
use Rattle.vt_wire.proofs.decoder.hello.Goals as goal

pub returns : goal.returns
returns c =
    let version = c.in_ok-version.ensures.found in
    let uid = c.in_ok-_uid.ensures.found in
    let strength = c.in_ok-_strength.ensures.found in
    let crypto = c.in_ok-behind_crypto.ensures.found in
    let codec = c.in_ok-behind_codec.ensures.found in
    let end = c.in_ok-at_end.ensures.found in
    record { type_is = refl; parameters_are = hello_spelled _ _ _ _ _ _ _ _ _ version.0 version.1 uid.0 uid.1 strength.0 strength.1 crypto codec end }
