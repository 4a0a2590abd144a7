use Rattle.std.proofs.Common.{arith}
use Rattle.vt_wire.specs.declared.protocol_cause.ProtocolCause.TheVariants.{UnknownMessage, BadMessage}
use Rattle.vt_wire.proofs.RequestForms.{body_not_both}
use Rattle.vt_session.specs.Heard.{unknown, misspelled}
use Rattle.vt_session.specs.Parsed.{unheard}
use Rattle.vt_session.proofs.Parsing.{tag_at, rule_frame, rules_frame}
use Rattle.vt_session.proofs.parsed.Left.next_of.Goals as goal

pub bounds-frame-3 : goal.bounds-frame-3
bounds-frame-3 c =
    let u = (c.decode.ensures.unknown c.in-Err-Unknown.field-0-0).0 (cc) in
    omega (arith, (tag_at _ _ _ _ u.frame).0)

pub bounds-frame-3-in-Err-Bad : goal.bounds-frame-3-in-Err-Bad
bounds-frame-3-in-Err-Bad c =
    let u = (c.decode.ensures.bad c.in-Err-Bad.field-0-0).0 (cc) in
    omega (arith, (tag_at _ _ _ _ u.frame).0)

pub returns-in-Ok : goal.returns-in-Ok
returns-in-Ok c =
    rules_frame (unheard c.args.self.now)
    c.args.frame.now _ c.in-Ok.tag _ _ c.requires c.in-Ok.ensures.ok c.next_by_rules.ensures

pub returns-in-Err-Unknown : goal.returns-in-Err-Unknown
returns-in-Err-Unknown c =
    let u = (c.decode.ensures.unknown c.in-Err-Unknown.field-0-0).0 (cc) in
    rule_frame (unheard c.args.self.now)
    c.args.frame.now _ u.tag u.parameters UnknownMessage c.requires u.frame (unknown u.unknown)

pub returns-in-Err-Bad : goal.returns-in-Err-Bad
returns-in-Err-Bad c =
    let u = (c.decode.ensures.bad c.in-Err-Bad.field-0-0).0 (cc) in
    rule_frame (unheard c.args.self.now)
    c.args.frame.now u.type u.tag u.parameters BadMessage c.requires u.frame
    (misspelled u.known (λ m x. body_not_both u.type u.parameters m _ x u.first_bad))
