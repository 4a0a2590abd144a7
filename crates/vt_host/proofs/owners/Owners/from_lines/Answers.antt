use Rattle.std.proofs.Common.{◌≡◌, ℕ, ◌<◌, List, [], length, sym, subst, arith}
use Rattle.std.proofs.lemmas.Grind.{common_steps}
use Rattle.vt_host.specs.Cutting.{is_byte, pieces}
use Rattle.vt_host.specs.Owning.{NamesOwner}
use Rattle.vt_host.specs.declared.owners.Owner.{Owner}
use Rattle.vt_host.proofs.Owning.{next_named, next_skipped, none_left}
use Rattle.vt_host.proofs.owners.Owners.from_lines.Goals as goal

pub loop-rest-preserved-in_ok-push : goal.loop-rest-preserved-in_ok-push
loop-rest-preserved-in_ok-push c =
    let some : 0 < length c.loop-rest.rest.now = grind (arith, common_steps) in
    let of : List ℕ → Owner = λ n. record { id = c.in-Some.id; name = n } in
    let named : NamesOwner c.cut.result.0.now (of c.in_ok-name.name)
    = subst (λ (n : List ℕ). NamesOwner c.cut.result.0.now (of n)) (sym c.in_ok-name.ensures)
    c.in-Some.ensures.named in
    next_named (pieces (is_byte 10) c.args.lines.now) c.loop-rest.owners.items c.loop-rest.rest.now
    c.cut.result.0.now c.cut.result.1.now some c.cut.ensures.front c.cut.ensures.rest
    c.loop-rest.invariant (of c.in_ok-name.name) c.push.new.self.items named c.in_ok-push.ensures.items

pub loop-rest-preserved : goal.loop-rest-preserved
loop-rest-preserved c =
    let some : 0 < length c.loop-rest.rest.now = grind (arith, common_steps) in
    next_skipped (pieces (is_byte 10) c.args.lines.now) c.loop-rest.owners.items c.loop-rest.rest.now
    c.cut.result.0.now c.cut.result.1.now some c.cut.ensures.front c.cut.ensures.rest
    c.loop-rest.invariant c.in_default.ensures.none

pub returns : goal.returns
returns c =
    let empty : c.loop-rest.rest.now ≡ [] = grind (arith, common_steps) in
    none_left (pieces (is_byte 10) c.args.lines.now) c.loop-rest.owners.items c.loop-rest.rest.now empty
    c.loop-rest.invariant
