use Rattle.std.proofs.Common.{List, ◌++◌, subst}
use Rattle.std.specs.Prelude.{IsTrue}
use Rattle.std.specs.Option.{option_to_list}
use Rattle.vt_conf.specs.declared.conf.PartFile.{PartFile}
use Rattle.vt_log.specs.Log.{disks_of}
use Rattle.vt_open.specs.Taking.{AreHandedBack}
use Rattle.vt_open.proofs.Taken.{given_more}
use Rattle.vt_open.proofs.closing.give_all.Goals as goal

pub returns-clause-given : goal.returns-clause-given
returns-clause-given g c =
    let told = IsTrue g.P.Parts.tells in
    let conf = c.args.conf.now in
    let d = c.args.devices in
    let s0 = g.P.Parts.standing c.args.parts.now in
    let s1 = g.P.Parts.standing c.give_filter.new.parts in
    let s2 = g.P.Parts.standing c.give_sections.new.parts in
    let s3 = g.P.Parts.standing c.give_arenas.new.parts in
    let sections : AreHandedBack told conf.sections.items s1 s2 d.sections.items =
    subst (λ (l : List PartFile). AreHandedBack told l s1 s2 d.sections.items) c.deref.ensures.value c.give_sections.ensures.given in
    let arenas : AreHandedBack told conf.arenas.items s2 s3 (disks_of d.parts.items) =
    subst (λ (l : List PartFile). AreHandedBack told l s2 s3 (disks_of d.parts.items)) c.deref-2.ensures.value c.give_arenas.ensures.given in
    given_more told (conf.arenas.items ++ conf.sections.items) (option_to_list conf.filter) s0 s1 s3 (disks_of d.parts.items ++ d.sections.items) (option_to_list d.filter)
    c.give_filter.ensures.given (given_more told conf.arenas.items conf.sections.items s1 s2 s3 (disks_of d.parts.items) d.sections.items sections arenas)
