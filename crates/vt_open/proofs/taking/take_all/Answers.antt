use Rattle.std.proofs.Common.{◌≡◌, ◌+◌, ℕ, List, length, sym, ◌∙◌, ap, subst, arith}
use Rattle.std.specs.Prelude.{IsTrue}
use Rattle.std.specs.Option.{option_to_list}
use Rattle.std.proofs.lemmas.Result.{err_from_is_err_and}
use Rattle.vt_conf.specs.declared.conf.PartFile.{PartFile}
use Rattle.vt_log.specs.Log.{disks_of}
use Rattle.vt_open.specs.Taking.{AreHandedBack, AreTaken, AreTakenArenas, RefusesTaking}
use Rattle.vt_open.proofs.TakingAll.{all_taken, arenas_refused, filter_refused, many_taken, sections_refused}
use Rattle.vt_open.proofs.taking.take_all.Goals as goal

pub returns-in_err-arenas-clause-refused : goal.returns-in_err-arenas-clause-refused
returns-in_err-arenas-clause-refused g c =
    let disk = g.P.Disk.Disk in
    let told = IsTrue g.P.Parts.tells in
    let s0 = g.P.Parts.standing c.args.parts.now in
    let s1 = g.P.Parts.standing c.take_arenas.new.parts in
    let f0 = g.P.Parts.faults c.args.parts.now in
    let f1 = g.P.Parts.faults c.take_arenas.new.parts in
    let bad = c.in_err-arenas.field-0.0 in
    let p = err_from_is_err_and c.from_residual.result c.from_residual.ensures.1 in
    rw (p.1, p.2) (arenas_refused disk told c.args.conf.now s0 s1 f0 f1 bad
    (subst (λ (l : List PartFile). RefusesTaking disk told 0 (length l) l s0 s1 f0 f1 bad) c.deref.ensures.value c.in_err-arenas.ensures.refused))

pub give_arenas-requires : goal.give_arenas-requires
give_arenas-requires g c =
    let many = many_taken g.P.Disk.Disk (IsTrue g.P.Parts.tells) c.deref.result.now (g.P.Parts.standing c.args.parts.now) (g.P.Parts.standing c.take_arenas.new.parts) c.in_ok-arenas.arenas.items c.in_ok-arenas.ensures.taken in
    many ∙ ap length (c.deref.ensures.value ∙ sym c.deref-in-Err.ensures.value)

pub give_arenas-requires-in-Err-take_filter : goal.give_arenas-requires-in-Err-take_filter
give_arenas-requires-in-Err-take_filter g c =
    let many = many_taken g.P.Disk.Disk (IsTrue g.P.Parts.tells) c.deref.result.now (g.P.Parts.standing c.args.parts.now) (g.P.Parts.standing c.take_arenas.new.parts) c.in_ok-arenas.arenas.items c.in_ok-arenas.ensures.taken in
    many ∙ ap length (c.deref.ensures.value ∙ sym c.deref-in-Err-take_filter-2.ensures.value)

pub returns-in-Err-clause-refused : goal.returns-in-Err-clause-refused
returns-in-Err-clause-refused g c =
    let disk = g.P.Disk.Disk in
    let told = IsTrue g.P.Parts.tells in
    let conf = c.args.conf.now in
    let s0 = g.P.Parts.standing c.args.parts.now in
    let s1 = g.P.Parts.standing c.take_arenas.new.parts in
    let s2 = g.P.Parts.standing c.take_sections.new.parts in
    let s3 = g.P.Parts.standing c.give_arenas.new.parts in
    let f0 = g.P.Parts.faults c.args.parts.now in
    let f1 = g.P.Parts.faults c.take_arenas.new.parts in
    let f2 = g.P.Parts.faults c.take_sections.new.parts in
    let f3 = g.P.Parts.faults c.give_arenas.new.parts in
    let arenas = c.in_ok-arenas.arenas.items in
    let number : c.len-number.result ≡ length conf.arenas.items = c.len-number.ensures ∙ conf.arenas.ok.0 in
    let taken : AreTakenArenas disk told conf.arenas.items s0 s1 arenas =
    subst (λ (l : List PartFile). AreTakenArenas disk told l s0 s1 arenas) c.deref.ensures.value c.in_ok-arenas.ensures.taken in
    let refused : RefusesTaking disk told (length conf.arenas.items) 0 conf.sections.items s1 s2 f1 f2 c.in-Err.bad =
    subst (λ (k : ℕ). RefusesTaking disk told k 0 conf.sections.items s1 s2 f1 f2 c.in-Err.bad) number
    (subst (λ (l : List PartFile). RefusesTaking disk told c.len-number.result 0 l s1 s2 f1 f2 c.in-Err.bad) c.deref-2.ensures.value c.in-Err.ensures.refused) in
    let given : AreHandedBack told conf.arenas.items s2 s3 (disks_of arenas) =
    subst (λ (l : List PartFile). AreHandedBack told l s2 s3 (disks_of arenas)) c.deref-in-Err.ensures.value c.give_arenas.ensures.given in
    sections_refused disk told conf s0 s1 s2 s3 arenas f0 f1 f2 f3 c.in-Err.bad taken refused given c.in_ok-arenas.ensures.faults c.give_arenas.ensures.faults

pub returns-in-Ok-take_filter-clause-taken : goal.returns-in-Ok-take_filter-clause-taken
returns-in-Ok-take_filter-clause-taken g c =
    let disk = g.P.Disk.Disk in
    let told = IsTrue g.P.Parts.tells in
    let conf = c.args.conf.now in
    let s0 = g.P.Parts.standing c.args.parts.now in
    let s1 = g.P.Parts.standing c.take_arenas.new.parts in
    let s2 = g.P.Parts.standing c.take_sections.new.parts in
    let s3 = g.P.Parts.standing c.take_filter.new.parts in
    let arenas = c.in_ok-arenas.arenas in
    let sections = c.in-Ok.sections in
    let taken : AreTakenArenas disk told conf.arenas.items s0 s1 arenas.items =
    subst (λ (l : List PartFile). AreTakenArenas disk told l s0 s1 arenas.items) c.deref.ensures.value c.in_ok-arenas.ensures.taken in
    let more : AreTaken told conf.sections.items s1 s2 sections.items =
    subst (λ (l : List PartFile). AreTaken told l s1 s2 sections.items) c.deref-2.ensures.value c.in-Ok.ensures.taken in
    all_taken disk told conf s0 s1 s2 s3 (record { parts = arenas; sections = sections; filter = c.in-Ok-take_filter.filter }) taken more c.in-Ok-take_filter.ensures.taken

pub returns-in-Err-take_filter-clause-refused : goal.returns-in-Err-take_filter-clause-refused
returns-in-Err-take_filter-clause-refused g c =
    let disk = g.P.Disk.Disk in
    let told = IsTrue g.P.Parts.tells in
    let conf = c.args.conf.now in
    let s0 = g.P.Parts.standing c.args.parts.now in
    let s1 = g.P.Parts.standing c.take_arenas.new.parts in
    let s2 = g.P.Parts.standing c.take_sections.new.parts in
    let s3 = g.P.Parts.standing c.take_filter.new.parts in
    let s4 = g.P.Parts.standing c.give_sections.new.parts in
    let s5 = g.P.Parts.standing c.give_arenas-in-Err-take_filter.new.parts in
    let f0 = g.P.Parts.faults c.args.parts.now in
    let f1 = g.P.Parts.faults c.take_arenas.new.parts in
    let f2 = g.P.Parts.faults c.take_sections.new.parts in
    let f3 = g.P.Parts.faults c.take_filter.new.parts in
    let f4 = g.P.Parts.faults c.give_sections.new.parts in
    let f5 = g.P.Parts.faults c.give_arenas-in-Err-take_filter.new.parts in
    let arenas = c.in_ok-arenas.arenas.items in
    let sections = c.in-Ok.sections.items in
    let bad = c.in-Err-take_filter.bad in
    let number : c.len-number.result + c.len.result ≡ length conf.arenas.items + length conf.sections.items =
    let a : c.len-number.result ≡ length conf.arenas.items = c.len-number.ensures ∙ conf.arenas.ok.0 in
    let s : c.len.result ≡ length conf.sections.items = c.len.ensures ∙ conf.sections.ok.0 in
    omega (arith, a, s) in
    let taken : AreTakenArenas disk told conf.arenas.items s0 s1 arenas =
    subst (λ (l : List PartFile). AreTakenArenas disk told l s0 s1 arenas) c.deref.ensures.value c.in_ok-arenas.ensures.taken in
    let more : AreTaken told conf.sections.items s1 s2 sections =
    subst (λ (l : List PartFile). AreTaken told l s1 s2 sections) c.deref-2.ensures.value c.in-Ok.ensures.taken in
    let refused : RefusesTaking disk told (length conf.arenas.items + length conf.sections.items) 0 (option_to_list conf.filter) s2 s3 f2 f3 bad =
    subst (λ (k : ℕ). RefusesTaking disk told k 0 (option_to_list conf.filter) s2 s3 f2 f3 bad) number c.in-Err-take_filter.ensures.refused in
    let given : AreHandedBack told conf.sections.items s3 s4 sections =
    subst (λ (l : List PartFile). AreHandedBack told l s3 s4 sections) c.deref-in-Err-take_filter.ensures.value c.give_sections.ensures.given in
    let also : AreHandedBack told conf.arenas.items s4 s5 (disks_of arenas) =
    subst (λ (l : List PartFile). AreHandedBack told l s4 s5 (disks_of arenas)) c.deref-in-Err-take_filter-2.ensures.value c.give_arenas-in-Err-take_filter.ensures.given in
    filter_refused disk told conf s0 s1 s2 s3 s4 s5 arenas sections f0 f1 f2 f3 f4 f5 bad taken more refused given also
    c.in_ok-arenas.ensures.faults c.in-Ok.ensures.faults c.give_sections.ensures.faults c.give_arenas-in-Err-take_filter.ensures.faults
