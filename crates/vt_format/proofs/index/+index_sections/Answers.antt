use Rattle.std.proofs.Common.{◌≡◌, ◌∙◌, ℕ, ◌+◌, ◌-◌, ◌≤◌, List, [], ◌∷◌, ◌++◌, Err, length, take, drop, sym, ap, subst, arith, rules}
use Rattle.std.specs.Prelude.{All, IsTrue}
use Rattle.vt_base.specs.declared.mount.MountBad.TheVariants.{NoMemory}
use Rattle.vt_conf.specs.declared.conf.PartFile.{PartFile}
use Rattle.vt_isect.specs.Section.{SectionState}
use Rattle.vt_format.specs.declared.index.IndexError.TheVariants.{Fault, Refused}
use Rattle.vt_format.specs.declared.TheConstants.{MAX_BUCKETS}
use Rattle.std.proofs.Common.{Some}
use Rattle.vt_format.specs.Index.{IndexesSections}
use Rattle.vt_format.specs.Opening.{IsOpenedSection, RefusesDisk, RefusesSection}
use Rattle.vt_format.specs.Usage.{IsOpened, total_buckets}
use Rattle.vt_format.proofs.Levels.{handed_is}
use Rattle.vt_format.proofs.SectionLevel.{section_behind, section_left_out, section_missing, section_refused_here}
use Rattle.vt_format.proofs.Slices.{all_more, as_many_left, buckets_more, first_and_rest, is_empty, rest_long, written_back}
use Rattle.vt_format.proofs.index.+index_sections.Goals as goal

pub returns-in_default : goal.returns-in_default
returns-in_default g t c =
    let os = c.args.opened.now.items in
    let ns = c.index_filter.new.opened in
    let value : c.deref_mut.result.now ≡ os = c.deref_mut.ensures.value in
    let many : length ns ≡ length os =
    as_many_left g.P.Disk.Disk (length c.args.conf.now.arenas.items)
    c.index_filter.ensures.total c.index_filter.result c.deref_mut.result.now ns
    c.index_filter.ensures.left
    ∙ ap (λ (sections : List (SectionState g.row.P-Disk.Denot)). length sections) value in
    subst (λ (files : List PartFile). IndexesSections g.P.Disk.Disk (IsTrue g.P.Parts.tells)
    c.args.conf.now files (g.P.Parts.standing c.args.parts.now)
    (g.P.Parts.standing c.index_filter.new.parts) (g.P.Parts.faults c.args.parts.now)
    (g.P.Parts.faults c.index_filter.new.parts) os
    (take c.args.opened.now.len (ns ++ drop (length ns) os)) c.index_filter.result)
    (sym (is_empty c.args.files.now c.in_default.len_below))
    (subst (λ (olds : List (SectionState g.row.P-Disk.Denot)). IndexesSections g.P.Disk.Disk
    (IsTrue g.P.Parts.tells) c.args.conf.now [] (g.P.Parts.standing c.args.parts.now)
    (g.P.Parts.standing c.index_filter.new.parts) (g.P.Parts.faults c.args.parts.now)
    (g.P.Parts.faults c.index_filter.new.parts) olds
    (take c.args.opened.now.len (ns ++ drop (length ns) os)) c.index_filter.result)
    value
    (subst (λ (news : List (SectionState g.row.P-Disk.Denot)). IndexesSections g.P.Disk.Disk
    (IsTrue g.P.Parts.tells) c.args.conf.now [] (g.P.Parts.standing c.args.parts.now)
    (g.P.Parts.standing c.index_filter.new.parts) (g.P.Parts.faults c.args.parts.now)
    (g.P.Parts.faults c.index_filter.new.parts) c.deref_mut.result.now news
    c.index_filter.result)
    (sym (written_back c.args.opened.now.len os ns (omega (arith, c.args.opened.now.ok.0)) many))
    c.index_filter.ensures))

pub returns-in_default-part : goal.returns-in_default-part
returns-in_default-part g t c =
    let all = c.args.files.now in
    let file = c.file-item.result in
    let rest : List PartFile = take (length all - 1) (drop 1 all) in
    let number : ℕ = c.len.result + c.len-2.result in
    subst (λ (files : List PartFile). IndexesSections g.P.Disk.Disk (IsTrue g.P.Parts.tells)
    c.args.conf.now files (g.P.Parts.standing c.args.parts.now)
    (g.P.Parts.standing c.part.new.self) (g.P.Parts.faults c.args.parts.now)
    (g.P.Parts.faults c.part.new.self) c.args.opened.now.items c.args.opened.now.items
    (Err (Fault (Some number))))
    (sym (first_and_rest all file file c.in-len1-up.len_at_least c.file-item.is))
    (section_missing g.P.Disk.Disk (IsTrue g.P.Parts.tells) c.args.conf.now file rest number
    (g.P.Parts.standing c.args.parts.now) (g.P.Parts.faults c.args.parts.now)
    c.args.opened.now.items (omega (
      arith,
      c.len.ensures,
      c.len-2.ensures,
      c.args.conf.now.arenas.ok.0,
      c.args.opened.now.ok.0,
    ))
    (g.P.Parts.standing c.part.new.self) (g.P.Parts.faults c.part.new.self)
    c.in_default-part.ensures.stays c.in_default-part.ensures.others
    c.in_default-part.ensures.cause)

pub returns-in-Err : goal.returns-in-Err
returns-in-Err g t c =
    let all = c.args.files.now in
    let file = c.file-item.result in
    let rest : List PartFile = take (length all - 1) (drop 1 all) in
    let os = c.args.opened.now.items in
    let number : ℕ = c.len.result + c.len-2.result in
    let before : c.buckets_in.result ≡ total_buckets os = c.buckets_in.ensures
    ∙ ap (λ (sections : List (SectionState g.row.P-Disk.Denot)). total_buckets sections)
    c.deref.ensures.value in
    subst (λ (files : List PartFile). IndexesSections g.P.Disk.Disk (IsTrue g.P.Parts.tells)
    c.args.conf.now files (g.P.Parts.standing c.args.parts.now)
    (g.P.Parts.standing c.done.new.self) (g.P.Parts.faults c.args.parts.now)
    (g.P.Parts.faults c.done.new.self) os os (Err c.in-Err.bad))
    (sym (first_and_rest all file file c.in-len1-up.len_at_least c.file-item.is))
    (section_refused_here g.P.Disk.Disk (IsTrue g.P.Parts.tells) c.args.conf.now file rest number
    (g.P.Parts.standing c.args.parts.now) (g.P.Parts.faults c.args.parts.now) os
    (omega (
      arith,
      c.len.ensures,
      c.len-2.ensures,
      c.args.conf.now.arenas.ok.0,
      c.args.opened.now.ok.0,
    ))
    (g.P.Parts.standing c.part.new.self) (g.P.Parts.standing c.done.new.self)
    (g.P.Parts.faults c.part.new.self) (g.P.Parts.faults c.done.new.self)
    c.in-Ok.ensures.cause c.done.ensures.faults c.in-Ok.disk c.in-Err.disk
    (λ yes. record {
      was = handed_is g.P.Disk.Disk (g.P.Parts.standing c.args.parts.now file.name) c.in-Ok.disk
          (c.in-Ok.ensures.found yes);
      now = c.in-Ok.ensures.lent yes;
      handed = c.in-Ok.ensures.others yes;
      back = c.done.ensures.back yes;
      taken = c.done.ensures.others yes;
    })
    c.in-Err.bad c.in-Err.ensures.0
    (subst (λ (k : ℕ). RefusesDisk g.P.Disk.Disk number
    (RefusesSection g.P.Disk.Disk number k c.in-Ok.disk) c.in-Err.bad c.in-Ok.disk c.in-Err.disk)
    before c.in-Err.ensures.1))

pub returns-in-Err-push : goal.returns-in-Err-push
returns-in-Err-push g t c =
    let all = c.args.files.now in
    let file = c.file-item.result in
    let rest : List PartFile = take (length all - 1) (drop 1 all) in
    let os = c.args.opened.now.items in
    let o = c.in-Ok-open_section.section in
    let before : c.buckets_in.result ≡ total_buckets os = c.buckets_in.ensures
    ∙ ap (λ (sections : List (SectionState g.row.P-Disk.Denot)). total_buckets sections)
    c.deref.ensures.value in
    subst (λ (files : List PartFile). IndexesSections g.P.Disk.Disk (IsTrue g.P.Parts.tells)
    c.args.conf.now files (g.P.Parts.standing c.args.parts.now)
    (g.P.Parts.standing c.done-in-Err-push.new.self) (g.P.Parts.faults c.args.parts.now)
    (g.P.Parts.faults c.done-in-Err-push.new.self) os c.push.new.self.items
    (Err (Refused NoMemory)))
    (sym (first_and_rest all file file c.in-len1-up.len_at_least c.file-item.is))
    (subst (λ (news : List (SectionState g.row.P-Disk.Denot)). IndexesSections g.P.Disk.Disk
    (IsTrue g.P.Parts.tells) c.args.conf.now (file ∷ rest)
    (g.P.Parts.standing c.args.parts.now) (g.P.Parts.standing c.done-in-Err-push.new.self)
    (g.P.Parts.faults c.args.parts.now) (g.P.Parts.faults c.done-in-Err-push.new.self) os news
    (Err (Refused NoMemory)))
    (sym c.in-Err-push.ensures.items)
    (section_left_out g.P.Disk.Disk (IsTrue g.P.Parts.tells) c.args.conf.now file rest
    (length c.args.conf.now.arenas.items + length os)
    (g.P.Parts.standing c.args.parts.now) (g.P.Parts.faults c.args.parts.now) os (omega arith)
    (g.P.Parts.standing c.part.new.self) (g.P.Parts.standing c.done-in-Err-push.new.self)
    (g.P.Parts.faults c.part.new.self) (g.P.Parts.faults c.done-in-Err-push.new.self)
    c.in-Ok.ensures.cause c.done-in-Err-push.ensures.faults c.in-Ok.disk c.into_devices.result
    (λ yes. record {
      was = handed_is g.P.Disk.Disk (g.P.Parts.standing c.args.parts.now file.name) c.in-Ok.disk
          (c.in-Ok.ensures.found yes);
      now = c.in-Ok.ensures.lent yes;
      handed = c.in-Ok.ensures.others yes;
      back = c.done-in-Err-push.ensures.back yes;
      taken = c.done-in-Err-push.ensures.others yes;
    })
    o
    (subst (λ (k : ℕ). IsOpenedSection g.P.Disk.Disk k c.in-Ok.disk o) before
    c.in-Ok-open_section.ensures)
    (c.into_devices.ensures ∙ ap (λ (s : SectionState g.row.P-Disk.Denot). s.disk)
    c.in-Err-push.ensures.value_returned)))

pub index_sections-done-requires : goal.index_sections-done-requires
index_sections-done-requires g t c =
    let all = c.args.files.now in
    let os = c.args.opened.now.items in
    let o = c.in-Ok-open_section.section in
    let before : c.buckets_in.result ≡ total_buckets os = c.buckets_in.ensures
    ∙ ap (λ (sections : List (SectionState g.row.P-Disk.Denot)). total_buckets sections)
    c.deref.ensures.value in
    let opened : IsOpenedSection g.P.Disk.Disk c.buckets_in.result c.in-Ok.disk o =
    c.in-Ok-open_section.ensures in
    let more : c.push.new.self.items ≡ os ++ o ∷ [] = c.in_default-push.ensures.items in
    let long : length c.push.new.self.items ≡ length os + 1 =
    omega (arith, c.in_default-push.ensures.len, c.push.new.self.ok.0, c.args.opened.now.ok.0) in
    let rest : length (take (length all - 1) (drop 1 all)) ≡ length all - 1 = rest_long all in
    let some = c.in-len1-up.len_at_least in
    let many : length c.push.new.self.items + length (take (length all - 1) (drop 1 all))
    ≡ length c.args.conf.now.sections.items = omega (arith, long, rest, some, c.requires.many) in
    let few : total_buckets c.push.new.self.items ≤ MAX_BUCKETS =
    subst (λ (sections : List (SectionState g.row.P-Disk.Denot)). total_buckets sections
    ≤ MAX_BUCKETS) (sym more) (omega (arith, buckets_more os o, before, opened.few)) in
    let are : All (IsOpened g.P.Disk.Disk) c.push.new.self.items =
    subst (λ (sections : List (SectionState g.row.P-Disk.Denot)). All (IsOpened g.P.Disk.Disk)
    sections) (sym more)
    (all_more (IsOpened g.P.Disk.Disk) os o c.requires.opened opened.opened) in
    search rules

pub unreachable-requires : goal.unreachable-requires
unreachable-requires g t c =
    let left : length c.index_sections-done.new.opened.items ≡ length c.push.new.self.items =
    as_many_left g.P.Disk.Disk (length c.args.conf.now.arenas.items)
    c.index_sections-done.ensures.total c.index_sections-done.result
    c.push.new.self.items c.index_sections-done.new.opened.items
    c.index_sections-done.ensures.left in
    omega (
      arith,
      left,
      c.in_default-push.ensures.len,
      c.push.new.self.ok.0,
      c.args.opened.now.ok.0,
      c.index_sections-done.new.opened.ok.0,
      c.in_default-pop.ensures.cases.0,
    )

pub returns : goal.returns
returns g t c =
    let all = c.args.files.now in
    let file = c.file-item.result in
    let rest : List PartFile = take (length all - 1) (drop 1 all) in
    let os = c.args.opened.now.items in
    let o = c.in-Ok-open_section.section in
    let ns = c.pop.new.self.items in
    let n = c.in-Some.section in
    let before : c.buckets_in.result ≡ total_buckets os = c.buckets_in.ensures
    ∙ ap (λ (sections : List (SectionState g.row.P-Disk.Denot)). total_buckets sections)
    c.deref.ensures.value in
    subst (λ (files : List PartFile). IndexesSections g.P.Disk.Disk (IsTrue g.P.Parts.tells)
    c.args.conf.now files (g.P.Parts.standing c.args.parts.now)
    (g.P.Parts.standing c.done-2.new.self) (g.P.Parts.faults c.args.parts.now)
    (g.P.Parts.faults c.done-2.new.self) os ns c.index_sections-done.result)
    (sym (first_and_rest all file file c.in-len1-up.len_at_least c.file-item.is))
    (section_behind g.P.Disk.Disk (IsTrue g.P.Parts.tells) c.args.conf.now file rest
    (length c.args.conf.now.arenas.items + length os)
    (g.P.Parts.standing c.args.parts.now) (g.P.Parts.faults c.args.parts.now) os (omega arith)
    (g.P.Parts.standing c.part.new.self) (g.P.Parts.standing c.index_sections-done.new.parts)
    (g.P.Parts.standing c.done-2.new.self) (g.P.Parts.faults c.part.new.self)
    (g.P.Parts.faults c.index_sections-done.new.parts) (g.P.Parts.faults c.done-2.new.self)
    c.in-Ok.ensures.cause c.done-2.ensures.faults c.in-Ok.disk c.into_devices-2.result
    (λ yes. record {
      was = handed_is g.P.Disk.Disk (g.P.Parts.standing c.args.parts.now file.name) c.in-Ok.disk
          (c.in-Ok.ensures.found yes);
      now = c.in-Ok.ensures.lent yes;
      handed = c.in-Ok.ensures.others yes;
      back = c.done-2.ensures.back yes;
      taken = c.done-2.ensures.others yes;
    })
    o n ns
    (subst (λ (k : ℕ). IsOpenedSection g.P.Disk.Disk k c.in-Ok.disk o) before
    c.in-Ok-open_section.ensures)
    c.into_devices-2.ensures c.index_sections-done.result
    (subst (λ (olds : List (SectionState g.row.P-Disk.Denot)). IndexesSections g.P.Disk.Disk
    (IsTrue g.P.Parts.tells) c.args.conf.now rest (g.P.Parts.standing c.part.new.self)
    (g.P.Parts.standing c.index_sections-done.new.parts) (g.P.Parts.faults c.part.new.self)
    (g.P.Parts.faults c.index_sections-done.new.parts) olds (ns ++ n ∷ [])
    c.index_sections-done.result)
    c.in_default-push.ensures.items
    (subst (λ (news : List (SectionState g.row.P-Disk.Denot)). IndexesSections g.P.Disk.Disk
    (IsTrue g.P.Parts.tells) c.args.conf.now rest (g.P.Parts.standing c.part.new.self)
    (g.P.Parts.standing c.index_sections-done.new.parts) (g.P.Parts.faults c.part.new.self)
    (g.P.Parts.faults c.index_sections-done.new.parts) c.push.new.self.items news
    c.index_sections-done.result)
    c.in-Some.ensures.items c.index_sections-done.ensures)))
