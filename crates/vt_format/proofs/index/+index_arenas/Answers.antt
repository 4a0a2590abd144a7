use Rattle.std.proofs.Common.{◌≡◌, ◌∙◌, ℕ, ◌+◌, ◌-◌, ◌≤◌, List, [], ◌∷◌, ◌++◌, Err, Some, length, take, drop, sym, ap, subst, arith, rules}
use Rattle.std.specs.Prelude.{All, IsTrue}
use Rattle.vt_base.specs.declared.mount.MountBad.TheVariants.{NoMemory}
use Rattle.vt_conf.specs.declared.conf.PartFile.{PartFile}
use Rattle.vt_log.specs.Logs.{arena_count}
use Rattle.vt_part.specs.declared.part.Part.{Part}
use Rattle.vt_part.specs.Parts.{disk_of, table_of, tables_of}
use Rattle.vt_part.specs.Table.{arenas_end}
use Rattle.vt_format.specs.declared.index.IndexError.TheVariants.{Fault, Refused}
use Rattle.vt_format.specs.declared.TheConstants.{MAX_ARENAS}
use Rattle.vt_format.specs.Index.{IndexesArenas}
use Rattle.vt_format.specs.Opening.{IsOpenedAs, RefusesArenaPart, RefusesDisk}
use Rattle.vt_format.proofs.ArenaLevel.{arenas_behind, arenas_left_out, arenas_missing, arenas_refused_here}
use Rattle.vt_format.proofs.Levels.{handed_is}
use Rattle.vt_format.proofs.Slices.{all_more, arenas_more, first_and_rest, rest_long}
use Rattle.vt_format.proofs.index.+index_arenas.Goals as goal

pub returns-in_default-part : goal.returns-in_default-part
returns-in_default-part g t c =
    let all = c.args.files.now in
    let file = c.file-item.result in
    let rest : List PartFile = take (length all - 1) (drop 1 all) in
    subst (λ (files : List PartFile). IndexesArenas g.P.Disk.Disk (IsTrue g.P.Parts.tells)
    c.args.conf.now files (g.P.Parts.standing c.args.parts.now)
    (g.P.Parts.standing c.part.new.self) (g.P.Parts.faults c.args.parts.now)
    (g.P.Parts.faults c.part.new.self) c.args.opened.items c.args.opened.items
    (Err (Fault (Some c.len-number.result))))
    (sym (first_and_rest all file file c.in-len1-up.len_at_least c.file-item.is))
    (arenas_missing g.P.Disk.Disk (IsTrue g.P.Parts.tells) c.args.conf.now file rest
    (g.P.Parts.standing c.args.parts.now) (g.P.Parts.faults c.args.parts.now)
    c.args.opened.items c.len-number.result
    (omega (arith, c.len-number.ensures, c.args.opened.ok.0))
    (g.P.Parts.standing c.part.new.self) (g.P.Parts.faults c.part.new.self)
    c.in_default-part.ensures.stays c.in_default-part.ensures.others
    c.in_default-part.ensures.cause)

pub returns-in-Err : goal.returns-in-Err
returns-in-Err g t c =
    let all = c.args.files.now in
    let file = c.file-item.result in
    let rest : List PartFile = take (length all - 1) (drop 1 all) in
    let ps = c.args.opened.items in
    let before : c.arenas_in.result ≡ arena_count (tables_of ps) = c.arenas_in.ensures
    ∙ ap (λ (parts : List (Part g.row.P-Disk.Denot)). arena_count (tables_of parts))
    c.deref.ensures.value in
    subst (λ (files : List PartFile). IndexesArenas g.P.Disk.Disk (IsTrue g.P.Parts.tells)
    c.args.conf.now files (g.P.Parts.standing c.args.parts.now)
    (g.P.Parts.standing c.done.new.self) (g.P.Parts.faults c.args.parts.now)
    (g.P.Parts.faults c.done.new.self) ps ps (Err c.in-Err.bad))
    (sym (first_and_rest all file file c.in-len1-up.len_at_least c.file-item.is))
    (arenas_refused_here g.P.Disk.Disk (IsTrue g.P.Parts.tells) c.args.conf.now file rest
    (g.P.Parts.standing c.args.parts.now) (g.P.Parts.faults c.args.parts.now) ps
    c.len-number.result (omega (arith, c.len-number.ensures, c.args.opened.ok.0))
    (g.P.Parts.standing c.part.new.self) (g.P.Parts.standing c.done.new.self)
    (g.P.Parts.faults c.part.new.self) (g.P.Parts.faults c.done.new.self)
    c.in-Ok.ensures.cause c.done.ensures.faults c.in-Ok.disk c.in-Err.disk
    (λ yes. record {
      was = handed_is g.P.Disk.Disk (g.P.Parts.standing c.args.parts.now file.name) c.in-Ok.disk
          (c.in-Ok.ensures.found yes);
      now = c.in-Ok.ensures.lent yes;
      handed = c.in-Ok.ensures.others yes;
      back = c.done.ensures.back yes;
      taken = c.done.ensures.others yes;
    })
    c.in-Err.bad c.in-Err.ensures.0
    (subst (λ (k : ℕ). RefusesDisk g.P.Disk.Disk c.len-number.result
    (RefusesArenaPart g.P.Disk.Disk c.len-number.result k c.in-Ok.disk) c.in-Err.bad c.in-Ok.disk
    c.in-Err.disk) before c.in-Err.ensures.1))

pub returns-in-Err-push : goal.returns-in-Err-push
returns-in-Err-push g t c =
    let all = c.args.files.now in
    let file = c.file-item.result in
    let rest : List PartFile = take (length all - 1) (drop 1 all) in
    let ps = c.args.opened.items in
    let p = c.in-Ok-open_arenas.part in
    let before : c.arenas_in.result ≡ arena_count (tables_of ps) = c.arenas_in.ensures
    ∙ ap (λ (parts : List (Part g.row.P-Disk.Denot)). arena_count (tables_of parts))
    c.deref.ensures.value in
    subst (λ (files : List PartFile). IndexesArenas g.P.Disk.Disk (IsTrue g.P.Parts.tells)
    c.args.conf.now files (g.P.Parts.standing c.args.parts.now)
    (g.P.Parts.standing c.done-in-Err-push.new.self) (g.P.Parts.faults c.args.parts.now)
    (g.P.Parts.faults c.done-in-Err-push.new.self) ps c.push.new.self.items
    (Err (Refused NoMemory)))
    (sym (first_and_rest all file file c.in-len1-up.len_at_least c.file-item.is))
    (subst (λ (news : List (Part g.row.P-Disk.Denot)). IndexesArenas g.P.Disk.Disk
    (IsTrue g.P.Parts.tells) c.args.conf.now (file ∷ rest)
    (g.P.Parts.standing c.args.parts.now) (g.P.Parts.standing c.done-in-Err-push.new.self)
    (g.P.Parts.faults c.args.parts.now) (g.P.Parts.faults c.done-in-Err-push.new.self) ps news
    (Err (Refused NoMemory)))
    (sym c.in-Err-push.ensures.items)
    (arenas_left_out g.P.Disk.Disk (IsTrue g.P.Parts.tells) c.args.conf.now file rest
    (g.P.Parts.standing c.args.parts.now) (g.P.Parts.faults c.args.parts.now) ps
    c.len-number.result (omega (arith, c.len-number.ensures, c.args.opened.ok.0))
    (g.P.Parts.standing c.part.new.self) (g.P.Parts.standing c.done-in-Err-push.new.self)
    (g.P.Parts.faults c.part.new.self) (g.P.Parts.faults c.done-in-Err-push.new.self)
    c.in-Ok.ensures.cause c.done-in-Err-push.ensures.faults c.in-Ok.disk c.into_devices.result
    (λ yes. record {
      was = handed_is g.P.Disk.Disk (g.P.Parts.standing c.args.parts.now file.name) c.in-Ok.disk
          (c.in-Ok.ensures.found yes);
      now = c.in-Ok.ensures.lent yes;
      handed = c.in-Ok.ensures.others yes;
      back = c.done-in-Err-push.ensures.back yes;
      taken = c.done-in-Err-push.ensures.others yes;
    })
    p
    (subst (λ (k : ℕ). IsOpenedAs g.P.Disk.Disk k c.in-Ok.disk p) before
    c.in-Ok-open_arenas.ensures)
    (c.into_devices.ensures ∙ ap (λ (q : Part g.row.P-Disk.Denot). disk_of q)
    c.in-Err-push.ensures.value_returned)))

pub index_arenas-opened-requires : goal.index_arenas-opened-requires
index_arenas-opened-requires g t c =
    let all = c.args.files.now in
    let ps = c.args.opened.items in
    let p = c.in-Ok-open_arenas.part in
    let before : c.arenas_in.result ≡ arena_count (tables_of ps) = c.arenas_in.ensures
    ∙ ap (λ (parts : List (Part g.row.P-Disk.Denot)). arena_count (tables_of parts))
    c.deref.ensures.value in
    let opened : IsOpenedAs g.P.Disk.Disk c.arenas_in.result c.in-Ok.disk p =
    c.in-Ok-open_arenas.ensures in
    let more : c.push.new.self.items ≡ ps ++ p ∷ [] = c.in_default-push.ensures.items in
    let long : length c.push.new.self.items ≡ length ps + 1 =
    omega (arith, c.in_default-push.ensures.len, c.push.new.self.ok.0, c.args.opened.ok.0) in
    let rest : length (take (length all - 1) (drop 1 all)) ≡ length all - 1 = rest_long all in
    let some = c.in-len1-up.len_at_least in
    let many : length c.push.new.self.items + length (take (length all - 1) (drop 1 all))
    ≡ length c.args.conf.now.arenas.items = omega (arith, long, rest, some, c.requires.many) in
    let few : arena_count (tables_of c.push.new.self.items) ≤ MAX_ARENAS =
    subst (λ (parts : List (Part g.row.P-Disk.Denot)). arena_count (tables_of parts)
    ≤ MAX_ARENAS) (sym more) (omega (arith, arenas_more ps p, before, opened.few)) in
    let rooms : All (λ part. arenas_end (table_of part) ≤ g.P.Disk.Disk.size (disk_of part))
    c.push.new.self.items =
    subst (λ (parts : List (Part g.row.P-Disk.Denot)). All (λ part. arenas_end (table_of part)
    ≤ g.P.Disk.Disk.size (disk_of part)) parts) (sym more)
    (all_more (λ part. arenas_end (table_of part) ≤ g.P.Disk.Disk.size (disk_of part)) ps p
    c.requires.rooms opened.room) in
    search rules

pub returns : goal.returns
returns g t c =
    let all = c.args.files.now in
    let file = c.file-item.result in
    let rest : List PartFile = take (length all - 1) (drop 1 all) in
    let ps = c.args.opened.items in
    let p = c.in-Ok-open_arenas.part in
    let qs = c.pop.new.self.items in
    let q = c.in-Some.part in
    let before : c.arenas_in.result ≡ arena_count (tables_of ps) = c.arenas_in.ensures
    ∙ ap (λ (parts : List (Part g.row.P-Disk.Denot)). arena_count (tables_of parts))
    c.deref.ensures.value in
    subst (λ (files : List PartFile). IndexesArenas g.P.Disk.Disk (IsTrue g.P.Parts.tells)
    c.args.conf.now files (g.P.Parts.standing c.args.parts.now)
    (g.P.Parts.standing c.done-2.new.self) (g.P.Parts.faults c.args.parts.now)
    (g.P.Parts.faults c.done-2.new.self) ps qs c.index_arenas-opened.result.1)
    (sym (first_and_rest all file file c.in-len1-up.len_at_least c.file-item.is))
    (arenas_behind g.P.Disk.Disk (IsTrue g.P.Parts.tells) c.args.conf.now file rest
    (g.P.Parts.standing c.args.parts.now) (g.P.Parts.faults c.args.parts.now) ps
    c.len-number.result (omega (arith, c.len-number.ensures, c.args.opened.ok.0))
    (g.P.Parts.standing c.part.new.self) (g.P.Parts.standing c.index_arenas-opened.new.parts)
    (g.P.Parts.standing c.done-2.new.self) (g.P.Parts.faults c.part.new.self)
    (g.P.Parts.faults c.index_arenas-opened.new.parts) (g.P.Parts.faults c.done-2.new.self)
    c.in-Ok.ensures.cause c.done-2.ensures.faults c.in-Ok.disk c.into_devices-2.result
    (λ yes. record {
      was = handed_is g.P.Disk.Disk (g.P.Parts.standing c.args.parts.now file.name) c.in-Ok.disk
          (c.in-Ok.ensures.found yes);
      now = c.in-Ok.ensures.lent yes;
      handed = c.in-Ok.ensures.others yes;
      back = c.done-2.ensures.back yes;
      taken = c.done-2.ensures.others yes;
    })
    p q qs
    (subst (λ (k : ℕ). IsOpenedAs g.P.Disk.Disk k c.in-Ok.disk p) before
    c.in-Ok-open_arenas.ensures)
    c.into_devices-2.ensures c.index_arenas-opened.result.1
    (subst (λ (olds : List (Part g.row.P-Disk.Denot)). IndexesArenas g.P.Disk.Disk
    (IsTrue g.P.Parts.tells) c.args.conf.now rest (g.P.Parts.standing c.part.new.self)
    (g.P.Parts.standing c.index_arenas-opened.new.parts) (g.P.Parts.faults c.part.new.self)
    (g.P.Parts.faults c.index_arenas-opened.new.parts) olds (qs ++ q ∷ [])
    c.index_arenas-opened.result.1)
    c.in_default-push.ensures.items
    (subst (λ (news : List (Part g.row.P-Disk.Denot)). IndexesArenas g.P.Disk.Disk
    (IsTrue g.P.Parts.tells) c.args.conf.now rest (g.P.Parts.standing c.part.new.self)
    (g.P.Parts.standing c.index_arenas-opened.new.parts) (g.P.Parts.faults c.part.new.self)
    (g.P.Parts.faults c.index_arenas-opened.new.parts) c.push.new.self.items news
    c.index_arenas-opened.result.1)
    c.in-Some.ensures.items c.index_arenas-opened.ensures)))
