use Rattle.std.proofs.Common.{◌≡◌, ◌∙◌, ℕ, ◌+◌, length, refl, ap, subst, arith}
use Rattle.std.specs.Prelude.{IfErr, IsTrue}
use Rattle.vt_partitions.specs.Parts.{there}
use Rattle.vt_format.specs.Index.{IsStoppedAmong, LeavesOpened}
use Rattle.vt_format.specs.Usage.{total_buckets}
use Rattle.vt_format.proofs.FilterLevel.{filter_behind, filter_missing, filter_none, filter_refused_here}
use Rattle.vt_format.proofs.Levels.{handed_is}
use Rattle.vt_format.proofs.index.index_filter.Goals as goal

pub returns-in_default : goal.returns-in_default
returns-in_default g c =
    let behind : c.len-behind.result ≡ length c.args.conf.now.arenas.items =
    omega (arith, c.len-behind.ensures, c.args.conf.now.arenas.ok.0) in
    filter_none g.P.Disk.Disk (IsTrue g.P.Parts.tells) c.args.conf.now
    (length c.args.conf.now.arenas.items + length c.args.opened.now)
    (g.P.Parts.standing c.args.parts.now) (g.P.Parts.faults c.args.parts.now) c.args.opened.now
    refl c.index_opened.new.opened c.index_opened.result c.requires.many
    c.index_opened.ensures.total c.index_opened.ensures.sections
    (subst (λ (k : ℕ). IfErr c.index_opened.result (IsStoppedAmong k (length c.args.opened.now)))
    behind c.index_opened.ensures.stopped)
    (subst (λ (k : ℕ). LeavesOpened g.P.Disk.Disk k (total_buckets c.args.opened.now) c.index_opened.result c.args.opened.now
    c.index_opened.new.opened) behind c.index_opened.ensures.left)
    c.in_default.is

pub returns-in_default-part : goal.returns-in_default-part
returns-in_default-part g c =
    filter_missing g.P.Disk.Disk (IsTrue g.P.Parts.tells) c.args.conf.now
    (c.len-behind.result + length c.args.opened.now)
    (g.P.Parts.standing c.args.parts.now) (g.P.Parts.faults c.args.parts.now) c.args.opened.now
    (omega (arith, c.len-behind.ensures, c.args.conf.now.arenas.ok.0))
    c.in-Some.file (g.P.Parts.standing c.part.new.self) (g.P.Parts.faults c.part.new.self)
    c.in-Some.is c.in_default-part.ensures.stays c.in_default-part.ensures.others
    c.in_default-part.ensures.cause

pub returns-in-Ok-open_filter : goal.returns-in-Ok-open_filter
returns-in-Ok-open_filter g c =
    let behind : c.len-behind.result ≡ length c.args.conf.now.arenas.items =
    omega (arith, c.len-behind.ensures, c.args.conf.now.arenas.ok.0) in
    filter_behind g.P.Disk.Disk (IsTrue g.P.Parts.tells) c.args.conf.now
    (length c.args.conf.now.arenas.items + length c.args.opened.now)
    (g.P.Parts.standing c.args.parts.now) (g.P.Parts.faults c.args.parts.now) c.args.opened.now
    refl c.index_opened-done.new.opened c.index_opened-done.result c.requires.many
    c.index_opened-done.ensures.total c.index_opened-done.ensures.sections
    (subst (λ (k : ℕ). IfErr c.index_opened-done.result
    (IsStoppedAmong k (length c.args.opened.now))) behind c.index_opened-done.ensures.stopped)
    (subst (λ (k : ℕ). LeavesOpened g.P.Disk.Disk k (total_buckets c.args.opened.now) c.index_opened-done.result c.args.opened.now
    c.index_opened-done.new.opened) behind c.index_opened-done.ensures.left)
    c.in-Some.file (g.P.Parts.standing c.part.new.self) (g.P.Parts.standing c.done.new.self)
    (g.P.Parts.faults c.part.new.self) (g.P.Parts.faults c.done.new.self) c.in-Ok.disk
    c.in-Ok-open_filter.filter.disk c.in-Some.is c.in-Ok.ensures.cause c.done.ensures.faults
    (λ yes. record {
      was = handed_is g.P.Disk.Disk (g.P.Parts.standing c.args.parts.now c.in-Some.file.name)
          c.in-Ok.disk (c.in-Ok.ensures.found yes);
      now = c.in-Ok.ensures.lent yes;
      handed = c.in-Ok.ensures.others yes;
      back = λ lent. c.done.ensures.back yes lent ∙ ap there c.into_devices.ensures;
      taken = c.done.ensures.others yes;
    })
    c.in-Ok-open_filter.ensures.0 c.in-Ok-open_filter.ensures.1 c.in-Ok-open_filter.ensures.2

pub returns-in-Err : goal.returns-in-Err
returns-in-Err g c =
    filter_refused_here g.P.Disk.Disk (IsTrue g.P.Parts.tells) c.args.conf.now
    (c.len-behind.result + length c.args.opened.now)
    (g.P.Parts.standing c.args.parts.now) (g.P.Parts.faults c.args.parts.now) c.args.opened.now
    (omega (arith, c.len-behind.ensures, c.args.conf.now.arenas.ok.0))
    c.in-Some.file (g.P.Parts.standing c.part.new.self)
    (g.P.Parts.standing c.done-in-Err.new.self) (g.P.Parts.faults c.part.new.self)
    (g.P.Parts.faults c.done-in-Err.new.self) c.in-Ok.ensures.cause
    c.done-in-Err.ensures.faults c.in-Ok.disk c.in-Err.disk c.in-Some.is
    (λ yes. record {
      was = handed_is g.P.Disk.Disk (g.P.Parts.standing c.args.parts.now c.in-Some.file.name)
          c.in-Ok.disk (c.in-Ok.ensures.found yes);
      now = c.in-Ok.ensures.lent yes;
      handed = c.in-Ok.ensures.others yes;
      back = c.done-in-Err.ensures.back yes;
      taken = c.done-in-Err.ensures.others yes;
    })
    c.in-Err.bad c.in-Err.ensures.0 c.in-Err.ensures.1
