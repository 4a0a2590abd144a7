use Rattle.std.proofs.Common.{◌≡◌, ◌≤◌, List, inr, length, refl, ap, arith, subst}
use Rattle.std.specs.Prelude.{IfSome}
use Rattle.vt_conf.specs.declared.setting.Setting.{Setting}
use Rattle.vt_conf.specs.Configuration.{said}
use Rattle.vt_conf.specs.Keywords.{most_lines}
use Rattle.vt_conf.specs.Lines.{words_of_line}
use Rattle.vt_conf.specs.Settings.{IsSettingRead}
use Rattle.vt_conf.proofs.parsing.add_line.Goals as goal

pub returns-then-count-room-clause-bad : goal.returns-then-count-room-clause-bad
returns-then-count-room-clause-bad c =
    let keyword = c.in-Ok-Some.read.0 in
    let setting : Setting = record { keyword = keyword; value = c.in-Ok-Some.read.1.now; line = c.args.number } in
    let read : IsSettingRead (words_of_line c.args.line.now) keyword c.in-Ok-Some.read.1.now =
    subst (λ o. IfSome o (λ s. IsSettingRead (words_of_line c.args.line.now) s.0 s.1.now)) c.in-Ok-Some.field-0-is c.in-Ok-Some.ensures.some in
    let many : length (said keyword c.deref.result.now) ≡ length (said keyword c.args.settings.now.items) =
    ap (λ (l : List Setting). length (said keyword l)) c.deref.ensures.value in
    let full : most_lines keyword ≤ length (said keyword c.args.settings.now.items) =
    omega (arith, many, c.count.ensures, c.room.ensures, c.if-count-room.true) in
    record {
      line_is = refl;
      refused = inr (setting, record { read = read; line = refl }, record { why_is = c.exceeded-why.ensures; full = full });
    }
