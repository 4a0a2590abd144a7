use Rattle.std.proofs.Common.{◌≡◌, inr, ◌+◌, true, false, min, length, IsTrue, List, [], ◌∷◌, ◌++◌, ◌∙◌, ap, arith}
use Rattle.std.specs.Prelude.{Some, is_ok}
use Rattle.std.proofs.lemmas.Grind.{common_steps}
use Rattle.vt_disk.specs.Disk.{part}
use Rattle.vt_host.specs.Calls.{FileCall, measured, read}
use Rattle.vt_host.specs.Held.{StaysHeld}
use Rattle.vt_host.specs.Opening.{file_opening}
use Rattle.vt_host.proofs.ToldFiles.{front_read}
use Rattle.vt_host.proofs.files.read_front.Goals as goal

-- the calls of a file that was measured and then read
two_calls : {F : Type 0} (made : F → List FileCall) (file between last : F) (first second : FileCall)
    → made file ≡ [] → made between ≡ made file ++ first ∷ []
    → made last ≡ made between ++ second ∷ [] → made last ≡ first ∷ second ∷ []
two_calls made file between last first second none one two = two
    ∙ ap (λ (l : List FileCall). l ++ second ∷ []) (one ∙ ap (λ (l : List FileCall). l ++ first ∷ []) none)

pub returns-then-is_err-clause-failed : goal.returns-then-is_err-clause-failed
returns-then-is_err-clause-failed g c tells =
    let opener = g.O.Opener in
    let made = g.O.File.FileCalls.made in
    let opened : opener.opened c.«open».new.self
    ≡ opener.opened c.args.files.now ++ file_opening c.args.name.now true ∷ [] = grind (arith, common_steps) in
    let failed : is_ok c.read_at.result ≡ false = grind (arith, common_steps) in
    let calls = two_calls made c.in-Ok-open.file c.measure.new.self c.read_at.new.self
    (measured (Some c.in-Ok-measure.len)) (read 0 c.read_at.new.buf (is_ok c.read_at.result))
    (c.in-Ok-open.ensures.untouched tells) (c.in-Ok-measure.ensures.noted tells)
    (c.read_at.ensures.noted tells) in
    inr (inr (
      opened,
      (
        c.read_at.new.self,
        inr (
          c.in-Ok-measure.len,
          c.read_at.new.buf,
          calls
              ∙ ap (λ ok. let last : FileCall = read 0 c.read_at.new.buf ok in
              measured (Some c.in-Ok-measure.len) ∷ last ∷ []) failed,
        ),
      ),
    ))

pub returns-clause-made : goal.returns-clause-made
returns-clause-made g c tells =
    let made = g.O.File.FileCalls.made in
    let calls = two_calls made c.in-Ok-open.file c.measure.new.self c.read_at.new.self
    (measured (Some c.in-Ok-measure.len)) (read 0 c.read_at.new.buf (is_ok c.read_at.result))
    (c.in-Ok-open.ensures.untouched tells) (c.in-Ok-measure.ensures.noted tells)
    (c.read_at.ensures.noted tells) in
    let last : read 0 c.read_at.new.buf (is_ok c.read_at.result) ≡ read 0 c.from_vec.result true
    = grind (arith, common_steps) in
    let long : length c.from_vec.result ≡ min c.in-Ok-measure.len (c.args.limit + 1) = grind (arith, common_steps) in (c.read_at.new.self, (c.in-Ok-measure.len, long, calls ∙ ap (λ (call : FileCall). measured (Some c.in-Ok-measure.len) ∷ call ∷ []) last))

pub returns-clause-content : goal.returns-clause-content
returns-clause-content g c tells still =
    let opener = g.O.Opener in
    let file = g.O.File.FileCalls in
    let stood = opener.holds c.args.name.now in
    let opened = file.bytes c.in-Ok-open.file in
    let stands : stood ≡ Some opened = grind (arith, common_steps) in
    let kept : IsTrue (file.kept c.in-Ok-open.file) = grind (arith, common_steps) in
    let held = c.measure.ensures.stays tells kept in
    let alone : IsTrue (file.kept c.measure.new.self) = StaysHeld.alone held in
    let again = c.read_at.ensures.stays tells alone in
    let long : c.in-Ok-measure.len ≡ length (file.bytes c.measure.new.self) = grind (arith, common_steps) in
    let is : c.from_vec.result ≡ part 0 (min c.in-Ok-measure.len (c.args.limit + 1)) (file.bytes c.read_at.new.self)
    = grind (arith, common_steps) in
    front_read stood opened (file.bytes c.measure.new.self) (file.bytes c.read_at.new.self)
    c.from_vec.result c.in-Ok-measure.len (c.args.limit + 1) stands (StaysHeld.bytes held) long
    (StaysHeld.bytes again) is
