use Rattle.std.proofs.Common.{◌≡◌, ◌∙◌, sym, ap, rules}
use Rattle.vt_base.specs.Bytes.{AreBytes}
use Rattle.vt_clump.specs.Spelling.{Stored}
use Rattle.vt_clump.proofs.ReadBack.{begins_stored}
use Rattle.vt_check.specs.Checking.{entry_damage}
use Rattle.vt_check.proofs.Following.{sound_as}
use Rattle.vt_check.proofs.clumps.test_clump.Goals as goal

pub returns-in-Some : goal.returns-in-Some
returns-in-Some g c =
    let score = g.S.Scorer.score_of in
    let read = c.in-Ok.ensures.read in
    let are : AreBytes c.args.bytes.now = search rules in (
      sound_as score c.args.bytes.now are c.in-Ok.ensures.refused,
      ap (λ (s : Stored). entry_damage s c.args.entry.now) (begins_stored score read.0 c.args.bytes.now read.1) ∙ sym (c.test_entry.ensures read.0 read.2) ∙ c.in-Some.is,
    )

pub returns : goal.returns
returns g c =
    let score = g.S.Scorer.score_of in
    let read = c.in-Ok.ensures.read in
    let are : AreBytes c.args.bytes.now = search rules in (
      sound_as score c.args.bytes.now are c.in-Ok.ensures.refused,
      ap (λ (s : Stored). entry_damage s c.args.entry.now) (begins_stored score read.0 c.args.bytes.now read.1) ∙ sym (c.test_entry.ensures read.0 read.2) ∙ c.in-None.is,
    )
