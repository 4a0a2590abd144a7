use Rattle.std.proofs.Common.{◌≡◌, ℕ, List, Result, sym, subst}
use Rattle.vt_tree.specs.declared.entry.Entry.{Entry}
use Rattle.vt_tree.specs.declared.error.TreeErr.{TreeErr}
use Rattle.vt_tree.specs.Calls.{Call}
use Rattle.vac_read.specs.declared.last_way.WayBlock.{WayBlock}
use Rattle.vac_read.specs.LastWay.{ReadsOnWay}
use Rattle.vac_read.proofs.OnWay.{content_on_way, short_on, stays_there, told_on}
use Rattle.vac_read.proofs.last_way.range_on_way.Goals as goal

-- what was lent comes back as it was left
come_back : {S : Type 0} (does : S → Call → S → Type 0) (score_of : List ℕ → List ℕ) (s left back : S)
    (old behind way : List WayBlock) (e : Entry) (at len : ℕ) (result : Result (List ℕ) TreeErr)
    → ReadsOnWay does score_of s left old behind e at len result → back ≡ left → way ≡ behind
    → ReadsOnWay does score_of s back old way e at len result
come_back {S} does score_of s left back old behind way e at len result reads same same_way =
    subst (λ (x : S). ReadsOnWay does score_of s x old way e at len result) (sym same)
    (subst (λ (x : List WayBlock). ReadsOnWay does score_of s left old x e at len result)
    (sym same_way) reads)

pub returns-then-on-clause-reads : goal.returns-then-on-clause-reads
returns-then-on-clause-reads g c =
    let reads = c.read_range-read.ensures.reads in
    let stays = stays_there g.B.Blocks.does _ _ reads.calls reads.made in
    come_back g.B.Blocks.does g.B.Scorer.score_of _ _ _ _ _ _ _ _ _ _
    (short_on g.B.Blocks.does g.B.Scorer.score_of _ _ _ _ _ _ reads c.if-on.true)
    (c.blocks-1.given.1 (sym stays.0)) (c.way-1.given.1 (sym stays.1))

pub returns-then-on-clause-content : goal.returns-then-on-clause-content
returns-then-on-clause-content g c =
    let reads = c.read_range-read.ensures.reads in
    let stays = stays_there g.B.Blocks.does _ _ reads.calls reads.made in
    content_on_way g.B.Blocks.does g.B.Blocks.holds g.B.Scorer.score_of g.met.B.Blocks.tells
    g.met.B.Blocks.write_once _ _ _ _ _ _ _ _
    (come_back g.B.Blocks.does g.B.Scorer.score_of _ _ _ _ _ _ _ _ _ _
    (short_on g.B.Blocks.does g.B.Scorer.score_of _ _ _ _ _ _ reads c.if-on.true)
    (c.blocks-1.given.1 (sym stays.0)) (c.way-1.given.1 (sym stays.1)))

pub returns-clause-reads : goal.returns-clause-reads
returns-clause-reads g c =
    let reads = c.read_range-read.ensures.reads in
    let stays = stays_there g.B.Blocks.does _ _ reads.calls reads.made in
    come_back g.B.Blocks.does g.B.Scorer.score_of _ _ _ _ _ _ _ _ _ _
    (told_on g.B.Blocks.does g.B.Scorer.score_of _ _ _ _ _ _ reads c.if-on.false)
    (c.blocks-1.given.1 (sym stays.0)) (c.way-1.given.1 (sym stays.1))

pub returns-clause-content : goal.returns-clause-content
returns-clause-content g c =
    let reads = c.read_range-read.ensures.reads in
    let stays = stays_there g.B.Blocks.does _ _ reads.calls reads.made in
    content_on_way g.B.Blocks.does g.B.Blocks.holds g.B.Scorer.score_of g.met.B.Blocks.tells
    g.met.B.Blocks.write_once _ _ _ _ _ _ _ _
    (come_back g.B.Blocks.does g.B.Scorer.score_of _ _ _ _ _ _ _ _ _ _
    (told_on g.B.Blocks.does g.B.Scorer.score_of _ _ _ _ _ _ reads c.if-on.false)
    (c.blocks-1.given.1 (sym stays.0)) (c.way-1.given.1 (sym stays.1)))
