use Rattle.std.proofs.Common.{replicate, refl}
use Rattle.vt_clump.specs.Spelling.{Stored, clump_bytes}
use Rattle.vt_clump.proofs.ReadBack.{packed_is}
use Rattle.vt_clump.proofs.packing.pack.Goals as goal

pub returns-clause-bytes : goal.returns-clause-bytes
unfolding clump_bytes
returns-clause-bytes c =
    let built = c.in_ok-extend_from_slice-2.ensures.items in
    let first = c.in_ok-extend_from_slice.ensures.items in
    rw (c.from_vec.ensures, built, first, c.in_ok-bytes.ensures.items, c.encode.ensures.bytes) refl

pub returns-clause-packed : goal.returns-clause-packed
returns-clause-packed c score_of scored =
    let s : Stored = record { kind = c.args.kind; score = c.args.score.0; creator = replicate 4 0; time = c.args.time; block = c.args.block.now } in
    packed_is score_of s _
    (record { kind = c.encode.ensures.kind; scored = scored; score_len = c.encode.ensures.score; creator_len = refl; time = c.ranges.time.fits; some = c.requires.some; most = c.requires.most })
    (returns-clause-bytes c) refl refl refl
