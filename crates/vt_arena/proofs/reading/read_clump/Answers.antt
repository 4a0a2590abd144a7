use Rattle.std.proofs.Common.{◌≡◌, ◌+◌, ◌-◌, min, ℕ, List, length, take, drop, ◌∙◌, ap, arith}
use Rattle.std.specs.List.{copy_within}
use Rattle.vt_disk.specs.Disk.{part}
use Rattle.vt_clump.specs.Spelling.{size_in}
use Rattle.vt_arena.specs.Reading.{header_at}
use Rattle.vt_arena.proofs.Clumps.{clump_read, header_read, header_then_block, moved_front}
use Rattle.vt_arena.proofs.reading.read_clump.Goals as goal

pub returns-in_err-block-clause-once : goal.returns-in_err-block-clause-once
returns-in_err-block-clause-once g c told few =
    let head : c.header_of-header.result ≡ header_at c.args.region c.args.offset (g.D.Disk.bytes c.args.disk.now) =
    c.header_of-header.ensures.header
    ∙ ap (λ (l : List ℕ). take 38 l) c.deref.ensures.value
    ∙ header_read c.args.region c.args.offset c.args.size c.in_ok-bytes.bytes.items _ c.requires.header (c.in_ok-bytes.ensures.read told) in
    absurd (omega (arith, c.if-len-size.true, c.block_len-len.ensures, ap size_in head, few))

pub returns-then-len-size-clause-once : goal.returns-then-len-size-clause-once
returns-then-len-size-clause-once g c told few =
    let head : c.header_of-header.result ≡ header_at c.args.region c.args.offset (g.D.Disk.bytes c.args.disk.now) =
    c.header_of-header.ensures.header
    ∙ ap (λ (l : List ℕ). take 38 l) c.deref.ensures.value
    ∙ header_read c.args.region c.args.offset c.args.size c.in_ok-bytes.bytes.items _ c.requires.header (c.in_ok-bytes.ensures.read told) in
    absurd (omega (arith, c.if-len-size.true, c.block_len-len.ensures, ap size_in head, few))

pub returns-then-len-size-clause-read : goal.returns-then-len-size-clause-read
returns-then-len-size-clause-read g c told =
    let at : ℕ = c.args.region.start + (c.args.offset + 38) in
    let room : ℕ = c.args.region.len - (c.args.offset + 38) in
    header_then_block c.args.region c.args.offset c.header_of-header.result c.from_vec.result (g.D.Disk.bytes c.args.disk.now) c.requires.header
    (c.header_of-header.ensures.header
    ∙ ap (λ (l : List ℕ). take 38 l) c.deref.ensures.value
    ∙ header_read c.args.region c.args.offset c.args.size c.in_ok-bytes.bytes.items _ c.requires.header (c.in_ok-bytes.ensures.read told))
    (c.from_vec.ensures ∙ c.in_ok-block.ensures.read told
    ∙ (λ i. part at (min (c.block_len-len.ensures i) room) (c.in_ok-bytes.ensures.reads.bytes i)))

pub returns-clause-read : goal.returns-clause-read
returns-clause-read g c told =
    let bytes : List ℕ = c.in_ok-bytes.bytes.items in
    let len : c.in_ok-bytes.bytes.len ≡ length bytes = omega arith in
    let there : length bytes - 38 ≡ min c.args.size (c.args.region.len - (c.args.offset + 38)) = omega (arith, c.in_ok-bytes.ensures.len, c.requires.header.1) in
    let count : c.min.result ≡ min (min c.args.size (c.args.region.len - (c.args.offset + 38))) c.block_len-len.result = omega (arith, c.min.ensures, c.len-there.ensures, len, there) in
    clump_read c.args.region c.args.offset c.args.size bytes (g.D.Disk.bytes c.args.disk.now) c.requires.header (c.in_ok-bytes.ensures.read told)
    c.header_of-header.result c.from_vec-2.result c.block_len-len.result
    (c.header_of-header.ensures.header ∙ ap (λ (l : List ℕ). take 38 l) c.deref.ensures.value) c.block_len-len.ensures c.if-len-size.false
    (c.from_vec-2.ensures ∙ c.truncate.ensures.items
    ∙ ap (λ (l : List ℕ). take c.min.result l) (c.copy_within.ensures.items ∙ ap (λ (n : ℕ). copy_within bytes 38 n 0) len)
    ∙ moved_front bytes c.min.result (omega (arith, c.in_ok-bytes.ensures.len, c.requires.header.1)) (omega (arith, count, there))
    ∙ ap (λ (n : ℕ). take n (drop 38 bytes)) count)
