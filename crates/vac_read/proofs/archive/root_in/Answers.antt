use Rattle.std.proofs.Common.{◌≡◌, rules, refl, true, arith}
use Rattle.std.specs.Prelude.{not, codes}
use Rattle.std.specs.Str.{bytes_eq}
use Rattle.vt_base.specs.Filled.{filled}
use Rattle.vac_read.specs.declared.error.RootField.TheVariants.{«Type» as Kind, BlockSize}
use Rattle.vac_read.proofs.Roots.{kind_flaw, small_flaw, large_flaw}
use Rattle.vac_read.proofs.archive.root_in.Goals as goal
use Rattle.vac_read.proofs.archive.root_in.Goals.{then-root-lt-MIN_BLOCK_SIZE-via-then-root-lt-MIN_BLOCK_SIZE, then-root-lt-MIN_BLOCK_SIZE-via-else-root-lt-MIN_BLOCK_SIZE+then-root-gt-MAX_BLOCK_SIZE}

pub returns-then-ne : goal.returns-then-ne
returns-then-ne c =
    let ok = c.in_ok-root.ensures.ok in
    let other : not (bytes_eq c.in_ok-root.root.kind (filled 128 (codes "rvac"))) ≡ true =
    search rules in
    (Kind, refl, kind_flaw c.args.bytes.now c.in_ok-root.root ok.0 ok.1 other)

pub returns-then-root-lt-MIN_BLOCK_SIZE : goal.returns-then-root-lt-MIN_BLOCK_SIZE
returns-then-root-lt-MIN_BLOCK_SIZE c =
    let ok = c.in_ok-root.ensures.ok in
    let same : c.in_ok-root.root.kind ≡ filled 128 (codes "rvac") = search rules in (
      BlockSize,
      refl,
      elim c.then-root-lt-MIN_BLOCK_SIZE.branch [
        | then-root-lt-MIN_BLOCK_SIZE-via-then-root-lt-MIN_BLOCK_SIZE w ↦
            let small = w.if-root-lt-MIN_BLOCK_SIZE.true in
            small_flaw c.args.bytes.now c.in_ok-root.root ok.0 ok.1 same (omega arith)
        | then-root-lt-MIN_BLOCK_SIZE-via-else-root-lt-MIN_BLOCK_SIZE+then-root-gt-MAX_BLOCK_SIZE w ↦
            let large = w.if-root-gt-MAX_BLOCK_SIZE.true in
            large_flaw c.args.bytes.now c.in_ok-root.root ok.0 ok.1 same (omega arith)
      ],
    )
