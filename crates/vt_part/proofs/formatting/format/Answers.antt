use Rattle.std.proofs.Common.{◌≡◌, inr, refl, ◌+◌, ◌≤◌, List, ℕ, length, sym, ◌∙◌, ap, subst, arith, rules}
use Rattle.vt_disk.specs.declared.TheConstants.{BLOCK_LEN}
use Rattle.vt_disk.specs.Disk.{with_bytes}
use Rattle.vt_disk.proofs.Calls.{made_then}
use Rattle.vt_part.specs.Table.{Table, IsPartition, IsTable, count_for, table_block, arenas_end, table_for}
use Rattle.vt_part.proofs.TableFor.{counted_fit, is_table, formatted}
use Rattle.vt_part.proofs.formatting.format.Goals as goal

-- what is written is the table's block
block_is : (name text bytes : List ℕ) (size arena_size n : ℕ)
    → bytes ≡ table_block (record { name = text; arena_size = arena_size; count = n })
    → text ≡ name → n ≡ count_for size arena_size
    → bytes ≡ table_block (table_for name size arena_size)
block_is name text bytes size arena_size n is same counted = is
    ∙ (λ i. table_block (record { name = same i; arena_size = arena_size; count = counted i }))

pub returns-clause-written : goal.returns-clause-written
returns-clause-written g c told =
    let size : ℕ = g.D.Disk.size c.args.disk.now in
    let counted : c.min-count.result ≡ count_for size c.args.arena_size = search rules in
    c.sync.ensures.bytes ∙ c.in_ok-write_at.ensures.written told
    ∙ ap (λ (b : List ℕ). with_bytes 0 b (g.D.Disk.bytes c.args.disk.now))
    (block_is _ _ _ size _ _ c.encode.ensures c.as_slice.ensures counted)

pub returns-clause-partition : goal.returns-clause-partition
returns-clause-partition g c told image left =
    let file : List ℕ = g.D.Disk.bytes c.args.disk.now in
    let size : ℕ = g.D.Disk.size c.args.disk.now in
    let t : Table = table_for c.args.name.now size c.args.arena_size in
    let whole : length file ≡ size =
    (g.met.D.Disk.images_fit _ _ (g.met.D.Disk.read_is_image _ told)).0 in
    let room : BLOCK_LEN + c.args.arena_size ≤ size = omega arith in
    let counted : c.min-count.result ≡ count_for size c.args.arena_size = search rules in
    let is : IsTable t =
    is_table t.name t.arena_size size t.count c.requires.name c.requires.arena_size room refl in
    let fits : arenas_end t ≤ size =
    counted_fit t.name t.arena_size size t.count c.requires.name c.requires.arena_size room refl in
    subst (IsPartition t)
    (sym (c.in_ok-sync.ensures.settled told image left ∙ c.in_ok-write_at.ensures.written told
    ∙ ap (λ (b : List ℕ). with_bytes 0 b file)
    (block_is _ _ _ size _ _ c.encode.ensures c.as_slice.ensures counted)))
    (formatted t is file (omega (arith, whole, fits)))

pub returns-in_err-sync-clause-failed : goal.returns-in_err-sync-clause-failed
returns-in_err-sync-clause-failed g c fault =
    let size : ℕ = g.D.Disk.size c.args.disk.now in
    let counted : c.min-count.result ≡ count_for size c.args.arena_size = search rules in
    inr (
      made_then g.D.Disk 1 1 _ _ _ c.write_at.ensures.calls c.sync.ensures.calls,
      λ told. c.sync.ensures.bytes ∙ c.in_ok-write_at.ensures.written told
          ∙ ap (λ (b : List ℕ). with_bytes 0 b (g.D.Disk.bytes c.args.disk.now))
          (block_is _ _ _ size _ _ c.encode.ensures c.as_slice.ensures counted),
    )
