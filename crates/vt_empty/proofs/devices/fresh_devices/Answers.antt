use Rattle.std.proofs.Common.{◌+◌, ◌*◌, ℕ, List, [], ◌∷◌, ◌++◌, refl, ◌∙◌, ap, arith}
use Rattle.vt_disk.specs.declared.TheConstants.{BLOCK_LEN}
use Rattle.vt_part.specs.declared.part.Part.{Part}
use Rattle.vt_empty.proofs.Made.{largest_of, subst_size}
use Rattle.vt_empty.proofs.devices.fresh_devices.Goals as goal

pub fresh_filter-requires-clause-size : goal.fresh_filter-requires-clause-size
fresh_filter-requires-clause-size c =
    let is = c.requires in
    let size = is.filter.bytes in
    let len = c.in_ok-disk-2.ensures.length in
    (is.m, is.filter, largest_of is.m _ is.filter.least is.filter.most (omega (arith, size, len)), is.counts)

pub returns : goal.returns
returns c =
    let is = c.requires in
    let one = c.in_ok-push.ensures.items ∙ ap (λ (ps : List (Part _)). ps ++ c.in_ok-part.part ∷ []) c.in_ok-parts.ensures.items in
    let arenas = c.from.ensures in
    let len = c.in_ok-disk.ensures.length in
    let size = len ∙ ap (λ (n : ℕ). BLOCK_LEN + n * c.args.shape.now.arena_len) arenas in
    c.parts_make_devices.ensures c.args.shape.now _ c.in_ok-part.part c.in_ok-filter.filter refl is one refl
    (subst_size size c.in_ok-part.ensures) c.in_ok-sections.ensures.unfilled c.in_ok-sections.ensures.buckets
    (record { m = is.m; size = is.filter; images = c.in_ok-filter.ensures is.m is.filter })
