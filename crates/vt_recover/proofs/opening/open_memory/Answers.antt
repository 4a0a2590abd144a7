use Rattle.std.proofs.Common.{◌++◌, List, length, map, reverse, ◌∙◌, ap, arith, append-nil}
use Rattle.vt_recover.specs.Opening.{IsShardMade}
use Rattle.vt_recover.proofs.OpenWork.{made_disks}
use Rattle.vt_recover.proofs.Zips.{zip_length}
use Rattle.vt_recover.proofs.opening.open_memory.Goals as goal

pub close_shards-requires : goal.close_shards-requires
close_shards-requires g c =
    let made = c.in_ok-shards.ensures.made in
    let many = zip_length (IsShardMade g.D.Disk c.args.sizes.lumps c.args.sizes.clean) c.args.sections.items c.in_ok-shards.shards.items made.0 in
    omega (arith, many, ap length made.1.empty, made.1.enough)

pub returns-in_default-clause-memory : goal.returns-in_default-clause-memory
returns-in_default-clause-memory g c =
    let made = c.in_ok-shards.ensures.made in
    let disks = map (λ s. s.section.disk) c.in_ok-shards.shards.items in
    c.close_shards.ensures ∙ ap (λ (l : List g.row.D.Denot). disks ++ reverse l) made.1.empty ∙ append-nil disks
    ∙ made_disks g.D.Disk c.args.sizes.lumps c.args.sizes.clean c.args.sections.items c.in_ok-shards.shards.items made.0
