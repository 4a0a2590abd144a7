use Rattle.std.proofs.Common.{◌≡◌, ◌+◌, ◌∷◌, [], ◌++◌, ℕ, List, length, map, reverse, sym, ◌∙◌, ap, subst, arith, length-append}
use Rattle.std.proofs.lemmas.List.{append-nil, length-map, length-reverse}
use Rattle.vt_isect.specs.Section.{IsAtRest, SectionState}
use Rattle.vt_shard.specs.Shard.{ShardState}
use Rattle.vt_recover.specs.Opening.{IsShardMade}
use Rattle.vt_recover.proofs.Opened.{IsSplitAt, split_all, split_many, split_more, split_none}
use Rattle.vt_recover.proofs.OpenWork.{made_back, comes_after, no_items}
use Rattle.vt_log.proofs.Lists.{at_slice}
use Rattle.vt_recover.proofs.opening.open_shards.Goals as goal

pub close_sections-requires : goal.close_sections-requires
close_sections-requires g c = omega (arith, ap length c.requires.room.empty, c.requires.room.enough)

pub returns-in_default-clause-memory : goal.returns-in_default-clause-memory
returns-in_default-clause-memory g c =
    c.close_sections.ensures ∙ ap (λ l. map (λ s. s.disk) c.args.sections.items ++ reverse l) c.requires.room.empty ∙ append-nil (map (λ s. s.disk) c.args.sections.items)

pub loop-section-init : goal.loop-section-init
loop-section-init g c =
    let all = c.args.sections.items in
    let R = IsShardMade g.D.Disk c.args.sizes.lumps c.args.sizes.clean in
    record {
      split = subst (λ (l : List (ShardState g.row.D.Denot)). IsSplitAt R all l c.reverse.new.self.items) (sym c.in-Ok.ensures.items) (split_none R all c.reverse.new.self.items c.reverse.ensures.items);
      shards = omega (arith, c.in-Ok.ensures.capacity, c.len.ensures, c.args.sections.ok.0);
      sections = omega (arith, c.reverse.ensures.len, c.reverse.new.self.ok.1, c.args.sections.ok.0);
    }

pub mount-requires-clause-rest : goal.mount-requires-clause-rest
mount-requires-clause-rest g c =
    let R = IsShardMade g.D.Disk c.args.sizes.lumps c.args.sizes.clean in
    at_slice (λ s. IsAtRest s) c.args.sections.items (length c.loop-section.shards.items) c.in-Some.section c.requires.rest
    (comes_after R c.args.sections.items c.loop-section.shards.items c.loop-section.sections.items c.pop.new.self.items c.in-Some.section c.in-Some.ensures.items c.loop-section.invariant.split)

pub push_reserved-requires : goal.push_reserved-requires
push_reserved-requires g c =
    let R = IsShardMade g.D.Disk c.args.sizes.lumps c.args.sizes.clean in
    let many = split_many R c.args.sections.items c.loop-section.shards.items c.loop-section.sections.items c.loop-section.invariant.split in
    let some : length c.loop-section.sections.items ≡ length c.pop.new.self.items + 1 =
    ap length c.in-Some.ensures.items ∙ length-append c.pop.new.self.items (c.in-Some.section ∷ []) in
    omega (arith, many, some, c.loop-section.invariant.shards, c.loop-section.shards.ok.0)

pub loop-section-preserved : goal.loop-section-preserved
loop-section-preserved g c =
    let R = IsShardMade g.D.Disk c.args.sizes.lumps c.args.sizes.clean in
    let all = c.args.sections.items in
    let made : IsShardMade g.D.Disk c.args.sizes.lumps c.args.sizes.clean c.in-Some.section c.in-Ok-mount.shard = record {
      is = c.in-Ok-mount.ensures.mounted;
      sound = λ score setup h known tells holds agrees live. c.in-Ok-mount.ensures.sound score setup h known tells holds agrees live;
    } in
    record {
      split = subst (λ (l : List (ShardState g.row.D.Denot)). IsSplitAt R all l c.pop.new.self.items) (sym c.push_reserved.ensures.items)
          (split_more R all c.loop-section.shards.items c.loop-section.sections.items c.pop.new.self.items c.in-Some.section c.in-Ok-mount.shard c.in-Some.ensures.items made c.loop-section.invariant.split);
      shards = omega (arith, c.push_reserved.ensures.capacity, c.loop-section.invariant.shards);
      sections = omega (arith, c.in-Some.ensures.capacity, c.loop-section.invariant.sections);
    }

pub push_reserved-requires-in-Err : goal.push_reserved-requires-in-Err
push_reserved-requires-in-Err g c =
    let R = IsShardMade g.D.Disk c.args.sizes.lumps c.args.sizes.clean in
    let many = split_many R c.args.sections.items c.loop-section.shards.items c.loop-section.sections.items c.loop-section.invariant.split in
    let shorter : length c.loop-section.sections.items ≡ length c.pop.new.self.items + 1 =
    ap length c.in-Some.ensures.items ∙ length-append c.pop.new.self.items (c.in-Some.section ∷ []) in
    omega (arith, many, shorter, c.in-Some.ensures.capacity, c.loop-section.invariant.sections, c.pop.new.self.ok.0)

pub unpack-requires : goal.unpack-requires
unpack-requires g c =
    let R = IsShardMade g.D.Disk c.args.sizes.lumps c.args.sizes.clean in
    let many = split_many R c.args.sections.items c.loop-section.shards.items c.loop-section.sections.items c.loop-section.invariant.split in
    let shorter : length c.loop-section.sections.items ≡ length c.pop.new.self.items + 1 =
    ap length c.in-Some.ensures.items ∙ length-append c.pop.new.self.items (c.in-Some.section ∷ []) in
    let longer : length c.push_reserved-in-Err.new.self.items ≡ length c.pop.new.self.items + 1 =
    ap length c.push_reserved-in-Err.ensures.items ∙ length-append c.pop.new.self.items (c.in-Err.section ∷ []) in
    let turned : length c.reverse-in-Err.new.self.items ≡ length c.push_reserved-in-Err.new.self.items =
    ap length c.reverse-in-Err.ensures.items ∙ length-reverse c.push_reserved-in-Err.new.self.items in
    omega (arith, many, shorter, longer, turned, ap length c.requires.room.empty, c.requires.room.enough)

pub close_shards-requires : goal.close_shards-requires
close_shards-requires g c =
    let R = IsShardMade g.D.Disk c.args.sizes.lumps c.args.sizes.clean in
    let many = split_many R c.args.sections.items c.loop-section.shards.items c.loop-section.sections.items c.loop-section.invariant.split in
    let shorter : length c.loop-section.sections.items ≡ length c.pop.new.self.items + 1 =
    ap length c.in-Some.ensures.items ∙ length-append c.pop.new.self.items (c.in-Some.section ∷ []) in
    let longer : length c.push_reserved-in-Err.new.self.items ≡ length c.pop.new.self.items + 1 =
    ap length c.push_reserved-in-Err.ensures.items ∙ length-append c.pop.new.self.items (c.in-Err.section ∷ []) in
    let turned : length c.reverse-in-Err.new.self.items ≡ length c.push_reserved-in-Err.new.self.items =
    ap length c.reverse-in-Err.ensures.items ∙ length-reverse c.push_reserved-in-Err.new.self.items in
    let disks = map (λ s. s.disk) c.reverse-in-Err.new.self.items in
    let unpacked : length c.unpack.result.items ≡ length c.args.room.items + length disks =
    ap length c.unpack.ensures.items ∙ length-append c.args.room.items (reverse disks) ∙ ap (λ (n : ℕ). length c.args.room.items + n) (length-reverse disks) in
    omega (arith, many, shorter, longer, turned, unpacked, length-map c.reverse-in-Err.new.self.items (λ s. s.disk), c.unpack.ensures.room, ap length c.requires.room.empty, c.requires.room.enough)

pub returns-in-Err-clause-memory : goal.returns-in-Err-clause-memory
returns-in-Err-clause-memory g c =
    let same : c.push_reserved-in-Err.new.self.items ≡ c.pop.new.self.items ++ c.in-Some.section ∷ [] =
    c.push_reserved-in-Err.ensures.items ∙ ap (λ (s : SectionState g.row.D.Denot). c.pop.new.self.items ++ s ∷ []) c.in-Err.ensures.refused in
    made_back g.D.Disk c.args.sizes.lumps c.args.sizes.clean c.args.sections.items c.loop-section.shards.items c.loop-section.sections.items c.pop.new.self.items c.in-Some.section
    c.in-Some.ensures.items c.loop-section.invariant.split c.push_reserved-in-Err.new.self.items same c.reverse-in-Err.new.self.items c.reverse-in-Err.ensures.items
    c.args.room.items c.requires.room.empty c.unpack.result.items c.unpack.ensures.items c.close_shards.result.items c.close_shards.ensures

pub destroy_empty-requires : goal.destroy_empty-requires
destroy_empty-requires g c = c.in_default-pop.ensures.cases.1

pub returns-clause-made : goal.returns-clause-made
returns-clause-made g c =
    let R = IsShardMade g.D.Disk c.args.sizes.lumps c.args.sizes.clean in
    let left : c.loop-section.sections.items ≡ [] = no_items c.loop-section.sections.items (omega (arith, c.in_default-pop.ensures.cases.0, c.loop-section.sections.ok.0)) in
    (split_all R c.args.sections.items c.loop-section.shards.items c.loop-section.sections.items left c.loop-section.invariant.split, c.requires.room)
