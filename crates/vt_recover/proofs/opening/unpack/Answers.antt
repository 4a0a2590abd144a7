use Rattle.std.proofs.Common.{◌≡◌, ◌+◌, List, [], ◌∷◌, ◌++◌, length, map, reverse, ◌∙◌, ap, arith, length-append}
use Rattle.vt_recover.proofs.Room.{unpacks_last}
use Rattle.vt_recover.proofs.opening.unpack.Goals as goal

pub loop-section-preserved : goal.loop-section-preserved
loop-section-preserved g c =
    let section = c.in-Some.section in
    let before : List g.row.D.Denot = c.loop-section.devices.items in
    let after : List g.row.D.Denot = c.push_reserved.new.self.items in
    let rest = c.pop.new.self.items in
    let last : c.loop-section.sections.items ≡ rest ++ section ∷ [] = c.in-Some.ensures.items in
    let pushed : after ≡ before ++ section.disk ∷ [] = c.push_reserved.ensures.items ∙ ap (λ (d : g.row.D.Denot). before ++ d ∷ []) c.into_devices.ensures in
    let longer : length after ≡ length before + 1 = ap (λ (ds : List g.row.D.Denot). length ds) pushed ∙ length-append before (section.disk ∷ []) in
    let shorter : length c.loop-section.sections.items ≡ length rest + 1 = ap (λ ss. length ss) last ∙ length-append rest (section ∷ []) in
    record {
      devices = ap (λ (ds : List g.row.D.Denot). ds ++ reverse (map (λ s. s.disk) rest)) pushed
          ∙ unpacks_last (λ s. s.disk) c.loop-section.sections.items rest section before last ∙ c.loop-section.invariant.devices;
      room = omega (arith, longer, shorter, c.loop-section.invariant.room, c.push_reserved.ensures.capacity);
      same = c.push_reserved.ensures.capacity ∙ c.loop-section.invariant.same;
    }
