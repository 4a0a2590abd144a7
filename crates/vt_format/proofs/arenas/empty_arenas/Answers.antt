use Rattle.std.proofs.Common.{◌≡◌, [], ◌∷◌, ◌++◌, length, sym, ◌∙◌, arith}
use Rattle.std.proofs.lemmas.Grind.{common_steps}
use Rattle.vt_format.proofs.OnePartition.{lent_back, log_of, synced_of, writes_of}
use Rattle.vt_format.proofs.arenas.empty_arenas.Goals as goal

pub returns-in-Ok-clause-log : goal.returns-in-Ok-clause-log
returns-in-Ok-clause-log g c =
    let old_is : c.deref_mut.result.now ≡ c.args.part ∷ [] = grind (arith, common_steps) in
    let len : c.push.new.self.len ≡ length c.format-done.new.parts = omega arith in
    let popped : c.format-done.new.parts ≡ c.pop.new.self.items ++ c.in-Some.part ∷ [] =
    sym (lent_back c.push.new.self.len c.format-done.new.parts c.push.new.self.items len) ∙ c.in-Some.ensures.items in
    log_of g.D.Disk c.deref_mut.result.now c.format-done.new.parts c.pop.new.self.items c.args.part c.in-Some.part c.into_devices-disk.result
    old_is c.format-done.ensures.tables popped c.into_devices-disk.ensures
    (λ score_of files told images. c.in-Ok.ensures.empty score_of files told images)

pub returns-in-Ok-clause-settled : goal.returns-in-Ok-clause-settled
returns-in-Ok-clause-settled g c =
    let old_is : c.deref_mut.result.now ≡ c.args.part ∷ [] = grind (arith, common_steps) in
    let len : c.push.new.self.len ≡ length c.format-done.new.parts = omega arith in
    let popped : c.format-done.new.parts ≡ c.pop.new.self.items ++ c.in-Some.part ∷ [] =
    sym (lent_back c.push.new.self.len c.format-done.new.parts c.push.new.self.items len) ∙ c.in-Some.ensures.items in
    synced_of g.D.Disk c.deref_mut.result.now c.format-done.new.parts c.pop.new.self.items c.args.part c.in-Some.part c.into_devices-disk.result
    old_is c.format-done.ensures.tables popped c.into_devices-disk.ensures c.in-Ok.ensures.settled

pub returns-in-Ok-clause-writes : goal.returns-in-Ok-clause-writes
returns-in-Ok-clause-writes g c =
    let old_is : c.deref_mut.result.now ≡ c.args.part ∷ [] = grind (arith, common_steps) in
    let len : c.push.new.self.len ≡ length c.format-done.new.parts = omega arith in
    let popped : c.format-done.new.parts ≡ c.pop.new.self.items ++ c.in-Some.part ∷ [] =
    sym (lent_back c.push.new.self.len c.format-done.new.parts c.push.new.self.items len) ∙ c.in-Some.ensures.items in
    writes_of g.D.Disk c.deref_mut.result.now c.format-done.new.parts c.pop.new.self.items c.args.part c.in-Some.part c.into_devices-disk.result
    old_is c.format-done.ensures.tables popped c.into_devices-disk.ensures c.format-done.ensures.writes

pub returns-clause-writes : goal.returns-clause-writes
returns-clause-writes g c =
    let old_is : c.deref_mut.result.now ≡ c.args.part ∷ [] = grind (arith, common_steps) in
    let len : c.push.new.self.len ≡ length c.format-done.new.parts = omega arith in
    let popped : c.format-done.new.parts ≡ c.pop.new.self.items ++ c.in-Some.part ∷ [] =
    sym (lent_back c.push.new.self.len c.format-done.new.parts c.push.new.self.items len) ∙ c.in-Some.ensures.items in
    writes_of g.D.Disk c.deref_mut.result.now c.format-done.new.parts c.pop.new.self.items c.args.part c.in-Some.part c.into_devices-disk.result
    old_is c.format-done.ensures.tables popped c.into_devices-disk.ensures c.format-done.ensures.writes
