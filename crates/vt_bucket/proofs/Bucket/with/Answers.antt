use Rattle.std.proofs.Common.{◌≡◌, ◌+◌, length, refl, arith, rules, length-take, take}
use Rattle.vt_bucket.specs.Buckets.{bucket_entries}
use Rattle.vt_bucket.proofs.Entries.{table_set, put_new, none_has}
use Rattle.vt_bucket.proofs.Bucket.with.Goals as goal

pub invariant_of-self : goal.invariant_of-self
invariant_of-self c =
    let b = c.args.self.now in
    let it = table_set b.table c.entries.result.now b.len c.in-Ok.at c.args.entry c.entries.ensures.entries b.ascending c.in-Ok.ensures.found.0 c.in-Ok.ensures.found.1 in
    record { within = b.within; ascending = it.0 }

pub returns-in-Ok-clause-put : goal.returns-in-Ok-clause-put
returns-in-Ok-clause-put c =
    let b = c.args.self.now in
    (table_set b.table c.entries.result.now b.len c.in-Ok.at c.args.entry c.entries.ensures.entries b.ascending c.in-Ok.ensures.found.0 c.in-Ok.ensures.found.1).1

pub returns-then-self-eq-BUCKET_ROOM-clause-full : goal.returns-then-self-eq-BUCKET_ROOM-clause-full
returns-then-self-eq-BUCKET_ROOM-clause-full c =
    let full : length (bucket_entries c.args.self.now) ≡ 263 = let table : length c.args.self.now.table ≡ 263 = search rules in omega (arith, length-take c.args.self.now.len c.args.self.now.table) in
    (λ yes. (full, none_has (bucket_entries c.args.self.now) c.entries.result.now c.in-Err.at c.args.entry.key c.entries.ensures.entries c.in-Err.ensures.below c.in-Err.ensures.above), λ yes. refl)

pub invariant_of-self-in-Err : goal.invariant_of-self-in-Err
invariant_of-self-in-Err c =
    let b = c.args.self.now in
    let it = put_new (bucket_entries b) c.entries.result.now (take (b.len + 1) c.insert_at.new.table) b.ascending c.in-Err.at c.args.entry
    c.entries.ensures.entries c.insert_at.ensures c.in-Err.ensures.bound c.in-Err.ensures.below c.in-Err.ensures.above in
    record { within = omega (arith, b.within, c.if-self-eq-BUCKET_ROOM.false); ascending = it.0 }

pub returns-else-self-eq-BUCKET_ROOM-clause-put : goal.returns-else-self-eq-BUCKET_ROOM-clause-put
returns-else-self-eq-BUCKET_ROOM-clause-put c =
    let b = c.args.self.now in
    (put_new (bucket_entries b) c.entries.result.now (take (b.len + 1) c.insert_at.new.table) b.ascending c.in-Err.at c.args.entry
    c.entries.ensures.entries c.insert_at.ensures c.in-Err.ensures.bound c.in-Err.ensures.below c.in-Err.ensures.above).1
