use Rattle.std.proofs.Common.{◌≡◌, ◌+◌, ◌-◌, ◌*◌, ◌<◌, ℕ, List, length, take, drop, refl, subst, arith, length-take}
use Rattle.vt_base.specs.declared.place.Entry.{Entry}
use Rattle.std.specs.Prelude.{slice_index_or}
use Rattle.std.proofs.lemmas.Bool.{false≢true}
use Rattle.vt_bucket.specs.Frame.{BeginsWithEntries}
use Rattle.vt_bucket.specs.Order.{IsBelow}
use Rattle.vt_bucket.proofs.Frames.{no_kind, not_above, table_each, table_ascending, table_read}
use Rattle.vt_bucket.proofs.decoding.decode_entries.Goals as goal

abbrev Follows : List Entry → Entry → Type 0
Follows xs e = 0 < length xs → IsBelow (slice_index_or xs (length xs - 1) e) e

pub returns-in_default-clause-bad : goal.returns-in_default-clause-bad
returns-in_default-clause-bad c =
    let l = c.loop-i in
    let xs : List Entry = take l.i l.table in
    let start : ℕ = 10 + 31 * l.i in
    let long : length xs ≡ l.i = omega (arith, length-take l.i l.table, c.requires.room) in (
      c.loop-i-test.true,
      (
        xs,
        long,
        record {
          allowed = record { each = l.invariant.each; ascending = l.invariant.ascending; most = omega (arith, long, c.requires.most) };
          spelling = (drop start c.args.frame.now, l.invariant.read);
        },
      ),
      no_kind xs c.args.frame.now (drop start c.args.frame.now) l.i (start + 31 - start) long (omega arith) l.invariant.each l.invariant.read c.in_default.ensures.none,
    )

pub returns-then-not-is_next-clause-bad : goal.returns-then-not-is_next-clause-bad
returns-then-not-is_next-clause-bad c =
    let l = c.loop-i in
    let xs : List Entry = take l.i l.table in
    let start : ℕ = 10 + 31 * l.i in
    let long : length xs ≡ l.i = omega (arith, length-take l.i l.table, c.requires.room) in (
      c.loop-i-test.true,
      (
        xs,
        long,
        record {
          allowed = record { each = l.invariant.each; ascending = l.invariant.ascending; most = omega (arith, long, c.requires.most) };
          spelling = (drop start c.args.frame.now, l.invariant.read);
        },
      ),
      not_above xs c.args.frame.now (drop start c.args.frame.now) l.i (start + 31 - start) c.in-Some.entry long l.invariant.each l.invariant.read
          c.in-Some.ensures.found.0 c.in-Some.ensures.found.1
          (λ above. false≢true (c.if-not-is_next.ensures.1 (subst (λ (n : ℕ). Follows (take n l.table) c.in-Some.entry) (omega arith) above))),
    )

pub loop-i-preserved : goal.loop-i-preserved
loop-i-preserved c =
    let l = c.loop-i in
    let start : ℕ = 10 + 31 * l.i in
    let room : l.i < length l.table = omega arith in
    record {
      each = table_each l.table c.args.frame.now l.i (start + 31 - start) c.in-Some.entry room (omega arith) c.in-Some.ensures.found.0 c.in-Some.ensures.found.1 l.invariant.each;
      ascending = table_ascending l.table c.args.frame.now l.i (start + 31 - start) c.in-Some.entry room (omega arith) c.in-Some.ensures.found.0 c.in-Some.ensures.found.1 l.invariant.ascending
          (subst (λ (n : ℕ). Follows (take n l.table) c.in-Some.entry) (omega arith) (c.if-not-is_next.ensures.0 refl));
      read = table_read l.table c.args.frame.now l.i (start + 31 - start) c.in-Some.entry room (omega arith) c.in-Some.ensures.found.0 c.in-Some.ensures.found.1 l.invariant.read;
    }

pub returns-clause-read : goal.returns-clause-read
returns-clause-read c =
    let l = c.loop-i in
    let all : l.i ≡ c.args.count = omega arith in
    subst (λ (n : ℕ). BeginsWithEntries (take n l.table) (drop 10 c.args.frame.now)) all
    (record {
      allowed = record { each = l.invariant.each; ascending = l.invariant.ascending; most = omega (arith, length-take l.i l.table, c.requires.most) };
      spelling = (drop (10 + 31 * l.i) c.args.frame.now, l.invariant.read);
    })
