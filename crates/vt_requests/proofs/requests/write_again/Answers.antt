use Rattle.std.proofs.Common.{◌≡◌, ℕ, List, Ok, Err, Option, refl, sym, ◌∙◌, ap, subst}
use Rattle.std.specs.Prelude.{slice_get}
use Rattle.vt_model.specs.Places.{Setup, section_of_score}
use Rattle.vt_core.specs.Asking.{shard_of}
use Rattle.vt_core.specs.Core.{setup_of}
use Rattle.vt_core.specs.Machine.{WaitsForNone}
use Rattle.vt_requests.specs.Requests.{refused}
use Rattle.vt_requests.specs.Working.{DoesWork, NeedsRoom}
use Rattle.vt_requests.proofs.Told.{room_is_own}
use Rattle.vt_requests.proofs.WorkDone.{did}
use Rattle.vt_requests.proofs.requests.write_again.Goals as goal

pub write_in_room-requires-clause-free : goal.write_in_room-requires-clause-free
write_in_room-requires-clause-free g c =
    let made = did {T = Unit {0}} g.S.Scorer.score_of g.D.Disk (NeedsRoom c.shard_of-shard.result) (room_is_own c.shard_of-shard.result) (Ok tt) c.args.core.now c.make_room.new.core c.in-Ok.ensures.works in
    subst (λ (ws : List (Option ℕ)). WaitsForNone ws c.args.session) (sym made.worked.keeps.waiting) c.requires

pub write_in_room-requires-clause-spare : goal.write_in_room-requires-clause-spare
write_in_room-requires-clause-spare g c = λ s at.
    let made = did {T = Unit {0}} g.S.Scorer.score_of g.D.Disk (NeedsRoom c.shard_of-shard.result) (room_is_own c.shard_of-shard.result) (Ok tt) c.args.core.now c.make_room.new.core c.in-Ok.ensures.works in
    let own : shard_of c.make_room.new.core (g.S.Scorer.score_of c.args.bytes.now) ≡ c.shard_of-shard.result =
    ap (λ (x : Setup). section_of_score x (g.S.Scorer.score_of c.args.bytes.now)) made.worked.keeps.store.setup
    ∙ ap (λ (x : List ℕ). section_of_score (setup_of c.args.core.now) x) (sym c.score.ensures) ∙ sym c.shard_of-shard.ensures.shard in
    c.in-Ok.ensures.spare s refl (ap (λ (n : ℕ). slice_get c.make_room.new.core.shards n) (sym own) ∙ at)

pub returns-in-Ok : goal.returns-in-Ok
returns-in-Ok g c =
    let own : c.shard_of-shard.result ≡ shard_of c.args.core.now (g.S.Scorer.score_of c.args.bytes.now) =
    c.shard_of-shard.ensures.shard ∙ ap (λ (x : List ℕ). section_of_score (setup_of c.args.core.now) x) c.score.ensures in
    record {
      kind = c.args.kind;
      bytes = c.args.bytes.now;
      is_write = refl;
      made = Ok tt;
      room = c.make_room.new.core;
      works = subst (λ (n : ℕ). DoesWork {T = Unit {0}} g.S.Scorer.score_of g.D.Disk (NeedsRoom n) (Ok tt) c.args.core.now c.make_room.new.core) own c.in-Ok.ensures.works;
      ends = c.write_in_room.ensures;
    }

pub returns-in-Err : goal.returns-in-Err
returns-in-Err g c =
    let own : c.shard_of-shard.result ≡ shard_of c.args.core.now (g.S.Scorer.score_of c.args.bytes.now) =
    c.shard_of-shard.ensures.shard ∙ ap (λ (x : List ℕ). section_of_score (setup_of c.args.core.now) x) c.score.ensures in
    record {
      kind = c.args.kind;
      bytes = c.args.bytes.now;
      is_write = refl;
      made = Err c.in-Err.why;
      room = c.make_room.new.core;
      works = subst (λ (n : ℕ). DoesWork {T = Unit {0}} g.S.Scorer.score_of g.D.Disk (NeedsRoom n) (Err c.in-Err.why) c.args.core.now c.make_room.new.core) own c.in-Err.ensures.works;
      ends = (c.refused.ensures ∙ ap (λ (n : ℕ). refused c.in-Err.why n) c.history_len-at.ensures.len, refl);
    }
