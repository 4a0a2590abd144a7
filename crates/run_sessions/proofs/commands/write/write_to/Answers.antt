-- the block that came in, and what was done with the store at the place
use Rattle.std.proofs.Common.{◌≡◌, inl, inr, refl, rules, sym, subst, Err}
use Rattle.run_base.specs.Change.{dialer_change, parts_change, sink_change, source_change}
use Rattle.run_base.specs.Places.{CanBeUsed}
use Rattle.run_base.specs.declared.place.Place.{Place}
use Rattle.run_sessions.specs.Write.{WritesInput}
use Rattle.run_sessions.proofs.commands.write.write_to.Goals as goal

pub write_made_block-requires : goal.write_made_block-requires
write_made_block-requires g c = rw c.as_slice-bytes.ensures c.in_ok-block.ensures.taken.short

pub write_at-requires-clause-can : goal.write_at-requires-clause-can
write_at-requires-clause-can g c = subst CanBeUsed c.in-At.is c.requires

pub write_at-requires-clause-most : goal.write_at-requires-clause-most
write_at-requires-clause-most g c = rw c.as_slice-bytes.ensures c.in_ok-block.ensures.taken.short

pub returns-in-Memory : goal.returns-in-Memory
returns-in-Memory g c = subst (λ (p : Place). WritesInput g.S.Scorer.score_of g.P.Disk.Disk
    g.N.Link.Link c.args.store.now c.args.kind c.write_made_block.result
    (source_change g.R.Source c.args.source.now c.take_block.new.source)
    (sink_change g.K.Sink c.args.sink.now c.write_made_block.new.sink)
    (parts_change g.P.Parts c.args.parts.now c.args.parts.now)
    (dialer_change g.N.Dialer g.N.Link.Link c.args.dialer.now c.args.dialer.now) p)
    (sym c.in-Memory.is) (inr (record {
      bytes = c.in_ok-block.block;
      takes = c.in_ok-block.ensures.taken;
      now = c.now-now.result;
      writes = (rw c.as_slice-bytes.ensures at c.write_made_block.ensures, refl, refl);
    }))

pub returns-in-At : goal.returns-in-At
returns-in-At g c = subst (λ (p : Place). WritesInput g.S.Scorer.score_of g.P.Disk.Disk
    g.N.Link.Link c.args.store.now c.args.kind c.write_at.result
    (source_change g.R.Source c.args.source.now c.take_block.new.source)
    (sink_change g.K.Sink c.args.sink.now c.write_at.new.sink)
    (parts_change g.P.Parts c.args.parts.now c.write_at.new.parts)
    (dialer_change g.N.Dialer g.N.Link.Link c.args.dialer.now c.write_at.new.dialer) p)
    (sym c.in-At.is) (inr (record {
      bytes = c.in_ok-block.block;
      takes = c.in_ok-block.ensures.taken;
      now = c.now-now.result;
      writes = rw c.as_slice-bytes.ensures at c.write_at.ensures;
    }))

pub returns-in_err-block : goal.returns-in_err-block
returns-in_err-block g c =
    let failure = c.in_err-block.field-0.0 in
    let is : c.from_residual.result ≡ Err failure = search rules in
    inl (
      record {
        failure = failure;
        takes = c.in_err-block.ensures.none;
        outcome_is = is;
        unwritten = refl;
      },
      refl,
      refl,
    )
