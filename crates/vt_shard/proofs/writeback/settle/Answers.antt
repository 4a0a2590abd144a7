use Rattle.std.proofs.Common.{List, length, refl, sym, ap, subst, arith}
use Rattle.std.proofs.lemmas.List.{take_all}
use Rattle.vt_base.specs.declared.place.Entry.{Entry}
use Rattle.vt_shard.specs.Writeback.{SettlesAll}
use Rattle.vt_shard.proofs.Settles.{settles_none, settles_more}
use Rattle.vt_shard.proofs.writeback.settle.Goals as goal

pub loop-entry-init : goal.loop-entry-init
loop-entry-init c = (settles_none c.args.below c.args.index.now, λ none. refl)

pub loop-entry-preserved : goal.loop-entry-preserved
loop-entry-preserved c = (
  settles_more c.args.below c.args.entries.now c.loop-entry.entry-index c.entry-item.result c.args.index.now c.loop-entry.index
      c.settle.new.self c.settle.result c.loop-entry-test.true (sym c.entry-item.is) c.requires.keys c.requires.apart c.requires.dirty
      c.loop-entry.invariant.0 c.settle.ensures.settled c.settle.ensures.found,
  λ none. absurd (let len = ap (λ (l : List Entry). length l) none in omega (arith, len, c.loop-entry-test.true)),
)

pub returns-clause-settled : goal.returns-clause-settled
returns-clause-settled c =
    subst (λ (l : List Entry). SettlesAll c.args.below l c.args.index.now c.loop-entry.index)
    (take_all c.loop-entry.entry-index c.args.entries.now c.loop-entry-test.false) c.loop-entry.invariant.0

pub returns-clause-none : goal.returns-clause-none
returns-clause-none c none = c.loop-entry.invariant.1 none
