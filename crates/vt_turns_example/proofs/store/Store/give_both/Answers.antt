use Rattle.std.proofs.Common.{◌∙◌, ap, arith}
use Rattle.vt_turns.specs.Views.{turn_of}
use Rattle.vt_turns_example.specs.declared.part.Part.TheVariants.{Log, Shard}
use Rattle.vt_turns_example.proofs.Holding.{log_books, shard_books, stays, gave_two}
use Rattle.vt_turns_example.proofs.store.Store.give_both.Goals as goal

pub put_back-requires-clause-books : goal.put_back-requires-clause-books
put_back-requires-clause-books c = let l = c.requires.log in (Log l.0, l.1, log_books c.args.pass.now.me.0 l.0 c.args.log l.2)

pub put_back-requires-2-clause-books : goal.put_back-requires-2-clause-books
put_back-requires-2-clause-books c = let l = c.requires.log in let s = c.requires.shard in let n = c.requires.number.0 in (
  Shard s.0,
  ap (λ v. turn_of v c.args.number) (c.put_back.ensures.view (Log l.0) l.1) ∙ stays c.args.pass.now.me.0 0 c.args.number (Log l.0) (Log c.args.log) (λ e. omega arith) ∙ s.1,
  shard_books c.put_back.new.pass.me.0 c.args.number s.0 c.args.shard n s.2 s.3 s.4,
)

pub returns-clause-gave : goal.returns-clause-gave
returns-clause-gave c = let l = c.requires.log in let s = c.requires.shard in let n = c.requires.number.0 in
    let has = ap (λ v. turn_of v c.args.number) (c.put_back.ensures.view (Log l.0) l.1) ∙ stays c.args.pass.now.me.0 0 c.args.number (Log l.0) (Log c.args.log) (λ e. omega arith) ∙ s.1 in
    gave_two c.args.pass.now.me.0 c.put_back.new.pass.me.0 c.put_back-2.new.pass.me.0 c.args.number (Log l.0) (Log c.args.log) (Shard s.0) (Shard c.args.shard) (c.put_back.ensures.view (Log l.0) l.1) (c.put_back-2.ensures.view (Shard s.0) has) n
