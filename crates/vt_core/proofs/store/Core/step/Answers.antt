use Rattle.std.proofs.Common.{sym, subst}
use Rattle.vt_core.specs.declared.event.Event.{Event}
use Rattle.vt_core.specs.Steps.{Steps}
use Rattle.vt_core.proofs.store.Core.step.Goals as goal

pub returns-in-Ask : goal.returns-in-Ask
returns-in-Ask g c = subst (λ (e : Event). Steps g.S.Scorer.score_of g.D.Disk e c.ask.result c.args.self.now c.ask.new.self) (sym c.in-Ask.is) c.ask.ensures

pub returns-in-Answer : goal.returns-in-Answer
returns-in-Answer g c = subst (λ (e : Event). Steps g.S.Scorer.score_of g.D.Disk e c.answer_sync.result c.args.self.now c.answer_sync.new.self) (sym c.in-Answer.is) c.answer_sync.ensures

pub returns-in-LogAdvance : goal.returns-in-LogAdvance
returns-in-LogAdvance g c = subst (λ (e : Event). Steps g.S.Scorer.score_of g.D.Disk e c.advance_log.result c.args.self.now c.advance_log.new.self) (sym c.in-LogAdvance.is) c.advance_log.ensures

pub returns-in-FileBegin : goal.returns-in-FileBegin
returns-in-FileBegin g c = subst (λ (e : Event). Steps g.S.Scorer.score_of g.D.Disk e c.begin_file.result c.args.self.now c.begin_file.new.self) (sym c.in-FileBegin.is) c.begin_file.ensures

pub returns-in-FileAdvance : goal.returns-in-FileAdvance
returns-in-FileAdvance g c = subst (λ (e : Event). Steps g.S.Scorer.score_of g.D.Disk e c.advance_file.result c.args.self.now c.advance_file.new.self) (sym c.in-FileAdvance.is) c.advance_file.ensures

pub returns-in-BloomAdvance : goal.returns-in-BloomAdvance
returns-in-BloomAdvance g c = subst (λ (e : Event). Steps g.S.Scorer.score_of g.D.Disk e c.advance_filter.result c.args.self.now c.advance_filter.new.self) (sym c.in-BloomAdvance.is) c.advance_filter.ensures

pub returns-in-EvictLump : goal.returns-in-EvictLump
returns-in-EvictLump g c = subst (λ (e : Event). Steps g.S.Scorer.score_of g.D.Disk e c.drop_lump.result c.args.self.now c.drop_lump.new.self) (sym c.in-EvictLump.is) c.drop_lump.ensures

pub returns-in-EvictIndex : goal.returns-in-EvictIndex
returns-in-EvictIndex g c = subst (λ (e : Event). Steps g.S.Scorer.score_of g.D.Disk e c.drop_entry.result c.args.self.now c.drop_entry.new.self) (sym c.in-EvictIndex.is) c.drop_entry.ensures
