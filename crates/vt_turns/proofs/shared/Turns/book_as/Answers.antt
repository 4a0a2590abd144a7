use Rattle.std.proofs.Common.{add-one, arith, suc, ◌∙◌, sym, subst}
use Rattle.atomic_table.specs.Table.{Allows, step}
use mathlib.Core.Option.{none}
use Rattle.vt_turns.specs.declared.view.View.{View}
use Rattle.vt_turns.specs.Views.{KnowsAll}
use Rattle.vt_turns.specs.Rule.{Rule}
use Rattle.vt_turns.specs.Steps.{TellsBooked}
use Rattle.vt_turns.proofs.Books.{books}
use Rattle.vt_turns.proofs.shared.Turns.book_as.Goals as goal

pub store-requires : goal.store-requires
store-requires g c = let sized = c.args.self.now.sized in let near = c.requires.number in let b = c.requires.books in (
  c.requires.own.0,
  omega arith,
  rw add-one (subst (λ o. Allows (Rule g.P.Held.means c.args.self.now.table.shared.key.bit_words c.args.self.now.table.shared.key.opening.value.me.0) c.args.self.now.table.shared.table_id.slots c.args.pass.now.id c.args.pass.now.me (suc c.args.number) (λ _. 1) (λ _ m'. TellsBooked g.P.Held.means o (step c.args.self.now.table.shared.table_id.slots (suc c.args.number) 1 0 none) c.args.pass.now.me 1 m')) (sym c.requires.named)
      (books g.P.Held.means g.P.Held.lawful c.args.self.now.table.shared.key.bit_words c.args.self.now.table.shared.key.opening.value.me.0 c.args.self.now.table.shared.table_id.slots c.args.pass.now.id c.args.number c.args.pass.now.me.0 c.args.pass.now.me.1 b.0 c.args.part.now b.1 b.2)),
)

pub returns-clause-own : goal.returns-clause-own
returns-clause-own g c = let st = c.store.ensures in let b = c.requires.books in let m_is = (st.2 c.args.number b.0 c.args.part.now (sym (add-one c.args.number)) b.1 c.requires.named).0 in
    (st.0 ∙ c.requires.own.0, (λ i. (m_is i).1) ∙ c.requires.own.1, (λ i. (m_is i).0.away) ∙ c.requires.own.2)

pub returns-clause-view : goal.returns-clause-view
returns-clause-view g c = λ x has i. ((c.store.ensures.2 c.args.number x c.args.part.now (sym (add-one c.args.number)) has c.requires.named).0 i).0

pub returns-clause-knows : goal.returns-clause-knows
returns-clause-knows g c =
    let b = c.requires.books in
    let told = c.store.ensures.2 c.args.number b.0 c.args.part.now (sym (add-one c.args.number)) b.1 c.requires.named in
    subst (λ (w : View g.row.P.Denot g.row.B.Denot). KnowsAll c.args.pass.now.me.0 w) (λ i. (sym told.0 i).0) told.1
