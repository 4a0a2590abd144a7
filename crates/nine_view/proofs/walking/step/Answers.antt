use Rattle.std.proofs.Common.{◌≡◌, true, false, Option, Some, None, Ok, Err, List, [], refl, sym, ◌∙◌, ap, subst}
use Rattle.std.specs.Str.{bytes_eq}
use Rattle.std.proofs.lemmas.Result.{err_from_is_err_and}
use Rattle.vac_read.specs.declared.error.VacBad.TheVariants.{NoMemory}
use Rattle.vac_read.specs.declared.node.Node.{Node}
use Rattle.vac_read.specs.Nodes.{FindsNode}
use Rattle.vac_read.proofs.Few.{few_as, few_nothing}
use Rattle.nine_view.specs.declared.place.Place.{Place}
use Rattle.nine_view.specs.declared.request_error.RequestError.TheVariants.{NoDirectory, NoFile}
use Rattle.nine_view.specs.Files.{is_folder}
use Rattle.nine_view.specs.Walks.{StepsTo, dots, into}
use Rattle.nine_view.proofs.Steps.{steps_from_file, steps_into, steps_up}
use Rattle.nine_view.proofs.WalkAsking.{file_keeps, no_step, one_step}
use Rattle.nine_view.proofs.walking.step.Goals as goal

pub returns-then-not-is_folder-clause-reads : goal.returns-then-not-is_folder-clause-reads
returns-then-not-is_folder-clause-reads g c =
    few_nothing g.B.Blocks.does g.B.Blocks.holds g.B.Scorer.score_of c.args.blocks.now
    (Ok (Err NoDirectory)) _ _ refl
    (λ map right. (
      right,
      steps_from_file map c.args.at c.args.name.now (sym c.is_folder.ensures ∙ c.if-not-is_folder.true),
    ))
    (λ map. no_step (g.B.Scorer.score_of []) map c.args.at.node.stored c.args.name.now c.args.kept.now)

pub returns-then-not-is_folder-clause-kept : goal.returns-then-not-is_folder-clause-kept
returns-then-not-is_folder-clause-kept g c =
    file_keeps c.args.at.node.stored c.args.name.now c.args.kept.now
    (sym c.is_folder.ensures ∙ c.if-not-is_folder.true)

pub returns-then-eq-clause-reads : goal.returns-then-eq-clause-reads
returns-then-eq-clause-reads g c =
    let folder : is_folder c.args.at.node.stored ≡ true =
    sym c.is_folder.ensures ∙ c.if-not-is_folder.false in
    let up : bytes_eq c.args.name.now dots ≡ true = cc in
    few_nothing g.B.Blocks.does g.B.Blocks.holds g.B.Scorer.score_of c.args.blocks.now
    (Ok (Ok c.parent.result)) _ _ refl
    (λ map right. (
      right,
      subst (λ (p : Place). StepsTo map c.args.at c.args.name.now (Ok p)) (sym c.parent.ensures)
          (steps_up map c.args.at c.args.name.now folder up),
    ))
    (λ map. no_step (g.B.Scorer.score_of []) map c.args.at.node.stored c.args.name.now c.args.kept.now)

pub returns-in_err-node-clause-reads : goal.returns-in_err-node-clause-reads
returns-in_err-node-clause-reads g c =
    let p = err_from_is_err_and c.from_residual.result c.from_residual.ensures.1 in
    let bad = c.in_err-node.field-0.0 in
    let other : bytes_eq c.args.name.now dots ≡ false = cc in
    rw (p.1, p.2) (few_as g.B.Blocks.does g.B.Blocks.holds g.B.Scorer.score_of
    c.args.blocks.now c.find_item.new.blocks (Err bad) (Err bad) _ _ _ _ refl
    c.in_err-node.ensures.finds
    (λ map told right. let t = told right in (t.0, λ some. (other, t.1 some)))
    (λ map n told few. one_step (g.B.Scorer.score_of []) map c.args.at.node.stored c.args.name.now
    c.args.kept.now c.find_item.new.kept n other few c.find_item.ensures.stays))

pub returns-in_err-into_file-in-Some-clause-reads :
    goal.returns-in_err-into_file-in-Some-clause-reads
returns-in_err-into_file-in-Some-clause-reads g c =
    let p = err_from_is_err_and c.from_residual-in_err-into_file-in-Some.result
    c.from_residual-in_err-into_file-in-Some.ensures.1 in
    let other : bytes_eq c.args.name.now dots ≡ false = cc in
    rw (p.1, p.2) (few_as g.B.Blocks.does g.B.Blocks.holds g.B.Scorer.score_of
    c.args.blocks.now c.find_item.new.blocks (Ok c.in_ok-node.field-0) (Err NoMemory) _ _ _ _ refl
    c.in_ok-node.ensures.finds
    (λ map told right. ((told right).0, λ some. absurd (some refl)))
    (λ map n told few. one_step (g.B.Scorer.score_of []) map c.args.at.node.stored c.args.name.now
    c.args.kept.now c.find_item.new.kept n other few c.find_item.ensures.stays))

pub returns-in_ok-into_file-in-Some-clause-reads :
    goal.returns-in_ok-into_file-in-Some-clause-reads
returns-in_ok-into_file-in-Some-clause-reads g c =
    let folder : is_folder c.args.at.node.stored ≡ true =
    sym c.is_folder.ensures ∙ c.if-not-is_folder.false in
    let other : bytes_eq c.args.name.now dots ≡ false = cc in
    let at : Place = c.in_ok-into_file-in-Some.field-0 in
    let is = c.in_ok-into_file-in-Some.ensures in
    let next : Ok at ≡ into c.args.at (Some c.in-Some.node) =
    ap (λ (n : Node). Ok (record { node = n; above = at.above })) is.0
    ∙ ap (λ (l : List Node). Ok (record { node = c.in-Some.node; above = l })) is.1 in
    few_as g.B.Blocks.does g.B.Blocks.holds g.B.Scorer.score_of
    c.args.blocks.now c.find_item.new.blocks (Ok c.in_ok-node.field-0) (Ok (Ok at)) _ _ _ _ refl
    c.in_ok-node.ensures.finds
    (λ map told right.
    let t = told right in (
      t.0,
      steps_into map c.args.at c.args.name.now folder other (Some c.in-Some.node) (Ok at)
          (subst (λ (o : Option Node). FindsNode map c.args.at.node.stored c.args.name.now o)
          c.in-Some.is t.1) next,
    ))
    (λ map n told few. one_step (g.B.Scorer.score_of []) map c.args.at.node.stored c.args.name.now
    c.args.kept.now c.find_item.new.kept n other few c.find_item.ensures.stays)

pub returns-in-None-clause-reads : goal.returns-in-None-clause-reads
returns-in-None-clause-reads g c =
    let folder : is_folder c.args.at.node.stored ≡ true =
    sym c.is_folder.ensures ∙ c.if-not-is_folder.false in
    let other : bytes_eq c.args.name.now dots ≡ false = cc in
    few_as g.B.Blocks.does g.B.Blocks.holds g.B.Scorer.score_of
    c.args.blocks.now c.find_item.new.blocks (Ok c.in_ok-node.field-0) (Ok (Err NoFile)) _ _ _ _
    refl c.in_ok-node.ensures.finds
    (λ map told right.
    let t = told right in (
      t.0,
      steps_into map c.args.at c.args.name.now folder other None (Err NoFile)
          (subst (λ (o : Option Node). FindsNode map c.args.at.node.stored c.args.name.now o)
          c.in-None.is t.1) refl,
    ))
    (λ map n told few. one_step (g.B.Scorer.score_of []) map c.args.at.node.stored c.args.name.now
    c.args.kept.now c.find_item.new.kept n other few c.find_item.ensures.stays)
