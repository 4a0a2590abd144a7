use Rattle.std.proofs.Common.{◌≡◌, ◌==◌, ◌&&◌, ℕ, Bool, false, Some, None, List, [], ◌∷◌, length, refl, sym, ◌∙◌, ap, subst, arith}
use Rattle.std.specs.Prelude.{nat_le, not, slice_get}
use Rattle.std.specs.List.{All}
use Rattle.std.proofs.lemmas.Bool.Decides.{nat_tests}
use Rattle.std.proofs.lemmas.List.Elements.{All-head}
use Rattle.vac_read.specs.declared.node.Node.{Node}
use Rattle.nine_view.specs.declared.fid.Reading.{Reading}
use Rattle.nine_view.specs.Answers.{is_rest}
use Rattle.nine_view.specs.Files.{FitsMessage, stat_in}
use Rattle.nine_view.proofs.reading.is_rest.Goals as goal
use Rattle.nine_view.proofs.reading.is_rest.Goals.{then-offset-ne0, else-offset-ne0}

first_fits : (next : List Node) (node : Node) → Some node ≡ slice_get next 0
    → All FitsMessage next → FitsMessage node
first_fits [] node is fit = absurd (cc)
first_fits (one ∷ rest) node is fit =
    let same : one ≡ node = cc in subst FitsMessage same (All-head FitsMessage one rest fit)

rest_of : (most : ℕ) (r : Reading) (offset count : ℕ) (next : List Node) (node : Node)
    → Some node ≡ slice_get next 0
    → (not (offset == 0) && count == r.left && nat_le (length (stat_in node)) most)
    ≡ is_rest most r offset count next
rest_of most r offset count [] node is = absurd (cc)
rest_of most r offset count (one ∷ rest) node is =
    let same : node ≡ one = cc in
    ap (λ (n : Node). not (offset == 0) && count == r.left && nat_le (length (stat_in n)) most) same

no_rest : (most : ℕ) (r : Reading) (offset count : ℕ) (next : List Node)
    → None ≡ slice_get next 0 → false ≡ is_rest most r offset count next
no_rest most r offset count [] is = refl
no_rest most r offset count (one ∷ rest) is = absurd (cc)

pub has_room-has_room-requires : goal.has_room-has_room-requires
has_room-has_room-requires c =
    first_fits c.args.next.now c.in-Some.node.now c.in-Some.ensures.value c.requires

pub returns-then-count-reading : goal.returns-then-count-reading
returns-then-count-reading c =
    let both : c.if-offset-ne0.value
    ≡ (not (c.args.offset == 0) && c.args.count == c.args.reading.now.left) =
    elim c.if-offset-ne0.branch [
      | then-offset-ne0 w ↦ grind (arith, nat_tests)
      | else-offset-ne0 w ↦ grind (arith, nat_tests)
    ] in
    c.has_room-has_room.ensures
    ∙ ap (λ (v : Bool). v && nat_le (length (stat_in c.in-Some.node.now)) c.args.most)
    (sym c.if-count-reading.true ∙ both)
    ∙ rest_of c.args.most c.args.reading.now c.args.offset c.args.count c.args.next.now
    c.in-Some.node.now c.in-Some.ensures.value

pub returns-else-count-reading : goal.returns-else-count-reading
returns-else-count-reading c =
    let both : c.if-offset-ne0.value
    ≡ (not (c.args.offset == 0) && c.args.count == c.args.reading.now.left) =
    elim c.if-offset-ne0.branch [
      | then-offset-ne0 w ↦ grind (arith, nat_tests)
      | else-offset-ne0 w ↦ grind (arith, nat_tests)
    ] in
    c.if-count-reading.false
    ∙ ap (λ (v : Bool). v && nat_le (length (stat_in c.in-Some.node.now)) c.args.most)
    (sym c.if-count-reading.false ∙ both)
    ∙ rest_of c.args.most c.args.reading.now c.args.offset c.args.count c.args.next.now
    c.in-Some.node.now c.in-Some.ensures.value

pub returns-in-None : goal.returns-in-None
returns-in-None c =
    no_rest c.args.most c.args.reading.now c.args.offset c.args.count c.args.next.now
    c.in-None.ensures.value
