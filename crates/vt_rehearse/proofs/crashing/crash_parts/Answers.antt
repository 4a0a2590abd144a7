use Rattle.std.proofs.Common.{◌≡◌, ℕ, List, ◌∷◌, ◌++◌, [], reverse, refl, sym, ◌∙◌, ap, subst, arith}
use Rattle.std.proofs.lemmas.List.{append_assoc, append-nil, reverse-append}
use Rattle.std.proofs.lemmas.List.Elements.{All-contains, Contains-append_right}
use Rattle.std.specs.List.{AllZip, Contains}
use Rattle.vt_part.specs.Parts.{disk_of, table_of}
use Rattle.vt_part.specs.Table.{IsPartition}
use Rattle.vt_part.specs.declared.part.Part.{Part}
use Rattle.vt_rehearse.specs.Crashed.{IsLeftMounted}
use Rattle.vt_rehearse.proofs.crashing.crash_parts.Goals as goal

pub loop-part-init : goal.loop-part-init
loop-part-init g c = (
  [],
  append-nil c.args.parts.items,
  subst (λ (ps : List (Part g.row.D.Denot)). AllZip (IsLeftMounted g.D.Disk g.D.Crashable.leaves c.args.mode) [] (reverse ps)) (sym c.in_ok-left.ensures.items) tt,
)

pub crash_part-requires-clause-table : goal.crash_part-requires-clause-table
crash_part-requires-clause-table g c =
    let part = c.in-Some.part in
    let rest = c.pop.new.self.items in
    let done = c.loop-part.invariant.0 in
    let all : c.args.parts.items ≡ rest ++ part ∷ done =
    sym c.loop-part.invariant.1 ∙ ap (λ (ps : List (Part g.row.D.Denot)). ps ++ done) c.in-Some.ensures.items ∙ append_assoc rest (part ∷ []) done in
    let has : Contains c.args.parts.items part = subst (λ (ps : List (Part g.row.D.Denot)). Contains ps part) (sym all) (Contains-append_right rest (part ∷ done) part (0, omega arith, refl)) in
    All-contains (λ (p : Part g.row.D.Denot). (c : List ℕ) → g.D.Disk.images (disk_of p) c → IsPartition (table_of p) c) c.args.parts.items part c.requires.tables has

pub loop-part-preserved : goal.loop-part-preserved
loop-part-preserved g c =
    let R = IsLeftMounted g.D.Disk g.D.Crashable.leaves c.args.mode in
    let part = c.in-Some.part in
    let rest = c.pop.new.self.items in
    let done = c.loop-part.invariant.0 in
    let before = c.loop-part.left.items in
    let back : reverse c.push.new.self.items ≡ c.crash_part.result ∷ reverse before =
    ap (λ (ps : List (Part g.row.D.Denot)). reverse ps) c.in_ok-push.ensures.items ∙ reverse-append before (c.crash_part.result ∷ []) in (
      part ∷ done,
      sym (append_assoc rest (part ∷ []) done) ∙ ap (λ (ps : List (Part g.row.D.Denot)). ps ++ done) (sym c.in-Some.ensures.items) ∙ c.loop-part.invariant.1,
      subst (λ (ps : List (Part g.row.D.Denot)). AllZip R (part ∷ done) ps) (sym back) (c.crash_part.ensures, c.loop-part.invariant.2),
    )
