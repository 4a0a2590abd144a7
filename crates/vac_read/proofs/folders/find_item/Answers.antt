use Rattle.std.proofs.Common.{◌≡◌, ◌+◌, ◌*◌, ◌≤◌, ℕ, None, List, [], Result, Ok, Err, refl, sym, subst, inl, arith}
use Rattle.std.specs.Prelude.{OnOk}
use Rattle.std.proofs.lemmas.Result.{err_from_is_err_and}
use Rattle.vt_tree.specs.Maps.{BlockMap}
use Rattle.vt_tree.specs.declared.entry.Entry.{Entry}
use Rattle.vac_read.specs.declared.error.VacBad.{VacBad}
use Rattle.vac_read.specs.declared.kept.KeptFolder.{KeptFolder}
use Rattle.vac_read.specs.declared.node.Stored.{Stored}
use Rattle.vac_read.specs.declared.node.Stored.TheVariants as stored
use Rattle.vac_read.specs.Asking.{EnterAsks, FindAsks, leaf_blocks}
use Rattle.vac_read.specs.Kept.{KeepsStored, StaysKept}
use Rattle.vac_read.specs.Reading.{FindsItem}
use Rattle.vac_read.proofs.Few.{few_as, few_nothing, few_then}
use Rattle.vac_read.proofs.Keeps.{at_within, stays_leaf, stays_same}
use Rattle.vac_read.proofs.folders.find_item.Goals as goal

-- ---- a file

pub returns-in_default-clause-finds : goal.returns-in_default-clause-finds
returns-in_default-clause-finds g c =
    few_nothing g.B.Blocks.does g.B.Blocks.holds g.B.Scorer.score_of c.args.blocks.now (Ok None) _ _
    refl
    (λ map right. (
      right,
      subst (λ (s : Stored). FindsItem s c.args.name.now (Ok None) map) (sym c.in_default.is) refl,
    ))
    (λ map. record { most = omega arith; again = λ was. omega arith })

pub returns-in_default-clause-stays : goal.returns-in_default-clause-stays
returns-in_default-clause-stays g c = stays_same c.args.node.now.stored c.args.kept.now

-- ---- a folder of which the records aren't told

entered : (zero : List ℕ) (entries metadata : Entry) (kept : List KeptFolder) (map : BlockMap)
    (n : ℕ) → EnterAsks zero entries metadata kept map n
    → FindAsks zero (stored.Folder entries metadata) kept map n
entered zero entries metadata kept map n it = record {
  most = let m = it.most in omega (arith, m);
  again = λ was. let none = it.again was in omega (arith, none);
}

pub returns-in_err-at-clause-finds : goal.returns-in_err-at-clause-finds
returns-in_err-at-clause-finds g c =
    let p = err_from_is_err_and c.from_residual.result c.from_residual.ensures.1 in
    let bad = c.in_err-at.field-0.0 in
    rw (p.1, p.2) (few_as g.B.Blocks.does g.B.Blocks.holds g.B.Scorer.score_of
    c.args.blocks.now c.enter.new.blocks (Err bad) (Err bad) _ _ _ _ refl c.in_err-at.ensures.reads
    (λ map told right.
    let t = told right in (
      t.0,
      subst (λ (s : Stored). FindsItem s c.args.name.now (Err bad) map) (sym c.in-Folder.is)
          (λ some. inl (t.1 some)),
    ))
    (λ map n told few.
    subst (λ (s : Stored). FindAsks (g.B.Scorer.score_of []) s c.args.kept.now map n)
    (sym c.in-Folder.is)
    (entered (g.B.Scorer.score_of []) c.in-Folder.entries c.in-Folder.metadata c.args.kept.now map n
    few)))

pub returns-in_err-at-clause-stays : goal.returns-in_err-at-clause-stays
returns-in_err-at-clause-stays g c =
    subst (λ (s : Stored). StaysKept s c.args.kept.now c.enter.new.self) (sym c.in-Folder.is)
    c.enter.ensures.stays

-- ---- a folder of which they are

pub find-requires : goal.find-requires
find-requires g c =
    at_within c.in-Folder.entries c.in-Folder.metadata c.enter.new.self c.in_ok-at.at
    c.in_ok-at.ensures.kept

-- and the item of the name
found_too : (zero : List ℕ) (entries metadata : Entry) (kept : List KeptFolder) (map : BlockMap)
    (m n : ℕ) → EnterAsks zero entries metadata kept map m → n ≤ 2 * leaf_blocks entries
    → FindAsks zero (stored.Folder entries metadata) kept map (m + n)
found_too zero entries metadata kept map m n it few = record {
  most = let most = it.most in omega (arith, most, few);
  again = λ was. let none = it.again was in omega (arith, none, few);
}

pub returns-clause-finds : goal.returns-clause-finds
returns-clause-finds g c =
    let e = c.in-Folder.entries in
    let m = c.in-Folder.metadata in
    let name = c.args.name.now in
    few_then g.B.Blocks.does g.B.Blocks.holds g.B.Scorer.score_of
    c.args.blocks.now c.enter.new.blocks c.find.new.blocks c.in_ok-at.at c.find.result c.find.result
    _ _ _ _ _ _ refl c.in_ok-at.ensures.reads (c.find.ensures.reads e m c.in_ok-at.ensures.kept)
    (λ map entered found right.
    let f = found (entered right).0 in (
      f.0,
      subst (λ (s : Stored). FindsItem s name c.find.result map) (sym c.in-Folder.is) f.1,
    ))
    (λ map n more entered found few also.
    subst (λ (s : Stored). FindAsks (g.B.Scorer.score_of []) s c.args.kept.now map (n + more))
    (sym c.in-Folder.is)
    (found_too (g.B.Scorer.score_of []) e m c.args.kept.now map n more few also))

-- it is kept, whatever was found
kept_then : {X : Type 0} (result : Result X VacBad) (s : Stored) (folders : List KeptFolder)
    → KeepsStored s folders → OnOk result (KeepsStored s folders)
kept_then (Ok x) s folders kept = kept
kept_then (Err bad) s folders kept = tt

pub returns-clause-kept : goal.returns-clause-kept
returns-clause-kept g c =
    kept_then c.find.result c.args.node.now.stored c.find.new.self
    (subst (λ (s : Stored). KeepsStored s c.find.new.self) (sym c.in-Folder.is) (
      c.in_ok-at.at,
      c.find.ensures.kept c.in-Folder.entries c.in-Folder.metadata c.in_ok-at.at
          c.in_ok-at.ensures.kept,
    ))

pub returns-clause-stays : goal.returns-clause-stays
returns-clause-stays g c =
    subst (λ (s : Stored). StaysKept s c.args.kept.now c.find.new.self) (sym c.in-Folder.is)
    (stays_leaf (stored.Folder c.in-Folder.entries c.in-Folder.metadata) c.args.kept.now
    c.enter.new.self c.find.new.self c.enter.ensures.stays c.find.ensures.kept
    c.find.ensures.costs)
