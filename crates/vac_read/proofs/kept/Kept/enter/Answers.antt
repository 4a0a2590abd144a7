use Rattle.std.proofs.Common.{◌≡◌, ◌+◌, ◌<◌, ◌≤◌, ◌⊎◌, ℕ, Ok, Err, List, [], ◌∷◌, ◌++◌, length, get_or, refl, sym, ◌∙◌, ap, subst, inl, inr, arith, ⊎_elim, length-append}
use Rattle.std.proofs.lemmas.Result.{err_from_is_err_and}
use Rattle.vt_tree.specs.declared.entry.Entry.{Entry}
use Rattle.vt_tree.specs.Content.{size_of}
use Rattle.vt_tree.specs.Maps.{BlockMap}
use Rattle.vac_model.specs.Trees.{AreFolder}
use Rattle.vac_read.specs.declared.error.VacBad.TheVariants.{NoMemory}
use Rattle.vac_read.specs.declared.kept.KeptFolder.{KeptFolder}
use Rattle.vac_read.specs.declared.node.Stored.TheVariants as stored
use Rattle.vac_read.specs.Kept.{all_cost, IsKeptAt, IsRightFolder, IsRightKept, KeepsFolder, StaysKept}
use Rattle.vac_read.specs.Nodes.{IsDirectory}
use Rattle.vac_read.proofs.Few.{few_as, few_nothing}
use Rattle.vac_read.proofs.Keeps.{all_push, at_push, size_le, stays_push, stays_room, stays_same}
use Rattle.vac_read.proofs.kept.Kept.enter.Goals as goal

pub returns-in-Some-clause-reads : goal.returns-in-Some-clause-reads
returns-in-Some-clause-reads g c =
    few_nothing g.B.Blocks.does g.B.Blocks.holds g.B.Scorer.score_of c.args.blocks.now
    (Ok c.in-Some.at) _ _ refl (λ map right. (right, tt))
    (λ map. record { most = omega arith; again = λ kept. refl })

pub returns-in-Some-clause-stays : goal.returns-in-Some-clause-stays
returns-in-Some-clause-stays g c =
    stays_same (stored.Folder c.args.entries c.args.metadata) c.args.self.now

-- all is let go where the folder has no room beside it
room_made : (entries metadata : Entry) (old new : List KeptFolder) (cost : ℕ)
    → (KeepsFolder entries metadata old → ⊥) → cost ≡ 65536 + size_of metadata
    → (all_cost old + cost ≤ 33685504 → new ≡ old) → (new ≡ old) ⊎ (new ≡ [])
    → StaysKept (stored.Folder entries metadata) old new
room_made entries metadata old new cost none is same left =
    stays_room (stored.Folder entries metadata) old new none
    (λ room. same (subst (λ (n : ℕ). all_cost old + n ≤ 33685504) (sym is) room)) left

fewer : (old new : List KeptFolder) → (new ≡ old) ⊎ (new ≡ []) → all_cost new ≤ all_cost old
fewer old new (inl is) = let e = ap (λ (l : List KeptFolder). all_cost l) is in omega (arith, e)
fewer old new (inr is) = let e = ap (λ (l : List KeptFolder). all_cost l) is in omega (arith, e)

pub returns-in_err-records-clause-stays : goal.returns-in_err-records-clause-stays
returns-in_err-records-clause-stays g c =
    room_made c.args.entries c.args.metadata c.args.self.now c.make_room.new.self _
    c.in_default.ensures (ap (λ (n : ℕ). 65536 + n) c.size_of.ensures) c.make_room.ensures.stays
    c.make_room.ensures.left

pub returns-in_err-at-clause-stays : goal.returns-in_err-at-clause-stays
returns-in_err-at-clause-stays g c =
    subst (λ (l : List KeptFolder).
    StaysKept (stored.Folder c.args.entries c.args.metadata) c.args.self.now l)
    (sym c.in_err-at.ensures.err)
    (room_made c.args.entries c.args.metadata c.args.self.now c.make_room.new.self _
    c.in_default.ensures (ap (λ (n : ℕ). 65536 + n) c.size_of.ensures) c.make_room.ensures.stays
    c.make_room.ensures.left)

-- what is left of what was kept is as right as that was
left_right : (map : BlockMap) (old new : List KeptFolder) → (new ≡ old) ⊎ (new ≡ [])
    → IsRightKept map old → IsRightKept map new
left_right map old new (inl same) right = subst (IsRightKept map) (sym same) right
left_right map old new (inr none) right = subst (IsRightKept map) (sym none) tt

pub returns-in_err-records-clause-reads : goal.returns-in_err-records-clause-reads
returns-in_err-records-clause-reads g c =
    let p = err_from_is_err_and c.from_residual.result c.from_residual.ensures.1 in
    let bad = c.in_err-records.field-0.0 in
    rw (p.1, p.2) (few_as g.B.Blocks.does g.B.Blocks.holds g.B.Scorer.score_of
    c.args.blocks.now c.records_of.new.blocks (Err bad) (Err bad) _ _ _ _ refl
    c.in_err-records.ensures.reads
    (λ map told right.
    (left_right map c.args.self.now c.make_room.new.self c.make_room.ensures.left right, told))
    (λ map n told few. record { most = few; again = λ kept. absurd (c.in_default.ensures kept) }))

pub returns-in_err-at-clause-reads : goal.returns-in_err-at-clause-reads
returns-in_err-at-clause-reads g c =
    let p = err_from_is_err_and c.from_residual-in_err-at.result
    c.from_residual-in_err-at.ensures.1 in
    rw (p.1, p.2) (few_as g.B.Blocks.does g.B.Blocks.holds g.B.Scorer.score_of
    c.args.blocks.now c.records_of.new.blocks (Ok c.in_ok-records.records) (Err NoMemory) _ _ _ _ refl
    c.in_ok-records.ensures.reads
    (λ map told right. (
      subst (IsRightKept map) (sym c.in_err-at.ensures.err)
          (left_right map c.args.self.now c.make_room.new.self c.make_room.ensures.left right),
      λ some. absurd (some refl),
    ))
    (λ map n told few. record { most = few; again = λ kept. absurd (c.in_default.ensures kept) }))

-- ---- the folder is kept then

pub keep-requires-clause-folder : goal.keep-requires-clause-folder
keep-requires-clause-folder g c =
    let ok = c.in_ok-records.ensures in
    record {
      stream = subst IsDirectory (sym c.new-directory.ensures.stream) c.requires.0;
      metadata = c.requires.1;
      are_records = ok.records;
      short = ok.short;
      most = ok.most;
    }

pub keep-requires-clause-room : goal.keep-requires-clause-room
keep-requires-clause-room g c =
    let small = c.in_ok-records.ensures.most in
    subst (λ (n : ℕ). all_cost c.make_room.new.self + (65536 + n) ≤ 33685504) c.size_of.ensures
    (c.make_room.ensures.room (omega (arith, c.size_of.ensures)))

pub returns-clause-kept : goal.returns-clause-kept
returns-clause-kept g c =
    let e = c.args.entries in
    let m = c.args.metadata in
    let folders : List KeptFolder = c.make_room.new.self in
    let new : KeptFolder = record {
      metadata = m;
      records = c.in_ok-records.records;
      directory = c.new-directory.result;
    } in
    subst (λ (l : List KeptFolder). IsKeptAt e m l c.in_ok-at.at) (sym c.in_ok-at.ensures.ok)
    (subst (λ (n : ℕ). IsKeptAt e m (folders ++ new ∷ []) n) (sym c.in_ok-at.ensures.at)
    (at_push e m folders new
    (record { stream = c.new-directory.ensures.stream; metadata_is = refl })))

pub returns-clause-reads : goal.returns-clause-reads
returns-clause-reads g c =
    few_as g.B.Blocks.does g.B.Blocks.holds g.B.Scorer.score_of c.args.blocks.now
    c.records_of.new.blocks (Ok c.in_ok-records.records) (Ok c.in_ok-at.at) _ _ _ _ refl
    c.in_ok-records.ensures.reads
    (λ map are right. (
      subst (IsRightKept map) (sym c.in_ok-at.ensures.ok)
          (all_push (IsRightFolder map) c.make_room.new.self _
          (left_right map c.args.self.now c.make_room.new.self c.make_room.ensures.left right)
          (record {
            are = subst (λ (e : Entry). AreFolder map e c.args.metadata c.in_ok-records.records)
                (sym c.new-directory.ensures.stream) are;
            leaf = inl c.new-directory.ensures.leaf;
          })),
      tt,
    ))
    (λ map n told few. record { most = few; again = λ kept. absurd (c.in_default.ensures kept) })

pub returns-clause-stays : goal.returns-clause-stays
returns-clause-stays g c =
    let e = c.args.entries in
    let m = c.args.metadata in
    let old : List KeptFolder = c.args.self.now in
    let mid : List KeptFolder = c.make_room.new.self in
    stays_push (stored.Folder e m) old mid c.keep.new.self
    (record {
      metadata = m;
      records = c.in_ok-records.records;
      directory = c.new-directory.result;
    })
    c.in_default.ensures
    (room_made e m old mid _ c.in_default.ensures (ap (λ (n : ℕ). 65536 + n) c.size_of.ensures)
    c.make_room.ensures.stays c.make_room.ensures.left)
    c.in_ok-at.ensures.ok (fewer old mid c.make_room.ensures.left) refl
