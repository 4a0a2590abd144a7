-- the block is refused, or the sync is
use Rattle.std.proofs.Common.{◌≡◌, inl, inr, rules, true, false, Ok, Err, [], ◌∷◌, refl}
use Rattle.vt_model.specs.History.{Block}
use Rattle.vt_tree.specs.Calls.{put, sync}
use Rattle.vt_use.proofs.one_block.WriteBlockBlockJobUnit.run.Goals as goal

pub returns-in_err-score : goal.returns-in_err-score
returns-in_err-score g c =
    let b : Block = record { kind = c.args.self.now.kind; bytes = c.args.self.now.bytes.now } in
    let err = c.in_err-score.field-0.0 in
    let is : c.from_residual.result ≡ Err err = search rules in
    rw is (
      put b (Err err) ∷ [],
      (c.put.new.self, c.in_err-score.ensures.done, refl),
      λ no. absurd (let never : true ≡ false = no in cc),
      (inl refl, tt),
    )

pub returns-in_err-sync : goal.returns-in_err-sync
returns-in_err-sync g c =
    let b : Block = record { kind = c.args.self.now.kind; bytes = c.args.self.now.bytes.now } in
    let err = c.in_err-sync.field-0.0 in
    let given = c.in_ok-score.score in
    let is : c.from_residual-in_err-sync.result ≡ Err err = search rules in
    rw is (
      put b (Ok given) ∷ sync (Err err) ∷ [],
      (c.put.new.self, c.in_ok-score.ensures.done, (c.sync.new.self, c.in_err-sync.ensures, refl)),
      λ no. absurd (let never : true ≡ false = no in cc),
      (inr (given, refl), tt),
    )
