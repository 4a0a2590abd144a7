-- A block that is put.
use Rattle.std.proofs.Common.{◌≡◌, ℕ, Bool, true, false, cond, Ok, Err, List, [], ◌∷◌, length, map, refl, sym, ◌∙◌, ap}
use Rattle.std.specs.Prelude.{◌==◌}
use Rattle.std.proofs.lemmas.List.{nil_from_length}
use Rattle.std.proofs.lemmas.Bool.{eqb-true}
use Rattle.vt_base.specs.declared.score.Score.{Score}
use Rattle.vt_model.specs.History.{Block}
use Rattle.vt_tree.specs.declared.error.BlockErr.{BlockErr}
use Rattle.vt_tree.specs.declared.error.TreeErr.TheVariants as errs
use Rattle.vt_tree.specs.Calls.{Call, put, write_of_block}
use Rattle.vt_tree.specs.Growing.{PutsBlock}
use Rattle.vt_tree.proofs.Making.{makes_one}

module _ {S : Type 0} (does : S → Call → S → Type 0) (score_of : List ℕ → List ℕ) (s : S)
    (b : Block) where
  module _ (s' : S) (some : (length b.bytes == 0) ≡ false) where
    alone : write_of_block b ∷ [] ≡ map write_of_block (cond (length b.bytes == 0) [] (b ∷ []))
    alone = ap (λ (t : Bool). map write_of_block (cond t [] (b ∷ []))) (sym some)

    pub was_put : (score : Score) → does s (put b (Ok score)) s' → score.0 ≡ score_of b.bytes
        → PutsBlock does score_of s s' b (Ok score)
    was_put score done scored = record {
      calls = put b (Ok score) ∷ [];
      made = makes_one does s s' (put b (Ok score)) done;
      refused = refl;
      asked = alone;
      scored = scored;
      plain = tt;
    }

    pub was_refused : (err : BlockErr) → does s (put b (Err err)) s'
        → PutsBlock does score_of s s' b (Err (errs.Block err))
    was_refused err done = record {
      calls = put b (Err err) ∷ [];
      made = makes_one does s s' (put b (Err err)) done;
      refused = record {
        before = [];
        last = put b (Err err);
        are = refl;
        accepted = refl;
        refused = refl;
      };
      asked = ([], alone);
      scored = tt;
      plain = tt;
    }
