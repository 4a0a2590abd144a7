-- What a history one block longer holds, and why a part stays sound.
use Rattle.std.proofs.Common.{◌≡◌, ◌≢◌, ℕ, suc, ne_eqb, List, [], ◌∷◌, ◌++◌, sym, ap, ◌∙◌, Bool, true, false, ◌==◌, if◌then◌else◌}
use Rattle.std.specs.Prelude.{Option, Some, None}
use Rattle.vt_turns.specs.Meaning.{Lawful}
use Rattle.vt_turns_example.specs.declared.part.Block.{Block}
use Rattle.vt_turns_example.specs.declared.part.Part.{Part}
use Rattle.vt_turns_example.specs.declared.part.Part.TheVariants.{Log, Shard}
use Rattle.vt_turns_example.specs.Blocks.{number_from}
use Rattle.vt_turns_example.specs.Parts.{part_means, covers, covers_key, sound_for}

-- another key's number stays
pub number_outside : (n : ℕ) (h : List Block) (b : Block) (key : ℕ) → (b.key ≢ key)
    → number_from n h key ≡ number_from n (h ++ b ∷ []) key
number_outside n [] b key other =
    sym (ap (λ (t : Bool). if t then Some n else None) (ne_eqb b.key key other))
number_outside n (c ∷ cs) b key other =
    ap (λ (o : Option ℕ). if c.key == key then Some n else o)
    (number_outside (suc n) cs b key other)

-- the log and the shards keep to it
pub part_lawful : Lawful part_means
part_lawful = record {
  outside = λ o. outside o.kept;
  further = λ o m n x le w. tt;
}
  where
    outside : (kept : Bool) (h : List Block) (b : Block) (x : Part)
        → (kept ≡ true → covers x b ≡ false) → sound_for kept h x
        → sound_for kept (h ++ b ∷ []) x
    outside kept h b (Log l) out sound = λ k. absurd (let f = out k in cc)
    outside kept h b (Shard s) out sound = λ k key inside.
        sound k key inside
        ∙ number_outside 0 h b key (λ e. let f = out k in cc (inside, f, ap (covers_key s) e))
