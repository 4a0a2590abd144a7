use Rattle.std.proofs.Common.{◌≡◌, ◌+◌, ◌-◌, ℕ, List, ◌++◌, length, take, drop, replicate, sym, ◌∙◌, ap, arith, take-append-drop}
use Rattle.std.proofs.lemmas.List.{drop-replicate}
use Rattle.vt_base.specs.Filled.{filled}
use Rattle.vt_base.proofs.fields.filled.Goals as goal

-- what begins with these bytes, and goes on with zeros
fills : (n len : ℕ) (bytes field : List ℕ) → len ≡ length bytes → take len field ≡ bytes
    → drop len field ≡ drop len (replicate n 0) → field ≡ filled n bytes
fills n len bytes field same front back =
    sym (take-append-drop len field)
    ∙ (λ i. front i ++ back i)
    ∙ ap (λ (l : List ℕ). bytes ++ l) (drop-replicate len n 0)
    ∙ ap (λ (k : ℕ). bytes ++ replicate (n - k) 0) same

pub returns-clause-bytes : goal.returns-clause-bytes
returns-clause-bytes g c =
    fills _ (0 + length c.args.bytes.now) c.args.bytes.now c.put.new.buf (omega arith)
    c.put.ensures.written c.put.ensures.behind
