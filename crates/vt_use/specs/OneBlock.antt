-- One block that is read of a store of blocks, or written to one.
use Rattle.std.specs.Prelude.{ℕ, ◌≡◌, ◌≤◌, ◌⊎◌, Option, Some, None, Result, Ok, Err, IfOk, List, [], ◌∷◌, length}
use Rattle.vt_base.specs.Protocol.{read, write, sync as sync_all, r_read, r_write, r_sync}
use Rattle.vt_base.specs.declared.TheConstants.{MAX_BLOCK}
use Rattle.vt_base.specs.declared.score.Score.{Score}
use Rattle.vt_base.specs.declared.why.Why.{Why}
use Rattle.vt_base.specs.declared.why.Why.TheVariants.{NoMemory}
use Rattle.vt_model.specs.History.{Block}
use Rattle.vt_handler.specs.Serving.{answered}
use Rattle.vt_tree.specs.declared.error.BlockErr.{BlockErr}
use Rattle.vt_tree.specs.Calls.{Call, get, put, sync}
use Rattle.vt_use.specs.Stores.{Exchange}

-- ---- of a store of blocks

-- The store is called for this block, and for nothing else.
abbrev pub ReadsOne : (kind : ℕ) (s : List ℕ) → Result (List ℕ) BlockErr → List Call → Type 0
ReadsOne kind s output calls =
    (calls ≡ get kind s output ∷ []) × IfOk output (λ bytes. length bytes ≤ MAX_BLOCK)

-- A block is put, and then all is synced: the score is told where both are done. Where the block is
-- refused, it isn't called for a sync.
abbrev pub PutsOne : Block → Result Score BlockErr → List Call → Type 0
PutsOne b (Ok score) calls = calls ≡ put b (Ok score) ∷ sync (Ok tt) ∷ []
PutsOne b (Err err) calls =
    (calls ≡ put b (Err err) ∷ [])
    ⊎ ((score : Score) × (calls ≡ put b (Ok score) ∷ sync (Err err) ∷ []))

-- A block is put, and then all is synced; the score is told where both are done, and is that of the
-- block's bytes.
abbrev pub WritesOne : (score_of : List ℕ → List ℕ) → Block → Result Score BlockErr → List Call
    → Type 0
WritesOne score_of b output calls =
    PutsOne b output calls × IfOk output (λ score. score.0 ≡ score_of b.bytes)

-- ---- of a store of this process

-- The store's own answer, where it said no first for this reason, if it did.
abbrev pub own_answer : {T : Type 0} → Result T BlockErr → (first_refusal : Option Why) → Result T Why
own_answer (Ok value) first_refusal = Ok value
own_answer (Err err) (Some why) = Err why
own_answer (Err err) None = Err NoMemory

-- The store is asked for this block, and answers so.
abbrev pub asks_block : (kind : ℕ) (s : List ℕ) → Result (List ℕ) Why → List Exchange
asks_block kind s result =
    (read s kind MAX_BLOCK, answered (λ (bytes : List ℕ). r_read bytes) result) ∷ []

-- The store is asked for this block, and then for a sync.
abbrev pub ArePut : (kind : ℕ) (bytes : List ℕ) → Result Score Why → List Exchange → Type 0
ArePut kind bytes (Ok given) exchanges =
    exchanges ≡ (write kind bytes, Ok (r_write given.0)) ∷ (sync_all, Ok r_sync) ∷ []
ArePut kind bytes (Err why) exchanges =
    (exchanges ≡ (write kind bytes, Err why) ∷ [])
    ⊎ ((given : List ℕ)
    × (exchanges ≡ (write kind bytes, Ok (r_write given)) ∷ (sync_all, Err why) ∷ []))
