-- What one worker does.
use Rattle.std.specs.Prelude.{◌≡◌, List, [], ◌++◌, length, ℕ}
use mathlib.Core.List.{IsPrefix}
use Rattle.vt_turns.specs.Views.{HoldsNone}
use Rattle.vt_turns_example.specs.declared.link.Line.{Line}
use Rattle.vt_turns_example.specs.Stores.{Pass}
use Rattle.vt_turns_example.specs.Talk.{IsTalk}

-- the pass p becomes r, while these lines were told
pub record Works (p r : Pass) (lines : List Line) : Type 0 where
  pub table : r.table_id ≡ p.table_id
  pub none_out : (r.me.1 ≡ []) × (r.me.0.away ≡ 0)
  pub opening : r.me.0.opening ≡ p.me.0.opening
  pub share : r.me.0.share ≡ p.me.0.share
  pub none_held : HoldsNone r.me.0
  pub seen : IsPrefix p.me.0.seen r.me.0.seen
  pub added : List ℕ
  pub own : r.me.0.own ≡ p.me.0.own ++ added
  pub talk : IsTalk r.me.0.seen (length p.me.0.seen) lines added
