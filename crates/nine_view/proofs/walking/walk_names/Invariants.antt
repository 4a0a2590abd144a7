use Rattle.std.proofs.Common.{◌≡◌, ◌+◌, ◌≤◌, ◌++◌, ℕ, Ok, List, [], ◌∷◌, length, map}
use Rattle.std.specs.Prelude.{IfOk, MatchOption}
use Rattle.std.specs.Option.{option_map_or}
use Rattle.vac_read.specs.Asking.{ReadsFew}
use Rattle.vac_read.specs.Kept.{IsRightKept}
use Rattle.nine_wire.specs.Views.{wire_qid}
use Rattle.nine_view.specs.Walking.{AreQids, IsToldPlace}
use Rattle.nine_view.specs.Walks.{Walks}
use Rattle.nine_view.proofs.Steps.{a_walk}
use Rattle.nine_view.proofs.WalkAsking.{Went}
use Rattle.nine_view.proofs.walking.walk_names.Given as goal

-- the names so far were walked
abbrev pub invariant-loop-left : goal.invariant-loop-left
invariant-loop-left g l = record {
  front : List (List ℕ);
  names_are : MatchOption l.left (l.names ≡ front)
      (λ left. l.names ≡ front ++ left.0.now ∷ left.1);
  few : length l.qids.items ≤ length front;
  paths : AreQids l.qids.items;
  told : IfOk l.end IsToldPlace;
  reads : ReadsFew g.B.Blocks.does g.B.Blocks.holds g.B.Scorer.score_of l.fn.blocks l.blocks
      (Ok (tt {0}))
      (λ blocks. IsRightKept blocks l.fn.kept → IsRightKept blocks l.kept
      × Walks blocks (Ok l.fn.from) front (a_walk (map wire_qid l.qids.items) l.end))
      (λ blocks n. IsRightKept blocks l.fn.kept
      → Went (g.B.Scorer.score_of []) blocks l.fn.kept l.kept (Ok l.fn.from) front l.end n);
}

abbrev pub decreases-loop-left : goal.decreases-loop-left
decreases-loop-left g l = option_map_or (λ left. length left.1 + 1) l.left 0
