use Rattle.std.proofs.Common.{◌≡◌, ◌+◌, ◌++◌, List, ℕ, map, take}
use Rattle.std.specs.Prelude.{All}
use Rattle.std.specs.List.{AllZip}
use Rattle.vt_check.specs.Following.{HasFollowed, IsWithinWindow, TestsAs, cut_bytes, taken_by_cuts}
use Rattle.vt_check.proofs.clumps.Followed.follow.Given as goal

-- the clumps so far were followed
abbrev pub invariant-loop-i : goal.invariant-loop-i
invariant-loop-i g l = (l.self.clumps ≡ l.fn.self.clumps + l.i)
    × (l.self.used ≡ l.fn.self.used + taken_by_cuts l.version (take l.i l.cuts))
    × ((window : List ℕ) (clumps entries : List (List ℕ)) → HasFollowed g.S.Scorer.score_of l.version clumps entries l.fn.self → All (IsWithinWindow window) l.cuts
    → AllZip (λ cut found. TestsAs g.S.Scorer.score_of (cut_bytes window cut) cut.entry found) l.cuts l.tested
    → HasFollowed g.S.Scorer.score_of l.version (clumps ++ map (cut_bytes window) (take l.i l.cuts)) (entries ++ map (λ cut. cut.entry) (take l.i l.cuts)) l.self)
