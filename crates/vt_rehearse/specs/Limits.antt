-- That no number of a summary comes so far that it can't be counted on.
use Rattle.std.specs.Prelude.{ℕ, ◌+◌, ◌*◌, ◌-◌, ◌^◌, ◌≤◌}
use Rattle.vt_rehearse.specs.declared.summary.Summary.{Summary}

-- how many events one write or one sync may take
abbrev pub EVENTS_MOST : ℕ
EVENTS_MOST = 2 ^ 12

-- how far its numbers come in all rounds
abbrev pub ROUNDS_MOST : ℕ
ROUNDS_MOST = 2 ^ 62

-- before a round no number is so great that it can't rise by what the round adds, and within one
-- none is so great that it can't rise by what is added at once
abbrev pub MOST : ℕ
MOST = 2 ^ 63

-- a bound of each count, far enough below 2 ^ 64 that a round's own counts fit above it
abbrev pub LIMIT : ℕ
LIMIT = 2 ^ 64 - 2 ^ 8

-- all its numbers together
abbrev pub summary_total : Summary → ℕ
summary_total s =
    s.events + s.writes + s.accepted + s.held + s.reads + s.found + s.missing + s.syncs
    + s.crashes + s.lost + s.compared

-- The numbers of the summary are this together at most, and so is each of them.
abbrev pub AreAtMost : (most : ℕ) → Summary → Type 0
AreAtMost most s = summary_total s ≤ most

-- by no more do they rise in a round
abbrev pub GrowsByRound : (old new : Summary) → Type 0
GrowsByRound old new = (most : ℕ) → AreAtMost most old → AreAtMost (most + 2 * EVENTS_MOST) new
