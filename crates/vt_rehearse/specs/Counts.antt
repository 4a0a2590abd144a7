-- What is counted of each round of a rehearsal.
use Rattle.std.specs.Prelude.{ℕ, ◌+◌, Bool, ◌&&◌, if◌then◌else◌}
use Rattle.vt_rehearse.specs.declared.summary.Summary.{Summary}

-- nothing was done yet
abbrev pub nothing_done : Summary
nothing_done = record {
  events = 0;
  writes = 0;
  accepted = 0;
  held = 0;
  reads = 0;
  found = 0;
  missing = 0;
  syncs = 0;
  crashes = 0;
  lost = 0;
  blocks = 0;
  compared = 0;
  ok = Bool.true;
}

-- so many events of the store
abbrev pub with_events : (events : ℕ) → Summary → Summary
with_events events s = record s { events = s.events + events }

-- what the store gave was compared with the list, and is the same or not
abbrev pub with_compared : (is_same : Bool) → Summary → Summary
with_compared is_same s = record s { compared = s.compared + 1; ok = s.ok && is_same }

-- a write, which is one event, of a word that the store held, or that it took in
abbrev pub with_write : (is_held : Bool) → Summary → Summary
with_write is_held s =
    if is_held then record (with_events 1 s) { writes = s.writes + 1; held = s.held + 1 }
    else record (with_events 1 s) { writes = s.writes + 1; accepted = s.accepted + 1 }

-- a read, which is one event, of a word that the store has, or lacks
abbrev pub with_read : (is_found : Bool) → Summary → Summary
with_read is_found s =
    if is_found then record (with_events 1 s) { reads = s.reads + 1; found = s.found + 1 }
    else record (with_events 1 s) { reads = s.reads + 1; missing = s.missing + 1 }

-- the summary with one sync more
abbrev pub with_synced : Summary → Summary
with_synced s = record s { syncs = s.syncs + 1 }

-- a crash that cut off so many blocks
abbrev pub with_crash : (lost : ℕ) → Summary → Summary
with_crash lost s = record s { crashes = s.crashes + 1; lost = s.lost + lost }
