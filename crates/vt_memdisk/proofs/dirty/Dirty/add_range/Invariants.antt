use Rattle.std.proofs.Common.{◌≡◌, ◌⊎◌, ◌≤◌, ◌<◌, ℕ, length}
use Rattle.vt_memdisk.specs.Sectors.{IsAmongFirst}
use Rattle.vt_memdisk.proofs.dirty.Dirty.add_range.Given as goal

abbrev pub invariant-loop-sector : goal.invariant-loop-sector
invariant-loop-sector l = record {
  sectors : length l.self.place.items ≡ length l.initial.self.place.items;
  added : (s : ℕ) → l.first ≤ s → s < l.sector → IsAmongFirst l.self.place.items l.self.count s;
  kept : (s : ℕ) → s < length l.initial.self.place.items
      → IsAmongFirst l.initial.self.place.items l.initial.self.count s
      → IsAmongFirst l.self.place.items l.self.count s;
  others : (s : ℕ) → s < length l.initial.self.place.items → (s < l.first) ⊎ (l.last < s)
      → IsAmongFirst l.self.place.items l.self.count s
      → IsAmongFirst l.initial.self.place.items l.initial.self.count s;
}
