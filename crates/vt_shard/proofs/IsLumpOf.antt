-- The blocks in memory are those of their keys.
use Rattle.std.proofs.Common.{◌≡◌, ⊎_elim, ℕ, ◌-◌, Bool, true, false, List, length, Option, Some, None, refl, sym, subst, Bor, Contains}
use Rattle.std.specs.Prelude.{IfSome, option_copied}
use Rattle.lru.proofs.CallerLemmas.{Contains-take, Contains-lookup, Contains-promoted, Contains-put_entries}
use Rattle.vt_base.specs.declared.key.Key.{Key}
use Rattle.vt_base.specs.Key.{same_key}
use Rattle.vt_icache.proofs.Pairs.{equal_keys}
use Rattle.vt_lumps.specs.Lumps.{LumpsState, cached_bytes, used, with_lump, without_last}
use Rattle.vt_model.specs.History.{History}
use Rattle.vt_shard.specs.Search.{IsLumpOf}

module _ (score : List ℕ → List ℕ) (h : History) where
  -- each is the block of its key
  abbrev pub AreRight : LumpsState → Type 0
  AreRight s = (key : Key) (bytes : List ℕ) → Contains s.entries (key, bytes) → IsLumpOf score h key bytes

  pub right_used : (key : Key) (s : LumpsState) → AreRight s → AreRight (used key s)
  right_used key s right k bytes it = right k bytes (Contains-promoted (same_key key) s.entries (k, bytes) it)

  pub right_dropped : (s : LumpsState) → AreRight s → AreRight (without_last s)
  right_dropped s right k bytes it = right k bytes (Contains-take (length s.entries - 1) s.entries (k, bytes) it)

  pub right_kept : (key : Key) (bytes : List ℕ) (s : LumpsState) → AreRight s → IsLumpOf score h key bytes
      → AreRight (with_lump key bytes s)
  right_kept key bytes s right new k b it = ⊎_elim
      (λ (was : Contains s.entries (k, b)). right k b was)
      (λ put. subst (λ (x : List ℕ). IsLumpOf score h k x) (sym put.0)
      (subst (λ (x : Key). IsLumpOf score h x bytes) (sym (⊎_elim
      (λ (is : k ≡ key). is)
      (λ found. sym (equal_keys key k found.2))
      put.1)) new))
      (Contains-put_entries same_key s key bytes (k, b) it)

  pub right_found : (key : Key) (s : LumpsState) (o : Option (Bor (List ℕ))) → AreRight s → option_copied o ≡ cached_bytes key s
      → IfSome o (λ bytes. IsLumpOf score h key bytes.now)
  right_found key s None right is = tt
  right_found key s (Some b) right is =
      let it = Contains-lookup (same_key key) s.entries b.now (sym is) in
      subst (λ (x : Key). IsLumpOf score h x b.now) (sym (equal_keys key it.0 it.2)) (right it.0 b.now it.1)

  -- kept or not
  pub right_after : (key : Key) (bytes : List ℕ) (s new : LumpsState) (done : Bool) → AreRight s → IsLumpOf score h key bytes
      → (done ≡ true → new ≡ with_lump key bytes s) → (done ≡ false → new ≡ s) → AreRight new
  right_after key bytes s new true right is on off = subst AreRight (sym (on refl)) (right_kept key bytes s right is)
  right_after key bytes s new false right is on off = subst AreRight (sym (off refl)) right
