-- Which parts of a store have stopped, as it tells a session.
use Rattle.std.proofs.Common.{◌≡◌, ◌⊎◌, ⊎_elim, inl, inr, ◌+◌, ◌<◌, ℕ, zero, suc, List, [], ◌∷◌, ◌++◌, length, map, Option, Some, None, refl, sym, ◌∙◌, ap, subst, arith}
use Rattle.std.proofs.lemmas.List.{length-map}
use Rattle.std.proofs.lemmas.List.Elements.{Contains-append_left, Contains-append_right, Contains-append_cases, Contains-push_cases}
use Rattle.std.proofs.lemmas.Option.{same_Some, slice_get_within}
use Rattle.std.specs.List.{Contains}
use Rattle.std.specs.Option.{option_and_then, option_or, option_to_list}
use Rattle.std.specs.Prelude.{slice_get}
use Rattle.vt_bloom.specs.Bloom.{BloomState}
use Rattle.vt_model.specs.Causes.{WritesTo, Part, log, section}
use Rattle.vt_base.specs.Protocol.{Operation, ping, read, write, sync}
use Rattle.vt_shard.specs.Shard.{ShardState}
use Rattle.vt_core.specs.Asking.{shard_of, stop_for}
use Rattle.vt_core.specs.Core.{CoreState, setup_of, stops_of}
use Rattle.vt_requests.specs.Driven.{section_stops, stops_in}
use Rattle.vt_requests.proofs.Whys.{log_stop_same, shard_stops_same}
use Rattle.vt_log.proofs.Lists.{slice_get_left}

abbrev stops_at : {D : Type 0} → List (ShardState D) → List (Option ℕ)
stops_at shards = map (λ s. s.section.stopped) shards

abbrev if_stopped : Part → Option ℕ → List (Part × ℕ)
if_stopped part stop = map (λ call. (part, call)) (option_to_list stop)

-- ---- what has stopped is in the list

part_has : (part : Part) (stop : Option ℕ) (call : ℕ) → stop ≡ Some call → Contains (if_stopped part stop) (part, call)
part_has part stop call is = subst (λ (o : Option ℕ). Contains (if_stopped part o) (part, call)) (sym is) (0, omega arith, refl)

section_has : (first : ℕ) (stops : List (Option ℕ)) (i call : ℕ) → slice_get stops i ≡ Some (Some call) → Contains (section_stops first stops) (section (first + i), call)
section_has first [] i call at = absurd (cc)
section_has first (o ∷ stops) zero call at =
    let here = part_has (section first) o call (same_Some o (Some call) at) in
    let same : first ≡ first + 0 = omega arith in
    Contains-append_left (if_stopped (section first) o) (section_stops (first + 1) stops) (section (first + 0), call)
    (subst (λ (n : ℕ). Contains (if_stopped (section first) o) (section n, call)) same here)
section_has first (o ∷ stops) (suc i) call at =
    let next : first + 1 + i ≡ first + suc i = omega arith in
    Contains-append_right (if_stopped (section first) o) (section_stops (first + 1) stops) (section (first + suc i), call)
    (subst (λ (n : ℕ). Contains (section_stops (first + 1) stops) (section n, call)) next (section_has (first + 1) stops i call at))

pub log_stop_has : {D : Type 0} (k : CoreState D) (call : ℕ) → k.log.stopped ≡ Some call → Contains (stops_in k) (log, call)
log_stop_has k call is =
    Contains-append_left (if_stopped log k.log.stopped) (section_stops 0 (stops_at k.shards)) (log, call) (part_has log k.log.stopped call is)

pub shard_stop_has : {D : Type 0} (k : CoreState D) (i call : ℕ) → slice_get (stops_at k.shards) i ≡ Some (Some call) → Contains (stops_in k) (section i, call)
shard_stop_has k i call at =
    let same : 0 + i ≡ i = omega arith in
    Contains-append_right (if_stopped log k.log.stopped) (section_stops 0 (stops_at k.shards)) (section i, call)
    (subst (λ (n : ℕ). Contains (section_stops 0 (stops_at k.shards)) (section n, call)) same (section_has 0 (stops_at k.shards) i call at))

-- ---- and what is in it has stopped

part_from : (part : Part) (stop : Option ℕ) (p : Part × ℕ) → Contains (if_stopped part stop) p → (call : ℕ) × (stop ≡ Some call) × ((part, call) ≡ p)
part_from part None p has = absurd (omega (arith, has.1))
part_from part (Some call) p has = (
  call,
  refl,
  ⊎_elim (λ none. absurd (omega (arith, none.1))) (λ is. is) (Contains-push_cases [] (part, call) p has),
)

section_from : (first : ℕ) (stops : List (Option ℕ)) (p : Part × ℕ) → Contains (section_stops first stops) p
    → (i : ℕ) × (call : ℕ) × (slice_get stops i ≡ Some (Some call)) × ((section (first + i), call) ≡ p)
section_from first [] p has = absurd (omega (arith, has.1))
section_from first (o ∷ stops) p has = ⊎_elim
    (λ here.
    let it = part_from (section first) o p here in
    let same : first ≡ first + 0 = omega arith in
    (0, it.0, ap Some it.1, subst (λ (n : ℕ). (section n, it.0) ≡ p) same it.2))
    (λ later.
    let it = section_from (first + 1) stops p later in
    let next : first + 1 + it.0 ≡ first + suc it.0 = omega arith in
    (suc it.0, it.1, it.2, subst (λ (n : ℕ). (section n, it.1) ≡ p) next it.3))
    (Contains-append_cases (if_stopped (section first) o) (section_stops (first + 1) stops) p has)

-- ---- stops that stay

pub stops_stay : {D : Type 0} (old new : CoreState D) → length new.shards ≡ length old.shards
    → ((i call : ℕ) → slice_get (stops_of old) i ≡ Some (Some call) → slice_get (stops_of new) i ≡ Some (Some call)) → (p : Part × ℕ) → Contains (stops_in old) p → Contains (stops_in new) p
stops_stay {D} old new many stay p has = ⊎_elim
    (λ here.
    let it = part_from log old.log.stopped p here in
    subst (λ (q : Part × ℕ). Contains (stops_in new) q) it.2 (log_stop_has new it.0 (same_Some new.log.stopped (Some it.0) (stay 0 it.0 (ap Some it.1)))))
    (λ here.
    let it = section_from 0 (stops_at old.shards) p here in
    let same : it.0 ≡ 0 + it.0 = omega arith in
    subst (λ (q : Part × ℕ). Contains (stops_in new) q) it.3
    (subst (λ (n : ℕ). Contains (stops_in new) (section n, it.1)) same (shard_stop_has new it.0 it.1 (shard_stays it.0 it.1 it.2))))
    (Contains-append_cases (if_stopped log old.log.stopped) (section_stops 0 (stops_at old.shards)) p has)
  where
    filter_of : CoreState D → List (Option ℕ)
    filter_of k = map (λ (b : BloomState D). b.calls.stopped) (option_to_list k.bloom)

    shard_stays : (i call : ℕ) → slice_get (stops_at old.shards) i ≡ Some (Some call) → slice_get (stops_at new.shards) i ≡ Some (Some call)
    shard_stays i call at =
        let within = slice_get_within (stops_at old.shards) i (Some call) at in
        let here : i < length (stops_at new.shards) =
        omega (arith, within, many, length-map old.shards (λ (s : ShardState D). s.section.stopped), length-map new.shards (λ (s : ShardState D). s.section.stopped)) in
        sym (slice_get_left (stops_at new.shards) (filter_of new) i here)
        ∙ stay (suc i) call (slice_get_left (stops_at old.shards) (filter_of old) i within ∙ at)

pub stops_in_same : {D : Type 0} (old new : CoreState D) → length new.shards ≡ length old.shards → stops_of new ≡ stops_of old → stops_in new ≡ stops_in old
stops_in_same old new many same =
    ap (λ (o : Option ℕ). if_stopped log o ++ section_stops 0 (stops_at new.shards)) (log_stop_same old new same)
    ∙ ap (λ (stops : List (Option ℕ)). if_stopped log old.log.stopped ++ section_stops 0 stops) (shard_stops_same old new same many)

-- ---- the part that an operation was refused for

stopped_or : (a b : Option ℕ) (call : ℕ) → option_or a b ≡ Some call → (a ≡ Some call) ⊎ (b ≡ Some call)
stopped_or None b call is = inr is
stopped_or (Some n) b call is = inl is

at_shard : {D : Type 0} (shards : List (ShardState D)) (i call : ℕ) → option_and_then (λ (s : ShardState D). s.section.stopped) (slice_get shards i) ≡ Some call
    → slice_get (stops_at shards) i ≡ Some (Some call)
at_shard [] i call is = absurd (cc)
at_shard (s ∷ shards) zero call is = ap Some is
at_shard (s ∷ shards) (suc i) call is = at_shard shards i call is

pub stop_known : {D : Type 0} (score : List ℕ → List ℕ) (m : Operation) (k : CoreState D) (call : ℕ) → stop_for score k m ≡ Some call
    → (part : Part) × WritesTo score (setup_of k) m part × Contains (stops_in k) (part, call)
stop_known score ping k call is = absurd (cc)
stop_known score (read s kind count) k call is = absurd (cc)
stop_known score sync k call is = (log, refl, log_stop_has k call is)
stop_known {D} score (write kind bytes) k call is = ⊎_elim
    (λ of_log. (log, inl refl, log_stop_has k call of_log))
    (λ of_shard. (section (shard_of k (score bytes)), inr refl, shard_stop_has k (shard_of k (score bytes)) call (at_shard k.shards (shard_of k (score bytes)) call of_shard)))
    (stopped_or k.log.stopped (option_and_then (λ (s : ShardState D). s.section.stopped) (slice_get k.shards (shard_of k (score bytes)))) call is)
