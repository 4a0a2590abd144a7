use Rattle.std.proofs.Common.{◌≡◌, length, sym, ◌∙◌, arith}
use Rattle.std.specs.List.{position_or_len}
use Rattle.std.specs.Map.{keys_of}
use Rattle.std.proofs.lemmas.List.{length-map}
use Rattle.vt_base.specs.Key.{same_key}
use Rattle.vt_base.specs.declared.key.Key.{Key}
use Rattle.vt_base.specs.declared.place.Info.{Info}
use Rattle.vt_icache.proofs.Fronts.{find_front, none_front, position_some, position_none}
use Rattle.vt_icache.proofs.Pairs.{values, found_passes, equal_keys, value_at, slice_get_front}
use Rattle.vt_icache.proofs.cache.IndexCache.dirty_at.Goals as goal

pub returns-then-at-self-clause-found : goal.returns-then-at-self-clause-found
returns-then-at-self-clause-found c =
    let at : position_or_len (same_key c.args.key.now) (keys_of c.self.inside.infos.entries) ≡ c.in-Some.at =
    position_some (same_key c.args.key.now) (keys_of c.self.inside.infos.entries) c.in-Some.at (sym c.in-Some.ensures.index) in
    rw (← c.self.view_is)
    (sym (find_front (λ (x : Info). x.key) (same_key c.args.key.now) c.self.inside.infos.entries c.self.inside.dirty c.in-Some.info.now
    c.self.invariant.info_keys (omega (arith, at)) (sym c.in-Some.ensures.value)))

pub returns-then-at-self-clause-place : goal.returns-then-at-self-clause-place
returns-then-at-self-clause-place c =
    rw (← c.self.view_is)
    (slice_get_front (values (λ (x : Info). x.key) c.self.inside.infos.entries) c.in-Some.at c.self.inside.dirty (omega arith)
    ∙ value_at (λ (x : Info). x.key) c.self.inside.infos.entries c.in-Some.at _ c.in-Some.ensures.entry)

pub returns-then-at-self-clause-key : goal.returns-then-at-self-clause-key
returns-then-at-self-clause-key c =
    sym (equal_keys c.args.key.now c.in-Some.info.now.key
    (found_passes (λ (x : Info). x.key) (same_key c.args.key.now) c.self.inside.infos.entries c.in-Some.info.now
    c.self.invariant.info_keys (sym c.in-Some.ensures.value)))

pub returns-else-at-self-clause-found : goal.returns-else-at-self-clause-found
returns-else-at-self-clause-found c =
    let at : position_or_len (same_key c.args.key.now) (keys_of c.self.inside.infos.entries) ≡ c.in-Some.at =
    position_some (same_key c.args.key.now) (keys_of c.self.inside.infos.entries) c.in-Some.at (sym c.in-Some.ensures.index) in
    rw (← c.self.view_is)
    (sym (none_front (λ (x : Info). x.key) (same_key c.args.key.now) c.self.inside.infos.entries c.self.inside.dirty
    c.self.invariant.info_keys (omega (arith, at))))

pub returns-in_default-clause-found : goal.returns-in_default-clause-found
returns-in_default-clause-found c =
    let none = position_none (same_key c.args.key.now) (keys_of c.self.inside.infos.entries) (sym c.in_default.ensures.index) in
    let len : length (keys_of c.self.inside.infos.entries) ≡ length c.self.inside.infos.entries = length-map c.self.inside.infos.entries (λ (e : Key × Info). e.0) in
    rw (← c.self.view_is)
    (sym (none_front (λ (x : Info). x.key) (same_key c.args.key.now) c.self.inside.infos.entries c.self.inside.dirty
    c.self.invariant.info_keys (omega (arith, none, len, c.self.invariant.within))))
