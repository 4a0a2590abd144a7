use Rattle.std.proofs.Common.{◌≡◌, ◌≤◌, List, length, take, ap, ◌∙◌, arith, length-take}
use Rattle.vt_base.specs.Kind.{IsKind}
use Rattle.vt_base.specs.declared.key.Key.{Key}
use Rattle.vt_base.specs.declared.place.Info.{Info}
use Rattle.vt_icache.specs.View.{state_of}
use Rattle.vt_icache.proofs.Pairs.{values, values_take, keyed_take, all_take}
use Rattle.vt_icache.proofs.Fronts.{take_twice}
use Rattle.vt_icache.proofs.cache.IndexCache.forget_settled.Goals as goal

pub invariant_of-self : goal.invariant_of-self
invariant_of-self c =
    let was = c.self.invariant in
    let did = c.drop_behind.ensures in
    let n = c.self.inside.dirty in
    let es = c.self.inside.infos.entries in
    let len : length c.drop_behind.new.infos.entries ≡ length (take n es) = ap length did.entries in
    let len2 = length-take n es in
    let within : n ≤ length es = was.within in
    record {
      info_keys = rw did.entries (keyed_take (λ (x : Info). x.key) n es was.info_keys);
      entry_keys = was.entry_keys;
      info_kinds = rw did.entries (all_take (λ (e : Key × Info). IsKind e.0.kind) n es was.info_kinds);
      entry_kinds = was.entry_kinds;
      within = omega (arith, len, len2, within);
      fits = was.fits;
      room_is = omega (arith, was.blank_room, did.room);
      blank_empty = did.empty;
      blank_room = omega (arith, was.room_is, did.blank);
      unique = did.unique;
    }

pub returns : goal.returns
returns c =
    let n = c.self.inside.dirty in
    let es = c.self.inside.infos.entries in
    let same : take n (values (λ (x : Info). x.key) c.drop_behind.new.infos.entries) ≡ take n (values (λ (x : Info). x.key) es) =
    ap (λ l. take n (values (λ (x : Info). x.key) l)) c.drop_behind.ensures.entries
    ∙ ap (take n) (values_take (λ (x : Info). x.key) n es)
    ∙ take_twice (values (λ (x : Info). x.key) es) n in
    ap (λ (l : List Info). record (state_of c.self.inside) { dirty = l }) same ∙ c.self.view_is
