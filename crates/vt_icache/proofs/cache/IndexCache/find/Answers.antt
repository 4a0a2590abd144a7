use Rattle.std.proofs.Common.{◌≡◌, List, None, sym, ap, subst, ◌∙◌}
use Rattle.std.specs.List.{find}
use Rattle.vt_base.specs.Key.{same_key}
use Rattle.vt_base.specs.Kind.{IsKind}
use Rattle.vt_base.specs.declared.key.Key.{Key}
use Rattle.vt_base.specs.declared.place.Entry.{Entry}
use Rattle.vt_icache.specs.Index.{IndexState, is_info_of, dirty_info}
use Rattle.vt_icache.specs.Keeping.{dirty_infos}
use Rattle.vt_icache.specs.View.{state_of}
use Rattle.vt_icache.proofs.Pairs.{found, values_promoted, keyed_promoted, all_promoted, own_key}
use Rattle.vt_icache.proofs.cache.IndexCache.find.Goals as goal

pub invariant_of-self : goal.invariant_of-self
invariant_of-self c =
    let was = c.self.invariant in
    record {
      info_keys = was.info_keys;
      entry_keys = rw c.promote.ensures.entries
          (keyed_promoted (λ (x : Entry). x.key) (same_key c.args.key.now) c.self.inside.clean.entries was.entry_keys);
      info_kinds = was.info_kinds;
      entry_kinds = rw c.promote.ensures.entries
          (all_promoted (λ (pair : Key × Entry). IsKind pair.0.kind) (same_key c.args.key.now) c.self.inside.clean.entries was.entry_kinds);
      within = was.within;
      fits = was.fits;
      room_is = was.room_is;
      blank_empty = was.blank_empty;
      blank_room = was.blank_room;
      unique = was.unique;
    }

none : (c : goal.After-promote) → find (is_info_of c.args.key.now) (dirty_infos c.self.inside.infos c.self.inside.dirty) ≡ None
none c = subst (λ (s : IndexState). dirty_info c.args.key.now s ≡ None) (sym c.self.view_is) (sym c.in-None.ensures.found)

pub returns-in-None-clause-found : goal.returns-in-None-clause-found
returns-in-None-clause-found c =
    let is = none c in
    rw (← c.self.view_is, is)
    (c.copied-found.ensures ∙ c.peek.ensures
    ∙ found (λ (x : Entry). x.key) (same_key c.args.key.now) c.self.inside.clean.entries c.self.invariant.entry_keys)

pub returns-in-None-clause-used : goal.returns-in-None-clause-used
returns-in-None-clause-used c =
    let is = none c in
    rw (← c.self.view_is, is, c.promote.ensures.entries)
    (ap (λ (l : List Entry). record (state_of c.self.inside) { clean = l })
    (values_promoted (λ (x : Entry). x.key) (same_key c.args.key.now) c.self.inside.clean.entries c.self.invariant.entry_keys))

pub returns-in-None-clause-key : goal.returns-in-None-clause-key
returns-in-None-clause-key c =
    own_key c.args.key.now c.self.inside.clean.entries c.self.invariant.entry_keys c.copied-found.result (c.copied-found.ensures ∙ c.peek.ensures)
