use Rattle.std.proofs.Common.{◌≡◌, None, sym, subst, ◌∙◌}
use Rattle.std.specs.List.{find}
use Rattle.vt_base.specs.Key.{same_key}
use Rattle.vt_base.specs.declared.place.Entry.{Entry}
use Rattle.vt_icache.specs.Index.{IndexState, is_info_of, dirty_info}
use Rattle.vt_icache.specs.Keeping.{dirty_infos}
use Rattle.vt_icache.proofs.Pairs.{found, own_key}
use Rattle.vt_icache.proofs.cache.IndexCache.get.Goals as goal

pub returns-in-None-clause-found : goal.returns-in-None-clause-found
returns-in-None-clause-found c =
    let is : find (is_info_of c.args.key.now) (dirty_infos c.self.inside.infos c.self.inside.dirty) ≡ None =
    subst (λ (s : IndexState). dirty_info c.args.key.now s ≡ None) (sym c.self.view_is) (sym c.in-None.ensures.found) in
    rw (← c.self.view_is, is)
    (c.copied.ensures ∙ c.peek.ensures
    ∙ found (λ (x : Entry). x.key) (same_key c.args.key.now) c.self.inside.clean.entries c.self.invariant.entry_keys)

pub returns-in-None-clause-key : goal.returns-in-None-clause-key
returns-in-None-clause-key c =
    own_key c.args.key.now c.self.inside.clean.entries c.self.invariant.entry_keys c.copied.result (c.copied.ensures ∙ c.peek.ensures)
