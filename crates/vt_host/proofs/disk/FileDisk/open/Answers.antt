use Rattle.std.proofs.Common.{inl, inr, true, List, [], ◌∷◌, ◌++◌, sym, ◌∙◌, ap, subst}
use Rattle.vt_host.specs.Calls.{Opening, FileCall}
use Rattle.vt_host.specs.Opening.{disk_options, StopsShort}
use Rattle.vt_host.proofs.disk.FileDisk.open.Goals as goal

pub returns-in_default-lock_and_grow-clause-failed : goal.returns-in_default-lock_and_grow-clause-failed
returns-in_default-lock_and_grow-clause-failed g c tells =
    let stops = c.in_default-lock_and_grow.ensures.failed tells in
    let opened : List Opening = g.O.Opener.opened c.args.files.now in
    inr (inl (
      c.in-Ok.ensures.noted tells
          ∙ ap (λ how. let new : Opening = record { how = how; name = c.args.name.now; ok = true } in opened ++ new ∷ []) (c.options.ensures ∙ ap disk_options c.is_some.ensures),
      (
        c.lock_and_grow.new.file,
        subst (StopsShort c.args.grow_to) (sym (stops.1 ∙ ap (λ (l : List FileCall). l ++ stops.0) (c.in-Ok.ensures.untouched tells))) stops.2,
      ),
    ))
