use Rattle.std.proofs.Common.{rules, inl, ◌∙◌, ap, subst, arith, List}
use Rattle.std.specs.List.{Contains}
use Rattle.vt_base.specs.declared.place.Info.{Info}
use Rattle.vt_shard.proofs.shard.Shard.begin_bare.Goals as goal

pub returns-in-Some-clause-sound : goal.returns-in-Some-clause-sound
returns-in-Some-clause-sound g c = λ score setup h durable from told sound all.
    let it = c.in-Some.ensures.some.least in
    let lt = all it.0 (subst (λ (l : List Info). Contains l it.0) (c.dirty.ensures.entries ∙ ap (λ t. t.index.dirty) c.self.view_is) it.1) in
    c.begin.ensures.sound score setup h durable from told sound (omega (arith, it.2, lt)) (inl (search rules))
