use Rattle.std.proofs.Common.{◌∙◌, length, drop, ap, sym, subst}
use Rattle.std.proofs.lemmas.List.{take_at}
use Rattle.vt_bloom.specs.Frame.{IsFilterFrame}
use Rattle.vt_bloom.proofs.frame.encoded.Goals as goal

pub returns-clause-written : goal.returns-clause-written
returns-clause-written c =
    let f = c.encode.new.frame in
    c.from_vec.ensures
    ∙ take_at f (drop (length f) c.into_vec-frame.result.items) c.into_vec-frame.result.len
    (c.encode.auto.frame ∙ c.deref_mut.ensures.len) ∙ c.encode.ensures.written

pub returns-clause-is : goal.returns-clause-is
returns-clause-is c =
    subst (IsFilterFrame _) (c.encode.ensures.written ∙ sym (returns-clause-written c)) c.encode.ensures.is

pub returns-clause-whole : goal.returns-clause-whole
returns-clause-whole c =
    ap length (returns-clause-written c ∙ sym c.encode.ensures.written) ∙ c.encode.auto.frame
    ∙ ap length (c.deref_mut.ensures.value ∙ c.into_vec-frame.ensures) ∙ c.requires
