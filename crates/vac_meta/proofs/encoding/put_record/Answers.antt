use Rattle.std.proofs.Common.{◌≡◌, ℕ, List, ◌++◌, take, ◌∙◌, ap}
use Rattle.vac_meta.specs.Records.{number_fields, string}
use Rattle.vac_meta.proofs.Written.{four}
use Rattle.vac_meta.proofs.encoding.put_record.Goals as goal

pub returns-clause-written : goal.returns-clause-written
returns-clause-written c =
    let r = c.args.item.now in
    let name : take c.put_string-at.result c.put_string-at.new.buf ≡ string r.name =
    c.put_string-at.ensures.written ∙ ap string c.as_slice.ensures in
    let middle : take c.put_numbers-at.result c.put_numbers-at.new.buf
    ≡ string r.name ++ number_fields r =
    c.put_numbers-at.ensures.written ∙ ap (λ (l : List ℕ). l ++ number_fields r) name in
    let uid : take c.put_string-at-2.result c.put_string-at-2.new.buf
    ≡ (string r.name ++ number_fields r) ++ string r.uid =
    c.put_string-at-2.ensures.written
    ∙ (λ i. middle i ++ string (c.as_slice-2.ensures i)) in
    c.put_string.ensures.written ∙ (λ i. uid i ++ string (c.as_slice-3.ensures i))
    ∙ four (string r.name) (number_fields r) (string r.uid) (string r.gid)
