use Rattle.std.proofs.Common.{◌≡◌, List, ◌∷◌, ◌++◌, take, drop, ℕ, Some, suc, sym, ◌∙◌, ap}
use Rattle.vac_meta.specs.declared.record.Record.{Record}
use Rattle.vac_read.proofs.Lists.{split_at}
use Rattle.vac_read.proofs.records.find_named.Goals as goal

pub returns : goal.returns
returns c =
    let records : List Record = c.args.records.now in
    let number : ℕ = c.in-Some.number in
    let found = c.in-Some.ensures in
    let r : Record = c.index-records-number.result in
    let is = c.index-records-number.is in
    record {
      rest = drop (suc number) records;
      among = split_at records number r found.within is;
      is = found.is r ∙ ap Some (sym is);
    }
