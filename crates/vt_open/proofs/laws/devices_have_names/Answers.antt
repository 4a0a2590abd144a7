use Rattle.std.proofs.Common.{◌≡◌}
use Rattle.std.proofs.lemmas.List.Elements.{All-contains}
use Rattle.vt_conf.specs.declared.conf.PartFile.{PartFile}
use Rattle.vt_partitions.specs.Parts.{there}
use Rattle.vt_core.specs.Files.{all_of}
use Rattle.vt_open.specs.Names.{files_of}
use Rattle.vt_open.proofs.Shapes.{one_list, some_list}
use Rattle.vt_open.proofs.laws.devices_have_names.Goals as goal

pub returns-clause-one : goal.returns-clause-one
returns-clause-one g c = λ standing conf a b these those. one_list standing conf a b these those

pub returns-clause-some : goal.returns-clause-some
returns-clause-some g c = λ standing conf each. some_list standing conf (λ f has. All-contains (λ (f : PartFile). (d : g.row.D.Denot) × (standing f.name ≡ there d)) (all_of (files_of conf)) f each has)
