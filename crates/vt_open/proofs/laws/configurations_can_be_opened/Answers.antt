use Rattle.std.proofs.Common.{◌≡◌, ap, length, map, arith}
use Rattle.std.proofs.lemmas.List.{length-map}
use Rattle.vt_conf.specs.declared.keyword.Keyword.TheVariants.{Arenas, Isect}
use Rattle.vt_conf.specs.Configuration.{file_of, said}
use Rattle.vt_open.proofs.laws.configurations_can_be_opened.Goals as goal

pub returns-clause-few : goal.returns-clause-few
returns-clause-few c = λ text conf it.
    let a = c.configurations_name_few_files.ensures.arenas text conf it in
    let s = c.configurations_name_few_files.ensures.sections text conf it in
    omega (arith, a, s)

pub returns-clause-some_arenas : goal.returns-clause-some_arenas
returns-clause-some_arenas c = λ text conf it.
    let said_ = said Arenas it.settings in
    let many : length conf.arenas.items ≡ length (map file_of said_) = ap length it.come_to.arenas in
    let some = it.arenas in
    omega (arith, many, some, length-map said_ file_of)

pub returns-clause-some_section : goal.returns-clause-some_section
returns-clause-some_section c = λ text conf it.
    let said_ = said Isect it.settings in
    let many : length conf.sections.items ≡ length (map file_of said_) = ap length it.come_to.sections in
    let some = it.sections in
    omega (arith, many, some, length-map said_ file_of)
