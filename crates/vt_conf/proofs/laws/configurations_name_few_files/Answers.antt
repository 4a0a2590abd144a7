use Rattle.std.proofs.Common.{◌≡◌, ℕ, ◌≤◌, List, length, sym, ◌∙◌, ap, subst}
use Rattle.std.proofs.lemmas.List.{length-map}
use Rattle.vt_conf.specs.declared.conf.PartFile.{PartFile}
use Rattle.vt_conf.specs.declared.keyword.Keyword.TheVariants.{Arenas, Isect}
use Rattle.vt_conf.specs.Configuration.{file_of, said}
use Rattle.vt_conf.proofs.laws.configurations_name_few_files.Goals as goal

as_many : (files : List PartFile) (n : ℕ) → length files ≡ n → n ≤ 64 → length files ≤ 64
as_many files n same few = subst (λ (k : ℕ). k ≤ 64) (sym same) few

pub returns-clause-arenas : goal.returns-clause-arenas
returns-clause-arenas c text conf it =
    as_many conf.arenas.items (length (said Arenas it.settings))
    (ap (λ (files : List PartFile). length files) it.come_to.arenas ∙ length-map (said Arenas it.settings) file_of)
    (it.are.few Arenas)

pub returns-clause-sections : goal.returns-clause-sections
returns-clause-sections c text conf it =
    as_many conf.sections.items (length (said Isect it.settings))
    (ap (λ (files : List PartFile). length files) it.come_to.sections ∙ length-map (said Isect it.settings) file_of)
    (it.are.few Isect)
