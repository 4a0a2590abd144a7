use Rattle.vt_format.proofs.FewFiles.{few_files}
use Rattle.vt_format.proofs.laws.configurations_number_their_files.Goals as goal

pub returns : goal.returns
returns c text conf says = few_files conf
    (c.configurations_name_few_files.ensures.arenas text conf says)
    (c.configurations_name_few_files.ensures.sections text conf says)
