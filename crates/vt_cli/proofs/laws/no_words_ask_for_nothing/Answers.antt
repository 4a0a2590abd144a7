use Rattle.vt_cli.proofs.Asking.{no_words}
use Rattle.vt_cli.proofs.laws.no_words_ask_for_nothing.Goals as goal

pub returns : goal.returns
returns c asked asks = no_words asked asks
