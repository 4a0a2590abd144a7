use Rattle.vt_bloom.proofs.frame.read_words.Goals as goal

pub returns : goal.returns
returns c = record { each = c.read_u64_into.ensures }
