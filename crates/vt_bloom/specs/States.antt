-- What the types of this crate are seen as.
use Rattle.vt_bloom.specs.declared.bits.Bits.TheInside.{Inside as BitsInside}
use Rattle.vt_bloom.specs.Bits.{Filter}

-- bits in memory are a filter
abbrev pub filter_of_bits : BitsInside → Filter
filter_of_bits b = record { m = b.m; k = b.k; words = b.words.items }
