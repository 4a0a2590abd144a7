-- The ghost members of a link as one record, which a clause writes `L.Link`.
use Rattle.vt_out.specs.declared.link.Link.{Ghosts}

-- what contracts know of a type of links: what came and what went, and its counts
abbrev pub LinkOf : Type 0 → Type 1
LinkOf L = Ghosts L
