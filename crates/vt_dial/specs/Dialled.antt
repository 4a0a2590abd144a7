-- What became of a dialer's link.
use Rattle.std.specs.Prelude.{◌≡◌, IsTrue, []}
use Rattle.vt_conf.specs.declared.address.Address.{Address}
use Rattle.vt_dial.specs.Members.{LinkOf}

-- What became of a dialer's link: none was made yet; one was made to this address, and is out; it
-- was taken back, and is this one; or more was done than make one and take it back.
pub data Dialled (L : Type 0) : Type 0 where
  nobody : Dialled L
  out : Address → Dialled L
  back : Address → (link : L) → Dialled L
  more : Dialled L

-- with a link that is made
abbrev pub with_link : {L : Type 0} → Address → Dialled L → Dialled L
with_link to nobody = out to
with_link to (out first) = more
with_link to (back first link) = more
with_link to more = more

-- with a link that is taken back
abbrev pub with_back : {L : Type 0} → L → Dialled L → Dialled L
with_back link (out to) = back to link
with_back link nobody = more
with_back link (back to first) = more
with_back link more = more

-- nothing has gone over a link, where it tells that, and no call of it has failed
pub record IsFreshLink {L : Type 0} (link : LinkOf L) (l : L) : Type 0 where
  pub given : IsTrue link.tells → link.given l ≡ []
  pub written : IsTrue link.tells → link.written l ≡ []
  pub read_faults : link.read_faults l ≡ 0
  pub write_faults : link.write_faults l ≡ 0
