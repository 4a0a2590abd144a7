-- Addresses as text (venti.conf(6)): `tcp!HOST!PORT`.
use Rattle.std.specs.Prelude.{ℕ, ◌≡◌, ◌≢◌, ◌≤◌, ◌<◌, ◌^◌, ◌⊎◌, Option, Some, None, List, ◌∷◌, ◌++◌, length, codes, decimal}
use Rattle.std.specs.List.{All}
use Rattle.vt_conf.specs.declared.address.Address.{Address}
use Rattle.vt_conf.specs.declared.address.TheConstants.{VENTI_PORT}

-- a host is a name, or `*` for every host
abbrev pub IsHost : Option (List ℕ) → List ℕ → Type 0
IsHost None text = text ≡ codes "*"
IsHost (Some name) text = (text ≡ name) × (name ≢ codes "*")

-- a port is a number, or `venti`
abbrev pub IsPort : ℕ → List ℕ → Type 0
IsPort port text = ((text ≡ codes "venti") × (port ≡ VENTI_PORT))
    ⊎ ((text ≡ decimal port) × (1 ≤ port) × (port < 2 ^ 16))

-- the text of an address with this text of its host, which has no `!`, and with this port
pub record SpellsParts (host : List ℕ) (port : ℕ) (text : List ℕ) : Type 0 where
  pub some : 0 < length host
  pub plain : All (λ b. b ≢ 33) host
  pub port_text : List ℕ
  pub port_is : IsPort port port_text
  pub spelled : text ≡ codes "tcp!" ++ (host ++ 33 ∷ port_text)

-- the text says this address
pub record SpellsAddress (address : Address) (text : List ℕ) : Type 0 where
  pub host_text : List ℕ
  pub host_is : IsHost address.host host_text
  pub parts : SpellsParts host_text address.port text
