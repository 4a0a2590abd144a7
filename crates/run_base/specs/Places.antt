-- The place of a store, which a word of the command line names.
use Rattle.std.specs.Prelude.{ℕ, ◌≡◌, ◌≢◌, ◌⊎◌, ⊤, List, codes}
use Rattle.vt_conf.specs.declared.address.Address.{Address}
use Rattle.vt_conf.specs.Addresses.{SpellsAddress}
use Rattle.vt_use.specs.declared.used_at.StoreAt.{StoreAt}
use Rattle.vt_use.specs.declared.used_at.StoreAt.TheVariants.{Conf, Server}
use Rattle.vt_use.specs.Places.{CanBeOpened}
use Rattle.run_base.specs.declared.error.CommandError.{CommandError}
use Rattle.run_base.specs.declared.error.CommandError.TheVariants.{NoMemory}
use Rattle.run_base.specs.declared.place.Place.{Place}
use Rattle.run_base.specs.declared.place.Place.TheVariants.{Memory, At}
use Rattle.run_base.specs.Change.{FilesChange, NoneRead}
use Rattle.run_base.specs.Configurations.{ReadsConf, ReadsNone}
use Rattle.run_base.specs.Errors.{CommandOutcome}
use Rattle.run_base.specs.Formatting.{RefusesWord}

-- the name of a store in memory
abbrev pub in_memory : List ℕ
in_memory = codes ":memory:"

-- the word spells no address (venti(8))
abbrev pub SpellsNone : (word : List ℕ) → Type 0
SpellsNone word = (address : Address) → ¬ SpellsAddress address word

-- it names neither a store in memory nor a server, and so the file of a configuration
abbrev pub NamesFile : (word : List ℕ) → Type 0
NamesFile word = (word ≢ in_memory) × SpellsNone word

-- It spells this address, and no file was read; any other word is the name of the file of a
-- configuration, and this one was read.
abbrev pub FindsAt : {I : Type 0} → (word : List ℕ) → FilesChange I → StoreAt → Type 0
FindsAt word files (Server address) = SpellsAddress address word × NoneRead files
FindsAt word files (Conf conf) = SpellsNone word × ReadsConf word conf files

-- why none is found: no configuration was read under that name, or memory ran out before it was known
-- what the word names
abbrev pub FindsNoneAt : {I : Type 0} → (word : List ℕ) → FilesChange I → CommandError → Type 0
FindsNoneAt word files failure =
    (SpellsNone word × ReadsNone word failure files) ⊎ ((failure ≡ NoMemory) × NoneRead files)

-- it is the name of a store in memory, and no file was read; or it names another one
abbrev pub FindsPlace : {I : Type 0} → (word : List ℕ) → FilesChange I → Place → Type 0
FindsPlace word files Memory = (word ≡ in_memory) × NoneRead files
FindsPlace word files (At at) = (word ≢ in_memory) × FindsAt word files at

-- it isn't the name of a store in memory, and no other store is found, for its cause
abbrev pub FindsNoPlace : {I : Type 0} → (word : List ℕ) → FilesChange I → CommandError → Type 0
FindsNoPlace word files failure = (word ≢ in_memory) × FindsNoneAt word files failure

-- its configuration can be opened, if it has one
abbrev pub CanBeUsed : Place → Type 0
CanBeUsed Memory = ⊤
CanBeUsed (At at) = CanBeOpened at

-- The command ends so, and nothing is done.
pub record EndsIdle (end outcome : CommandOutcome) (Idle : Type 0) : Type 0 where
  pub is : outcome ≡ end
  pub idle : Idle

-- this was done with the store that the word names, or none was found, and nothing else was done
abbrev pub AtPlace : {I : Type 0} → (word : List ℕ) → FilesChange I → (Does : Place → Type 0)
    → CommandOutcome → (Idle : Type 0) → Type 0
AtPlace word files Does outcome Idle =
    RefusesWord (FindsNoPlace word files) outcome Idle
    ⊎ ((place : Place) × FindsPlace word files place × Does place)
