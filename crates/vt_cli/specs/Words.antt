-- The command line of the program, and what its words ask for (venti(8)). How words are read is
-- clap's own relation: `fault_of` lists why it doesn't take them, and `subcommand_of` gives the
-- subcommand and its values.
use Rattle.std.specs.Prelude.{◌≡◌, ◌≢◌, ◌⊎◌, ⊤, true, List, [], ◌∷◌, Option, Some, None, codes, if◌then◌else◌, option_and_then}
use Rattle.std.specs.Str.{bytes_eq}
use Rattle.clap.specs.Walk.{Row, Rule, Text, first_of}
use Rattle.clap.specs.Simple.{App, Shape, new_app, new_rule, on_top, with_rule, with_subcommand, subcommand_of}
use Rattle.clap.specs.Faults.{fault_of}
use Rattle.clap.specs.Kinds.{IsAmong}
use Rattle.clap.specs.declared.error.kind.ErrorKind.{ErrorKind}
use Rattle.clap.specs.declared.error.kind.ErrorKind.TheVariants.{DisplayHelp, DisplayVersion, OutOfMemory}
use Rattle.vt_cli.specs.declared.asked.Asked.{Asked}
use Rattle.vt_cli.specs.declared.asked.Asked.TheVariants.{Do, Help, Version, Faulty}
use Rattle.vt_cli.specs.declared.command.Command.{Command}
use Rattle.vt_cli.specs.declared.command.Command.TheVariants.{Session, FormatArenas, FormatSection, FormatFilter, FormatIndex, RebuildIndex, CheckArenas, Read, Write, Rehearse, Vac, View}

-- a word that a command wants, by the name that help shows
abbrev pub wanted : Text → Rule
wanted id = record (new_rule id) { required = true }

-- the command with one more word that it wants
abbrev pub with_word : App → Text → App
with_word app id = with_rule app (wanted id)

-- a block size that may be asked for, as `-b BSIZE`
abbrev pub with_size : App → App
with_size app = with_rule app (record (new_rule (codes "BSIZE")) { short = Some 98 })

-- ---- the commands, each with its words

-- `session STORE`
abbrev pub session : App
session = with_word (new_app (codes "session")) (codes "STORE")

-- `fmtarenas FILE NAME LENGTH ARENASIZE`
abbrev pub fmtarenas : App
fmtarenas =
    with_word (with_word (with_word (with_word (new_app (codes "fmtarenas"))
    (codes "FILE")) (codes "NAME")) (codes "LENGTH")) (codes "ARENASIZE")

-- `fmtisect FILE NAME LENGTH`
abbrev pub fmtisect : App
fmtisect =
    with_word (with_word (with_word (new_app (codes "fmtisect"))
    (codes "FILE")) (codes "NAME")) (codes "LENGTH")

-- `fmtbloom FILE SIZE POSITIONS`
abbrev pub fmtbloom : App
fmtbloom =
    with_word (with_word (with_word (new_app (codes "fmtbloom"))
    (codes "FILE")) (codes "SIZE")) (codes "POSITIONS")

-- `fmtindex CONF`
abbrev pub fmtindex : App
fmtindex = with_word (new_app (codes "fmtindex")) (codes "CONF")

-- `buildindex CONF`
abbrev pub buildindex : App
buildindex = with_word (new_app (codes "buildindex")) (codes "CONF")

-- `checkarenas CONF`
abbrev pub checkarenas : App
checkarenas = with_word (new_app (codes "checkarenas")) (codes "CONF")

-- `read STORE SCORE TYPE`
abbrev pub read : App
read =
    with_word (with_word (with_word (new_app (codes "read"))
    (codes "STORE")) (codes "SCORE")) (codes "TYPE")

-- `write STORE TYPE`
abbrev pub write : App
write = with_word (with_word (new_app (codes "write")) (codes "STORE")) (codes "TYPE")

-- `rehearse SEED COUNT`
abbrev pub rehearse : App
rehearse = with_word (with_word (new_app (codes "rehearse")) (codes "SEED")) (codes "COUNT")

-- `vac STORE FOLDER`, with an option for the size of blocks
abbrev pub vac : App
vac = with_size (with_word (with_word (new_app (codes "vac")) (codes "STORE")) (codes "FOLDER"))

-- `vacfs STORE SCORE`
abbrev pub vacfs : App
vacfs = with_word (with_word (new_app (codes "vacfs")) (codes "STORE")) (codes "SCORE")

-- the program: one of its commands, or a request for help or the version
abbrev pub with_settings : Shape → Shape
with_settings shape = record shape {
  no_binary_name = true;
  disable_help_subcommand = true;
  subcommand_required = true;
  arg_required_else_help = true;
  has_version = true;
}

-- the program with all its commands
abbrev pub venti : App
venti =
    with_subcommand (with_subcommand (with_subcommand (with_subcommand (with_subcommand
    (with_subcommand (with_subcommand (with_subcommand (with_subcommand (with_subcommand
    (with_subcommand (with_subcommand (on_top with_settings (new_app (codes "venti"))) session.top)
    fmtarenas.top) fmtisect.top) fmtbloom.top) fmtindex.top) buildindex.top) checkarenas.top)
    read.top) write.top) rehearse.top) vac.top) vacfs.top

-- ---- what its words ask for

-- a `session` by its words, if all are there
abbrev pub session_of : List Row → Option Command
session_of rows = option_and_then (λ store. Some (Session store)) (first_of (codes "STORE") rows)

-- a `fmtarenas` by its words, if all are there
abbrev pub arenas_of : List Row → Option Command
arenas_of rows =
    option_and_then (λ file. option_and_then (λ name. option_and_then (λ length.
    option_and_then (λ arena_size. Some (FormatArenas file name length arena_size))
    (first_of (codes "ARENASIZE") rows)) (first_of (codes "LENGTH") rows))
    (first_of (codes "NAME") rows)) (first_of (codes "FILE") rows)

-- a `fmtisect` by its words, if all are there
abbrev pub section_of : List Row → Option Command
section_of rows =
    option_and_then (λ file. option_and_then (λ name. option_and_then (λ length.
    Some (FormatSection file name length))
    (first_of (codes "LENGTH") rows)) (first_of (codes "NAME") rows))
    (first_of (codes "FILE") rows)

-- a `fmtbloom` by its words, if all are there
abbrev pub filter_of : List Row → Option Command
filter_of rows =
    option_and_then (λ file. option_and_then (λ size. option_and_then (λ positions.
    Some (FormatFilter file size positions))
    (first_of (codes "POSITIONS") rows)) (first_of (codes "SIZE") rows))
    (first_of (codes "FILE") rows)

-- a `fmtindex` by its word, if it is there
abbrev pub index_of : List Row → Option Command
index_of rows = option_and_then (λ file. Some (FormatIndex file)) (first_of (codes "CONF") rows)

-- a `buildindex` by its word, if it is there
abbrev pub rebuild_of : List Row → Option Command
rebuild_of rows = option_and_then (λ file. Some (RebuildIndex file)) (first_of (codes "CONF") rows)

-- a `checkarenas` by its word, if it is there
abbrev pub check_of : List Row → Option Command
check_of rows = option_and_then (λ file. Some (CheckArenas file)) (first_of (codes "CONF") rows)

-- a `read` by its words, if all are there
abbrev pub read_of : List Row → Option Command
read_of rows =
    option_and_then (λ store. option_and_then (λ score. option_and_then (λ kind.
    Some (Read store score kind))
    (first_of (codes "TYPE") rows)) (first_of (codes "SCORE") rows))
    (first_of (codes "STORE") rows)

-- a `write` by its words, if all are there
abbrev pub write_of : List Row → Option Command
write_of rows =
    option_and_then (λ store. option_and_then (λ kind. Some (Write store kind))
    (first_of (codes "TYPE") rows)) (first_of (codes "STORE") rows)

-- a `rehearse` by its words, if all are there
abbrev pub rehearsal_of : List Row → Option Command
rehearsal_of rows =
    option_and_then (λ seed. option_and_then (λ count. Some (Rehearse seed count))
    (first_of (codes "COUNT") rows)) (first_of (codes "SEED") rows)

-- a `vac` by its words, if both are there, and the size, if one was said
abbrev pub vac_of : List Row → Option Command
vac_of rows =
    option_and_then (λ store. option_and_then (λ folder.
    Some (Vac store folder (first_of (codes "BSIZE") rows)))
    (first_of (codes "FOLDER") rows)) (first_of (codes "STORE") rows)

-- a `vacfs` by its words, if all are there
abbrev pub view_of : List Row → Option Command
view_of rows =
    option_and_then (λ store. option_and_then (λ score. Some (View store score))
    (first_of (codes "SCORE") rows)) (first_of (codes "STORE") rows)

-- the command of this name, with the values of its words
abbrev pub command_of : Text → List Row → Option Command
command_of name rows =
    if bytes_eq name (codes "session") then session_of rows
    else if bytes_eq name (codes "fmtarenas") then arenas_of rows
    else if bytes_eq name (codes "fmtisect") then section_of rows
    else if bytes_eq name (codes "fmtbloom") then filter_of rows
    else if bytes_eq name (codes "fmtindex") then index_of rows
    else if bytes_eq name (codes "buildindex") then rebuild_of rows
    else if bytes_eq name (codes "checkarenas") then check_of rows
    else if bytes_eq name (codes "read") then read_of rows
    else if bytes_eq name (codes "write") then write_of rows
    else if bytes_eq name (codes "rehearse") then rehearsal_of rows
    else if bytes_eq name (codes "vac") then vac_of rows
    else if bytes_eq name (codes "vacfs") then view_of rows
    else None

-- by the subcommand that was met, with its values
abbrev pub said_by : Option (Text × List Row) → Option Command
said_by met = option_and_then (λ p. command_of p.0 p.1) met

-- the command that the words ask for, if they are those of one
abbrev pub spoken : (words : List Text) → Option Command
spoken words = said_by (subcommand_of venti words)

-- clap doesn't take the words, and it isn't help or the version that they ask for
pub record AreRefused (words : List Text) : Type 0 where
  pub kind : ErrorKind
  pub among : IsAmong kind (fault_of venti words)
  pub no_help : kind ≢ DisplayHelp
  pub no_version : kind ≢ DisplayVersion

-- The words ask for this.
abbrev pub Asks : (words : List Text) → Asked → Type 0
Asks words (Do command) = (fault_of venti words ≡ []) × (spoken words ≡ Some command)
Asks words (Help text) = IsAmong DisplayHelp (fault_of venti words)
Asks words (Version text) = IsAmong DisplayVersion (fault_of venti words)
Asks words Faulty = AreRefused words ⊎ ((fault_of venti words ≡ []) × (spoken words ≡ None))

-- The words ask for nothing that the program knows.
abbrev pub AsksForNothing : Asked → Type 0
AsksForNothing Faulty = ⊤
AsksForNothing asked = ⊥

-- nothing that the program knows can be asked for by them
abbrev pub AreFaulty : (words : List Text) → Type 0
AreFaulty words = (asked : Asked) → Asks words asked → AsksForNothing asked

-- the words of a session in memory
abbrev pub session_words : List Text
session_words = codes "session" ∷ codes ":memory:" ∷ []

-- ---- by what clap answers

-- what is asked where clap takes the words: a command, or nothing that is known
abbrev pub IsSpoken : Option Command → Asked → Type 0
IsSpoken said (Do command) = said ≡ Some command
IsSpoken said Faulty = said ≡ None
IsSpoken said asked = ⊥

-- what is asked where clap doesn't take the words: help, the version, or nothing that is known
abbrev pub IsUnspoken : ErrorKind → Asked → Type 0
IsUnspoken kind (Do command) = ⊥
IsUnspoken kind (Help text) = kind ≡ DisplayHelp
IsUnspoken kind (Version text) = kind ≡ DisplayVersion
IsUnspoken kind Faulty =
    (kind ≢ DisplayHelp) × (kind ≢ DisplayVersion) × (kind ≢ OutOfMemory)
