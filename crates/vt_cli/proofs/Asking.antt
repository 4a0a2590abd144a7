-- What words ask for, by what clap answers.
use Rattle.std.proofs.Common.{◌≡◌, ◌⊎◌, ⊎_elim, inl, inr, true, List, [], ◌∷◌, Option, Some, None, refl, sym, ◌∙◌, subst, codes, Box}
use Rattle.std.specs.Prelude.{option_map}
use Rattle.std.specs.Box.{box_value}
use Rattle.clap.specs.Words.{Text, Row, fault_of, is_simple, is_simple_and_free, subcommand_name_of, subcommand_rows, subcommand_rows_of, IsAmong}
use Rattle.clap.specs.declared.parser.matches.ArgMatches.{ArgMatches}
use Rattle.clap.specs.declared.parser.matches.ArgMatches.TheViews.{out-ArgMatches, out-SubCommand}
use Rattle.clap.specs.declared.parser.matches.SubCommand.{SubCommand}
use Rattle.clap.specs.declared.error.kind.ErrorKind.{ErrorKind}
use Rattle.clap.specs.declared.error.kind.ErrorKind.TheVariants.{DisplayHelp, DisplayVersion, DisplayHelpOnMissingArgumentOrSubcommand, OutOfMemory}
use Rattle.clap.proofs.OnLiterals.{clap_on_literals}
use Rattle.vt_cli.specs.declared.asked.Asked.{Asked}
use Rattle.vt_cli.specs.declared.asked.Asked.TheVariants.{Do, Help, Version, Faulty}
use Rattle.vt_cli.specs.declared.command.Command.{Command}
use Rattle.vt_cli.specs.declared.command.Command.TheVariants.{Session}
use Rattle.vt_cli.specs.Words.{venti, session_words, spoken, Asks, AsksForNothing, IsSpoken, IsUnspoken}

-- ---- the program's command line is one of which clap says all

pub is_simple_here : is_simple venti ≡ true
unfolding clap_on_literals
is_simple_here = refl

pub is_free_here : is_simple_and_free venti ≡ true
unfolding clap_on_literals
is_free_here = refl

-- ---- by what it answers

pub spoken_asks : (words : List Text) (asked : Asked) → fault_of venti words ≡ [] → IsSpoken (spoken words) asked
    → Asks words asked
spoken_asks words (Do command) none said = (none, said)
spoken_asks words (Help text) none said = absurd said
spoken_asks words (Version text) none said = absurd said
spoken_asks words Faulty none said = inr (none, said)

pub unspoken_asks : (words : List Text) (kind : ErrorKind) (asked : Asked)
    → (kind ≡ OutOfMemory) ⊎ IsAmong kind (fault_of venti words) → IsUnspoken kind asked → Asks words asked
unspoken_asks words kind (Do command) has is = absurd is
unspoken_asks words kind (Help text) has is = elim has [
  | inl memory ↦ let both = sym is ∙ memory in absurd (cc)
  | inr among ↦ subst (λ k. IsAmong k (fault_of venti words)) is among
]
unspoken_asks words kind (Version text) has is = elim has [
  | inl memory ↦ let both = sym is ∙ memory in absurd (cc)
  | inr among ↦ subst (λ k. IsAmong k (fault_of venti words)) is among
]
unspoken_asks words kind Faulty has is = elim has [
  | inl memory ↦ absurd (is.2 memory)
  | inr among ↦ inl (record { kind = kind; among = among; no_help = is.0; no_version = is.1 })
]

-- ---- a command is asked for alone

none_among : (kind : ErrorKind) (faults : List ErrorKind) → faults ≡ [] → IsAmong kind faults → ⊥
none_among kind faults none among = subst (IsAmong kind) none among

pub alone : (words : List Text) (command : Command) (asked : Asked) → Asks words (Do command) → Asks words asked
    → asked ≡ Do command
alone words command (Do other) x y = let both : Some other ≡ Some command = sym y.1 ∙ x.1 in cc
alone words command (Help text) x y = absurd (none_among _ _ x.0 y)
alone words command (Version text) x y = absurd (none_among _ _ x.0 y)
alone words command Faulty x y = elim y [
  | inl refused ↦ absurd (none_among _ _ x.0 refused.among)
  | inr silent ↦ let both = sym silent.1 ∙ x.1 in absurd (cc)
]

pub session_taken : fault_of venti session_words ≡ []
unfolding clap_on_literals
session_taken = refl

nothing_taken : fault_of venti [] ≡ DisplayHelpOnMissingArgumentOrSubcommand ∷ []
unfolding clap_on_literals
nothing_taken = refl

-- the only kind among one is that one
pub no_words : (asked : Asked) → Asks [] asked → AsksForNothing asked
no_words (Do command) asks = let wrong = sym nothing_taken ∙ asks.0 in absurd (cc)
no_words (Help text) asks = absurd (⊎_elim (λ is. cc) (λ none. none) (subst (IsAmong DisplayHelp) nothing_taken asks))
no_words (Version text) asks = absurd (⊎_elim (λ is. cc) (λ none. none) (subst (IsAmong DisplayVersion) nothing_taken asks))
no_words Faulty asks = tt

pub session_spoken : spoken session_words ≡ Some (Session (codes ":memory:"))
unfolding clap_on_literals
session_spoken = refl

-- ---- the subcommand that was met, by its name and its values

module _ {Z : Type 0} where
  abbrev named : Option (Box SubCommand Z) → Option Text
  named = option_map (λ b. (out-SubCommand (box_value b)).name.now)

  both : (met : Option (Box SubCommand Z)) (name : Text) (rows : List Row)
      → Some name ≡ named met → Some rows ≡ option_map (λ p. p.1) (subcommand_rows met)
      → subcommand_rows met ≡ Some (name, rows)
  both None name rows is_name is_rows = absurd (cc)
  both (Some b) name rows is_name is_rows = cc

  neither : (met : Option (Box SubCommand Z)) → None ≡ named met → subcommand_rows met ≡ None
  neither None is_name = refl
  neither (Some b) is_name = absurd (cc)

pub met_some : (m : ArgMatches) (name : Text) (rows : List Row) → Some name ≡ subcommand_name_of m
    → Some rows ≡ option_map (λ p. p.1) (subcommand_rows_of m) → subcommand_rows_of m ≡ Some (name, rows)
met_some m name rows is_name is_rows = both (out-ArgMatches m).subcommand name rows is_name is_rows

pub met_none : (m : ArgMatches) → None ≡ subcommand_name_of m → subcommand_rows_of m ≡ None
met_none m is_name = neither (out-ArgMatches m).subcommand is_name
