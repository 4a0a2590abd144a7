-- What a configuration says, and why one is refused (venti.conf(6)).
use Rattle.std.specs.Prelude.{ℕ, ◌≡◌, ◌<◌, ◌≤◌, ◌+◌, ◌⊎◌, ⊤, Bool, true, false, All, List, [], ◌∷◌, ◌++◌, Option, Some, None, length, map, filter, codes}
use Rattle.std.specs.Str.{IsUtf8}
use Rattle.vt_conf.specs.declared.TheConstants.{MAX_CONF}
use Rattle.vt_conf.specs.declared.address.TheConstants.{VENTI_PORT}
use Rattle.vt_conf.specs.declared.address.Address.{Address}
use Rattle.vt_conf.specs.declared.conf.Conf.{Conf}
use Rattle.vt_conf.specs.declared.conf.PartFile.{PartFile}
use Rattle.vt_conf.specs.declared.conf.TheConstants.{DEFAULT_MEM, DEFAULT_ICMEM}
use Rattle.vt_conf.specs.declared.keyword.Keyword.{Keyword}
use Rattle.vt_conf.specs.declared.keyword.Keyword.TheVariants.{Index, Arenas, Isect, Bloom, Mem, Icmem, Addr}
use Rattle.vt_conf.specs.declared.setting.Setting.{Setting}
use Rattle.vt_conf.specs.declared.error.ConfCause.{ConfCause}
use Rattle.vt_conf.specs.declared.error.ConfCause.TheVariants.{NotUtf8, CarriageReturn, TooLong, NoArenas, NoSections}
use Rattle.vt_conf.specs.Addresses.{SpellsAddress}
use Rattle.vt_conf.specs.Exceeding.{exceeded_by}
use Rattle.vt_conf.specs.Keywords.{most_lines, same_keyword}
use Rattle.vt_conf.specs.Lines.{lines_of, words_of_line, ends_in_return}
use Rattle.vt_conf.specs.Settings.{IsSettingRead, Misreads}
use Rattle.vt_conf.specs.Sizes.{SpellsSize}

-- a line that has words: its number, counted from 1, and its words
pub record Entry : Type 0 where
  pub line : ℕ
  pub words : List (List ℕ)

-- the entry of a line with these words: none where it has none
abbrev pub entry_at : (line : ℕ) → (words : List (List ℕ)) → List Entry
entry_at line [] = []
entry_at line (word ∷ words) = record { line = line; words = word ∷ words } ∷ []

-- the lines that have words, where the first of these lines has this number
abbrev pub entries_from : (line : ℕ) → List (List ℕ) → List Entry
entries_from line [] = []
entries_from line (text ∷ texts) =
    entry_at line (words_of_line text) ++ entries_from (line + 1) texts

-- the lines of the text that have words, by their numbers, the first of which is 1
abbrev pub line_entries : (text : List ℕ) → List Entry
line_entries text = entries_from 1 (lines_of text)

-- the line sets this
pub record SetsSetting (entry : Entry) (setting : Setting) : Type 0 where
  pub read : IsSettingRead entry.words setting.keyword setting.value
  pub line : setting.line ≡ entry.line

-- each line sets one of these, in order
abbrev pub AreSet : List Entry → List Setting → Type 0
AreSet [] [] = ⊤
AreSet [] (setting ∷ settings) = ⊥
AreSet (entry ∷ entries) [] = ⊥
AreSet (entry ∷ entries) (setting ∷ settings) = SetsSetting entry setting × AreSet entries settings

-- the settings of a keyword
abbrev pub is_of : Keyword → Setting → Bool
is_of keyword setting = same_keyword setting.keyword keyword

-- the settings with this keyword, in order
abbrev pub said : Keyword → List Setting → List Setting
said keyword settings = filter (is_of keyword) settings

-- no keyword stands on more lines than it may
abbrev pub AreFew : List Setting → Type 0
AreFew settings = (keyword : Keyword) → length (said keyword settings) ≤ most_lines keyword

-- the partition's file that a setting names, with its line
abbrev pub file_of : Setting → PartFile
file_of setting = record { name = setting.value; line = setting.line }

-- the first of these files, if there is one
abbrev pub first_part_file : List PartFile → Option PartFile
first_part_file [] = None
first_part_file (file ∷ files) = Some file

-- the index's name, a size and an address, and what they are where no line sets them
abbrev pub name_in : List Setting → List ℕ
name_in [] = codes "main"
name_in (setting ∷ settings) = setting.value

-- the size that the first of these settings spells, or the default where there is none
abbrev pub IsSizeIn : (size default : ℕ) → List Setting → Type 0
IsSizeIn size default [] = size ≡ default
IsSizeIn size default (setting ∷ settings) = SpellsSize size setting.value

-- the address that the first of these settings spells, or every host at Venti's port where there is
-- none
abbrev pub IsAddressIn : Address → List Setting → Type 0
IsAddressIn address [] = address ≡ record { host = None; port = VENTI_PORT }
IsAddressIn address (setting ∷ settings) = SpellsAddress address setting.value

-- what these settings come to
pub record ComeTo (settings : List Setting) (conf : Conf) : Type 0 where
  pub index : conf.index ≡ name_in (said Index settings)
  pub arenas : conf.arenas.items ≡ map file_of (said Arenas settings)
  pub sections : conf.sections.items ≡ map file_of (said Isect settings)
  pub filter : conf.filter ≡ first_part_file (map file_of (said Bloom settings))
  pub mem : IsSizeIn conf.mem DEFAULT_MEM (said Mem settings)
  pub icmem : IsSizeIn conf.icmem DEFAULT_ICMEM (said Icmem settings)
  pub addr : IsAddressIn conf.addr (said Addr settings)

-- two configurations say the same
pub record SameConf (a b : Conf) : Type 0 where
  pub index : a.index ≡ b.index
  pub arenas : a.arenas.items ≡ b.arenas.items
  pub sections : a.sections.items ≡ b.sections.items
  pub filter : a.filter ≡ b.filter
  pub mem : a.mem ≡ b.mem
  pub icmem : a.icmem ≡ b.icmem
  pub addr : a.addr ≡ b.addr

-- the line is UTF-8, and no carriage return ends it
pub record IsPlainLine (line : List ℕ) : Type 0 where
  pub utf8 : IsUtf8 line
  pub unreturned : ends_in_return line ≡ false

-- each line is plain, and they are not too many bytes
pub record IsConfText (text : List ℕ) : Type 0 where
  pub plain : All IsPlainLine (lines_of text)
  pub most : length text ≤ MAX_CONF

-- each line sets something, and no keyword stands on too many lines
pub record AreSettings (text : List ℕ) (settings : List Setting) : Type 0 where
  pub is_text : IsConfText text
  pub set : AreSet (line_entries text) settings
  pub few : AreFew settings

-- the text is a configuration, and says this
pub record Configures (text : List ℕ) (conf : Conf) : Type 0 where
  pub settings : List Setting
  pub are : AreSettings text settings
  pub arenas : 0 < length (said Arenas settings)
  pub sections : 0 < length (said Isect settings)
  pub come_to : ComeTo settings conf

-- the keyword of a line that is read stands on as many lines before as it may
pub record Exceeds (before : List Setting) (setting : Setting) (why : ConfCause) : Type 0 where
  pub why_is : why ≡ exceeded_by setting.keyword
  pub full : most_lines setting.keyword ≤ length (said setting.keyword before)

-- behind these settings the line is refused so: by itself, or since it is one too many
abbrev pub RefusesLine : (before : List Setting) → Entry → ConfCause → Type 0
RefusesLine before entry why = Misreads entry.words why
    ⊎ ((setting : Setting) × SetsSetting entry setting × Exceeds before setting why)

-- the first line that is refused
pub record IsFirstRefused (text : List ℕ) (line : ℕ) (why : ConfCause) : Type 0 where
  pub is_text : IsConfText text
  pub before : List Entry
  pub entry : Entry
  pub behind : List Entry
  pub split : line_entries text ≡ before ++ entry ∷ behind
  pub line_is : line ≡ entry.line
  pub settings : List Setting
  pub set : AreSet before settings
  pub few : AreFew settings
  pub refused : RefusesLine settings entry why

-- why the line isn't plain: the first of the two tests that fails
abbrev pub IsWrongLine : ConfCause → (line : List ℕ) → Type 0
IsWrongLine NotUtf8 line = ¬ IsUtf8 line
IsWrongLine CarriageReturn line = IsUtf8 line × (ends_in_return line ≡ true)
IsWrongLine why line = ⊥

-- the first line that isn't plain, and why it isn't
pub record IsFirstWrong (text : List ℕ) (line : ℕ) (why : ConfCause) : Type 0 where
  pub before : List (List ℕ)
  pub wrong : List ℕ
  pub behind : List (List ℕ)
  pub split : lines_of text ≡ before ++ wrong ∷ behind
  pub line_is : line ≡ length before + 1
  pub plain : All IsPlainLine before
  pub is_wrong : IsWrongLine why wrong

-- The first test that fails: whether the lines are UTF-8 and end without a carriage return, and
-- are not too many bytes; each line, in order; and that there are files of arenas and of sections.
abbrev pub IsFirstCause : (text : List ℕ) → (line : ℕ) → ConfCause → Type 0
IsFirstCause text line NotUtf8 = IsFirstWrong text line NotUtf8
IsFirstCause text line CarriageReturn = IsFirstWrong text line CarriageReturn
IsFirstCause text line TooLong = (line ≡ 0) × All IsPlainLine (lines_of text)
    × (MAX_CONF < length text)
IsFirstCause text line NoArenas = (line ≡ 0)
    × (settings : List Setting) × AreSettings text settings × (said Arenas settings ≡ [])
IsFirstCause text line NoSections = (line ≡ 0)
    × (settings : List Setting) × AreSettings text settings × (0 < length (said Arenas settings))
    × (said Isect settings ≡ [])
IsFirstCause text line why = IsFirstRefused text line why
