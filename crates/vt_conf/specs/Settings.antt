-- What a line of a configuration sets (venti.conf(6)): its first word is a keyword, and the next
-- one its value, if it takes one.
use Rattle.std.specs.Prelude.{ℕ, ◌≡◌, ◌<◌, ◌⊎◌, if◌then◌else◌, true, List, [], ◌∷◌, Some, None, length}
use Rattle.vt_conf.specs.declared.address.Address.{Address}
use Rattle.vt_conf.specs.declared.keyword.Keyword.{Keyword}
use Rattle.vt_conf.specs.declared.error.ConfCause.{ConfCause}
use Rattle.vt_conf.specs.declared.error.ConfCause.TheVariants.{UnknownName, MissingValue, ExtraValue, BadSize, BadAddress}
use Rattle.vt_conf.specs.Addresses.{SpellsAddress}
use Rattle.vt_conf.specs.Keywords.{keyword_of, takes_value, takes_size, takes_address}
use Rattle.vt_conf.specs.Sizes.{SpellsSize}

-- a text that says a size, or an address
abbrev pub IsSizeText : List ℕ → Type 0
IsSizeText text = (size : ℕ) × SpellsSize size text

-- the text spells an address
abbrev pub IsAddress : List ℕ → Type 0
IsAddress text = (address : Address) × SpellsAddress address text

-- the value is one that the keyword may have
pub record IsValue (keyword : Keyword) (value : List ℕ) : Type 0 where
  pub size : takes_size keyword ≡ true → IsSizeText value
  pub address : takes_address keyword ≡ true → IsAddress value

-- Why the value is none that the keyword may have.
abbrev pub LacksValue : Keyword → (value : List ℕ) → ConfCause → Type 0
LacksValue keyword value BadSize = (takes_size keyword ≡ true) × ¬ IsSizeText value
LacksValue keyword value BadAddress = (takes_address keyword ≡ true) × ¬ IsAddress value
LacksValue keyword value why = ⊥

-- how many values a keyword takes
abbrev pub value_count : Keyword → ℕ
value_count keyword = if takes_value keyword then 1 else 0

-- the words that stand behind a keyword: one value, or none
abbrev pub values_of : Keyword → (value : List ℕ) → List (List ℕ)
values_of keyword value = if takes_value keyword then value ∷ [] else []

-- the words are a keyword and its value, which has no bytes where it takes none
pub record IsSettingRead (words : List (List ℕ)) (keyword : Keyword) (value : List ℕ) : Type 0 where
  pub name : List ℕ
  pub keyword_is : keyword_of name ≡ Some keyword
  pub words_are : words ≡ name ∷ values_of keyword value
  pub none : takes_value keyword ≡ true ⊎ value ≡ []
  pub fits : IsValue keyword value

-- the first of the tests of a line's words that fails: that the first one is a keyword, that its
-- value is there, that nothing is behind it, and that it is one that the keyword may have
abbrev pub Misreads : (words : List (List ℕ)) → ConfCause → Type 0
Misreads [] why = ⊥
Misreads (name ∷ values) UnknownName = keyword_of name ≡ None
Misreads (name ∷ values) MissingValue = (keyword : Keyword) × (keyword_of name ≡ Some keyword)
    × (length values < value_count keyword)
Misreads (name ∷ values) ExtraValue = (keyword : Keyword) × (keyword_of name ≡ Some keyword)
    × (value_count keyword < length values)
Misreads (name ∷ values) why = (keyword : Keyword) × (keyword_of name ≡ Some keyword)
    × (value : List ℕ) × (values ≡ value ∷ []) × LacksValue keyword value why
