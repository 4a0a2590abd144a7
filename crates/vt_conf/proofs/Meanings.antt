-- A text has one meaning.
use Rattle.std.proofs.Common.{◌≡◌, ℕ, ◌*◌, ◌≤◌, ⊎_elim, Bool, true, false, cond, List, [], ◌∷◌, ◌++◌, Option, Some, None, length, take, drop, refl, sym, ◌∙◌, ap, subst, arith, length-append, codes}
use Rattle.std.specs.Prelude.{◌==◌, ◌⊎◌, All, map}
use Rattle.std.specs.List.{position}
use Rattle.std.proofs.Math.Nat.{mul-le-mul_left, mul-one}
use Rattle.std.proofs.Math.Seq.{get_or-append_seam}
use Rattle.std.proofs.lemmas.Bool.{cases_Bool}
use Rattle.std.proofs.lemmas.Fmt.{decimal_injective}
use Rattle.std.proofs.lemmas.List.{append_cancel_left, take_at, drop_at}
use Rattle.std.proofs.lemmas.List.Elements.{filter-append}
use Rattle.std.proofs.lemmas.Option.{same_Some}
use Rattle.vt_conf.specs.declared.address.Address.{Address}
use Rattle.vt_conf.specs.declared.conf.Conf.{Conf}
use Rattle.vt_conf.specs.declared.keyword.Keyword.{Keyword}
use Rattle.vt_conf.specs.declared.keyword.Keyword.TheVariants.{Index, Arenas, Isect, Bloom, Mem, Icmem, Addr}
use Rattle.vt_conf.specs.declared.setting.Setting.{Setting}
use Rattle.vt_conf.specs.declared.error.ConfCause.{ConfCause}
use Rattle.vt_conf.specs.declared.error.ConfCause.TheVariants.{NotUtf8, CarriageReturn, TooLong, UnknownName, MissingValue, ExtraValue, BadSize, BadAddress, Repeated, TooMany, NoArenas, NoSections}
use Rattle.vt_conf.specs.Addresses.{IsPort, SpellsAddress}
use Rattle.vt_conf.specs.Configuration.{Entry, line_entries, SetsSetting, AreSet, is_of, said, AreFew, file_of, first_part_file, name_in, IsSizeIn, IsAddressIn, SameConf, Configures, Exceeds, IsFirstRefused, IsFirstWrong, IsPlainLine, IsFirstCause}
use Rattle.vt_conf.specs.Keywords.{keyword_of, takes_value, takes_size, takes_address, most_lines}
use Rattle.vt_conf.specs.Settings.{IsSizeText, IsAddress, IsValue, IsSettingRead, Misreads, values_of, value_count}
use Rattle.vt_conf.specs.Sizes.{SpellsSize, unit_of}
use Rattle.vt_conf.proofs.AddressTexts.{host_ends, same_address, venti_is_no_number}
use Rattle.vt_conf.proofs.LineSettings.{is_same}
use Rattle.vt_conf.proofs.SizeTexts.{HasUnit, unit_is_positive, size_with_letter, size_without_letter, no_size_of_none}

-- ---- sizes

last_of : (b : ℕ) (l : List ℕ) → (front : List ℕ) × (last : ℕ) × (b ∷ l ≡ front ++ last ∷ [])
last_of b [] = ([], b, refl)
last_of b (x ∷ l) = let more = last_of x l in (b ∷ more.0, more.1, ap (λ (r : List ℕ). b ∷ r) more.2)

same_with_unit : (a b : ℕ) (digits : List ℕ) (unit : ℕ) → 1 ≤ unit → HasUnit a digits unit → HasUnit b digits unit → a ≡ b
same_with_unit a b digits unit some s t =
    let low : s.number * 1 ≤ s.number * unit = mul-le-mul_left s.number some in
    let low' : t.number * 1 ≤ t.number * unit = mul-le-mul_left t.number some in
    let same : s.number ≡ t.number = decimal_injective s.number t.number
    (omega (arith, low, mul-one s.number, s.most)) (omega (arith, low', mul-one t.number, t.most)) (sym s.digits_are ∙ t.digits_are) in
    s.value ∙ ap (λ (n : ℕ). n * unit) same ∙ sym t.value

same_by_last : (a b : ℕ) (text front : List ℕ) (last : ℕ) (o : Option ℕ) → text ≡ front ++ last ∷ [] → unit_of last ≡ o
    → SpellsSize a text → SpellsSize b text → a ≡ b
same_by_last a b text front last (Some u) ends is s t =
    same_with_unit a b front u (unit_is_positive last u is) (size_with_letter a text front last u ends is s) (size_with_letter b text front last u ends is t)
same_by_last a b text front last None ends is s t =
    same_with_unit a b text 1 (omega arith) (size_without_letter a text front last ends is s) (size_without_letter b text front last ends is t)

pub same_size : (text : List ℕ) (a b : ℕ) → SpellsSize a text → SpellsSize b text → a ≡ b
same_size [] a b s t = absurd (no_size_of_none a [] refl s)
same_size (x ∷ text) a b s t =
    let ends = last_of x text in same_by_last a b (x ∷ text) ends.0 ends.1 (unit_of ends.1) ends.2 refl s t

-- ---- addresses

abbrev is_mark : ℕ → Bool
is_mark b = b == 33

same_port : (a b : ℕ) (text : List ℕ) → IsPort a text → IsPort b text → a ≡ b
same_port a b text one other = ⊎_elim
    (λ venti. ⊎_elim
    (λ venti'. venti.1 ∙ sym venti'.1)
    (λ number'. absurd (venti_is_no_number b number'.2 (sym venti.0 ∙ number'.0)))
    other)
    (λ number. ⊎_elim
    (λ venti'. absurd (venti_is_no_number a number.2 (sym venti'.0 ∙ number.0)))
    (λ number'. decimal_injective a b (omega arith) (omega arith) (sym number.0 ∙ number'.0))
    other)
    one

pub one_address : (text : List ℕ) (a b : Address) → SpellsAddress a text → SpellsAddress b text → a ≡ b
one_address text a b s t =
    let h = s.parts in
    let h' = t.parts in
    let rest : s.host_text ++ 33 ∷ h.port_text ≡ t.host_text ++ 33 ∷ h'.port_text =
    append_cancel_left (codes "tcp!") (s.host_text ++ 33 ∷ h.port_text) (t.host_text ++ 33 ∷ h'.port_text) (sym h.spelled ∙ h'.spelled) in
    let len : length s.host_text ≡ length t.host_text = same_Some (length s.host_text) (length t.host_text)
    (sym (host_ends s.host_text h.port_text h.plain) ∙ ap (position is_mark) rest ∙ host_ends t.host_text h'.port_text h'.plain) in
    let hosts : s.host_text ≡ t.host_text =
    sym (take_at s.host_text (33 ∷ h.port_text) (length s.host_text) refl) ∙ ap (take (length s.host_text)) rest
    ∙ take_at t.host_text (33 ∷ h'.port_text) (length s.host_text) (sym len) in
    let backs : 33 ∷ h.port_text ≡ 33 ∷ h'.port_text =
    sym (drop_at s.host_text (33 ∷ h.port_text) (length s.host_text) refl) ∙ ap (drop (length s.host_text)) rest
    ∙ drop_at t.host_text (33 ∷ h'.port_text) (length s.host_text) (sym len) in
    let ports : h.port_text ≡ h'.port_text = ap (drop 1) backs in
    let at : a.port ≡ b.port = same_port a.port b.port h'.port_text (subst (IsPort a.port) ports h.port_is) h'.port_is in
    same_Some a b (same_address a.host a.port s.host_text b text t s.host_is hosts at)

-- ---- settings

abbrev tail : List (List ℕ) → List (List ℕ)
tail words = drop 1 words

same_value : (k : Keyword) (v w : List ℕ) → (takes_value k ≡ true) ⊎ (v ≡ []) → (takes_value k ≡ true) ⊎ (w ≡ [])
    → values_of k v ≡ values_of k w → v ≡ w
same_value k v w one other is = ⊎_elim
    (λ (yes : takes_value k ≡ true).
    let both : v ∷ [] ≡ w ∷ [] = sym (ap (λ (b : Bool). cond b (v ∷ []) []) yes) ∙ is ∙ ap (λ (b : Bool). cond b (w ∷ []) []) yes in cc)
    (λ (no : takes_value k ≡ false).
    ⊎_elim (λ (yes : takes_value k ≡ true). absurd (let wrong : true ≡ false = sym yes ∙ no in cc))
    (λ (none : v ≡ []). ⊎_elim (λ (yes : takes_value k ≡ true). absurd (let wrong : true ≡ false = sym yes ∙ no in cc)) (λ (none' : w ≡ []). none ∙ sym none') other)
    one)
    (cases_Bool (takes_value k))

same_setting : (e : Entry) (s t : Setting) → SetsSetting e s → SetsSetting e t → s ≡ t
same_setting e s t one other =
    let r = one.read in
    let r' = other.read in
    let words : r.name ∷ values_of s.keyword s.value ≡ r'.name ∷ values_of t.keyword t.value = sym r.words_are ∙ r'.words_are in
    let names : r.name ≡ r'.name = cc in
    let keywords : s.keyword ≡ t.keyword = same_Some s.keyword t.keyword (sym r.keyword_is ∙ ap keyword_of names ∙ r'.keyword_is) in
    let behind : values_of s.keyword s.value ≡ values_of t.keyword t.value = ap tail words in
    let values : s.value ≡ t.value = same_value t.keyword s.value t.value
    (subst (λ (k : Keyword). (takes_value k ≡ true) ⊎ (s.value ≡ [])) keywords r.none) r'.none
    (sym (ap (λ (k : Keyword). values_of k s.value) keywords) ∙ behind) in
    let lines : s.line ≡ t.line = one.line ∙ sym other.line in
    ap (λ (k : Keyword). let u : Setting = record { keyword = k; value = s.value; line = s.line } in u) keywords
    ∙ ap (λ (v : List ℕ). let u : Setting = record { keyword = t.keyword; value = v; line = s.line } in u) values
    ∙ ap (λ (n : ℕ). let u : Setting = record { keyword = t.keyword; value = t.value; line = n } in u) lines

same_settings : (es : List Entry) (ss ts : List Setting) → AreSet es ss → AreSet es ts → ss ≡ ts
same_settings [] [] [] one other = refl
same_settings [] [] (t ∷ ts) one other = absurd other
same_settings [] (s ∷ ss) ts one other = absurd one
same_settings (e ∷ es) [] ts one other = absurd one
same_settings (e ∷ es) (s ∷ ss) [] one other = absurd other
same_settings (e ∷ es) (s ∷ ss) (t ∷ ts) one other =
    ap (λ (u : Setting). u ∷ ss) (same_setting e s t one.0 other.0) ∙ ap (λ (us : List Setting). t ∷ us) (same_settings es ss ts one.1 other.1)

-- ---- configurations

same_size_in : (a b default : ℕ) (settings : List Setting) → IsSizeIn a default settings → IsSizeIn b default settings → a ≡ b
same_size_in a b default [] one other = one ∙ sym other
same_size_in a b default (s ∷ settings) one other = same_size s.value a b one other

same_address_in : (a b : Address) (settings : List Setting) → IsAddressIn a settings → IsAddressIn b settings → a ≡ b
same_address_in a b [] one other = one ∙ sym other
same_address_in a b (s ∷ settings) one other = one_address s.value a b one other

pub same_conf : (text : List ℕ) (a b : Conf) → Configures text a → Configures text b → SameConf a b
same_conf text a b one other =
    let same : one.settings ≡ other.settings = same_settings (line_entries text) one.settings other.settings one.are.set other.are.set in
    let x = one.come_to in
    let y = other.come_to in
    record {
      index = x.index ∙ ap (λ (l : List Setting). name_in (said Index l)) same ∙ sym y.index;
      arenas = x.arenas ∙ ap (λ (l : List Setting). map file_of (said Arenas l)) same ∙ sym y.arenas;
      sections = x.sections ∙ ap (λ (l : List Setting). map file_of (said Isect l)) same ∙ sym y.sections;
      filter = x.filter ∙ ap (λ (l : List Setting). first_part_file (map file_of (said Bloom l))) same ∙ sym y.filter;
      mem = same_size_in a.mem b.mem _ (said Mem other.settings) (subst (λ (l : List Setting). IsSizeIn a.mem _ (said Mem l)) same x.mem) y.mem;
      icmem = same_size_in a.icmem b.icmem _ (said Icmem other.settings) (subst (λ (l : List Setting). IsSizeIn a.icmem _ (said Icmem l)) same x.icmem) y.icmem;
      addr = same_address_in a.addr b.addr (said Addr other.settings) (subst (λ (l : List Setting). IsAddressIn a.addr (said Addr l)) same x.addr) y.addr;
    }

-- ---- what is accepted isn't refused

-- the settings of the lines before one, and that of the line
split_set : (before behind : List Entry) (e : Entry) (settings all : List Setting) → AreSet before settings
    → AreSet (before ++ e ∷ behind) all
    → (s : Setting) × (rest : List Setting) × (all ≡ settings ++ s ∷ rest) × SetsSetting e s
split_set [] behind e [] [] set whole = absurd whole
split_set [] behind e [] (s ∷ all) set whole = (s, all, refl, whole.0)
split_set [] behind e (t ∷ settings) all set whole = absurd set
split_set (f ∷ before) behind e [] all set whole = absurd set
split_set (f ∷ before) behind e (t ∷ settings) [] set whole = absurd whole
split_set (f ∷ before) behind e (t ∷ settings) (u ∷ all) set whole =
    let more = split_set before behind e settings all set.1 whole.1 in
    (more.0, more.1, ap (λ (v : Setting). v ∷ all) (same_setting f u t whole.0 set.0) ∙ ap (λ (l : List Setting). t ∷ l) more.2, more.3)

-- a line that is read isn't refused for itself
length_of_values : (k : Keyword) (v : List ℕ) → length (values_of k v) ≡ value_count k
length_of_values k v = ⊎_elim
    (λ (yes : takes_value k ≡ true). ap (λ (b : Bool). length (cond b (v ∷ []) [])) yes ∙ sym (ap (λ (b : Bool). cond b 1 0) yes))
    (λ (no : takes_value k ≡ false). ap (λ (b : Bool). length (cond b (v ∷ []) [])) no ∙ sym (ap (λ (b : Bool). cond b 1 0) no))
    (cases_Bool (takes_value k))

one_value : (k : Keyword) (v w : List ℕ) → w ∷ [] ≡ values_of k v → w ≡ v
one_value k v w is = ⊎_elim
    (λ (yes : takes_value k ≡ true). let both : w ∷ [] ≡ v ∷ [] = is ∙ ap (λ (b : Bool). cond b (v ∷ []) []) yes in cc)
    (λ (no : takes_value k ≡ false). absurd (let both : w ∷ [] ≡ [] = is ∙ ap (λ (b : Bool). cond b (v ∷ []) []) no in cc))
    (cases_Bool (takes_value k))

no_cause : (name : List ℕ) (values : List (List ℕ)) (k : Keyword) (v : List ℕ) (why : ConfCause) → keyword_of name ≡ Some k
    → values ≡ values_of k v → IsValue k v → Misreads (name ∷ values) why → ⊥
no_cause name values k v UnknownName is at fits bad = let wrong : Some k ≡ None = sym is ∙ bad in cc
no_cause name values k v MissingValue is at fits bad =
    let same : k ≡ bad.0 = same_Some k bad.0 (sym is ∙ bad.1) in
    omega (arith, bad.2, ap length at, length_of_values k v, ap value_count same)
no_cause name values k v ExtraValue is at fits bad =
    let same : k ≡ bad.0 = same_Some k bad.0 (sym is ∙ bad.1) in
    omega (arith, bad.2, ap length at, length_of_values k v, ap value_count same)
no_cause name values k v BadSize is at fits bad =
    let same : k ≡ bad.0 = same_Some k bad.0 (sym is ∙ bad.1) in
    let value : bad.2 ≡ v = one_value k v bad.2 (sym bad.3 ∙ at) in
    bad.4.1 (subst IsSizeText (sym value) (fits.size (ap takes_size same ∙ bad.4.0)))
no_cause name values k v BadAddress is at fits bad =
    let same : k ≡ bad.0 = same_Some k bad.0 (sym is ∙ bad.1) in
    let value : bad.2 ≡ v = one_value k v bad.2 (sym bad.3 ∙ at) in
    bad.4.1 (subst IsAddress (sym value) (fits.address (ap takes_address same ∙ bad.4.0)))
no_cause name values k v NotUtf8 is at fits bad = bad.4
no_cause name values k v CarriageReturn is at fits bad = bad.4
no_cause name values k v TooLong is at fits bad = bad.4
no_cause name values k v Repeated is at fits bad = bad.4
no_cause name values k v TooMany is at fits bad = bad.4
no_cause name values k v NoArenas is at fits bad = bad.4
no_cause name values k v NoSections is at fits bad = bad.4

no_misreading : (words : List (List ℕ)) (k : Keyword) (v : List ℕ) (why : ConfCause) → IsSettingRead words k v → Misreads words why → ⊥
no_misreading [] k v why r bad = bad
no_misreading (name ∷ values) k v why r bad =
    let names : name ≡ r.name = cc (r.words_are) in
    let at : values ≡ values_of k v = ap tail r.words_are in
    no_cause name values k v why (ap keyword_of names ∙ r.keyword_is) at r.fits bad

-- nor is it one too many
no_excess : (settings rest : List Setting) (s : Setting) → AreFew (settings ++ s ∷ rest)
    → most_lines s.keyword ≤ length (said s.keyword settings) → ⊥
no_excess settings rest s few full =
    let k : Keyword = s.keyword in
    let whole : said k (settings ++ s ∷ rest) ≡ said k settings ++ said k (s ∷ rest) = filter-append (is_of k) settings (s ∷ rest) in
    let own : said k (s ∷ rest) ≡ s ∷ said k rest = ap (λ (b : Bool). cond b (s ∷ said k rest) (said k rest)) (is_same k) in
    omega (arith, few k, ap length whole, length-append (said k settings) (said k (s ∷ rest)), ap length own, full)

no_refusal : (text : List ℕ) (conf : Conf) (line : ℕ) (why : ConfCause) → Configures text conf → IsFirstRefused text line why → ⊥
no_refusal text conf line why h r =
    let split = split_set r.before r.behind r.entry r.settings h.settings r.set
    (subst (λ (es : List Entry). AreSet es h.settings) r.split h.are.set) in
    let s : Setting = split.0 in
    ⊎_elim
    (λ (bad : Misreads r.entry.words why). no_misreading r.entry.words s.keyword s.value why split.3.read bad)
    (λ (set : (t : Setting) × SetsSetting r.entry t × Exceeds r.settings t why).
    let same : set.0 ≡ s = same_setting r.entry set.0 s set.1 split.3 in
    no_excess r.settings split.1 s (subst AreFew split.2 h.are.few)
    (subst (λ (t : Setting). most_lines t.keyword ≤ length (said t.keyword r.settings)) same set.2.full))
    r.refused

-- a line of a configuration is plain
wrong_is_plain : (text : List ℕ) (conf : Conf) (line : ℕ) (why : ConfCause) → Configures text conf
    → (cause : IsFirstWrong text line why) → IsPlainLine cause.wrong
wrong_is_plain text conf line why h cause =
    let all : All IsPlainLine (cause.before ++ cause.wrong ∷ cause.behind) = subst (All IsPlainLine) cause.split h.are.is_text.plain in
    subst IsPlainLine (get_or-append_seam cause.before cause.wrong cause.behind [])
    (all (length cause.before) [] (omega (arith, length-append cause.before (cause.wrong ∷ cause.behind))))

pub no_cause_of_conf : (text : List ℕ) (conf : Conf) (line : ℕ) (why : ConfCause) → Configures text conf → IsFirstCause text line why → ⊥
no_cause_of_conf text conf line NotUtf8 h cause = cause.is_wrong (wrong_is_plain text conf line NotUtf8 h cause).utf8
no_cause_of_conf text conf line CarriageReturn h cause =
    let no : false ≡ true = sym (wrong_is_plain text conf line CarriageReturn h cause).unreturned ∙ cause.is_wrong.1 in cc
no_cause_of_conf text conf line TooLong h cause = omega (arith, h.are.is_text.most, cause.2)
no_cause_of_conf text conf line NoArenas h cause =
    let same : h.settings ≡ cause.1 = same_settings (line_entries text) h.settings cause.1 h.are.set cause.2.set in
    omega (arith, h.arenas, ap (λ (l : List Setting). length (said Arenas l)) same, ap length cause.3)
no_cause_of_conf text conf line NoSections h cause =
    let same : h.settings ≡ cause.1 = same_settings (line_entries text) h.settings cause.1 h.are.set cause.2.set in
    omega (arith, h.sections, ap (λ (l : List Setting). length (said Isect l)) same, ap length cause.4)
no_cause_of_conf text conf line UnknownName h cause = no_refusal text conf line UnknownName h cause
no_cause_of_conf text conf line MissingValue h cause = no_refusal text conf line MissingValue h cause
no_cause_of_conf text conf line ExtraValue h cause = no_refusal text conf line ExtraValue h cause
no_cause_of_conf text conf line BadSize h cause = no_refusal text conf line BadSize h cause
no_cause_of_conf text conf line BadAddress h cause = no_refusal text conf line BadAddress h cause
no_cause_of_conf text conf line Repeated h cause = no_refusal text conf line Repeated h cause
no_cause_of_conf text conf line TooMany h cause = no_refusal text conf line TooMany h cause
