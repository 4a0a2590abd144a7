-- The settings of the lines so far.
use Rattle.std.proofs.Common.{◌≡◌, ℕ, ◌+◌, ◌<◌, ◌≤◌, ⊎_elim, Bool, true, false, cond, List, [], ◌∷◌, ◌++◌, Option, Some, None, length, get_or, refl, sym, ◌∙◌, ap, subst, arith, append_assoc, length-append}
use Rattle.std.specs.Prelude.{◌==◌, All, MatchOption, find, map, unwrap_or, if◌then◌else◌}
use Rattle.std.proofs.lemmas.Bool.{cases_Bool, eqb-true}
use Rattle.std.proofs.lemmas.List.{append-nil}
use Rattle.std.proofs.lemmas.List.Elements.{All-nil, All-cons, All-filter, filter-append, filter_passes}
use Rattle.vt_conf.specs.declared.address.Address.{Address}
use Rattle.vt_conf.specs.declared.keyword.Keyword.{Keyword}
use Rattle.vt_conf.specs.declared.keyword.Keyword.TheVariants.{Index, Arenas, Isect, Bloom, Mem, Icmem, Bcmem, Httpaddr, Webroot, Queuewrites, Addr}
use Rattle.vt_conf.specs.declared.setting.Setting.{Setting}
use Rattle.vt_conf.specs.declared.error.ConfErr.{ConfErr}
use Rattle.vt_conf.specs.declared.error.ConfErr.TheVariants.{Bad, NoMemory}
use Rattle.vt_conf.specs.declared.error.ConfCause.{ConfCause}
use Rattle.vt_conf.specs.declared.error.ConfCause.TheVariants.{NotUtf8, CarriageReturn, TooLong, UnknownName, MissingValue, ExtraValue, BadSize, BadAddress, Repeated, TooMany, NoArenas, NoSections}
use Rattle.vt_conf.specs.Configuration.{file_of, IsSizeIn, IsAddressIn, Entry, entry_at, entries_from, line_entries, SetsSetting, AreSet, is_of, said, AreFew, IsConfText, AreSettings, Exceeds, RefusesLine, IsFirstRefused, IsFirstCause}
use Rattle.vt_conf.specs.Addresses.{SpellsAddress}
use Rattle.vt_conf.specs.Sizes.{SpellsSize}
use Rattle.vt_conf.specs.Exceeding.{exceeded_by}
use Rattle.vt_conf.specs.Keywords.{is_file, takes_size, keyword_number, same_keyword, most_lines}
use Rattle.vt_conf.specs.Lines.{words_of_line}
use Rattle.vt_conf.specs.Parsing.{lines_left, line_entry, AddsLine, IsBad, IsBadLine, HaveValues}
use Rattle.vt_conf.specs.Settings.{IsValue, Misreads}
use Rattle.vt_conf.proofs.TextLines.{line_at, all_left, none_left, next_left, line_within}

-- ---- keywords

abbrev keyword_at : ℕ → Keyword
keyword_at n =
    if n == 0 then Index
    else if n == 1 then Arenas
    else if n == 2 then Isect
    else if n == 3 then Bloom
    else if n == 4 then Mem
    else if n == 5 then Icmem
    else if n == 6 then Bcmem
    else if n == 7 then Httpaddr
    else if n == 8 then Webroot
    else if n == 9 then Queuewrites
    else Addr

number_back : (k : Keyword) → keyword_at (keyword_number k) ≡ k
number_back Index = refl
number_back Arenas = refl
number_back Isect = refl
number_back Bloom = refl
number_back Mem = refl
number_back Icmem = refl
number_back Bcmem = refl
number_back Httpaddr = refl
number_back Webroot = refl
number_back Queuewrites = refl
number_back Addr = refl

pub same_is : (a b : Keyword) → same_keyword a b ≡ true → a ≡ b
same_is a b same =
    sym (number_back a) ∙ ap keyword_at (eqb-true (keyword_number a) (keyword_number b) same) ∙ number_back b

pub is_same : (a : Keyword) → same_keyword a a ≡ true
is_same Index = refl
is_same Arenas = refl
is_same Isect = refl
is_same Bloom = refl
is_same Mem = refl
is_same Icmem = refl
is_same Bcmem = refl
is_same Httpaddr = refl
is_same Webroot = refl
is_same Queuewrites = refl
is_same Addr = refl

-- ---- settings of a keyword

said-push : (k : Keyword) (old : List Setting) (s : Setting)
    → said k (old ++ s ∷ []) ≡ said k old ++ cond (is_of k s) (s ∷ []) []
said-push k old s = filter-append (is_of k) old (s ∷ [])

few_push : (old : List Setting) (s : Setting) → AreFew old → length (said s.keyword old) < most_lines s.keyword
    → AreFew (old ++ s ∷ [])
few_push old s few room k = ⊎_elim
    (λ (yes : is_of k s ≡ true).
    let is : s.keyword ≡ k = same_is s.keyword k yes in
    let below : length (said k old) < most_lines k = subst (λ (j : Keyword). length (said j old) < most_lines j) is room in
    let one : said k (old ++ s ∷ []) ≡ said k old ++ s ∷ [] = said-push k old s ∙ ap (λ (b : Bool). said k old ++ cond b (s ∷ []) []) yes in
    omega (arith, below, ap length one, length-append (said k old) (s ∷ [])))
    (λ (no : is_of k s ≡ false).
    let none : said k (old ++ s ∷ []) ≡ said k old = said-push k old s ∙ ap (λ (b : Bool). said k old ++ cond b (s ∷ []) []) no ∙ append-nil (said k old) in
    omega (arith, few k, ap length none))
    (cases_Bool (is_of k s))

set_push : (es : List Entry) (old : List Setting) (e : Entry) (s : Setting) → AreSet es old → SetsSetting e s
    → AreSet (es ++ e ∷ []) (old ++ s ∷ [])
set_push [] [] e s set one = (one, tt)
set_push [] (t ∷ old) e s set one = absurd set
set_push (f ∷ es) [] e s set one = absurd set
set_push (f ∷ es) (t ∷ old) e s set one = (set.0, set_push es old e s set.1 one)

-- the settings of lines have values that their keywords may have
pub values_of_set : (es : List Entry) (settings : List Setting) → AreSet es settings → HaveValues settings
values_of_set [] [] set = All-nil (λ s. IsValue s.keyword s.value)
values_of_set [] (s ∷ settings) set = absurd set
values_of_set (e ∷ es) [] set = absurd set
values_of_set (e ∷ es) (s ∷ settings) set =
    All-cons (λ s. IsValue s.keyword s.value) s settings set.0.read.fits (values_of_set es settings set.1)

-- the first setting of a keyword
pub found_first : (k : Keyword) (settings : List Setting)
    → MatchOption (find (is_of k) settings) (said k settings ≡ []) (λ s. (others : List Setting) × (said k settings ≡ s ∷ others))
found_first k [] = refl
found_first k (s ∷ settings) = ⊎_elim
    (λ (yes : is_of k s ≡ true).
    subst (λ (b : Bool). MatchOption (cond b (Some s) (find (is_of k) settings)) (cond b (s ∷ said k settings) (said k settings) ≡ [])
    (λ t. (others : List Setting) × (cond b (s ∷ said k settings) (said k settings) ≡ t ∷ others))) (sym yes) (said k settings, refl))
    (λ (no : is_of k s ≡ false).
    subst (λ (b : Bool). MatchOption (cond b (Some s) (find (is_of k) settings)) (cond b (s ∷ said k settings) (said k settings) ≡ [])
    (λ t. (others : List Setting) × (cond b (s ∷ said k settings) (said k settings) ≡ t ∷ others))) (sym no) (found_first k settings))
    (cases_Bool (is_of k s))

pub first_has_value : (k : Keyword) (settings others : List Setting) (s : Setting) → HaveValues settings
    → said k settings ≡ s ∷ others → IsValue k s.value
first_has_value k settings others s values is =
    let kept : HaveValues (said k settings) = All-filter (is_of k) (λ t. IsValue t.keyword t.value) settings values in
    let passes : All (λ t. is_of k t ≡ true) (said k settings) = filter_passes (is_of k) settings in
    let some : 0 < length (said k settings) = omega (arith, ap length is) in
    let first : (t : Setting) × (t ≡ s) = (s, refl) in
    let value : IsValue s.keyword s.value = subst (λ (l : List Setting). (j : ℕ) (d : Setting) → j < length l → IsValue (get_or l j d).keyword (get_or l j d).value) is kept 0 s (omega arith) in
    let same : is_of k s ≡ true = subst (λ (l : List Setting). (j : ℕ) (d : Setting) → j < length l → is_of k (get_or l j d) ≡ true) is passes 0 s (omega arith) in
    subst (λ (j : Keyword). IsValue j s.value) (same_is s.keyword k same) value

-- ---- lines

pub record HasRead (text : List ℕ) (start number : ℕ) (settings : List Setting) : Type 0 where
  pub passed : List Entry
  pub split : line_entries text ≡ passed ++ entries_from (number + 1) (lines_left text start)
  pub set : AreSet passed settings
  pub few : AreFew settings
  pub low : number ≤ start
  pub high : start ≤ length text + 1

pub none_read : (text : List ℕ) → HasRead text 0 0 []
none_read text = record {
  passed = [];
  split = sym (ap (entries_from 1) (all_left text));
  set = tt;
  few = λ k. omega arith;
  low = omega arith;
  high = omega arith;
}

-- the lines from this one on
split_next : (text line : List ℕ) (start number next : ℕ) (passed : List Entry) → start ≤ length text
    → line_entries text ≡ passed ++ entries_from (number + 1) (lines_left text start) → line ≡ line_at text start
    → next ≡ start + (length line + 1)
    → line_entries text ≡ (passed ++ entry_at (number + 1) (words_of_line line)) ++ entries_from ((number + 1) + 1) (lines_left text next)
split_next text line start number next passed within split is at =
    let at' : next ≡ start + (length (line_at text start) + 1) = at ∙ ap (λ (l : List ℕ). start + (length l + 1)) is in
    split ∙ ap (λ (ls : List (List ℕ)). passed ++ entries_from (number + 1) ls)
    (next_left text start next within at' ∙ ap (λ (l : List ℕ). l ∷ lines_left text next) (sym is))
    ∙ sym (append_assoc passed (entry_at (number + 1) (words_of_line line)) (entries_from ((number + 1) + 1) (lines_left text next)))

-- words that are a keyword and its value are a line's
entry_is : (number : ℕ) (words : List (List ℕ)) (name : List ℕ) (values : List (List ℕ)) → words ≡ name ∷ values
    → entry_at number words ≡ record { line = number; words = words } ∷ []
entry_is number [] name values is = cc
entry_is number (word ∷ words) name values is = refl

pub one_read : (text line : List ℕ) (start number next : ℕ) (old new : List Setting) → HasRead text start number old
    → start ≤ length text → line ≡ line_at text start → next ≡ start + (length line + 1)
    → AddsLine (number + 1) line old new → HasRead text next (number + 1) new
one_read text line start number next old new h within is at adds =
    let split = split_next text line start number next h.passed within h.split is at in
    let at' : next ≡ start + (length (line_at text start) + 1) = at ∙ ap (λ (l : List ℕ). start + (length l + 1)) is in
    let low' : number + 1 ≤ next = omega (arith, h.low, at') in
    let high' : next ≤ length text + 1 = omega (arith, line_within text start within, at') in
    ⊎_elim
    (λ (none : (words_of_line line ≡ []) × (new ≡ old)).
    record {
      passed = h.passed ++ entry_at (number + 1) (words_of_line line);
      split = split;
      set = subst (λ (es : List Entry). AreSet es new) (sym (ap (λ (ws : List (List ℕ)). h.passed ++ entry_at (number + 1) ws) none.0 ∙ append-nil h.passed))
          (subst (AreSet h.passed) (sym none.1) h.set);
      few = subst AreFew (sym none.1) h.few;
      low = low';
      high = high';
    })
    (λ (one : (s : Setting) × (new ≡ old ++ s ∷ []) × SetsSetting (line_entry (number + 1) line) s × (length (said s.keyword old) < most_lines s.keyword)).
    record {
      passed = h.passed ++ entry_at (number + 1) (words_of_line line);
      split = split;
      set = subst (λ (es : List Entry). AreSet (h.passed ++ es) new) (sym (entry_is (number + 1) (words_of_line line) one.2.read.name _ one.2.read.words_are))
          (subst (AreSet (h.passed ++ line_entry (number + 1) line ∷ [])) (sym one.1) (set_push h.passed old (line_entry (number + 1) line) one.0 h.set one.2));
      few = subst AreFew (sym one.1) (few_push old one.0 h.few one.3);
      low = low';
      high = high';
    })
    adds

pub all_read : (text : List ℕ) (start number : ℕ) (settings : List Setting) → HasRead text start number settings
    → length text < start → IsConfText text → AreSettings text settings
all_read text start number settings h behind is_text = record {
  is_text = is_text;
  set = subst (λ (es : List Entry). AreSet es settings)
      (sym (h.split ∙ ap (λ (ls : List (List ℕ)). h.passed ++ entries_from (number + 1) ls) (none_left text start behind) ∙ append-nil h.passed)) h.set;
  few = h.few;
}

-- ---- refusals

-- words that are refused are a line's
refused_entry : (before : List Setting) (number : ℕ) (words : List (List ℕ)) (why : ConfCause)
    → RefusesLine before (record { line = number; words = words }) why
    → entry_at number words ≡ record { line = number; words = words } ∷ []
refused_entry before number [] why refused = ⊎_elim
    (λ (bad : Misreads [] why). absurd bad)
    (λ (set : (s : Setting) × SetsSetting (record { line = number; words = [] }) s × Exceeds before s why).
    entry_is number [] set.1.read.name _ set.1.read.words_are)
    refused
refused_entry before number (word ∷ words) why refused = refl

-- only the tests of a line refuse one
unexceeded : (k : Keyword) (why : ConfCause) → (Repeated ≡ why → ⊥) → (TooMany ≡ why → ⊥) → why ≡ exceeded_by k → ⊥
unexceeded k why once many is = ⊎_elim
    (λ (yes : is_file k ≡ true). many (sym (is ∙ ap (λ (b : Bool). cond b TooMany Repeated) yes)))
    (λ (no : is_file k ≡ false). once (sym (is ∙ ap (λ (b : Bool). cond b TooMany Repeated) no)))
    (cases_Bool (is_file k))

misread_by : (words : List (List ℕ)) (why : ConfCause) → Misreads words why
    → ((name : List ℕ) (values : List (List ℕ)) → Misreads (name ∷ values) why → ⊥) → ⊥
misread_by [] why bad never = bad
misread_by (name ∷ values) why bad never = never name values bad

not_by_line : (before : List Setting) (e : Entry) (why : ConfCause) → RefusesLine before e why
    → ((name : List ℕ) (values : List (List ℕ)) → Misreads (name ∷ values) why → ⊥)
    → (Repeated ≡ why → ⊥) → (TooMany ≡ why → ⊥) → ⊥
not_by_line before e why refused misreads once many = ⊎_elim
    (λ (bad : Misreads e.words why). misread_by e.words why bad misreads)
    (λ (set : (s : Setting) × SetsSetting e s × Exceeds before s why). unexceeded set.0.keyword why once many set.2.why_is)
    refused

pub refused_is_cause : (text : List ℕ) (line : ℕ) (why : ConfCause) → IsFirstRefused text line why → IsFirstCause text line why
refused_is_cause text line UnknownName h = h
refused_is_cause text line MissingValue h = h
refused_is_cause text line ExtraValue h = h
refused_is_cause text line BadSize h = h
refused_is_cause text line BadAddress h = h
refused_is_cause text line Repeated h = h
refused_is_cause text line TooMany h = h
refused_is_cause text line NotUtf8 h = absurd (not_by_line h.settings h.entry NotUtf8 h.refused (λ name values bad. bad.4) (λ e. cc) (λ e. cc))
refused_is_cause text line CarriageReturn h = absurd (not_by_line h.settings h.entry CarriageReturn h.refused (λ name values bad. bad.4) (λ e. cc) (λ e. cc))
refused_is_cause text line TooLong h = absurd (not_by_line h.settings h.entry TooLong h.refused (λ name values bad. bad.4) (λ e. cc) (λ e. cc))
refused_is_cause text line NoArenas h = absurd (not_by_line h.settings h.entry NoArenas h.refused (λ name values bad. bad.4) (λ e. cc) (λ e. cc))
refused_is_cause text line NoSections h = absurd (not_by_line h.settings h.entry NoSections h.refused (λ name values bad. bad.4) (λ e. cc) (λ e. cc))

pub first_refused : (text line : List ℕ) (start number bad : ℕ) (why : ConfCause) (old : List Setting) → HasRead text start number old
    → start ≤ length text → line ≡ line_at text start → IsConfText text → IsBadLine old (number + 1) line bad why
    → IsFirstCause text bad why
first_refused text line start number bad why old h within is is_text refused =
    let entry : Entry = line_entry (number + 1) line in
    let next : ℕ = start + (length line + 1) in
    let one : entry_at (number + 1) (words_of_line line) ≡ entry ∷ [] = refused_entry old (number + 1) (words_of_line line) why refused.refused in
    let behind : List Entry = entries_from ((number + 1) + 1) (lines_left text next) in
    refused_is_cause text bad why (record {
      is_text = is_text;
      before = h.passed;
      entry = entry;
      behind = behind;
      split = split_next text line start number next h.passed within h.split is refl
          ∙ ap (λ (es : List Entry). (h.passed ++ es) ++ behind) one ∙ append_assoc h.passed (entry ∷ []) behind;
      line_is = refused.line_is;
      settings = old;
      set = h.set;
      few = h.few;
      refused = refused.refused;
    })

-- ---- what the settings come to

pub first_said : (k : Keyword) (settings : List Setting) (s : Setting) → Some s ≡ find (is_of k) settings
    → (others : List Setting) × (said k settings ≡ s ∷ others)
first_said k settings s is =
    subst (λ (o : Option Setting). MatchOption o (said k settings ≡ []) (λ t. (others : List Setting) × (said k settings ≡ t ∷ others)))
    (sym is) (found_first k settings)

pub none_said : (k : Keyword) (settings : List Setting) → None ≡ find (is_of k) settings → said k settings ≡ []
none_said k settings is =
    subst (λ (o : Option Setting). MatchOption o (said k settings ≡ []) (λ t. (others : List Setting) × (said k settings ≡ t ∷ others)))
    (sym is) (found_first k settings)

pub size_of_first : (k : Keyword) (settings : List Setting) (s : Setting) (o : Option ℕ) (r default : ℕ) → HaveValues settings
    → takes_size k ≡ true → Some s ≡ find (is_of k) settings → ((n : ℕ) → SpellsSize n s.value → o ≡ Some n)
    → r ≡ unwrap_or o default → IsSizeIn r default (said k settings)
size_of_first k settings s o r default values takes is only at =
    let first = first_said k settings s is in
    let size = (first_has_value k settings first.0 s values first.1).size takes in
    let found : r ≡ size.0 = at ∙ ap (λ (q : Option ℕ). unwrap_or q default) (only size.0 size.1) in
    subst (IsSizeIn r default) (sym first.1) (subst (λ (n : ℕ). SpellsSize n s.value) (sym found) size.1)

pub address_of_first : (settings : List Setting) (s : Setting) (o : Option Address) (r default : Address) → HaveValues settings
    → Some s ≡ find (is_of Addr) settings → ((a : Address) → SpellsAddress a s.value → o ≡ Some a)
    → r ≡ unwrap_or o default → IsAddressIn r (said Addr settings)
address_of_first settings s o r default values is only at =
    let first = first_said Addr settings s is in
    let address = (first_has_value Addr settings first.0 s values first.1).address refl in
    let found : r ≡ address.0 = at ∙ ap (λ (q : Option Address). unwrap_or q default) (only address.0 address.1) in
    subst (IsAddressIn r) (sym first.1) (subst (λ (a : Address). SpellsAddress a s.value) (sym found) address.1)

mapped : (b : Bool) (t : Setting) → map file_of (cond b (t ∷ []) []) ≡ cond b (file_of t ∷ []) []
mapped true t = refl
mapped false t = refl

pub bad_read : (text line : List ℕ) (start number : ℕ) (old : List Setting) (e : ConfErr) → HasRead text start number old
    → start ≤ length text → line ≡ line_at text start → IsConfText text → IsBad (IsBadLine old (number + 1) line) e
    → IsBad (IsFirstCause text) e
bad_read text line start number old (Bad bad) h within is is_text refused =
    first_refused text line start number bad.line bad.why old h within is is_text refused
bad_read text line start number old NoMemory h within is is_text refused = tt

-- there are files of arenas and sections, and the settings come to this
pub none_there : (l : List Setting) → length l ≡ 0 → l ≡ []
none_there [] none = refl
none_there (s ∷ l) none = cc
