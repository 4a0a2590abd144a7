-- Every input is heard, in one way, and what is heard of it goes on when bytes follow.
use Rattle.std.proofs.Common.{◌≡◌, ◌≢◌, ℕ, suc, ◌+◌, ◌||◌, ◌≤◌, Bool, false, List, [], ◌∷◌, ◌++◌, length, drop, Option, Some, None, refl, sym, ◌∙◌, ap, subst, arith, inl, inr, append_assoc, length-append}
use Rattle.std.specs.Prelude.{MatchOption}
use Rattle.std.specs.List.{flat_map}
use Rattle.std.proofs.lemmas.Bool.{cases_Bool}
use Rattle.std.proofs.lemmas.List.{drop-append-le}
use Rattle.std.proofs.lemmas.List.Elements.{All-head, All-tail}
use Rattle.vt_base.specs.Bytes.{AreBytes}
use Rattle.vt_wire.specs.Frames.{framed, IsBody, IsPartial, Splits}
use Rattle.vt_wire.specs.Messages.{is_request_type}
use Rattle.vt_wire.specs.Lines.{line_of}
use Rattle.vt_wire.specs.declared.line.Line.{Line}
use Rattle.vt_wire.specs.declared.line.Line.TheVariants.{Whole, More, Bad}
use Rattle.vt_wire.proofs.Frames.{split_one, splits, bytes-drop, same_framed, frame_len-framed, length-framed}
use Rattle.vt_wire.proofs.Messages.{body_one}
use Rattle.vt_wire.proofs.Forms.{bytes-front, bytes-back}
use Rattle.vt_wire.proofs.RequestForms.{known_type, body_read}
use Rattle.vt_wire.proofs.WholeLines.{line_stays, whole_is}
use Rattle.vt_session.specs.declared.Ended.{Ended}
use Rattle.vt_session.specs.declared.Ended.TheVariants.{Goodbye, Closed, Cut, Malformed}
use Rattle.vt_session.specs.Heard.{Item, heard_item, Means, unknown, misspelled, spelled, greets, end_of, Hears, Unheard, HearsRest, HearsBehind, Heard}
use Rattle.vt_session.specs.Hearing.{Hearing, going_on, over, HearsOn, IsHeard, behind_frame}
use Rattle.vt_session.specs.Talk.{EndsByInput}

-- ---- in one way

means_one : {offered greeted : Bool} {type tag : ℕ} {parameters : List ℕ} {a b : Option Item}
    → Means offered greeted type tag parameters a → Means offered greeted type tag parameters b
    → a ≡ b
means_one (unknown p) (unknown q) = refl
means_one (unknown p) (misspelled q n) = absurd (cc)
means_one (unknown p) (spelled m x) = let k = ap is_request_type x.type_is ∙ known_type m in
    absurd (cc)
means_one (misspelled q n) (unknown p) = absurd (cc)
means_one (misspelled q n) (misspelled r o) = refl
means_one (misspelled q n) (spelled m x) = absurd (n m x)
means_one (spelled m x) (unknown p) = let k = ap is_request_type x.type_is ∙ known_type m in
    absurd (cc)
means_one (spelled m x) (misspelled q n) = absurd (n m x)
means_one {offered} {greeted} {type} {tag} {parameters} (spelled m x) (spelled n y) =
    ap (heard_item offered greeted tag) (body_one m n type parameters x y)

-- what is said of the frames behind one that means this
abbrev pub HearsBehindFrame : Bool → Bool → ℕ → List (List ℕ) → List ℕ → List Item → Ended
    → Option Item → Type 0
HearsBehindFrame offered greeted behind bodies rest items ended meant =
    MatchOption meant ((items ≡ []) × (ended ≡ Goodbye))
    (λ item. (later : List Item) × (items ≡ item ∷ later)
    × Hears offered (greeted || greets item) behind bodies rest later ended)

pub hears_one : (offered greeted : Bool) (place : ℕ) (bodies : List (List ℕ)) (rest : List ℕ)
    (items items' : List Item) (e e' : Ended)
    → Hears offered greeted place bodies rest items e
    → Hears offered greeted place bodies rest items' e' → (items ≡ items') × (e ≡ e')
hears_one offered greeted place [] rest items items' e e' x y = (x.0 ∙ sym y.0, x.1 ∙ sym y.1)
hears_one offered greeted place ([] ∷ bodies) rest items items' e e' x y =
    (x.0 ∙ sym y.0, x.1 ∙ sym y.1)
hears_one offered greeted place ((type ∷ []) ∷ bodies) rest items items' e e' x y =
    (x.0 ∙ sym y.0, x.1 ∙ sym y.1)
hears_one offered greeted place ((type ∷ tag ∷ parameters) ∷ bodies) rest items items' e e' x y =
    let behind = place + length (framed (type ∷ tag ∷ parameters)) in
    let Says : List Item → Ended → Option Item → Type 0 =
    HearsBehindFrame offered greeted behind bodies rest in
    elim (x.0) as (λ meant. Says items e meant → Says items' e' meant
    → (items ≡ items') × (e ≡ e')) [
      | None ↦ λ p q. (p.0 ∙ sym q.0, p.1 ∙ sym q.1)
      | Some item ↦ λ p q.
          let more = hears_one offered
          (greeted || greets item) behind bodies rest p.0 q.0 e e' p.2 q.2 in
          (p.1 ∙ ap (λ l. item ∷ l) more.0 ∙ sym q.1, more.1)
    ] x.2 (subst (Says items' e') (sym (means_one x.1 y.1)) y.2)

rest_one : (left : Unheard) (items items' : List Item) (e e' : Ended) → HearsRest left items e
    → HearsRest left items' e' → (items ≡ items') × (e ≡ e')
rest_one left items items' e e' x y =
    let same = split_one left.bytes x.0 y.0 x.1 y.1 x.2 y.2 in
    let P : List (List ℕ) → List ℕ → Type 0 =
    λ b r. Hears left.offered left.greeted left.place b r items' e' in
    hears_one left.offered left.greeted left.place x.0 x.1 items items' e e' x.3
    (subst (λ b. P b x.1) (sym same.0) (subst (P y.0) (sym same.1) y.3))

pub hearing_one : (h : Hearing) (items items' : List Item) (e e' : Ended) → HearsOn h items e
    → HearsOn h items' e' → (items ≡ items') × (e ≡ e')
hearing_one (going_on left) items items' e e' x y = rest_one left items items' e e' x y
hearing_one (over end) items items' e e' x y = (x.0 ∙ sym y.0, x.1 ∙ sym y.1)

behind_one : (input : List ℕ) (line : Line) (items items' : List Item) (e e' : Ended)
    → HearsBehind input line items e → HearsBehind input line items' e'
    → (items ≡ items') × (e ≡ e')
behind_one input (Whole len offered) items items' e e' x y = rest_one _ items items' e e' x y
behind_one input More items items' e e' x y = (x.0 ∙ sym y.0, x.1 ∙ sym y.1)
behind_one input (Bad place) items items' e e' x y = (x.0 ∙ sym y.0, x.1 ∙ sym y.1)

pub heard_one : (input : List ℕ) (items items' : List Item) (e e' : Ended) → Heard input items e
    → Heard input items' e' → (items ≡ items') × (e ≡ e')
heard_one input items items' e e' x y = behind_one input (line_of input) items items' e e' x y

-- ---- in some way

means_some : (offered greeted : Bool) (type tag : ℕ) (parameters : List ℕ) → AreBytes parameters
    → (meant : Option Item) × Means offered greeted type tag parameters meant
means_some offered greeted type tag parameters are = elim (cases_Bool (is_request_type type)) [
  | inr not_known ↦ (_, unknown not_known)
  | inl known ↦ elim (body_read type parameters are) [
    | inl m ↦ (_, spelled m.0 m.1)
    | inr none ↦ (_, misspelled known none)
  ]
]

end_by_input : (rest : List ℕ) → EndsByInput (end_of rest)
end_by_input [] = tt
end_by_input (b ∷ bytes) = tt

hears_some : (offered greeted : Bool) (place : ℕ) (bodies : List (List ℕ)) (rest : List ℕ)
    → AreBytes (flat_map framed bodies ++ rest)
    → (items : List Item) × (ended : Ended) × Hears offered greeted place bodies rest items ended
    × EndsByInput ended
hears_some offered greeted place [] rest are = ([], end_of rest, (refl, refl), end_by_input rest)
hears_some offered greeted place ([] ∷ bodies) rest are = ([], Malformed place, (refl, refl), tt)
hears_some offered greeted place ((type ∷ []) ∷ bodies) rest are =
    ([], Malformed place, (refl, refl), tt)
hears_some offered greeted place ((type ∷ tag ∷ parameters) ∷ bodies) rest are =
    let frame = framed (type ∷ tag ∷ parameters) in
    let all : AreBytes (frame ++ (flat_map framed bodies ++ rest)) =
    subst AreBytes (append_assoc frame (flat_map framed bodies) rest) are in
    let whole : AreBytes frame = bytes-front frame (flat_map framed bodies ++ rest) all in
    let m = means_some offered greeted type tag parameters (λ i. whole (suc (suc (suc (suc i))))) in
    let Says : List Item → Ended → Option Item → Type 0 =
    HearsBehindFrame offered greeted (place + length frame) bodies rest in
    let r : (items : List Item) × (ended : Ended) × Says items ended m.0 × EndsByInput ended =
    elim (m.0) as (λ meant. (items : List Item) × (ended : Ended) × Says items ended meant
    × EndsByInput ended) [
      | None ↦ ([], Goodbye, (refl, refl), tt)
      | Some item ↦
          let later = hears_some offered (greeted || greets item)
          (place + length frame) bodies rest
          (bytes-back frame (flat_map framed bodies ++ rest) all) in
          (item ∷ later.0, later.1, (later.0, refl, later.2), later.3)
    ] in
    (r.0, r.1, (m.0, m.1, r.2), r.3)

rest_some : (left : Unheard) → AreBytes left.bytes
    → (items : List Item) × (ended : Ended) × HearsRest left items ended × EndsByInput ended
rest_some left are =
    let cut = splits left.bytes are in
    let r = hears_some left.offered left.greeted left.place cut.0 cut.1
    (subst AreBytes cut.2.whole are) in
    (r.0, r.1, (cut.0, cut.1, cut.2, r.2), r.3)

pub going_on_heard : (left : Unheard) → AreBytes left.bytes → IsHeard (going_on left)
going_on_heard left are = let r = rest_some left are in (r.0, r.1, r.2)

behind_some : (input : List ℕ) (line : Line) → AreBytes input
    → (items : List Item) × (ended : Ended) × HearsBehind input line items ended × EndsByInput ended
behind_some input (Whole len offered) are = rest_some _ (bytes-drop len input are)
behind_some input More are = ([], end_of input, (refl, refl), end_by_input input)
behind_some input (Bad place) are = ([], Malformed place, (refl, refl), tt)

pub heard_some : (input : List ℕ) → AreBytes input
    → (items : List Item) × (ended : Ended) × Heard input items ended × EndsByInput ended
heard_some input are = behind_some input (line_of input) are

-- ---- when bytes follow

whole_behind : (front back : List ℕ) (b : List ℕ) (bodies : List (List ℕ)) (rest : List ℕ)
    → Splits front (b ∷ bodies) rest
    → front ++ back ≡ framed b ++ (flat_map framed bodies ++ rest ++ back)
whole_behind front back b bodies rest x =
    let behind = flat_map framed bodies ++ rest in
    ap (λ l. l ++ back) (x.whole ∙ append_assoc (framed b) (flat_map framed bodies) rest)
    ∙ append_assoc (framed b) behind back

-- a first frame is cut off
splits_behind : (bytes body more : List ℕ) (bodies : List (List ℕ)) (rest : List ℕ) → IsBody body
    → bytes ≡ framed body ++ more → Splits bytes bodies rest
    → (later : List (List ℕ)) × (bodies ≡ body ∷ later) × Splits more later rest
splits_behind bytes body more [] rest small is x =
    let partial : IsPartial (framed body ++ more) = subst IsPartial (sym x.whole ∙ is) x.partial in
    absurd (omega (
      arith,
      partial,
      frame_len-framed body more small,
      length-framed body,
      length-append (framed body) more,
    ))
splits_behind bytes body more (b ∷ bodies) rest small is x =
    let behind = flat_map framed bodies in
    let same = same_framed b body (behind ++ rest) more (All-head IsBody b bodies x.each) small
    (sym (append_assoc (framed b) behind rest) ∙ sym x.whole ∙ is) in (
      bodies,
      ap (λ h. h ∷ bodies) same.0,
      record {
        whole = sym same.1;
        each = All-tail IsBody b bodies x.each;
        partial = x.partial;
      },
    )

-- the frames that were cut stay
split_front : (front back : List ℕ) (bodies all : List (List ℕ)) (rest last : List ℕ)
    → Splits front bodies rest → Splits (front ++ back) all last
    → (more : List (List ℕ)) × (all ≡ bodies ++ more)
split_front front back [] all rest last x y = (all, refl)
split_front front back (b ∷ bodies) all rest last x y =
    let behind = flat_map framed bodies ++ rest in
    let small = All-head IsBody b bodies x.each in
    let cut = splits_behind (front ++ back) b (behind ++ back) all last small
    (whole_behind front back b bodies rest x) y in
    let later = split_front behind back bodies cut.0 rest last
    (record { whole = refl; each = All-tail IsBody b bodies x.each; partial = x.partial })
    cut.2 in
    (later.0, cut.1 ∙ ap (λ l. b ∷ l) later.1)

-- what is heard behind a first frame
pub rest_behind : (left : Unheard) (type tag : ℕ) (parameters more : List ℕ) (item : Item)
    (items : List Item) (ended : Ended)
    → let body = type ∷ tag ∷ parameters in IsBody body → left.bytes ≡ framed body ++ more
    → Means left.offered left.greeted type tag parameters (Some item) → HearsRest left items ended
    → (later : List Item) × (items ≡ item ∷ later)
    × HearsRest (behind_frame left body item more) later ended
rest_behind left type tag parameters more item items ended small is means x =
    let body = type ∷ tag ∷ parameters in
    let cut = splits_behind left.bytes body more x.0 x.1 small is x.2 in
    let h = subst (λ b. Hears left.offered left.greeted left.place b x.1 items ended) cut.1 x.3 in
    let Says : Option Item → Type 0 =
    HearsBehindFrame left.offered left.greeted
    (left.place + length (framed body)) cut.0 x.1 items ended in
    let later = subst Says (means_one h.1 means) h.2 in
    (later.0, later.1, (cut.0, x.1, cut.2, later.2))

-- nothing was heard at the front
from_none : (items items' : List Item) → items ≡ []
    → (later : List Item) × (items' ≡ items ++ later)
from_none items items' none = (items', ap (λ l. l ++ items') (sym none))

hears_front : (offered greeted : Bool) (place : ℕ) (bodies more : List (List ℕ))
    (rest last : List ℕ) (items items' : List Item) (e e' : Ended)
    → Hears offered greeted place bodies rest items e
    → Hears offered greeted place (bodies ++ more) last items' e'
    → (later : List Item) × (items' ≡ items ++ later)
hears_front offered greeted place [] more rest last items items' e e' x y =
    from_none items items' x.0
hears_front offered greeted place ([] ∷ bodies) more rest last items items' e e' x y =
    from_none items items' x.0
hears_front offered greeted place ((type ∷ []) ∷ bodies) more rest last items items' e e' x y =
    from_none items items' x.0
hears_front offered greeted place
    ((type ∷ tag ∷ parameters) ∷ bodies) more rest last items items' e e' x y =
    let behind = place + length (framed (type ∷ tag ∷ parameters)) in
    let Says : List (List ℕ) → List ℕ → List Item → Ended → Option Item → Type 0 =
    HearsBehindFrame offered greeted behind in
    elim (x.0) as (λ meant. Says bodies rest items e meant
    → Says (bodies ++ more) last items' e' meant
    → (later : List Item) × (items' ≡ items ++ later)) [
      | None ↦ λ p q. from_none items items' p.0
      | Some item ↦ λ p q.
          let r = hears_front offered
          (greeted || greets item) behind bodies more rest last p.0 q.0 e e' p.2 q.2 in
          (r.0, q.1 ∙ ap (λ l. item ∷ l) r.1 ∙ ap (λ l. l ++ r.0) (sym p.1))
    ] x.2 (subst (Says (bodies ++ more) last items' e') (sym (means_one x.1 y.1)) y.2)

abbrev IsLast : Ended → Type 0
IsLast e = (e ≢ Closed) × (e ≢ Cut)

not_open : (rest : List ℕ) (e : Ended) → IsLast e → e ≡ end_of rest → ⊥
not_open [] e is h = is.0 h
not_open (b ∷ rest) e is h = is.1 h

hears_last : (offered greeted : Bool) (place : ℕ) (bodies more : List (List ℕ))
    (rest last : List ℕ) (items : List Item) (e : Ended)
    → IsLast e → Hears offered greeted place bodies rest items e
    → Hears offered greeted place (bodies ++ more) last items e
hears_last offered greeted place [] more rest last items e is x = absurd (not_open rest e is x.1)
hears_last offered greeted place ([] ∷ bodies) more rest last items e is x = x
hears_last offered greeted place ((type ∷ []) ∷ bodies) more rest last items e is x = x
hears_last offered greeted place ((type ∷ tag ∷ parameters) ∷ bodies) more rest last items e is x =
    let behind = place + length (framed (type ∷ tag ∷ parameters)) in
    let Says : List (List ℕ) → List ℕ → Option Item → Type 0 =
    λ b r. HearsBehindFrame offered greeted behind b r items e in (
      x.0,
      x.1,
      elim (x.0) as (λ meant. Says bodies rest meant → Says (bodies ++ more) last meant) [
        | None ↦ λ p. p
        | Some item ↦ λ p. (
          p.0,
          p.1,
          hears_last offered (greeted || greets item) behind bodies more rest last p.0 e is p.2,
        )
      ] x.2,
    )

-- the same bytes left, and more behind them
abbrev pub with_more : Unheard → List ℕ → Unheard
with_more left more = record left { bytes = left.bytes ++ more }

rest_front : (left : Unheard) (more : List ℕ) (items items' : List Item) (e e' : Ended)
    → HearsRest left items e → HearsRest (with_more left more) items' e'
    → (later : List Item) × (items' ≡ items ++ later)
rest_front left more items items' e e' x y =
    let f = split_front left.bytes more x.0 y.0 x.1 y.1 x.2 y.2 in
    hears_front left.offered left.greeted left.place x.0 f.0 x.1 y.1 items items' e e' x.3
    (subst (λ b. Hears left.offered left.greeted left.place b y.1 items' e') f.1 y.3)

rest_last : (left : Unheard) (more : List ℕ) (items : List Item) (e : Ended)
    → AreBytes (left.bytes ++ more) → IsLast e
    → HearsRest left items e → HearsRest (with_more left more) items e
rest_last left more items e are is x =
    let cut = splits (left.bytes ++ more) are in
    let f = split_front left.bytes more x.0 cut.0 x.1 cut.1 x.2 cut.2 in (
      cut.0,
      cut.1,
      cut.2,
      subst (λ b. Hears left.offered left.greeted left.place b cut.1 items e) (sym f.1)
          (hears_last left.offered left.greeted left.place x.0 f.0 x.1 cut.1 items e is x.3),
    )

-- behind a line
pub line_len : (input : List ℕ) (len : ℕ) (offered : Bool) → line_of input ≡ Whole len offered
    → len ≤ length input
line_len input len offered is =
    let w = whole_is input len offered is in
    omega (arith, ap length w.4, w.5, length-append w.2 (10 ∷ drop len input))

abbrev pub behind_line : List ℕ → ℕ → Bool → Unheard
behind_line input len offered =
    record { offered = offered; greeted = false; place = len; bytes = drop len input }

pub line_more : (input more : List ℕ) (len : ℕ) (offered : Bool) → line_of input ≡ Whole len offered
    → behind_line (input ++ more) len offered ≡ with_more (behind_line input len offered) more
line_more input more len offered is =
    ap (λ b. record { offered = offered; greeted = false; place = len; bytes = b })
    (drop-append-le len input more (line_len input len offered is))

behind_front : (input more : List ℕ) (line : Line) (items items' : List Item) (e e' : Ended)
    → line_of input ≡ line
    → HearsBehind input line items e → Heard (input ++ more) items' e'
    → (later : List Item) × (items' ≡ items ++ later)
behind_front input more (Whole len offered) items items' e e' is x y =
    let z : HearsRest (behind_line (input ++ more) len offered) items' e' =
    subst (λ l. HearsBehind (input ++ more) l items' e')
    (line_stays input more (λ h. let k : Whole len offered ≡ More = sym is ∙ h in cc) ∙ is) y in
    rest_front (behind_line input len offered) more items items' e e' x
    (subst (λ l. HearsRest l items' e') (line_more input more len offered is) z)
behind_front input more More items items' e e' is x y = from_none items items' x.0
behind_front input more (Bad place) items items' e e' is x y = from_none items items' x.0

pub heard_front : (input more : List ℕ) (items items' : List Item) (e e' : Ended)
    → Heard input items e → Heard (input ++ more) items' e'
    → (later : List Item) × (items' ≡ items ++ later)
heard_front input more items items' e e' x y =
    behind_front input more (line_of input) items items' e e' refl x y

behind_last : (input more : List ℕ) (line : Line) (items : List Item) (e : Ended)
    → line_of input ≡ line → AreBytes (input ++ more) → IsLast e
    → HearsBehind input line items e → Heard (input ++ more) items e
behind_last input more (Whole len offered) items e is are last x =
    let left = behind_line input len offered in
    let same = line_more input more len offered is in
    let bytes : AreBytes (left.bytes ++ more) =
    subst (λ (l : Unheard). AreBytes l.bytes) same (bytes-drop len (input ++ more) are) in
    subst (λ l. HearsBehind (input ++ more) l items e)
    (sym (line_stays input more (λ h. let k : Whole len offered ≡ More = sym is ∙ h in cc)
    ∙ is))
    (subst (λ l. HearsRest l items e) (sym same) (rest_last left more items e bytes last x))
behind_last input more More items e is are last x = absurd (not_open input e last x.1)
behind_last input more (Bad place) items e is are last x =
    subst (λ l. HearsBehind (input ++ more) l items e)
    (sym (line_stays input more (λ h. let k : Bad place ≡ More = sym is ∙ h in cc) ∙ is)) x

pub heard_last : (input more : List ℕ) (items : List Item) (e : Ended) → AreBytes (input ++ more)
    → Heard input items e → e ≢ Closed → e ≢ Cut
    → Heard (input ++ more) items e
heard_last input more items e are x closed cut =
    behind_last input more (line_of input) items e refl are (closed, cut) x
