-- What a frame comes to, and what is heard behind it.
use Rattle.std.proofs.Common.{◌≡◌, ℕ, ◌+◌, ◌||◌, ◌<◌, ◌≤◌, Bool, List, [], ◌∷◌, ◌++◌, length, take, drop, slice_index, Some, None, refl, sym, ◌∙◌, ap, subst, arith, append_assoc, length-append}
use Rattle.std.specs.List.{flat_map}
use Rattle.std.proofs.Math.Seq.{drop-append_seam}
use Rattle.std.proofs.lemmas.List.{take-append-drop, length-take-le}
use Rattle.std.proofs.lemmas.List.Elements.{All-nil, All-cons}
use Rattle.vt_base.specs.Bytes.{AreBytes}
use Rattle.vt_base.specs.Protocol.{TMessage, r_error}
use Rattle.vt_wire.specs.Frames.{size_width, framed, IsBody, IsFrame, IsPartial, Splits}
use Rattle.vt_wire.specs.Messages.{Spells}
use Rattle.vt_wire.specs.Rules.{rule_words}
use Rattle.vt_wire.specs.declared.protocol_cause.ProtocolCause.{ProtocolCause}
use Rattle.vt_wire.proofs.Frames.{one_body, splits}
use Rattle.vt_session.specs.declared.Ended.{Ended}
use Rattle.vt_session.specs.declared.Ended.TheVariants.{Goodbye, Malformed}
use Rattle.vt_session.specs.declared.parsed.Next.{Next}
use Rattle.vt_session.specs.declared.parsed.Next.TheVariants.{Hello, Ping, Ask, Refused, End}
use Rattle.vt_session.specs.Heard.{Item, settled, heard_item, Means, spelled, greets, end_of, Unheard, HearsRest}
use Rattle.vt_session.specs.Hearing.{going_on, behind_frame, MatchNext, HearsNext}
use Rattle.vt_session.specs.Parsed.{is_hello, RulesGive, HearsFrame, EndsAtFrame, FrameGives, IsFrontFrame}

-- ---- a frame

-- the tag stands behind the size field and the type
pub tag_at : (frame : List ℕ) (type tag : ℕ) (parameters : List ℕ)
    → IsFrame frame (type ∷ tag ∷ parameters)
    → (3 < length frame) × (slice_index frame 3 ≡ tag)
tag_at frame type tag parameters is =
    (omega (arith, ap length is.is), ap (λ bytes. slice_index bytes 3) is.is)

module _ (left : Unheard) (body : List ℕ) (type tag : ℕ) (parameters : List ℕ)
    (is : body ≡ type ∷ tag ∷ parameters) where
  means_item : (item : Item) → Means left.offered left.greeted type tag parameters (Some item)
      → HearsFrame left body item
  means_item item means =
      subst (λ b. HearsFrame left b item) (sym is)
      (λ bodies rest items ended later. (Some item, means, (items, refl, later)))

  means_end : Means left.offered left.greeted type tag parameters None
      → EndsAtFrame left body Goodbye
  means_end means = subst (λ b. EndsAtFrame left b Goodbye) (sym is)
      (λ bodies rest. (None, means, (refl, refl)))

short_end : (left : Unheard) (body : List ℕ) → length body < 2
    → EndsAtFrame left body (Malformed left.place)
short_end left [] short bodies rest = (refl, refl)
short_end left (type ∷ []) short bodies rest = (refl, refl)
short_end left (type ∷ tag ∷ parameters) short bodies rest = absurd (omega arith)

-- a frame that is refused by a rule
pub rule_frame : (left : Unheard) (frame : List ℕ) (type tag : ℕ) (parameters : List ℕ)
    (rule : ProtocolCause)
    → IsFrame frame (drop size_width frame) → IsFrame frame (type ∷ tag ∷ parameters)
    → Means left.offered left.greeted type tag parameters
    (Some (settled tag (r_error (rule_words rule))))
    → HearsFrame left (drop size_width frame)
    (settled (slice_index frame 3) (r_error (rule_words rule)))
rule_frame left frame type tag parameters rule whole first means =
    let body = drop size_width frame in
    let is = one_body frame body (type ∷ tag ∷ parameters) whole first in
    subst (λ t. HearsFrame left body (settled t (r_error (rule_words rule))))
    (sym (tag_at frame type tag parameters first).1)
    (means_item left body type tag parameters is _ means)

module _ {P Q : Item → Type 0} {R S : Ended → Type 0} (f : (item : Item) → P item
    → Q item) (g : (ended : Ended) → R ended → S ended) where
  pub next_weaker : (next : Next) → MatchNext next P R → MatchNext next Q S
  next_weaker (Hello tag) x = f _ x
  next_weaker (Ping tag) x = f _ x
  next_weaker (Ask tag operation) x = f _ x
  next_weaker (Refused rule tag) x = f _ x
  next_weaker (End ended) x = g ended x

-- a message, and what the rules say of it
pub rules_frame : (left : Unheard) (frame body : List ℕ) (tag : ℕ) (m : TMessage) (next : Next)
    → IsFrame frame body → Spells tag m frame
    → RulesGive left tag m next → FrameGives left body next
rules_frame left frame body tag m next first x gives =
    let is = one_body frame body _ first x.frame in
    let means : Means left.offered left.greeted _ tag x.parameters
    (heard_item left.offered left.greeted tag m) =
    spelled m (record { type_is = refl; parameters_are = x.parameters_are }) in
    next_weaker
    (λ item same. means_item left body _ tag x.parameters is item
    (subst (Means left.offered left.greeted _ tag x.parameters) same means))
    (λ ended both. subst (EndsAtFrame left body) (sym both.1)
    (means_end left body _ tag x.parameters is
    (subst (Means left.offered left.greeted _ tag x.parameters) both.0 means)))
    next gives

-- ---- the bytes behind it

-- the first frame, cut off
pub front_at : (left : Unheard) (len : ℕ) (frame : List ℕ) (next : Next) → len ≤ length left.bytes
    → IsFrame (take len left.bytes) (drop size_width (take len left.bytes))
    → frame ≡ take len left.bytes → FrameGives left (drop size_width frame) next
    → IsFrontFrame left next len
front_at left len frame next enough first is gives = record {
  body = drop size_width (take len left.bytes);
  behind = drop len left.bytes;
  counted = first.counted;
  bytes_are = sym (take-append-drop len left.bytes) ∙ ap (λ f. f ++ drop len left.bytes) first.is;
  len_is = sym (length-take-le len left.bytes enough) ∙ ap length first.is;
  gives = subst (λ f. FrameGives left (drop size_width f) next) is gives;
}

module _ (left : Unheard) (next : Next) (len : ℕ) (x : IsFrontFrame left next len) where
  pub front_frame : IsFrame (framed x.body) x.body
  front_frame = record { counted = x.counted; is = refl }

  pub front_behind : drop len left.bytes ≡ x.behind
  front_behind = ap (λ n. drop n left.bytes) x.len_is
      ∙ ap (drop (length (framed x.body))) x.bytes_are ∙ drop-append_seam (framed x.body) x.behind

  pub front_enough : len ≤ length left.bytes
  front_enough =
      omega (arith, x.len_is, ap length x.bytes_are, length-append (framed x.body) x.behind)

module _ (left : Unheard) (frame behind body : List ℕ) (first : IsFrame frame body)
    (is : left.bytes ≡ frame ++ behind) where
  splits_more : (bodies : List (List ℕ)) (rest : List ℕ) → Splits behind bodies rest
      → Splits left.bytes (body ∷ bodies) rest
  splits_more bodies rest x = record {
    whole = is ∙ ap (λ l. l ++ behind) first.is ∙ ap (λ l. framed body ++ l) x.whole
        ∙ sym (append_assoc (framed body) (flat_map framed bodies) rest);
    each = All-cons IsBody body bodies first.counted x.each;
    partial = x.partial;
  }

  pub rest_end : (ended : Ended) → AreBytes behind → EndsAtFrame left body ended
      → HearsRest left [] ended
  rest_end ended are end =
      let cut = splits behind are in
      (body ∷ cut.0, cut.1, splits_more cut.0 cut.1 cut.2, end cut.0 cut.1)

  pub rest_item : (item : Item) → HearsFrame left body item → (items : List Item) (ended : Ended)
      → HearsRest (behind_frame left body item behind) items ended
      → HearsRest left (item ∷ items) ended
  rest_item item hears items ended x =
      (body ∷ x.0, x.1, splits_more x.0 x.1 x.2, hears x.0 x.1 items ended x.3)

  -- the same, with what was kept of the frame
  module _ (greeted : Bool) (place : ℕ) (moved : place ≡ left.place + length frame) where
    abbrev new : Unheard
    new = record { offered = left.offered; greeted = greeted; place = place; bytes = behind }

    pub item_given : (item : Item) → greeted ≡ (left.greeted || greets item)
        → HearsFrame left body item → (items : List Item) (ended : Ended)
        → HearsRest new items ended → HearsRest left (item ∷ items) ended
    item_given item kept hears items ended x =
        let at : place ≡ left.place + length (framed body) =
        moved ∙ ap (λ l. left.place + length l) first.is in
        let same : new ≡ behind_frame left body item behind = cc in
        rest_item item hears items ended (subst (λ l. HearsRest l items ended) same x)

-- a whole frame at the front
module _ (left : Unheard) (body more : List ℕ) (small : IsBody body)
    (is : left.bytes ≡ framed body ++ more) where
  frame : IsFrame (framed body) body
  frame = record { counted = small; is = refl }

  pub rest_joined : (type tag : ℕ) (parameters : List ℕ) (item : Item) (items : List Item)
      (ended : Ended) → body ≡ type ∷ tag ∷ parameters
      → Means left.offered left.greeted type tag parameters (Some item)
      → ((later : List Item) × (items ≡ item ∷ later)
      × HearsRest (behind_frame left body item more) later ended) → HearsRest left items ended
  rest_joined type tag parameters item items ended same means x =
      subst (λ i. HearsRest left i ended) (sym x.1)
      (rest_item left (framed body) more body frame is item
      (means_item left body type tag parameters same item means) x.0 ended x.2)

  pub rest_goodbye : (type tag : ℕ) (parameters : List ℕ) → body ≡ type ∷ tag ∷ parameters
      → Means left.offered left.greeted type tag parameters None
      → AreBytes more → HearsRest left [] Goodbye
  rest_goodbye type tag parameters same means are =
      rest_end left (framed body) more body frame is Goodbye are
      (means_end left body type tag parameters same means)

  pub rest_malformed : length body < 2 → AreBytes more → HearsRest left [] (Malformed left.place)
  rest_malformed short are =
      rest_end left (framed body) more body frame is (Malformed left.place) are
      (short_end left body short)

pub rest_partial : (left : Unheard) → IsPartial left.bytes → HearsRest left [] (end_of left.bytes)
rest_partial left partial = (
  [],
  left.bytes,
  record { whole = refl; each = All-nil IsBody; partial = partial },
  (refl, refl),
)
