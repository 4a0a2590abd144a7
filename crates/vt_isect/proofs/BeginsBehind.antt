-- What is begun on a section at rest.
use Rattle.std.proofs.Common.{◌≡◌, ◌⊎◌, inl, inr, ⊎_elim, ℕ, ◌%◌, ◌^◌, ◌<◌, List, [], ◌∷◌, ◌++◌, length, Some, refl, sym, ◌∙◌, ap, subst, arith}
use Rattle.std.specs.List.{Contains}
use Rattle.vt_base.specs.declared.place.Entry.{Entry}
use Rattle.vt_model.specs.History.{History}
use Rattle.vt_model.specs.Places.{Setup, bucket_of}
use Rattle.vt_twin.specs.Twin.{TwinState, with_change}
use Rattle.vt_isect.specs.declared.head.Head.{Head}
use Rattle.vt_isect.specs.declared.phase.Phase.{Phase}
use Rattle.vt_isect.specs.declared.phase.Phase.TheVariants.{Rest, ReadFrame, ChangeHead}
use Rattle.vt_isect.specs.Agreement.{IsEntryOfBlock, IsMarkCovered, NoOthers, KnownAgrees}
use Rattle.vt_isect.specs.Entries.{EntriesState}
use Rattle.vt_isect.specs.Head.{IsHead, encoded}
use Rattle.vt_isect.specs.Section.{SectionState, AreInRange, IsTodo}
use Rattle.std.proofs.lemmas.List.Elements.{Contains-push_cases}
use Rattle.vt_isect.specs.Layout.{InRange}
use Rattle.vt_isect.specs.Sound.{KnownBuckets, IsSoundSection, StillNames}
use Rattle.vt_isect.specs.Writeback.{BeginsBehind, NextCallReads}
use Rattle.vt_isect.proofs.AreNext.{dropped}
use Rattle.vt_isect.proofs.Heads.{frame_has}
use Rattle.vt_isect.proofs.IsRead.{read_puts}
use Rattle.vt_isect.proofs.IsSoundSection.{bucket_begins, head_begins}
use Rattle.vt_isect.proofs.Follows.{covers_more}

-- what is known agrees with the head that begins to be written
pub agrees_begins : {D : Type 0} (score : List ℕ → List ℕ) (c : Setup) (h : History) (t : SectionState D) (next : Head) (hw : TwinState) (known : KnownBuckets)
    → KnownAgrees score c h t known → next.first ≡ t.head.first → next.total ≡ t.head.total
    → (next.state ≡ 1 → IsMarkCovered score c h t known NoOthers next.mark)
    → KnownAgrees score c h (record t { next = next; phase = ChangeHead; head_twin = hw }) known
agrees_begins score c h t next hw known agrees first total cover =
    let v = record t { next = next; phase = ChangeHead; head_twin = hw } in
    record {
      keys = agrees.keys;
      total = agrees.total;
      same_first = first;
      same_total = total;
      whole = agrees.whole;
      blocks = agrees.blocks;
      todo = λ entry way. absurd way.0;
      filed = λ live. covers_more score c h t v known NoOthers NoOthers t.head.mark refl refl (λ e none. none) (agrees.filed live);
      coming = λ live. covers_more score c h t v known NoOthers (IsTodo v) next.mark refl refl (λ e none. absurd none) (cover live);
    }

-- and with the entries that begin to be written
agrees_file : {D : Type 0} (score : List ℕ → List ℕ) (c : Setup) (h : History) (t : SectionState D) (mark : ℕ) (p : Phase) (es : EntriesState) (w f g b k : ℕ) (hw : TwinState) (known : KnownBuckets)
    → ((entry : Entry) → Contains es.items entry → IsTodo (record t { next = record t.head { mark = mark }; phase = p; entries = Some es; written = w; framed = f; begun = g; bucket = b; most = k; head_twin = hw }) entry)
    → KnownAgrees score c h t known
    → ((entry : Entry) → Contains es.items entry → IsEntryOfBlock score c h entry)
    → (t.head.state ≡ 1 → IsMarkCovered score c h t known (Contains es.items) mark)
    → KnownAgrees score c h (record t { next = record t.head { mark = mark }; phase = p; entries = Some es; written = w; framed = f; begun = g; bucket = b; most = k; head_twin = hw }) known
agrees_file score c h t mark p es w f g b k hw known forth agrees of cover =
    let v = record t { next = record t.head { mark = mark }; phase = p; entries = Some es; written = w; framed = f; begun = g; bucket = b; most = k; head_twin = hw } in
    record {
      keys = agrees.keys;
      total = agrees.total;
      same_first = refl;
      same_total = refl;
      whole = agrees.whole;
      blocks = agrees.blocks;
      todo = λ entry way. of entry (dropped w es.items entry way.1);
      filed = λ live. covers_more score c h t v known NoOthers NoOthers t.head.mark refl refl (λ e none. none) (agrees.filed live);
      coming = λ live. covers_more score c h t v known (Contains es.items) (IsTodo v) mark refl refl forth (cover live);
    }

-- the section whose entries are to be written
abbrev given : {D : Type 0} → SectionState D → (mark most : ℕ) → EntriesState → SectionState D
given t mark most es = record t { next = record t.head { mark = mark }; entries = Some es; most = most }

-- what begins, of the first group or of the head
abbrev pub Begins : {D : Type 0} → (t : SectionState D) (mark : ℕ) (es : EntriesState) (v : SectionState D) → Type 0
Begins t mark es v = (NextCallReads v.phase × (v ≡ record (given t mark v.most es) { phase = v.phase; written = 0; framed = 0; begun = v.begun; bucket = v.bucket }))
    ⊎ (v ≡ record (given t mark v.most es) { phase = ChangeHead; written = 0; head_twin = with_change (encoded t.name (record t.head { mark = mark })) t.head_twin })

-- the same with the count that was set
pub begins_of : {D : Type 0} (t : SectionState D) (mark most : ℕ) (es : EntriesState) (v : SectionState D)
    → (NextCallReads v.phase × (v ≡ record (given t mark most es) { phase = v.phase; written = 0; framed = 0; begun = v.begun; bucket = v.bucket }))
    ⊎ (v ≡ record (given t mark most es) { phase = ChangeHead; written = 0; head_twin = with_change (encoded t.name (record t.head { mark = mark })) t.head_twin })
    → Begins t mark es v
begins_of t mark most es v (inl e) =
    inl (e.0, subst (λ (m : ℕ). v ≡ record (given t mark m es) { phase = v.phase; written = 0; framed = 0; begun = v.begun; bucket = v.bucket }) (sym (ap (λ x. x.most) e.1)) e.1)
begins_of t mark most es v (inr e) =
    inr (subst (λ (m : ℕ). v ≡ record (given t mark m es) { phase = ChangeHead; written = 0; head_twin = with_change (encoded t.name (record t.head { mark = mark })) t.head_twin }) (sym (ap (λ x. x.most) e)) e)

-- where the head begins, there are no entries
pub no_entries : {D : Type 0} (t : SectionState D) (mark : ℕ) (es : EntriesState) (v : SectionState D) → BeginsBehind 0 v
    → v ≡ record (given t mark v.most es) { phase = ChangeHead; written = 0; head_twin = with_change (encoded t.name (record t.head { mark = mark })) t.head_twin }
    → (entry : Entry) → ¬ Contains es.items entry
no_entries t mark es v begins e entry has =
    let at = subst (λ x. BeginsBehind 0 x) e begins in
    ⊎_elim (λ here. here.0.0) (λ there. omega (arith, there.3, has.1)) at

pub file_agrees : {D : Type 0} (score : List ℕ → List ℕ) (c : Setup) (h : History) (t : SectionState D) (mark : ℕ) (es : EntriesState) (v : SectionState D) (known : KnownBuckets)
    → BeginsBehind 0 v → Begins t mark es v
    → KnownAgrees score c h t known
    → ((entry : Entry) → Contains es.items entry → IsEntryOfBlock score c h entry)
    → (t.head.state ≡ 1 → IsMarkCovered score c h t known (Contains es.items) mark)
    → KnownAgrees score c h v known
file_agrees score c h t mark es v known begins (inl e) agrees of cover =
    subst (λ x. KnownAgrees score c h x known) (sym e.1)
    (agrees_file score c h t mark v.phase es 0 0 v.begun v.bucket v.most t.head_twin known (λ entry has. (read_puts v.phase e.0, has)) agrees of cover)
file_agrees score c h t mark es v known begins (inr e) agrees of cover =
    subst (λ x. KnownAgrees score c h x known) (sym e)
    (agrees_file score c h t mark ChangeHead es 0 t.framed t.begun t.bucket v.most (with_change (encoded t.name (record t.head { mark = mark })) t.head_twin) known
    (λ entry has. absurd (no_entries t mark es v begins e entry has)) agrees of cover)

pub file_sound : {D : Type 0} (t : SectionState D) (mark : ℕ) (es : EntriesState) (v : SectionState D) (known : KnownBuckets) (read : List ℕ) (images : List ℕ → Type 0)
    → t.phase ≡ Rest → t.group ≡ [] → length t.name ≡ 64 → mark < 2 ^ 64 → Begins t mark es v
    → ((s : ℕ) → v.phase ≡ ReadFrame s → StillNames v (s % 2) read)
    → IsSoundSection t known read images → IsSoundSection v known read images
file_sound t mark es v known read images rest none len low (inl e) named sound =
    bucket_begins t v known read images (ap (λ x. x.name) e.1) (ap (λ x. x.head) e.1) (ap (λ x. x.buckets) e.1) (ap (λ x. x.head_twin) e.1)
    rest e.0 (ap (λ x. x.group) e.1 ∙ none) (λ goes. sym (ap (λ x. x.stopped) e.1) ∙ goes) named sound
file_sound t mark es v known read images rest none len low (inr e) named sound =
    let was = sound.head.fits in
    let fits : IsHead (record t.head { mark = mark }) = record {
      state = was.state;
      first = was.first;
      count = was.count;
      total = was.total;
      mark = low;
    } in
    subst (λ x. IsSoundSection x known read images) (sym e)
    (head_begins t (record (given t mark v.most es) { phase = ChangeHead; written = 0; head_twin = with_change (encoded t.name (record t.head { mark = mark })) t.head_twin })
    (encoded t.name (record t.head { mark = mark })) known read images refl refl refl refl rest refl
    (frame_has t.name (record t.head { mark = mark }) fits len) (λ goes. goes) sound)

-- entries one after another
pub in_range_none : (head : Head) (buckets : ℕ) (entries : List Entry) → entries ≡ [] → AreInRange head buckets entries
in_range_none head buckets entries none entry has = absurd (let e : length entries ≡ 0 = ap (λ (l : List Entry). length l) none in omega (arith, has.1))

pub in_range_more : (head : Head) (buckets : ℕ) (front : List Entry) (y : Entry) → InRange head buckets (bucket_of head.total y.key.score.0)
    → AreInRange head buckets front → AreInRange head buckets (front ++ y ∷ [])
in_range_more head buckets front y here before entry has = ⊎_elim
    (λ (was : Contains front entry). before entry was)
    (λ (is : y ≡ entry). subst (λ (e : Entry). InRange head buckets (bucket_of head.total e.key.score.0)) is here)
    (Contains-push_cases front y entry has)
