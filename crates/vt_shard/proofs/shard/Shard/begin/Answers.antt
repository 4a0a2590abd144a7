use Rattle.std.proofs.Common.{◌≡◌, ◌⊎◌, ℕ, ◌≤◌, max, List, [], length, take, Option, Some, refl, sym, ap, subst, ◌∙◌, arith}
use Rattle.std.specs.Prelude.{IsPermutation, MatchOption, vec_capacity}
use Rattle.std.specs.List.{Contains}
use Rattle.std.specs.Option.{option_map, option_map_or}
use Rattle.std.proofs.lemmas.List.Elements.{All-contains}
use Rattle.vt_base.specs.declared.place.Entry.{Entry}
use Rattle.vt_base.specs.declared.place.Info.{Info}
use Rattle.vt_icache.specs.Index.{IndexState, entries_below}
use Rattle.vt_isect.specs.Agreement.{IsMarkCovered}
use Rattle.vt_isect.specs.Entries.{EntriesState}
use Rattle.vt_isect.specs.Section.{SectionState, entries_of}
use Rattle.vt_isect.specs.declared.head.Head.{Head}
use Rattle.vt_shard.specs.Shard.{ShardState, HasScore}
use Rattle.vt_shard.specs.Sound.{IsSoundFrom}
use Rattle.vt_shard.specs.View.{state_of}
use Rattle.vt_shard.specs.declared.TheConstants.{ROOM}
use Rattle.vt_shard.proofs.Begins.{below_durable, either_covered, begun, well_begun}
use Rattle.vt_shard.proofs.IsWell.{at_rest, list_here}
use Rattle.vt_shard.proofs.Lists.{from_below}
use Rattle.vt_shard.proofs.shard.Shard.begin.Goals as goal

capacity : {X : Type 0} (o : Option X) (f : X → ℕ) (x : X) → Some x ≡ o → MatchOption (option_map f o) ⊥ (λ n. ROOM ≤ n) → ROOM ≤ f x
capacity o f x is has = subst (λ p. MatchOption (option_map f p) ⊥ (λ n. ROOM ≤ n)) (sym is) has

pub fill-requires : goal.fill-requires
fill-requires g c =
    let room = capacity c.self.inside.list (λ l. vec_capacity l) c.in-Some.list c.in-Some.ensures.value
    (list_here _ _ _ c.self.invariant (ap (λ (t : ShardState g.row.D.Denot). t.writeback) c.self.view_is ∙ c.requires.rest)) in
    let few = c.self.invariant.most in
    let len = ap length c.dirty.ensures.entries ∙ ap (λ (i : IndexState). length i.dirty) c.forget_settled.ensures in
    omega (arith, room, few, len)

pub begin_file-requires : goal.begin_file-requires
begin_file-requires g c =
    let items : c.from_vec.result.items ≡ entries_below c.args.below c.self.inside.index.dirty =
    c.from_vec.ensures.items ∙ c.fill.ensures.items ∙ ap (entries_below c.args.below) (c.dirty.ensures.entries ∙ ap (λ (i : IndexState). i.dirty) c.forget_settled.ensures) in
    record {
      rest = at_rest _ _ _ c.self.invariant (ap (λ (t : ShardState g.row.D.Denot). t.writeback) c.self.view_is ∙ c.requires.rest);
      in_range = λ entry it.
          let one = from_below c.args.below c.self.inside.index.dirty entry (subst (λ (l : List Entry). Contains l entry) items it) in
          subst (λ (e : Entry). HasScore (state_of c.self.inside) e.key.score.0) one.3
          (All-contains (λ (info : Info). HasScore (state_of c.self.inside) info.key.score.0) c.self.inside.index.dirty one.0 c.self.invariant.in_range one.1);
    }

pub invariant_of-self : goal.invariant_of-self
invariant_of-self g c =
    let items : c.from_vec.result.items ≡ entries_below c.args.below c.self.inside.index.dirty =
    c.from_vec.ensures.items ∙ c.fill.ensures.items ∙ ap (entries_below c.args.below) (c.dirty.ensures.entries ∙ ap (λ (i : IndexState). i.dirty) c.forget_settled.ensures) in
    let room = capacity c.self.inside.list (λ l. vec_capacity l) c.in-Some.list c.in-Some.ensures.value
    (list_here _ _ _ c.self.invariant (ap (λ (t : ShardState g.row.D.Denot). t.writeback) c.self.view_is ∙ c.requires.rest)) in
    let list = c.begin_file.ensures.entries in
    let same : IsPermutation (entries_below c.args.below c.self.inside.index.dirty) list.0.items =
    subst (λ (l : List Entry). IsPermutation l list.0.items) items list.2.same in
    let more = list.2.room in
    let head : c.begin_file.new.self.head ≡ c.self.inside.section.head = ap (λ (t : SectionState g.row.D.Denot). t.head) c.begin_file.ensures.same in
    let buckets : c.begin_file.new.self.buckets ≡ c.self.inside.section.buckets = ap (λ (t : SectionState g.row.D.Denot). t.buckets) c.begin_file.ensures.same in
    let rises : c.self.inside.section.head.mark ≤ c.args.mark =
    subst (λ (t : ShardState g.row.D.Denot). t.section.head.mark ≤ c.args.mark) (sym c.self.view_is) c.requires.rises in
    let here : c.begin_file.new.self.head.mark ≡ c.self.inside.section.head.mark = ap (λ (x : Head). x.mark) head in
    let coming : c.begin_file.new.self.next.mark ≡ c.args.mark = ap (λ (x : Head). x.mark) c.begin_file.ensures.next in
    rw (c.forget_settled.ensures, c.max-self-inside.ensures)
    (well_begun _ _ _ c.self.invariant c.begin_file.new.self c.args.below c.args.mark list.0 head buckets c.begin_file.ensures.next
    c.begin_file.ensures.begins list.1 (omega (arith, rises, here, coming)) same (omega (arith, room, more, c.fill.ensures.room, c.from_vec.ensures.room))
    (omega (arith, c.begin_file.ensures.left, ap (λ (l : List Entry). length l) items)) _)

pub returns-clause-begins : goal.returns-clause-begins
returns-clause-begins g c =
    let items : c.from_vec.result.items ≡ entries_below c.args.below c.self.inside.index.dirty =
    c.from_vec.ensures.items ∙ c.fill.ensures.items ∙ ap (entries_below c.args.below) (c.dirty.ensures.entries ∙ ap (λ (i : IndexState). i.dirty) c.forget_settled.ensures) in
    let list = c.begin_file.ensures.entries in
    let stands : entries_of c.begin_file.new.self ≡ list.0.items =
    ap (λ (o : Option EntriesState). option_map_or (λ l. l.items) o []) list.1 in
    rw (← c.self.view_is, c.forget_settled.ensures, c.max-self-inside.ensures)
    (record {
      section = c.begin_file.ensures.same ∙ ap (λ (x : Head). record c.self.inside.section {
        next = x;
        phase = c.begin_file.new.self.phase;
        entries = c.begin_file.new.self.entries;
        written = c.begin_file.new.self.written;
        framed = c.begin_file.new.self.framed;
        begun = c.begin_file.new.self.begun;
        bucket = c.begin_file.new.self.bucket;
        most = c.begin_file.new.self.most;
        head_twin = c.begin_file.new.self.head_twin;
      }) c.begin_file.ensures.next;
      begins = c.begin_file.ensures.begins;
      most = c.begin_file.ensures.most;
      entries = rw stands (subst (λ (l : List Entry). IsPermutation l list.0.items) items list.2.same);
      ordered = rw stands list.2.ordered;
      shard = refl;
    })

pub returns-clause-sound : goal.returns-clause-sound
returns-clause-sound g c = λ score setup h durable from told sound le which.
    let was = subst (λ t. IsSoundFrom score setup g.D.Disk t h durable from) (sym c.self.view_is) sound in
    let items : c.from_vec.result.items ≡ entries_below c.args.below c.self.inside.index.dirty =
    c.from_vec.ensures.items ∙ c.fill.ensures.items ∙ ap (entries_below c.args.below) (c.dirty.ensures.entries ∙ ap (λ (i : IndexState). i.dirty) c.forget_settled.ensures) in
    let mark = subst (λ (t : ShardState g.row.D.Denot). (c.args.mark ≡ t.section.head.mark) ⊎ ((from ≡ 0) × (c.args.mark ≡ max t.section.head.mark c.args.below)))
    (sym c.self.view_is) which in
    let agrees = c.begin_file.ensures.agrees score setup (take durable h) was.known was.agrees
    (λ entry it. below_durable score setup _ _ h durable from was c.args.below le entry (subst (λ (l : List Entry). Contains l entry) items it))
    (λ live. subst (λ (l : List Entry). IsMarkCovered score setup (take durable h) c.self.inside.section was.known (Contains l) c.args.mark) (sym items)
    (either_covered score setup _ _ h durable from was c.args.below c.args.mark le mark)) in
    let head : c.begin_file.new.self.head ≡ c.self.inside.section.head = ap (λ (t : SectionState g.row.D.Denot). t.head) c.begin_file.ensures.same in
    let buckets : c.begin_file.new.self.buckets ≡ c.self.inside.section.buckets = ap (λ (t : SectionState g.row.D.Denot). t.buckets) c.begin_file.ensures.same in
    rw (c.forget_settled.ensures, c.max-self-inside.ensures)
    (begun score setup g.D.Disk _ h durable from was c.begin_file.new.self c.args.below c.args.mark le head buckets c.begin_file.ensures.next
    (c.begin_file.ensures.sound was.known told was.section) agrees)
