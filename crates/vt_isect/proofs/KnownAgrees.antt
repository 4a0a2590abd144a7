-- What is known goes on to agree between calls.
use Rattle.std.proofs.Common.{◌≡◌, ℕ, List, None, refl, sym, ap, ◌∙◌, subst}
use Rattle.std.proofs.lemmas.Option.{same_Some}
use Rattle.vt_base.specs.declared.place.Entry.{Entry}
use Rattle.vt_model.specs.History.{History, Accepted}
use Rattle.vt_model.specs.Places.{Setup, bucket_of, bucket_count}
use Rattle.vt_isect.specs.declared.phase.Phase.TheVariants.{Rest}
use Rattle.vt_isect.specs.Agreement.{IsEntryOf, IsInBucket, NoOthers, KnownAgrees}
use Rattle.vt_isect.specs.Section.{SectionState, PutsEntries, IsTodo, bucket_number}
use Rattle.vt_isect.specs.Sound.{KnownBuckets}
use Rattle.vt_isect.proofs.Follows.{covers_more}

-- an entry of a block is of the block's bucket
pub its_bucket : {D : Type 0} (score : List ℕ → List ℕ) (c : Setup) (h : History) (t : SectionState D) (known : KnownBuckets) → KnownAgrees score c h t known
    → (n i : ℕ) (entry : Entry) → IsEntryOf score c h i entry → IsInBucket score c h n i → bucket_number t entry ≡ n
its_bucket score c h t known agrees n i entry of at =
    let same : of.block ≡ at.block = same_Some of.block at.block (sym of.stands.block ∙ at.stands.block) in
    ap (λ (k : ℕ). bucket_of k entry.key.score.0) agrees.total
    ∙ ap (bucket_of (bucket_count c)) of.score_is
    ∙ ap (λ (a : Accepted). bucket_of (bucket_count c) (score a.block.bytes)) same
    ∙ at.bucket_is

pub agrees_disk : {D : Type 0} (score : List ℕ → List ℕ) (c : Setup) (h : History) (t : SectionState D) (d : D) (known : KnownBuckets)
    → KnownAgrees score c h t known → KnownAgrees score c h (record t { disk = d }) known
agrees_disk score c h t d known agrees =
    let u = record t { disk = d } in
    record {
      keys = agrees.keys;
      total = agrees.total;
      same_first = agrees.same_first;
      same_total = agrees.same_total;
      whole = agrees.whole;
      blocks = agrees.blocks;
      todo = agrees.todo;
      filed = λ live. covers_more score c h t u known NoOthers NoOthers t.head.mark refl refl (λ e none. none) (agrees.filed live);
      coming = λ live. covers_more score c h t u known (IsTodo t) (IsTodo u) t.next.mark refl refl (λ e way. way) (agrees.coming live);
    }

pub agrees_idle : {D : Type 0} (score : List ℕ → List ℕ) (c : Setup) (h : History) (t : SectionState D) (known : KnownBuckets) → t.phase ≡ Rest
    → KnownAgrees score c h t known → KnownAgrees score c h (record t { entries = None }) known
agrees_idle score c h t known rest agrees =
    let u = record t { entries = None } in
    record {
      keys = agrees.keys;
      total = agrees.total;
      same_first = agrees.same_first;
      same_total = agrees.same_total;
      whole = agrees.whole;
      blocks = agrees.blocks;
      todo = λ entry way. absurd (subst PutsEntries rest way.0);
      filed = λ live. covers_more score c h t u known NoOthers NoOthers t.head.mark refl refl (λ e none. none) (agrees.filed live);
      coming = λ live. covers_more score c h t u known (IsTodo t) (IsTodo u) t.next.mark refl refl (λ e way. absurd (subst PutsEntries rest way.0)) (agrees.coming live);
    }
