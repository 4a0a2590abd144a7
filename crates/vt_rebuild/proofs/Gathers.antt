-- Entries that are gathered from the last block to the first.
use Rattle.std.proofs.Common.{◌≡◌, ◌⊎◌, ⊎_elim, inl, inr, ℕ, ◌+◌, ◌<◌, ◌≤◌, List, [], ◌∷◌, ◌++◌, length, refl, sym, ◌∙◌, ap, subst, arith, get_or, ◌≢◌}
use Rattle.std.specs.Prelude.{slice_get}
use Rattle.std.specs.List.{Contains}
use Rattle.std.proofs.lemmas.List.Elements.{Contains-append_left, Contains-append_right, Contains-append_cases}
use Rattle.std.specs.List.Sorted.{IsPermutation}
use Rattle.std.proofs.lemmas.Bool.Decides.{eqb_tells}
use Rattle.std.proofs.lemmas.List.Sorted.{Contains-permutation, IsPermutation-sym}
use Rattle.std.proofs.lemmas.Option.{same_Some, slice_get_within}
use Rattle.vt_base.specs.declared.place.Entry.{Entry}
use Rattle.vt_base.specs.declared.place.Info.{Info}
use Rattle.vt_isect.specs.Agreement.{HasBlock, IsEntryOf}
use Rattle.vt_log.specs.Back.{IsInfoInLog}
use Rattle.vt_log.specs.Log.{LogState, setup_of_log}
use Rattle.vt_log.specs.Queue.{spot_of}
use Rattle.vt_model.specs.History.{Accepted, History}
use Rattle.vt_model.specs.Places.{Setup, bucket_count, bucket_of, place_of}
use Rattle.vt_rebuild.specs.declared.gathering.Gathered.{Gathered}
use Rattle.vt_rebuild.specs.Gathering.{HasGathered, IsGathered, IsInOrder, entry_of}

-- a block's place depends on the versions alone
place_by_log : {D : Type 0} (c : Setup) (l : LogState D) (h : History) (i : ℕ) → c.versions ≡ (setup_of_log l).versions → place_of c h i ≡ place_of (setup_of_log l) h i
place_by_log c l h i versions = ap (λ (vs : List ℕ). place_of (record c { versions = vs }) h i) versions

-- what is given of a block is its entry
pub entry_is : {D : Type 0} (score : List ℕ → List ℕ) (c : Setup) (l : LogState D) (h : History) (m : ℕ) (info : Info) → c.versions ≡ (setup_of_log l).versions → IsInfoInLog score l h m info
    → IsEntryOf score c h m (entry_of info)
entry_is score c l h m info versions it = record {
  block = it.block;
  spot = spot_of info.place;
  stands = record { block = it.at; place = place_by_log c l h m versions ∙ it.place };
  score_is = it.score;
  kind_is = it.kind;
  size_is = it.size;
  arena_is = refl;
  offset_is = refl;
}

none_in : {X : Type 0} (x : X) → Contains [] x → ⊥
none_in x has = omega (arith, has.1)

one_in : {X : Type 0} (y x : X) → Contains (y ∷ []) x → x ≡ y
one_in y x (k, within, is) = let first : k ≡ 0 = omega (arith, within) in sym (ap (λ (i : ℕ). get_or (y ∷ []) i x) (sym first) ∙ is)

has_one : {X : Type 0} (x : X) → Contains (x ∷ []) x
has_one x = (0, omega arith, refl)

-- of no block nothing is gathered
pub gathers_none : (score : List ℕ → List ℕ) (c : Setup) (h : History) (first end m : ℕ) → length h ≤ m → HasGathered score c h first end m []
gathers_none score c h first end m past = record {
  own = λ entry has. absurd (none_in entry has);
  all = λ n i from least below it. absurd (omega (arith, past, from, slice_get_within h i it.block it.stands.block));
}

more_has : (score : List ℕ → List ℕ) (c : Setup) (h : History) (i : ℕ) (entries more : List Entry) → HasBlock score c h (Contains entries) i → HasBlock score c h (Contains (entries ++ more)) i
more_has score c h i entries more it = (it.0, Contains-append_left entries more it.0 it.1, it.2)

-- this block is the last one that isn't there yet
at_or_behind : (i m : ℕ) → m ≤ i → (i ≡ m) ⊎ (m + 1 ≤ i)
at_or_behind i m least = ⊎_elim (λ yes. inl yes.1) (λ no. let other : i ≢ m = no.1 in inr (omega (arith, least, other))) (eqb_tells i m)

module _ (score : List ℕ → List ℕ) (c : Setup) (h : History) (first end m : ℕ) (entries : List Entry) (was : HasGathered score c h first end (m + 1) entries)
    (info : Info) (is : IsEntryOf score c h m (entry_of info)) where
  -- one block further back, whose bucket is among them
  pub gathers_it : HasGathered score c h first end m (entries ++ entry_of info ∷ [])
  gathers_it = record {
    own = λ entry has. ⊎_elim (λ before. was.own entry before)
        (λ last. (m, subst (λ (e : Entry). IsEntryOf score c h m e) (sym (one_in (entry_of info) entry last)) is))
        (Contains-append_cases entries (entry_of info ∷ []) entry has);
    all = λ n i from least below it. ⊎_elim
        (λ here. (
          entry_of info,
          Contains-append_right entries (entry_of info ∷ []) (entry_of info) (has_one (entry_of info)),
          subst (λ (k : ℕ). IsEntryOf score c h k (entry_of info)) (sym here) is,
        ))
        (λ behind. more_has score c h i entries (entry_of info ∷ []) (was.all n i behind least below it))
        (at_or_behind i m from);
  }

  -- and one whose bucket isn't
  pub passes_it : (first ≤ bucket_of (bucket_count c) info.key.score.0 → bucket_of (bucket_count c) info.key.score.0 < end → ⊥) → HasGathered score c h first end m entries
  passes_it outside = record {
    own = was.own;
    all = λ n i from least below it. ⊎_elim
        (λ here.
        let same : it.block ≡ is.block = same_Some it.block is.block (sym it.stands.block ∙ ap (λ (k : ℕ). slice_get h k) here ∙ is.stands.block) in
        let bucket : bucket_of (bucket_count c) info.key.score.0 ≡ n =
        ap (bucket_of (bucket_count c)) (is.score_is ∙ ap (λ (e : Accepted). score e.block.bytes) (sym same)) ∙ it.bucket_is in
        absurd (outside (omega (arith, least, bucket)) (omega (arith, below, bucket))))
        (λ behind. was.all n i behind least below it)
        (at_or_behind i m from);
  }

-- in another order it is the same
pub gathered_in_order : (score : List ℕ → List ℕ) (c : Setup) (h : History) (first end m : ℕ) (entries ordered : List Entry) → IsPermutation entries ordered
    → HasGathered score c h first end m entries → HasGathered score c h first end m ordered
gathered_in_order score c h first end m entries ordered moved was = record {
  own = λ entry has. was.own entry (Contains-permutation ordered entries entry (IsPermutation-sym entries ordered moved) has);
  all = λ n i from least below it.
      let there = was.all n i from least below it in
      (there.0, Contains-permutation entries ordered there.0 moved there.1, there.2);
}

-- nothing is gathered yet
pub gathers_nothing : (score : List ℕ → List ℕ) (c : Setup) (h : History) (g : Gathered) → g.end ≡ 0 → g.entries.items ≡ [] → IsGathered score c h g
gathers_nothing score c h g end none = record {
  own = λ entry has. absurd (none_in entry (subst (λ (es : List Entry). Contains es entry) none has));
  all = λ n i from least below it. absurd (omega (arith, below, end));
}

pub nothing_in_order : (g : Gathered) → g.entries.items ≡ [] → IsInOrder g
nothing_in_order g none = λ i j d low high. absurd (let few : length g.entries.items ≡ 0 = ap length none in omega (arith, high, few))
