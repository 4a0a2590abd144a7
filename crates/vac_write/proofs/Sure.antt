-- Reads of a file that a folder tells not to fail.
use Rattle.std.proofs.Common.{◌≡◌, ⊎_elim, ℕ, ◌&&◌, Bool, true, false, not, IsTrue, is_some, Option, Some, None, List, refl, sym, ◌∙◌, ap, subst, arith, inl, inr}
use Rattle.std.specs.Prelude.{MatchBool}
use Rattle.std.proofs.lemmas.Bool.{false≢true}
use Rattle.vt_base.specs.Faults.{HasRisen}
use Rattle.vt_out.specs.declared.folder_item.Facts.{Facts}
use Rattle.vt_out.specs.FolderItems.{FailingPaths, Items, ReadMayFail, file_at}
use Rattle.vt_tree.specs.declared.error.TreeErr.{TreeErr}
use Rattle.vt_tree.specs.Writing.{is_source_fault}
use Rattle.vac_write.specs.Archiving.{is_folder_fault, of_stream}
use Rattle.vac_write.specs.Files.{IsUnread}
use Rattle.vac_write.specs.Sources.{told_folder, is_sure, unsure_faults, sure_faults}
use Rattle.vac_write.proofs.Filed.{fault_of}

-- ---- a read that fails

and_false : (b : Bool) → (b && false) ≡ false
and_false true = refl
and_false false = refl

-- ..may fail
pub failed_unsure : (tells : Bool) (held : Items Facts) (failing : FailingPaths)
    (path : List (List ℕ)) → (IsTrue tells → ReadMayFail failing held path)
    → is_sure tells held failing path ≡ false
failed_unsure false held failing path why = refl
failed_unsure true held failing path why = ⊎_elim
    (λ (may : IsTrue (failing.read path)).
    ap (λ (b : Bool). is_some (file_at path held) && not b) may
    ∙ and_false (is_some (file_at path held)))
    (λ (absent : file_at path held ≡ None).
    ap (λ (o : Option (List ℕ)). is_some o && not (failing.read path)) absent) (why refl)

pub unsure_fails : (tells : Bool) (held : Items Facts) (failing : FailingPaths)
    (path : List (List ℕ)) → is_sure tells held failing path ≡ false
    → IsUnread tells held failing path
unsure_fails false held failing path unsure told = absurd (false≢true told)
unsure_fails true held failing path unsure told =
    of (file_at path held) (failing.read path) refl refl unsure
  where
    of : (o : Option (List ℕ)) (b : Bool) → file_at path held ≡ o → failing.read path ≡ b
        → (is_some o && not b) ≡ false → ReadMayFail failing held path
    of None b absent is unsure = inr absent
    of (Some bytes) true there is unsure = inl is
    of (Some bytes) false there is unsure = absurd (false≢true (sym unsure))

-- ---- what stays

pub told_stays : (tells : Bool) (held held' : Items Facts) (failing failing' : FailingPaths)
    → (IsTrue tells → held' ≡ held) → (IsTrue tells → failing' ≡ failing)
    → told_folder tells held' failing' ≡ told_folder tells held failing
told_stays true held held' failing failing' same paths = λ i. Some (same refl i, paths refl i)
told_stays false held held' failing failing' same paths = refl

pub sure_stays : (tells : Bool) (held held' : Items Facts) (failing failing' : FailingPaths)
    (path : List (List ℕ)) → (IsTrue tells → held' ≡ held) → (IsTrue tells → failing' ≡ failing)
    → is_sure tells held' failing' path ≡ is_sure tells held failing path
sure_stays true held held' failing failing' path same paths =
    λ i. is_sure true (same refl i) (paths refl i) path
sure_stays false held held' failing failing' path same paths = refl

pub told_same : (tells : Bool) (held held' : Items Facts) (failing failing' : FailingPaths)
    → told_folder tells held' failing' ≡ told_folder tells held failing → IsTrue tells
    → (held' ≡ held) × (failing' ≡ failing)
told_same true held held' failing failing' is told =
    let both : (held', failing') ≡ (held, failing) = cc in (
      ap (λ (x : Items Facts × FailingPaths). x.0) both,
      ap (λ (x : Items Facts × FailingPaths). x.1) both,
    )
told_same false held held' failing failing' is told = absurd (false≢true told)

-- ---- counts

-- where a read has failed
pub unsure_rose : (s s' : Bool) (f f' : ℕ) → s ≡ false → s' ≡ s → HasRisen f f'
    → HasRisen (unsure_faults s f) (unsure_faults s' f')
unsure_rose true s' f f' unsure same rose = absurd (false≢true (sym unsure))
unsure_rose false true f f' unsure same rose = absurd (false≢true (sym same))
unsure_rose false false f f' unsure same rose = rose

pub sure_stayed : (s s' : Bool) (f f' : ℕ) → s ≡ false → s' ≡ s
    → sure_faults s' f' ≡ sure_faults s f
sure_stayed true s' f f' unsure same = absurd (false≢true (sym unsure))
sure_stayed false true f f' unsure same = absurd (false≢true (sym same))
sure_stayed false false f f' unsure same = refl

-- none is counted where none may fail
pub rose_unsure : (s s' : Bool) (f f' : ℕ) → s' ≡ s
    → HasRisen (unsure_faults s f) (unsure_faults s' f') → s ≡ false
rose_unsure true true f f' same rose = let never : ⊥ = omega (arith, rose) in absurd never
rose_unsure true false f f' same rose = absurd (false≢true same)
rose_unsure false s' f f' same rose = refl

pub both_stayed : (s s' : Bool) (f f' : ℕ) → s' ≡ s → sure_faults s' f' ≡ sure_faults s f
    → unsure_faults s' f' ≡ unsure_faults s f → f' ≡ f
both_stayed true true f f' same sure unsure = sure
both_stayed true false f f' same sure unsure = absurd (false≢true same)
both_stayed false true f f' same sure unsure = absurd (false≢true (sym same))
both_stayed false false f f' same sure unsure = unsure

both_rose : (s s' : Bool) (f f' : ℕ) → s' ≡ s
    → HasRisen (unsure_faults s f) (unsure_faults s' f') → HasRisen f f'
both_rose true true f f' same rose = let never : ⊥ = omega (arith, rose) in absurd never
both_rose true false f f' same rose = absurd (false≢true same)
both_rose false true f f' same rose = absurd (false≢true (sym same))
both_rose false false f f' same rose = rose

module _ (s s' : Bool) (f f' : ℕ) (same : s' ≡ s) where
  -- the folder's count is that of the stream
  pub stream_counts : (err : TreeErr) → sure_faults s' f' ≡ sure_faults s f
      → MatchBool (is_source_fault err) (HasRisen (unsure_faults s f) (unsure_faults s' f'))
      (unsure_faults s' f' ≡ unsure_faults s f)
      → MatchBool (is_folder_fault (of_stream err)) (HasRisen f f') (f' ≡ f)
  stream_counts err sure counts =
      subst (λ (b : Bool). MatchBool b (HasRisen f f') (f' ≡ f)) (sym (fault_of err))
      (of (is_source_fault err) counts)
    where
      of : (b : Bool) → MatchBool b (HasRisen (unsure_faults s f) (unsure_faults s' f'))
          (unsure_faults s' f' ≡ unsure_faults s f) → MatchBool b (HasRisen f f') (f' ≡ f)
      of true rose = both_rose s s' f f' same rose
      of false stayed = both_stayed s s' f f' same sure stayed

  -- one that is told is of a file of which a read may fail
  pub told_unsure : (fault : Bool)
      → MatchBool fault (HasRisen (unsure_faults s f) (unsure_faults s' f'))
      (unsure_faults s' f' ≡ unsure_faults s f) → fault ≡ true → s ≡ false
  told_unsure true rose is = rose_unsure s s' f f' same rose
  told_unsure false stayed is = absurd (false≢true is)
