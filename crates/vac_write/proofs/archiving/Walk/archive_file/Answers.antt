use Rattle.std.proofs.Common.{◌≡◌, ℕ, ◌+◌, ◌/◌, List, [], ◌∷◌, ◌++◌, length, refl, sym, ◌∙◌, ap, subst}
use Rattle.std.specs.Prelude.{MatchBool}
use Rattle.std.proofs.lemmas.Result.{err_from_is_err_and, on_ok_weaker, IfErr-weaker}
use Rattle.vt_base.specs.Faults.{HasRisen}
use Rattle.vt_tree.specs.Writing.{WritesStream}
use Rattle.vac_meta.specs.declared.record.RecordKind.TheVariants.{File}
use Rattle.vac_meta.specs.Records.{record_bytes}
use Rattle.vac_model.specs.Archives.{file_shape}
use Rattle.vac_model.specs.Kept.{path_to}
use Rattle.vac_write.specs.declared.error.VacErr.{VacErr}
use Rattle.vac_write.specs.declared.error.VacErr.TheVariants.{NoMemory}
use Rattle.vac_write.specs.Archiving.{HasRisenBy, is_folder_fault}
use Rattle.vac_write.specs.Files.{IsUnread, IsWholeFile, GivesUpTree}
use Rattle.vac_write.specs.Listing.{joined_path}
use Rattle.vac_write.specs.Walking.{GivesUpItem, IsHandedOn, record_for}
use Rattle.vac_write.proofs.Causes.{handed_on, handed_on_all, kept_count, memory_goes_on, rose_once, stayed}
use Rattle.vac_write.proofs.OneItem.{popped, item_not_begun, file_archived, file_not_written, file_unread, file_unrecorded, file_untold}
use Rattle.vac_write.proofs.archiving.Walk.archive_file.Goals as goal

pub returns-in_err-enter-clause-refused : goal.returns-in_err-enter-clause-refused
returns-in_err-enter-clause-refused g c =
    let does = g.B.Blocks.does in
    let score_of = g.B.Scorer.score_of in
    let tells = g.F.Folder.tells in
    let held = g.F.Folder.holds c.args.folder.now in
    let failing = g.F.Folder.may_fail c.args.folder.now in
    let f = g.F.Folder.faults c.args.folder.now in
    let fits = g.met.F.Folder.faults_fit c.args.folder.now in
    let s = c.args.blocks.now in
    let old = c.args.self.now in
    let item = c.args.item in
    let have = g.met.F.Folder.holds_bytes c.args.folder.now in
    let p = err_from_is_err_and c.from_residual.result c.from_residual.ensures.1 in
    rw (p.1, p.2, c.in_err-enter.ensures.err) (item_not_begun does score_of tells held failing have s f f old
    item NoMemory (stayed f f fits refl) (λ o. tt) refl)

pub returns-clause-archived : goal.returns-clause-archived
returns-clause-archived g c =
    let does = g.B.Blocks.does in
    let score_of = g.B.Scorer.score_of in
    let tells = g.F.Folder.tells in
    let held = g.F.Folder.holds c.args.folder.now in
    let failing = g.F.Folder.may_fail c.args.folder.now in
    let f = g.F.Folder.faults c.args.folder.now in
    let fits = g.met.F.Folder.faults_fit c.args.folder.now in
    let s = c.args.blocks.now in
    let old = c.args.self.now in
    let item = c.args.item in
    let left = c.in_ok-enter.ensures.left in
    let s' = c.write_file.new.blocks in
    let f' = g.F.Folder.faults c.write_file.new.folder in
    let entered = c.enter.new.self in
    let path_is : c.deref.result.now ≡ old.path.items ++ item.name ∷ [] =
    c.deref.ensures.value ∙ c.in_ok-enter.ensures.path in
    let entry = c.in-Ok.entry in
    let same : HasRisenBy 0 f f' = stayed f f' fits c.in-Ok.ensures.cause in
    let wrote = subst (λ (p : List (List ℕ)). WritesStream does g.B.Blocks.holds score_of s s'
    (file_shape old.bsize) (IsWholeFile tells held p) entry) path_is
    (subst (λ (n : ℕ). WritesStream does g.B.Blocks.holds score_of s s' (file_shape n)
    (IsWholeFile tells held c.deref.result.now) entry) left.0 c.in-Ok.ensures.written) in
    let x_path = popped entered.path.items old.path.items item.name (length entered.path.items)
    c.add_file.new.self.path.items c.in_ok-enter.ensures.path refl in
    on_ok_weaker c.add_file.result (λ x. file_archived does score_of tells held failing g.B.Blocks.holds s s'
    f f' old item c.requires.kind same c.add_file.new.self c.args.streams.now
    c.add_file.new.streams entry wrote c.in-Ok.ensures.entry x.time
    (x.qid ∙ ap (λ (n : ℕ). n + 1) left.1) (x_path x.path) (x.bsize ∙ left.0) (x.skipped ∙ left.2)
    (x.failed ∙ left.3) x.entries
    (x.metadata ∙ ap (λ (q : ℕ). c.args.streams.now.metadata.items ++ record_bytes
    (record_for item File (length c.args.streams.now.entries.items / 40) q)) left.1))
    c.add_file.ensures.added

pub returns-clause-refused : goal.returns-clause-refused
returns-clause-refused g c =
    let does = g.B.Blocks.does in
    let score_of = g.B.Scorer.score_of in
    let tells = g.F.Folder.tells in
    let held = g.F.Folder.holds c.args.folder.now in
    let failing = g.F.Folder.may_fail c.args.folder.now in
    let f = g.F.Folder.faults c.args.folder.now in
    let fits = g.met.F.Folder.faults_fit c.args.folder.now in
    let s = c.args.blocks.now in
    let old = c.args.self.now in
    let item = c.args.item in
    let left = c.in_ok-enter.ensures.left in
    let s' = c.write_file.new.blocks in
    let f' = g.F.Folder.faults c.write_file.new.folder in
    let entered = c.enter.new.self in
    let path_is : c.deref.result.now ≡ old.path.items ++ item.name ∷ [] =
    c.deref.ensures.value ∙ c.in_ok-enter.ensures.path in
    let entry = c.in-Ok.entry in
    let same : HasRisenBy 0 f f' = stayed f f' fits c.in-Ok.ensures.cause in
    let wrote = subst (λ (p : List (List ℕ)). WritesStream does g.B.Blocks.holds score_of s s'
    (file_shape old.bsize) (IsWholeFile tells held p) entry) path_is
    (subst (λ (n : ℕ). WritesStream does g.B.Blocks.holds score_of s s' (file_shape n)
    (IsWholeFile tells held c.deref.result.now) entry) left.0 c.in-Ok.ensures.written) in
    IfErr-weaker c.add_file.result (λ (err : VacErr). err ≡ NoMemory)
    (GivesUpItem does score_of s s' tells held failing f f' old item)
    (λ err is. subst (GivesUpItem does score_of s s' tells held failing f f' old item) (sym is)
    (file_unrecorded does score_of tells held failing g.B.Blocks.holds s s' f f' old item c.requires.kind same
    entry NoMemory (λ o. tt) refl wrote)) c.add_file.ensures.err

pub returns-clause-goes_on : goal.returns-clause-goes_on
returns-clause-goes_on g c =
    memory_goes_on c.add_file.result c.add_file.ensures.err

pub returns-in-Err-clause-archived : goal.returns-in-Err-clause-archived
returns-in-Err-clause-archived g c =
    let does = g.B.Blocks.does in
    let score_of = g.B.Scorer.score_of in
    let tells = g.F.Folder.tells in
    let held = g.F.Folder.holds c.args.folder.now in
    let failing = g.F.Folder.may_fail c.args.folder.now in
    let f = g.F.Folder.faults c.args.folder.now in
    let fits = g.met.F.Folder.faults_fit c.args.folder.now in
    let s = c.args.blocks.now in
    let old = c.args.self.now in
    let item = c.args.item in
    let left = c.in_ok-enter.ensures.left in
    let s' = c.write_file.new.blocks in
    let f' = g.F.Folder.faults c.write_file.new.folder in
    let entered = c.enter.new.self in
    let path_is : c.deref.result.now ≡ old.path.items ++ item.name ∷ [] =
    c.deref.ensures.value ∙ c.in_ok-enter.ensures.path in
    let err = c.in-Err.err in
    let gave = subst (λ (p : List (List ℕ)). GivesUpTree does score_of s s' (file_shape old.bsize)
    (IsWholeFile tells held p) (IsUnread tells held failing p) err) path_is (subst (λ (n : ℕ).
    GivesUpTree does score_of s s' (file_shape n) (IsWholeFile tells held c.deref.result.now)
    (IsUnread tells held failing c.deref.result.now) err) left.0 c.in-Err.ensures.refused) in
    let Gave : VacErr → Type 0 = λ (e : VacErr). GivesUpTree does score_of s s' (file_shape old.bsize)
    (IsWholeFile tells held (old.path.items ++ item.name ∷ []))
    (IsUnread tells held failing (old.path.items ++ item.name ∷ [])) e in
    let Counts : VacErr → Type 0 = λ (e : VacErr).
    MatchBool (is_folder_fault e) (HasRisen f f') (f' ≡ f) in
    let new = c.leave_out.new.self in
    on_ok_weaker c.leave_out.result (λ x.
    let path : new.path.items ≡ old.path.items =
    popped entered.path.items old.path.items item.name (length entered.path.items) new.path.items
    c.in_ok-enter.ensures.path refl x.path in
    file_unread does score_of tells held failing g.B.Blocks.holds s s' f f' old item c.requires.kind
    (subst Gave x.fault gave) c.requires.stands (rose_once f f' (subst Counts x.fault c.in-Err.ensures.cause)) new
    c.args.streams.now (x.qid ∙ left.1) path (x.bsize ∙ left.0) (x.skipped ∙ left.2)
    (x.noted ∙ (λ i. left.3 i ++ path_to (joined_path (path i)) item.name ∷ [])))
    c.leave_out.ensures.noted

pub returns-in-Err-clause-refused : goal.returns-in-Err-clause-refused
returns-in-Err-clause-refused g c =
    let does = g.B.Blocks.does in
    let score_of = g.B.Scorer.score_of in
    let tells = g.F.Folder.tells in
    let held = g.F.Folder.holds c.args.folder.now in
    let failing = g.F.Folder.may_fail c.args.folder.now in
    let f = g.F.Folder.faults c.args.folder.now in
    let fits = g.met.F.Folder.faults_fit c.args.folder.now in
    let s = c.args.blocks.now in
    let old = c.args.self.now in
    let item = c.args.item in
    let left = c.in_ok-enter.ensures.left in
    let s' = c.write_file.new.blocks in
    let f' = g.F.Folder.faults c.write_file.new.folder in
    let entered = c.enter.new.self in
    let path_is : c.deref.result.now ≡ old.path.items ++ item.name ∷ [] =
    c.deref.ensures.value ∙ c.in_ok-enter.ensures.path in
    let err = c.in-Err.err in
    let gave = subst (λ (p : List (List ℕ)). GivesUpTree does score_of s s' (file_shape old.bsize)
    (IsWholeFile tells held p) (IsUnread tells held failing p) err) path_is (subst (λ (n : ℕ).
    GivesUpTree does score_of s s' (file_shape n) (IsWholeFile tells held c.deref.result.now)
    (IsUnread tells held failing c.deref.result.now) err) left.0 c.in-Err.ensures.refused) in
    let Gave : VacErr → Type 0 = λ (e : VacErr). GivesUpTree does score_of s s' (file_shape old.bsize)
    (IsWholeFile tells held (old.path.items ++ item.name ∷ []))
    (IsUnread tells held failing (old.path.items ++ item.name ∷ [])) e in
    let Counts : VacErr → Type 0 = λ (e : VacErr).
    MatchBool (is_folder_fault e) (HasRisen f f') (f' ≡ f) in
    let GaveUp : VacErr → Type 0 = λ (e : VacErr). GivesUpItem does score_of s s' tells held failing f f' old item e in
    IfErr-weaker c.leave_out.result (IsHandedOn err) GaveUp
    (λ answer is. handed_on err answer GaveUp is
    (λ fault. file_untold does score_of tells held failing g.B.Blocks.holds s s' f f' old item c.requires.kind
    (subst Gave fault gave) c.requires.stands (rose_once f f' (subst Counts fault c.in-Err.ensures.cause)) NoMemory
    (λ o. tt) refl)
    (λ goes_on. file_not_written does score_of tells held failing g.B.Blocks.holds s s' f f' old item
    c.requires.kind (stayed f f' fits (kept_count err f f' goes_on c.in-Err.ensures.cause)) err gave))
    c.leave_out.ensures.err

pub returns-in-Err-clause-goes_on : goal.returns-in-Err-clause-goes_on
returns-in-Err-clause-goes_on g c =
    handed_on_all c.leave_out.result c.in-Err.err c.leave_out.ensures.err
