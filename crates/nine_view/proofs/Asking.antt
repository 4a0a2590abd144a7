-- What is asked before a version is agreed.
use Rattle.std.proofs.Common.{◌≡◌, ℕ, refl}
use Rattle.nine_wire.specs.declared.message.Request.{Request}
use Rattle.nine_wire.specs.declared.message.Request.TheVariants as requests
use Rattle.nine_wire.specs.Views.{message_of}
use Rattle.nine_view.specs.declared.request_error.RequestError.TheVariants.{VersionExpected}
use Rattle.nine_view.specs.Answers.{answer_first, refused_answer}
use Rattle.nine_view.specs.Known.{ViewState}

-- anything but a version is refused
pub not_first : (known : ViewState) (asked : Request)
    → ((msize : ℕ) (version : _) → asked ≡ requests.Version msize version → ⊥)
    → answer_first known (message_of asked) ≡ refused_answer known VersionExpected
not_first known (requests.Version msize version) other = absurd (other msize version refl)
not_first known (requests.Auth afid uname aname) other = refl
not_first known (requests.Attach fid afid uname aname) other = refl
not_first known (requests.Flush oldtag) other = refl
not_first known (requests.Walk fid newfid names) other = refl
not_first known (requests.Open fid mode) other = refl
not_first known (requests.Create fid name perm mode) other = refl
not_first known (requests.Read fid offset count) other = refl
not_first known (requests.Write fid offset bytes) other = refl
not_first known (requests.Clunk fid) other = refl
not_first known (requests.Remove fid) other = refl
not_first known (requests.Stat fid) other = refl
not_first known (requests.Wstat fid stat) other = refl
