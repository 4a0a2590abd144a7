-- A session over the store in memory.
use Rattle.std.proofs.Common.{◌≡◌, ℕ, List, [], refl, sym, subst, append-nil, arith}
use Rattle.vt_base.specs.Bytes.{AreBytes}
use Rattle.vt_disk.specs.Members.{DiskOf}
use Rattle.vt_model.specs.Places.{Setup}
use Rattle.vt_session.specs.Turns.{causes_of}
use Rattle.vt_session.specs.Answered.{AnsweredAlone}
use Rattle.vt_core.specs.Core.{CoreState, setup_of}
use Rattle.vt_use.specs.declared.session.StoreServed.{StoreServed}
use Rattle.vt_use.specs.Sessions.{AreUnsaid, IsSession as IsSessionOver, NoCallFails}
use Rattle.run_base.specs.Change.{StreamChange}
use Rattle.run_sessions.specs.Session.{IsSession, ServesMemory}
use Rattle.run_base.specs.Memory.{memory_setup}
use Rattle.run_base.proofs.InMemory.{told_by_none, front_only, none}

-- what came in and went out over the store, as a session in memory
pub session_in : {D : Type 0} (score : List ℕ → List ℕ) (disk : DiskOf D) (end : StoreServed)
    (now : ℕ) (old new : CoreState D) (input output : List ℕ) → setup_of old ≡ memory_setup
    → NoCallFails disk old new → IsSessionOver score disk end now old new [] input output
    → IsSession score end input output
session_in score disk end now old new input output setup quiet x =
    let only = x.quiet quiet in
    record {
      turns = x.turns;
      between = x.between;
      alone = record {
        carried = x.alone.carried;
        taken = x.alone.taken;
        answered = subst (λ (c : Setup). AnsweredAlone score c [] x.turns x.between) setup
            x.alone.answered;
        failures = told_by_none (causes_of x.turns) (front_only x.turns x.unsaid only);
      };
      unsaid = x.unsaid;
      last = x.last;
      are_unsaid = subst (λ (c : Setup). AreUnsaid score c input x.turns x.unsaid end.ended
          x.between x.last) setup x.are_unsaid;
      failures = only;
      failure_is = x.failure_is;
    }

pub serves_none : {R K : Type 0} (score : List ℕ → List ℕ) (source : StreamChange R) (sink : StreamChange K)
    → AreBytes source.old → source.new ≡ source.old → sink.new ≡ sink.old
    → source.faults' ≡ source.faults → sink.faults' ≡ sink.faults
    → ServesMemory score none source sink
serves_none score source sink bytes same same' quiet quiet' = record {
  input = [];
  output = [];
  passes = λ tells. record {
    bytes = bytes;
    took = record { parts = sym same; closed = λ e. absurd (cc); cut = λ e. absurd (cc) };
    taken = refl;
    written = subst (λ (l : List ℕ). sink.new ≡ l) (sym (append-nil sink.old)) same';
  };
  session = λ tells. record {
    turns = [];
    between = [];
    alone = record {
      carried = (refl, refl);
      taken = omega arith;
      answered = refl;
      failures = told_by_none [] tt;
    };
    unsaid = [];
    last = [];
    are_unsaid = record { none = λ other. refl; heard = λ e. absurd (cc); answered = refl };
    failures = tt;
    failure_is = refl;
  };
  needs = record { failure = tt; closed = refl };
  read = quiet;
  write = quiet';
}
