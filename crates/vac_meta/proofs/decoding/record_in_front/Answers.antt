use Rattle.std.proofs.Common.{◌≡◌, ◌<◌, ◌+◌, ◌∙◌, ℕ, List, ◌++◌, length, subst, arith}
use Rattle.std.specs.Prelude.{slice_index}
use Rattle.std.specs.Option.{option_copied}
use Rattle.std.proofs.lemmas.Result.{err_from_is_err_and}
use Rattle.vt_base.specs.Bytes.{AreBytes}
use Rattle.vac_meta.specs.declared.decoding.Found.{Found}
use Rattle.vac_meta.specs.Found.{found_record}
use Rattle.vac_meta.specs.Records.{string}
use Rattle.vac_meta.proofs.Flawless.{behind_name, behind_numbers, behind_uid, stops_at_numbers, stops_at_uid}
use Rattle.vac_meta.proofs.Fronts.{bytes_before, bytes_behind, joined, numbers_are, ranges}
use Rattle.vac_meta.proofs.decoding.record_in_front.Goals as goal

pub returns-in_err-numbers-clause-flaw : goal.returns-in_err-numbers-clause-flaw
returns-in_err-numbers-clause-flaw c =
    let p = err_from_is_err_and c.from_residual-in_err-numbers.result
    c.from_residual-in_err-numbers.ensures.1 in
    let name = c.in_ok-name.ensures in
    rw (p.1, p.2) (behind_name c.args.bytes.now c.in_ok-name.name.now c.in_ok-name.rest.now
    name.whole
    (option_copied c.args.last) c.args.at name.allowed name.next
    ∙ stops_at_numbers (c.args.at + 2 + length c.in_ok-name.name.now) c.in_ok-name.rest.now
    c.in_err-numbers.field-0.0 c.in_err-numbers.ensures.flaw)

pub returns-in_err-uid-clause-flaw : goal.returns-in_err-uid-clause-flaw
returns-in_err-uid-clause-flaw c =
    let p = err_from_is_err_and c.from_residual-in_err-uid.result
    c.from_residual-in_err-uid.ensures.1 in
    let name = c.in_ok-name.ensures in
    let numbers = c.in_ok-numbers.ensures in
    rw (p.1, p.2) (behind_name c.args.bytes.now c.in_ok-name.name.now c.in_ok-name.rest.now
    name.whole
    (option_copied c.args.last) c.args.at name.allowed name.next
    ∙ behind_numbers (c.args.at + 2 + length c.in_ok-name.name.now) c.in_ok-name.rest.now
    c.in_ok-numbers.numbers.now c.in_ok-numbers.rest.now numbers.whole numbers.len numbers.kind
    ∙ stops_at_uid (c.args.at + 2 + length c.in_ok-name.name.now + 21) c.in_ok-numbers.rest.now
    c.in_err-uid.field-0.0 c.in_err-uid.ensures.flaw)

pub returns-in_err-gid-clause-flaw : goal.returns-in_err-gid-clause-flaw
returns-in_err-gid-clause-flaw c =
    let p = err_from_is_err_and c.from_residual-in_err-gid.result
    c.from_residual-in_err-gid.ensures.1 in
    let name = c.in_ok-name.ensures in
    let numbers = c.in_ok-numbers.ensures in
    let uid = c.in_ok-uid.ensures in
    let at : ℕ = c.args.at + 2 + length c.in_ok-name.name.now in
    rw (p.1, p.2) (behind_name c.args.bytes.now c.in_ok-name.name.now c.in_ok-name.rest.now
    name.whole
    (option_copied c.args.last) c.args.at name.allowed name.next
    ∙ behind_numbers at c.in_ok-name.rest.now c.in_ok-numbers.numbers.now
    c.in_ok-numbers.rest.now numbers.whole numbers.len numbers.kind
    ∙ behind_uid c.in_ok-numbers.rest.now c.in_ok-uid.uid.now c.in_ok-uid.rest.now uid.whole
    (at + 21) uid.most
    ∙ c.in_err-gid.ensures.flaw)

-- the bytes of the numbers are bytes
are : (bytes name b1 m b2 : List ℕ) → ((i : ℕ) → slice_index bytes i < 256)
    → bytes ≡ string name ++ b1 → b1 ≡ m ++ b2 → AreBytes m
are bytes name b1 m b2 all a b =
    bytes_before m b2 (subst AreBytes b
    (bytes_behind (string name) b1 (subst AreBytes a all)))

pub returns-clause-allowed : goal.returns-clause-allowed
returns-clause-allowed c =
    let name = c.in_ok-name.ensures in
    let numbers = c.in_ok-numbers.ensures in
    let found : Found = record {
      name = c.in_ok-name.name;
      numbers = c.in_ok-numbers.numbers;
      uid = c.in_ok-uid.uid;
      gid = c.in_ok-gid.gid;
    } in
    record {
      fits = record {
        name = name.allowed;
        uid = c.in_ok-uid.ensures.most;
        gid = c.in_ok-gid.ensures.most;
      };
      ranges = ranges found numbers.len numbers.kind
          (are c.args.bytes.now c.in_ok-name.name.now c.in_ok-name.rest.now found.numbers.now
          c.in_ok-numbers.rest.now (λ i. omega (arith, c.type_inv.bytes i)) name.whole
          numbers.whole);
    }

pub returns-clause-whole : goal.returns-clause-whole
returns-clause-whole c =
    let name = c.in_ok-name.ensures in
    let numbers = c.in_ok-numbers.ensures in
    let found : Found = record {
      name = c.in_ok-name.name;
      numbers = c.in_ok-numbers.numbers;
      uid = c.in_ok-uid.uid;
      gid = c.in_ok-gid.gid;
    } in
    joined (found_record found) c.args.bytes.now c.in_ok-name.rest.now found.numbers.now
    c.in_ok-numbers.rest.now c.in_ok-uid.rest.now c.in_ok-gid.rest.now name.whole numbers.whole
    (numbers_are found numbers.len numbers.kind
    (are c.args.bytes.now c.in_ok-name.name.now c.in_ok-name.rest.now found.numbers.now
    c.in_ok-numbers.rest.now (λ i. omega (arith, c.type_inv.bytes i)) name.whole numbers.whole))
    c.in_ok-uid.ensures.whole c.in_ok-gid.ensures.whole
