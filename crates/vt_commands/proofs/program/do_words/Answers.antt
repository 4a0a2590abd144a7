use Rattle.std.proofs.Common.{inl, inr, refl, rules, []}
use Rattle.std.specs.Prelude.{map, string_bytes}
use Rattle.vt_cli.specs.declared.asked.Asked.TheVariants.{Faulty}
use Rattle.vt_cli.specs.Words.{Asks}
use Rattle.run_base.proofs.SaidBefore.{said_as, unsaid}
use Rattle.vt_commands.proofs.program.do_words.Goals as goal

pub returns-in-Ok-Faulty : goal.returns-in-Ok-Faulty
returns-in-Ok-Faulty g c =
    let asks : Asks (map g.W.AsStr.text c.args.words.now) Faulty = search rules in (
      [],
      inl (
        Faulty,
        asks,
        record {
          is = refl;
          idle = record {
            unread = refl;
            unwritten = refl;
            unopened = refl;
            unused = refl;
            undialled = refl;
            folders = (refl, refl);
          };
        },
        refl,
      ),
      unsaid g.F.Sink _ _ [] refl,
    )

pub returns-in-Err : goal.returns-in-Err
returns-in-Err g c = (
  [],
  inr (
    refl,
    record {
      is = refl;
      idle = record {
        unread = refl;
        unwritten = refl;
        unopened = refl;
        unused = refl;
        undialled = refl;
        folders = (refl, refl);
      };
    },
  ),
  unsaid g.F.Sink _ _ [] refl,
)
