use Rattle.std.proofs.Common.{⊎_elim}
use Rattle.vt_arena.proofs.Crashes.{gives_before, gives_after, gives_last}
use Rattle.vt_arena.proofs.arena.Arena.advance.Goals as goal

pub returns-in-Some-clause-crash : goal.returns-in-Some-clause-crash
returns-in-Some-clause-crash g c score_of old told sound image left =
    gives_before score_of c.args.self.now c.args.region old _ (g.D.Disk.bytes c.args.disk.now) _ (g.D.Disk.images c.args.disk.now) sound image (⊎_elim (λ it. it) (λ it. it) left)

pub returns-clause-crash : goal.returns-clause-crash
returns-clause-crash g c score_of old told sound image left = ⊎_elim
    (λ was. gives_before score_of c.args.self.now c.args.region old _ (g.D.Disk.bytes c.make_call.new.disk) _ (g.D.Disk.images c.make_call.new.disk) sound image was)
    (λ is. gives_after score_of c.args.self.now c.args.region old _ _ _ _ sound image c.make_call.ensures.running is c.make_call.result c.make_call.new.self
    c.make_call.ensures.steps c.make_call.ensures.done (c.make_call.ensures.sound score_of old told sound))
    left

pub returns-clause-last : goal.returns-clause-last
returns-clause-last g c score_of old told sound is =
    gives_last score_of c.args.self.now c.make_call.new.self c.args.region old _ _ c.make_call.result is c.make_call.ensures.steps (c.make_call.ensures.sound score_of old told sound)
