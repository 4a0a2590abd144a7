-- the place is of one kind, and of the other nothing is touched
use Rattle.std.proofs.Common.{refl, sym, subst}
use Rattle.vt_use.specs.Change.{dialer_change, parts_change}
use Rattle.vt_use.specs.Places.{CanBeOpened, UsesAt}
use Rattle.vt_use.specs.declared.used_at.StoreAt.{StoreAt}
use Rattle.vt_use.proofs.Narrower.{at_conf, at_server}
use Rattle.vt_use.proofs.place.use_at.Goals as goal

pub use_conf-requires-clause-few : goal.use_conf-requires-clause-few
use_conf-requires-clause-few g c = (subst CanBeOpened c.in-Conf.is c.requires.can).0

pub use_conf-requires-clause-some_arenas : goal.use_conf-requires-clause-some_arenas
use_conf-requires-clause-some_arenas g c = (subst CanBeOpened c.in-Conf.is c.requires.can).1

pub use_conf-requires-clause-some_section : goal.use_conf-requires-clause-some_section
use_conf-requires-clause-some_section g c = (subst CanBeOpened c.in-Conf.is c.requires.can).2

pub returns-in-Conf-clause-uses : goal.returns-in-Conf-clause-uses
returns-in-Conf-clause-uses g c =
    let score = g.S.Scorer.score_of in
    let disk = g.P.Disk.Disk in
    let link = g.N.Link.Link in
    let writes = g.J.BlockJob.writes c.args.job in
    let parts = parts_change g.P.Parts c.args.parts.now c.use_conf.new.parts in
    let dialer = dialer_change g.N.Dialer link c.args.dialer.now c.args.dialer.now in
    subst (λ (at : StoreAt). UsesAt score disk link at c.args.now writes
    (λ output T act holds calls s s'. g.J.BlockJob.does T act holds score c.args.job output
    c.args.beside.now c.use_conf.new.beside calls s s') c.use_conf.result parts dialer)
    (sym c.in-Conf.is)
    (at_conf score disk link c.args.now writes parts dialer c.in-Conf.conf
    (λ output T act holds calls s s'. g.J.BlockJob.does T act holds score c.args.job output
    c.args.beside.now c.use_conf.new.beside calls s s') c.use_conf.result c.use_conf.ensures.uses
    c.use_conf.ensures.none refl)

pub returns-in-Server-clause-uses : goal.returns-in-Server-clause-uses
returns-in-Server-clause-uses g c =
    let score = g.S.Scorer.score_of in
    let disk = g.P.Disk.Disk in
    let link = g.N.Link.Link in
    let writes = g.J.BlockJob.writes c.args.job in
    let parts = parts_change g.P.Parts c.args.parts.now c.args.parts.now in
    let dialer = dialer_change g.N.Dialer link c.args.dialer.now c.use_server.new.dialer in
    subst (λ (at : StoreAt). UsesAt score disk link at c.args.now writes
    (λ output T act holds calls s s'. g.J.BlockJob.does T act holds score c.args.job output
    c.args.beside.now c.use_server.new.beside calls s s') c.use_server.result parts dialer)
    (sym c.in-Server.is)
    (at_server score disk link c.args.now writes parts dialer c.in-Server.address
    (λ output T act holds calls s s'. g.J.BlockJob.does T act holds score c.args.job output
    c.args.beside.now c.use_server.new.beside calls s s') c.use_server.result
    c.use_server.ensures.uses c.use_server.ensures.none refl)
