use Rattle.std.proofs.Common.{length}
use Rattle.static_checker.specs.Firsts.{IsLocal, IsLanding}
use Rattle.static_checker.proofs.Guarding.{not_true}
use Rattle.static_checker.proofs.FirstLemmas.{none_first, some_first, none_of_both, local_alone, landing_alone, local_first, landing_first}
use Rattle.static_checker.proofs.verdict.lesser.Goals as goal

pub returns-in-None-landing : goal.returns-in-None-landing
returns-in-None-landing c =
    none_of_both c.args.o.now 0 (length c.args.o.now.code) (none_first c.args.o.now IsLocal 0 (length c.args.o.now.code) c.args.local c.in-None.is c.requires.local)
    (none_first c.args.o.now IsLanding 0 (length c.args.o.now.code) c.args.landing c.in-None-landing.is c.requires.landing)

pub returns-in-Some-landing : goal.returns-in-Some-landing
returns-in-Some-landing c =
    landing_alone c.args.o.now 0 (length c.args.o.now.code) c.in-Some-landing.other (none_first c.args.o.now IsLocal 0 (length c.args.o.now.code) c.args.local c.in-None.is c.requires.local)
    (some_first c.args.o.now IsLanding 0 (length c.args.o.now.code) c.args.landing c.in-Some-landing.other c.in-Some-landing.is c.requires.landing)

pub returns-in-None-landing-2 : goal.returns-in-None-landing-2
returns-in-None-landing-2 c =
    local_alone c.args.o.now 0 (length c.args.o.now.code) c.in-Some.first (some_first c.args.o.now IsLocal 0 (length c.args.o.now.code) c.args.local c.in-Some.first c.in-Some.is c.requires.local)
    (none_first c.args.o.now IsLanding 0 (length c.args.o.now.code) c.args.landing c.in-None-landing-2.is c.requires.landing)

pub returns-then-precedes : goal.returns-then-precedes
returns-then-precedes c =
    local_first c.args.o.now 0 (length c.args.o.now.code) c.in-Some.first c.in-Some-landing-2.other
    (some_first c.args.o.now IsLocal 0 (length c.args.o.now.code) c.args.local c.in-Some.first c.in-Some.is c.requires.local)
    (some_first c.args.o.now IsLanding 0 (length c.args.o.now.code) c.args.landing c.in-Some-landing-2.other c.in-Some-landing-2.is c.requires.landing) (c.precedes.ensures.0 c.if-precedes.true)

pub returns-else-precedes : goal.returns-else-precedes
returns-else-precedes c =
    landing_first c.args.o.now 0 (length c.args.o.now.code) c.in-Some.first c.in-Some-landing-2.other
    (some_first c.args.o.now IsLocal 0 (length c.args.o.now.code) c.args.local c.in-Some.first c.in-Some.is c.requires.local)
    (some_first c.args.o.now IsLanding 0 (length c.args.o.now.code) c.args.landing c.in-Some-landing-2.other c.in-Some-landing-2.is c.requires.landing) (λ h. not_true _ c.if-precedes.false (c.precedes.ensures.1 h))
