use Rattle.kernel_model.specs.Layout.{kernel_of}
use Rattle.reloc_loader.proofs.Placed.{places_ok, lowest_same, cause_same}
use Rattle.reloc_loader.proofs.loading.place_object.Goals as goal

pub returns-clause-places : goal.returns-clause-places
returns-clause-places c =
    places_ok (kernel_of c.args.m.now) c.args.o.now c.code_bytes.result c.region_bytes.result c.place.result c.place.ensures.answer c.code_bytes.ensures.size c.region_bytes.ensures.size
    c.region_bytes.ensures.even c.placings_are_lowest.ensures.lowest c.placings_are_lowest.ensures.inside c.placings_keep_settled.ensures.even c.requires.settled.kernel

pub returns-clause-lowest : goal.returns-clause-lowest
returns-clause-lowest c =
    lowest_same (kernel_of c.args.m.now) c.args.o.now c.code_bytes.result c.region_bytes.result c.place.result c.code_bytes.ensures.size
    c.region_bytes.ensures.size c.place.ensures.lowest

pub returns-clause-cause : goal.returns-clause-cause
returns-clause-cause c =
    cause_same (kernel_of c.args.m.now) c.args.o.now c.code_bytes.result c.region_bytes.result c.place.result c.code_bytes.ensures.size
    c.region_bytes.ensures.size c.place.ensures.cause
