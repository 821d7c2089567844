use Rattle.std.proofs.Common.{arith, refl, ◌∙◌}
use Rattle.retos_cli.proofs.Named.{the_word}
use Rattle.retos_cli.proofs.Runs.{boot_refusal, refused_below, unplaced}
use Rattle.retos_cli.proofs.running.run_supplied.Goals as goal

pub at-requires : goal.at-requires
at-requires g c =
    omega (
      arith,
      refused_below c.args.objects.now c.in-Err-NoRoom.object c.in-Err-NoRoom.cause
          (boot_refusal c.args.objects.now c.in-Err-NoRoom.field-0 c.in-Err-NoRoom.object c.in-Err-NoRoom.cause c.in-Err-NoRoom.field-0-is c.in-Err-NoRoom.ensures.refused),
      c.requires.many,
    )

pub returns-in-Err-NoRoom : goal.returns-in-Err-NoRoom
returns-in-Err-NoRoom g c = (
  unplaced c.args.objects.now c.args.job.now.names c.in-Err-NoRoom.object c.in-Err-NoRoom.cause c.copied.result
      (boot_refusal c.args.objects.now c.in-Err-NoRoom.field-0 c.in-Err-NoRoom.object c.in-Err-NoRoom.cause c.in-Err-NoRoom.field-0-is c.in-Err-NoRoom.ensures.refused) (c.copied.ensures ∙ the_word c.args.job.now.names c.in-Err-NoRoom.object c.at.result.now c.at.ensures),
  refl,
)
