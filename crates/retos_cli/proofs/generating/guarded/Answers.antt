use Rattle.std.proofs.Common.{List, [], ◌∷◌, ◌++◌, ap, ◌∙◌}
use Rattle.load_model.specs.Loading.{Loadable}
use Rattle.retos_cli.proofs.generating.guarded.Goals as goal

pub returns : goal.returns
returns c =
    let object : Loadable = record { object = c.in-Ok.object; units = c.in-Accepted.marks } in
    record {
      object = object;
      alone = c.in_ok-push-in-Accepted.ensures.pushed ∙ ap (λ (os : List Loadable). os ++ object ∷ []) c.new-objects.ensures;
      gives = c.in-Ok.ensures.right;
      accepted = c.in-Accepted.ensures.right;
      bitmap = c.is_bitmap.ensures;
    }
