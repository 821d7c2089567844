use Rattle.node_laws.proofs.booted_is_sound.Goals as goal

pub returns : goal.returns
returns c =
    c.boot_is_sound.ensures c.first_is_loading.ensures c.loaded_is_loading.ensures c.started_is_sound.ensures c.dispatch_is_sound.ensures
