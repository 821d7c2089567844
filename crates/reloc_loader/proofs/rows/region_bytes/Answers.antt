use Rattle.std.proofs.Common.{rules, ℕ, ◌≡◌, ◌+◌, ◌*◌, ◌%◌, ap, ◌∙◌}
use Rattle.load_model.specs.Domains.{region_length}
use Rattle.reloc_loader.proofs.rows.region_bytes.Goals as goal

pub returns-clause-even : goal.returns-clause-even
returns-clause-even c =
    let size : c.from.result + c.from-2.result * c.from-3.result ≡ region_length c.args.o.now = search rules in
    ap (λ (n : ℕ). n % 2) size ∙ c.regions_are_even.ensures c.args.o.now
