use Rattle.std.proofs.Common.{◌≡◌, ◌≤◌, true, drop}
use Rattle.std.specs.List.{list_all}
use Rattle.std.specs.Char.{is_ascii_digit}
use Rattle.std.specs.Str.Parse.{digits_value_after}
use Rattle.read_script.proofs.text.value_up_to.Given as goal

abbrev pub invariant-loop-i : goal.invariant-loop-i
invariant-loop-i l =
    (l.value ≤ l.most)
    × (list_all is_ascii_digit (drop l.i l.digits) ≡ true)
    × (digits_value_after 10 0 l.digits ≡ digits_value_after 10 l.value (drop l.i l.digits))
