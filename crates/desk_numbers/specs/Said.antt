-- What the desk says, as code holds it: a number, how many values it carries, and two values, 0 where it carries fewer.
use Rattle.std.specs.Prelude.{ℕ, length, get_or}
use Rattle.desk_numbers.specs.Numbers.{Told}
use Rattle.desk_numbers.specs.declared.Said.{Said}

abbrev pub said : ℕ → ℕ → ℕ → ℕ → Said
said n count a b = record { no = n; carries = count; first = a; second = b }

abbrev pub saying : Told → Said
saying t = said t.number (length t.values) (get_or t.values 0 0) (get_or t.values 1 0)
