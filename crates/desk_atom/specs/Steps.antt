-- Steps of the proofs: no public claim rests on these definitions.
use Rattle.std.specs.Prelude.{ℕ, List, length, ltb, Err, Ok}
use Rattle.feature.specs.Pick.{pick}
use Rattle.desk_atom.specs.declared.Refusal.TheVariants.{OutRoom}
use Rattle.table.specs.Zeros.{zeros}
use Rattle.desk_atom.specs.Texts.{Spells, spelt}

-- an output after a text of so many bytes was written into it as far as there was room: cleared where there was too little
unfoldable pub answered_length : List ℕ → ℕ → Spells
answered_length out need = pick (ltb (length out) need) (spelt (Err (OutRoom need)) (zeros (length out))) (spelt (Ok need) out)
