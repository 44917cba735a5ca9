-- The pool's call for other languages: words that stand for no pool are answered 17, carrying 0; else the answer is the
-- call's. An accepted call lays its new state into the state's words; a refused one changes nothing but the report.
use Rattle.std.specs.Prelude.{ℕ, List}
use Rattle.std.proofs.lemmas.List.Edits.{sets}
use Rattle.desk_pool.specs.Slots.{Gives, hit_d}
use Rattle.desk_report.specs.Report.{bad, telling, laid_into}
use Rattle.desk_report.specs.State.{on_state, pool_in}

-- every cell that is lent to a call
pub record PoolCells : Type 0 where
  pub pairs : List ℕ
  pub state : List ℕ
  pub report : List ℕ

abbrev pub cells_of_pool : List ℕ → List ℕ → List ℕ → PoolCells
cells_of_pool p s t = record { pairs = p; state = s; report = t }

-- what a call leaves
unfoldable pub pool_after : PoolCells → Gives → PoolCells
pool_after c g = cells_of_pool g.left (sets c.state 0 g.state) (laid_into c.report (telling g.told))

unfoldable pub hit_x : PoolCells → ℕ → ℕ → PoolCells
hit_x c a b =
    on_state (pool_in c.state) (cells_of_pool c.pairs c.state (laid_into c.report bad)) (λ p. pool_after c (hit_d p c.pairs a b))
