-- What a build leaves, and the words of its report. Assumes nothing.
use Prim.Native.Nat.{ℕ}
use mathlib.Core.Path.{◌≡◌, refl}
use mathlib.Core.List.{List}
use Rattle.std.specs.Prelude.{Result, Ok, Err}
use Rattle.desk_builder.specs.Build.{answer_leaves}
use Rattle.desk_builder.specs.declared.calls.Refusal.{Refusal}
use Rattle.desk_builder.specs.declared.calls.Refusal.TheVariants.{Join, Rnum, BadTable}
use Rattle.desk_report.specs.Report.{of_built, laid_into}
use Rattle.export.specs.Events.{made, build_reported}

pub built_told : (r : Result (ℕ × ℕ) Refusal) (a b t : List ℕ) → made a b (laid_into t (of_built r)) ≡ build_reported t (answer_leaves r a b)
unfolding build_reported of_built answer_leaves
built_told (Ok (n, m)) a b t = refl
built_told (Err (Join x y)) a b t = refl
built_told (Err (Rnum j)) a b t = refl
built_told (Err BadTable) a b t = refl
