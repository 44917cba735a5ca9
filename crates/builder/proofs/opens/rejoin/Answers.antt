-- The list taken out of its words, set at one number and put back is these words with that number set.
use Rattle.std.proofs.Common.{◌≡◌, ℕ, ◌<◌, List, ◌++◌, take, drop, set, sym, ap, ◌∙◌}
use Rattle.std.proofs.Math.Seq.{take-set-lt}
use Rattle.std.proofs.lemmas.List.{drop-set-lt, take-append-drop}
use Rattle.table.specs.Limits.{ring_number_count}
use Rattle.builder.proofs.opens.rejoin.Goals as goal

through : (n : ℕ) (l : List ℕ) (j v : ℕ) → j < n → set (take n l) j v ++ drop n l ≡ set l j v
through n l j v h =
    ap (λ (m : List ℕ). m ++ drop n l) (sym (take-set-lt n l j v h))
    ∙ ap (λ (m : List ℕ). take n (set l j v) ++ m) (sym (drop-set-lt n l j v h))
    ∙ take-append-drop n (set l j v)

pub returns : goal.returns
returns c =
    simp (c.join-joined.ensures, c.in-Some.ensures.cases.same)
    (through ring_number_count c.args.rings.now c.args.number c.args.value c.requires)
