-- A text laid over zeros. Assumes nothing.
use Prim.Native.Nat.{ℕ, ◌-◌, ◌≤◌, ◌<◌}
use mathlib.Core.Path.{◌≡◌, refl, ap, ◌∙◌}
use mathlib.Core.Bool.{Bool, true, false}
use mathlib.Core.List.{List, ◌++◌}
use native.Mathlib.Omega.{arith}
use lib.ListN.{length, drop, length-replicate}
use lib.Seq.{length-sets}
use lib.Dec.{ltb}
use borrow.Author.Tests.{lt-ltb, le-ltb, ltb-false}
use Rattle.feature.proofs.Lists.{drop_zeros}
use Rattle.feature.specs.Pick.{pick}
use Rattle.feature.specs.Kinds.{in_range}
use Rattle.feature.specs.declared.atom_kind.AtomKind.{AtomKind}
use Rattle.spell.specs.Spell.{Laid, atom_text, rnum_text}
use Rattle.spell.proofs.Laws.{in_front}
use Rattle.std.specs.Prelude.{Err, Ok}
use Rattle.desk_atom.specs.declared.Refusal.TheVariants.{BadTable, OutRoom}
use Rattle.table.specs.Zeros.{zeros}
use Rattle.desk_atom.specs.Texts.{Spells, spelt, texted, atom_d, rnum_d}
use Rattle.desk_atom.specs.Steps.{answered_length}

-- a text laid over zeros and then settled
pub laid_answered : {k r : ℕ} {text wiped m : List ℕ} (n : ℕ) → wiped ≡ zeros n → Laid k wiped 0 text m r → answered_length m r ≡ texted text n
unfolding answered_length texted
laid_answered {k} {r} {text} {wiped} {m} n w h = go (ltb n (length text)) refl where
  long : length wiped ≡ n
  long = ap length w ∙ length-replicate {A = ℕ} n 0

  same : length m ≡ n
  same = ap length h.is ∙ length-sets wiped 0 text ∙ long

  need : r ≡ length text
  need = omega (arith, h.next)

  go : (q : Bool) → ltb n (length text) ≡ q → pick (ltb (length m) r) (spelt (Err (OutRoom r)) (zeros (length m))) (spelt (Ok r) m) ≡ pick (ltb n (length text)) (spelt (Err (OutRoom (length text))) (zeros n)) (spelt (Ok (length text)) (text ++ zeros (n - length text)))
  go true q = simp (same, need, q)
  go false q =
      let fits : length text ≤ length wiped = omega (arith, long, ltb-false n (length text) q) in
      let laid : m ≡ text ++ zeros (n - length text) =
      in_front h fits ∙ ap (λ (l : List ℕ). text ++ drop (length text) l) w ∙ ap (λ (l : List ℕ). text ++ l) (drop_zeros (length text) n) in
      simp (same, need, q) (ap (λ (l : List ℕ). spelt (Ok (length text)) l) laid)
