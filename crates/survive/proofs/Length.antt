-- An atom that survives has a text. Assumes nothing.
use Prim.Native.Nat.{ℕ, ◌<◌}
use mathlib.Core.Path.{◌≡◌}
use mathlib.Core.Bool.{true}
use native.Mathlib.Omega.{arith}
use lib.ListN.{length, replicate}
use lib.Dec.{T, ltb, ltb→lt, lit<}
use Rattle.feature.specs.Names.{names}
use Rattle.feature.specs.Kinds.{aliphatic_count, aromatic_count, in_range}
use Rattle.feature.proofs.Table.{every_entry}
use Rattle.feature.proofs.Ranges.{good}
use Rattle.feature.specs.declared.atom_kind.AtomKind.{AtomKind}
use Rattle.feature.specs.declared.atom_kind.AtomKind.TheVariants.{Star, Aliphatic, Aromatic, Bracket}
use Rattle.spell.specs.Spell.{name_text, bracket_text, organic_symbols, kind_text, atom_text}
use Rattle.survive.specs.Survive.{survives}
use Rattle.survive.proofs.Checked.{below}
use Rattle.survive.proofs.ReadBack.{survives_ranged, text_of}

-- the organic kinds, by one test
organic_some : (kind : ℕ → AtomKind) (limit : ℕ) → T (every_entry (λ n z. ltb 0 (length (kind_text (kind n)))) 0 (replicate limit 0)) → (n : ℕ) → n < limit → 0 < length (kind_text (kind n))
organic_some kind limit t n h = ltb→lt 0 (length (kind_text (kind n))) (below (λ n. ltb 0 (length (kind_text (kind n)))) limit t n h)

kind_some : (k : AtomKind) → in_range k ≡ true → 0 < length (kind_text k)
unfolding kind_text name_text names organic_symbols bracket_text
kind_some Star e = lit< tt
kind_some (Aliphatic n) e = organic_some (λ n. Aliphatic n) aliphatic_count tt n (good (Aliphatic n) e)
kind_some (Aromatic n) e = organic_some (λ n. Aromatic n) aromatic_count tt n (good (Aromatic n) e)
kind_some (Bracket b) e = omega arith

pub some : (k : AtomKind) → survives k ≡ true → 0 < length (atom_text k)
some k ok = rw (text_of k (survives_ranged k ok)) (kind_some k (survives_ranged k ok))
