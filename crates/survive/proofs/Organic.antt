-- An organic atom's text is read back wherever it is. Assumes nothing.
use Prim.Native.Nat.{ℕ, zero, suc, ◌+◌, ◌<◌}
use mathlib.Core.Path.{◌≡◌, refl, ◌∙◌, ap, sym, subst}
use mathlib.Core.List.{List, [], ◌∷◌, ◌++◌}
use mathlib.Core.Bool.{Bool, true, false}
use native.Mathlib.Omega.{arith}
use native.Mathlib.Nat.{add_assoc, add-zero}
use lib.ListN.{length, drop, length-drop}
use lib.Dec.{ltb, eqb}
use borrow.Author.Tests.{lt-ltb, le-ltb, ltb-true, ltb-false}
use Rattle.feature.specs.Pick.{either, neither}
use Rattle.feature.specs.Text.{byte}
use Rattle.feature.specs.Names.{names}
use Rattle.feature.specs.Kinds.{aliphatic_count, aromatic_count}
use Rattle.feature.specs.declared.atom_kind.AtomKind.{AtomKind}
use Rattle.feature.specs.declared.atom_kind.AtomKind.TheVariants.{Aliphatic, Aromatic}
use Rattle.feature.proofs.Cases.{impossible}
use Rattle.read_token.specs.declared.scanner.Missing.{Missing}
use Rattle.read_token.specs.declared.scanner.Missing.TheVariants.{EndOfLine, Character}
use Rattle.std.specs.Prelude.{Err, None, Ok, Some}
use Rattle.read_token.specs.Scan.{Found}
use Rattle.read_token.specs.Scan.{peek_at, missing_at, aromatic_of, aliphatic_of, wanted_at, optional_at, organic_at}
use Rattle.spell.specs.Spell.{name_text, organic_symbols, kind_text}
use Rattle.survive.specs.Survive.{can_follow}
use Rattle.survive.proofs.Shift.{through, peek_shift}

-- ---- what is read, n bytes further on
missed : ℕ → Missing → Missing
missed n EndOfLine = EndOfLine
missed n (Character k) = Character (n + k)

moved : ℕ → Found → Found
moved n (Ok (Some (k, j))) = Ok (Some (k, n + j))
moved n (Ok None) = (Ok None)
moved n (Err m) = Err (missed n m)

moved_atom : (n : ℕ) (k : AtomKind) (j : ℕ) → moved n (Ok (Some (k, j))) ≡ Ok (Some (k, n + j))
unfolding moved
moved_atom n k j = refl

moved_nothing : (n : ℕ) → moved n (Ok None) ≡ (Ok None)
unfolding moved
moved_nothing n = refl

moved_lacks : (n : ℕ) (m : Missing) → moved n (Err m) ≡ Err (missed n m)
unfolding moved
moved_lacks n m = refl

module _ (s : List ℕ) (n : ℕ) where
  within_shift : (j : ℕ) → ltb (n + j) (length s) ≡ ltb j (length (drop n s))
  within_shift j = split (ltb j (length (drop n s))) refl where
    split : (q : Bool) → ltb j (length (drop n s)) ≡ q → ltb (n + j) (length s) ≡ q
    split true e = lt-ltb (n + j) (length s) (omega (arith, ltb-true j (length (drop n s)) e, length-drop n s))
    split false e = le-ltb (n + j) (length s) (omega (arith, ltb-false j (length (drop n s)) e, length-drop n s))

  missing_shift : (j : ℕ) → missing_at s (n + j) ≡ missed n (missing_at (drop n s) j)
  unfolding missing_at missed
  missing_shift j = simp (within_shift, through (missed n))

  organic_shift : (j : ℕ) → organic_at s (n + j) ≡ moved n (organic_at (drop n s) j)
  unfolding organic_at wanted_at optional_at
  organic_shift j =
      simp (add_assoc, peek_shift, missing_shift, through (moved n), moved_atom, moved_nothing, moved_lacks)

-- ---- a statement of each number below n, from the last to the first
abbrev Each : (ℕ → Type 0) → ℕ → Type 0
Each P zero = Unit {0}
Each P (suc n) = P n × Each P n

each_at : (P : ℕ → Type 0) (n : ℕ) → Each P n → (k : ℕ) → k < n → P k
each_at P zero p k h = absurd (omega arith)
each_at P (suc n) p k h = split (ltb k n) refl (each_at P n p.1 k) where
  split : (q : Bool) → ltb k n ≡ q → (k < n → P k) → P k
  split true e ih = ih (ltb-true k n e)
  split false e ih =
      let same : n ≡ k = omega (arith, ltb-false k n e) in
      subst P same p.0

-- what may follow is no second letter
follows : (rest : List ℕ) → can_follow rest ≡ true → (eqb (peek_at rest 0) (byte "l") ≡ false) × (eqb (peek_at rest 0) (byte "r") ≡ false)
unfolding can_follow peek_at
follows [] e = (refl, refl)
follows (x ∷ rest) e = split (eqb x (byte "l")) (eqb x (byte "r")) e where
  split : (a b : Bool) → neither (either a b) ≡ true → (a ≡ false) × (b ≡ false)
  split true b e = impossible cc
  split false true e = impossible cc
  split false false e = (refl, refl)

module _ (rest : List ℕ) where
  abbrev Reads : AtomKind → Type 0
  Reads k = organic_at (kind_text k ++ rest) 0 ≡ Ok (Some (k, length (kind_text k)))

  -- B and C are the last two: what follows is no second letter of theirs
  aliphatic_reads : can_follow rest ≡ true → Each (λ n. Reads (Aliphatic n)) aliphatic_count
  unfolding organic_at wanted_at optional_at aromatic_of aliphatic_of peek_at kind_text organic_symbols name_text names
  aliphatic_reads c =
      let f = follows rest c in
      (refl, (refl, (refl, (refl, (refl, (refl, (refl, (refl, (refl, (refl, (rw f.0, (rw f.1, tt))))))))))))

  aromatic_reads : Each (λ n. Reads (Aromatic n)) aromatic_count
  unfolding organic_at aromatic_of peek_at kind_text organic_symbols name_text names
  aromatic_reads = (refl, (refl, (refl, (refl, (refl, (refl, tt))))))

  -- from what is read of the text to what is read where it is
  stands : (s : List ℕ) (n : ℕ) (k : AtomKind) → Reads k → drop n s ≡ kind_text k ++ rest → organic_at s n ≡ Ok (Some (k, n + length (kind_text k)))
  stands s n k r e =
      ap (λ (m : ℕ). organic_at s m) (sym (add-zero n)) ∙ organic_shift s n 0 ∙ ap (λ (l : List ℕ). moved n (organic_at l 0)) e ∙ ap (moved n) r
      ∙ moved_atom n k (length (kind_text k))

  pub aliphatic_back : (s : List ℕ) (n m : ℕ) → m < aliphatic_count → can_follow rest ≡ true → drop n s ≡ kind_text (Aliphatic m) ++ rest → organic_at s n ≡ Ok (Some (Aliphatic m, n + length (kind_text (Aliphatic m))))
  aliphatic_back s n m l c e =
      stands s n (Aliphatic m) (each_at (λ m. Reads (Aliphatic m)) aliphatic_count (aliphatic_reads c) m l) e

  pub aromatic_back : (s : List ℕ) (n m : ℕ) → m < aromatic_count → drop n s ≡ kind_text (Aromatic m) ++ rest → organic_at s n ≡ Ok (Some (Aromatic m, n + length (kind_text (Aromatic m))))
  aromatic_back s n m l e =
      stands s n (Aromatic m) (each_at (λ m. Reads (Aromatic m)) aromatic_count aromatic_reads m l) e
