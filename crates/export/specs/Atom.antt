-- One atom as text, both ways, and the text of a bond and of a ring number, for other languages. Words that stand for no atom,
-- numbers that stand for no bond and fewer than two words lent for a kind are answered 17, carrying 0. After 16 and 17 the
-- output is all zeros, and after a refused reading so are the words lent for a kind; after another the words beyond the
-- kind's own are.
use Rattle.std.specs.Prelude.{ℕ, List, [], ◌∷◌, length, ltb}
use Rattle.std.proofs.lemmas.List.Edits.{sets}
use Rattle.feature.specs.Pick.{pick}
use Rattle.feature.specs.declared.atom_kind.AtomKind.{AtomKind}
use Rattle.feature.specs.Bonds.{kind_of}
use Rattle.packing.specs.Words.{pair, listed, words_of, load_of}
use Rattle.packing.specs.declared.Pair.{Pair}
use Rattle.spell.specs.Spell.{bond_text}
use Rattle.table.specs.Zeros.{zeros}
use Rattle.desk_atom.specs.Texts.{AtomTold, Spells, first_atom, texted, atom_d}
use Rattle.export.specs.Given.{on_atom, on_bond}
use Rattle.desk_report.specs.Report.{bad, telling, laid_into}

-- ---- reading
-- a kind's words and a report
pub record Reading : Type 0 where
  pub kind : List ℕ
  pub report : List ℕ

abbrev pub reading : List ℕ → List ℕ → Reading
reading k t = record { kind = k; report = t }

-- how many words a kind has
abbrev pub kind_size : ℕ
kind_size = 2

-- the words of the kind that was read, or zeros
unfoldable pub read_kind_words : List AtomKind → Pair
read_kind_words [] = pair 0 0
read_kind_words (k ∷ ks) = words_of k

-- what a reading leaves: the kind's words, or zeros, and zeros after them
unfoldable pub taken : Reading → AtomTold → Reading
taken c r =
    reading (sets (zeros (length c.kind)) 0 (listed (read_kind_words r.kinds))) (laid_into c.report (telling r.told))

-- 17 where there is no room for a kind
unfoldable pub read_atom_x : Reading → List ℕ → Reading
read_atom_x c text =
    pick (ltb (length c.kind) kind_size) (reading (zeros (length c.kind)) (laid_into c.report bad))
    (taken c (first_atom text))

-- ---- spelling
-- an output and a report
pub record Spelling : Type 0 where
  pub out : List ℕ
  pub report : List ℕ

abbrev pub spelling : List ℕ → List ℕ → Spelling
spelling o t = record { out = o; report = t }

-- what a text leaves
unfoldable pub text_reported : List ℕ → Spells → Spelling
text_reported t s = spelling s.out (laid_into t (telling s.told))

-- 17, and zeros
unfoldable pub spelling_unheard : Spelling → Spelling
spelling_unheard c = spelling (zeros (length c.out)) (laid_into c.report bad)

unfoldable pub atom_x : Spelling → ℕ → ℕ → Spelling
atom_x c first second =
    on_atom (load_of first second) (spelling_unheard c) (λ k. text_reported c.report (atom_d k (length c.out)))

unfoldable pub bond_x : Spelling → ℕ → Spelling
bond_x c bond =
    on_bond (kind_of bond) (spelling_unheard c) (λ k. text_reported c.report (texted (bond_text k) (length c.out)))
