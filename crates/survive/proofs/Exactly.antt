-- An atom that survives passes the test: of its fields read back in their order, each is one that survives. Assumes nothing.
use Prim.Native.Nat.{ℕ, ◌+◌}
use mathlib.Core.Path.{◌≡◌, refl, subst}
use mathlib.Core.List.{List, []}
use mathlib.Core.Bool.{true}
use lib.ListN.{length, drop}
use Rattle.feature.specs.Text.{byte}
use Rattle.feature.specs.Kinds.{bracket_in_range, in_range}
use Rattle.feature.proofs.Ranges.{good}
use Rattle.feature.specs.declared.atom_kind.BracketAtom.{BracketAtom}
use Rattle.feature.specs.declared.atom_kind.AtomKind.{AtomKind}
use Rattle.feature.specs.declared.atom_kind.AtomKind.TheVariants.{Star, Aliphatic, Aromatic, Bracket}
use Rattle.std.specs.Prelude.{Err, None, Ok, Some}
use Rattle.read_token.specs.Scan.{Found}
use Rattle.read_token.specs.Scan.{peek_at, inside_at, bracket_at, aromatic_of, aliphatic_of, organic_at, star_at, or_else, other_at, atom_at}
use Rattle.spell.specs.Spell.{bracket_text, kind_text}
use Rattle.survive.specs.Survive.{fields_survive, survives, Survives}
use Rattle.survive.proofs.Field.{only}
use Rattle.survive.proofs.Bracketed.{Bracketed, bracketed, from_isotope}
use Rattle.survive.proofs.ReadBack.{text_of}
use Rattle.survive.proofs.Inside.{Inside, inside_read}

-- a bracket's text and what was read of it: its fields survive
fields_survive_lem : (s : List ℕ) (n : ℕ) (b : BracketAtom) (k : ℕ) → Bracketed s n b → Inside s n b k → fields_survive b ≡ true
unfolding fields_survive
fields_survive_lem s n b k h r =
    let i = only h.isotope r.isotope in
    let y = only h.symbol (rw i.1 at r.symbol) in
    let c = only h.configuration (rw y.1 at r.configuration) in
    let d = only h.hydrogens (rw c.1 at r.hydrogens) in
    let q = only h.charge (rw d.1 at r.charge) in
    simp (y.0, c.0, d.0, q.0)

-- what is read from "[" on is what is read after it
bracket_read : (s : List ℕ) (n : ℕ) (b : BracketAtom) (k : ℕ) → peek_at s n ≡ byte "[" → atom_at s n ≡ Ok (Some (Bracket b, k)) → inside_at s (n + 1) ≡ Ok (Some (Bracket b, k))
unfolding atom_at organic_at aromatic_of aliphatic_of other_at bracket_at star_at or_else
bracket_read s n b k z e = split (inside_at s (n + 1)) (simp z at e) where
  split : (f : Found) → or_else f (Ok None) ≡ Ok (Some (Bracket b, k)) → f ≡ Ok (Some (Bracket b, k))
  split (Ok (Some (j, m))) e = e
  split (Ok None) e = e
  split (Err m) e = e

bracket_exactly : (b : BracketAtom) (k : ℕ) → bracket_in_range b ≡ true → atom_at (bracket_text b) 0 ≡ Ok (Some (Bracket b, k)) → fields_survive b ≡ true
unfolding in_range bracket_text peek_at
bracket_exactly b k ok e =
    let s = bracket_text b in
    let t : drop 1 s ≡ from_isotope b [] = refl in
    let h = bracketed s 1 b [] (good (Bracket b) ok) t in
    let r = inside_read s 1 (Bracket b) k (bracket_read s 0 b k refl e) in
    let same : r.atom ≡ b = cc r.is in
    fields_survive_lem s 1 b k h (subst (λ (d : BracketAtom). Inside s 1 d k) same r.inside)

-- an atom in range that survives passes the test: with `alone`, a kind in range survives exactly if the test says so
pub exactly : (k : AtomKind) → in_range k ≡ true → Survives k → survives k ≡ true
unfolding survives in_range kind_text
exactly Star r e = refl
exactly (Aliphatic n) r e = r
exactly (Aromatic n) r e = r
exactly (Bracket b) r e =
    let f = bracket_exactly b (length (bracket_text b)) r (rw (text_of (Bracket b) r) at e) in
    simp (r, f)
