-- Writing and then reading gives the atom back. Assumes nothing.
use Prim.Native.Nat.{ℕ, ◌+◌}
use mathlib.Core.Path.{◌≡◌, refl, ◌∙◌, ap}
use mathlib.Core.List.{List, [], ◌∷◌, ◌++◌, append_assoc, append-nil}
use mathlib.Core.Bool.{true}
use native.Mathlib.Omega.{arith}
use native.Mathlib.Nat.{zero-add}
use lib.ListN.{length, drop, length-append}
use Rattle.feature.specs.Text.{byte, bytes}
use Rattle.feature.specs.Kinds.{bracket_in_range, in_range}
use Rattle.feature.proofs.Ranges.{good}
use Rattle.feature.specs.declared.atom_kind.BracketAtom.{BracketAtom}
use Rattle.feature.specs.declared.atom_kind.AtomKind.{AtomKind}
use Rattle.feature.specs.declared.atom_kind.AtomKind.TheVariants.{Star, Aliphatic, Aromatic, Bracket}
use Rattle.feature.proofs.Cases.{both_true}
use Rattle.std.specs.Prelude.{Ok, Some}
use Rattle.read_token.specs.Scan.{peek_at, bracket_at, aromatic_of, aliphatic_of, organic_at, star_at, or_else, other_at, atom_at}
use Rattle.spell.specs.Spell.{bracket_text, kind_text, atom_text}
use Rattle.survive.specs.Survive.{fields_survive, survives, can_follow, Survives}
use Rattle.survive.proofs.Shift.{front, past}
use Rattle.survive.proofs.Bracketed.{from_isotope, bracketed, inside_back}
use Rattle.survive.proofs.Organic.{aliphatic_back, aromatic_back}

-- what passes the test is in range
pub survives_ranged : (k : AtomKind) → survives k ≡ true → in_range k ≡ true
unfolding survives in_range
survives_ranged Star e = refl
survives_ranged (Aliphatic n) e = e
survives_ranged (Aromatic n) e = e
survives_ranged (Bracket b) e = (both_true (bracket_in_range b) (fields_survive b) e).0

-- of a kind in range the text is all that the kind says
pub text_of : (k : AtomKind) → in_range k ≡ true → atom_text k ≡ kind_text k
unfolding atom_text
text_of k e = rw e

module _ (s : List ℕ) (n : ℕ) (rest : List ℕ) where
  bracket_kind : (b : BracketAtom) → survives (Bracket b) ≡ true → drop n s ≡ kind_text (Bracket b) ++ rest → atom_at s n ≡ Ok (Some (Bracket b, n + length (kind_text (Bracket b))))
  unfolding survives in_range kind_text bracket_text peek_at atom_at organic_at aromatic_of aliphatic_of other_at or_else bracket_at
  bracket_kind b ok e =
      let o = both_true (bracket_in_range b) (fields_survive b) ok in
      let e' : drop n s ≡ byte "[" ∷ from_isotope b rest = e ∙ simp append_assoc in
      let z : peek_at s n ≡ byte "[" = front s n e' in
      let i : drop (n + 1) s ≡ from_isotope b rest = past s n (bytes "[") (from_isotope b rest) e' in
      let r = inside_back s (n + 1) b (bracketed s (n + 1) b rest (good (Bracket b) o.0) i) o.1 in
      simp (z, r) (ap ((λ (place : ℕ). Ok (Some (Bracket b, place)))) (simp length-append (omega arith)))

  star_kind : drop n s ≡ kind_text Star ++ rest → atom_at s n ≡ Ok (Some (Star, n + length (kind_text Star)))
  unfolding kind_text peek_at atom_at organic_at aromatic_of aliphatic_of other_at or_else bracket_at star_at
  star_kind e =
      let z : peek_at s n ≡ byte "*" = front s n e in
      simp z

  organic_kind : (k : AtomKind) → organic_at s n ≡ Ok (Some (k, n + length (kind_text k))) → atom_at s n ≡ Ok (Some (k, n + length (kind_text k)))
  unfolding atom_at or_else
  organic_kind k r = rw r

  kind_back : (k : AtomKind) → survives k ≡ true → can_follow rest ≡ true → drop n s ≡ kind_text k ++ rest → atom_at s n ≡ Ok (Some (k, n + length (kind_text k)))
  kind_back Star ok c e = star_kind e
  kind_back (Aliphatic m) ok c e =
      organic_kind (Aliphatic m) (aliphatic_back rest s n m (good (Aliphatic m) (survives_ranged (Aliphatic m) ok)) c e)
  kind_back (Aromatic m) ok c e =
      organic_kind (Aromatic m) (aromatic_back rest s n m (good (Aromatic m) (survives_ranged (Aromatic m) ok)) e)
  kind_back (Bracket b) ok c e = bracket_kind b ok e

  -- the text of an atom that survives, at n of a line with nothing after it that changes its meaning, is read as
  -- the atom, and the place after it is the text's end
  pub read_back_at : (k : AtomKind) → survives k ≡ true → can_follow rest ≡ true → drop n s ≡ atom_text k ++ rest → atom_at s n ≡ Ok (Some (k, n + length (atom_text k)))
  read_back_at k ok c e =
      let t = text_of k (survives_ranged k ok) in
      rw t (kind_back k ok c (rw t at e))

  -- and a bracket atom's whatever follows
  pub bracket_back_at : (b : BracketAtom) → survives (Bracket b) ≡ true → drop n s ≡ atom_text (Bracket b) ++ rest → atom_at s n ≡ Ok (Some (Bracket b, n + length (atom_text (Bracket b))))
  bracket_back_at b ok e =
      let t = text_of (Bracket b) (survives_ranged (Bracket b) ok) in
      rw t (bracket_kind b ok (rw t at e))

-- the same at the start of a line
pub read_back : (k : AtomKind) (rest : List ℕ) → survives k ≡ true → can_follow rest ≡ true → atom_at (atom_text k ++ rest) 0 ≡ Ok (Some (k, length (atom_text k)))
read_back k rest ok c = read_back_at (atom_text k ++ rest) 0 rest k ok c refl ∙ ap ((λ (place : ℕ). Ok (Some (k, place)))) (zero-add (length (atom_text k)))

pub bracket_back : (b : BracketAtom) (rest : List ℕ) → survives (Bracket b) ≡ true → atom_at (atom_text (Bracket b) ++ rest) 0 ≡ Ok (Some (Bracket b, length (atom_text (Bracket b))))
bracket_back b rest ok =
    bracket_back_at (atom_text (Bracket b) ++ rest) 0 rest b ok refl ∙ ap ((λ (place : ℕ). Ok (Some (Bracket b, place)))) (zero-add (length (atom_text (Bracket b))))

-- an atom that passes the test survives
pub alone : (k : AtomKind) → survives k ≡ true → Survives k
unfolding can_follow
alone k ok = rw append-nil at (read_back k [] ok refl)
