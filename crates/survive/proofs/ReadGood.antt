-- Whatever is read as an atom is one: its numbers are in range, and it ends within the line. Assumes nothing.
use Prim.Native.Nat.{ℕ, ◌+◌, ◌*◌, ◌<◌, ◌≤◌}
use mathlib.Core.Path.{◌≡◌, refl, subst}
use mathlib.Core.Logic.{◌↔◌}
use mathlib.Core.List.{List}
use mathlib.Core.Bool.{true}
use native.Mathlib.Omega.{arith}
use lib.ListN.{length}
use lib.Dec.{ltb, eqb, lit<, lit≤}
use borrow.Author.Tests.{ltb-true, ltb-false}
use Rattle.feature.specs.Text.{byte, one_letter, two_letters}
use Rattle.feature.specs.Names.{symbols, names, place_of, begins}
use Rattle.feature.specs.Kinds.{aliphatic_count, aromatic_count, no_configuration, al, sp, tb, oh, configurations, in_range}
use Rattle.feature.specs.Steps.{Within, GoodKind}
use Rattle.feature.proofs.Ranges.{ranged}
use Rattle.feature.specs.declared.atom_kind.BracketAtom.{BracketAtom}
use Rattle.feature.specs.declared.atom_kind.AtomKind.{AtomKind}
use Rattle.feature.proofs.Cases.{by_test}
use Rattle.read_token.specs.declared.scanner.Part.{Part}
use Rattle.std.specs.Prelude.{Err, None, Ok, Some}
use Rattle.read_token.specs.Scan.{Step}
use Rattle.read_token.specs.Scan.{Found}
use Rattle.read_token.specs.Scan.{no_byte, part, peek_at, digit_at, digit_step, number_at, isotope_at, slip, symbol_at, symbol_of, short_at, long_at, allene_at, octahedral_at, square_at, trigonal_at, configuration_at, hydrogens_at, fifteen_at, signed_at, charge_at, map_at, inside_at, bracket_at, aromatic_of, aliphatic_of, wanted_at, optional_at, organic_at, star_at, or_else, other_at, atom_at}
use Rattle.spell.specs.Spell.{atom_text}
use Rattle.survive.specs.Survive.{survives, Survives}
use Rattle.read_token.proofs.Within.{digit_most, atom_in}
use Rattle.survive.proofs.ReadBack.{alone}
use Rattle.survive.proofs.Exactly.{exactly}
use Rattle.survive.proofs.Inside.{Inside, inside_read}

-- what a reader got is below a limit
abbrev Below : ℕ → Step → Type 0
Below limit (Ok (v, n)) = v < limit
Below limit (Err p) = Unit {0}

-- ---- numbers
-- the same of a reader that always finds something
abbrev Under : ℕ → Part ℕ → Type 0
Under limit p = p.value < limit

digit_under : (s : List ℕ) (limit : ℕ) (p : Part ℕ) → Under limit p → Under (limit * 10) (digit_step s p)
unfolding digit_step
digit_under s limit p h =
    by_test (Under (limit * 10)) (ltb (digit_at s p.next) 10)
    (λ e. omega (arith, ltb-true (digit_at s p.next) 10 e)) (λ e. omega arith)

number_under : (s : List ℕ) (at : ℕ) → Under 1000 (number_at s at)
unfolding number_at
number_under s at =
    let p0 = part 0 at in
    let p1 = digit_step s p0 in
    let p2 = digit_step s p1 in
    digit_under s 100 p2 (digit_under s 10 p1 (digit_under s 1 p0 (lit< tt)))

isotope_under : (s : List ℕ) (at : ℕ) → Under 1001 (isotope_at s at)
unfolding isotope_at
isotope_under s at =
    by_test (Under 1001) (eqb (number_at s at).next at) (λ e. lit< tt) (λ e. omega (arith, number_under s at))

map_below : (s : List ℕ) (at : ℕ) → Below 1001 (map_at s at)
unfolding map_at
map_below s at =
    by_test (Below 1001) (eqb (peek_at s at) (byte ":"))
    (λ e. by_test (Below 1001) (eqb (number_at s (at + 1)).next (at + 1)) (λ e. tt) (λ e. omega (arith, number_under s (at + 1))))
    (λ e. lit< tt)

-- ---- symbol
symbol_below : (s : List ℕ) (at : ℕ) → Below symbols (symbol_at s at)
unfolding symbol_at symbol_of
symbol_below s at =
    let two = place_of (two_letters (peek_at s at) (peek_at s (at + 1))) names in
    let one = place_of (one_letter (slip (peek_at s at))) names in
    by_test (Below symbols) (eqb (peek_at s at) no_byte) (λ e. tt)
    (λ e. by_test (Below symbols) (ltb two symbols) (ltb-true two symbols)
    (λ e. by_test (Below symbols) (ltb one symbols) (ltb-true one symbols)
    (λ e. by_test (Below symbols) (begins (peek_at s at) names) (λ e. tt) (λ e. tt))))

-- ---- configuration
short_below : (s : List ℕ) (at base top : ℕ) → base + top < configurations → Below configurations (short_at s at base top)
unfolding short_at
short_below s at base top h =
    by_test (Below configurations) (eqb (digit_at s at) 0) (λ e. tt)
    (λ e. by_test (Below configurations) (ltb top (digit_at s at)) (λ e. tt) (λ e. omega (arith, ltb-false top (digit_at s at) e)))

long_below : (s : List ℕ) (at base top : ℕ) → base + top < configurations → 10 ≤ top → Below configurations (long_at s at base top)
unfolding long_at
long_below s at base top h l =
    let d = digit_at s at in
    let d2 = digit_at s (at + 1) in
    by_test (Below configurations) (eqb d 0) (λ e. tt)
    (λ e. by_test (Below configurations) (eqb d 10) (λ e. tt)
    (λ e. by_test (Below configurations) (eqb d2 10) (λ e. omega (arith, digit_most s at))
    (λ e. by_test (Below configurations) (ltb top (d * 10 + d2)) (λ e. omega (arith, digit_most s at))
    (λ e. omega (arith, ltb-false top (d * 10 + d2) e)))))

configuration_below : (s : List ℕ) (at : ℕ) → Below configurations (configuration_at s at)
unfolding configuration_at allene_at octahedral_at square_at trigonal_at
configuration_below s at =
    let P = Below configurations in
    let b = peek_at s (at + 1) in
    let c = peek_at s (at + 2) in
    by_test P (eqb (peek_at s at) (byte "@"))
    (λ e. by_test P (eqb b (byte "@")) (λ e. lit< tt)
    (λ e. by_test P (eqb b (byte "A")) (λ e. by_test P (eqb c (byte "L")) (λ e. short_below s (at + 2 + 1) al 2 (lit< tt)) (λ e. tt))
    (λ e. by_test P (eqb b (byte "O")) (λ e. by_test P (eqb c (byte "H")) (λ e. long_below s (at + 2 + 1) oh 30 (lit< tt) (lit≤ tt)) (λ e. tt))
    (λ e. by_test P (eqb b (byte "S")) (λ e. by_test P (eqb c (byte "P")) (λ e. short_below s (at + 2 + 1) sp 3 (lit< tt)) (λ e. tt))
    (λ e. by_test P (eqb b (byte "T"))
    (λ e. by_test P (eqb c (byte "B")) (λ e. long_below s (at + 2 + 1) tb 20 (lit< tt) (lit≤ tt))
    (λ e. by_test P (eqb c (byte "H")) (λ e. short_below s (at + 2 + 1) no_configuration 2 (lit< tt)) (λ e. tt)))
    (λ e. lit< tt))))))
    (λ e. lit< tt)

-- ---- hydrogens and charge
hydrogens_under : (s : List ℕ) (at : ℕ) → Under 11 (hydrogens_at s at)
unfolding hydrogens_at
hydrogens_under s at =
    let d = digit_at s (at + 1) in
    by_test (Under 11) (eqb (peek_at s at) (byte "H"))
    (λ e. by_test (Under 11) (ltb d 10) (λ e. omega (arith, ltb-true d 10 e)) (λ e. lit< tt)) (λ e. lit< tt)

fifteen_under : (s : List ℕ) (at : ℕ) → Under 16 (fifteen_at s at)
unfolding fifteen_at
fifteen_under s at =
    let d = digit_at s at in
    let d2 = digit_at s (at + 1) in
    by_test (Under 16) (eqb d 0) (λ e. lit< tt)
    (λ e. by_test (Under 16) (eqb d 10) (λ e. lit< tt)
    (λ e. by_test (Under 16) (ltb 1 d) (λ e. omega (arith, digit_most s at))
    (λ e. by_test (Under 16) (eqb d2 0) (λ e. lit< tt)
    (λ e. by_test (Under 16) (ltb 5 d2) (λ e. lit< tt) (λ e. omega (arith, ltb-false 5 d2 e))))))

signed_under : (s : List ℕ) (sign at : ℕ) → Under 16 (signed_at s sign at)
unfolding signed_at
signed_under s sign at =
    by_test (Under 16) (ltb 0 (fifteen_at s at).value) (λ e. fifteen_under s at)
    (λ e. by_test (Under 16) (eqb (peek_at s at) sign) (λ e. lit< tt) (λ e. lit< tt))

charge_under : (s : List ℕ) (at : ℕ) → Under 32 (charge_at s at)
unfolding charge_at
charge_under s at =
    by_test (Under 32) (eqb (peek_at s at) (byte "+")) (λ e. omega (arith, signed_under s (byte "+") (at + 1)))
    (λ e. by_test (Under 32) (eqb (peek_at s at) (byte "-")) (λ e. omega arith) (λ e. lit< tt))

-- ---- atoms
-- what was found is in range
abbrev Ranged : Found → Type 0
Ranged (Ok (Some (k, n))) = GoodKind k
Ranged (Ok None) = Unit {0}
Ranged (Err m) = Unit {0}

inside_within : (s : List ℕ) (at : ℕ) (b : BracketAtom) (n : ℕ) → Inside s at b n → Within b
inside_within s at b n r =
    let i = subst (Below 1001) r.isotope (isotope_under s at) in
    let h = subst (Below 11) r.hydrogens (hydrogens_under s r.e3) in
    let q = subst (Below 32) r.charge (charge_under s r.e4) in
    let m = subst (Below 1001) r.map (map_below s r.e5) in
    record {
      isotope = omega arith;
      symbol = subst (Below symbols) r.symbol (symbol_below s r.e1);
      configuration = subst (Below configurations) r.configuration (configuration_below s r.e2);
      hydrogens = omega arith;
      charge = omega arith;
      map = omega arith;
    }

inside_ranged : (s : List ℕ) (at : ℕ) → Ranged (inside_at s at)
inside_ranged s at = split (inside_at s at) refl where
  split : (f : Found) → inside_at s at ≡ f → Ranged f
  split (Ok (Some (k, n))) e =
      let r = inside_read s at k n e in
      subst GoodKind r.is (inside_within s at r.atom n r.inside)
  split (Ok None) e = tt
  split (Err m) e = tt

wanted_ranged : (s : List ℕ) (at x two : ℕ) → two < aliphatic_count → Ranged (wanted_at s at x two)
unfolding wanted_at
wanted_ranged s at x two h = by_test Ranged (eqb (peek_at s at) x) (λ e. h) (λ e. tt)

optional_ranged : (s : List ℕ) (at x two one : ℕ) → two < aliphatic_count → one < aliphatic_count → Ranged (optional_at s at x two one)
unfolding optional_at
optional_ranged s at x two one h l = by_test Ranged (eqb (peek_at s at) x) (λ e. h) (λ e. l)

organic_ranged : (s : List ℕ) (at : ℕ) → Ranged (organic_at s at)
unfolding organic_at
organic_ranged s at =
    let x = peek_at s at in
    by_test Ranged (eqb x no_byte) (λ e. tt)
    (λ e. by_test Ranged (eqb x (byte "C")) (λ e. optional_ranged s (at + 1) (byte "l") 7 1 (lit< tt) (lit< tt))
    (λ e. by_test Ranged (ltb (aromatic_of x) aromatic_count) (ltb-true (aromatic_of x) aromatic_count)
    (λ e. by_test Ranged (ltb (aliphatic_of x) aliphatic_count) (ltb-true (aliphatic_of x) aliphatic_count)
    (λ e. by_test Ranged (eqb x (byte "B")) (λ e. optional_ranged s (at + 1) (byte "r") 8 0 (lit< tt) (lit< tt))
    (λ e. by_test Ranged (eqb x (byte "A")) (λ e. wanted_ranged s (at + 1) (byte "t") 10 (lit< tt))
    (λ e. by_test Ranged (eqb x (byte "T")) (λ e. wanted_ranged s (at + 1) (byte "s") 11 (lit< tt)) (λ e. tt)))))))

first_ranged : (f g : Found) → Ranged f → Ranged g → Ranged (or_else f g)
unfolding or_else
first_ranged (Ok (Some (k, n))) g a b = a
first_ranged (Ok None) g a b = b
first_ranged (Err m) g a b = tt

atom_ranged : (s : List ℕ) (at : ℕ) → Ranged (atom_at s at)
unfolding atom_at other_at bracket_at star_at
atom_ranged s at =
    let bracketed = by_test Ranged (eqb (peek_at s at) (byte "[")) (λ e. inside_ranged s (at + 1)) (λ e. tt) in
    let star = by_test Ranged (eqb (peek_at s at) (byte "*")) (λ e. tt) (λ e. tt) in
    first_ranged (organic_at s at) (other_at s at) (organic_ranged s at) (first_ranged (bracket_at s at) (star_at s at) bracketed star)

-- whatever is read as an atom is in range, and is followed by a later place that is within the line
pub read_good : (s : List ℕ) (at : ℕ) (k : AtomKind) (n : ℕ) → atom_at s at ≡ Ok (Some (k, n)) → (in_range k ≡ true) × (at < n) × (n ≤ length s)
read_good s at k n e =
    let p = atom_in s at e in
    (ranged k (subst Ranged e (atom_ranged s at)), p.0, p.1)

-- so the test needs no word on ranges: a kind survives exactly if it passes
pub survival : (k : AtomKind) → (survives k ≡ true) ↔ Survives k
survival k = (alone k, λ e. exactly k (read_good (atom_text k) 0 k (length (atom_text k)) e).0 e)
