-- Tables in which the judge finds nothing bad: their atoms hold as many entries as there are. Assumes nothing.
use Prim.Native.Nat.{ℕ, zero, suc, ◌+◌, ◌-◌, ◌≤◌, ◌<◌}
use mathlib.Core.Path.{◌≡◌, refl}
use mathlib.Core.List.{List}
use native.Mathlib.Omega.{arith}
use native.Mathlib.Numerals.{add-one}
use lib.Dec.{ltb, leb}
use borrow.Author.Tests.{ltb-false, leb-false}
use Rattle.std.specs.Prelude.{Err, None, Ok, Option, Result, Some}
use Rattle.packing.specs.Words.{is_atom}
use Rattle.table_check.specs.Judge.{bond_stands, atoms_from, first_bad_bond, after, after_atoms, bad_record}
use Rattle.walk_entry.specs.Graph.{Graph, graph}
use Rattle.walk_laws.specs.Trek.{degrees}
use Rattle.feature.proofs.Cases.{by_test, impossible}
use Rattle.table.specs.Records.{degree_in}

-- what the judge says of the atoms below n: the first bad one is one of them, or they hold no more than m entries
Says : Graph → ℕ → ℕ → Result ℕ ℕ → Type 0
Says g m n (Err a) = a < n
Says g m n (Ok held) = (held ≡ degrees g n) × (held ≤ m)

one_more : (g : Graph) (a : ℕ) → degrees g (a + 1) ≡ degrees g a + degree_in g.atoms a
unfolding degrees
one_more g a = rw add-one refl

atoms_say : (g : Graph) (m k a held : ℕ) → held ≡ degrees g a → held ≤ m → Says g m (a + k) (atoms_from g.atoms m k a held)
unfolding atoms_from Says degrees
atoms_say g m zero a held e h = let z : a + 0 ≡ a = omega arith in rw z (e, h)
atoms_say g m (suc k) a held e h =
    let z : a + suc k ≡ a + 1 + k = omega arith in
    let bad : a < a + suc k = omega arith in
    by_test (Says g m (a + suc k)) (ltb (m - held) (degree_in g.atoms a)) (λ q. bad)
    (λ q. by_test (Says g m (a + suc k)) (is_atom g.atoms a)
    (λ y. rw z (atoms_say g m k (a + 1) (held + degree_in g.atoms a) (omega (arith, one_more g a)) (omega (arith, ltb-false (m - held) (degree_in g.atoms a) q))))
    (λ y. bad))

-- no entry is bad only where each is held
bonds_held : (bonds : List ℕ) (held k e : ℕ) → e ≤ held → first_bad_bond bonds held k e ≡ None → e + k ≤ held
unfolding first_bad_bond
bonds_held bonds held zero e h = λ q. omega arith
bonds_held bonds held (suc k) e h =
    by_test (λ (x : Option ℕ). x ≡ None → e + suc k ≤ held) (leb held e) (λ q z. impossible cc)
    (λ q. by_test (λ (x : Option ℕ). x ≡ None → e + suc k ≤ held) (bond_stands bonds e)
    (λ y z. omega (arith, bonds_held bonds held k (e + 1) (omega (arith, leb-false held e q)) z)) (λ y z. impossible cc))

after_none : (n : ℕ) (x : Option ℕ) → after n x ≡ None → x ≡ None
after_none n None e = refl
after_none n (Some a) e = absurd (let y : Some (n + a) ≡ None = e in impossible cc)

after_say : (g : Graph) (n m : ℕ) (bonds : List ℕ) (x : Result ℕ ℕ) → Says g m n x → after_atoms x bonds n m ≡ None → degrees g n ≡ m
unfolding after_atoms Says
after_say g n m bonds (Err a) s e = absurd (let y : Some a ≡ None = e in impossible cc)
after_say g n m bonds (Ok held) s e = omega (arith, s.0, s.1, bonds_held bonds held m 0 (omega arith) (after_none n (first_bad_bond bonds held m 0) e))

pub judged_degrees : (n m : ℕ) (atoms bonds first : List ℕ) → bad_record atoms n bonds m ≡ None → degrees (graph n atoms bonds first) n ≡ m
unfolding bad_record degrees
judged_degrees n m atoms bonds first e =
    let z : 0 + n ≡ n = omega arith in
    after_say (graph n atoms bonds first) n m bonds (atoms_from atoms m n 0 0) (rw z at (atoms_say (graph n atoms bonds first) m n 0 0 refl (omega arith))) e

-- So they hold no more than these where the judge finds nothing bad.
pub judged_few : (n m : ℕ) (atoms bonds first : List ℕ) → bad_record atoms n bonds m ≡ None → degrees (graph n atoms bonds first) n ≤ m
judged_few n m atoms bonds first e = omega (arith, judged_degrees n m atoms bonds first e)
