-- Two results that meet the promise of a builder's call are equal: a line for each event, and the build, whose answer is settled by
-- its number and what it carries. Assumes nothing.
use Prim.Native.Nat.{ℕ}
use mathlib.Core.Path.{◌≡◌, refl}
use mathlib.Core.List.{List}
use lib.ListN.{get_or}
use lib.Dec.{eqb}
use Rattle.feature.specs.Pick.{pick}
use Rattle.feature.specs.declared.atom_kind.AtomKind.{AtomKind}
use Rattle.feature.specs.declared.bond_kind.BondKind.{BondKind}
use Rattle.desk_numbers.specs.Numbers as desk
use Rattle.desk_numbers.proofs.One.{one_result, one_equal}
use Rattle.builder.specs.State.{Bld}
use Rattle.desk_builder.specs.Events.{root_d, extend_d, join_d, pop_d}
use Rattle.desk_builder.specs.Build.{BuildLeft, answer_leaves, build_d}
use Rattle.std.specs.Prelude as std
use Rattle.std.specs.Prelude.{Err, Ok}
use Rattle.desk_builder.specs.declared.calls.Refusal.TheVariants.{Join, BadTable, Rnum}
use Rattle.desk_builder.specs.declared.calls.Refusal.{Refusal}

-- ---- the events: the tables, and the builder's numbers with its refusal
pub one_root : (b : Bld) (k : AtomKind) (x y : Bld) → x ≡ root_d b k → y ≡ root_d b k → x ≡ y
one_root b k = one_equal (root_d b k)

pub one_extend : (b : Bld) (e : BondKind) (k : AtomKind) (x y : Bld) → x ≡ extend_d b e k → y ≡ extend_d b e k → x ≡ y
one_extend b e k = one_equal (extend_d b e k)

pub one_join : (b : Bld) (e : BondKind) (n : ℕ) (x y : Bld) → x ≡ join_d b e n → y ≡ join_d b e n → x ≡ y
one_join b e n = one_equal (join_d b e n)

pub one_pop : (b : Bld) (n : ℕ) (x y : Bld) → x ≡ pop_d b n → y ≡ pop_d b n → x ≡ y
one_pop b n = one_equal (pop_d b n)

-- ---- the build: its answer, and both tables
pub record Result : Type 0 where
  pub answer : std.Result (ℕ × ℕ) Refusal
  pub atoms : List ℕ
  pub bonds : List ℕ

abbrev result : std.Result (ℕ × ℕ) Refusal → List ℕ → List ℕ → Result
result r a b = record { answer = r; atoms = a; bonds = b }

abbrev said : Result → BuildLeft
said x = answer_leaves x.answer x.atoms x.bonds

-- the answer with a number and what it carries
abbrev answer_to : BuildLeft → std.Result (ℕ × ℕ) Refusal
answer_to l =
    pick (eqb l.number desk.done) (Ok (get_or l.carries 0 0, get_or l.carries 1 0))
    (pick (eqb l.number desk.join) (Err (Join (get_or l.carries 0 0) (get_or l.carries 1 0)))
    (pick (eqb l.number desk.rnum) (Err (Rnum (get_or l.carries 0 0)))
    (Err BadTable)))

abbrev meant : BuildLeft → Result
meant l = result (answer_to l) l.atoms l.bonds

back : (r : std.Result (ℕ × ℕ) Refusal) (a b : List ℕ) → meant (answer_leaves r a b) ≡ result r a b
unfolding answer_leaves
back (Ok (n, m)) a b = refl
back (Err (Join x y)) a b = refl
back (Err (Rnum j)) a b = refl
back (Err BadTable) a b = refl

pub one_build : (b : Bld) (bonds : List ℕ) (x y : Result) → said x ≡ build_d b bonds → said y ≡ build_d b bonds → x ≡ y
one_build b bonds = one_result said meant (λ x. back x.answer x.atoms x.bonds) (build_d b bonds)
