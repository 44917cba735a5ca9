-- The test of a kind's ranges says the same as the facts. Assumes nothing.
use mathlib.Core.Path.{◌≡◌, refl}
use mathlib.Core.Bool.{Bool, true, false}
use lib.Dec.{ltb, leb}
use borrow.Author.Tests.{lt-ltb, le-ltb, lt-leb, ltb-true, ltb-false, leb-false}
use Rattle.feature.proofs.Cases.{impossible}
use Rattle.feature.specs.Pick.{pick}
use Rattle.feature.specs.Names.{symbols}
use Rattle.feature.specs.Kinds.{aliphatic_count, aromatic_count, no_number, no_hydrogens, no_charge, configurations, bracket_in_range, in_range}
use Rattle.feature.specs.Steps.{Within, GoodKind}
use Rattle.feature.specs.declared.atom_kind.BracketAtom.{BracketAtom}
use Rattle.feature.specs.declared.atom_kind.AtomKind.{AtomKind}
use Rattle.feature.specs.declared.atom_kind.AtomKind.TheVariants.{Star, Aliphatic, Aromatic, Bracket}

passes : (b : Bool) {c : Bool} → pick b false c ≡ true → (b ≡ false) × (c ≡ true)
passes true e = impossible cc
passes false e = (refl, e)

bracket_within : (b : BracketAtom) → bracket_in_range b ≡ true → Within b
unfolding bracket_in_range
bracket_within b e =
    let r1 = passes (ltb no_number b.isotope) e in
    let r2 = passes (leb symbols b.symbol) r1.1 in
    let r3 = passes (leb configurations b.configuration) r2.1 in
    let r4 = passes (ltb no_hydrogens b.hydrogens) r3.1 in
    let r5 = passes (ltb no_charge b.charge) r4.1 in
    let r6 = passes (ltb no_number b.map) r5.1 in
    record {
      isotope = ltb-false no_number b.isotope r1.0;
      symbol = leb-false symbols b.symbol r2.0;
      configuration = leb-false configurations b.configuration r3.0;
      hydrogens = ltb-false no_hydrogens b.hydrogens r4.0;
      charge = ltb-false no_charge b.charge r5.0;
      map = ltb-false no_number b.map r6.0;
    }

pub good : (k : AtomKind) → in_range k ≡ true → GoodKind k
unfolding in_range
good Star e = tt
good (Aliphatic n) e = ltb-true n aliphatic_count e
good (Aromatic n) e = ltb-true n aromatic_count e
good (Bracket b) e = bracket_within b e

pub ranged : (k : AtomKind) → GoodKind k → in_range k ≡ true
unfolding in_range bracket_in_range
ranged Star g = refl
ranged (Aliphatic n) g = lt-ltb n aliphatic_count g
ranged (Aromatic n) g = lt-ltb n aromatic_count g
ranged (Bracket b) g =
    simp
    (le-ltb no_number _ g.isotope, lt-leb symbols _ g.symbol, lt-leb configurations _ g.configuration, le-ltb no_hydrogens _ g.hydrogens, le-ltb no_charge _ g.charge, le-ltb no_number _ g.map)
