-- Valence targets, as purr's atom_kind.rs, aliphatic.rs and aromatic.rs have them. A charged atom bonds like the
-- uncharged one that has as many electrons; carbon with a written charge of 0 answers as with a charge of 1, a slip.
use Rattle.std.specs.Prelude.{ℕ, ◌+◌, ◌-◌, get_or, ltb, eqb}
use Rattle.feature.specs.Pick.{pick}
use Rattle.feature.specs.Names.{symbols, first_aromatic, aromatic_elements, sym_as, sym_b, sym_c, sym_n, sym_o, sym_p, sym_s, sym_se}
use Rattle.feature.specs.Kinds.{neutral_charge, no_charge, aliphatic_count}
use Rattle.feature.specs.declared.atom_kind.AtomKind.{AtomKind}
use Rattle.feature.specs.declared.atom_kind.AtomKind.TheVariants.{Star, Aliphatic, Aromatic, Bracket}
use Rattle.targets.specs.declared.Valences.{Valences}
use Rattle.targets.specs.declared.Valences.TheVariants.{None, One, Two, Three}

-- what uncharged atoms have: phosphorus as nitrogen
abbrev borons : Valences
borons = One 3

abbrev carbons : Valences
carbons = One 4

abbrev nitrogens : Valences
nitrogens = Two 3 5

abbrev oxygens : Valences
oxygens = One 2

abbrev sulfurs : Valences
sulfurs = Three 2 4 6

abbrev halogens : Valences
halogens = One 1

-- by the charge as it is held
unfoldable pub boron : ℕ → Valences
boron q =
    pick (eqb q (neutral_charge - 3)) oxygens
    (pick (eqb q (neutral_charge - 2)) nitrogens
    (pick (eqb q (neutral_charge - 1)) carbons
    (pick (eqb q neutral_charge) borons
    (pick (eqb q no_charge) borons
    None))))

unfoldable pub carbon : ℕ → Valences
carbon q =
    pick (eqb q (neutral_charge - 2)) oxygens
    (pick (eqb q (neutral_charge - 1)) nitrogens
    (pick (eqb q neutral_charge) borons
    (pick (eqb q (neutral_charge + 1)) borons
    (pick (eqb q no_charge) carbons
    None))))

unfoldable pub nitrogen : ℕ → Valences
nitrogen q =
    pick (eqb q neutral_charge) nitrogens
    (pick (eqb q no_charge) nitrogens
    (pick (eqb q (neutral_charge + 1)) carbons
    None))

unfoldable pub oxygen : ℕ → Valences
oxygen q =
    pick (eqb q neutral_charge) oxygens
    (pick (eqb q no_charge) oxygens
    (pick (eqb q (neutral_charge + 1)) nitrogens
    None))

unfoldable pub phosphorus : ℕ → Valences
phosphorus q =
    pick (eqb q (neutral_charge - 1)) sulfurs
    (pick (eqb q neutral_charge) nitrogens
    (pick (eqb q no_charge) nitrogens
    None))

unfoldable pub sulfur : ℕ → Valences
sulfur q =
    pick (eqb q neutral_charge) sulfurs
    (pick (eqb q no_charge) sulfurs
    (pick (eqb q (neutral_charge + 1)) nitrogens
    None))

-- a symbol's element; 0, the star, where the number is no symbol
unfoldable pub element_of : ℕ → ℕ
element_of y = pick (ltb y first_aromatic) y (pick (ltb y symbols) (get_or aromatic_elements (y - first_aromatic) 0) 0)

unfoldable pub element_targets : ℕ → ℕ → Valences
element_targets y q =
    pick (eqb y sym_b) (boron q)
    (pick (eqb y sym_c) (carbon q)
    (pick (eqb y sym_n) (nitrogen q)
    (pick (eqb y sym_o) (oxygen q)
    (pick (eqb y sym_p) (phosphorus q)
    (pick (eqb y sym_as) (phosphorus q)
    (pick (eqb y sym_s) (sulfur q)
    (pick (eqb y sym_se) (sulfur q)
    None)))))))

-- B C N O S P, then F Cl Br I At Ts
unfoldable pub aliphatic_targets : ℕ → Valences
aliphatic_targets n =
    pick (eqb n 0) borons
    (pick (eqb n 1) carbons
    (pick (eqb n 2) nitrogens
    (pick (eqb n 3) oxygens
    (pick (eqb n 4) sulfurs
    (pick (eqb n 5) nitrogens
    (pick (ltb n aliphatic_count) halogens
    None))))))

-- b c n o p s
unfoldable pub aromatic_targets : ℕ → Valences
aromatic_targets n =
    pick (eqb n 0) borons
    (pick (eqb n 1) carbons
    (pick (eqb n 2) nitrogens
    (pick (eqb n 3) oxygens
    (pick (eqb n 4) nitrogens
    (pick (eqb n 5) sulfurs
    None)))))

unfoldable pub targets_of : AtomKind → Valences
targets_of Star = None
targets_of (Aliphatic n) = aliphatic_targets n
targets_of (Aromatic n) = aromatic_targets n
targets_of (Bracket b) = element_targets (element_of b.symbol) b.charge
