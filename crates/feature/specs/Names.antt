-- The names that a bracket atom can have: the star, the 118 elements, and the aromatic as b c n o p s se. They are in
-- the order of a dictionary; a symbol is the place of its name.
use Rattle.std.specs.Prelude.{ℕ, suc, ◌/◌, List, [], ◌∷◌, ◌++◌, Bool, false, eqb, ltb, Option, Some, None}
use Rattle.feature.specs.Pick.{pick, either}
use Rattle.feature.specs.Text.{letter_step, columns, one_letter, two_letters}
use Rattle.feature.specs.declared.element.Named.{Named}
use Rattle.feature.specs.declared.element.Named.TheVariants.{Two, One, Begins, Nothing}

-- how many there are
abbrev pub symbols : ℕ
symbols = 127

unfoldable pub names : List ℕ
names =
    columns "*  Ac Ag Al Am Ar As At Au B  Ba Be Bh Bi Bk Br "
    ++ (columns "C  Ca Cd Ce Cf Cl Cm Cn Co Cr Cs Cu Db Ds Dy Er Es Eu F  Fe Fl Fm Fr Ga Gd Ge "
    ++ (columns "H  He Hf Hg Ho Hs I  In Ir K  Kr La Li Lr Lu Lv Mc Md Mg Mn Mo Mt "
    ++ (columns "N  Na Nb Nd Ne Nh Ni No Np O  Og Os P  Pa Pb Pd Pm Po Pr Pt Pu "
    ++ (columns "Ra Rb Re Rf Rg Rh Rn Ru S  Sb Sc Se Sg Si Sm Sn Sr Ta Tb Tc Te Th Ti Tl Tm Ts "
    ++ (columns "U  V  W  Xe Y  Yb Zn Zr as b  c  n  o  p  s  se ")))))

-- symbols that rules name
abbrev pub sym_ac : ℕ
sym_ac = 1

abbrev pub sym_as : ℕ
sym_as = 6

abbrev pub sym_b : ℕ
sym_b = 9

abbrev pub sym_c : ℕ
sym_c = 16

abbrev pub sym_cs : ℕ
sym_cs = 26

abbrev pub sym_n : ℕ
sym_n = 64

abbrev pub sym_o : ℕ
sym_o = 73

abbrev pub sym_p : ℕ
sym_p = 76

abbrev pub sym_s : ℕ
sym_s = 93

abbrev pub sym_se : ℕ
sym_se = 96

-- the aromatic ones, as b c n o p s se, are the last eight
abbrev pub first_aromatic : ℕ
first_aromatic = 119

-- the elements that they are
unfoldable pub aromatic_elements : List ℕ
aromatic_elements = sym_as ∷ sym_b ∷ sym_c ∷ sym_n ∷ sym_o ∷ sym_p ∷ sym_s ∷ sym_se ∷ []

-- the place of a name's number in a list, or the list's length where it isn't there
unfoldable pub place_of : ℕ → List ℕ → ℕ
place_of k [] = 0
place_of k (x ∷ xs) = pick (eqb x k) 0 (suc (place_of k xs))

-- the symbol at a place of the table, and none past its end
unfoldable pub symbol_at : ℕ → Option ℕ
symbol_at p = pick (ltb p symbols) (Some p) None

-- whether some name of a list begins with a byte
unfoldable pub begins : ℕ → List ℕ → Bool
begins a [] = false
begins a (x ∷ xs) = either (eqb (x / letter_step) a) (begins a xs)

-- what the names say of the byte b before the byte d: that both are a name, else that b is one, else whether some name
-- begins with b
unfoldable pub named_of : ℕ → ℕ → Named
named_of b d =
    pick (ltb (place_of (two_letters b d) names) symbols) (Two (place_of (two_letters b d) names))
    (pick (ltb (place_of (one_letter b) names) symbols) (One (place_of (one_letter b) names))
    (pick (begins b names) Begins Nothing))
