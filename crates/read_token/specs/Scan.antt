-- What is at a place of a line: the readers of an atom, a bond and a ring number. From read.rs's grammar as the scope
-- states it, bytes counted from 0: isotope (at most three digits), symbol, configuration, "H" with at most one digit, charge
-- (a sign alone, doubled, or with 1 to 9 or 11 to 15), ":" and one to three digits; a missing thing is a character at its
-- place, or the end of the line if no byte is left.
use Rattle.std.specs.Prelude.{ℕ, ◌+◌, ◌-◌, ◌*◌, ◌≤◌, ◌<◌, ◌≡◌, List, length, get_or, ltb, eqb, Option, Some, None, Result, Ok, Err, unwrap_or, IfSome}
use Rattle.feature.specs.Pick.{pick}
use Rattle.feature.specs.Text.{byte, one_letter, two_letters}
use Rattle.feature.specs.Names.{symbols, names, place_of, begins}
use Rattle.feature.specs.Kinds.{aliphatic_count, aromatic_count, no_number, no_hydrogens, neutral_charge, no_charge, no_configuration, th1, th2, al, sp, tb, oh, bracket_of_six}
use Rattle.feature.specs.declared.atom_kind.AtomKind.{AtomKind}
use Rattle.feature.specs.declared.atom_kind.AtomKind.TheVariants.{Star, Aliphatic, Aromatic, Bracket}
use Rattle.feature.specs.declared.atom_kind.BracketAtom.{BracketAtom}
use Rattle.feature.specs.declared.bond_kind.BondKind.{BondKind}
use Rattle.feature.specs.declared.bond_kind.BondKind.TheVariants as kind
use Rattle.read_token.specs.declared.scanner.Part.{Part}
use Rattle.read_token.specs.declared.scanner.Missing.{Missing}
use Rattle.read_token.specs.declared.scanner.Missing.TheVariants.{EndOfLine, Character}

-- what is read past the end: no byte
abbrev pub no_byte : ℕ
no_byte = 256

unfoldable pub peek_at : List ℕ → ℕ → ℕ
peek_at s at = get_or s at no_byte

-- what is worth no digit
abbrev pub no_digit : ℕ
no_digit = 10

-- what a digit is worth, or 10 where the byte is none
unfoldable pub digit_of : ℕ → ℕ
digit_of b = pick (ltb b (byte "0")) no_digit (pick (ltb (byte "9") b) no_digit (b - byte "0"))

unfoldable pub digit_at : List ℕ → ℕ → ℕ
digit_at s at = digit_of (peek_at s at)

-- what a reader found with the place after it, or the place at which something is missing
abbrev pub Step : Type 0
Step = Result (ℕ × ℕ) ℕ

-- an atom and the place after it, no atom, or what is missing of one
abbrev pub Found : Type 0
Found = Result (Option (AtomKind × ℕ)) Missing

-- a ring number and the place after it, no ring number, or what is missing of one
abbrev pub Ring : Type 0
Ring = Result (Option (ℕ × ℕ)) Missing

abbrev pub part : ℕ → ℕ → Part ℕ
part v n = record { value = v; next = n }

-- also promised of a byte that was read: that its place is within the line, so that a sum with the place can't wrap
pub record Peeked (s : List ℕ) (at : ℕ) (r : Option ℕ) : Type 0 where
  pub is : unwrap_or r no_byte ≡ peek_at s at
  pub room : IfSome r (λ b. at < length s)

pub record DigitRead (s : List ℕ) (at : ℕ) (r : Option ℕ) : Type 0 where
  pub is : unwrap_or r no_digit ≡ digit_at s at
  pub small : IfSome r (λ d. d < no_digit)
  pub room : IfSome r (λ d. at < length s)

-- a part that is what it should be, with a bound on its value
pub record Sized (p q : Part ℕ) (n : ℕ) : Type 0 where
  pub is : p ≡ q
  pub small : p.value ≤ n

-- a digit more, if there is one
unfoldable pub digit_step : List ℕ → Part ℕ → Part ℕ
digit_step s p =
    pick (ltb (digit_at s p.next) 10) (part (p.value * 10 + digit_at s p.next) (p.next + 1))
    p

-- at most three digits
unfoldable pub number_at : List ℕ → ℕ → Part ℕ
number_at s at = digit_step s (digit_step s (digit_step s (part 0 at)))

-- what is missing is a character, or the end of the line where no byte is left
unfoldable pub missing_at : List ℕ → ℕ → Missing
missing_at s at = pick (ltb at (length s)) (Character at) EndOfLine

-- ---- isotope
unfoldable pub isotope_at : List ℕ → ℕ → Part ℕ
isotope_at s at =
    pick (eqb (number_at s at).next at) (part no_number at)
    (number_at s at)

-- ---- symbol: a name of two letters, else of one; else it is missing, after the first byte where some name begins with it
-- F for G, a slip of the Rust
unfoldable pub slip : ℕ → ℕ
slip b = pick (eqb b (byte "G")) (byte "F") b

unfoldable pub symbol_of : ℕ → ℕ → ℕ → Step
symbol_of b d at =
    pick (eqb b no_byte) (Err at)
    (pick (ltb (place_of (two_letters b d) names) symbols) (Ok (place_of (two_letters b d) names, at + 2))
    (pick (ltb (place_of (one_letter (slip b)) names) symbols) (Ok (place_of (one_letter (slip b)) names, at + 1))
    (pick (begins b names) (Err (at + 1))
    (Err at))))

unfoldable pub symbol_at : List ℕ → ℕ → Step
symbol_at s at = symbol_of (peek_at s at) (peek_at s (at + 1)) at

-- ---- configuration
-- one digit from 1 to top
unfoldable pub short_at : List ℕ → ℕ → ℕ → ℕ → Step
short_at s at base top =
    pick (eqb (digit_at s at) 0) (Err at)
    (pick (ltb top (digit_at s at)) (Err at)
    (Ok (base + digit_at s at, at + 1)))

-- after "@TB" and "@OH" a byte is taken before it is judged, unless it isn't ASCII or the line has ended
unfoldable pub late_at : List ℕ → ℕ → ℕ
late_at s at = pick (ltb (peek_at s at) 128) (at + 1) at

-- one digit or two, from 1 to top
unfoldable pub long_at : List ℕ → ℕ → ℕ → ℕ → Step
long_at s at base top =
    pick (eqb (digit_at s at) 0) (Err (late_at s at))
    (pick (eqb (digit_at s at) 10) (Err (late_at s at))
    (pick (eqb (digit_at s (at + 1)) 10) (Ok (base + digit_at s at, at + 1))
    (pick (ltb top (digit_at s at * 10 + digit_at s (at + 1))) (Ok (base + digit_at s at, at + 1))
    (Ok (base + (digit_at s at * 10 + digit_at s (at + 1)), at + 2)))))

unfoldable pub allene_at : List ℕ → ℕ → Step
allene_at s at = pick (eqb (peek_at s at) (byte "L")) (short_at s (at + 1) al 2) (Err at)

unfoldable pub octahedral_at : List ℕ → ℕ → Step
octahedral_at s at = pick (eqb (peek_at s at) (byte "H")) (long_at s (at + 1) oh 30) (Err at)

unfoldable pub square_at : List ℕ → ℕ → Step
square_at s at = pick (eqb (peek_at s at) (byte "P")) (short_at s (at + 1) sp 3) (Err at)

unfoldable pub trigonal_at : List ℕ → ℕ → Step
trigonal_at s at =
    pick (eqb (peek_at s at) (byte "B")) (long_at s (at + 1) tb 20)
    (pick (eqb (peek_at s at) (byte "H")) (short_at s (at + 1) no_configuration 2)
    (Err at))

unfoldable pub configuration_at : List ℕ → ℕ → Step
configuration_at s at =
    pick (eqb (peek_at s at) (byte "@"))
    (pick (eqb (peek_at s (at + 1)) (byte "@")) (Ok (th2, at + 2))
    (pick (eqb (peek_at s (at + 1)) (byte "A")) (allene_at s (at + 2))
    (pick (eqb (peek_at s (at + 1)) (byte "O")) (octahedral_at s (at + 2))
    (pick (eqb (peek_at s (at + 1)) (byte "S")) (square_at s (at + 2))
    (pick (eqb (peek_at s (at + 1)) (byte "T")) (trigonal_at s (at + 2))
    (Ok (th1, at + 1)))))))
    (Ok (no_configuration, at))

-- ---- hydrogens
unfoldable pub hydrogens_at : List ℕ → ℕ → Part ℕ
hydrogens_at s at =
    pick (eqb (peek_at s at) (byte "H"))
    (pick (ltb (digit_at s (at + 1)) 10) (part (digit_at s (at + 1)) (at + 2))
    (part 1 (at + 1)))
    (part no_hydrogens at)

-- ---- charge
-- 11 to 15, or 1 to 9; 0 where neither is there
unfoldable pub fifteen_at : List ℕ → ℕ → Part ℕ
fifteen_at s at =
    pick (eqb (digit_at s at) 0) (part 0 at)
    (pick (eqb (digit_at s at) 10) (part 0 at)
    (pick (ltb 1 (digit_at s at)) (part (digit_at s at) (at + 1))
    (pick (eqb (digit_at s (at + 1)) 0) (part 1 (at + 1))
    (pick (ltb 5 (digit_at s (at + 1))) (part 1 (at + 1))
    (part (10 + digit_at s (at + 1)) (at + 2))))))

-- what follows a sign: a number, the sign again, or nothing
unfoldable pub signed_at : List ℕ → ℕ → ℕ → Part ℕ
signed_at s sign at =
    pick (ltb 0 (fifteen_at s at).value) (fifteen_at s at)
    (pick (eqb (peek_at s at) sign) (part 2 (at + 1))
    (part 1 at))

unfoldable pub charge_at : List ℕ → ℕ → Part ℕ
charge_at s at =
    pick (eqb (peek_at s at) (byte "+"))
    (part (neutral_charge + (signed_at s (byte "+") (at + 1)).value) (signed_at s (byte "+") (at + 1)).next)
    (pick (eqb (peek_at s at) (byte "-"))
    (part (neutral_charge - (signed_at s (byte "-") (at + 1)).value) (signed_at s (byte "-") (at + 1)).next)
    (part no_charge at))

-- ---- map: a colon wants a digit
unfoldable pub map_at : List ℕ → ℕ → Step
map_at s at =
    pick (eqb (peek_at s at) (byte ":"))
    (pick (eqb (number_at s (at + 1)).next (at + 1)) (Err (at + 1))
    (Ok ((number_at s (at + 1)).value, (number_at s (at + 1)).next)))
    (Ok (no_number, at))

-- ---- bracket atom
unfoldable pub close_at : List ℕ → BracketAtom → ℕ → Found
close_at s b at = pick (eqb (peek_at s at) (byte "]")) (Ok (Some (Bracket b, at + 1))) (Err (missing_at s at))

unfoldable pub after_map : List ℕ → ℕ → ℕ → ℕ → ℕ → ℕ → Step → Found
after_map s i y c h q (Ok (m, n)) = close_at s (bracket_of_six i y c h q m) n
after_map s i y c h q (Err p) = Err (missing_at s p)

unfoldable pub after_charge : List ℕ → ℕ → ℕ → ℕ → ℕ → Part ℕ → Found
after_charge s i y c h q = after_map s i y c h q.value (map_at s q.next)

unfoldable pub after_hydrogens : List ℕ → ℕ → ℕ → ℕ → Part ℕ → Found
after_hydrogens s i y c h = after_charge s i y c h.value (charge_at s h.next)

unfoldable pub after_configuration : List ℕ → ℕ → ℕ → ℕ → ℕ → Found
after_configuration s i y c at = after_hydrogens s i y c (hydrogens_at s at)

unfoldable pub configured : List ℕ → ℕ → ℕ → Step → Found
configured s i y (Ok (c, n)) = after_configuration s i y c n
configured s i y (Err p) = Err (missing_at s p)

unfoldable pub after_symbol : List ℕ → ℕ → Step → Found
after_symbol s i (Ok (y, n)) = configured s i y (configuration_at s n)
after_symbol s i (Err p) = Err (missing_at s p)

unfoldable pub after_isotope : List ℕ → Part ℕ → Found
after_isotope s i = after_symbol s i.value (symbol_at s i.next)

-- from the place after "[" on
unfoldable pub inside_at : List ℕ → ℕ → Found
inside_at s at = after_isotope s (isotope_at s at)

unfoldable pub bracket_at : List ℕ → ℕ → Found
bracket_at s at = pick (eqb (peek_at s at) (byte "[")) (inside_at s (at + 1)) (Ok None)

-- ---- organic atom: B C N O S P F Cl Br I At Ts are 0 to 11, aromatic b c n o p s 0 to 5
unfoldable pub aromatic_of : ℕ → ℕ
aromatic_of b =
    pick (eqb b (byte "b")) 0
    (pick (eqb b (byte "c")) 1
    (pick (eqb b (byte "n")) 2
    (pick (eqb b (byte "o")) 3
    (pick (eqb b (byte "p")) 4
    (pick (eqb b (byte "s")) 5
    aromatic_count)))))

-- those whose letter says it all
unfoldable pub aliphatic_of : ℕ → ℕ
aliphatic_of b =
    pick (eqb b (byte "N")) 2
    (pick (eqb b (byte "O")) 3
    (pick (eqb b (byte "S")) 4
    (pick (eqb b (byte "P")) 5
    (pick (eqb b (byte "F")) 6
    (pick (eqb b (byte "I")) 9
    aliphatic_count)))))

-- a second letter that has to be there, and one that may
unfoldable pub wanted_at : List ℕ → ℕ → ℕ → ℕ → Found
wanted_at s at x two = pick (eqb (peek_at s at) x) (Ok (Some (Aliphatic two, at + 1))) (Err (missing_at s at))

unfoldable pub optional_at : List ℕ → ℕ → ℕ → ℕ → ℕ → Found
optional_at s at x two one = pick (eqb (peek_at s at) x) (Ok (Some (Aliphatic two, at + 1))) (Ok (Some (Aliphatic one, at)))

unfoldable pub organic_at : List ℕ → ℕ → Found
organic_at s at =
    pick (eqb (peek_at s at) no_byte) (Ok None)
    (pick (eqb (peek_at s at) (byte "C")) (optional_at s (at + 1) (byte "l") 7 1)
    (pick (ltb (aromatic_of (peek_at s at)) aromatic_count) (Ok (Some (Aromatic (aromatic_of (peek_at s at)), at + 1)))
    (pick (ltb (aliphatic_of (peek_at s at)) aliphatic_count) (Ok (Some (Aliphatic (aliphatic_of (peek_at s at)), at + 1)))
    (pick (eqb (peek_at s at) (byte "B")) (optional_at s (at + 1) (byte "r") 8 0)
    (pick (eqb (peek_at s at) (byte "A")) (wanted_at s (at + 1) (byte "t") 10)
    (pick (eqb (peek_at s at) (byte "T")) (wanted_at s (at + 1) (byte "s") 11)
    (Ok None)))))))

-- ---- atom: organic, else bracket, else star
unfoldable pub star_at : List ℕ → ℕ → Found
star_at s at = pick (eqb (peek_at s at) (byte "*")) (Ok (Some (Star, at + 1))) (Ok None)

-- the first of two, and the second where the first found nothing
unfoldable pub or_else : Found → Found → Found
or_else (Ok (Some (k, n))) f = Ok (Some (k, n))
or_else (Ok None) f = f
or_else (Err m) f = Err m

unfoldable pub other_at : List ℕ → ℕ → Found
other_at s at = or_else (bracket_at s at) (star_at s at)

unfoldable pub atom_at : List ℕ → ℕ → Found
atom_at s at = or_else (organic_at s at) (other_at s at)

-- ---- bond
unfoldable pub sign_kind : ℕ → BondKind
sign_kind b =
    pick (eqb b (byte "-")) kind.Single
    (pick (eqb b (byte "=")) kind.Double
    (pick (eqb b (byte "#")) kind.Triple
    (pick (eqb b (byte "$")) kind.Quadruple
    (pick (eqb b (byte ":")) kind.Aromatic
    (pick (eqb b (byte "/")) kind.Up
    (pick (eqb b (byte "\\")) kind.Down
    kind.Elided))))))

-- how many bytes a bond's mark has
unfoldable pub mark_width : BondKind → ℕ
mark_width kind.Elided = 0
mark_width kind.Single = 1
mark_width kind.Double = 1
mark_width kind.Triple = 1
mark_width kind.Quadruple = 1
mark_width kind.Aromatic = 1
mark_width kind.Up = 1
mark_width kind.Down = 1

unfoldable pub bond_at : List ℕ → ℕ → Part BondKind
bond_at s at = record { value = sign_kind (peek_at s at); next = at + mark_width (sign_kind (peek_at s at)) }

-- ---- ring number: a digit, or "%" and two
unfoldable pub percent_at : List ℕ → ℕ → Ring
percent_at s at =
    pick (eqb (digit_at s at) 10) (Err (missing_at s at))
    (pick (eqb (digit_at s (at + 1)) 10) (Err (missing_at s (at + 1)))
    (Ok (Some (digit_at s at * 10 + digit_at s (at + 1), at + 2))))

unfoldable pub rnum_at : List ℕ → ℕ → Ring
rnum_at s at =
    pick (ltb (digit_at s at) 10) (Ok (Some (digit_at s at, at + 1)))
    (pick (eqb (peek_at s at) (byte "%")) (percent_at s (at + 1))
    (Ok None))
